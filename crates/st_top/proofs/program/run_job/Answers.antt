use Rattle.st_top.proofs.Common.{◌≡◌, sym, subst, Result, Ok, Refusal, Assembly, assembly, assembly_parts, made_lines, ran_by, Ends}
use Rattle.st_top.proofs.program.run_job.Goals as goal

pub returns : goal.returns
returns g c =
    let job = c.args.job.now in
    let answer = c.execute.result in
    let same : assembly job ≡ Ok (assembly_parts c.in_ok-program.program) = c.in_ok-program.ensures.ok in
    subst (λ (r : Result Assembly Refusal). Ends (g.K.Sink.output c.args.out.now) (g.K.Sink.output c.execute.new.out) (ran_by (made_lines c.args.made) job r) (Ok answer))
    (sym same) (c.execute.ensures.writes, c.execute.ensures.in_time)
