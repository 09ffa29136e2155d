use Rattle.st_top.proofs.Common.{◌≡◌, sym, subst, Result, Ok, Refusal, Assembly, assembly, assembly_parts, swept_by, Ends}
use Rattle.st_top.proofs.program.sweep_job.Goals as goal

pub returns : goal.returns
returns g c =
    let job = c.args.job.now in
    let answer = c.execute_sweep.result in
    let same : assembly job ≡ Ok (assembly_parts c.in_ok-program.program) = c.in_ok-program.ensures.ok in
    subst (λ (r : Result Assembly Refusal). Ends (g.K.Sink.output c.args.out.now) (g.K.Sink.output c.execute_sweep.new.out) (swept_by r) (Ok answer))
    (sym same) (c.execute_sweep.ensures.writes, c.execute_sweep.ensures.in_time)
