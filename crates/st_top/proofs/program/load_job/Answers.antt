use Rattle.st_top.proofs.Common.{◌≡◌, ℕ, sym, subst, Result, Ok, Program, read_text, loaded_by, Ends}
use Rattle.st_top.proofs.program.load_job.Goals as goal

pub returns : goal.returns
returns g c =
    let answer = c.execute_loaded.result in
    let same : read_text c.args.text.now ≡ Ok c.in_ok-program.program = c.in_ok-program.ensures.ok in
    subst (λ (r : Result Program ℕ). Ends (g.K.Sink.output c.args.out.now) (g.K.Sink.output c.execute_loaded.new.out) (loaded_by r) (Ok answer))
    (sym same) (c.execute_loaded.ensures.writes, c.execute_loaded.ensures.in_time)
