use Rattle.st_run.proofs.Common.{ℕ, ◌-◌, [], refl, sym, ◌∙◌, ap, subst, rest_of, IsRun, nothing_decided, RunPhase}
use Rattle.st_run.proofs.QuietLemmas.{quiet-rest, quiet-run}
use Rattle.st_run.proofs.LeftLemmas.{left-told, left-keeps}
use Rattle.st_run.specs.declared.run_phase.RunPhase.TheVariants as turns
use Rattle.st_run.proofs.progress.leave_entry.Goals as goal

pub returns-clause-kept : goal.returns-clause-kept
returns-clause-kept g c =
    let run = c.args.run.now in
    let t = c.pass_on.new.driven in
    let passed = c.pass_on.ensures in
    let kept = left-keeps run.left c.args.halt.now.row.c run.snaps.now run.driven t nothing_decided []
    c.requires.left (passed.decided c.if-not-pass_on.false) passed.delays passed.levels refl in
    let same = subst {A = ℕ} (λ k. IsRun turns.Before k c.args.halt.now.row.c run.snaps.now run.queue t) (sym c.saturating_sub-run.ensures)
    (quiet-run turns.Before (run.left - 1) c.args.halt.now.row.c run.snaps.now run.queue t c.requires.waits kept) in
    subst {A = RunPhase} (λ k. IsRun k c.saturating_sub-run.result c.args.halt.now.row.c run.snaps.now run.queue t) (sym c.requires.turn) same

pub returns-clause-told : goal.returns-clause-told
returns-clause-told g c =
    let run = c.args.run.now in
    let t = c.pass_on.new.driven in
    let passed = c.pass_on.ensures in
    left-told run.left c.args.halt.now.row.c run.snaps.now run.driven t nothing_decided []
    c.requires.left (passed.decided c.if-not-pass_on.false) passed.delays passed.levels refl
    ∙ quiet-rest turns.Before (run.left - 1) c.args.halt.now.row.c run.snaps.now run.queue t c.requires.waits
    ∙ ap {A = ℕ} (λ k. rest_of turns.Before k c.args.halt.now.row.c run.snaps.now run.queue t) (sym c.saturating_sub-run.ensures)
    ∙ ap {A = RunPhase} (λ k. rest_of k c.saturating_sub-run.result c.args.halt.now.row.c run.snaps.now run.queue t) (sym c.requires.turn)
