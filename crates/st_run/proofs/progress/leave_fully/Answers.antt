use Rattle.st_run.proofs.Common.{ℕ, List, [], sym, ◌∙◌, ap, subst, if◌then◌else◌, rest_of, IsRun}
use Rattle.st_run.proofs.LeftLemmas.{waits_by, left-told, left-keeps}
use Rattle.st_run.proofs.progress.leave_fully.Goals as goal

pub returns-clause-kept : goal.returns-clause-kept
returns-clause-kept g c =
    let run = c.args.run.now in
    let decided = c.leave-decided.ensures in
    let drops = c.clear_unless.ensures ∙ ap {A = List (ℕ × ℕ)} (λ xs. if c.leave-decided.result.ends then xs else []) c.levels_ahead-drops.ensures in
    subst {A = ℕ} (λ k. IsRun c.leave-decided.result.turn k c.args.tick run.snaps.now (waits_by c.clear_unless.new.drops.items c.leave-decided.result) c.leave-decided.new.driven) (sym c.saturating_sub-run.ensures)
    (left-keeps run.left c.args.tick run.snaps.now run.driven c.leave-decided.new.driven c.leave-decided.result c.clear_unless.new.drops.items
    c.requires.left decided.decided decided.delays decided.levels drops)

pub returns-clause-told : goal.returns-clause-told
returns-clause-told g c =
    let run = c.args.run.now in
    let decided = c.leave-decided.ensures in
    let drops = c.clear_unless.ensures ∙ ap {A = List (ℕ × ℕ)} (λ xs. if c.leave-decided.result.ends then xs else []) c.levels_ahead-drops.ensures in
    left-told run.left c.args.tick run.snaps.now run.driven c.leave-decided.new.driven c.leave-decided.result c.clear_unless.new.drops.items
    c.requires.left decided.decided decided.delays decided.levels drops
    ∙ ap {A = ℕ} (λ k. rest_of c.leave-decided.result.turn k c.args.tick run.snaps.now (waits_by c.clear_unless.new.drops.items c.leave-decided.result) c.leave-decided.new.driven) (sym c.saturating_sub-run.ensures)
