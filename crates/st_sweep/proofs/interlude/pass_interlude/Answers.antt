use Rattle.st_sweep.proofs.Common.{ℕ, List, ◌∙◌, ap, PendingEvents, rules}
use Rattle.st_sweep.proofs.Stages.{settled-scene, settled-quiet}
use Rattle.st_sweep.proofs.interlude.pass_interlude.Goals as goal

pub returns-clause-came : goal.returns-clause-came
returns-clause-came c =
    let pending : List (List ℕ) → PendingEvents = λ cards. record { signals = c.args.signals.now; cards = cards } in
    settled-scene _ _ _ _ _ _ (c.new-pending.ensures ∙ ap pending c.empty.ensures) c.between-came.ensures.scene
    c.between-came.ensures.fewer c.parts.ensures.signals

pub returns-clause-quiet : goal.returns-clause-quiet
returns-clause-quiet c =
    let pending : List (List ℕ) → PendingEvents = λ cards. record { signals = c.args.signals.now; cards = cards } in
    let wanted =
    settled-quiet _ _ _ _ _ _ (c.new-pending.ensures ∙ ap pending c.empty.ensures) c.between-came.ensures.scene
    c.between-came.ensures.fewer c.parts.ensures.signals _ c.between-came.ensures.wait in
    search (rules, wanted)
