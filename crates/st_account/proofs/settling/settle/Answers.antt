use Rattle.st_account.proofs.Common.{◌∙◌, ap, sym, subst, ◌++◌, [], ◌∷◌, length, ArePrinted, scene_at, Transition, interlude}
use Rattle.st_run.proofs.PrintLemmas.{settled-one}
use Rattle.st_account.proofs.RunLemmas.{not-less, interlude-still, waited-still}
use Rattle.st_account.proofs.PrintLemmas.{none-printed, some-printed}
use Rattle.st_account.proofs.settling.settle.Goals as goal

pub returns-in-Some-clause-printed : goal.returns-in-Some-clause-printed
returns-in-Some-clause-printed c =
    let before = scene_at c.args.state.now c.args.pending.now in
    c.push.ensures.items ∙ ap (λ ws. ws ++ c.in-Some.words ∷ []) c.clear.ensures
    ∙ some-printed c.in-Some.words (interlude before).happened
    (subst (λ ws. ArePrinted ws (interlude before).happened) c.in-Some.is (c.between-came.ensures.told (settled-one before)))

pub returns-in_default-clause-printed : goal.returns-in_default-clause-printed
returns-in_default-clause-printed c =
    let before = scene_at c.args.state.now c.args.pending.now in
    c.clear.ensures
    ∙ none-printed (interlude before).happened
    (subst (λ ws. ArePrinted ws (interlude before).happened) c.in_default.is (c.between-came.ensures.told (settled-one before)))

-- ---- no event comes

pub returns-then-still-clause-came : goal.returns-then-still-clause-came
returns-then-still-clause-came c =
    let still = c.requires c.if-still.true in
    ap (λ (r : Transition). r.scene) (sym (interlude-still c.args.state.now still.0 c.args.pending.now.signals still.1 c.args.pending.now.cards))

pub returns-then-still-clause-printed : goal.returns-then-still-clause-printed
returns-then-still-clause-printed c =
    let still = c.requires c.if-still.true in
    c.clear.ensures
    ∙ none-printed _ (ap (λ (r : Transition). r.happened) (interlude-still c.args.state.now still.0 c.args.pending.now.signals still.1 c.args.pending.now.cards))

pub returns-then-still-clause-card : goal.returns-then-still-clause-card
returns-then-still-clause-card c = sym (not-less (length c.args.pending.now.cards))

pub returns-then-still-clause-waited : goal.returns-then-still-clause-waited
returns-then-still-clause-waited c =
    let still = c.requires c.if-still.true in
    waited-still c.args.state.now still.0 c.args.pending.now.signals still.1 c.args.pending.now.cards
