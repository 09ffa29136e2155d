use Rattle.st_ring.proofs.Common.{List, refl, sym, subst, ap, ◌∙◌, index_words, Level, index_words_after, Kept, LevelsView}
use Rattle.st_ring.proofs.UndoLemmas.{levels-keep}
use Rattle.st_ring.proofs.levels.Levels.undo.Goals as goal

pub returns-clause-words : goal.returns-clause-words
returns-clause-words g c = λ ds n tick t s f last m some h.
    let v = c.args.self.now in
    let same = ap (λ (w : LevelsView). w.ring) c.self.view_is in
    let keep = levels-keep ds n tick t s f last v.ring v.plans (index_words s) m some h.levels h.run_ahead refl in
    c.undo_into.ensures.first_words (index_words s) (subst (λ (r : List Level). Kept (index_words s) r) (sym same) keep.0)
    (ap (λ (w : LevelsView). w.x) c.self.view_is ∙ h.index ∙ sym keep.1
    ∙ ap (λ (r : List Level). index_words_after (index_words s) r) (sym same))
