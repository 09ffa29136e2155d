use Rattle.st_rows.proofs.Common.{◌≡◌, ℕ, ◌+◌, ◌<◌, ◌≤◌, List, [], ◌∷◌, ◌++◌, length, take, set, sym, ap, ◌∙◌, length-append, arith, length-take-le, take_all, take-append-le, take_more_set, Use}
use Rattle.arrayvec.specs.ArrayVec.{ArrayVec}
use Rattle.st_rows.specs.KeptUses.{uses_with}
use Rattle.st_rows.proofs.uses.Uses.push.Goals as goal

abbrev listed : List Use → ArrayVec Use
listed us = record { items = us }

-- an append with room left
put-more : (words : List Use) (n : ℕ) (u : Use) → length words ≡ 48 → n < 48 → take (n + 1) (set words n u) ≡ take 48 (take n words ++ u ∷ [])
put-more words n u whole less =
    let counted = length-take-le n words (omega (arith, whole, less)) in
    take_more_set words n u (omega (arith, whole, less))
    ∙ sym (take_all 48 (take n words ++ u ∷ []) (omega (arith, length-append (take n words) (u ∷ []), counted, less)))

-- an append without room
put-none : (words : List Use) (n : ℕ) (u : Use) → length words ≡ 48 → 48 ≤ n → n ≤ 48 → take n words ≡ take 48 (take n words ++ u ∷ [])
put-none words n u whole full most =
    let counted = length-take-le n words (omega (arith, whole, most)) in
    sym (take-append-le 48 (take n words) (u ∷ []) (omega (arith, counted, full)) ∙ take_all 48 (take n words) (omega (arith, counted, most)))

pub returns-then-self-lt-ROOM : goal.returns-then-self-lt-ROOM
unfolding uses_with
returns-then-self-lt-ROOM c =
    ap listed (put-more c.self.inside.words c.self.inside.len c.args.word (omega arith) (omega arith)
    ∙ ap (λ (kept : ArrayVec Use). take 48 (kept.items ++ c.args.word ∷ [])) c.self.view_is)

pub returns-else-self-lt-ROOM : goal.returns-else-self-lt-ROOM
unfolding uses_with
returns-else-self-lt-ROOM c =
    ap listed (sym (ap (λ (kept : ArrayVec Use). kept.items) c.self.view_is)
    ∙ put-none c.self.inside.words c.self.inside.len c.args.word (omega arith) (omega arith) c.self.invariant
    ∙ ap (λ (kept : ArrayVec Use). take 48 (kept.items ++ c.args.word ∷ [])) c.self.view_is)
