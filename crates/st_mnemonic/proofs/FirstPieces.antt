-- The pieces that are kept of a text are its first seventeen.
use Rattle.st_mnemonic.proofs.Common.{◌≡◌, ◌∙◌, ◌++◌, ℕ, List, [], ◌∷◌, length, take, ap, sym, append_assoc, length-map, map-append, pieces_of, texts}
use Rattle.st_mnemonic.specs.declared.field.FieldText.{FieldText}
use Rattle.std.proofs.Math.Seq.{take-append_seam}

-- the first seventeen of a list are those that were found
pub first_found : (found rest pieces : List (List ℕ)) → found ++ rest ≡ pieces → length found ≡ 17 → found ≡ take 17 pieces
first_found found rest pieces all full =
    sym (ap (λ n. take n (found ++ rest)) (sym full) ∙ take-append_seam found rest) ∙ ap (λ (ps : List (List ℕ)). take 17 ps) all

-- the kept fields are the first seventeen pieces when there is no room for more
pub no_room : (kept new : List FieldText) (f : FieldText) (left after text : List ℕ) → new ≡ kept ++ f ∷ [] →
    texts kept ++ pieces_of 44 left ≡ pieces_of 44 text → pieces_of 44 left ≡ f.text.now ∷ pieces_of 44 after → length new ≡ 17 →
    texts new ≡ take 17 (pieces_of 44 text)
no_room kept new f left after text pushed so_far cut full =
    let both : texts new ≡ texts kept ++ f.text.now ∷ [] =
    ap (λ (fs : List FieldText). texts fs) pushed ∙ map-append (λ (g : FieldText). g.text.now) kept (f ∷ []) in
    let all : texts new ++ pieces_of 44 after ≡ pieces_of 44 text =
    ap (λ (t : List (List ℕ)). t ++ pieces_of 44 after) both
    ∙ (append_assoc (texts kept) (f.text.now ∷ []) (pieces_of 44 after)
    ∙ (ap (λ (ps : List (List ℕ)). texts kept ++ ps) (sym cut) ∙ so_far)) in
    first_found (texts new) (pieces_of 44 after) (pieces_of 44 text) all (length-map new (λ (g : FieldText). g.text.now) ∙ full)
