-- Printed text.
use Rattle.st_exch.proofs.Common.{◌≡◌, ◌-◌, ◌==◌, ◌&&◌, ℕ, zero, suc, Bool, true, false, List, [], ◌∷◌, length, take, map, refl, ◌∙◌, nat_le, if◌then◌else◌, flat_map, suffix_len, is_printable, bytes_of, character, characters_of, line_of_words}
use Rattle.std.proofs.lemmas.Bool.{and_from as all-both}
use Rattle.std.proofs.lemmas.List.Folds.{list_all-append}

-- each character is printable
character-printable : (b : ℕ) → (nat_le 32 (character b) && nat_le (character b) 126) ≡ true
character-printable b =
    let P : Bool → Type 0 = λ v. (nat_le 32 b && nat_le b 126) ≡ v →
    (let c = if v then b else 32 in nat_le 32 c && nat_le c 126) ≡ true in
    (elim (nat_le 32 b && nat_le b 126) as P [ true ↦ λ is. is | false ↦ λ is. refl ]) refl

map-printable : (bytes : List ℕ) → is_printable (map character bytes) ≡ true
map-printable [] = refl
map-printable (b ∷ bs) = all-both _ _ (character-printable b) (map-printable bs)

flat-printable : (words : List ℕ) → is_printable (flat_map characters_of words) ≡ true
unfolding characters_of
flat-printable [] = refl
flat-printable (x ∷ xs) =
    list_all-append (λ c. nat_le 32 c && nat_le c 126) (characters_of x) (flat_map characters_of xs)
    ∙ all-both _ _ (map-printable (bytes_of x)) (flat-printable xs)

take-printable : (n : ℕ) (text : List ℕ) → is_printable text ≡ true → is_printable (take n text) ≡ true
take-printable zero text all = refl
take-printable (suc n) [] all = refl
take-printable (suc n) (c ∷ cs) all =
    let test = nat_le 32 c && nat_le c 126 in
    let P : Bool → Type 0 = λ v. (v && is_printable cs) ≡ true → (v && is_printable (take n cs)) ≡ true in
    (elim test as P [ true ↦ λ rest. take-printable n cs rest | false ↦ λ no. no ]) all

-- the printed text is printable
pub printed-printable : (words : List ℕ) → is_printable (line_of_words words) ≡ true
unfolding line_of_words
printed-printable words =
    let text = flat_map characters_of words in
    take-printable (length text - suffix_len (λ c. c == 32) text) text (flat-printable words)
