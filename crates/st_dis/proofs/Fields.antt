-- Lemmas on the fields of a list of index words, by the last one.
use Rattle.st_dis.proofs.Common.{◌≡◌, ◌<◌, ◌-◌, ◌++◌, ℕ, suc, zero, [], if◌then◌else◌, refl, arith, index_field_text, has_index, listed_fields}

-- a list of no index words has no fields
pub listed_fields-none : (n address : ℕ) → n ≡ 0 → listed_fields n address ≡ []
unfolding listed_fields
listed_fields-none zero address none = refl
listed_fields-none (suc n) address none = let no : ⊥ = omega arith in absurd no

-- the field of the last index word comes after the others
pub listed_fields-last : (n address : ℕ) → 0 < n → listed_fields n address
    ≡ listed_fields (n - 1) address ++ (if has_index address (n - 1) then index_field_text (n - 1) else [])
unfolding listed_fields
listed_fields-last zero address some = let no : ⊥ = omega arith in absurd no
listed_fields-last (suc n) address some = let less : suc n - 1 ≡ n = omega arith in rw less
