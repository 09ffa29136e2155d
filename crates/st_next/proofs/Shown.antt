-- An instruction whose words are all known.
use Rattle.st_next.proofs.Common.{◌≡◌, ℕ, false, List, Option, None, Some, sym, ◌∙◌, ap, decoded_entry, instruction_of, Machine, word, Fetched, Found, Continuation, Finds, left_after, fetching_of, fetched_plain, instruction_at, is_execute, reading_at_place, allowed_found, known-found, Place}
use Rattle.std.specs.Option.{IfSome}

-- if all words of an instruction other than EX are known, it is all that is fetched
pub halves-found : (o : Option (ℕ × ℕ)) (s : Machine) (place : Place) (contents words : List ℕ) → contents ≡ words
    → IfSome o (λ r. (k : Continuation) (f : Fetched) → k (allowed_found r.0 r.1) ≡ Finds f
    → fetching_of (left_after (instruction_at false (word s 3) s.enabled place.address k) contents) ≡ Found f)
    → IfSome o (λ r. (x : List ℕ) → is_execute (instruction_of r.0 r.1) ≡ false
    → fetching_of (left_after (reading_at_place x (word s 3) s.enabled place) words) ≡ Found (fetched_plain (decoded_entry r.0 r.1)))
halves-found None s place contents words same h = h
halves-found (Some r) s place contents words same h = λ x other.
    ap (λ (cs : List ℕ). fetching_of (left_after (reading_at_place x (word s 3) s.enabled place) cs)) (sym same)
    ∙ known-found x (word s 3) s.enabled place contents r.0 r.1 h other
