-- An entry of a state whose words are all read from this state.
use Rattle.st_prep.proofs.Common.{◌≡◌, ℕ, false, List, Option, refl, ◌∙◌, ap, Machine, word, Variable, Connective, Transmission, BitTest, IndicatorTest, Order, CounterStore, full_word_instruction, Place, Fetched, Prepared, index_words, place_of, words_fetched, DecodeContext, decode_context, decode_context_of, needs, plan, entry_by, outcome, is_execute, reading_at_place}
use Rattle.st_format.specs.declared.operations.FullOp.{FullOp}

-- the decode context of the state
seen : (s : Machine) (t : Option ℕ) (place : Place) (x : List ℕ) (f : Fetched) → place ≡ place_of s t → x ≡ index_words s
    → f ≡ outcome (reading_at_place x (word s 3) s.enabled place) (word s) → decode_context_of place f x s ≡ decode_context s (place_of s t)
unfolding decode_context words_fetched place_of
seen s t place x f hp hx hf =
    ap (λ (g : Fetched). decode_context_of place g x s) hf
    ∙ ap (λ (y : List ℕ). decode_context_of place (outcome (reading_at_place y (word s 3) s.enabled place) (word s)) y s) hx
    ∙ ap (λ (p : Place). decode_context_of p (outcome (reading_at_place (index_words s) (word s 3) s.enabled p) (word s)) (index_words s) s) hp

-- the entry filled in at the place of the next entry is its plan
pub filled-plan : (s : Machine) (t : Option ℕ) (q : Prepared) (place : Place) (x : List ℕ) (f : Fetched) → place ≡ place_of s t
    → x ≡ index_words s → f ≡ outcome (reading_at_place x (word s 3) s.enabled place) (word s) → q ≡ entry_by s place f x → q ≡ plan s t
unfolding plan decode_context words_fetched place_of
filled-plan s t q place x f hp hx hf h =
    h
    ∙ ap (λ (g : Fetched). entry_by s place g x) hf
    ∙ ap (λ y. entry_by s place (outcome (reading_at_place y (word s 3) s.enabled place) (word s)) y) hx
    ∙ ap (λ (p : Place). entry_by s p (outcome (reading_at_place (index_words s) (word s 3) s.enabled p) (word s)) (index_words s)) hp

-- its index-side word is that of the next entry
pub filled-side : (s : Machine) (t side : Option ℕ) (place : Place) (x : List ℕ) (f : Fetched) → place ≡ place_of s t
    → x ≡ index_words s → f ≡ outcome (reading_at_place x (word s 3) s.enabled place) (word s)
    → side ≡ (needs (decode_context_of place f x s)).index_read → side ≡ (needs (decode_context s (place_of s t))).index_read
filled-side s t side place x f hp hx hf h = h ∙ ap (λ (v : DecodeContext). (needs v).index_read) (seen s t place x f hp hx hf)

-- no full word is EX
pub whole-plain : (op : FullOp) (first second : ℕ) → is_execute (full_word_instruction op first second) ≡ false
unfolding full_word_instruction is_execute
whole-plain (Variable op) first second = refl
whole-plain (Connective kind) first second = refl
whole-plain (Transmission swap) first second = refl
whole-plain BitTest first second = refl
whole-plain IndicatorTest first second = refl
whole-plain (Order write) first second = refl
whole-plain CounterStore first second = refl
