-- Lemmas on the position of a card's text in its job.
use Rattle.st_card.proofs.Common.{◌≡◌, ◌≤◌, ◌-◌, ◌==◌, ◌||◌, ℕ, Bool, nat_lt, List, [], ◌∷◌, true, false, not, Option, Some, None, if◌then◌else◌, length, take, min, refl, ap, sym, ◌∙◌, arith, take_all, take_min, take-take, nat_tests, IsFront, IsBehind, first_column, columns, is_blank, kind_of, fault_of, card_at, text_in, IsCardOf}
use Rattle.std.proofs.lemmas.Bool.{not-false as not_false}
use Rattle.st_bits.specs.declared.limits.TheConstants.{MOST_CARDS}
use Rattle.st_text.specs.Bytes.{is_printable}
use Rattle.st_card.specs.declared.faults.Fault.{Fault}
use Rattle.st_card.specs.declared.faults.Fault.TheVariants.{NotAscii, CardTooLong, TooManyCards}
use Rattle.st_card.specs.declared.cards.CardKind.{CardKind}
use Rattle.st_card.specs.declared.cards.CardKind.TheVariants.{Comment, Control, Statement}

-- a test that is false leaves the fault to the later tests
test_passed : (b : Bool) (fault : Fault) (later : Option Fault) → (if b then Some fault else later) ≡ None →
    (b ≡ false) × (later ≡ None)
test_passed true fault later none = cc
test_passed false fault later none = (refl, none)

not_longer : (n : ℕ) → nat_lt 80 n ≡ false → n ≤ 80
not_longer n test = grind (arith, nat_tests)

-- a card without a fault is printable and short
pub no_fault : (n : ℕ) (text : List ℕ) → fault_of n text ≡ None → (is_printable text ≡ true) × (length text ≤ 80)
no_fault n text none =
    let in_number = test_passed (nat_lt MOST_CARDS n) TooManyCards _ none in
    let ascii = test_passed (not (is_printable text)) NotAscii _ in_number.1 in
    let short = test_passed (nat_lt 80 (length text)) CardTooLong _ ascii.1 in
    (not_false (is_printable text) ascii.0, not_longer (length text) short.0)

-- the kind of a card is that of its first 80 bytes
kind_of-take : (text : List ℕ) → kind_of (take 80 text) ≡ kind_of text
kind_of-take text =
    let first : first_column (take 80 text) ≡ first_column text =
    elim text as (λ t. first_column (take 80 t) ≡ first_column t) [ [] ↦ refl | c ∷ cs ↦ refl ] in
    let fewer : 72 ≤ 80 = omega arith in
    let read : columns (take 80 text) ≡ columns text = take-take 72 80 text fewer in
    let K : ℕ → List ℕ → CardKind = λ c s. if c == 42 || is_blank s then Comment else (if c == 47 then Control else Statement) in
    ap (λ c. K c (columns (take 80 text))) first ∙ ap (λ (s : List ℕ). K (first_column text) s) read

-- a card agrees with its text
pub card_described : (n : ℕ) (job rest shown : List ℕ) → IsBehind rest job → IsFront shown rest →
    IsCardOf job (card_at n (length job - length rest) shown)
card_described n job rest shown behind front =
    let count = min (length shown) 80 in
    let fewer : count ≤ length shown = omega arith in
    let swapped : count ≡ min 80 (length shown) = omega arith in
    let same : text_in job (card_at n (length job - length rest) shown) ≡ take 80 shown =
    ap (λ (s : List ℕ). take count s) (sym behind.same)
    ∙ (sym (take-take count (length shown) rest fewer)
    ∙ (ap (λ (s : List ℕ). take count s) (sym front.same)
    ∙ (ap (λ k. take k shown) swapped ∙ take_min 80 shown))) in
    record {
      within = omega (arith, behind.within, front.within);
      short = omega arith;
      kind = sym (ap kind_of same ∙ kind_of-take shown);
      printable = λ none.
          let parts = no_fault n shown none in
          ap is_printable (same ∙ take_all 80 shown parts.1) ∙ parts.0;
    }
