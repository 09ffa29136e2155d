-- A fetched entry is in its ranges.
use Rattle.st_prep.proofs.Common.{ℕ, ◌+◌, ◌/◌, ◌^◌, ◌<◌, Bool, true, false, ◌==◌, if◌then◌else◌, List, Option, None, Some, is_none, arith, IfSome, Instr, Half, Branch, Floating, Vfl, Connect, Move, BitBranch, IndBranch, StoreCounter, Transfer, Invalid, Decoded, IsShape, decoded_entry, Machine, word, forbidden_by, is_invalid_word, is_protected, Fetch, Place, FoundInstruction, effective, Reading, Finds, Reads, outcome, half_of, Continuation, with_second, with_first, read_after, instruction_at, is_execute, with_target, fetched_alone, own_use, reading_at_place, words_fetched, HasFields, IsFoundInRange, IsFetched}
use Rattle.st_format.proofs.Shapes.{shape-instruction_of}
use Rattle.st_prep.proofs.Choices.{of_choice}

-- a decoded instruction has valid fields
pub fields-shape : (instr : Instr) → IsShape instr → HasFields instr
fields-shape (Half op a j i) s = s
fields-shape (Branch op a i) s = s
fields-shape (Floating n a i) s = s
fields-shape (Vfl op d u n p l b o a i) s = s
fields-shape (Connect k t p l b o a i) s = s
fields-shape (Move sw a i second n) s = s
fields-shape (BitBranch sense c a i second) s = s
fields-shape (IndBranch sense off a i second) s = s
fields-shape (StoreCounter a i second) s = s
fields-shape (Transfer w a i n) s = s
fields-shape (Invalid first second full) s = tt

fields-decoded : (f s : ℕ) → f < 2 ^ 32 → s < 2 ^ 32 → HasFields (decoded_entry f s).instr
fields-decoded f s first second = fields-shape _ (shape-instruction_of f s first second)

half-below : (content h : ℕ) → half_of content h < 2 ^ 32
half-below content h = omega arith

fetch_fault : (b : ℕ) (en : Bool) (w : ℕ) → IfSome (forbidden_by b en Fetch w) (λ i. i < 64)
unfolding forbidden_by
fetch_fault b en w =
    let P : Option ℕ → Type 0 = λ o. IfSome o (λ i. i < 64) in
    of_choice P (is_invalid_word Fetch w) (Some 16) (if is_protected b en w then Some 21 else None) (omega arith)
    (of_choice P (is_protected b en w) (Some 21) None (omega arith) tt)

-- all results of a reading are in their ranges
abbrev pub Fits : Reading → Type 0
Fits r = (c : ℕ → ℕ) → IsFetched (outcome r c)

-- a continuation whose results are in their ranges
abbrev pub UseFits : Continuation → Type 0
UseFits k = (f : FoundInstruction) → IsFoundInRange f → Fits (k f)

fits-read : (t : Bool) (w : ℕ) (r : ℕ → Reading) → ((c : ℕ) → Fits (r c)) → Fits (Reads t w r)
unfolding outcome
fits-read t w r h c = h (c w) c

with_second-fits : (f : Option ℕ) (t : Bool) (first h v content : ℕ) (k : Continuation) → first < 2 ^ 32
    → IfSome f (λ i. i < 64) → UseFits k → Fits (with_second f t first h v content k)
with_second-fits (Some i) t first h v content k below some fits =
    fits _ (record { shape = fields-decoded first 0 below (omega arith); fault = some })
with_second-fits None t first h v content k below some fits =
    of_choice Fits (h / 2 == v) _ _
    (fits _ (record { shape = fields-decoded first (half_of content h) below (half-below content h); fault = tt }))
    (fits-read t (h / 2) _
    (λ c. fits _ (record { shape = fields-decoded first (half_of c h) below (half-below c h); fault = tt })))

with_first-fits : (t : Bool) (b : ℕ) (en : Bool) (h content : ℕ) (k : Continuation) → UseFits k
    → Fits (with_first t b en h content k)
unfolding with_first
with_first-fits t b en h content k fits =
    let first : ℕ = half_of content h in
    of_choice Fits ((decoded_entry first 0).halves == 2) _ _
    (with_second-fits _ t first (h + 1) (h / 2) content k (half-below content h) (fetch_fault b en ((h + 1) / 2)) fits)
    (fits _ (record { shape = fields-decoded first 0 (half-below content h) (omega arith); fault = tt }))

read_after-fits : (f : Option ℕ) (t : Bool) (b : ℕ) (en : Bool) (h : ℕ) (k : Continuation) → IfSome f (λ i. i < 64) → UseFits k
    → Fits (read_after f t b en h k)
read_after-fits (Some i) t b en h k some fits = fits _ (record { shape = tt; fault = some })
read_after-fits None t b en h k some fits = fits-read t (h / 2) _ (λ c. with_first-fits t b en h c k fits)

instruction-fits : (t : Bool) (b : ℕ) (en : Bool) (h : ℕ) (k : Continuation) → UseFits k → Fits (instruction_at t b en h k)
unfolding instruction_at
instruction-fits t b en h k fits = read_after-fits _ t b en h k (fetch_fault b en (h / 2)) fits

with_target-fits : (ex : Decoded) → HasFields ex.instr → UseFits (λ target. Finds (with_target ex target))
unfolding outcome
with_target-fits ex own target some c = record {
  own = own;
  target =
      of_choice (λ o. IfSome o (λ d. HasFields d.instr)) (is_none target.fault) (Some target.decoded) None some.shape tt;
  fault = some.fault;
}

alone-fits : (own : FoundInstruction) → IsFoundInRange own → Fits (Finds (fetched_alone own))
unfolding outcome
alone-fits own some c = record { own = some.shape; target = tt; fault = some.fault }

own_use-fits : (x : List ℕ) (b : ℕ) (en : Bool) → UseFits (own_use x b en)
unfolding own_use
own_use-fits x b en own some =
    of_choice Fits (is_execute own.decoded.instr) _ _
    (instruction-fits true b en (effective x own.decoded.instr / 32) _ (with_target-fits own.decoded some.shape))
    (alone-fits own some)

pub reading-fits : (x : List ℕ) (b : ℕ) (en : Bool) (place : Place) → Fits (reading_at_place x b en place)
unfolding reading_at_place
reading-fits x b en place = instruction-fits false b en place.address _ (own_use-fits x b en)

-- the result of fetching at any place is in its ranges
pub fetched-fits : (s : Machine) (place : Place) → IsFetched (words_fetched s place)
unfolding words_fetched
fetched-fits s place = reading-fits _ _ _ place (word s)
