-- The counter after an entry, the value that it stores, and its cost.
use Rattle.st_prep.proofs.Common.{ℕ, ◌/◌, ◌^◌, ◌<◌, ◌≤◌, ◌==◌, List, get_or, if◌then◌else◌, Option, None, Some, refl, arith, slice_index, count_of, HalfOp, Sx, Sv, Sc, Sr, Sva, Cb, Cbr, Instr, Half, Branch, Floating, Vfl, Connect, Move, BitBranch, IndBranch, StoreCounter, Transfer, Invalid, one_less, Place, next_by, counter_behind, after_half, after_branch, counter_after, stored_part, value_stored, binary_cost, decimal_cost, cost, HasFields, FitsPart, IsStored}
use Rattle.st_bits.specs.declared.operations.BranchOp.{BranchOp}
use Rattle.st_bits.specs.declared.operations.BranchOp.TheVariants.{B, Br, Be, Bd, Bew, Nop}
use Rattle.st_bits.specs.declared.operations.VflOp.{VflOp}
use Rattle.st_bits.specs.declared.operations.VflOp.TheVariants.{Mul, MulAdd, Div, Lcv}
use Rattle.st_prep.proofs.Choices.{of_choice}

-- ---- the counter

next_by-below : (t : Option ℕ) (c n : ℕ) → c < 2 ^ 19 → next_by t c n < 2 ^ 19
next_by-below None c n h = omega arith
next_by-below (Some i) c n h = h

pub next-below : (place : Place) (n : ℕ) → place.counter < 2 ^ 19 → counter_behind place n < 2 ^ 19
unfolding counter_behind
next-below place n h = next_by-below place.table place.counter n h

after_count-below : (x e f : ℕ) → e < 2 ^ 24 → f < 2 ^ 19 → (if one_less (count_of x) == 0 then f else e / 32) < 2 ^ 19
after_count-below x e f address h =
    of_choice (λ n. n < 2 ^ 19) (one_less (count_of x) == 0) f (e / 32) h (omega arith)

after_half-below : (op : HalfOp) (x e f : ℕ) → e < 2 ^ 24 → f < 2 ^ 19 → after_half op x e f < 2 ^ 19
after_half-below Cb x e f address h = after_count-below x e f address h
after_half-below Cbr x e f address h = after_count-below x e f address h
after_half-below _ x e f address h = h

after_branch-below : (op : BranchOp) (c e f : ℕ) → e < 2 ^ 24 → f < 2 ^ 19 → after_branch op c e f < 2 ^ 19
after_branch-below B c e f address h = omega arith
after_branch-below Br c e f address h = omega arith
after_branch-below Be c e f address h = omega arith
after_branch-below Bd c e f address h = omega arith
after_branch-below Bew c e f address h = h
after_branch-below Nop c e f address h = h

pub after-below : (instr : Instr) (x : List ℕ) (e c f : ℕ) → HasFields instr → e < 2 ^ 24 → f < 2 ^ 19
    → counter_after instr x e c f < 2 ^ 19
unfolding counter_after
after-below (Half op a j i) x e c f s address h = after_half-below op (slice_index x j) e f address h
after-below (Branch op a i) x e c f s address h = after_branch-below op c e f address h
after-below (StoreCounter a i second) x e c f s address h = s.1
after-below (Floating n a i) x e c f s address h = h
after-below (Vfl op d u n p l b o a i) x e c f s address h = h
after-below (Connect k t p l b o a i) x e c f s address h = h
after-below (Move sw a i second n) x e c f s address h = h
after-below (BitBranch sense ch a i second) x e c f s address h = h
after-below (IndBranch sense off a i second) x e c f s address h = h
after-below (Transfer w a i n) x e c f s address h = h
after-below (Invalid first second full) x e c f s address h = h

-- ---- the stored value

stored_part-fits : (op : HalfOp) (x : ℕ) → x < 2 ^ 64 → FitsPart op (stored_part op x)
stored_part-fits Sx x h = h
stored_part-fits Sv x h = omega arith
stored_part-fits Sc x h = omega arith
stored_part-fits Sr x h = omega arith
stored_part-fits Sva x h = omega arith
stored_part-fits _ x h = refl

pub value-fits : (instr : Instr) (x : List ℕ) (f : ℕ) → ((j : ℕ) → get_or x j 0 < 2 ^ 64) → f < 2 ^ 19
    → IsStored instr (value_stored instr x f)
unfolding value_stored
value-fits (Half op a j i) x f words h = stored_part-fits op (slice_index x j) (words j)
value-fits (StoreCounter a i second) x f words h = h
value-fits (Branch op a i) x f words h = refl
value-fits (Floating n a i) x f words h = refl
value-fits (Vfl op d u n p l b o a i) x f words h = refl
value-fits (Connect k t p l b o a i) x f words h = refl
value-fits (Move sw a i second n) x f words h = refl
value-fits (BitBranch sense ch a i second) x f words h = refl
value-fits (IndBranch sense off a i second) x f words h = refl
value-fits (Transfer w a i n) x f words h = refl
value-fits (Invalid first second full) x f words h = refl

-- a suppressed entry stores nothing
zero_part-fits : (op : HalfOp) → FitsPart op 0
zero_part-fits Sx = omega arith
zero_part-fits Sv = omega arith
zero_part-fits Sc = omega arith
zero_part-fits Sr = omega arith
zero_part-fits Sva = omega arith
zero_part-fits _ = refl

pub zero-fits : (instr : Instr) → IsStored instr 0
zero-fits (Half op a j i) = zero_part-fits op
zero-fits (StoreCounter a i second) = omega arith
zero-fits (Branch op a i) = refl
zero-fits (Floating n a i) = refl
zero-fits (Vfl op d u n p l b o a i) = refl
zero-fits (Connect k t p l b o a i) = refl
zero-fits (Move sw a i second n) = refl
zero-fits (BitBranch sense ch a i second) = refl
zero-fits (IndBranch sense off a i second) = refl
zero-fits (Transfer w a i n) = refl
zero-fits (Invalid first second full) = refl

-- ---- the cost

abbrev pub IsCost : ℕ → Type 0
IsCost n = (1 ≤ n) × (n ≤ 24)

binary_cost-fits : (op : VflOp) → IsCost (binary_cost op)
binary_cost-fits Mul = (omega arith, omega arith)
binary_cost-fits MulAdd = (omega arith, omega arith)
binary_cost-fits Div = (omega arith, omega arith)
binary_cost-fits Lcv = (omega arith, omega arith)
binary_cost-fits _ = (omega arith, omega arith)

decimal_cost-fits : (op : VflOp) → IsCost (decimal_cost op)
decimal_cost-fits Lcv = (omega arith, omega arith)
decimal_cost-fits _ = (omega arith, omega arith)

pub cost-fits : (instr : Instr) → HasFields instr → IsCost (cost instr)
unfolding cost
cost-fits (Vfl op d u n p l b o a i) s =
    of_choice IsCost d (decimal_cost op) (binary_cost op) (decimal_cost-fits op) (binary_cost-fits op)
cost-fits (Connect k t p l b o a i) s = (omega arith, omega arith)
cost-fits (Move sw a i second n) s = let few : n ≤ 16 = s.3 in (s.2, omega arith)
cost-fits (Half op a j i) s = (omega arith, omega arith)
cost-fits (Branch op a i) s = (omega arith, omega arith)
cost-fits (Floating n a i) s = (omega arith, omega arith)
cost-fits (BitBranch sense ch a i second) s = (omega arith, omega arith)
cost-fits (IndBranch sense off a i second) s = (omega arith, omega arith)
cost-fits (StoreCounter a i second) s = (omega arith, omega arith)
cost-fits (Transfer w a i n) s = (omega arith, omega arith)
cost-fits (Invalid first second full) s = (omega arith, omega arith)
