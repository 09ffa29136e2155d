-- Different operations have different numbers, and each number in use determines its operation.
use Rattle.st_format.proofs.Common.{◌≡◌, ℕ, ◌%◌, ◌<◌, ◌==◌, ◌||◌, Bool, true, false, Option, None, Some, refl, sym, ◌∙◌, ap, lit<, nat_le, is_some, leb-false, HalfOp, BranchOp, VflOp, ConnKind, FullOp, Variable, Transmission, Order, half_ops, branch_ops, full_ops, kinds, numbered_op, half_op, branch_op, kind, half_number, branch_number, vfl_number, kind_number, full_number}
use Rattle.st_bits.specs.declared.operations.HalfOp.TheVariants.{Lx}
use Rattle.st_bits.specs.declared.operations.BranchOp.TheVariants.{B}
use Rattle.st_bits.specs.declared.operations.VflOp.TheVariants.{L}
use Rattle.st_bits.specs.declared.operations.ConnKind.TheVariants.{C}
use Rattle.st_format.proofs.Tables.{number-numbered, passes}

-- ---- the operation of an operation's number

pub half_op-number : (op : HalfOp) → half_op (half_number op) ≡ Some op
unfolding half_op half_ops
half_op-number Lx = refl
half_op-number _ = refl

pub branch_op-number : (op : BranchOp) → branch_op (branch_number op) ≡ Some op
unfolding branch_op branch_ops
branch_op-number B = refl
branch_op-number _ = refl

pub kind-number : (op : ConnKind) → kind (kind_number op) ≡ Some op
unfolding kind kinds
kind-number C = refl
kind-number _ = refl

pub numbered_op-vfl_number : (op : VflOp) → numbered_op (vfl_number op) ≡ Some (Variable op)
unfolding numbered_op full_ops
numbered_op-vfl_number L = refl
numbered_op-vfl_number _ = refl

-- ---- bounds

pub half_number-bound : (op : HalfOp) → half_number op < 32
half_number-bound Lx = lit< tt
half_number-bound _ = lit< tt

pub half_number-short : (op : HalfOp) → (half_number op % 16 == 15) ≡ false
half_number-short Lx = refl
half_number-short _ = refl

pub branch_number-bound : (op : BranchOp) → branch_number op < 6
branch_number-bound B = lit< tt
branch_number-bound _ = lit< tt

pub vfl_number-bound : (op : VflOp) → vfl_number op < 32
vfl_number-bound L = lit< tt
vfl_number-bound _ = lit< tt

pub kind_number-bound : (op : ConnKind) → kind_number op < 3
kind_number-bound C = lit< tt
kind_number-bound _ = lit< tt

pub swap-bound : (b : Bool) → full_number (Transmission b) < 32
swap-bound true = lit< tt
swap-bound false = lit< tt

pub order-bound : (b : Bool) → full_number (Order b) < 32
order-bound true = lit< tt
order-bound false = lit< tt

-- the number of a half-word operation is not that of the floating group, the branch group or the
-- unused number
pub half_number-floating : (op : HalfOp) → (half_number op == 0) ≡ false
half_number-floating Lx = refl
half_number-floating _ = refl

pub half_number-unused : (op : HalfOp) → (half_number op == 12) ≡ false
half_number-unused Lx = refl
half_number-unused _ = refl

pub half_number-branch : (op : HalfOp) → (half_number op == 23) ≡ false
half_number-branch Lx = refl
half_number-branch _ = refl

-- ---- the number of a number's operation

pub number-half_op : (n : ℕ) (op : HalfOp) → half_op n ≡ Some op → half_number op ≡ n
unfolding half_op
number-half_op n op e = number-numbered half_number half_ops n op e

pub number-branch_op : (n : ℕ) (op : BranchOp) → branch_op n ≡ Some op → branch_number op ≡ n
unfolding branch_op
number-branch_op n op e = number-numbered branch_number branch_ops n op e

pub number-kind : (n : ℕ) (op : ConnKind) → kind n ≡ Some op → kind_number op ≡ n
unfolding kind
number-kind n op e = number-numbered kind_number kinds n op e

pub number-numbered_op : (n : ℕ) (op : FullOp) → numbered_op n ≡ Some op → full_number op ≡ n
unfolding numbered_op
number-numbered_op n op e = number-numbered full_number full_ops n op e

-- ---- the numbers with no operation

pub half_op-none : (n : ℕ) → n < 32 → half_op n ≡ None → (n == 0 || n == 12 || n == 23 || n % 16 == 15) ≡ true
unfolding half_op half_ops
half_op-none n lt e =
    let test : ℕ → Bool = λ m. is_some (half_op m) || (m == 0 || m == 12 || m == 23 || m % 16 == 15) in
    sym (ap (λ o. is_some o || (n == 0 || n == 12 || n == 23 || n % 16 == 15)) e) ∙ passes test 32 n refl lt

branch_op-within : (n : ℕ) → n < 6 → branch_op n ≡ None → ⊥
unfolding branch_op branch_ops
branch_op-within n lt e =
    let no : false ≡ true = sym (ap is_some e) ∙ passes (λ m. is_some (branch_op m)) 6 n refl lt in cc

from_six : (n : ℕ) (b : Bool) → nat_le 6 n ≡ b → branch_op n ≡ None → nat_le 6 n ≡ true
from_six n true le e = le
from_six n false le e =
    let lt : n < 6 = leb-false 6 n le in absurd (branch_op-within n lt e)

branch_number-below : (op : BranchOp) → nat_le 6 (branch_number op) ≡ false
branch_number-below B = refl
branch_number-below _ = refl

pub branch_op-none : (n : ℕ) → branch_op n ≡ None → nat_le 6 n ≡ true
branch_op-none n e = from_six n (nat_le 6 n) refl e

pub branch_op-some : (n : ℕ) (op : BranchOp) → branch_op n ≡ Some op → nat_le 6 n ≡ false
branch_op-some n op e =
    let same : branch_number op ≡ n = number-branch_op n op e in
    ap (nat_le 6) (sym same) ∙ branch_number-below op

pub branch_op-late : (n : ℕ) (op : Option BranchOp) → branch_op n ≡ op → nat_le 6 n ≡ true → branch_op n ≡ None
branch_op-late n None e late = e
branch_op-late n (Some op) e late = let no : true ≡ false = sym late ∙ branch_op-some n op e in cc

pub half_op-unused : half_op 12 ≡ None
unfolding half_op half_ops
half_op-unused = refl
