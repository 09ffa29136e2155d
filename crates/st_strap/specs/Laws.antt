-- Laws of all statement cards.
--
-- Proved: each law has its lemma in proofs/Laws.antt, with its name in small letters.
-- Claimed: docs/CLAIMS.md names TheFirstFaultOfTheListCounts.
-- Change: docs/promises.txt lists each law, and the gate compares the list with the laws.
use Rattle.std.specs.Prelude.{◌≡◌, ◌≤◌, ◌<◌, ◌+◌, ◌*◌, ◌^◌, ◌++◌, ℕ, List, [], false, true, codes, decimal, None, Ok}
use Rattle.st_card.specs.Cards.{first_fault}
use Rattle.st_mnemonic.specs.Describing.{plain_form}
use Rattle.st_strap.specs.Faults.{faults_on}
use Rattle.st_strap.specs.Saying.{statement_of}
use Rattle.st_strap.specs.declared.statement.Statement.TheVariants.{Half, Branch, Vfl, Connect, Data, SetLocation, End}
use Rattle.st_strap.specs.Spots.{number_spot, operands_text, AreOperandNumbers, progressive_form}
use Rattle.st_bits.specs.declared.operations.BranchOp.TheVariants.{Bew}
use Rattle.st_bits.specs.declared.operations.VflOp.TheVariants.{L, Add, St, MAdd1, Mul}
use Rattle.st_bits.specs.declared.operations.ConnKind.TheVariants.{C}
use Rattle.st_bits.specs.declared.operations.HalfOp.TheVariants.{Lvi, VPlusI}
use Rattle.st_strap.specs.Reading.{number_expr}
use Rattle.std.specs.Result.{result_err}

-- A statement card is refused if and only if it has a fault of the list, each defined by itself,
-- and then for the first of those that it has.
abbrev pub TheFirstFaultOfTheListCounts : Type 0
TheFirstFaultOfTheListCounts = (name text : List ℕ) →
    result_err (statement_of name text) ≡ first_fault (faults_on name text)

-- `DD(BU,64),` followed by a number below 2^64 is read as that number, a whole word.
abbrev pub NumbersOfWordsAreRead : Type 0
NumbersOfWordsAreRead = (n : ℕ) → n < 2 ^ 64 → statement_of [] (codes "DD(BU,64)," ++ decimal n)
    ≡ Ok (Data (plain_form false true 64 8) false n)

-- A location of word w and bit b after `SLC,` or `END,` is read as bit address 64w + b.
pub record PlacesAreRead : Type 0 where
  pub set : (w b : ℕ) → w ≤ 262143 → b ≤ 63 →
      statement_of [] (codes "SLC," ++ decimal w ++ codes "." ++ decimal b)
      ≡ Ok (SetLocation (number_expr (64 * w + b)))
  pub end : (w b : ℕ) → w ≤ 262143 → b ≤ 63 →
      statement_of [] (codes "END," ++ decimal w ++ codes "." ++ decimal b)
      ≡ Ok (End (number_expr (64 * w + b)))

-- A card of an operation on index word j and bit 0 of word w is read as that operation.
pub record IndexOperationsAreRead : Type 0 where
  pub load : (j w : ℕ) → 1 ≤ j → j ≤ 7 → w ≤ 262143 →
      statement_of [] (codes "LVI,$X" ++ decimal j ++ codes "," ++ decimal w ++ codes ".0")
      ≡ Ok (Half Lvi j (number_spot (64 * w) 0))
  pub add : (j w : ℕ) → 1 ≤ j → j ≤ 7 → w ≤ 262143 →
      statement_of [] (codes "V+I,$X" ++ decimal j ++ codes "," ++ decimal w ++ codes ".0")
      ≡ Ok (Half VPlusI j (number_spot (64 * w) 0))

-- A card of an operation on a field of n bits at bit b of word w, with an offset, is read as that
-- operation.
pub record FieldOperationsAreRead : Type 0 where
  pub add : (n w b o : ℕ) → AreOperandNumbers n w b o →
      statement_of [] (codes "+" ++ operands_text n w b o)
      ≡ Ok (Vfl Add false (plain_form false true n 8) (number_spot (64 * w + b) 0) o)
  pub store : (n w b o : ℕ) → AreOperandNumbers n w b o →
      statement_of [] (codes "ST" ++ operands_text n w b o)
      ≡ Ok (Vfl St false (plain_form false true n 8) (number_spot (64 * w + b) 0) o)
  pub connect : (n w b o : ℕ) → AreOperandNumbers n w b o →
      statement_of [] (codes "C0110" ++ operands_text n w b o)
      ≡ Ok (Connect C 6 (plain_form false true n 8) (number_spot (64 * w + b) 0) o)
  pub load : (w : ℕ) → w ≤ 262143 →
      statement_of [] (codes "L(BU,64)," ++ decimal w ++ codes ".0")
      ≡ Ok (Vfl L false (plain_form false true 64 8) (number_spot (64 * w) 0) 0)
  pub add_one : (n w b : ℕ) → 8 ≤ n → n ≤ 64 → w ≤ 262143 → b ≤ 63 →
      statement_of [] (codes "M+1(B," ++ decimal n ++ codes ",8)," ++ decimal w ++ codes "."
      ++ decimal b)
      ≡ Ok (Vfl MAdd1 false (plain_form false false n 8) (number_spot (64 * w + b) 0) 0)
  pub multiply : (n j : ℕ) → 1 ≤ n → n ≤ 64 → 1 ≤ j → j ≤ 7 →
      statement_of [] (codes "*(BU," ++ decimal n ++ codes ")(V+I),0.32($X" ++ decimal j
      ++ codes ")")
      ≡ Ok (Vfl Mul false (progressive_form n) (number_spot 32 j) 0)

-- A card of the branch that waits, BEW, is read as that branch.
abbrev pub WaitsAreRead : Type 0
WaitsAreRead = statement_of [] (codes "BEW") ≡ Ok (Branch Bew None)
