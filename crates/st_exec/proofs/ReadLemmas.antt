-- Operand words that are read one at a time.
use Rattle.st_exec.proofs.Common.{◌≡◌, ℕ, ◌+◌, ◌-◌, ◌<◌, ◌≤◌, List, length, get_or, Machine, word, Words}

-- the item in place k is an operand, or zero past the last operand
pub record IsOperand (w : Words) (s : Machine) (k x : ℕ) : Type 0 where
  pub first : k < w.len → x ≡ word s (w.first + k)
  pub second : w.len ≤ k → k < w.len + w.len2 → x ≡ word s (w.first2 + (k - w.len))
  pub behind : w.len + w.len2 ≤ k → x ≡ 0

-- the first j places hold their operands, and the others are still zero
pub record FilledTo (j : ℕ) (w : Words) (operands : List ℕ) (s : Machine) : Type 0 where
  pub size : length operands ≡ 32
  pub each : (k : ℕ) → k < j → IsOperand w s k (get_or operands k 0)
  pub zero_from : (k : ℕ) → j ≤ k → k < 32 → get_or operands k 0 ≡ 0
