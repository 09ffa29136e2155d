use Rattle.st_exec.proofs.Common.{◌≡◌, ℕ, ◌<◌, get_or, length, word}
use Rattle.st_exec.proofs.kept.registers.Given as goal

abbrev pub invariant-loop-w : goal.invariant-loop-w
invariant-loop-w l = (length l.registers ≡ 32) × ((k : ℕ) → k < l.w → get_or l.registers k 0 ≡ word l.state k)
