use Rattle.st_exec.proofs.Common.{◌≡◌, ℕ, ◌+◌, ◌<◌, get_or, length, word}
use Rattle.st_exec.proofs.transfers.words_at.Given as goal

abbrev pub invariant-loop-k : goal.invariant-loop-k
invariant-loop-k l = (length l.words ≡ 8) × ((k : ℕ) → k < l.k → get_or l.words k 0 ≡ word l.state (l.w + k))
