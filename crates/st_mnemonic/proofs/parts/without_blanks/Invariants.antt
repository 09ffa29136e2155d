use Rattle.st_mnemonic.proofs.Common.{◌≡◌, ◌≤◌, ◌+◌, ◌++◌, ◌==◌, not, length, filter}
use Rattle.st_mnemonic.proofs.parts.without_blanks.Given as goal

abbrev pub invariant-bytes : goal.invariant-bytes
invariant-bytes l = record {
  so_far : l.kept.items ++ filter (λ c. not (c == 32)) l.rest ≡ filter (λ c. not (c == 32)) l.text;
  room : length l.kept.items + length l.rest ≤ 63;
}

abbrev pub decreases-bytes : goal.decreases-bytes
decreases-bytes l = length l.rest
