use Rattle.std.proofs.Common.{◌≡◌, ◌≤◌, ◌^◌, ◌-◌, ◌*◌, unsigned_abs, length, drop, ◌+ℤ◌}
use Rattle.st_bits.specs.Bits.{bits}
use Rattle.st_index.specs.IndexChange.{selected_sum}
use Rattle.st_index.proofs.selection.sum_values.Given as goal

abbrev pub invariant-loop-j : goal.invariant-loop-j
invariant-loop-j l = record {
  words : length l.x ≡ 16;
  all : l.sum +ℤ selected_sum (bits (16 - l.j) l.list) (drop l.j l.x) ≡ selected_sum (bits 16 l.list) l.x;
  bound : unsigned_abs l.sum ≤ l.j * 2 ^ 24;
}
