use Rattle.std.proofs.Common.{◌≡◌, ◌<◌, ◌+◌, ◌*◌, ℕ, length, slice_index}
use Rattle.st_calls.proofs.snapshots.ticks.Given as goal

abbrev pub invariant-fill : goal.invariant-fill
invariant-fill l = record {
  size : length l.ticks ≡ 20;
  each : (j : ℕ) → j < l.k → slice_index l.ticks j ≡ 2 * j + 3;
}
