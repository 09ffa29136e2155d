use Rattle.st_run.proofs.Common.{map, ◌≡◌, ◌≤◌, length, take}
use Rattle.st_run.proofs.leaving.levels_in.Given as goal

abbrev pub invariant-levels : goal.invariant-levels
invariant-levels g l = record {
  items : l.levels.items ≡ map (λ v. (v.prepared.place.address, v.p)) (take l.k l.ring);
  count : length l.levels.items ≡ l.k;
  few : length l.ring ≤ 8;
}
