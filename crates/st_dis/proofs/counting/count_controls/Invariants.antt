use Rattle.st_dis.proofs.Common.{◌≡◌, ◌≤◌, ◌+◌, ◌*◌, length, flat_map, keyword_order, asked_by, requests}
use Rattle.st_dis.proofs.counting.count_controls.Given as goal

abbrev pub invariant-keywords : goal.invariant-keywords
invariant-keywords l = record {
  same : l.count + length (flat_map (λ keyword. asked_by keyword l.controls) l.rest) ≡ length (requests l.controls);
  few : l.count + 4096 * length l.rest ≤ 4096 * length keyword_order;
}

abbrev pub decreases-keywords : goal.decreases-keywords
decreases-keywords l = length l.rest
