use Rattle.st_card.proofs.Common.{◌≡◌, ◌++◌, map, take}
use Rattle.st_card.specs.Written as spec
use Rattle.st_card.proofs.written.push_requests.Given as goal

abbrev pub invariant-requests : goal.invariant-requests
invariant-requests l =
    l.text.items ≡ l.fn.text.items ++ spec.text_of_lines (map (spec.control_line l.fn.form) (take l.index (spec.asked_by l.fn.keyword l.fn.controls)))
