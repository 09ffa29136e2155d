use Rattle.st_card.proofs.Common.{◌≡◌, ◌++◌, length, map, flat_map}
use Rattle.st_card.specs.Written as spec
use Rattle.st_card.proofs.written.push_controls.Given as goal

abbrev pub invariant-keywords : goal.invariant-keywords
invariant-keywords l =
    l.text.items ++ spec.text_of_lines (map (spec.control_line l.fn.form) (flat_map (λ keyword. spec.asked_by keyword l.fn.controls) l.rest))
    ≡ l.fn.text.items ++ spec.text_of_lines (map (spec.control_line l.fn.form) (spec.requests l.fn.controls))

abbrev pub decreases-keywords : goal.decreases-keywords
decreases-keywords l = length l.rest
