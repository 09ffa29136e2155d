use Rattle.st_prep.proofs.Common.{◌≡◌, ◌+◌, ◌-◌, word, forbidden_run}
use Rattle.st_prep.proofs.faults.forbidden_run.Given as goal

-- the remaining words determine the result
abbrev pub invariant-loop-w : goal.invariant-loop-w
invariant-loop-w l =
    let bounds = word l.state 3 in
    forbidden_run bounds l.state.enabled l.access l.first l.len
    ≡ forbidden_run bounds l.state.enabled l.access l.w (l.first + l.len - l.w)
