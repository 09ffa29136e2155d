use Rattle.st_back.proofs.Common.{◌≡◌, ◌+◌, ◌-◌, state_with_words}
use Rattle.st_back.proofs.undoing.restore.Given as goal

abbrev pub invariant-loop-k : goal.invariant-loop-k
invariant-loop-k l =
    state_with_words (l.w + l.k) (l.len - l.k) (l.from + l.k) l.words l.state
    ≡ state_with_words l.w l.len l.from l.words l.initial.state
