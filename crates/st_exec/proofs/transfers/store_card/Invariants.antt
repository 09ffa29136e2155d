use Rattle.st_exec.proofs.Common.{◌≡◌, ◌+◌, drop, all_stored}
use Rattle.st_exec.proofs.transfers.store_card.Given as goal

abbrev pub invariant-loop-k : goal.invariant-loop-k
invariant-loop-k l = all_stored l.state (l.w + l.k) (drop l.k l.card) ≡ all_stored l.initial.state l.w l.card
