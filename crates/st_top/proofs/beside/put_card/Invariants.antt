use Rattle.st_top.proofs.Common.{◌≡◌, ◌+◌, drop, MatchOption, all_stored, newest_step, states_before}
use Rattle.st_top.proofs.beside.put_card.Given as goal

abbrev pub invariant-loop-k : goal.invariant-loop-k
invariant-loop-k l = record {
  state : all_stored l.machine (l.w + l.k) (drop l.k l.card) ≡ all_stored l.fn.machine l.w l.card;
  depth : l.steps.depth ≡ l.fn.steps.depth;
  states : states_before l.steps.kept l.machine ≡ states_before l.fn.steps.kept l.fn.machine;
  fresh : MatchOption (newest_step l.steps.kept) ⊥ (λ kept. kept.puts ≡ l.k);
}
