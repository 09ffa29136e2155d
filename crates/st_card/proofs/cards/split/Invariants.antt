use Rattle.st_card.proofs.Common.{◌≡◌, ◌+◌, ◌-◌, ◌≤◌, ◌++◌, length, All, cards_from, IsCardOf, pieces_of, IsBehind}
use Rattle.st_card.proofs.cards.split.Given as goal

abbrev pub invariant-lines : goal.invariant-lines
invariant-lines l = record {
  so_far : l.cards.items ++ cards_from l.number (length l.job - length l.rest) (pieces_of 10 l.rest)
      ≡ cards_from 1 0 (pieces_of 10 l.job);
  counted : length l.cards.items + 1 ≡ l.number;
  few : l.number ≤ 20001;
  behind : IsBehind l.rest l.job;
  texts : All (IsCardOf l.job) l.cards.items;
}

abbrev pub decreases-lines : goal.decreases-lines
decreases-lines l = length l.rest
