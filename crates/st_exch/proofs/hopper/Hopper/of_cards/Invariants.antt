use Rattle.st_exch.proofs.Common.{◌≡◌, take, All, IsCardOf, texts_in}
use Rattle.st_exch.proofs.hopper.Hopper.of_cards.Given as goal

abbrev pub invariant-loop-card : goal.invariant-loop-card
invariant-loop-card l = record {
  so_far : l.waiting.items ≡ texts_in l.job (take l.card-index l.behind);
  cards : All (IsCardOf l.job) l.behind;
}
