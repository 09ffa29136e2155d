use Rattle.st_tally.proofs.Common.{◌≡◌, ◌+◌, ◌-◌, ◌≤◌, true, waited_at, is_parted, Stage, Stall, sum_below, card_sum}
use Rattle.std.proofs.Common.{length}
use Rattle.st_tally.proofs.tables.Tables.wait_totals.Given as goal

abbrev pub invariant-cards : goal.invariant-cards
invariant-cards l =
    (l.k ≤ length l.self.cards.items)
    × ((r : Stage) (s : Stall) → is_parted r ≡ true
    → waited_at r s l.waits ≡ waited_at r s l.self.others.waits + sum_below (λ j. waited_at r s (card_sum l.self j).waits) l.k)

abbrev pub decreases-cards : goal.decreases-cards
decreases-cards l = length l.self.cards.items - l.k
