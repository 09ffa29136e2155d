use Rattle.st_tally.proofs.Common.{◌≡◌, ◌+◌, ◌-◌, ◌≤◌, sum_at, Stage, sum_below, card_sum}
use Rattle.std.proofs.Common.{length}
use Rattle.st_tally.proofs.tables.Tables.stage_totals.Given as goal

abbrev pub invariant-cards : goal.invariant-cards
invariant-cards l =
    (l.k ≤ length l.self.cards.items)
    × ((s : Stage) → sum_at s l.sums ≡ sum_at s l.self.others.sums + sum_below (λ j. sum_at s (card_sum l.self j).sums) l.k)

abbrev pub decreases-cards : goal.decreases-cards
decreases-cards l = length l.self.cards.items - l.k
