use Rattle.st_tally.proofs.Common.{◌-◌}
use Rattle.std.proofs.Common.{length}
use Rattle.st_tally.proofs.LineLemmas.{AreCardsWritten}
use Rattle.st_tally.proofs.writing.write_cards.Given as goal

abbrev pub invariant-cards : goal.invariant-cards
invariant-cards g l = AreCardsWritten (g.K.Sink.output l.fn.out) (g.K.Sink.output l.out) l.tables l.k

abbrev pub decreases-cards : goal.decreases-cards
decreases-cards g l = length l.tables.cards.items - l.k
