use Rattle.st_tally.proofs.Common.{◌+◌, refl, ap, arith, heading_at}
use Rattle.st_tally.proofs.TableLemmas.{tally-more, tables-within}
use Rattle.st_tally.proofs.tables.Tables.add.Goals as goal

pub returns-clause-tally : goal.returns-clause-tally
returns-clause-tally c xs is =
    tally-more xs _ c.args.self.now _ c.add_card.new.cards.items c.add_card.new.others c.add_reason.new.reasons
    (omega (arith, c.add_reason.ensures.size)) refl refl refl c.add_card.ensures.size c.add_card.ensures.own c.add_card.ensures.others c.add_card.ensures.kept
    c.add_card.ensures.rest c.add_reason.ensures.value (ap (λ n. c.args.self.now.mispredicted + n) c.one_if.ensures.value)
    (ap (λ n. c.args.self.now.level_rows + n) c.one_if-2.ensures.value) refl is

pub returns-clause-within : goal.returns-clause-within
returns-clause-within c =
    tables-within c.args.done.now (heading_at c.args.why c.args.done.now) c.args.uses.now c.args.before.now c.args.self.now _
    c.add_card.new.cards.items c.add_card.new.others c.add_reason.new.reasons (omega (arith, c.add_reason.ensures.size)) c.requires.order
    c.requires.used c.requires.earlier refl refl refl c.add_card.ensures.size c.add_card.ensures.own c.add_card.ensures.others c.add_card.ensures.kept
    c.add_card.ensures.rest c.add_reason.ensures.value (ap (λ n. c.args.self.now.mispredicted + n) c.one_if.ensures.value)
    (ap (λ n. c.args.self.now.level_rows + n) c.one_if-2.ensures.value) c.requires.within
