use Rattle.st_account.proofs.Common.{◌≤◌, length, ap, arith, rules}
use Rattle.st_card.specs.declared.keywords.Once.TheVariants.{Budget}
use Rattle.st_asm.proofs.KeptLemmas.{few-cards}
use Rattle.st_account.proofs.program.run_program.Goals as goal

pub overflow_cast-cards : goal.overflow_cast-cards
overflow_cast-cards g c = omega (arith, few-cards c.args.job.now.text.now, ap length c.args.job.now.cards_are)

pub write_part-requires-clause-ready : goal.write_part-requires-clause-ready
write_part-requires-clause-ready g c =
    let few : c.args.program.controls.budget ≤ 10000000 = c.requires.sound.limits.once Budget in record {
      fresh = ap (λ s. s.done) c.in-Ok.ensures.state;
      cards = c.in-Ok.ensures.cards;
      levels = search (rules);
      signals = search (rules);
      limit = search (rules, arith, few);
      size = c.in-Ok.ensures.words;
    }
