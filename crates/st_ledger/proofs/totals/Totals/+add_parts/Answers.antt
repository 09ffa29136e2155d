use Rattle.st_ledger.proofs.Common.{nil_from_length}
use Rattle.st_ledger.proofs.Added.{parts-none, parts-more, reach-more}
use Rattle.st_ledger.proofs.totals.Totals.+add_parts.Goals as goal

pub returns-in_default-clause-sums : goal.returns-in_default-clause-sums
returns-in_default-clause-sums t c s = parts-none s c.args.from c.args.parts.now _ (nil_from_length _ c.in_default.ensures.cases)

pub returns-clause-within : goal.returns-clause-within
returns-clause-within t c =
    reach-more c.args.from _ c.args.parts.now _ _ _ c.in-Some.ensures.cases.0 c.later.ensures c.add_parts.ensures.within

pub returns-clause-sums : goal.returns-clause-sums
returns-clause-sums t c s =
    parts-more s c.args.from _ c.args.parts.now _ _ _ _ _ c.in-Some.ensures.cases.0 c.later.ensures (c.add_part.ensures.sums s)
    (c.add_parts.ensures.sums s)
