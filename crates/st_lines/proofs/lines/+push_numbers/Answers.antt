use Rattle.st_lines.proofs.Common.{nil_from_length}
use Rattle.st_lines.proofs.LineLemmas.{numbers-first, numbers-none}
use Rattle.st_lines.proofs.lines.+push_numbers.Goals as goal

pub returns-in_default-clause-bytes : goal.returns-in_default-clause-bytes
returns-in_default-clause-bytes t c = numbers-none _ c.args.ns.now (nil_from_length _ c.in_default.ensures.cases)

pub returns-clause-bytes : goal.returns-clause-bytes
returns-clause-bytes t c =
    numbers-first _ _ _ _ c.args.ns.now _ _ _ c.in-Some.ensures.cases.0 c.push_str.ensures.bytes c.push_short_decimal.ensures.bytes c.from.ensures
    c.push_numbers.ensures.bytes
