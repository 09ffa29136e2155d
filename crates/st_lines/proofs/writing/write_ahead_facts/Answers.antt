use Rattle.st_lines.proofs.Common.{Some, ap, facts_lines}
use Rattle.st_lines.proofs.LineLemmas.{same_lines}
use Rattle.st_lines.proofs.writing.write_ahead_facts.Goals as goal

pub returns : goal.returns
returns g c =
    same_lines _ _ _ _ _ (ap (facts_lines c.args.n (Some c.args.tick) c.args.ahead.now.plan c.args.ahead.now.known c.args.origin) c.as_slice.ensures.value)
    c.write_facts.ensures
