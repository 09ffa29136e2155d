use Rattle.st_plain.proofs.Common.{ap, nat_lt, Code}
use Rattle.std.specs.Prelude.{Some}
use Rattle.st_plain.proofs.KnownLemmas.{known_with, known-following, known-anew}
use Rattle.st_plain.proofs.known.known_of.Goals as goal

pub returns-then-not-entry : goal.returns-then-not-entry
returns-then-not-entry c = known-anew c.args.table c.args.state.now c.args.unit.now.needs _ c.requires.needs c.known_anew.ensures

pub returns : goal.returns
returns c =
    known-following c.args.table c.args.state.now c.args.unit.now.entry c.args.unit.now.needs c.args.unit.now.prepared _ c.requires.entry c.requires.needs c.requires.plan
    c.if-not-entry.false
    (ap (λ (code : Code). known_with c.args.unit.now.needs.index_read (nat_lt 0 c.args.unit.now.entry.target.len) (Some code)) c.code_of.ensures)
