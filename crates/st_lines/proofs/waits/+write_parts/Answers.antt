use Rattle.st_lines.proofs.Common.{nil_from_length, refl, rules}
use Rattle.st_lines.proofs.WaitLemmas.{charged_cut, charged_then, charged_none, parts_passed, parts_taken, next_within}
use Rattle.st_lines.proofs.waits.+write_parts.Goals as goal

pub returns-in_default-clause-lines : goal.returns-in_default-clause-lines
returns-in_default-clause-lines g t c =
    charged_none _ c.args.entry.now.uses.now c.args.entry.now.before.now c.args.from c.args.parts.now _ (nil_from_length _ c.in_default.ensures.cases)

pub returns-in_default-clause-waits : goal.returns-in_default-clause-waits
returns-in_default-clause-waits g t c ok =
    parts_passed c.args.entry.now.uses.now c.args.entry.now.before.now c.args.from c.args.parts.now _ (nil_from_length _ c.in_default.ensures.cases) c.requires.within

pub returns-in_err-write_part-clause-lines : goal.returns-in_err-write_part-clause-lines
returns-in_err-write_part-clause-lines g t c =
    charged_cut _ _ c.args.entry.now.uses.now c.args.entry.now.before.now c.args.from c.args.parts.now _ _ _ _ c.from_residual.ensures.0
    c.in-Some.ensures.cases.0 c.in_err-write_part.ensures.lines

pub returns-clause-lines : goal.returns-clause-lines
returns-clause-lines g t c =
    charged_then _ _ _ c.args.entry.now.uses.now c.args.entry.now.before.now c.args.from _ c.args.parts.now _ _ _ _ c.in-Some.ensures.cases.0
    c.later.ensures c.in_ok-write_part.ensures.lines c.write_parts.ensures.lines

pub write_parts-requires : goal.write_parts-requires
write_parts-requires g t c κs within = (
  search rules,
  (
    search rules,
    record {
      used = c.requires.used;
      earlier = c.requires.earlier;
      within = next_within c.args.entry.now.uses.now c.args.entry.now.before.now c.args.from _ _ _ _ c.later.ensures (c.in_ok-write_part.ensures.waits refl);
    },
  ),
)

pub returns-clause-waits : goal.returns-clause-waits
returns-clause-waits g t c ok =
    parts_taken c.args.entry.now.uses.now c.args.entry.now.before.now c.args.from _ c.args.parts.now _ _ _ _ _ c.in-Some.ensures.cases.0 c.later.ensures
    (c.in_ok-write_part.ensures.waits refl) (c.write_parts.ensures.waits ok)
