use Rattle.st_account.proofs.Common.{All, sym, subst, IsReadInTime, same_lines, no_lines}
use Rattle.st_account.proofs.EntryLemmas.{kept-none, kept-row}
use Rattle.st_account.proofs.StallLemmas.{adds-none, adds-some}
use Rattle.st_account.proofs.account.write_row.Goals as goal

pub returns-then-k-eq0-clause-lines : goal.returns-then-k-eq0-clause-lines
returns-then-k-eq0-clause-lines g c = same_lines _ _ _ _ _ (sym (kept-none c.args.k c.args.last.now c.args.end c.if-k-eq0.true)) (no_lines _ _)

pub returns-then-k-eq0-clause-waits : goal.returns-then-k-eq0-clause-waits
returns-then-k-eq0-clause-waits g c good = adds-none c.args.k c.args.last.now _ c.if-k-eq0.true c.requires

pub write_done-requires : goal.write_done-requires
write_done-requires g c = record {
  used = record { few = c.as_slice.ensures.fits; each = subst (All IsReadInTime) (sym c.as_slice.ensures.value) c.requires.uses };
  earlier = record { few = c.before-2.ensures.fits; each = subst (All IsReadInTime) (sym c.before-2.ensures.value) c.requires.before };
  within = c.requires.within;
}

pub returns-clause-lines : goal.returns-clause-lines
returns-clause-lines g c =
    same_lines _ _ _ _ _
    (kept-row c.args.k c.args.last.now c.args.end c.as_slice.result.now c.before-2.result.now c.if-k-eq0.false c.as_slice.ensures.value c.before-2.ensures.value)
    c.write_done.ensures.lines

pub returns-clause-waits : goal.returns-clause-waits
returns-clause-waits g c good =
    adds-some c.args.k c.args.last.now _ _ _ _ c.if-k-eq0.false c.requires.reach c.as_slice.ensures.value c.before-2.ensures.value
    (c.write_done.ensures.waits good)
