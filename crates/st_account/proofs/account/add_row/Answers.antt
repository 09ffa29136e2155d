use Rattle.st_account.proofs.Common.{All, sym, subst, IsReadInTime}
use Rattle.st_account.proofs.StallLemmas.{adds-none, adds-some}
use Rattle.st_account.proofs.account.add_row.Goals as goal

pub returns-then-k-eq0 : goal.returns-then-k-eq0
returns-then-k-eq0 c = adds-none c.args.k c.args.last.now _ c.if-k-eq0.true c.requires

pub add_waits-requires : goal.add_waits-requires
add_waits-requires c = record {
  used = record { few = c.as_slice.ensures.fits; each = subst (All IsReadInTime) (sym c.as_slice.ensures.value) c.requires.uses };
  earlier = record { few = c.before-2.ensures.fits; each = subst (All IsReadInTime) (sym c.before-2.ensures.value) c.requires.before };
  within = c.requires.within;
}

pub returns : goal.returns
returns c =
    adds-some c.args.k c.args.last.now _ _ _ _ c.if-k-eq0.false c.requires.reach c.as_slice.ensures.value c.before-2.ensures.value c.add_waits.ensures
