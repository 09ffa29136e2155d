use Rattle.st_account.proofs.Common.{All, refl, sym, subst, IsReadInTime}
use Rattle.st_account.proofs.TallyLemmas.{row-none, row-some, order-is, ticks-fit, within-is}
use Rattle.st_account.proofs.tallying.tally_row.Goals as goal

pub returns-then-k-eq0 : goal.returns-then-k-eq0
returns-then-k-eq0 c = row-none c.args.k c.args.last.now c.args.last.now.done.end c.args.why _ c.if-k-eq0.true c.requires.ready

pub add-requires-clause-order : goal.add-requires-clause-order
add-requires-clause-order c = order-is c.args.k c.args.last.now c.args.last.now.done.end _ _ c.if-k-eq0.false c.requires.ready refl

pub add-requires-clause-ticks : goal.add-requires-clause-ticks
add-requires-clause-ticks c = ticks-fit c.args.k c.args.last.now c.args.last.now.done.end _ _ c.if-k-eq0.false c.requires.ready refl

pub add-requires-clause-within : goal.add-requires-clause-within
add-requires-clause-within c = within-is c.args.k c.args.last.now c.args.last.now.done.end _ _ c.requires.ready refl

pub add-requires-clause-used : goal.add-requires-clause-used
add-requires-clause-used c =
    record { few = c.as_slice.ensures.fits; each = subst (All IsReadInTime) (sym c.as_slice.ensures.value) c.requires.uses }

pub add-requires-clause-earlier : goal.add-requires-clause-earlier
add-requires-clause-earlier c =
    record { few = c.before-2.ensures.fits; each = subst (All IsReadInTime) (sym c.before-2.ensures.value) c.requires.before }

pub returns : goal.returns
returns c =
    row-some c.args.k c.args.last.now c.args.last.now.done.end c.args.why _ _ _ _ _ c.if-k-eq0.false c.requires.ready refl c.as_slice.ensures.value
    c.before-2.ensures.value c.add.ensures.tally c.add.ensures.size c.add.ensures.ticks c.add.ensures.within
