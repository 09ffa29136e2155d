use Rattle.st_account.proofs.Common.{All, refl, sym, ap, subst, AreWaitsWithin, IsReadInTime, Account, Last, AddsKeptRow, segment_end_at}
use Rattle.st_account.proofs.BorderLemmas.{until-same, why-is, dropped-counted}
use Rattle.st_account.proofs.NextLemmas.{next-is}
use Rattle.st_account.proofs.StallLemmas.{reach-within}
use Rattle.st_account.proofs.TallyLemmas.{ready-same, row-same, ready-ended, row-ended, few-more}
use Rattle.st_account.proofs.tallying.tally_to_next.Goals as goal

pub tally_row-requires-clause-uses : goal.tally_row-requires-clause-uses
tally_row-requires-clause-uses c =
    subst (λ (l : Last). All IsReadInTime l.uses.items) (sym c.enter_next-border.ensures.last) c.requires.behind.1.run.waiting.uses

pub tally_row-requires-clause-before : goal.tally_row-requires-clause-before
tally_row-requires-clause-before c =
    subst (λ (l : Last). All IsReadInTime l.uses.before) (sym c.enter_next-border.ensures.last) c.requires.behind.1.run.waiting.before

pub tally_row-requires-clause-ready : goal.tally_row-requires-clause-ready
tally_row-requires-clause-ready c =
    ready-ended c.end_of-account.result c.args.account.now.k c.enter_next-border.new.self.last _
    (ready-same c.args.account.now.k c.args.account.now.last c.enter_next-border.new.self.last _ c.enter_next-border.ensures.last c.requires.ready)

pub returns-clause-next : goal.returns-clause-next
returns-clause-next c p can going =
    next-is p c.args.account.now can c.enter_next-border.new.self c.enter_next-border.result c.enter_next-border.ensures going _ refl refl refl refl refl refl refl c.clear_if.ensures
    (subst (AreWaitsWithin c.args.account.now.last.tick) (sym (ap (λ (x : Account). x.waiting.totals) c.enter_next-border.ensures.rest))
    (reach-within c.args.account.now.last _ _ can.run.waiting can.run.waiting.within))

pub returns-clause-tallies : goal.returns-clause-tallies
returns-clause-tallies c p can going =
    let a = c.args.account.now in
    let o = c.enter_next-border.new.self in
    let x = c.enter_next-border.result in
    record {
      row =
          subst (AddsKeptRow a.k a.last (segment_end_at p.left p.moment) c.args.tally.now.why c.args.tally.now.tables) (sym c.pass_border.ensures.tables)
          (row-same _ a.last o.last _ _ _ _ _ c.enter_next-border.ensures.last
          (until-same p a can.is o x c.enter_next-border.ensures going _ c.end_of-account.ensures)
          (row-ended c.end_of-account.result a.k o.last _ _ _ _ c.tally_row.ensures));
      why = why-is p a can.is o x c.enter_next-border.ensures _ _ c.pass_border.ensures.why;
      dropped = dropped-counted p a can.is o x c.enter_next-border.ensures _ _ _ c.len-dropped.ensures.value c.pass_border.ensures.dropped;
      few = few-more x.ends _ _ _ _ c.len-dropped.ensures.value can.dropped c.pass_border.ensures.dropped;
    }
