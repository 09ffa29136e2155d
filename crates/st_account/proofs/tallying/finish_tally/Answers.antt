use Rattle.st_account.proofs.Common.{◌+◌, ◌∙◌, ap, subst, same_lines, AddsKeptRow}
use Rattle.st_account.proofs.BorderLemmas.{last-until, last-dropped, totals-is}
use Rattle.st_account.proofs.TallyLemmas.{ready-ended, row-ended}
use Rattle.st_account.proofs.tallying.finish_tally.Goals as goal

pub tally_row-requires-clause-uses : goal.tally_row-requires-clause-uses
tally_row-requires-clause-uses g c = c.requires.behind.1.run.waiting.uses

pub tally_row-requires-clause-before : goal.tally_row-requires-clause-before
tally_row-requires-clause-before g c = c.requires.behind.1.run.waiting.before

pub tally_row-requires-clause-ready : goal.tally_row-requires-clause-ready
tally_row-requires-clause-ready g c = ready-ended c.end_of-account.result c.args.account.now.k c.args.account.now.last _ c.requires.ready

pub returns-clause-lines : goal.returns-clause-lines
returns-clause-lines g c = same_lines _ _ _ _ _ (totals-is c.args.account.now.state _ _ _ c.is_at_rest.ensures c.done_in.ensures) c.write_totals.ensures

pub returns-clause-tallies : goal.returns-clause-tallies
returns-clause-tallies g c p can over =
    let a = c.args.account.now in
    record {
      row =
          subst (λ e. AddsKeptRow a.k a.last e c.args.tally.now.why c.args.tally.now.tables c.tally_row.new.tables) (last-until p a can.is over _ c.end_of-account.ensures)
          (row-ended c.end_of-account.result a.k a.last _ _ _ _ c.tally_row.ensures);
      dropped = ap (λ j. c.args.tally.now.dropped + j) (c.len.ensures.value ∙ last-dropped p a can.is over);
    }
