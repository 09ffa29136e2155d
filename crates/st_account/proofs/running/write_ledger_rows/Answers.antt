use Rattle.st_account.proofs.Common.{min, ◌+◌, refl, arith, sym, ◌∙◌, origin_at, at_hand}
use Rattle.st_account.proofs.RoundLemmas.{rows-fail, rows-written}
use Rattle.st_account.proofs.running.write_ledger_rows.Goals as goal

pub write_run-requires : goal.write_run-requires
write_run-requires g c = record {
  fresh = c.requires.ready.fresh;
  cards = c.requires.ready.cards;
  levels = c.requires.ready.levels;
  signals = c.requires.ready.signals;
  limit = omega (arith, c.requires.ready.limit, c.min.ensures, c.from.ensures, c.budget.ensures);
  size = c.requires.ready.size;
}

pub returns-in_err-write_machine : goal.returns-in_err-write_machine
returns-in_err-write_machine g c =
    rows-fail (origin_at c.args.ready.origins) c.args.ready.delays.list c.args.ready.levels (min c.args.most c.args.controls.now.budget) c.args.skipped
    (at_hand c.args.ready.state c.args.controls.now.signals c.args.ready.cards) _ _ _ (c.delays.ensures ∙ sym c.requires.delays) _ c.from_residual.result
    c.from_residual.ensures.0 c.in_err-write_machine.ensures

pub returns : goal.returns
returns g c =
    rows-written (origin_at c.args.ready.origins) c.args.ready.delays.list c.args.ready.levels (min c.args.most c.args.controls.now.budget) c.args.skipped
    (at_hand c.args.ready.state c.args.controls.now.signals c.args.ready.cards) _ _ _ (c.delays.ensures ∙ sym c.requires.delays) _ _ c.write_run.result
    c.min.result (c.from-2.result + 1) (rw (c.min.ensures, c.from.ensures, c.budget.ensures) refl) (omega (arith, c.from-2.ensures)) c.in_ok-write_machine.ensures c.write_run.ensures.lines
