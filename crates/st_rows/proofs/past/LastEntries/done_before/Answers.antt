use Rattle.st_rows.proofs.Common.{◌≡◌, ◌+◌, ◌-◌, ◌%◌, get_or, ap, ◌∙◌, arith, get_or_default, no_entry, done_before, Done}
use Rattle.st_rows.proofs.Places.{count-places, tick-at}
use Rattle.st_rows.proofs.past.LastEntries.done_before.Goals as goal

pub returns : goal.returns
returns c =
    let q = c.self.inside in
    let counted = count-places q.head q.done q.writes q.writers q.bounds.low q.bounds.high c.self.invariant in
    let place : (q.head + c.args.n - 1) % 8 ≡ (q.head + (c.args.n - 1)) % 8 = omega (arith, c.requires.0) in
    ap (λ (it : Done). it.c) (get_or_default q.done ((q.head + c.args.n - 1) % 8) _ no_entry (omega (arith, counted)))
    ∙ ap (λ j. (get_or q.done j no_entry).c) place
    ∙ tick-at q.head q.done q.writes q.writers q.bounds.low q.bounds.high c.self.invariant (c.args.n - 1) no_entry (omega (arith, c.requires.1))
    ∙ ap (done_before c.args.n) c.self.view_is
