use Rattle.st_run.proofs.Common.{sym, ◌∙◌, ap, arith, OutputQueue, queued_events}
use Rattle.st_run.proofs.WaitingLemmas.{waiting_events-none, without-items, none-mapped, none-there}
use Rattle.st_run.proofs.output_queue.OutputQueue.is_empty.Goals as goal

pub returns : goal.returns
returns c = λ is s.
    ap (λ (w : OutputQueue). queued_events w s) (sym c.self.view_is)
    ∙ waiting_events-none _ s (without-items c.self.inside.drops.items (omega arith)) (none-mapped (λ t. t.bytes) c.self.inside.text (sym c.is_some.ensures ∙ c.if-is_some.false))
    (none-there c.self.inside.taken (sym c.is_some-2.ensures ∙ c.if-is_some-2.false))
