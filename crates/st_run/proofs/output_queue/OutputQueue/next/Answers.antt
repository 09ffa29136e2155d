use Rattle.st_run.proofs.Common.{refl, sym, ◌∙◌, ap, OutputQueue, queued_events}
use Rattle.st_run.proofs.WaitingLemmas.{waiting_events-drop, waiting_events-text, waiting_events-taken, waiting_events-none, no-items, waiting-same}
use Rattle.st_run.proofs.output_queue.OutputQueue.next.Goals as goal

pub returns-in-Some-clause-told : goal.returns-in-Some-clause-told
returns-in-Some-clause-told c s =
    ap (λ (w : OutputQueue). queued_events w s) (sym c.self.view_is)
    ∙ waiting_events-drop _ c.pop.new.self.items (c.in-Some.address, c.in-Some.p) s c.in-Some.ensures.items

pub returns-in-Some-text-clause-told : goal.returns-in-Some-text-clause-told
returns-in-Some-text-clause-told c s =
    let none = no-items c.self.inside.drops.items c.in_default.ensures.variant.1 in
    let same = c.in_default.ensures.empty in
    ap (λ (w : OutputQueue). queued_events w s) (sym c.self.view_is)
    ∙ waiting_events-text _ _ c.in-Some-text.text.bytes s none (rw c.in-Some-text.is refl) (rw (same, none) refl)

pub returns-in_default-taken-clause-told : goal.returns-in_default-taken-clause-told
returns-in_default-taken-clause-told c s =
    ap (λ (w : OutputQueue). queued_events w s) (sym c.self.view_is)
    ∙ waiting_events-none _ s (no-items c.self.inside.drops.items c.in_default.ensures.variant.1)
    (rw c.in_default-text.is refl) (rw c.in_default-taken.is refl)

pub returns-clause-told : goal.returns-clause-told
returns-clause-told c s =
    let none = no-items c.self.inside.drops.items c.in_default.ensures.variant.1 in
    let same = c.in_default.ensures.empty in
    ap (λ (w : OutputQueue). queued_events w s) (sym c.self.view_is)
    ∙ waiting_events-taken _ _ c.in-Some-taken.indicator s none (rw c.in_default-text.is refl) (rw c.in-Some-taken.is refl)
    (rw (same, none, c.in_default-text.is) refl)

pub returns-in_default-taken-clause-none : goal.returns-in_default-taken-clause-none
returns-in_default-taken-clause-none c =
    waiting-same _ _ (ap (λ q. q.items) c.in_default.ensures.empty) refl refl ∙ c.self.view_is
