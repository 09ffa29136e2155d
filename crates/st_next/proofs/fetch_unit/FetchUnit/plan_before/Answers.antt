use Rattle.st_next.proofs.Common.{refl, arith}
use Rattle.st_next.proofs.Goes.{goes-then, goes-waits, known-then}
use Rattle.st_next.proofs.Steps.{plan-goes}
use Rattle.st_next.proofs.Asking.{known-seen, plan-words, plan-asks, plan-tells, further-then, further-nothing}
use Rattle.st_next.proofs.Telling.{told-then, told-nothing}
use Rattle.st_next.proofs.fetch_unit.FetchUnit.plan_before.Goals as goal

pub returns-then-is_waiting-clause-next : goal.returns-then-is_waiting-clause-next
returns-then-is_waiting-clause-next g c =
    goes-waits _ _ _ _ _ _ _ _ c.requires.unplanned (c.if-is_waiting.ensures.yes refl)

pub returns-then-is_waiting-clause-further : goal.returns-then-is_waiting-clause-further
returns-then-is_waiting-clause-further g c = further-nothing _ _ _ _

pub prepare_own_before-requires-clause-known : goal.prepare_own_before-requires-clause-known
prepare_own_before-requires-clause-known g c = (c.requires.known (c.if-is_waiting.ensures.no refl))

pub returns-then-not-prepare_own_before-clause-still : goal.returns-then-not-prepare_own_before-clause-still
returns-then-not-prepare_own_before-clause-still g c late = absurd (omega (arith, late, c.if-is_waiting.ensures.no refl))

pub returns-clause-still : goal.returns-clause-still
returns-clause-still g c late = absurd (omega (arith, late, c.if-is_waiting.ensures.no refl))

pub form-self-requires-clause-entry : goal.form-self-requires-clause-entry
form-self-requires-clause-entry g c =
    let p = (c.if-not-prepare_own_before.ensures.prepared refl) in
    known-seen _ _ _ _ _ _ _ c.if-not-prepare_own_before.ensures.unplanned (known-then _ _ _ _ _ _ _ _ _ (c.requires.known (c.if-is_waiting.ensures.no refl)) c.if-not-prepare_own_before.ensures.next) p.done _ refl p.found p.prepared

pub form-self-requires-clause-words : goal.form-self-requires-clause-words
form-self-requires-clause-words g c =
    let p = (c.if-not-prepare_own_before.ensures.prepared refl) in
    plan-words _ _ _ _ _ _ _ c.if-not-prepare_own_before.ensures.unplanned (known-then _ _ _ _ _ _ _ _ _ (c.requires.known (c.if-is_waiting.ensures.no refl)) c.if-not-prepare_own_before.ensures.next) p.done _ refl p.found p.prepared

pub returns-clause-next : goal.returns-clause-next
returns-clause-next g c =
    let p = (c.if-not-prepare_own_before.ensures.prepared refl) in
    goes-then _ _ _ _ _ _ _ _ _ _ _ c.if-not-prepare_own_before.ensures.next
    (plan-goes _ _ _ _ _ _ _ c.if-not-prepare_own_before.ensures.unplanned p.done _ refl _ _ p.found p.prepared (record {
      rest = refl;
      awaited = c.form-self.ensures.awaited;
      address = c.form-self.ensures.address;
      bus = c.form-self.ensures.bus;
      tick = c.form-self.ensures.tick;
    }))

pub returns-clause-further : goal.returns-clause-further
returns-clause-further g c =
    let p = (c.if-not-prepare_own_before.ensures.prepared refl) in
    further-then _ _ _ _ _ _ _ _ c.if-not-prepare_own_before.ensures.further
    (plan-asks _ _ _ _ _ _ _ c.if-not-prepare_own_before.ensures.unplanned (known-then _ _ _ _ _ _ _ _ _ (c.requires.known (c.if-is_waiting.ensures.no refl)) c.if-not-prepare_own_before.ensures.next) p.done _ refl p.found p.prepared _ _ _ (record {
      rest = refl;
      awaited = c.form-self.ensures.awaited;
      address = c.form-self.ensures.address;
      bus = c.form-self.ensures.bus;
      tick = c.form-self.ensures.tick;
    }) c.form-self.ensures.log)

pub returns-then-is_waiting-clause-told : goal.returns-then-is_waiting-clause-told
returns-then-is_waiting-clause-told g c = told-nothing g.W.Watch.noted _ _ g.met.W.Watch.noted_none _ _

pub returns-clause-told : goal.returns-clause-told
returns-clause-told g c =
    told-then g.W.Watch.noted _ _ g.met.W.Watch.noted_more _ _ _ _ _ _ c.if-not-prepare_own_before.ensures.told
    (plan-tells g.W.Watch.noted _ _ _ _ _ _ _ c.if-not-prepare_own_before.ensures.unplanned (record {
      rest = refl;
      awaited = c.form-self.ensures.awaited;
      address = c.form-self.ensures.address;
      bus = c.form-self.ensures.bus;
      tick = c.form-self.ensures.tick;
    }) c.form-self.ensures.told)
