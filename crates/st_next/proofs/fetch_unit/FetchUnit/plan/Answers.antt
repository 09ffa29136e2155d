use Rattle.st_next.proofs.Common.{◌-◌, ◌^◌, refl, sym, ◌∙◌, ap, arith, delays-are, entry-ranges, FetchUnit, Needs, Entry, side_to_read}
use Rattle.st_next.proofs.Planning.{IsAdvanced, side-read, self-before, fresh-known, after-next, after-planned, after-known, after-ready, after-log, after-told}
use Rattle.st_next.proofs.fetch_unit.FetchUnit.plan.Given.{Over}
use Rattle.st_next.proofs.fetch_unit.FetchUnit.plan.Goals.{After-plan_before}
use Rattle.st_next.proofs.fetch_unit.FetchUnit.plan.Goals as goal

advanced : (g : Over) (c : After-plan_before g)
    → IsAdvanced c.args.context.now.timing.delays.now.list c.args.context.now.timing.levels c.args.context.now.issue.now c.args.context.now.index.now c.args.context.now.state.now
    c.args.table c.restart.new.self (2 ^ 64 - 1 - 1) (2 ^ 64 - 1) c.plan_before.new.self
advanced g c = record {
  place = c.restart.ensures.place ∙ c.place_of.ensures.value;
  unread = c.restart.ensures.unread;
  machine = c.place_of.ensures.machine;
  index = c.requires.index;
  table = c.requires.indicator;
  goes = c.plan_before.ensures.next;
  are = delays-are c.args.context.now.timing.delays.now;
  issue = c.requires.issue;
  late = omega (arith, c.requires.issue.early);
}

pub plan_before-requires-clause-known : goal.plan_before-requires-clause-known
plan_before-requires-clause-known g c =
    λ waits. fresh-known _ _ _ _ _ c.args.table _ (c.restart.ensures.place ∙ c.place_of.ensures.value) c.restart.ensures.unread c.place_of.ensures.machine c.requires.index c.requires.indicator _

pub prepare-requires-clause-planned : goal.prepare-requires-clause-planned
prepare-requires-clause-planned g c = after-planned (advanced g (goal.at.prepare-requires-clause-planned g c).After-plan_before)

pub prepare-requires-clause-ready : goal.prepare-requires-clause-ready
prepare-requires-clause-ready g c = after-ready (advanced g (goal.at.prepare-requires-clause-ready g c).After-plan_before)

pub returns-clause-prepared : goal.returns-clause-prepared
returns-clause-prepared g c =
    c.prepare.ensures.value _ _ _ _ c.args.table _ c.requires.indicator (self-before _ _ _ _ c.place_of.ensures.machine c.requires.index)
    (after-next (advanced g (goal.at.returns-clause-prepared g c).After-plan_before)) refl (λ alone. refl)

pub returns-clause-entry : goal.returns-clause-entry
returns-clause-entry g c = ap (λ (m : FetchUnit). m.entry) c.prepare.ensures.rest ∙ (after-known (advanced g (goal.at.returns-clause-entry g c).After-plan_before)).entry

pub returns-clause-in_time : goal.returns-clause-in_time
returns-clause-in_time g c =
    rw (returns-clause-entry g c) (entry-ranges c.args.table c.args.context.now.state.now c.place_of.ensures.machine c.requires.indicator)

pub returns-clause-needs : goal.returns-clause-needs
returns-clause-needs g c = ap (λ (m : FetchUnit). m.needs) c.prepare.ensures.rest ∙ (after-known (advanced g (goal.at.returns-clause-needs g c).After-plan_before)).needs

pub returns-clause-side : goal.returns-clause-side
returns-clause-side g c =
    ap (λ (m : FetchUnit). m.entry.side) c.prepare.ensures.rest
    ∙ ap (λ (e : Entry). e.side) (after-known (advanced g (goal.at.returns-clause-side g c).After-plan_before)).entry ∙ side-read c.args.table c.args.context.now.state.now
    ∙ ap (λ (k : Needs). side_to_read k.index_read) (sym (returns-clause-needs g c))

pub returns-clause-address : goal.returns-clause-address
returns-clause-address g c = ap (λ (m : FetchUnit). m.formed.a) c.prepare.ensures.rest ∙ (after-known (advanced g (goal.at.returns-clause-address g c).After-plan_before)).address

pub returns-clause-tick : goal.returns-clause-tick
returns-clause-tick g c = ap (λ (m : FetchUnit). m.formed.p) c.prepare.ensures.rest ∙ (after-known (advanced g (goal.at.returns-clause-tick g c).After-plan_before)).tick

pub returns-clause-bus : goal.returns-clause-bus
returns-clause-bus g c = ap (λ (m : FetchUnit). m.words.bus) c.prepare.ensures.rest ∙ (after-known (advanced g (goal.at.returns-clause-bus g c).After-plan_before)).bus

pub returns-clause-log : goal.returns-clause-log
returns-clause-log g c = after-log (advanced g (goal.at.returns-clause-log g c).After-plan_before) _ _ c.plan_before.ensures.further

pub returns-clause-told : goal.returns-clause-told
returns-clause-told g c = after-told (advanced g (goal.at.returns-clause-told g c).After-plan_before) g.W.Watch.noted _ _ c.plan_before.ensures.told
