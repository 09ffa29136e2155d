use Rattle.st_next.proofs.Common.{refl, sym, ◌∙◌, ap, arith, Next, delays-are}
use Rattle.st_next.proofs.Steps.{own-goes}
use Rattle.st_next.proofs.Asking.{known-early, known-place, own-above, own-asks, own-tells, further-nothing}
use Rattle.st_next.proofs.fetch_unit.FetchUnit.begin.Goals as goal

pub returns-then-self-ne0-clause-further : goal.returns-then-self-ne0-clause-further
returns-then-self-ne0-clause-further g c = further-nothing _ _ _ _

pub given-requires-clause-place : goal.given-requires-clause-place
given-requires-clause-place g c = known-place _ _ _ _ _ _ _ c.requires.unplanned c.requires.known

pub ask_own-requires-clause-room : goal.ask_own-requires-clause-room
ask_own-requires-clause-room g c =
    known-early _ _ _ _ _ _ _ c.requires.unplanned c.requires.known (delays-are c.args.context.now.timing.delays.now) c.requires.issue

pub ask_own-requires-clause-storage : goal.ask_own-requires-clause-storage
ask_own-requires-clause-storage g c =
    own-above _ _ _ _ _ _ _ c.requires.unplanned c.requires.known (omega arith) _ refl _ (sym c.in-Next-default-false.ensures.value ∙ ap (λ t. Next c.in-Next-default-false.word t) c.in-Next-default-false.target-test)

pub returns-in-Next-default-false-clause-next : goal.returns-in-Next-default-false-clause-next
returns-in-Next-default-false-clause-next g c =
    own-goes _ _ _ _ _ _ _ c.requires.unplanned (omega arith) _ refl _ _ (sym c.in-Next-default-false.ensures.value ∙ ap (λ t. Next c.in-Next-default-false.word t) c.in-Next-default-false.target-test) c.ask_own.ensures.next

pub returns-in-Next-default-false-clause-further : goal.returns-in-Next-default-false-clause-further
returns-in-Next-default-false-clause-further g c =
    own-asks _ _ _ _ _ _ _ c.requires.unplanned c.requires.known (omega arith) _ refl _ _ _ _ (sym c.in-Next-default-false.ensures.value ∙ ap (λ t. Next c.in-Next-default-false.word t) c.in-Next-default-false.target-test) c.ask_own.ensures.next c.ask_own.ensures.log

pub returns-then-given-clause-further : goal.returns-then-given-clause-further
returns-then-given-clause-further g c = further-nothing _ _ _ _

pub returns-else-self-ne0-2-clause-further : goal.returns-else-self-ne0-2-clause-further
returns-else-self-ne0-2-clause-further g c = further-nothing _ _ _ _

pub returns-in-Next-default-false-clause-told : goal.returns-in-Next-default-false-clause-told
returns-in-Next-default-false-clause-told g c =
    own-tells _ _ _ _ _ _ _ c.requires.unplanned c.requires.known (omega arith) _ refl g.W.Watch.noted _ _ _ _ (sym c.in-Next-default-false.ensures.value ∙ ap (λ t. Next c.in-Next-default-false.word t) c.in-Next-default-false.target-test) c.ask_own.ensures.next c.ask_own.ensures.told
