use Rattle.st_next.proofs.Common.{◌+◌, ◌-◌, [], subst, refl, sym, ◌∙◌, ap, arith, Next, AdvancesTo, IsReadFurther, IsPreparedBy, bus_after_reads, log_after_reads, delays-are}
use Rattle.std.proofs.Common.{append-nil}
use Rattle.st_next.specs.declared.fetch_unit.FetchUnit.{FetchUnit as Entry}
use Rattle.st_next.proofs.Steps.{own-goes, target-goes, target-waits, prepared-goes}
use Rattle.st_next.proofs.Asking.{known-words, known-early, known-place, own-above, target-above, own-asks, target-asks, own-tells, target-tells, further-nothing}
use Rattle.st_next.proofs.Telling.{told-nothing}
use Rattle.st_next.proofs.fetch_unit.FetchUnit.advance.Goals as goal

pub given-requires-clause-place : goal.given-requires-clause-place
given-requires-clause-place g c = known-place _ _ _ _ _ _ _ c.requires.unplanned c.requires.known

pub given-requires-clause-words : goal.given-requires-clause-words
given-requires-clause-words g c = known-words _ _ _ _ _ _ _ c.requires.unplanned c.requires.known

pub ask_target-requires-clause-words : goal.ask_target-requires-clause-words
ask_target-requires-clause-words g c = let are = known-words _ _ _ _ _ _ _ c.requires.unplanned c.requires.known in omega (arith, are.target_few)

pub ask_target-requires-clause-room : goal.ask_target-requires-clause-room
ask_target-requires-clause-room g c =
    known-early _ _ _ _ _ _ _ c.requires.unplanned c.requires.known (delays-are c.args.context.now.timing.delays.now) c.requires.issue

pub ask_target-requires-clause-storage : goal.ask_target-requires-clause-storage
ask_target-requires-clause-storage g c =
    target-above _ _ _ _ _ _ _ c.requires.unplanned c.requires.known (omega (arith, c.requires.soon)) _ refl _ (sym c.in-Next-default-true.ensures.value ∙ ap (λ t. Next c.in-Next-default-true.word t) c.in-Next-default-true.target-test)

pub ask_own-requires-clause-words : goal.ask_own-requires-clause-words
ask_own-requires-clause-words g c = let are = known-words _ _ _ _ _ _ _ c.requires.unplanned c.requires.known in omega (arith, are.own_few)

pub ask_own-requires-clause-room : goal.ask_own-requires-clause-room
ask_own-requires-clause-room g c =
    known-early _ _ _ _ _ _ _ c.requires.unplanned c.requires.known (delays-are c.args.context.now.timing.delays.now) c.requires.issue

pub ask_own-requires-clause-storage : goal.ask_own-requires-clause-storage
ask_own-requires-clause-storage g c =
    own-above _ _ _ _ _ _ _ c.requires.unplanned c.requires.known (omega (arith, c.requires.soon)) _ refl _ (sym c.in-Next-default-false.ensures.value ∙ ap (λ t. Next c.in-Next-default-false.word t) c.in-Next-default-false.target-test)

pub prepare_found-requires-clause-place : goal.prepare_found-requires-clause-place
prepare_found-requires-clause-place g c = known-place _ _ _ _ _ _ _ c.requires.unplanned c.requires.known

pub returns-in-Next-default-false-clause-next : goal.returns-in-Next-default-false-clause-next
unfolding AdvancesTo
returns-in-Next-default-false-clause-next g c = ((own-goes _ _ _ _ _ _ _ c.requires.unplanned (omega (arith, c.requires.soon)) _ refl _ _ (sym c.in-Next-default-false.ensures.value ∙ ap (λ t. Next c.in-Next-default-false.word t) c.in-Next-default-false.target-test) c.ask_own.ensures.next), ap (λ (x : Entry). x.entry.own.len + x.entry.target.len) c.ask_own.ensures.next ∙ omega arith)

pub returns-in-Next-default-false-clause-further : goal.returns-in-Next-default-false-clause-further
returns-in-Next-default-false-clause-further g c = (own-asks _ _ _ _ _ _ _ c.requires.unplanned c.requires.known (omega (arith, c.requires.soon)) _ refl _ _ _ _ (sym c.in-Next-default-false.ensures.value ∙ ap (λ t. Next c.in-Next-default-false.word t) c.in-Next-default-false.target-test) c.ask_own.ensures.next c.ask_own.ensures.log)

pub returns-in-Next-default-false-clause-told : goal.returns-in-Next-default-false-clause-told
returns-in-Next-default-false-clause-told g c = (own-tells _ _ _ _ _ _ _ c.requires.unplanned c.requires.known (omega (arith, c.requires.soon)) _ refl g.W.Watch.noted _ _ _ _ (sym c.in-Next-default-false.ensures.value ∙ ap (λ t. Next c.in-Next-default-false.word t) c.in-Next-default-false.target-test) c.ask_own.ensures.next c.ask_own.ensures.told)

pub returns-in-Next-default-false-clause-unplanned : goal.returns-in-Next-default-false-clause-unplanned
returns-in-Next-default-false-clause-unplanned g c = ap (λ (x : Entry). x.planned) c.ask_own.ensures.next ∙ c.requires.unplanned

pub returns-else-issue-due-clause-next : goal.returns-else-issue-due-clause-next
unfolding AdvancesTo
returns-else-issue-due-clause-next g c = ((target-goes _ _ _ _ _ _ _ c.requires.unplanned (omega (arith, c.requires.soon)) _ refl _ _ (sym c.in-Next-default-true.ensures.value ∙ ap (λ t. Next c.in-Next-default-true.word t) c.in-Next-default-true.target-test) c.ask_target.ensures.next), ap (λ (x : Entry). x.entry.own.len + x.entry.target.len) c.ask_target.ensures.next ∙ omega arith)

pub returns-else-issue-due-clause-further : goal.returns-else-issue-due-clause-further
returns-else-issue-due-clause-further g c = (target-asks _ _ _ _ _ _ _ c.requires.unplanned c.requires.known (omega (arith, c.requires.soon)) _ refl _ _ _ _ (sym c.in-Next-default-true.ensures.value ∙ ap (λ t. Next c.in-Next-default-true.word t) c.in-Next-default-true.target-test) c.ask_target.ensures.next c.ask_target.ensures.log)

pub returns-else-issue-due-clause-told : goal.returns-else-issue-due-clause-told
returns-else-issue-due-clause-told g c = (target-tells _ _ _ _ _ _ _ c.requires.unplanned c.requires.known (omega (arith, c.requires.soon)) _ refl g.W.Watch.noted _ _ _ _ (sym c.in-Next-default-true.ensures.value ∙ ap (λ t. Next c.in-Next-default-true.word t) c.in-Next-default-true.target-test) c.ask_target.ensures.next c.ask_target.ensures.told)

pub returns-else-issue-due-clause-unplanned : goal.returns-else-issue-due-clause-unplanned
returns-else-issue-due-clause-unplanned g c = ap (λ (x : Entry). x.planned) c.ask_target.ensures.next ∙ c.requires.unplanned

pub returns-then-issue-due-clause-next : goal.returns-then-issue-due-clause-next
unfolding AdvancesTo
returns-then-issue-due-clause-next g c = (target-waits _ _ _ _ _ _ _ c.requires.unplanned (omega (arith, c.requires.soon)) _ refl _ _ (sym c.in-Next-default-true.ensures.value ∙ ap (λ t. Next c.in-Next-default-true.word t) c.in-Next-default-true.target-test) c.if-issue-due.true)

pub returns-then-issue-due-clause-further : goal.returns-then-issue-due-clause-further
returns-then-issue-due-clause-further g c = further-nothing _ _ _ _

pub returns-then-issue-due-clause-told : goal.returns-then-issue-due-clause-told
returns-then-issue-due-clause-told g c = told-nothing g.W.Watch.noted _ _ g.met.W.Watch.noted_none _ _

pub returns-in-Found-clause-next : goal.returns-in-Found-clause-next
unfolding AdvancesTo
returns-in-Found-clause-next g c = (
  (prepared-goes _ _ _ _ _ _ _ c.requires.unplanned (omega (arith, c.requires.soon)) _ refl _ _ c.prepare_found.ensures.value),
  subst (λ (n : Entry). IsPreparedBy (c.args.due - 1) c.args.context.now.index.now c.args.context.now.state.now n) (sym c.prepare_found.ensures.value)
      (record { found = sym c.in-Found.ensures.value; done = omega (arith, c.requires.soon); prepared = refl }),
)

-- an entry that is not planned has no other reads than those of its instruction words
pub returns-in-Found-clause-further : goal.returns-in-Found-clause-further
unfolding bus_after_reads log_after_reads
returns-in-Found-clause-further g c =
    let ds = c.args.context.now.timing.delays.now.list in
    let f = c.args.context.now.issue.now in
    let before = c.args.self.now in
    let log = c.args.log.now in
    subst (λ (n : Entry). IsReadFurther ds f before n log log) (sym c.prepare_found.ensures.value)
    (record { added = []; so_far = rw c.requires.unplanned (sym (append-nil _)); bus = refl; kept = refl })
