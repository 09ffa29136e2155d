use Rattle.st_run.proofs.Common.{Some, Bool, ℕ, ◌≡◌, Option, refl, arith, sym, subst, ◌∙◌, ap, Overlap, MayServe, serve-settles, IsLed, IsLedOn, Together, Decided, IsChoice}
use Rattle.st_run.proofs.LedLemmas.{settle-led}
use Rattle.st_run.proofs.ChoiceLemmas.{outcome, chosen, waits-serves, waits-led, waits-rest, waits-ends}
use Rattle.st_run.proofs.leaving.decide.Goals.{in-Goes, in-Interrupt, in-Mispredicted}
use Rattle.st_run.proofs.leaving.decide.Goals as goal

pub end_run-requires-in-Waits : goal.end_run-requires-in-Waits
end_run-requires-in-Waits g c = (
  omega arith,
  waits-serves c.args.driven.now c.driven-2.inside.machine c.settle.new.self _ _ c.driven-2.view_is c.requires
      (sym c.settle.ensures.answer ∙ c.in-Waits.is) c.settle.ensures.after,
)

pub returns-in-Waits-clause-choice : goal.returns-in-Waits-clause-choice
returns-in-Waits-clause-choice g c =
    let waits = sym c.settle.ensures.answer ∙ c.in-Waits.is in
    let rest = waits-rest c.args.driven.now c.driven-2.inside.machine c.settle.new.self _ _ c.driven-2.view_is c.requires waits c.settle.ensures.after in
    let ends = waits-ends c.args.driven.now c.driven-2.inside.machine c.settle.new.self _ _ c.driven-2.view_is c.requires waits c.settle.ensures.after in
    subst {A = Decided} (λ d. IsChoice d.turn c.args.left c.args.over c.args.driven.now.machine d c.end_run-in-Waits.new.driven.machine) (sym c.end_run-in-Waits.ensures.value)
    (rest, (λ no. absurd (cc no)), refl, refl, ap {A = Together} (λ t. t.machine) c.end_run-in-Waits.ensures.rest ∙ ends)

pub returns-in-Waits-clause-led : goal.returns-in-Waits-clause-led
returns-in-Waits-clause-led g c = λ start led.
    c.end_run-in-Waits.ensures.led start
    (waits-led c.args.driven.now c.driven-2.inside.machine c.settle.new.self _ _ c.driven-2.view_is c.requires
    (sym c.settle.ensures.answer ∙ c.in-Waits.is) c.settle.ensures.after start led)

pub returns-clause-choice : goal.returns-clause-choice
returns-clause-choice g c =
    let machine : c.match-settle.driven.machine ≡ c.settle.new.self = elim c.match-settle.branch [
      | in-Goes w ↦ ap {A = Together} (λ t. t.machine) w.driven-is
      | in-Interrupt w ↦ ap {A = Together} (λ t. t.machine) w.driven-is
      | in-Mispredicted w ↦ ap {A = Together} (λ t. t.machine) w.driven-is
    ] in
    let picks : outcome c.settle.result c.args.over ≡ Some c.match-settle.ends = elim c.match-settle.branch [
      | in-Goes w ↦ ap (λ a. outcome a c.args.over) w.in-Goes.is ∙ ap (λ (x : Bool × Option ℕ). Some x) (sym w.ends-is)
      | in-Interrupt w ↦ ap (λ a. outcome a c.args.over) w.in-Interrupt.is ∙ ap (λ (x : Bool × Option ℕ). Some x) (sym w.ends-is)
      | in-Mispredicted w ↦ ap (λ a. outcome a c.args.over) w.in-Mispredicted.is ∙ ap (λ (x : Bool × Option ℕ). Some x) (sym w.ends-is)
    ] in
    chosen c.args.left c.args.over c.args.driven.now c.driven-2.inside.machine c.match-settle.driven.machine _ _ c.settle.result c.match-settle.ends
    c.driven-2.view_is c.if-left-eq0.false c.settle.ensures.answer (machine ∙ c.settle.ensures.after) picks

pub returns-clause-led : goal.returns-clause-led
returns-clause-led g c =
    let machine : c.match-settle.driven.machine ≡ c.settle.new.self = elim c.match-settle.branch [
      | in-Goes w ↦ ap {A = Together} (λ t. t.machine) w.driven-is
      | in-Interrupt w ↦ ap {A = Together} (λ t. t.machine) w.driven-is
      | in-Mispredicted w ↦ ap {A = Together} (λ t. t.machine) w.driven-is
    ] in
    let may = subst (λ (t : Together). MayServe t.machine) (sym c.driven-2.view_is) c.requires in
    subst {A = Together} (λ t. IsLedOn t.machine c.match-settle.driven.machine) c.driven-2.view_is (λ start led.
    subst {A = Overlap} (IsLed start) (sym (machine ∙ c.settle.ensures.after)) (settle-led c.driven-2.inside.machine (serve-settles c.driven-2.inside.machine.phase may) led))
