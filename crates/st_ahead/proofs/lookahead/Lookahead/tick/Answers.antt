use Rattle.st_ahead.proofs.Common.{◌≡◌, ◌<◌, ◌≤◌, None, refl, sym, subst, ◌∙◌, ap, arith, Machine, word, prediction, row_of_entry, issue_after_entry, entry, entry-ranges, prediction-machine, due-row, LookaheadView, IsLookahead, count, FetchUnit}
use Rattle.st_ahead.proofs.Gone.{outlook-of}
use Rattle.st_ahead.proofs.LevelTicks.{done-later, done-after}
use Rattle.st_ahead.proofs.DoneLookahead.{lookahead-without}
use Rattle.st_ahead.proofs.TickCases.{due-later, unprepared, prediction-words}
use Rattle.st_ahead.proofs.Laws.{lookaheads_are_levels}
use Rattle.st_ahead.proofs.lookahead.Lookahead.tick.Goals as goal

pub returns-then-is_due-clause-ticked : goal.returns-then-is_due-clause-ticked
returns-then-is_due-clause-ticked g c = λ ds tick t f one most are h next.
    let n = g.row.N in
    let now = c.args.now in
    let s = c.args.state.now in
    let inside : LookaheadView = record { levels = c.self.inside.levels; issue = c.self.inside.issue; log = c.self.inside.log; next = c.self.inside.next } in
    let is : inside ≡ c.args.self.now = c.self.view_is in
    let lookahead = subst (λ (w : LookaheadView). IsLookahead ds n tick now t s f w) (sym is) h in
    let oldest = due-row ds n tick now t s f inside.issue inside.levels.ring inside.levels.plans lookahead.outlook.ahead.levels
    (sym c.is_due.ensures.value ∙ c.if-is_due.true) in
    let due : (row_of_entry ds n f (entry t s)).c ≡ now = oldest.1 in
    let some : 1 ≤ count c.args.self.now = subst (λ (w : LookaheadView). 1 ≤ count w) is oldest.0 in
    let all = c.complete-done.ensures ds tick now t f are (outlook-of ds n tick now t s f c.args.self.now h) due in
    let s' = prediction t s in
    let machine = prediction-machine t s h.outlook.machine h.outlook.indicator in
    let late : now < (row_of_entry ds n (issue_after_entry ds n f (entry t s)) (entry None s')).c =
    omega (arith, oldest.2, done-later ds n None s' (issue_after_entry ds n f (entry t s)) machine tt) in
    let w = c.complete-done.new.self in
    let waits = done-after ds n tick now None s' (issue_after_entry ds n f (entry t s)) w.issue w.levels.ring w.levels.plans machine tt all.2.ahead.levels late in
    let filled = c.fill.ensures.filled ds tick now None s' (issue_after_entry ds n f (entry t s)) are all.2 (omega (arith, next some)) (omega arith) waits
    (λ w. ap (λ (u : Machine). word u w) all.0 ∙ prediction-words t s w) in
    record { due = due; told = all.1; state = all.0; lookahead = filled.0; log = filled.1 ∙ all.3; bus = ap (λ (x : FetchUnit). x.words) filled.2 ∙ all.4 }

pub returns-then-len-gt0-clause-ticked : goal.returns-then-len-gt0-clause-ticked
returns-then-len-gt0-clause-ticked g c = λ ds tick t f one most are h next.
    let n = g.row.N in
    let now = c.args.now in
    let s = c.args.state.now in
    let inside : LookaheadView = record { levels = c.self.inside.levels; issue = c.self.inside.issue; log = c.self.inside.log; next = c.self.inside.next } in
    let is : inside ≡ c.args.self.now = c.self.view_is in
    let lookahead = subst (λ (w : LookaheadView). IsLookahead ds n tick now t s f w) (sym is) h in
    let some : 1 ≤ count inside = omega (arith, c.len.ensures.value, c.if-len-gt0.true) in
    let soon = next (subst (λ (w : LookaheadView). 1 ≤ count w) is some) in
    let late = due-later ds n tick now t s f inside.issue inside.levels.ring inside.levels.plans lookahead.outlook.ahead.levels lookahead.outlook.not_done
    (sym c.is_due.ensures.value ∙ c.if-is_due.false) soon some in
    let v = c.args.self.now in
    let waits = done-after ds n tick now t s f v.issue v.levels.ring v.levels.plans h.outlook.machine h.outlook.indicator h.outlook.ahead.levels late in
    let filled = c.fill-then-len-gt0.ensures.filled ds tick now t s f are (outlook-of ds n tick now t s f v h) (omega (arith, soon)) (omega arith) waits (λ w. refl) in
    (refl, (λ same. absurd (omega (arith, late, same))), filled.0)

pub returns-else-len-gt0-clause-ticked : goal.returns-else-len-gt0-clause-ticked
returns-else-len-gt0-clause-ticked g c = λ ds tick t f one most are h next.
    let n = g.row.N in
    let now = c.args.now in
    let s = c.args.state.now in
    let v = c.args.self.now in
    let inside : LookaheadView = record { levels = c.self.inside.levels; issue = c.self.inside.issue; log = c.self.inside.log; next = c.self.inside.next } in
    let is : inside ≡ v = c.self.view_is in
    let empty : count v ≡ 0 = subst (λ (w : LookaheadView). count w ≡ 0) is (omega (arith, c.len.ensures.value, c.if-len-gt0.false)) in
    let lookahead = lookahead-without ds n tick now t s f v empty h in
    let none = lookaheads_are_levels ds n now now t s f v one most are (omega arith) (omega (arith, empty)) lookahead in
    (refl, unprepared ds n (count v) now t s f one empty are (entry-ranges t s h.outlook.machine h.outlook.indicator) h.outlook.oldest none, lookahead)
