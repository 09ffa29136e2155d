use Rattle.st_ahead.proofs.Common.{◌≡◌, ℕ, ◌-◌, ◌≤◌, true, false, List, inl, inr, sym, subst, ◌∙◌, ap, arith, ◌==◌, cases_Bool, IsKnown, GoesOnTo, due_of, LookaheadView, is_open, count, IsGoing}
use Rattle.st_ahead.proofs.Further.{going-planned, going-still, going-issue, open-waits, closed-waits, some-by, known, known-further}
use Rattle.st_ahead.proofs.Gone.{before-due, due-last, due-first}
use Rattle.st_ahead.proofs.Laws.{next_entries_are_known, open_levels_run_ahead}
use Rattle.st_ahead.proofs.lookahead.Lookahead.plan_before.Goals as goal

pub returns-then-self-clause-going : goal.returns-then-self-clause-going
returns-then-self-clause-going g c = λ t f tick given.
    let ds = c.args.delays.now.list in
    let n = g.row.N in
    let s = c.args.state.now in
    let view : LookaheadView = record { levels = c.self.inside.levels; issue = c.self.inside.issue; log = c.self.inside.log; next = c.self.inside.next } in
    let is = subst (λ (w : LookaheadView). IsGoing ds n tick tick t s f w) (sym c.self.view_is) given in
    subst (λ (w : LookaheadView). IsGoing ds n tick c.args.due t s f w) c.self.view_is
    (going-planned ds n tick tick c.args.due t s f view c.if-self.true is)

pub plan_before-requires-clause-known : goal.plan_before-requires-clause-known
plan_before-requires-clause-known g c = λ waits.
    let ds = c.args.delays.now.list in
    let n = g.row.N in
    let s = c.args.state.now in
    let due = c.args.due in
    let t = c.requires.going.goes.table in
    let f = c.requires.going.goes.issue in
    let tick = c.requires.going.tick in
    let view : LookaheadView = record { levels = c.self.inside.levels; issue = c.self.inside.issue; log = c.self.inside.log; next = c.self.inside.next } in
    let is = subst (λ (w : LookaheadView). IsGoing ds n tick tick t s f w) (sym c.self.view_is) c.requires.going.goes.going in
    let at : due ≡ due_of view.levels.plans = c.requires.due ∙ ap (λ (w : LookaheadView). due_of w.levels.plans) (sym c.self.view_is) in
    let opened : is_open view ≡ true =
    open-waits (count view == 0) view.issue.serial view.next.words.awaited view.issue.c due waits
    (λ none. omega (arith, at, due-last ds n tick t s f view.issue view.levels.ring view.levels.plans is.machine is.indicator is.ahead.levels (some-by (count view) none))) in
    let run = open_levels_run_ahead ds n tick t s f view is.ahead is.prepared is.not_done opened in
    let late = before-due ds n tick (due - 1) t s f view.issue view.levels.ring view.levels.plans is.machine is.indicator is.ahead.levels (omega (arith, waits, at)) in
    let before = next_entries_are_known ds n tick (due - 1) t s f view is.machine is.indicator is.ahead late
    (omega (arith, c.index.ensures.few, c.requires.few)) run in
    subst (λ (x : List ℕ). IsKnown ds n (due - 1) view.issue x s view.next) (sym c.index.ensures.words) (known ds n tick tick (due - 1) t s f view is opened before)

pub plan_before-requires-clause-issue : goal.plan_before-requires-clause-issue
plan_before-requires-clause-issue g c =
    let ds = c.args.delays.now.list in
    let n = g.row.N in
    let s = c.args.state.now in
    let t = c.requires.going.goes.table in
    let f = c.requires.going.goes.issue in
    let tick = c.requires.going.tick in
    let view : LookaheadView = record { levels = c.self.inside.levels; issue = c.self.inside.issue; log = c.self.inside.log; next = c.self.inside.next } in
    let is = subst (λ (w : LookaheadView). IsGoing ds n tick tick t s f w) (sym c.self.view_is) c.requires.going.goes.going in
    going-issue ds n tick tick t s f view is c.requires.few c.index.ensures.few
    (omega (arith, c.requires.going.soon))

pub returns-clause-going : goal.returns-clause-going
returns-clause-going g c = λ t f tick given.
    let ds = c.args.delays.now.list in
    let n = g.row.N in
    let s = c.args.state.now in
    let due = c.args.due in
    let view : LookaheadView = record { levels = c.self.inside.levels; issue = c.self.inside.issue; log = c.self.inside.log; next = c.self.inside.next } in
    let is = subst (λ (w : LookaheadView). IsGoing ds n tick tick t s f w) (sym c.self.view_is) given in
    let at : due ≡ due_of view.levels.plans = c.requires.due ∙ ap (λ (w : LookaheadView). due_of w.levels.plans) (sym c.self.view_is) in
    let last : (count view == 0) ≡ false → due ≤ view.issue.c =
    (λ none. omega (arith, at, due-last ds n tick t s f view.issue view.levels.ring view.levels.plans is.machine is.indicator is.ahead.levels (some-by (count view) none))) in
    elim (cases_Bool (is_open view)) [
      | inl opened ↦
          let run = open_levels_run_ahead ds n tick t s f view is.ahead is.prepared is.not_done opened in
          let first = due-first ds n tick due t s f view is at in
          let late = before-due ds n tick (due - 1) t s f view.issue view.levels.ring view.levels.plans is.machine is.indicator is.ahead.levels (omega (arith, at, first)) in
          let before = next_entries_are_known ds n tick (due - 1) t s f view is.machine is.indicator is.ahead late
          (omega (arith, c.index.ensures.few, c.requires.few)) run in
          let goes = subst (λ (x : List ℕ). GoesOnTo ds n (due - 1) view.issue x s view.next c.plan_before.new.self due) c.index.ensures.words c.plan_before.ensures.next in
          known-further ds n tick due t s f view c.plan_before.new.self c.plan_before.new.log opened c.if-self.false before goes c.plan_before.ensures.further is
      | inr closed ↦
          let still = c.plan_before.ensures.still (closed-waits (count view == 0) view.issue.serial view.next.words.awaited view.issue.c due closed last) in
          going-still ds n tick tick due t s f view c.plan_before.new.self c.plan_before.new.log still.0 still.1 closed is
    ]
