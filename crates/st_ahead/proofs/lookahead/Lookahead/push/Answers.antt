use Rattle.st_ahead.proofs.Common.{rules, ◌≡◌, ℕ, ◌+◌, ◌<◌, ◌≤◌, true, List, [], ◌∷◌, ◌++◌, length, length-append, refl, sym, subst, ◌∙◌, ap, arith, plan, prepared_asked, log_after_reads, IsEntryInTime, IsTight, row_of_entry, issue_after_entry, tick_a, bus_a, tick_p, fills, Bus, Entry, Fetching, IssueState, delays-are, entry, predictions, table_behind, AreAhead, IsStateBefore, FetchUnit, LookaheadView, count, IsGoing, Level, predictions_leave_the_rest}
use Rattle.st_rows.specs.declared.issue.EntryTicks.{EntryTicks}
use Rattle.st_rows.specs.declared.issue.Formed.{Formed}
use Rattle.st_ahead.proofs.Due.{row-p}
use Rattle.st_ahead.proofs.Pushed.{going-pushed}
use Rattle.st_ahead.proofs.Laws.{planned_entries_become_levels}
use Rattle.st_rows.proofs.Laws.{completions_are_bounded, rows_are_in_order}
use Rattle.st_ahead.proofs.lookahead.Lookahead.push.Goals as goal

-- no word is fetched yet
abbrev begun : Bus → Fetching
begun b = record { bus = b; answered = 0; awaited = 0 }

pub prepare-requires-clause-ready : goal.prepare-requires-clause-ready
prepare-requires-clause-ready g c =
    let ds = c.args.delays.now.list in
    let n = g.row.N in
    let now = c.args.now in
    let t = c.requires.going.table in
    let s = c.args.state.now in
    let f = c.requires.going.issue in
    let view : LookaheadView = record { levels = c.self.inside.levels; issue = c.self.inside.issue; log = c.self.inside.log; next = c.self.inside.next } in
    let is = subst (λ (w : LookaheadView). IsGoing ds n now (now + 1) t s f w) (sym c.self.view_is) c.requires.going.going in
    let planned : view.next.planned ≡ true = ap (λ (w : LookaheadView). w.next.planned) c.self.view_is ∙ c.requires.planned in
    let due : view.next.formed.p ≡ now = ap (λ (w : LookaheadView). w.next.formed.p) c.self.view_is ∙ c.requires.due in
    let becomes = planned_entries_become_levels ds n now t s f view c.requires.some c.requires.few
    (delays-are c.args.delays.now) c.index.ensures.few c.requires.early is planned due in
    let u = predictions (count view) t s in
    record {
      delays = ds;
      levels = n;
      tick = now;
      issue = view.issue;
      known = record {
        table = table_behind (count view) t;
        state = u;
        indicator = becomes.indicator;
        before = subst (λ (words : List ℕ). IsStateBefore now view.issue.past words s u) (sym c.index.ensures.words) becomes.before;
        is_next = becomes.is_next;
      };
    }

-- the issue state is still that of the planned entry, and `prepare` leaves the entry and its ticks
pub fill-filled-requires : goal.fill-filled-requires
fill-filled-requires g c =
    let ds = c.args.delays.now.list in
    let n = g.row.N in
    let now = c.args.now in
    let t = c.requires.going.table in
    let s = c.args.state.now in
    let f = c.requires.going.issue in
    let view : LookaheadView = record { levels = c.self.inside.levels; issue = c.self.inside.issue; log = c.self.inside.log; next = c.self.inside.next } in
    let is = subst (λ (w : LookaheadView). IsGoing ds n now (now + 1) t s f w) (sym c.self.view_is) c.requires.going.going in
    let planned : view.next.planned ≡ true = ap (λ (w : LookaheadView). w.next.planned) c.self.view_is ∙ c.requires.planned in
    let due : view.next.formed.p ≡ now = ap (λ (w : LookaheadView). w.next.formed.p) c.self.view_is ∙ c.requires.due in
    let becomes = planned_entries_become_levels ds n now t s f view c.requires.some c.requires.few
    (delays-are c.args.delays.now) c.index.ensures.few c.requires.early is planned due in
    let entry_is : c.prepare.new.self.entry ≡ view.next.entry = ap (λ (next : FetchUnit). next.entry) c.prepare.ensures.rest in
    let same : c.prepare.new.self.entry ≡ entry (table_behind (count view) t) (predictions (count view) t s) = entry_is ∙ (becomes.is_next.planned planned).entry in
    let formed_is : c.prepare.new.self.formed ≡ view.next.formed = ap (λ (next : FetchUnit). next.formed) c.prepare.ensures.rest in
    let words_are : c.prepare.new.self.words ≡ view.next.words = ap (λ (next : FetchUnit). next.words) c.prepare.ensures.rest in
    record {
      entry = subst (λ (e : Entry). IsEntryInTime e) (sym entry_is) becomes.range;
      tight = is.tight;
      early = omega (arith, becomes.early);
      address = ap (λ (x : Formed). x.a) formed_is ∙ (becomes.is_next.planned planned).address ∙ ap (tick_a ds view.issue) (sym same);
      bus = ap (λ (x : Fetching). x.bus) words_are ∙ (becomes.is_next.planned planned).bus ∙ ap (bus_a ds view.issue) (sym same);
      tick = ap (λ (x : Formed). x.p) formed_is ∙ (becomes.is_next.planned planned).tick ∙ ap (tick_p ds n view.issue) (sym same);
      one = search rules;
      two = search rules;
    }

pub push-requires : goal.push-requires
push-requires g c =
    let ds = c.args.delays.now.list in
    let n = g.row.N in
    let now = c.args.now in
    let t = c.requires.going.table in
    let s = c.args.state.now in
    let f = c.requires.going.issue in
    let view : LookaheadView = record { levels = c.self.inside.levels; issue = c.self.inside.issue; log = c.self.inside.log; next = c.self.inside.next } in
    let is = subst (λ (w : LookaheadView). IsGoing ds n now (now + 1) t s f w) (sym c.self.view_is) c.requires.going.going in
    let planned : view.next.planned ≡ true = ap (λ (w : LookaheadView). w.next.planned) c.self.view_is ∙ c.requires.planned in
    let due : view.next.formed.p ≡ now = ap (λ (w : LookaheadView). w.next.formed.p) c.self.view_is ∙ c.requires.due in
    let becomes = planned_entries_become_levels ds n now t s f view c.requires.some c.requires.few
    (delays-are c.args.delays.now) c.index.ensures.few c.requires.early is planned due in (omega arith, (becomes.room, c.prepare.ensures.ranges))

pub returns-clause-going : goal.returns-clause-going
returns-clause-going g c = λ t f given.
    let ds = c.args.delays.now.list in
    let n = g.row.N in
    let now = c.args.now in
    let s = c.args.state.now in
    let view : LookaheadView = record { levels = c.self.inside.levels; issue = c.self.inside.issue; log = c.self.inside.log; next = c.self.inside.next } in
    let is = subst (λ (w : LookaheadView). IsGoing ds n now (now + 1) t s f w) (sym c.self.view_is) given in
    let planned : view.next.planned ≡ true = ap (λ (w : LookaheadView). w.next.planned) c.self.view_is ∙ c.requires.planned in
    let due : view.next.formed.p ≡ now = ap (λ (w : LookaheadView). w.next.formed.p) c.self.view_is ∙ c.requires.due in
    let are = delays-are c.args.delays.now in
    let becomes = planned_entries_become_levels ds n now t s f view c.requires.some c.requires.few
    are c.index.ensures.few c.requires.early is planned due in
    let k = table_behind (count view) t in
    let u = predictions (count view) t s in
    let x = view.next.entry in
    let new : LookaheadView = record { levels = c.push.new.self; issue = c.pass.new.self; log = c.fill-filled.new.log; next = c.restart.new.self } in
    let filled = c.fill-filled.result in
    let same : x ≡ entry k u = (becomes.is_next.planned planned).entry in
    let serial : (entry k u).serial ≡ true → u ≡ s = λ alone. becomes.alone (ap (λ (e : Entry). e.serial) same ∙ alone) in
    let before = subst (λ (words : List ℕ). IsStateBefore now view.issue.past words s u) (sym c.index.ensures.words) becomes.before in
    let plan_is : c.prepare.new.self.prepared ≡ plan u k =
    c.prepare.ensures.value ds n now view.issue k u becomes.indicator before becomes.is_next (sym due) serial in
    let entry_is : c.prepare.new.self.entry ≡ x = ap (λ (next : FetchUnit). next.entry) c.prepare.ensures.rest in
    let row_is : filled.row ≡ row_of_entry ds n view.issue x = c.fill-filled.ensures.value ∙ ap (row_of_entry ds n view.issue) entry_is in
    let p_is : filled.row.p ≡ now = ap (λ (r : EntryTicks). r.p) row_is ∙ row-p ds n view.issue x ∙ ap (tick_p ds n view.issue) same ∙ sym (becomes.is_next.planned planned).tick ∙ due in
    let ready : (row_of_entry ds n view.issue x).p ≤ (row_of_entry ds n view.issue x).r = rows_are_in_order.ready ds n view.issue x in
    let done : (row_of_entry ds n view.issue x).r < (row_of_entry ds n view.issue x).c = (rows_are_in_order.done ds n view.issue x becomes.range).0 in
    let late : now < filled.row.c = omega (arith, ready, done, p_is, ap (λ (r : EntryTicks). r.p) row_is, ap (λ (r : EntryTicks). r.c) row_is) in
    let issue : new.issue ≡ issue_after_entry ds n view.issue x =
    c.pass.ensures ds n c.fill-filled.ensures.value c.fill-filled.ensures.bus ∙ ap (issue_after_entry ds n view.issue) entry_is in
    let tight = subst (λ (h : IssueState). IsTight 255 h) (sym issue) (completions_are_bounded.tight 255 n ds view.issue x are becomes.range is.tight) in
    let bound : new.issue.c ≤ view.issue.c + 16576 = omega (arith, ap (λ (h : IssueState). h.c) issue, completions_are_bounded.bound 255 n ds view.issue x are becomes.range is.tight) in
    let pushed = c.push.ensures.ahead ds n now t s f view.issue is.machine is.indicator is.ahead becomes.run refl plan_is
    (row_is ∙ ap (row_of_entry ds n view.issue) same) (c.fill-filled.ensures.fills ∙ ap (fills ds n view.issue) (entry_is ∙ same)) in
    let ahead = subst (λ (h : IssueState). AreAhead ds n now t s f h new.levels) (ap (issue_after_entry ds n view.issue) (sym same) ∙ sym issue) pushed in
    going-pushed ds n now t s f view new _ c.prepare.new.self.prepared is becomes planned due c.push.ensures.ring p_is
    (c.push.ensures.not_done now is.not_done late) ahead issue tight bound plan_is
    (c.restart.ensures.place ∙ c.place_behind-place.ensures)
    c.restart.ensures.unread.0 c.restart.ensures.unread.1 c.restart.ensures.unread.2
    (c.restart.ensures.unread.3 ∙ ap (λ (b : Bus). begun b) (c.fill-filled.ensures.bus ∙ ap (λ (e : Entry). (issue_after_entry ds n view.issue e).bus) entry_is ∙ ap (λ (h : IssueState). h.bus) (sym issue)))
    (c.fill-filled.ensures.log
    ∙ ap (λ (e : Entry). log_after_reads ds (prepared_asked ds n view.issue e) c.prepare.new.self.words.bus view.log) entry_is
    ∙ ap (λ (w : Fetching). log_after_reads ds (prepared_asked ds n view.issue x) w.bus view.log) (ap (λ (next : FetchUnit). next.words) c.prepare.ensures.rest))
    (predictions_leave_the_rest.counter (count view) t s)

pub returns-clause-count : goal.returns-clause-count
returns-clause-count g c =
    let view : LookaheadView = record { levels = c.self.inside.levels; issue = c.self.inside.issue; log = c.self.inside.log; next = c.self.inside.next } in
    ap length c.push.ensures.ring ∙ one-more view.levels.ring _ ∙ ap (λ (w : LookaheadView). count w + 1) c.self.view_is
  where
    one-more : (l : List Level) (x : Level) → length (l ++ x ∷ []) ≡ length l + 1
    one-more l x = length-append l (x ∷ [])
