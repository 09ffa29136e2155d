-- The next entry at its P: its known part, its reads, and the room for it.
use Rattle.st_ahead.proofs.Common.{All, if◌then◌else◌, get_or, ◌≡◌, ℕ, zero, suc, ◌+◌, ◌<◌, ◌≤◌, Bool, true, false, List, [], ◌∷◌, ◌++◌, inl, inr, length, Option, None, refl, sym, subst, ◌∙◌, ap, ap₂, arith, get_or-take, All-head, Machine, prediction, fetches_asked, side_asked, formed_asked, words_asked, no_runs, AreDelaysUpTo, IsEntryInTime, row_of_entry, issue_after_entry, preparation_tick, address_tick, done_before, tick_a, tick_p, tick_c, Entry, IssueState, Past, before-cases, Level, entry, predictions, table_behind, RunAhead, entry-ranges, behind-indicator, AreLevels, PlannedRow, IsStateBefore, asked_so_far, IsPlanned, reads_so_far, FetchUnit, LookaheadView, IsNextIf, count, is_open, IsGoing, BecomesLevel, fetch_words}
use Rattle.std.specs.Prelude.{◌-◌, ◌^◌}
use Rattle.st_ahead.proofs.Further.{going-late, next-known}

-- ---- the ticks of a row

pub done-behind : (ds : List ℕ) (n : ℕ) (f : IssueState) (e : Entry) → IsEntryInTime e → f.c < (row_of_entry ds n f e).c
unfolding row_of_entry tick_c
done-behind ds n f e range = omega (arith, range.costs.0)

alone-behind : (ds : List ℕ) (n : ℕ) (f : IssueState) (e : Entry) → e.serial ≡ true → f.c < tick_p ds n f e
unfolding tick_p preparation_tick tick_a address_tick
alone-behind ds n f e alone = rw alone (omega arith)

levels-behind : (ds : List ℕ) (n : ℕ) (f : IssueState) (e : Entry) → done_before n f.past < tick_p ds n f e
unfolding tick_p preparation_tick
levels-behind ds n f e = omega arith

pub issue-before : (ds : List ℕ) (n : ℕ) (f : IssueState) (e : Entry) → f.p < tick_p ds n f e
unfolding tick_p preparation_tick tick_a address_tick
issue-before ds n f e = omega arith

pub row-p : (ds : List ℕ) (n : ℕ) (f : IssueState) (e : Entry) → (row_of_entry ds n f e).p ≡ tick_p ds n f e
unfolding row_of_entry
row-p ds n f e = refl

pub after-p : (ds : List ℕ) (n : ℕ) (f : IssueState) (e : Entry) → (issue_after_entry ds n f e).p ≡ tick_p ds n f e
unfolding issue_after_entry
after-p ds n f e = refl

-- ---- the levels among the past entries of the last issue state

module _ (ds : List ℕ) (n tick : ℕ) where
  -- entries before the levels follow them among the past entries
  past-behind : (j : ℕ) (d : Past) (t : Option ℕ) (s : Machine) (f last : IssueState) (ring : List Level) (plans : List PlannedRow)
      → AreLevels ds n tick t s f last ring plans → length ring + j < 8 → get_or last.past (length ring + j) d ≡ get_or f.past j d
  unfolding AreLevels issue_after_entry
  past-behind j d t s f last [] [] h few =
      let place : length {A = Level} [] + j ≡ j = omega arith in
      ap (λ i. get_or last.past i d) place ∙ ap (λ (g : IssueState). get_or g.past j d) h
  past-behind j d t s f last [] (q ∷ qs) h few = absurd h
  past-behind j d t s f last (level ∷ levels) [] h few = absurd h
  past-behind j d t s f last (level ∷ levels) (q ∷ qs) h few =
      let place : suc (length levels) + j ≡ length levels + suc j = omega arith in
      ap (λ i. get_or last.past i d) place
      ∙ past-behind (suc j) d None (prediction t s) (issue_after_entry ds n f (entry t s)) last levels qs h.1 (omega arith)
      ∙ get_or-take 7 f.past j d (omega arith)

  -- if there are n levels, the oldest is the entry n before the next one
  pub full-behind : (now : ℕ) (t : Option ℕ) (s : Machine) (f last : IssueState) (ring : List Level) (plans : List PlannedRow)
      → AreLevels ds n tick t s f last ring plans → All (λ q. now < q.c) plans → 1 ≤ n → n ≤ 8 → length ring ≡ n → now < done_before n last.past
  unfolding AreLevels issue_after_entry row_of_entry
  full-behind now t s f last [] plans h late some most full = let no : ⊥ = omega (arith, some, full) in absurd no
  full-behind now t s f last (level ∷ levels) [] h late some most full = absurd h
  full-behind now t s f last (level ∷ levels) (q ∷ qs) h late some most full =
      let none : Past = record { c = 0; writes = no_runs } in
      let e = entry t s in
      let here : now < q.c = All-head (λ (x : PlannedRow). now < x.c) q qs late in
      let is : q.c ≡ tick_c ds n f e = h.0.c in
      let place : n - 1 ≡ length levels + 0 = omega (arith, full) in
      let kept = past-behind 0 none None (prediction t s) (issue_after_entry ds n f e) last levels qs h.1 (omega (arith, full, most)) in
      let c : done_before n last.past ≡ tick_c ds n f e = ap (λ i. (get_or last.past i none).c) place ∙ ap (λ (x : Past). x.c) kept in
      omega (arith, here, is, c)

-- ---- the reads of the next entry up to its operands

formed-fetches : (ds : List ℕ) (f : IssueState) (e : Entry) → asked_so_far ds f e.own e.target ≡ fetches_asked ds f e
unfolding fetches_asked words_asked fetch_words
formed-fetches ds f e = refl

pub reads-formed : (ds : List ℕ) (n : ℕ) (k : Option ℕ) (u : Machine) (f : IssueState) (next : FetchUnit) → IsPlanned ds n k u f next
    → next.planned ≡ true → reads_so_far ds f next ≡ formed_asked ds f (entry k u)
reads-formed ds n k u f next is planned =
    let e = entry k u in
    let fetches : asked_so_far ds f next.entry.own next.entry.target ≡ fetches_asked ds f e =
    ap (λ (x : Entry). asked_so_far ds f x.own x.target) is.entry ∙ formed-fetches ds f e in
    let sides : (if next.planned then side_asked f.past next.entry.side next.formed.a else []) ≡ side_asked f.past e.side (tick_a ds f e) =
    ap (λ b. if b then side_asked f.past next.entry.side next.formed.a else []) planned
    ∙ ap₂ (λ (x : Entry) (a : ℕ). side_asked f.past x.side a) is.entry is.address in
    ap₂ (λ a b. a ++ b) fetches sides

-- ---- the next entry becomes a level

pub planned-open : (b : Bool) (ds : List ℕ) (n rest : ℕ) (t : Option ℕ) (s : Machine) (v : LookaheadView) → IsNextIf b ds n rest t s v
    → v.next.planned ≡ true → b ≡ true
planned-open true ds n rest t s v is planned = refl
planned-open false ds n rest t s v is planned = let unplanned : v.next.planned ≡ false = is.0 in absurd (cc (planned, unplanned))

none-predicted : (k : ℕ) (t : Option ℕ) (s : Machine) → k ≡ 0 → predictions k t s ≡ s
unfolding predictions
none-predicted zero t s none = refl
none-predicted (suc k) t s none = absurd (cc none)

pub becomes-level : (ds : List ℕ) (n now : ℕ) (t : Option ℕ) (s : Machine) (f : IssueState) (v : LookaheadView) → 1 ≤ n → n ≤ 8 → AreDelaysUpTo 255 ds
    → count v ≤ n → now < 2 ^ 63 → IsGoing ds n now (now + 1) t s f v → v.next.planned ≡ true → v.next.formed.p ≡ now
    → RunAhead (count v) t s → IsStateBefore now v.issue.past v.levels.x s (predictions (count v) t s) → BecomesLevel ds n now t s f v
becomes-level ds n now t s f v some most are few early is planned due run before =
    let k = table_behind (count v) t in
    let u = predictions (count v) t s in
    let e = entry k u in
    let opened : is_open v ≡ true = planned-open (is_open v) ds n (now + 1) t s v is.next planned in
    let next = (next-known ds n now (now + 1) t s f v is opened).0 in
    let all : IsPlanned ds n k u v.issue v.next = next.planned planned in
    let indicator = behind-indicator (count v) t is.indicator in
    let range : IsEntryInTime e = entry-ranges k u before.machine indicator in
    let p : tick_p ds n v.issue e ≡ now = sym all.tick ∙ due in
    let late : 1 ≤ count v → now < v.issue.c = going-late ds n now (now + 1) (λ g x r. done-behind ds n g x r) t s f v is in
    record {
      run = run;
      before = before;
      is_next = next;
      indicator = indicator;
      range = subst (λ (x : Entry). IsEntryInTime x) (sym all.entry) range;
      alone = λ serial.
          let c : v.issue.c < tick_p ds n v.issue e = alone-behind ds n v.issue e (sym (ap (λ (x : Entry). x.serial) all.entry) ∙ serial) in
          none-predicted (count v) t s (no-levels (count v) now v.issue.c late (omega (arith, c, p)));
      room = not-full (count v) few (λ full.
          let c : now < done_before n v.issue.past = full-behind ds n now now t s f v.issue v.levels.ring v.levels.plans is.ahead.levels is.not_done some most full in
          let before_p : done_before n v.issue.past < tick_p ds n v.issue e = levels-behind ds n v.issue e in
          omega (arith, c, before_p, p));
      early = omega (arith, is.early, few, most, early);
    }
  where
    no-levels : (j at c : ℕ) → (1 ≤ j → at < c) → c < at → j ≡ 0
    no-levels zero at c late early_c = refl
    no-levels (suc j) at c late early_c = let no : ⊥ = omega (arith, late (omega arith), early_c) in absurd no

    not-full : (j : ℕ) → j ≤ n → (j ≡ n → ⊥) → j < n
    not-full j below never = elim (before-cases j n) [ inl fewer ↦ fewer.1 | inr over ↦ absurd (never (omega (arith, below, over.1))) ]
