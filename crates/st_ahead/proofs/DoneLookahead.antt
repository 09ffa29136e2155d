-- The look-ahead after the oldest entry completes, and after the operands of the tick arrive.
use Rattle.st_ahead.proofs.Common.{◌≡◌, ℕ, zero, suc, ◌+◌, ◌*◌, ◌<◌, ◌≤◌, Bool, true, false, not, ◌&&◌, ◌||◌, List, [], ◌∷◌, ◌++◌, append_assoc, length, inl, Option, None, refl, sym, subst, ◌∙◌, ap, arith, All, IfSome, ◌==◌, if◌then◌else◌, All-nil, All-head, All-tail, and_parts, eqb-true, ne_eqb, Machine, IsMachine, place_of, plan, state_after_execution, prediction, Read, IsLogged, AreDelaysUpTo, row_of_entry, issue_after_entry, wanted_from, reads_of_entry, Entry, Fetching, Bus, IssueState, Made, logs_go_on, free-served, served-asked, tight-after, Level, ahead, issue_behind, entry, predictions, table_behind, entry-ranges, prediction-machine, behind-none, LevelsView, AreLevels, AreAhead, AreFull, PlannedRow, levels-issue, after-c, IsNext, Rests, reads_so_far, FetchUnit, LookaheadView, IsLookahead, IsOutlook, IsNextIf, is_open, count, asked_ahead}
use Rattle.st_segment.proofs.StepLemmas.{prediction-alone}
use Rattle.st_ahead.proofs.Openings.{first-none, so-far}
use Rattle.st_ahead.proofs.LevelTicks.{done-later, behind-soon, same-count, prepared-still, done-after}

or-second : (a b : Bool) → a ≡ false → (a || b) ≡ b
or-second true b e = absurd (cc e)
or-second false b e = refl

-- ---- the next entry, by its state and its issue state

abbrev NextAt : Bool → List ℕ → ℕ → ℕ → Option ℕ → Machine → IssueState → FetchUnit → Type 0
NextAt true ds n now t u f next = IsNext ds n t u f next × Rests now t u f next
NextAt false ds n now t u f next =
    (next.planned ≡ false) × (next.entry.own ≡ record { first = 0; len = 0 }) × (next.entry.target ≡ record { first = 0; len = 0 })
    × (next.words ≡ record { bus = f.bus; answered = 0; awaited = 0 })

next-at : (b : Bool) (ds : List ℕ) (n now : ℕ) (t : Option ℕ) (s : Machine) (v : LookaheadView) → IsNextIf b ds n now t s v
    → NextAt b ds n now (table_behind (count v) t) (predictions (count v) t s) v.issue v.next
next-at true ds n now t s v h = h
next-at false ds n now t s v h = h

next-if : (b : Bool) (ds : List ℕ) (n now : ℕ) (t : Option ℕ) (s : Machine) (v : LookaheadView)
    → NextAt b ds n now (table_behind (count v) t) (predictions (count v) t s) v.issue v.next → IsNextIf b ds n now t s v
next-if true ds n now t s v h = h
next-if false ds n now t s v h = h

-- the next entry depends on the number of levels, not on their operands
next-same : (ds : List ℕ) (n now : ℕ) (t : Option ℕ) (s : Machine) (v : LookaheadView) (levels : LevelsView)
    → length levels.ring ≡ count v → IsNextIf (is_open v) ds n now t s v
    → let w = record v { levels = levels } in IsNextIf (is_open w) ds n now t s w
next-same ds n now t s v levels same h =
    let w = record v { levels = levels } in
    let P : ℕ → Type 0 = λ k. NextAt ((k == 0) || not v.issue.serial) ds n now (table_behind k t) (predictions k t s) v.issue v.next in
    next-if (is_open w) ds n now t s w (subst P (sym same) (next-at (is_open v) ds n now t s v h))

-- ---- slots are filled

pub lookahead-filled : (ds : List ℕ) (n tick now next : ℕ) (t : Option ℕ) (s : Machine) (f : IssueState) (v : LookaheadView) (levels : LevelsView)
    → IsOutlook ds n tick next t s f v → AreAhead ds n now t s f v.issue levels → AreFull ds n now t s f levels.ring → All (λ q. now < q.c) levels.plans
    → IsLookahead ds n now next t s f (record v { levels = levels })
lookahead-filled ds n tick now next t s f v levels h ahead full late =
    let same : length levels.ring ≡ count v =
    same-count ds n tick now t s f v.issue v.levels.ring levels.ring v.levels.plans levels.plans h.machine h.indicator h.ahead.levels ahead.levels in
    record {
      outlook = record {
        machine = h.machine;
        indicator = h.indicator;
        ahead = ahead;
        prepared = prepared-still ds n tick now next t s f v.issue v.levels.ring levels.ring v.levels.plans levels.plans h.ahead.levels ahead.levels same h.prepared;
        not_done = late;
        oldest = h.oldest;
        tight = h.tight;
        start = h.start;
        early = subst (λ k. v.issue.c ≤ next + 9 + 16576 * k) (sym same) h.early;
        next = next-same ds n next t s v levels same h.next;
        late = h.late;
        logged = subst (λ k. IsLogged ds f.bus.free (asked_ahead ds n k t s f ++ reads_so_far ds v.issue v.next) f.bus v.log) (sym same) h.logged;
      };
      full = full;
    }

-- without levels there is nothing to fill
nothing-filled : (ds : List ℕ) (n a b : ℕ) (t : Option ℕ) (s : Machine) (f last : IssueState) (ring : List Level) (plans : List PlannedRow)
    → length ring ≡ 0 → AreLevels ds n a t s f last ring plans → AreLevels ds n b t s f last ring plans × All (λ q. b < q.c) plans
unfolding AreLevels
nothing-filled ds n a b t s f last [] [] empty h = (h, All-nil (λ (q : PlannedRow). b < q.c))
nothing-filled ds n a b t s f last [] (q ∷ qs) empty h = absurd h
nothing-filled ds n a b t s f last (level ∷ levels) plans empty h = absurd (omega (arith, empty))

full-without : (ds : List ℕ) (n tick : ℕ) (t : Option ℕ) (s : Machine) (f : IssueState) (ring : List Level) → length ring ≡ 0 → AreFull ds n tick t s f ring
unfolding AreFull
full-without ds n tick t s f [] empty = tt
full-without ds n tick t s f (level ∷ levels) empty = absurd (omega (arith, empty))

pub lookahead-without : (ds : List ℕ) (n tick now : ℕ) (t : Option ℕ) (s : Machine) (f : IssueState) (v : LookaheadView) → count v ≡ 0
    → IsLookahead ds n tick now t s f v → IsLookahead ds n now now t s f v
lookahead-without ds n tick now t s f v empty lookahead =
    let h = lookahead.outlook in
    let levels = nothing-filled ds n tick now t s f v.issue v.levels.ring v.levels.plans empty h.ahead.levels in
    let ahead : AreAhead ds n now t s f v.issue v.levels = record { levels = levels.0; index = h.ahead.index; run_ahead = h.ahead.run_ahead } in
    record { outlook = assumption; full = full-without ds n now t s f v.levels.ring empty }

-- ---- after the oldest entry completes

-- the fetch unit gets its place now, if all entries before are completed and the last one is serializing
abbrev pub next_behind : Machine → LookaheadView → Bool → FetchUnit
next_behind u v here = if here then record v.next { place = place_of u None } else v.next

-- whether no level remains and the last entry is serializing
abbrev pub is_alone : LookaheadView → LevelsView → Bool
is_alone v levels = (length levels.ring == 0) && v.issue.serial

reads-same : (b : Bool) (ds : List ℕ) (u : Machine) (v : LookaheadView) → reads_so_far ds v.issue (next_behind u v b) ≡ reads_so_far ds v.issue v.next
reads-same true ds u v = refl
reads-same false ds u v = refl

late-same : (b : Bool) (now : ℕ) (u : Machine) (v : LookaheadView) → (v.next.planned ≡ true → now ≤ v.next.formed.p)
    → (next_behind u v b).planned ≡ true → now ≤ (next_behind u v b).formed.p
late-same true now u v h = h
late-same false now u v h = h

words-same : (b : Bool) (u : Machine) (v : LookaheadView) → (next_behind u v b).words ≡ v.next.words
words-same true u v = refl
words-same false u v = refl

-- the first word after a serializing entry is requested at its C or later
wanted-alone : (f : IssueState) → f.serial ≡ true → f.c ≤ wanted_from f
wanted-alone f alone = rw alone (omega arith)

opened-at : (ds : List ℕ) (n now : ℕ) (u : Machine) (f : IssueState) (next : FetchUnit) → NextAt false ds n now None u f next → f.serial ≡ true
    → now ≤ f.c → next.place ≡ place_of u None → NextAt true ds n now None u f next
opened-at ds n now u f next closed alone late place = (
  record {
    read_on = record {
      place = place;
      first = first-none next.entry.own next.entry.target (entry None u) closed.1 closed.2;
      words = λ unread. closed.3 ∙ sym (so-far ds f next.entry.own next.entry.target closed.1 closed.2);
      awaited = ap (λ (s : Fetching). s.awaited) (closed.3 ∙ sym (so-far ds f next.entry.own next.entry.target closed.1 closed.2));
    };
    planned = λ planned. absurd (cc (planned, closed.0));
  },
  λ un. inl (omega (arith, late, wanted-alone f alone)),
)

open-behind : (a b : Bool) → false ≡ (a && b) → (a || not b) ≡ not b
open-behind true true e = absurd (cc e)
open-behind true false e = refl
open-behind false true e = refl
open-behind false false e = refl

closed-issue : (b : Bool) (ds : List ℕ) (n now : ℕ) (t : Option ℕ) (u : Machine) (f : IssueState) (next : FetchUnit) → b ≡ true
    → NextAt (not b) ds n now t u f next → NextAt false ds n now t u f next
closed-issue true ds n now t u f next e h = h
closed-issue false ds n now t u f next e h = absurd (cc e)

module _ (ds : List ℕ) (n now : ℕ) (t : Option ℕ) (s u : Machine) (v : LookaheadView) where
  -- the fetch unit is at the entry after the k levels that remain
  abbrev At : Bool → ℕ → FetchUnit → Type 0
  At b k next = NextAt b ds n now None (predictions k None (prediction t s)) v.issue next

  next-done : (b : Bool) (k : ℕ) → b ≡ ((k == 0) && v.issue.serial) → At (not v.issue.serial) k v.next
      → (k ≡ 0 → now ≤ v.issue.c) → (k ≡ 0 → v.issue.serial ≡ true → place_of u None ≡ place_of (prediction t s) None)
      → At ((k == 0) || not v.issue.serial) k (next_behind u v b)
  unfolding predictions
  next-done false k e h late place = subst (λ b. At b k v.next) (sym (open-behind (k == 0) v.issue.serial e)) h
  next-done true k e h late place =
      let parts = and_parts (k == 0) v.issue.serial (sym e) in
      let none_left : k ≡ 0 = eqb-true k 0 parts.0 in
      let alone : v.issue.serial ≡ true = parts.1 in
      let P : ℕ → Type 0 = λ i. At ((i == 0) || not v.issue.serial) i (next_behind u v true) in
      let first : At (not v.issue.serial) 0 v.next = subst (λ i. At (not v.issue.serial) i v.next) none_left h in
      let closed = closed-issue v.issue.serial ds n now None (prediction t s) v.issue v.next alone first in
      subst P (sym none_left) (opened-at ds n now (prediction t s) v.issue (next_behind u v true) closed alone (late none_left) (place none_left alone))

  -- the fetch unit is at the entry after the remaining levels of the look-ahead
  next-kept : (b : Bool) (levels : LevelsView) → b ≡ is_alone v levels → count v ≡ suc (length levels.ring) → IsNextIf (is_open v) ds n now t s v
      → (length levels.ring ≡ 0 → now ≤ v.issue.c) → (length levels.ring ≡ 0 → v.issue.serial ≡ true → place_of u None ≡ place_of (prediction t s) None)
      → let w = record v { levels = levels; next = next_behind u v b } in IsNextIf (is_open w) ds n now None (prediction t s) w
  unfolding predictions
  next-kept b levels e same h late place =
      let w = record v { levels = levels; next = next_behind u v b } in
      let k = length levels.ring in
      let P : ℕ → Type 0 = λ i. NextAt ((i == 0) || not v.issue.serial) ds n now (table_behind i t) (predictions i t s) v.issue v.next in
      let before : At (not v.issue.serial) k v.next =
      subst (λ b. At b k v.next) (or-second (suc k == 0) (not v.issue.serial) (ne_eqb (suc k) 0 (λ same. absurd (omega (arith, same)))))
      (subst P same (next-at (is_open v) ds n now t s v h)) in
      let behind = next-done b k e before late place in
      next-if (is_open w) ds n now None (prediction t s) w
      (subst (λ (i : Option ℕ). NextAt (is_open w) ds n now i (predictions k None (prediction t s)) v.issue w.next) (sym (behind-none k)) behind)

-- the remaining levels
levels-left : (ds : List ℕ) (n tick now : ℕ) (t : Option ℕ) (s : Machine) (f last : IssueState) (ring more : List Level) (plans rows : List PlannedRow)
    → IsMachine s → IfSome t (λ i. i < 64) → 1 ≤ length ring → AreLevels ds n tick t s f last ring plans
    → AreLevels ds n tick None (prediction t s) (issue_after_entry ds n f (entry t s)) last more rows → All (λ level. level.p < now) ring
    → (length ring ≡ suc (length more)) × All (λ level. level.p < now) more
unfolding AreLevels
levels-left ds n tick now t s f last [] more plans rows m some one g h each = absurd (omega (arith, one))
levels-left ds n tick now t s f last (level ∷ levels) more [] rows m some one g h each = absurd g
levels-left ds n tick now t s f last (level ∷ levels) more (q ∷ qs) rows m some one g h each =
    let same = same-count ds n tick tick None (prediction t s) (issue_after_entry ds n f (entry t s)) last levels more qs rows (prediction-machine t s m some) tt g.1 h in (
      ap suc (sym same),
      prepared-still ds n tick tick now None (prediction t s) (issue_after_entry ds n f (entry t s)) last levels more qs rows g.1 h same
          (All-tail (λ (x : Level). x.p < now) level levels each),
    )

-- the oldest entry does not complete before
oldest-open : (ds : List ℕ) (n tick : ℕ) (t : Option ℕ) (s : Machine) (f last : IssueState) (ring : List Level) (plans : List PlannedRow)
    → 1 ≤ length ring → AreLevels ds n tick t s f last ring plans → All (λ q. tick < q.c) plans → tick < (row_of_entry ds n f (entry t s)).c
unfolding AreLevels
oldest-open ds n tick t s f last [] plans one h each = absurd (omega (arith, one))
oldest-open ds n tick t s f last (level ∷ levels) [] one h each = absurd h
oldest-open ds n tick t s f last (level ∷ levels) (q ∷ qs) one h each =
    let c : q.c ≡ (row_of_entry ds n f (entry t s)).c = h.0.c in
    let later : tick < q.c = All-head (λ (r : PlannedRow). tick < r.c) q qs each in
    omega arith

-- without the reads of the completed entry, the remaining reads are logged
logged-behind : (ds : List ℕ) (n : ℕ) (f : IssueState) (e : Entry) (rest : List Read) (log : List Made) → IsLogged ds f.bus.free (reads_of_entry ds n f e ++ rest) f.bus log
    → IsLogged ds (issue_after_entry ds n f e).bus.free rest (issue_after_entry ds n f e).bus log
logged-behind ds n f e rest log h =
    let bus = served-asked ds n f e in
    let rises : f.bus.free ≤ (issue_after_entry ds n f e).bus.free = subst (λ (b : Bus). f.bus.free ≤ b.free) bus (free-served ds (reads_of_entry ds n f e) f.bus) in
    subst (λ (b : Bus). IsLogged ds (issue_after_entry ds n f e).bus.free rest b log) bus
    (logs_go_on.left_behind ds (issue_after_entry ds n f e).bus.free (reads_of_entry ds n f e) rest f.bus log (omega (arith, ap (λ (b : Bus). b.free) bus))
    (logs_go_on.later ds f.bus.free (issue_after_entry ds n f e).bus.free (reads_of_entry ds n f e ++ rest) f.bus log rises h))

asked-behind : (ds : List ℕ) (n k : ℕ) (t : Option ℕ) (s : Machine) (f : IssueState) (more : List Read)
    → asked_ahead ds n (suc k) t s f ++ more ≡ reads_of_entry ds n f (entry t s) ++ (asked_ahead ds n k None (prediction t s) (issue_after_entry ds n f (entry t s)) ++ more)
unfolding ahead
asked-behind ds n k t s f more =
    append_assoc (reads_of_entry ds n f (entry t s)) (asked_ahead ds n k None (prediction t s) (issue_after_entry ds n f (entry t s))) more

after-serial : (ds : List ℕ) (n : ℕ) (t : Option ℕ) (s : Machine) (f : IssueState) → (issue_after_entry ds n f (entry t s)).serial ≡ (plan s t).serial
unfolding issue_after_entry entry
after-serial ds n t s f = refl

issue-left : (ds : List ℕ) (n : ℕ) (k : ℕ) (t : Option ℕ) (s : Machine) (f last : IssueState) → k ≡ 0 → last ≡ issue_behind ds n k t s f → last ≡ f
unfolding issue_behind
issue-left ds n zero t s f last none_left h = h
issue-left ds n (suc k) t s f last none_left h = absurd (omega (arith, none_left))

pub lookahead-done : (ds : List ℕ) (n tick now : ℕ) (t : Option ℕ) (s u : Machine) (f : IssueState) (v : LookaheadView) (levels : LevelsView) (b : Bool)
    → AreDelaysUpTo 255 ds → IsOutlook ds n tick now t s f v → 1 ≤ count v → (row_of_entry ds n f (entry t s)).c ≡ now
    → AreAhead ds n tick None (prediction t s) (issue_after_entry ds n f (entry t s)) v.issue levels
    → b ≡ is_alone v levels → u ≡ state_after_execution t s
    → IsOutlook ds n tick now None (prediction t s) (issue_after_entry ds n f (entry t s)) (record v { levels = levels; next = next_behind u v b })
lookahead-done ds n tick now t s u f v levels b are h some due ahead e done =
    let entry_ = entry t s in
    let s' = prediction t s in
    let f' = issue_after_entry ds n f entry_ in
    let range = entry-ranges t s h.machine h.indicator in
    let machine = prediction-machine t s h.machine h.indicator in
    let tight = tight-after 255 ds are n f entry_ range h.oldest in
    let c : f'.c ≡ now = after-c ds n f (entry t s) ∙ due in
    let left = levels-left ds n tick now t s f v.issue v.levels.ring levels.ring v.levels.plans levels.plans h.machine h.indicator some
    h.ahead.levels ahead.levels h.prepared in
    let last : v.issue ≡ issue_behind ds n (length levels.ring) None s' f' = levels-issue ds n tick None s' f' v.issue levels.ring levels.plans ahead.levels in
    let late : now < (row_of_entry ds n f' (entry None s')).c = omega (arith, c, done-later ds n None s' f' machine tt) in
    let later = oldest-open ds n tick t s f v.issue v.levels.ring v.levels.plans some h.ahead.levels h.not_done in
    let reads : List Read = reads_so_far ds v.issue v.next in
    let log : IsLogged ds f.bus.free (asked_ahead ds n (suc (length levels.ring)) t s f ++ reads) f.bus v.log =
    subst (λ k. IsLogged ds f.bus.free (asked_ahead ds n k t s f ++ reads) f.bus v.log) left.0 h.logged in
    let split = subst (λ (all : List Read). IsLogged ds f.bus.free all f.bus v.log) (asked-behind ds n (length levels.ring) t s f reads) log in
    let rest = logged-behind ds n f entry_ (asked_ahead ds n (length levels.ring) None s' f' ++ reads) v.log split in
    record {
      machine = machine;
      indicator = tt;
      ahead = ahead;
      prepared = left.1;
      not_done = done-after ds n tick tick None s' f' v.issue levels.ring levels.plans machine tt ahead.levels (omega (arith, late, later, due));
      oldest = tight;
      tight = h.tight;
      start = omega (arith, c);
      early = omega (arith, c, ap (λ (g : IssueState). g.c) last, behind-soon ds n (length levels.ring) None s' f' are machine tt tight);
      next = next-kept ds n now t s u v b levels e left.0 h.next
          (λ none_left. omega (arith, c, ap (λ (g : IssueState). g.c) (issue-left ds n (length levels.ring) None s' f' v.issue none_left last)))
          (λ none_left alone.
          let serial : (plan s t).serial ≡ true = sym (after-serial ds n t s f)
          ∙ sym (ap (λ (g : IssueState). g.serial) (issue-left ds n (length levels.ring) None s' f' v.issue none_left last)) ∙ alone in
          ap (λ (x : Machine). place_of x None) (done ∙ sym (prediction-alone t s serial).1));
      late = late-same b now u v h.late;
      logged = subst (λ (more : List Read). IsLogged ds f'.bus.free (asked_ahead ds n (length levels.ring) None s' f' ++ more) f'.bus v.log) (sym (reads-same b ds u v)) rest;
    }

-- the look-ahead after a completion, for an equal view of it, with or without a serializing last entry
pub all-done : (ds : List ℕ) (n tick now : ℕ) (t : Option ℕ) (s u : Machine) (f : IssueState) (v old : LookaheadView) (levels : LevelsView) (b : Bool)
    → v ≡ old → AreDelaysUpTo 255 ds → IsOutlook ds n tick now t s f old → 0 < count old → (row_of_entry ds n f (entry t s)).c ≡ now
    → AreAhead ds n tick None (prediction t s) (issue_after_entry ds n f (entry t s)) v.issue levels
    → is_alone v levels ≡ b → u ≡ state_after_execution t s
    → let w = record v { levels = levels; next = next_behind u v b } in
    IsOutlook ds n tick now None (prediction t s) (issue_after_entry ds n f (entry t s)) w × (w.log ≡ old.log) × (w.next.words ≡ old.next.words)
all-done ds n tick now t s u f v old levels b is are h some due ahead e done = (
  lookahead-done ds n tick now t s u f v levels b are (subst (λ (w : LookaheadView). IsOutlook ds n tick now t s f w) (sym is) h)
      (subst (λ (w : LookaheadView). 1 ≤ count w) (sym is) some) due ahead (sym e) done,
  ap (λ (w : LookaheadView). w.log) is,
  words-same b u v ∙ ap (λ (w : LookaheadView). w.next.words) is,
)

pub ahead-through : (ds : List ℕ) (n tick now : ℕ) (t : Option ℕ) (s : Machine) (f : IssueState) (v old : LookaheadView) → v ≡ old
    → IsOutlook ds n tick now t s f old → AreAhead ds n tick t s f v.issue v.levels
ahead-through ds n tick now t s f v old is h =
    let lookahead = subst (λ (w : LookaheadView). IsOutlook ds n tick now t s f w) (sym is) h in
    lookahead.ahead

pub alone-if : (a b : Bool) → a ≡ true → (a && b) ≡ b
alone-if true b e = refl
alone-if false b e = absurd (cc e)

pub all-filled : (ds : List ℕ) (n tick now next : ℕ) (t : Option ℕ) (s : Machine) (f : IssueState) (v old : LookaheadView) (levels : LevelsView)
    → v ≡ old → IsOutlook ds n tick next t s f old → AreAhead ds n now t s f v.issue levels → AreFull ds n now t s f levels.ring
    → levels.plans ≡ v.levels.plans → All (λ q. now < q.c) old.levels.plans
    → let w = record v { levels = levels } in IsLookahead ds n now next t s f w × (w.log ≡ old.log) × (w.next ≡ old.next)
all-filled ds n tick now next t s f v old levels is h ahead full plans late = (
  lookahead-filled ds n tick now next t s f v levels (subst (λ (w : LookaheadView). IsOutlook ds n tick next t s f w) (sym is) h) ahead full
      (subst (λ (rows : List PlannedRow). All (λ q. now < q.c) rows) (sym (plans ∙ ap (λ (w : LookaheadView). w.levels.plans) is)) late),
  ap (λ (w : LookaheadView). w.log) is,
  ap (λ (w : LookaheadView). w.next) is,
)
