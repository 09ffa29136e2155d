-- The next entry is prepared at the tick or later, and its remaining reads are requested then or later.
use Rattle.st_ahead.proofs.Common.{All, ◌==◌, if◌then◌else◌, IfSome, ◌≡◌, ℕ, zero, suc, ◌+◌, ◌<◌, ◌≤◌, ◌||◌, max, Bool, true, false, not, List, [], ◌∷◌, ◌++◌, append_assoc, length, length-append, Option, None, Some, refl, sym, subst, ◌∙◌, ap, ap₂, arith, lt-ltb, le-ltb, append-nil, All-append, All-weaker, All-head, All-tail, Machine, IsMachine, prediction, fetches_asked, words_asked, side_asked, side_count, formed_asked, prepared_asked, data_of, bus_after_reads, made_before, Read, notes_of_reads, answers_left, AreEarly, AreDelaysUpTo, IsEntryInTime, IsNear, IsTight, row_of_entry, issue_after_entry, wanted_from, tick_a, tick_p, operands, reads_of_entry, fetch_words, fetch_word, Bus, WordRun, Fetching, Entry, IssueState, undone_is_made_before, few_are_undone, logs_go_on, made-more, asked-parts, two-parts, at-prepared, free-formed, made-bounds, served-append, served-asked, few-words, few-side, few-operands, few-following, served-formed, tight-after, Level, entry, predictions, table_behind, ahead, reads_before, entry-ranges, prediction-machine, behind-none, AreLevels, PlannedRow, levels-beside, asked_so_far, IsNext, IsPlanned, Rests, reads_so_far, FetchUnit, address-late, rest-left, LookaheadView, IsOutlook, IsNextIf, count, is_open, asked_ahead, reads_of, uses, wishes}
use Rattle.std.proofs.Common.{drop}
use Rattle.st_ahead.proofs.Further.{bus-ahead, some-by}

-- no words
abbrev none : WordRun
none = record { first = 0; len = 0 }

-- the ticks of rows, and the request ticks of their reads, are in order
pub record AreOrdered (ds : List ℕ) (n : ℕ) : Type 0 where
  pub alone : (f : IssueState) (e : Entry) → (e.serial || f.serial) ≡ true → f.c < (row_of_entry ds n f e).a
  pub prepared : (f : IssueState) (e : Entry) → (row_of_entry ds n f e).a < (row_of_entry ds n f e).p
  pub fetches : (f : IssueState) (e : Entry) → All (λ (r : Read). wanted_from f ≤ r.want) (fetches_asked ds f e)
  pub behind : (f : IssueState) (e : Entry) → All (λ (r : Read). tick_a ds f e ≤ r.want) (data_of ds n f e)

-- the entry e is prepared at the tick `now` or later, and its remaining reads are requested then or later
pub record IsLater (ds : List ℕ) (n now : ℕ) (f : IssueState) (e : Entry) (next : FetchUnit) : Type 0 where
  pub rest : List Read
  pub reads : reads_of_entry ds n f e ≡ reads_so_far ds f next ++ rest
  pub late : All (λ (r : Read). now ≤ r.want) rest
  pub prepared : now ≤ (row_of_entry ds n f e).p

module _ (ds : List ℕ) (n now : ℕ) (ordered : AreOrdered ds n) where
  -- ---- a planned entry

  all-fetched : (f : IssueState) (e : Entry) → asked_so_far ds f e.own e.target ≡ fetches_asked ds f e
  unfolding fetches_asked words_asked fetch_words
  all-fetched f e = refl

  planned-later : (t : Option ℕ) (u : Machine) (f : IssueState) (next : FetchUnit) → IsPlanned ds n t u f next → next.planned ≡ true
      → now ≤ next.formed.p → IsLater ds n now f (entry t u) next
  unfolding row_of_entry
  planned-later t u f next is planned late =
      let e : Entry = entry t u in
      let p : next.formed.p ≡ tick_p ds n f e = is.tick in
      let fetches : asked_so_far ds f next.entry.own next.entry.target ≡ fetches_asked ds f e =
      ap (λ (x : Entry). asked_so_far ds f x.own x.target) is.entry ∙ all-fetched f e in
      let sides : (if next.planned then side_asked f.past next.entry.side next.formed.a else []) ≡ side_asked f.past e.side (tick_a ds f e) =
      ap (λ b. if b then side_asked f.past next.entry.side next.formed.a else []) planned
      ∙ ap₂ (λ (x : Entry) (a : ℕ). side_asked f.past x.side a) is.entry is.address in
      record {
        rest = prepared_asked ds n f e;
        reads = two-parts ds n f e ∙ ap₂ (λ a b. (a ++ b) ++ prepared_asked ds n f e) (sym fetches) (sym sides);
        late =
            All-weaker (λ (r : Read). r.want ≡ tick_p ds n f e) (λ (r : Read). now ≤ r.want) (λ r h. omega arith)
            (prepared_asked ds n f e) (at-prepared ds n f e);
        prepared = omega arith;
      }

  -- ---- an entry that is not planned

  behind-fetches : (f : IssueState) (e : Entry) (next : FetchUnit) (rest : List Read) → next.planned ≡ false
      → fetches_asked ds f e ≡ asked_so_far ds f next.entry.own next.entry.target ++ rest → All (λ (r : Read). now ≤ r.want) rest
      → now ≤ tick_a ds f e → IsLater ds n now f e next
  unfolding row_of_entry
  behind-fetches f e next rest unplanned reads late before =
      let others = data_of ds n f e in
      let so_far = asked_so_far ds f next.entry.own next.entry.target in
      let p : (row_of_entry ds n f e).a < (row_of_entry ds n f e).p = ordered.prepared f e in
      let none : reads_so_far ds f next ≡ so_far =
      ap (λ b. so_far ++ (if b then side_asked f.past next.entry.side next.formed.a else [])) unplanned ∙ append-nil so_far in
      record {
        rest = rest ++ others;
        reads =
            asked-parts ds n f e ∙ ap (λ reads. reads ++ others) reads ∙ append_assoc so_far rest others
            ∙ ap (λ reads. reads ++ (rest ++ others)) (sym none);
        late =
            All-append (λ (r : Read). now ≤ r.want) rest others late
            (All-weaker (λ (r : Read). tick_a ds f e ≤ r.want) (λ (r : Read). now ≤ r.want) (λ r h. omega arith) others
            (ordered.behind f e));
        prepared = omega arith;
      }

  unplanned-later : (t : Option ℕ) (u : Machine) (f : IssueState) (next : FetchUnit) → IsNext ds n t u f next → next.planned ≡ false
      → Rests now t u f next → IsLater ds n now f (entry t u) next
  unplanned-later t u f next is unplanned rests =
      let left = rest-left ds now t u f next is.read_on unplanned rests in
      let a : now < tick_a ds f (entry t u) = address-late ds now t u f next is.read_on unplanned rests in
      behind-fetches f (entry t u) next left.rest unplanned left.reads left.late (omega arith)

  next-later : (t : Option ℕ) (u : Machine) (f : IssueState) (next : FetchUnit) → IsNext ds n t u f next → Rests now t u f next
      → (next.planned ≡ true → now ≤ next.formed.p) → IsLater ds n now f (entry t u) next
  next-later t u f next is rests late = by-planned next.planned refl
    where
      by-planned : (b : Bool) → next.planned ≡ b → IsLater ds n now f (entry t u) next
      by-planned true e = planned-later t u f next (is.planned e) e (late e)
      by-planned false e = unplanned-later t u f next is e rests

  -- ---- after a serializing level

  alone-later : (e : Entry) (f : IssueState) (next : FetchUnit) → next.planned ≡ false → next.entry.own ≡ none → next.entry.target ≡ none
      → f.serial ≡ true → now ≤ f.c → IsLater ds n now f e next
  unfolding row_of_entry fetches_asked words_asked fetch_words reads_of uses wishes fetch_word
  alone-later e f next unplanned no_own no_target serial late =
      let a : f.c < (row_of_entry ds n f e).a = ordered.alone f e (or-second e.serial f.serial serial) in
      let from : now ≤ wanted_from f = wanted_if f.serial serial in
      behind-fetches f e next (fetches_asked ds f e) unplanned
      (sym (rw (no_own, no_target) refl))
      (All-weaker (λ (r : Read). wanted_from f ≤ r.want) (λ (r : Read). now ≤ r.want) (λ r h. omega arith) (fetches_asked ds f e) (ordered.fetches f e))
      (omega arith)
    where
      or-second : (a b : Bool) → b ≡ true → (a || b) ≡ true
      or-second true b h = refl
      or-second false b h = h

      wanted_if : (b : Bool) → b ≡ true → now ≤ (if b then max f.p f.c else f.p)
      wanted_if true e = omega arith
      wanted_if false e = absurd (cc e)

-- ---- after levels

-- the youngest level does not complete by the tick
last-done : (tick : ℕ) (f last : IssueState) (plans : List PlannedRow) → All (λ q. tick < q.c) plans
    → All (λ q. (f.c < q.c) × (q.c ≤ last.c)) plans → 1 ≤ length plans → tick < last.c
last-done tick f last [] late order some = absurd (omega arith)
last-done tick f last (q ∷ qs) late order some =
    let done : tick < q.c = All-head (λ (x : PlannedRow). tick < x.c) q qs late in
    let before : (f.c < q.c) × (q.c ≤ last.c) = All-head (λ (x : PlannedRow). (f.c < x.c) × (x.c ≤ last.c)) q qs order in
    omega (arith, before.1)

closed-by : (a b : Bool) → (a || not b) ≡ false → (a ≡ false) × (b ≡ true)
closed-by true b e = absurd (cc e)
closed-by false true e = (refl, refl)
closed-by false false e = absurd (cc e)

pub lookahead-later : (ds : List ℕ) (n tick now : ℕ) (t : Option ℕ) (s : Machine) (f : IssueState) (v : LookaheadView) → AreOrdered ds n
    → now ≤ tick + 1 → IsOutlook ds n tick now t s f v → All (λ q. (f.c < q.c) × (q.c ≤ v.issue.c)) v.levels.plans
    → IsLater ds n now v.issue (entry (table_behind (count v) t) (predictions (count v) t s)) v.next
lookahead-later ds n tick now t s f v ordered soon is order = by-open (is_open v) refl is.next
  where
    by-open : (b : Bool) → is_open v ≡ b → IsNextIf b ds n now t s v
        → IsLater ds n now v.issue (entry (table_behind (count v) t) (predictions (count v) t s)) v.next
    by-open true e next =
        next-later ds n now ordered (table_behind (count v) t) (predictions (count v) t s) v.issue v.next next.0 next.1 is.late
    by-open false e next =
        let closed = closed-by (count v == 0) v.issue.serial e in
        let beside = levels-beside ds n tick t s f v.issue v.levels.ring v.levels.plans is.ahead.levels in
        let c : tick < v.issue.c = last-done tick f v.issue v.levels.plans is.not_done order (omega (arith, beside, some-by (count v) closed.0)) in
        alone-later ds n now ordered (entry (table_behind (count v) t) (predictions (count v) t s)) v.issue v.next
        next.0 next.1 next.2 closed.1 (omega arith)

-- ---- the reads before the tick

nothing-more : (b : Bool) (reads more : List Read) → b ≡ false → reads ++ (if b then more else []) ≡ reads
nothing-more false reads more e = append-nil reads
nothing-more true reads more e = absurd (cc e)

more-behind : (b : Bool) (reads more : List Read) → b ≡ true → reads ++ (if b then more else []) ≡ reads ++ more
more-behind true reads more e = refl
more-behind false reads more e = absurd (cc e)

levels-reads : (ds : List ℕ) (n tick now m : ℕ) (t k : Option ℕ) (s u : Machine) (f last : IssueState) (ring : List Level)
    (plans : List PlannedRow) → AreLevels ds n tick t s f last ring plans → All (λ level. level.p < now) ring
    → k ≡ table_behind (length ring) t → u ≡ predictions (length ring) t s → now ≤ (row_of_entry ds n last (entry k u)).p → length ring < m
    → reads_before ds n now (ahead ds n m t s f) ≡ asked_ahead ds n (length ring) t s f ++ reads_of_entry ds n last (entry k u)
unfolding AreLevels predictions ahead reads_before
levels-reads ds n tick now zero t k s u f last ring plans h each table state late more = absurd (omega arith)
levels-reads ds n tick now (suc m) t k s u f last [] [] h each table state late more =
    let issue : last ≡ f = h in
    let same : entry k u ≡ entry t s = ap₂ entry table state in
    let p : (row_of_entry ds n last (entry k u)).p ≡ (row_of_entry ds n f (entry t s)).p = ap₂ (λ g e. (row_of_entry ds n g e).p) issue same in
    nothing-more _ (reads_of_entry ds n f (entry t s)) _ (le-ltb (row_of_entry ds n f (entry t s)).p now (omega arith))
    ∙ ap₂ (λ g e. reads_of_entry ds n g e) (sym issue) (sym same)
levels-reads ds n tick now (suc m) t k s u f last [] (q ∷ qs) h each table state late more = absurd h
levels-reads ds n tick now (suc m) t k s u f last (level ∷ levels) [] h each table state late more = absurd h
levels-reads ds n tick now (suc m) t k s u f last (level ∷ levels) (q ∷ qs) h each table state late more =
    let here : level.p < now = All-head (λ (x : Level). x.p < now) level levels each in
    let is : level.p ≡ (row_of_entry ds n f (entry t s)).p = h.0.p in
    more-behind _ (reads_of_entry ds n f (entry t s)) _ (lt-ltb (row_of_entry ds n f (entry t s)).p now (omega arith))
    ∙ ap (λ reads. reads_of_entry ds n f (entry t s) ++ reads)
    (levels-reads ds n tick now m None k (prediction t s) u (issue_after_entry ds n f (entry t s)) last levels qs h.1
    (All-tail (λ (x : Level). x.p < now) level levels each) (table ∙ sym (behind-none (length levels))) state late (omega arith))
    ∙ sym (append_assoc (reads_of_entry ds n f (entry t s)) (asked_ahead ds n (length levels) None (prediction t s) (issue_after_entry ds n f (entry t s))) (reads_of_entry ds n last (entry k u)))

-- the oldest level is prepared before the tick
oldest-prepared : (ds : List ℕ) (n tick now : ℕ) (t : Option ℕ) (s : Machine) (f last : IssueState) (ring : List Level) (plans : List PlannedRow)
    → AreLevels ds n tick t s f last ring plans → All (λ level. level.p < now) ring → 1 ≤ length ring
    → (row_of_entry ds n f (entry t s)).p < now
unfolding AreLevels
oldest-prepared ds n tick now t s f last [] plans h each some = absurd (omega arith)
oldest-prepared ds n tick now t s f last (level ∷ levels) [] h each some = absurd h
oldest-prepared ds n tick now t s f last (level ∷ levels) (q ∷ qs) h each some =
    let here : level.p < now = All-head (λ (x : Level). x.p < now) level levels each in
    let is : level.p ≡ (row_of_entry ds n f (entry t s)).p = h.0.p in
    omega arith

-- ---- at most 39 reads are accepted at the completion of the oldest level or later

few-prepared : (ds : List ℕ) (n : ℕ) (f : IssueState) (e : Entry) → IsEntryInTime e → length (prepared_asked ds n f e) ≤ 34
few-prepared ds n f e range =
    let p = tick_p ds n f e in
    simp length-append
    (omega (
      arith,
      few-operands f.past p e.reads.one.first e.reads.one.len,
      few-operands f.past p e.reads.two.first e.reads.two.len,
      few-following ds (operands ds n f e).bus e p,
      range.one_few,
      range.two_few,
    ))

few-so-far : (ds : List ℕ) (f : IssueState) (next : FetchUnit) → length (reads_so_far ds f next) ≤ next.entry.own.len + next.entry.target.len + 1
unfolding fetches_asked words_asked fetch_words
few-so-far ds f next =
    let start : Fetching = record { bus = f.bus; answered = 0; awaited = 0 } in
    let behind = fetch_words ds f.past start (wanted_from f) next.entry.own.first next.entry.own.len in
    simp length-append
    (omega (
      arith,
      few-words ds f.past (wanted_from f) start next.entry.own.first next.entry.own.len,
      few-words ds f.past (max (wanted_from f) f.c) behind next.entry.target.first next.entry.target.len,
      few-if next.planned,
    ))
  where
    at-most-one : (side : Option ℕ) → side_count side ≤ 1
    at-most-one None = omega arith
    at-most-one (Some w) = omega arith

    few-if : (b : Bool) → length (if b then side_asked f.past next.entry.side next.formed.a else []) ≤ 1
    few-if true = omega (arith, few-side f.past next.entry.side next.formed.a, at-most-one next.entry.side)
    few-if false = omega arith

few-next : (b : Bool) (ds : List ℕ) (n now : ℕ) (t : Option ℕ) (s : Machine) (v : LookaheadView) → IsNextIf b ds n now t s v
    → IsEntryInTime (entry (table_behind (count v) t) (predictions (count v) t s)) → length (reads_so_far ds v.issue v.next) ≤ 5
few-next true ds n now t s v is range =
    omega (
      arith,
      few-so-far ds v.issue v.next,
      is.0.read_on.first.own_start.few,
      is.0.read_on.first.target_start.few,
      range.own_few,
      range.target_few,
    )
few-next false ds n now t s v is range =
    omega (
      arith,
      few-so-far ds v.issue v.next,
      ap (λ (r : WordRun). r.len) is.1,
      ap (λ (r : WordRun). r.len) is.2,
    )

-- two parts of the reads: after the first one the bus is free by the tick, and the second one is short
record AreFew (ds : List ℕ) (now : ℕ) (reads : List Read) (b : Bus) : Type 0 where
  first : List Read
  rest : List Read
  parts : reads ≡ first ++ rest
  few : length rest ≤ 64
  free : (bus_after_reads ds first b).free ≤ now

few-ahead : (ds : List ℕ) (n tick now : ℕ) (t : Option ℕ) (s : Machine) (f last : IssueState) (ring : List Level) (plans : List PlannedRow) (more : List Read)
    → AreDelaysUpTo 255 ds → IsMachine s → IfSome t (λ i. i < 64) → IsTight 255 f → AreLevels ds n tick t s f last ring plans
    → All (λ level. level.p < now) ring → 1 ≤ length ring → length more ≤ 5 → AreFew ds now (asked_ahead ds n (length ring) t s f ++ more) f.bus
unfolding AreLevels row_of_entry ahead
few-ahead ds n tick now t s f last [] plans more are m some tight h each one few = absurd (omega (arith, one))
few-ahead ds n tick now t s f last (level ∷ levels) [] more are m some tight h each one few = absurd h
few-ahead ds n tick now t s f last (level ∷ []) (q ∷ qs) more are m some tight h each one few =
    let e = entry t s in
    let range = entry-ranges t s m some in
    let early : level.p < now = All-head (λ (x : Level). x.p < now) level [] each in
    let p : level.p ≡ tick_p ds n f e = h.0.p in
    record {
      first = formed_asked ds f e;
      rest = prepared_asked ds n f e ++ more;
      parts =
          ap (λ reads. reads ++ more) (append-nil (reads_of_entry ds n f e) ∙ two-parts ds n f e)
          ∙ append_assoc (formed_asked ds f e) (prepared_asked ds n f e) more;
      few = omega (arith, length-append (prepared_asked ds n f e) more, few-prepared ds n f e range, few);
      free = omega (arith, ap (λ (b : Bus). b.free) (served-formed ds f e), free-formed 255 ds are n f e range tight, p, early);
    }
few-ahead ds n tick now t s f last (level ∷ second ∷ levels) (q ∷ qs) more are m some tight h each one few =
    let e = entry t s in
    let range = entry-ranges t s m some in
    let f' = issue_after_entry ds n f e in
    let rest = few-ahead ds n tick now None (prediction t s) f' last (second ∷ levels) qs more are (prediction-machine t s m some) tt
    (tight-after 255 ds are n f e range tight) h.1 (All-tail (λ (x : Level). x.p < now) level (second ∷ levels) each) (omega arith) few in
    record {
      first = reads_of_entry ds n f e ++ rest.first;
      rest = rest.rest;
      parts =
          append_assoc (reads_of_entry ds n f e) (asked_ahead ds n (length (second ∷ levels)) None (prediction t s) f') more
          ∙ ap (λ reads. reads_of_entry ds n f e ++ reads) rest.parts
          ∙ sym (append_assoc (reads_of_entry ds n f e) rest.first rest.rest);
      few = rest.few;
      free =
          omega (
            arith,
            ap (λ (b : Bus). b.free) (served-append ds (reads_of_entry ds n f e) rest.first f.bus ∙ ap (bus_after_reads ds rest.first) (served-asked ds n f e)),
            rest.free,
          );
    }

pub banks-left : (ds : List ℕ) (n tick now : ℕ) (t : Option ℕ) (s : Machine) (f : IssueState) (v : LookaheadView) → AreOrdered ds n → AreDelaysUpTo 255 ds
    → now ≤ tick + 1 → count v ≤ n → 1 ≤ count v → IsOutlook ds n tick now t s f v
    → All (λ q. (f.c < q.c) × (q.c ≤ v.issue.c)) v.levels.plans → f.bus.free ≤ now
    → IsEntryInTime (entry (table_behind (count v) t) (predictions (count v) t s))
    → (made_before ds now (reads_of_entry ds n f (entry t s)
    ++ reads_before ds n now (ahead ds n (suc n) None (prediction t s) (issue_after_entry ds n f (entry t s)))) f.bus).banks.ticks
    ≡ answers_left now v.log v.next.words.bus.banks.ticks
unfolding ahead reads_before
banks-left ds n tick now t s f v ordered are soon few some is order free range =
    let k = table_behind (count v) t in
    let u = predictions (count v) t s in
    let later = lookahead-later ds n tick now t s f v ordered soon is order in
    let first : (row_of_entry ds n f (entry t s)).p < now = oldest-prepared ds n tick now t s f v.issue v.levels.ring v.levels.plans is.ahead.levels is.prepared some in
    let made = asked_ahead ds n (count v) t s f in
    let so_far = reads_so_far ds v.issue v.next in
    let reads = made ++ so_far in
    let all : made_before ds now (reads_of_entry ds n f (entry t s)
    ++ reads_before ds n now (ahead ds n (suc n) None (prediction t s) (issue_after_entry ds n f (entry t s)))) f.bus ≡ made_before ds now reads f.bus =
    ap (λ reads. made_before ds now reads f.bus)
    (sym (more-behind _ (reads_of_entry ds n f (entry t s)) _ (lt-ltb (row_of_entry ds n f (entry t s)).p now first))
    ∙ levels-reads ds n tick now (suc (suc n)) t k s u f v.issue v.levels.ring v.levels.plans is.ahead.levels is.prepared refl refl
    later.prepared (omega arith)
    ∙ ap (λ reads. made ++ reads) later.reads
    ∙ sym (append_assoc made so_far later.rest))
    ∙ made-more ds now reads later.rest f.bus later.late in
    let log = logs_go_on.later ds f.bus.free now reads f.bus v.log free is.logged in
    let split = few-ahead ds n tick now t s f v.issue v.levels.ring v.levels.plans so_far are is.machine is.indicator is.oldest is.ahead.levels is.prepared some
    (few-next (is_open v) ds n now t s v is.next range) in
    ap (λ (b : Bus). b.banks.ticks) all
    ∙ sym (undone_is_made_before ds now reads f.bus v.log log (λ older early.
    subst (λ (l : List Read). AreEarly now (drop 64 (notes_of_reads ds l f.bus ++ older))) (sym split.parts)
    (few_are_undone ds now split.first split.rest f.bus older split.few split.free early)))
    ∙ ap (λ (b : Bus). answers_left now v.log b.banks.ticks) (bus-ahead ds n tick now t s f v is.next is.ahead)

-- reads that are accepted before the tick are answered soon after it
pub made-soon : (most now : ℕ) (ds : List ℕ) (reads : List Read) (b : Bus) → AreDelaysUpTo most ds → IsNear most b → b.free ≤ now
    → All (λ x. x ≤ now + most) (made_before ds now reads b).banks.ticks
made-soon most now ds reads b are near free =
    let bounds = made-bounds most ds are now reads b near free in
    All-weaker (λ x. x ≤ (made_before ds now reads b).free + most) (λ x. x ≤ now + most) (λ x low. omega (arith, low, bounds.1))
    (made_before ds now reads b).banks.ticks bounds.0.banks
