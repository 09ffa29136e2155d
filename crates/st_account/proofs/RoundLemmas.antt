-- Lemmas on a run that is written from one of its rows on: the lines that are left, and the effect of one round of its loop.
use Rattle.st_account.proofs.Common.{Bool, Result, Ok, Err, IsErr, if◌then◌else◌, nat_eq, ◌||◌, ◌≡◌, ◌≢◌, ℕ, zero, suc, ◌+◌, ◌-◌, ◌⊎◌, inl, inr, true, false, List, [], ◌∷◌, ◌++◌, Option, refl, sym, ◌∙◌, ap, subst, append_assoc, arith, length, words_of_storage, Machine, Signal, rests, interrupt, OutputState, Failed, WritesLines, LinesSoFar, lines_none, lines_more, lines_failed, lines_last, lines_then, lines_cut, done_line, ticks_line, Stage, Stall, PendingEvents, Scene, Moment, Standing, moment_at_start, next_state, next_issue, has_waited, standing_at, next_moment, Use, IssueState, start_line, Run, whole_state_lines, machine_lines, origin_at, Origin, Origins, Border, Account, Made, end_lines, lines_until, lines_to_next, lines_to_end, passed_lines, ended_lines, line_of_start, IsBorderOf, IsNext, IsStepped, Completes, Position, position, next_position, kept_lines, IsStanding, IsBehindMoment, run_ends, begins_segment, why_by, why, segment_end_at, segment_lines, segment_after, uses_at, words_before, lines_of_entry, lines_from}
use Rattle.st_report.specs.Line.{end_line as run_end_line}
use Rattle.st_account.specs.declared.behind.Behind.{Behind}
use Rattle.st_account.specs.LedgerRows.{start_after, rows_from, ledger_rows}
use Rattle.st_account.proofs.BorderLemmas.{border-of, ends-is}
use Rattle.st_account.proofs.EntryLemmas.{kept-none}
use Rattle.st_account.proofs.LoopLemmas.{left-some, rests-not, ends-one, number-some}
use Rattle.st_account.proofs.RunLemmas.{lines-end, lines-on}
use Rattle.st_account.proofs.TurnLemmas.{IsCounting, IsTurning, IsAdding, taken, stands, after, old-words}

-- ---- the lines of a round, by the number of rows up to the first one that is written

module _ (p : Position) (a : Account) (start : List (List ℕ)) where
  pub passed-all : (until : ℕ) → until ≡ 0 → passed_lines until p a start ≡ lines_to_next p a
  unfolding passed_lines
  passed-all until is = ap (λ u. passed_lines u p a start) is

  pub passed-first : (until : ℕ) → until ≡ 1 → passed_lines until p a start ≡ whole_state_lines (next_state p.moment) ++ start_after a.k start p.moment
  unfolding passed_lines
  passed-first until is = ap (λ u. passed_lines u p a start) is

  pub passed-none : (until : ℕ) → until ≢ 0 → until ≢ 1 → passed_lines until p a start ≡ []
  unfolding passed_lines
  passed-none zero some more = absurd (some refl)
  passed-none (suc zero) some more = absurd (more refl)
  passed-none (suc (suc skipped)) some more = refl

pub ended-all : (p : Position) (a : Account) (until : ℕ) → until ≡ 0 → ended_lines until p a ≡ lines_to_end p a
unfolding ended_lines
ended-all p a until is = ap (λ u. ended_lines u p a) is

pub ended-none : (p : Position) (a : Account) (until : ℕ) → until ≢ 0 → ended_lines until p a ≡ end_lines p.moment
unfolding ended_lines
ended-none p a zero some = absurd (some refl)
ended-none p a (suc skipped) some = refl

-- the lines do not depend on what the events change
module _ (p : Position) (a : Account) (s : Machine) (log : List Made) (behind : Behind) where
  abbrev same : Account
  same = record a { state = s; log = log; behind = behind }

  ended-same : (until : ℕ) → ended_lines until p same ≡ ended_lines until p a
  unfolding ended_lines
  ended-same zero = refl
  ended-same (suc skipped) = refl

  passed-same : (start : List (List ℕ)) (until : ℕ) → passed_lines until p same start ≡ passed_lines until p a start
  unfolding passed_lines
  passed-same start zero = refl
  passed-same start (suc zero) = refl
  passed-same start (suc (suc skipped)) = refl

-- the lines of the end, of the state after the events
pub end-there : (m : Moment) (s : Machine) (tick : ℕ) → next_state m ≡ s → m.tick ≡ tick
    → (run_end_line (rests s) ∷ done_line s.done ∷ ticks_line tick ∷ []) ≡ end_lines m
end-there m s tick state is = rw (sym state, sym is) refl

-- ---- the start of a segment

-- the line of the start of the next entry's segment, from the border before that entry
pub start-is : (p : Position) (a : Account) → IsBehindMoment p a
    → (f : IssueState) (k : ℕ) (x old new : Border) → IsBorderOf a f.c x → k ≡ segment_after a.k p.moment → f ≡ next_issue p.moment → new ≡ (if x.begins then x else old)
    → line_of_start k new ≡ start_after a.k (line_of_start a.k old) p.moment
unfolding why
start-is p a is f k x old new border number issue kept =
    ap (λ (y : Border). line_of_start k y) kept
    ∙ by (begins_segment a.k p.moment) there (number)
  where
    there : x.begins ≡ begins_segment a.k p.moment
    there =
        border.begins
        ∙ ap (λ y. nat_eq a.k 0 || y)
        (ends-is p.delays p.levels p.moment a.state a.last a.behind.ahead.found.items a.behind.banks a.behind.card a.behind.waited (border-of p a is) (interrupt a.state) x.ends refl border.ends)

    cause : x.why ≡ why a.k p.moment
    cause =
        ap (λ (y : Border). y.why) border.value
        ∙ ap (λ i. if nat_eq a.k 0 then Run else why_by i a.last.done.mispredicted) (ap interrupt (sym is.state))
        ∙ ap (λ y. if nat_eq a.k 0 then Run else why_by (interrupt (next_state p.moment)) y) (sym is.mispredicted)

    by : (y : Bool) → x.begins ≡ y → k ≡ (if y then a.k + 1 else a.k)
        → line_of_start k (if x.begins then x else old) ≡ (if y then start_line (a.k + 1) (next_issue p.moment).c (has_waited p.moment) (why a.k p.moment) ∷ [] else line_of_start a.k old)
    by true on is_number =
        ap (λ y. line_of_start k (if y then x else old)) on
        ∙ ap (λ y. if y then start_line k x.start x.waited x.why ∷ [] else []) on
        ∙ ap (λ j. start_line j x.start x.waited x.why ∷ []) is_number
        ∙ ap (λ t. start_line (a.k + 1) t x.waited x.why ∷ []) (ap (λ (y : Border). y.start) border.value ∙ ap (λ (g : IssueState). g.c) issue)
        ∙ ap (λ w. start_line (a.k + 1) (next_issue p.moment).c w x.why ∷ []) (ap (λ (y : Border). y.waited) border.value ∙ is.waited)
        ∙ ap (λ y. start_line (a.k + 1) (next_issue p.moment).c (has_waited p.moment) y ∷ []) cause
    by false off is_number =
        ap (λ y. line_of_start k (if y then x else old)) off
        ∙ ap (λ j. line_of_start j old) is_number

-- ---- the lines that are left

module _ (p : Position) (a : Account) (start : List (List ℕ)) where
  abbrev o : Machine → ℕ → Option Origin
  o = origin_at a.origins

  abbrev m : Moment
  m = p.moment

  -- the moment of the next entry
  abbrev behind : Moment
  behind = next_moment p.delays p.levels (standing_at m)

  -- the lines of the last entry and of the remaining run that are still to be written
  unfoldable pub left_lines : ℕ → List (List ℕ)
  left_lines zero = kept_lines a.k a.last (segment_end_at p.left m) ++ lines_from o p.delays p.levels p.left a.k p.before a.last.uses.items m
  left_lines (suc skipped) = rows_from o p.delays p.levels p.left skipped a.k a.last.uses.items start m

  abbrev entry_lines : List (List ℕ)
  entry_lines = lines_of_entry o p.delays p.levels (segment_end_at (p.left - 1) behind) (words_before m a.last.uses.items) (standing_at m)

  abbrev other_lines : List (List ℕ)
  other_lines = lines_from o p.delays p.levels (p.left - 1) (segment_after a.k m) (next_state m) (uses_at p.delays p.levels (standing_at m)) behind

  -- the lines that are left after the border
  unfoldable pub later_lines : ℕ → List (List ℕ)
  later_lines zero = entry_lines ++ other_lines
  later_lines (suc zero) = entry_lines ++ other_lines
  later_lines (suc (suc skipped)) =
      rows_from o p.delays p.levels (p.left - 1) skipped (segment_after a.k m) (uses_at p.delays p.levels (standing_at m)) (start_after a.k start m) behind

  rows-end : (skipped : ℕ) (us : List Use) → (p.left ≡ 0) ⊎ (rests (next_state m) ≡ true) → rows_from o p.delays p.levels p.left skipped a.k us start m ≡ end_lines m
  unfolding rows_from
  rows-end skipped us end = by p.left skipped end
    where
      by : (j skipped : ℕ) → (j ≡ 0) ⊎ (rests (next_state p.moment) ≡ true)
          → rows_from (origin_at a.origins) p.delays p.levels j skipped a.k us start p.moment ≡ end_lines p.moment
      by zero skipped end = refl
      by (suc j) skipped (inl none) = let no : ⊥ = omega arith in absurd no
      by (suc j) zero (inr resting) = rw resting refl
      by (suc j) (suc skipped) (inr resting) = rw resting refl

  -- the run ends
  pub left-end : (until : ℕ) → (p.left ≡ 0) ⊎ (rests (next_state m) ≡ true) → left_lines until ≡ ended_lines until p a
  unfolding left_lines ended_lines
  left-end zero end =
      ap (λ ls. kept_lines a.k a.last (segment_end_at p.left m) ++ ls) (lines-end p.delays p.levels o p.left a.k p.before a.last.uses.items m end)
  left-end (suc skipped) end = rows-end skipped a.last.uses.items end

  -- the run continues
  module _ (some : p.left ≢ 0) (going : rests (next_state m) ≡ false) where
    first-on : (us : List Use) → rows_from o p.delays p.levels p.left 0 a.k us start m
        ≡ (whole_state_lines (next_state m) ++ start_after a.k start m)
        ++ (lines_of_entry o p.delays p.levels (segment_end_at (p.left - 1) behind) (words_before m us) (standing_at m) ++ other_lines)
    unfolding rows_from
    first-on us = by p.left some
      where
        by : (j : ℕ) → j ≢ 0 → rows_from (origin_at a.origins) p.delays p.levels j 0 a.k us start p.moment
            ≡ (whole_state_lines (next_state p.moment) ++ start_after a.k start p.moment)
            ++ (lines_of_entry (origin_at a.origins) p.delays p.levels (segment_end_at (j - 1) (next_moment p.delays p.levels (standing_at p.moment))) (words_before p.moment us)
            (standing_at p.moment)
            ++ lines_from (origin_at a.origins) p.delays p.levels (j - 1) (segment_after a.k p.moment) (next_state p.moment) (uses_at p.delays p.levels (standing_at p.moment))
            (next_moment p.delays p.levels (standing_at p.moment)))
        by zero some = absurd (some refl)
        by (suc j) some =
            let one : j ≡ suc j - 1 = omega arith in
            rw going
            (ap (λ i. (whole_state_lines (next_state p.moment) ++ start_after a.k start p.moment)
            ++ (lines_of_entry (origin_at a.origins) p.delays p.levels (segment_end_at i (next_moment p.delays p.levels (standing_at p.moment))) (words_before p.moment us)
            (standing_at p.moment)
            ++ lines_from (origin_at a.origins) p.delays p.levels i (segment_after a.k p.moment) (next_state p.moment) (uses_at p.delays p.levels (standing_at p.moment))
            (next_moment p.delays p.levels (standing_at p.moment)))) one)

    skip-on : (skipped : ℕ) (us : List Use) → rows_from o p.delays p.levels p.left (suc skipped) a.k us start m
        ≡ rows_from o p.delays p.levels (p.left - 1) skipped (segment_after a.k m) (uses_at p.delays p.levels (standing_at m)) (start_after a.k start m) behind
    unfolding rows_from
    skip-on skipped us = by p.left some
      where
        by : (j : ℕ) → j ≢ 0 → rows_from (origin_at a.origins) p.delays p.levels j (suc skipped) a.k us start p.moment
            ≡ rows_from (origin_at a.origins) p.delays p.levels (j - 1) skipped (segment_after a.k p.moment) (uses_at p.delays p.levels (standing_at p.moment))
            (start_after a.k start p.moment) (next_moment p.delays p.levels (standing_at p.moment))
        by zero some = absurd (some refl)
        by (suc j) some =
            let one : j ≡ suc j - 1 = omega arith in
            rw going
            (ap (λ i. rows_from (origin_at a.origins) p.delays p.levels i skipped (segment_after a.k p.moment) (uses_at p.delays p.levels (standing_at p.moment))
            (start_after a.k start p.moment) (next_moment p.delays p.levels (standing_at p.moment))) one)

    pub left-on : (until : ℕ) → left_lines until ≡ passed_lines until p a start ++ later_lines until
    unfolding left_lines later_lines passed_lines
    left-on zero =
        ap (λ ls. kept_lines a.k a.last (segment_end_at p.left m) ++ ls)
        (lines-on p.delays p.levels o p.left a.k p.before a.last.uses.items m some going
        ∙ append_assoc (segment_lines o p.delays p.levels a.k p.before m) entry_lines other_lines)
        ∙ sym (append_assoc (kept_lines a.k a.last (segment_end_at p.left m)) (segment_lines o p.delays p.levels a.k p.before m) (entry_lines ++ other_lines))
    left-on (suc zero) = first-on a.last.uses.items
    left-on (suc (suc skipped)) = skip-on skipped a.last.uses.items

-- the lines after the border are those of the next entry and of the rest
module _ (p : Position) (a : Account) (start : List (List ℕ)) (d : Account) (new : List (List ℕ))
    (entry : kept_lines d.k d.last (segment_end_at (p.left - 1) (next_moment p.delays p.levels (standing_at p.moment)))
    ≡ lines_of_entry (origin_at a.origins) p.delays p.levels (segment_end_at (p.left - 1) (next_moment p.delays p.levels (standing_at p.moment))) (words_before p.moment a.last.uses.items)
    (standing_at p.moment))
    (number : d.k ≡ segment_after a.k p.moment) (used : d.last.uses.items ≡ uses_at p.delays p.levels (standing_at p.moment)) (table : d.origins ≡ a.origins) where
  abbrev next : Moment
  next = next_moment p.delays p.levels (standing_at p.moment)

  written-left : lines_of_entry (origin_at a.origins) p.delays p.levels (segment_end_at (p.left - 1) next) (words_before p.moment a.last.uses.items) (standing_at p.moment)
      ++ lines_from (origin_at a.origins) p.delays p.levels (p.left - 1) (segment_after a.k p.moment) (next_state p.moment) (uses_at p.delays p.levels (standing_at p.moment)) next
      ≡ kept_lines d.k d.last (segment_end_at (p.left - 1) next)
      ++ lines_from (origin_at d.origins) p.delays p.levels (p.left - 1) d.k (next_state p.moment) d.last.uses.items next
  written-left =
      ap (λ ls. ls
      ++ lines_from (origin_at a.origins) p.delays p.levels (p.left - 1) (segment_after a.k p.moment) (next_state p.moment) (uses_at p.delays p.levels (standing_at p.moment)) next)
      (sym entry)
      ∙ ap (λ ls. kept_lines d.k d.last (segment_end_at (p.left - 1) next) ++ ls)
      (ap (λ i. lines_from (origin_at a.origins) p.delays p.levels (p.left - 1) i (next_state p.moment) (uses_at p.delays p.levels (standing_at p.moment)) next) (sym number)
      ∙ ap (λ us. lines_from (origin_at a.origins) p.delays p.levels (p.left - 1) d.k (next_state p.moment) us next) (sym used)
      ∙ ap (λ y. lines_from (origin_at y) p.delays p.levels (p.left - 1) d.k (next_state p.moment) d.last.uses.items next) (sym table))

  pub later-left : (until rest : ℕ) → rest ≡ until - 1 → (until ≢ 0 → new ≡ start_after a.k start p.moment)
      → later_lines p a start until ≡ left_lines (next_position p) d new rest
  unfolding later_lines left_lines
  later-left zero rest is begun =
      let one : 0 ≡ rest = omega (arith, is) in
      written-left ∙ ap (λ i. left_lines (next_position p) d new i) one
  later-left (suc zero) rest is begun =
      let one : 0 ≡ rest = omega (arith, is) in
      written-left ∙ ap (λ i. left_lines (next_position p) d new i) one
  later-left (suc (suc skipped)) rest is begun =
      let one : suc skipped ≡ rest = omega (arith, is) in
      ap (λ i. rows_from (origin_at a.origins) p.delays p.levels (p.left - 1) skipped i (uses_at p.delays p.levels (standing_at p.moment)) (start_after a.k start p.moment) next)
      (sym number)
      ∙ ap (λ us. rows_from (origin_at a.origins) p.delays p.levels (p.left - 1) skipped d.k us (start_after a.k start p.moment) next) (sym used)
      ∙ ap (λ ls. rows_from (origin_at a.origins) p.delays p.levels (p.left - 1) skipped d.k d.last.uses.items ls next) (sym (begun (λ none. absurd (omega (arith, none)))))
      ∙ ap (λ y. rows_from (origin_at y) p.delays p.levels (p.left - 1) skipped d.k d.last.uses.items new next) (sym table)
      ∙ ap (λ i. left_lines (next_position p) d new i) one

-- ---- the loop

-- Loop invariant of a run: lines are written so far, and those of the last entry and of the remaining run are to be written, from one row on.
pub record IsRunning (s t : OutputState) (all : List (List ℕ)) (ds : List ℕ) (n : ℕ) (total : Stage → ℕ) (waited : Stage → Stall → ℕ) (a : Account) (x : PendingEvents)
    (left until : ℕ) (start : Border) : Type 0 where
  pub m : Moment
  pub b : Machine
  pub counted : IsCounting (position ds n left b m) a x
  pub adding : IsAdding (position ds n left b m) total waited a
  pub so_far : LinesSoFar s t all (left_lines (position ds n left b m) a (line_of_start a.k start) until)
  pub size : length a.words.items ≡ words_of_storage

first-left : (ds : List ℕ) (n left : ℕ) (a : Account) (table : Origins) (b : Machine) (m : Moment) (start : Border) → a.origins ≡ table → a.k ≡ 0 → a.last.uses.items ≡ []
    → start.begins ≡ false → (until : ℕ)
    → lines_until until (origin_at table) ds n left 0 b [] [] m ≡ left_lines (position ds n left b m) a (line_of_start a.k start) until
unfolding lines_until left_lines
first-left ds n left a table b m start same number unused none zero =
    sym (ap (λ ls. ls ++ lines_from (origin_at a.origins) ds n left a.k b a.last.uses.items m) (kept-none a.k a.last (segment_end_at left m) number)
    ∙ ap (λ y. lines_from (origin_at y) ds n left a.k b a.last.uses.items m) same
    ∙ ap (λ k. lines_from (origin_at table) ds n left k b a.last.uses.items m) number
    ∙ ap (λ us. lines_from (origin_at table) ds n left 0 b us m) unused)
first-left ds n left a table b m start same number unused none (suc skipped) =
    sym (ap (λ y. rows_from (origin_at y) ds n left skipped a.k a.last.uses.items (line_of_start a.k start) m) same
    ∙ ap (λ y. rows_from (origin_at table) ds n left skipped a.k a.last.uses.items (if y then start_line a.k start.start start.waited start.why ∷ [] else []) m) none
    ∙ ap (λ k. rows_from (origin_at table) ds n left skipped k a.last.uses.items [] m) number
    ∙ ap (λ us. rows_from (origin_at table) ds n left skipped 0 us [] m) unused)

pub run-starts : (ds : List ℕ) (n left : ℕ) (b : Machine) (m : Moment) (total : Stage → ℕ) (waited : Stage → Stall → ℕ) (a : Account) (x : PendingEvents)
    → IsCounting (position ds n left b m) a x → IsAdding (position ds n left b m) total waited a → (s : OutputState) (table : Origins) (until : ℕ) (start : Border) → a.origins ≡ table → a.k ≡ 0
    → a.last.uses.items ≡ [] → start.begins ≡ false → length a.words.items ≡ words_of_storage
    → IsRunning s s (lines_until until (origin_at table) ds n left 0 b [] [] m) ds n total waited a x left until start
run-starts ds n left b m total waited a x counted adding s table until start same number unused none size =
    let all = lines_until until (origin_at table) ds n left 0 b [] [] m in
    record {
      m = m;
      b = b;
      counted = counted;
      adding = adding;
      so_far = subst (LinesSoFar s s all) (first-left ds n left a table b m start same number unused none until) (lines_none s all);
      size = size;
    }

pub run-taken : (s t : OutputState) (all : List (List ℕ)) (ds : List ℕ) (n : ℕ) (total : Stage → ℕ) (waited : Stage → Stall → ℕ) (a : Account) (until : ℕ) (start : Border)
    (x : PendingEvents) (xs ys : List Signal) (cards : List (List ℕ)) (left : ℕ) → x ≡ record { signals = xs; cards = cards } → xs ≡ ys
    → IsRunning s t all ds n total waited a (record { signals = ys; cards = cards }) left until start → IsRunning s t all ds n total waited a x left until start
run-taken s t all ds n total waited a until start x xs ys cards left came is =
    taken (λ z k. IsRunning s t all ds n total waited a z k until start) x xs ys cards left left came is refl

-- ---- one round

module _ {p : Position} {a : Account} {x : PendingEvents} {a' : Account} {y : PendingEvents} (turn : IsTurning p a x a' y)
    (s t : OutputState) (all : List (List ℕ)) (until : ℕ) (start : Border) (so_far : LinesSoFar s t all (left_lines p a (line_of_start a.k start) until)) where
  -- the run ends
  pub finishes : (u : OutputState) (r : Result (Unit {0}) Failed) → run_ends p.left p.moment ≡ true
      → WritesLines t u (ended_lines until p a') r → WritesLines s u all r
  finishes u r end writes =
      lines_last s t u all (ended_lines until p a) r
      (subst (LinesSoFar s t all) (left-end p a (line_of_start a.k start) until (ends-one p.left (rests (next_state p.moment)) end)) so_far)
      (subst (λ ls. WritesLines t u ls r) (ap (ended_lines until p) turn.same ∙ ended-same p a a'.state a'.log a'.behind until) writes)

  -- the run continues
  module _ (going : run_ends p.left p.moment ≡ false) where
    abbrev passed : List (List ℕ)
    passed = passed_lines until p a (line_of_start a.k start)

    abbrev later : List (List ℕ)
    later = later_lines p a (line_of_start a.k start) until

    parts : LinesSoFar s t all (passed ++ later)
    parts = subst (LinesSoFar s t all)
        (left-on p a (line_of_start a.k start) (left-some p.left (rests (next_state p.moment)) going)
        (rests-not (nat_eq p.left 0) (rests (next_state p.moment)) going) until) so_far

    crossed : (u : OutputState) (r : Result (Unit {0}) Failed)
        → WritesLines t u (passed_lines until p a' (line_of_start a'.k start)) r → WritesLines t u passed r
    crossed u r writes =
        subst (λ ls. WritesLines t u ls r) (ap (λ (v : Account). passed_lines until p v (line_of_start v.k start)) turn.same
        ∙ passed-same p a a'.state a'.log a'.behind (line_of_start a.k start) until) writes

    pub crossing-fails : (u : OutputState) (e : Failed) (r : Result (Unit {0}) Failed) → IsErr r
        → WritesLines t u (passed_lines until p a' (line_of_start a'.k start)) (Err e) → WritesLines s u all r
    crossing-fails u e r f writes = lines_failed s t u all passed later r f parts (crossed u (Err e) writes).err

    -- the lines between two entries are written, and the next entry is completed
    pub goes : (c : Account) (moved : IsNext p a' c) (u : OutputState) (z : Unit {0}) (d : Account) (new : Border)
        (rest : ℕ) → rest ≡ until - 1 → WritesLines t u (passed_lines until p a' (line_of_start a'.k start)) (Ok z)
        → (until ≢ 0 → line_of_start c.k new ≡ start_after a'.k (line_of_start a'.k start) p.moment)
        → ((q : Standing) (end : Option ℕ) → c.k ≢ 0 → IsStanding q c.state c.last
        → kept_lines d.k d.last end ≡ lines_of_entry (origin_at c.origins) p.delays p.levels end c.last.uses.items q)
        → IsStepped c d → ((q : Standing) → IsStanding q c.state c.last → Completes p.delays p.levels q c d)
        → length c.words.items ≡ words_of_storage
        → (total : Stage → ℕ) (waited : Stage → Stall → ℕ) → IsCounting (next_position p) d y → IsAdding (next_position p) total waited d
        → IsRunning s u all p.delays p.levels total waited d y (p.left - 1) rest new
    goes c moved u z d new rest is writes begun entry stepped completes size total waited counted adding =
        let q = standing_at p.moment in
        let end = segment_end_at (p.left - 1) (next_moment p.delays p.levels q) in
        let is_after = after turn going c moved in
        let standing = stands turn going c moved in
        let old = old-words turn going c moved in
        let table : c.origins ≡ a.origins = moved.origins ∙ ap (λ (v : Account). v.origins) turn.same in
        let segment : d.k ≡ c.k = ap (λ (v : Account). v.k) stepped.rest in
        let line : kept_lines d.k d.last end ≡ lines_of_entry (origin_at a.origins) p.delays p.levels end (words_before p.moment a.last.uses.items) q =
        entry q end (number-some a.k c.k p.moment is_after) standing
        ∙ ap (λ v. lines_of_entry (origin_at v) p.delays p.levels end c.last.uses.items q) table
        ∙ ap (λ us. lines_of_entry (origin_at a.origins) p.delays p.levels end us q) old in
        let first : until ≢ 0 → line_of_start d.k new ≡ start_after a.k (line_of_start a.k start) p.moment =
        λ some. ap (λ k. line_of_start k new) segment ∙ begun some
        ∙ ap (λ (v : Account). start_after v.k (line_of_start v.k start) p.moment) turn.same in
        record {
          m = next_moment p.delays p.levels q;
          b = next_state p.moment;
          counted = counted;
          adding = adding;
          so_far = subst (LinesSoFar s u all)
              (later-left p a (line_of_start a.k start) d (line_of_start d.k new) line (segment ∙ is_after) (completes q standing).uses
              (ap (λ (v : Account). v.origins) stepped.rest ∙ table) until rest is first)
              (lines_more s t u all passed later parts (crossed u (Ok z) writes).ok);
          size = ap (λ (v : Account). length v.words.items) stepped.rest ∙ size;
        }

-- ---- the whole part

module _ (o : Machine → ℕ → Option Origin) (ds : List ℕ) (n left skipped : ℕ) (c : Scene) (s u : OutputState) (list : List ℕ) (same : list ≡ ds) where
  -- the lines of the machine are not written completely
  pub rows-fail : (e : Failed) (r : Result (Unit {0}) Failed) → IsErr r → WritesLines s u (machine_lines list n) (Err e)
      → WritesLines s u (ledger_rows o ds n left skipped c) r
  unfolding ledger_rows
  rows-fail e r f h =
      lines_cut s u (machine_lines ds n) (rows_from o ds n left skipped 0 [] [] (moment_at_start c)) e r f
      (subst (λ xs. WritesLines s u (machine_lines xs n) (Err e)) same h)

  pub rows-written : (v : OutputState) (x : Unit {0}) (r : Result (Unit {0}) Failed) (budget until : ℕ) → budget ≡ left → until ≡ suc skipped
      → WritesLines s v (machine_lines list n) (Ok x) → WritesLines v u (lines_until until o ds n budget 0 c.machine [] [] (moment_at_start c)) r
      → WritesLines s u (ledger_rows o ds n left skipped c) r
  unfolding ledger_rows lines_until
  rows-written v x r budget until is first h later =
      lines_then s v u (machine_lines ds n) (rows_from o ds n left skipped 0 [] [] (moment_at_start c)) x r
      (subst (λ xs. WritesLines s v (machine_lines xs n) (Ok x)) same h)
      (subst (λ ls. WritesLines v u ls r)
      (ap (λ i. lines_until i o ds n budget 0 c.machine [] [] (moment_at_start c)) first
      ∙ ap (λ j. rows_from o ds n j skipped 0 [] [] (moment_at_start c)) is) later)
