-- Lemmas on a part of a ledger from one row on.
use Rattle.st_causes.proofs.Common.{Bool, false, nat_eq, nat_lt, ◌||◌, if◌then◌else◌, reverse, slice_index, Option, None, Some, length, ◌≡◌, ℕ, ◌+◌, ◌-◌, ◌<◌, ◌≤◌, List, [], ◌∷◌, ◌++◌, refl, sym, ◌∙◌, ap, append_assoc, arith, Machine, word, IndexChange, Prepared, rests, lines_for, Scene, Moment, Standing, moment_at_start, next_state, next_issue, has_waited, ends_segment, standing_at, next_moment, Code, Known, Use, row_stage_line, charge_line, Charge, charge_waits, StallCause, Start, Prefetch, Earlier, Wait, start_line, alone_lines, suppressed_lines, run_lines, index_lines, emitted_lines, code_lines, facts_lines, missed_lines, level_lines, done_entry_lines, charges_of_entry, known_lines, late_entry_lines, spent_lines, use_lines, is_told, wait_lines, charged_lines, because_line, because_lines, taken_by, en_lines, prints_lines, nonzero_word_lines, word_change_lines, words_lines, marks_lines, state_lines, whole_state_lines, machine_lines, EntryDone, Alone, Why, Origin, end_from, why, end_lines_at, words_behind, state_lines_at, segment_after, segment_lines, uses_at, words_before, lines_of_entry, segment_end_at, lines_from, with_totals, ledger, head_of, is_word, is_segment_line, last_segment, IsFromRow, ToldRow, told_from, line_of_row}
use Rattle.std.specs.Prelude.{true}
use Rattle.std.proofs.Common.{zero, suc}
use Rattle.st_account.specs.LedgerRows.{start_after, rows_from, ledger_rows}

-- ---- lines other than SEGMENT

-- no line begins with SEGMENT
IsInside : List (List ℕ) → Type 0
IsInside xs = (last : List (List ℕ)) → last_segment last xs ≡ last

last-append : (last xs ys : List (List ℕ)) → last_segment last (xs ++ ys) ≡ last_segment (last_segment last xs) ys
unfolding last_segment
last-append last [] ys = refl
last-append last (x ∷ xs) ys = last-append (if is_segment_line x then x ∷ [] else last) xs ys

none : IsInside []
unfolding IsInside last_segment
none last = refl

one : (x : List ℕ) (xs : List (List ℕ)) → is_segment_line x ≡ false → IsInside xs → IsInside (x ∷ xs)
unfolding IsInside last_segment
one x xs other rest last = rw other (rest last)

two : (xs ys : List (List ℕ)) → IsInside xs → IsInside ys → IsInside (xs ++ ys)
unfolding IsInside
two xs ys first second last = last-append last xs ys ∙ second (last_segment last xs) ∙ first last

either : (b : Bool) (xs ys : List (List ℕ)) → IsInside xs → IsInside ys → IsInside (if b then xs else ys)
either true xs ys first second = first
either false xs ys first second = second

inside-is : (xs : List (List ℕ)) → IsInside xs → (last : List (List ℕ)) → last_segment last xs ≡ last
unfolding IsInside
inside-is xs inside last = inside last

-- ---- the lines of a row

alone-inside : (a : Option Alone) → IsInside (alone_lines a)
unfolding alone_lines is_segment_line head_of is_word
alone-inside None = none
alone-inside (Some a) = one _ _ refl none

suppressed-inside : (i : Option ℕ) → IsInside (suppressed_lines i)
unfolding suppressed_lines is_segment_line head_of is_word
suppressed-inside None = none
suppressed-inside (Some i) = one _ _ refl none

emitted-inside : (o : Option Origin) → IsInside (emitted_lines o)
unfolding emitted_lines is_segment_line head_of is_word
emitted-inside None = none
emitted-inside (Some o) = one _ _ refl none

code-inside : (c : Option Code) → IsInside (code_lines c)
unfolding code_lines is_segment_line head_of is_word
code-inside None = none
code-inside (Some c) = one _ _ refl none

index-inside : (x : Option IndexChange) → IsInside (index_lines x)
unfolding index_lines is_segment_line head_of is_word
index-inside None = none
index-inside (Some x) = one _ _ refl none

run-inside : (w n : ℕ) → IsInside (run_lines w n)
unfolding run_lines is_segment_line head_of is_word
run-inside w n = either (nat_eq n 0) _ _ none (one _ _ refl none)

uses-inside : (n : ℕ) (end : Option ℕ) (us : List Use) → IsInside (use_lines n end us)
unfolding use_lines is_segment_line head_of is_word
uses-inside n end [] = none
uses-inside n end (u ∷ us) = two _ _ (either (is_told end u.supply) _ _ (one _ _ refl none) none) (uses-inside n end us)

facts-inside : (n : ℕ) (end : Option ℕ) (p : Prepared) (k : Known) (o : Option Origin) (us : List Use) → IsInside (facts_lines n end p k o us)
unfolding facts_lines
facts-inside n end p k o us =
    two _ _ (two _ _ (two _ _ (alone-inside _) (suppressed-inside _)) (two _ _ (emitted-inside o) (code-inside k.code)))
    (two _ _ (uses-inside n end us) (two _ _ (two _ _ (run-inside p.writes.first p.writes.len) (run-inside p.writes.first2 p.writes.len2)) (index-inside p.index)))

waits-inside : (xs : List Wait) → IsInside (wait_lines xs)
unfolding wait_lines is_segment_line head_of is_word
waits-inside [] = none
waits-inside (x ∷ xs) = one _ _ refl (waits-inside xs)

charged-inside : (uses before : List Use) (xs : List Charge) → IsInside (charged_lines uses before xs)
unfolding charged_lines is_segment_line head_of is_word
charged-inside uses before [] = none
charged-inside uses before (x ∷ xs) =
    two (charge_line x ∷ wait_lines (charge_waits x uses before)) (charged_lines uses before xs)
    (one _ _ refl (waits-inside (charge_waits x uses before))) (charged-inside uses before xs)

cause-inside : (n : ℕ) (b : StallCause) → is_segment_line (because_line n b) ≡ false
unfolding is_segment_line head_of is_word
cause-inside n (Start t) = refl
cause-inside n (Prefetch x) = refl
cause-inside n (Earlier x) = refl

because-inside : (n done r : ℕ) (b : StallCause) → IsInside (because_lines n done r b)
unfolding because_lines
because-inside n done r b = either (nat_lt done r) _ _ (one _ _ (cause-inside n b) none) none

level-inside : (d : ℕ) → IsInside (level_lines d)
unfolding level_lines is_segment_line head_of is_word
level-inside d = either (nat_eq d 0) _ _ none (one _ _ refl none)

mispredicted-inside : (b : Bool) → IsInside (missed_lines b)
unfolding missed_lines is_segment_line head_of is_word
mispredicted-inside true = one _ _ refl none
mispredicted-inside false = none

-- ---- the state after a row

prints-inside : (words : List (List ℕ)) → IsInside (prints_lines words)
unfolding prints_lines is_segment_line head_of is_word
prints-inside [] = none
prints-inside (w ∷ more) = one _ _ refl (prints-inside more)

each-inside : (give : ℕ → List (List ℕ)) → ((w : ℕ) → IsInside (give w)) → (n first : ℕ) → IsInside (lines_for give n first)
unfolding lines_for
each-inside give inside zero first = none
each-inside give inside (suc n) first = two _ _ (inside first) (each-inside give inside n (first + 1))

nonzero-inside : (s : Machine) (w : ℕ) → IsInside (nonzero_word_lines s w)
unfolding nonzero_word_lines is_segment_line head_of is_word
nonzero-inside s w = either (nat_eq (word s w) 0) _ _ none (one _ _ refl none)

change-inside : (old : List ℕ) (s : Machine) (w : ℕ) → IsInside (word_change_lines old s w)
unfolding word_change_lines is_segment_line head_of is_word
change-inside old s w = either (nat_eq (slice_index old w) (word s w)) _ _ none (one _ _ refl none)

words-inside : (k : ℕ) (old : List ℕ) (s : Machine) → IsInside (words_lines k old s)
unfolding words_lines
words-inside k old s =
    either (nat_eq k 0) _ _ (each-inside (nonzero_word_lines s) (nonzero-inside s) _ 0) (each-inside (word_change_lines old s) (change-inside old s) _ 0)

en-inside : (k : ℕ) (was now : Bool) → IsInside (en_lines k was now)
unfolding en_lines is_segment_line head_of is_word
en-inside k was now = either _ _ _ (one _ _ refl none) none

marks-inside : (words : List (List ℕ)) (k : ℕ) (was : Bool) (old : List ℕ) (s : Machine) → IsInside (marks_lines words k was old s)
unfolding marks_lines is_segment_line head_of is_word
marks-inside words k was old s = two _ _ (prints-inside words) (one _ _ refl (two _ _ (en-inside k was s.enabled) (words-inside k old s)))

taken-inside : (first : Bool) (taken : Option ℕ) (done : ℕ) → IsInside (taken_by first taken done)
unfolding is_segment_line head_of is_word
taken-inside true taken done = none
taken-inside false None done = none
taken-inside false (Some i) done = one _ _ refl none

state-inside : (words : List (List ℕ)) (k : ℕ) (was : Bool) (old : List ℕ) (s : Machine) (taken : Option ℕ) (done : ℕ) → IsInside (state_lines words k was old s taken done)
unfolding state_lines
state-inside words k was old s taken done = two _ _ (marks-inside words k was old s) (taken-inside (nat_eq k 0) taken done)

-- ---- the lines between two rows

begins-segment : (k tick : ℕ) (waited : Bool) (cause : Why) → is_segment_line (start_line k tick waited cause) ≡ true
unfolding is_segment_line head_of is_word
begins-segment k tick waited cause = refl

border-by : (start : List (List ℕ)) (ends first : Bool) (end state : List (List ℕ)) (line : List ℕ) → IsInside state → is_segment_line line ≡ true
    → last_segment start (((if ends then end else []) ++ state) ++ (if first || ends then line ∷ [] else [])) ≡ (if first || ends then line ∷ [] else start)
unfolding last_segment IsInside
border-by start true true end state line inside is = last-append start (end ++ state) (line ∷ []) ∙ rw is refl
border-by start true false end state line inside is = last-append start (end ++ state) (line ∷ []) ∙ rw is refl
border-by start false true end state line inside is = last-append start state (line ∷ []) ∙ rw is refl
border-by start false false end state line inside is = last-append start state [] ∙ inside start

-- the last line SEGMENT after a border is the start of the next entry's segment
border-last : (o : Machine → ℕ → Option Origin) (ds : List ℕ) (n k : ℕ) (b : Machine) (start : List (List ℕ)) (m : Moment)
    → last_segment start (segment_lines o ds n k b m) ≡ start_after k start m
unfolding segment_lines
border-last o ds n k b start m =
    border-by start (ends_segment m) (nat_eq k 0) (end_lines_at o ds n k b m) (state_lines_at (words_behind m) k b (next_state m))
    (start_line (k + 1) (next_issue m).c (has_waited m) (why k m)) (state-inside (words_behind m) k b.enabled b.words (next_state m) _ _)
    (begins-segment (k + 1) (next_issue m).c (has_waited m) (why k m))

-- ---- a row

-- some lines begin with one line, and none of them is SEGMENT
record BeginsWith (xs : List (List ℕ)) (line : List ℕ) : Type 0 where
  pub rest : List (List ℕ)
  pub is : xs ≡ line ∷ rest
  pub inside : IsInside xs

entry-first : (d : EntryDone) (p : Prepared) (k : Known) (uses before : List Use)
    → BeginsWith (done_entry_lines d p k uses before) (row_stage_line d.n d.address d.row.ticks)
unfolding done_entry_lines is_segment_line head_of is_word
entry-first d p k uses before =
    let others = known_lines d p k uses ++ spent_lines d uses before in
    record {
      rest = others;
      is = refl;
      inside = one (row_stage_line d.n d.address d.row.ticks) others refl
          (two (known_lines d p k uses) (spent_lines d uses before)
          (two (missed_lines d.mispredicted) (facts_lines d.n d.end p k d.origin uses) (mispredicted-inside d.mispredicted) (facts-inside d.n d.end p k d.origin uses))
          (two (charged_lines uses before (charges_of_entry d)) (late_entry_lines d) (charged-inside uses before (charges_of_entry d))
          (two (level_lines d.row.level_wait) (because_lines d.n d.before d.row.ticks.r d.because) (level-inside d.row.level_wait)
          (because-inside d.n d.before d.row.ticks.r d.because))));
    }

row-first : (o : Machine → ℕ → Option Origin) (ds : List ℕ) (n : ℕ) (end : Option ℕ) (before segment : List Use) (p : Standing)
    → BeginsWith (lines_of_entry o ds n end before p) (line_of_row ds n (record { standing = p; uses = uses_at ds n p; before = before; segment = segment }))
unfolding lines_of_entry
row-first o ds n end before segment p = entry-first _ _ _ (uses_at ds n p) before

-- ---- one step of a run

-- the lines from a moment on, divided at the line of a row
record Cut (o : Machine → ℕ → Option Origin) (ds : List ℕ) (n left skipped k : ℕ) (b : Machine) (us segment : List Use) (start : List (List ℕ)) (m : Moment) : Type 0 where
  pub first : List ToldRow
  pub row : ToldRow
  pub others : List ToldRow
  pub rows_are : told_from ds n left us segment m ≡ first ++ (row ∷ others)
  pub skips : length first ≡ skipped
  pub before : List (List ℕ)
  pub after : List (List ℕ)
  pub whole_is : lines_from o ds n left k b us m ≡ before ++ (line_of_row ds n row ∷ after)
  pub part_is : rows_from o ds n left skipped k us start m
      ≡ whole_state_lines row.standing.scene.machine ++ last_segment start before ++ (line_of_row ds n row ∷ after)

module _ (o : Machine → ℕ → Option Origin) (ds : List ℕ) (n left k : ℕ) (b : Machine) (us segment : List Use) (start : List (List ℕ)) (m : Moment) where
  abbrev behind : Moment
  behind = next_moment ds n (standing_at m)

  abbrev words : List Use
  words = reverse (uses_at ds n (standing_at m)) ++ words_before m segment

  abbrev here : ToldRow
  here = record { standing = standing_at m; uses = uses_at ds n (standing_at m); before = words_before m us; segment = words }

  abbrev between : List (List ℕ)
  between = segment_lines o ds n k b m

  abbrev entry : List (List ℕ)
  entry = lines_of_entry o ds n (segment_end_at left behind) (words_before m us) (standing_at m)

  abbrev later : List (List ℕ)
  later = lines_from o ds n left (segment_after k m) (next_state m) (uses_at ds n (standing_at m)) behind

  told-none : rests (next_state m) ≡ true → told_from ds n (suc left) us segment m ≡ []
  unfolding told_from
  told-none resting = rw resting refl

  rows-none : (skipped : ℕ) → rests (next_state m) ≡ true → rows_from o ds n (suc left) skipped k us start m ≡ end_from ds n (suc left) m
  unfolding rows_from end_from
  rows-none zero resting = rw resting refl
  rows-none (suc skipped) resting = rw resting refl

  row-begins : BeginsWith entry (line_of_row ds n here)
  row-begins = row-first o ds n (segment_end_at left behind) (words_before m us) words (standing_at m)

  -- the last line SEGMENT before the lines after an entry
  passed : (xs : List (List ℕ)) → last_segment start ((between ++ entry) ++ xs) ≡ last_segment (start_after k start m) xs
  passed xs =
      last-append start (between ++ entry) xs
      ∙ ap (λ l. last_segment l xs)
      (last-append start between entry ∙ inside-is entry row-begins.inside (last_segment start between) ∙ border-last o ds n k b start m)

  module _ (going : rests (next_state m) ≡ false) where
    told-on : told_from ds n (suc left) us segment m ≡ here ∷ told_from ds n left (uses_at ds n (standing_at m)) words behind
    unfolding told_from
    told-on = rw going refl

    lines-step : lines_from o ds n (suc left) k b us m ≡ (between ++ entry) ++ later
    unfolding lines_from
    lines-step = rw going refl

    rows-first : rows_from o ds n (suc left) 0 k us start m ≡ (whole_state_lines (next_state m) ++ start_after k start m) ++ (entry ++ later)
    unfolding rows_from
    rows-first = rw going refl

    rows-skip : (skipped : ℕ) → rows_from o ds n (suc left) (suc skipped) k us start m
        ≡ rows_from o ds n left skipped (segment_after k m) (uses_at ds n (standing_at m)) (start_after k start m) behind
    unfolding rows_from
    rows-skip skipped = rw going refl

    end-step : end_from ds n (suc left) m ≡ end_from ds n left behind
    unfolding end_from
    end-step = rw going refl

    -- the next row is that row
    cut-here : Cut o ds n (suc left) 0 k b us segment start m
    unfolding row-begins
    cut-here = record {
      first = [];
      row = here;
      others = told_from ds n left (uses_at ds n (standing_at m)) words behind;
      rows_are = told-on;
      skips = refl;
      before = between;
      after = row-begins.rest ++ later;
      whole_is = lines-step ∙ ap (λ xs. (between ++ xs) ++ later) row-begins.is ∙ append_assoc between (line_of_row ds n here ∷ row-begins.rest) later;
      part_is = rows-first
          ∙ ap (λ xs. (whole_state_lines (next_state m) ++ start_after k start m) ++ (xs ++ later)) row-begins.is
          ∙ ap (λ ss. (whole_state_lines (next_state m) ++ ss) ++ (line_of_row ds n here ∷ (row-begins.rest ++ later))) (sym (border-last o ds n k b start m));
    }

    -- that row is a later one
    cut-later : (j : ℕ) → Cut o ds n left j (segment_after k m) (next_state m) (uses_at ds n (standing_at m)) words (start_after k start m) behind
        → Cut o ds n (suc left) (suc j) k b us segment start m
    cut-later j h = record {
      first = here ∷ h.first;
      row = h.row;
      others = h.others;
      rows_are = told-on ∙ ap (λ xs. here ∷ xs) h.rows_are;
      skips = ap suc h.skips;
      before = (between ++ entry) ++ h.before;
      after = h.after;
      whole_is = lines-step ∙ ap (λ xs. (between ++ entry) ++ xs) h.whole_is
          ∙ sym (append_assoc (between ++ entry) h.before (line_of_row ds n h.row ∷ h.after));
      part_is = rows-skip j ∙ h.part_is
          ∙ ap (λ ss. (whole_state_lines h.row.standing.scene.machine ++ ss) ++ (line_of_row ds n h.row ∷ h.after)) (sym (passed h.before));
    }

-- ---- the part

module _ (o : Machine → ℕ → Option Origin) (ds : List ℕ) (n : ℕ) where
  cut : (left skipped k : ℕ) (b : Machine) (us segment : List Use) (start : List (List ℕ)) (m : Moment) → skipped < length (told_from ds n left us segment m)
      → Cut o ds n left skipped k b us segment start m
  unfolding told_from
  cut zero skipped k b us segment start m less = absurd (omega (arith, less))
  cut (suc left) skipped k b us segment start m less =
      by (rests (next_state m)) refl skipped less
      (λ i few. cut left i (segment_after k m) (next_state m) (uses_at ds n (standing_at m)) (reverse (uses_at ds n (standing_at m)) ++ words_before m segment)
      (start_after k start m) (next_moment ds n (standing_at m)) few)
    where
      by : (r : Bool) → rests (next_state m) ≡ r → (i : ℕ) → i < length (told_from ds n (suc left) us segment m)
          → ((j : ℕ) → j < length (told_from ds n left (uses_at ds n (standing_at m)) (reverse (uses_at ds n (standing_at m)) ++ words_before m segment) (next_moment ds n (standing_at m)))
          → Cut o ds n left j (segment_after k m) (next_state m) (uses_at ds n (standing_at m)) (reverse (uses_at ds n (standing_at m)) ++ words_before m segment)
          (start_after k start m) (next_moment ds n (standing_at m)))
          → Cut o ds n (suc left) i k b us segment start m
      by true is i less more = absurd (omega (arith, less, ap length (told-none o ds n left k b us segment start m is)))
      by false is zero less more = cut-here o ds n left k b us segment start m is
      by false is (suc j) less more =
          cut-later o ds n left k b us segment start m is j (more j (omega (arith, less, ap length (told-on o ds n left k b us segment start m is))))

  -- the run has no such row
  over : (left skipped k : ℕ) (us segment : List Use) (start : List (List ℕ)) (m : Moment) → length (told_from ds n left us segment m) ≤ skipped
      → rows_from o ds n left skipped k us start m ≡ end_from ds n left m
  unfolding rows_from end_from
  over zero skipped k us segment start m few = refl
  over (suc left) skipped k us segment start m few =
      by (rests (next_state m)) refl skipped few
      (λ i fewer. over left i (segment_after k m) (uses_at ds n (standing_at m)) (reverse (uses_at ds n (standing_at m)) ++ words_before m segment) (start_after k start m)
      (next_moment ds n (standing_at m)) fewer)
    where
      by : (r : Bool) → rests (next_state m) ≡ r → (i : ℕ) → length (told_from ds n (suc left) us segment m) ≤ i
          → ((j : ℕ) → length (told_from ds n left (uses_at ds n (standing_at m)) (reverse (uses_at ds n (standing_at m)) ++ words_before m segment) (next_moment ds n (standing_at m))) ≤ j
          → rows_from o ds n left j (segment_after k m) (uses_at ds n (standing_at m)) (start_after k start m) (next_moment ds n (standing_at m))
          ≡ end_from ds n left (next_moment ds n (standing_at m)))
          → rows_from o ds n (suc left) i k us start m ≡ end_from ds n (suc left) m
      by true is i few more = rows-none o ds n left k m.scene.machine us segment start m i is
      by false is zero few more = absurd (omega (arith, few, ap length (told-on o ds n left k m.scene.machine us segment start m is)))
      by false is (suc j) few more =
          rows-skip o ds n left k m.scene.machine us segment start m is j
          ∙ more j (omega (arith, few, ap length (told-on o ds n left k m.scene.machine us segment start m is)))
          ∙ sym (end-step o ds n left k m.scene.machine us segment start m is)

  pub from-row : (left skipped : ℕ) (c : Scene) → skipped < length (told_from ds n left [] [] (moment_at_start c)) → IsFromRow o ds n left skipped c
  unfolding ledger ledger_rows
  from-row left skipped c less =
      let h = cut left skipped 0 c.machine [] [] [] (moment_at_start c) less in
      record {
        first = h.first;
        row = h.row;
        others = h.others;
        rows_are = h.rows_are;
        skips = h.skips;
        before = h.before;
        after = h.after;
        whole_is = ap (λ xs. with_totals ds n left c xs) h.whole_is;
        part_is = ap (λ xs. machine_lines ds n ++ xs) h.part_is;
      }

  pub without-row : (left skipped : ℕ) (c : Scene) → length (told_from ds n left [] [] (moment_at_start c)) ≤ skipped
      → ledger_rows o ds n left skipped c ≡ machine_lines ds n ++ end_from ds n left (moment_at_start c)
  unfolding ledger_rows
  without-row left skipped c few = ap (λ xs. machine_lines ds n ++ xs) (over left skipped 0 [] [] [] (moment_at_start c) few)
