-- The lines of a ledger that account for ticks.
use Rattle.st_causes.proofs.Common.{zero, suc, Bool, nat_eq, nat_lt, if◌then◌else◌, map, drop, slice_index, reverse, Option, None, Some, length, ◌≡◌, ℕ, ◌+◌, ◌/◌, ◌≤◌, true, List, [], ◌∷◌, ◌++◌, inl, inr, refl, sym, ◌∙◌, ap, append_assoc, arith, cond_both, cases_Bool, filter-append, Machine, word, IndexChange, Prepared, rests, row_of_entry, issue_after_entry, IssueState, Scene, Moment, Standing, moment_at_start, next_state, next_issue, ends_segment, standing_at, next_moment, next_row, entry_of_moment, lines_for, seen_ahead, Code, Known, Use, entries-none, entries-step, all_ticks, entries_from, charges_at, all_charges, row_stage_line, charge_line, Charge, charges_follow, charge_waits, StallCause, Start, Prefetch, Earlier, Wait, delays_line, tens_of, alone_lines, suppressed_lines, run_lines, index_lines, emitted_lines, code_lines, facts_lines, missed_lines, level_lines, done_entry_lines, charges_of_entry, known_lines, late_entry_lines, spent_lines, use_lines, is_told, wait_lines, charged_lines, wait_sum_lines, because_line, because_lines, drop_lines, begun_entry_lines, segment_end_lines, taken_by, en_lines, prints_lines, nonzero_word_lines, word_change_lines, words_lines, marks_lines, state_lines, machine_lines, EntryDone, Alone, Origin, begun_at, words_behind, segment_start_lines, begins_segment, segment_after, segment_lines, uses_at, words_before, lines_of_entry, segment_end_at, last_lines, totals_lines, wait_totals_lines, lines_from, stalled_from, ledger, head_of, is_word, is_spent_line, told_from, lines_of_row, lines_of_rows}
use Rattle.std.specs.List.{filter}
use Rattle.std.proofs.Common.{false}
use Rattle.st_report.specs.Line.{end_line as run_end_line, done_line, ticks_line}
use Rattle.st_plain.specs.declared.looking.Ahead.{Ahead}
use Rattle.st_ledger.specs.Totals.{sum_lines}
use Rattle.st_ledger.specs.declared.totals.StageSum.{StageSum}
use Rattle.st_ledger.specs.declared.sums.WaitSum.{WaitSum}

-- ---- lines that do not account for ticks

AreOther : List (List ℕ) → Type 0
AreOther xs = filter is_spent_line xs ≡ []

none : AreOther []
unfolding AreOther
none = refl

one : (x : List ℕ) (xs : List (List ℕ)) → is_spent_line x ≡ false → AreOther xs → AreOther (x ∷ xs)
unfolding AreOther
one x xs quiet rest = rw quiet rest

two : (xs ys : List (List ℕ)) → AreOther xs → AreOther ys → AreOther (xs ++ ys)
unfolding AreOther
two xs ys first second = filter-append is_spent_line xs ys ∙ rw (first, second) refl

either : (b : Bool) (xs ys : List (List ℕ)) → AreOther xs → AreOther ys → AreOther (if b then xs else ys)
either true xs ys first second = first
either false xs ys first second = second

-- ---- the machine

tens-other : (n : ℕ) (ds : List ℕ) → AreOther (tens_of n ds)
unfolding tens_of delays_line is_spent_line head_of is_word
tens-other zero ds = none
tens-other (suc n) ds = one _ _ refl (tens-other n (drop 10 ds))

machine-other : (ds : List ℕ) (n : ℕ) → AreOther (machine_lines ds n)
unfolding is_spent_line head_of is_word
machine-other ds n = one _ _ refl (tens-other ((length ds + 9) / 10) ds)

-- ---- an entry

alone-other : (a : Option Alone) → AreOther (alone_lines a)
unfolding alone_lines is_spent_line head_of is_word
alone-other None = none
alone-other (Some a) = one _ _ refl none

suppressed-other : (i : Option ℕ) → AreOther (suppressed_lines i)
unfolding suppressed_lines is_spent_line head_of is_word
suppressed-other None = none
suppressed-other (Some i) = one _ _ refl none

emitted-other : (o : Option Origin) → AreOther (emitted_lines o)
unfolding emitted_lines is_spent_line head_of is_word
emitted-other None = none
emitted-other (Some o) = one _ _ refl none

code-other : (c : Option Code) → AreOther (code_lines c)
unfolding code_lines is_spent_line head_of is_word
code-other None = none
code-other (Some c) = one _ _ refl none

index-other : (x : Option IndexChange) → AreOther (index_lines x)
unfolding index_lines is_spent_line head_of is_word
index-other None = none
index-other (Some x) = one _ _ refl none

run-other : (w n : ℕ) → AreOther (run_lines w n)
unfolding run_lines is_spent_line head_of is_word
run-other w n = either (nat_eq n 0) _ _ none (one _ _ refl none)

uses-other : (n : ℕ) (end : Option ℕ) (us : List Use) → AreOther (use_lines n end us)
unfolding use_lines is_spent_line head_of is_word
uses-other n end [] = none
uses-other n end (u ∷ us) = two _ _ (either (is_told end u.supply) _ _ (one _ _ refl none) none) (uses-other n end us)

facts-other : (n : ℕ) (end : Option ℕ) (p : Prepared) (k : Known) (o : Option Origin) (us : List Use) → AreOther (facts_lines n end p k o us)
unfolding facts_lines
facts-other n end p k o us =
    two _ _ (two _ _ (two _ _ (alone-other _) (suppressed-other _)) (two _ _ (emitted-other o) (code-other k.code)))
    (two _ _ (uses-other n end us) (two _ _ (two _ _ (run-other p.writes.first p.writes.len) (run-other p.writes.first2 p.writes.len2)) (index-other p.index)))

-- ---- where a segment ends, and the state

drops-other : (o : ℕ → Option Origin) (n tick : ℕ) (xs : List Ahead) → AreOther (drop_lines o n tick xs)
unfolding drop_lines is_spent_line head_of is_word
drops-other o n tick [] = none
drops-other o n tick (a ∷ more) = one _ _ refl (two _ _ (facts-other n (Some tick) a.plan a.known (o a.plan.place.address) a.uses.items) (drops-other o (n + 1) tick more))

begun-other : (o : ℕ → Option Origin) (n tick : ℕ) (xs : List Ahead) → AreOther (begun_entry_lines o n tick xs)
unfolding begun_entry_lines is_spent_line head_of is_word
begun-other o n tick [] = none
begun-other o n tick (a ∷ more) = one _ _ refl (facts-other n (Some tick) a.plan a.known (o a.plan.place.address) a.uses.items)

segment_end-other : (o : ℕ → Option Origin) (k tick n : ℕ) (dropped begun : List Ahead) → AreOther (segment_end_lines o k tick n dropped begun)
unfolding segment_end_lines is_spent_line head_of is_word
segment_end-other o k tick n dropped begun =
    either (nat_eq k 0) _ _ none (one _ _ refl (two _ _ (drops-other o n tick dropped) (begun-other o (n + length dropped) tick begun)))

prints-other : (words : List (List ℕ)) → AreOther (prints_lines words)
unfolding prints_lines is_spent_line head_of is_word
prints-other [] = none
prints-other (w ∷ more) = one _ _ refl (prints-other more)

each-other : (give : ℕ → List (List ℕ)) → ((w : ℕ) → AreOther (give w)) → (n first : ℕ) → AreOther (lines_for give n first)
unfolding lines_for
each-other give quiet zero first = none
each-other give quiet (suc n) first = two _ _ (quiet first) (each-other give quiet n (first + 1))

nonzero-other : (s : Machine) (w : ℕ) → AreOther (nonzero_word_lines s w)
unfolding nonzero_word_lines is_spent_line head_of is_word
nonzero-other s w = either (nat_eq (word s w) 0) _ _ none (one _ _ refl none)

change-other : (old : List ℕ) (s : Machine) (w : ℕ) → AreOther (word_change_lines old s w)
unfolding word_change_lines is_spent_line head_of is_word
change-other old s w = either (nat_eq (slice_index old w) (word s w)) _ _ none (one _ _ refl none)

words-other : (k : ℕ) (old : List ℕ) (s : Machine) → AreOther (words_lines k old s)
unfolding words_lines
words-other k old s =
    either (nat_eq k 0) _ _ (each-other (nonzero_word_lines s) (nonzero-other s) _ 0) (each-other (word_change_lines old s) (change-other old s) _ 0)

en-other : (k : ℕ) (was now : Bool) → AreOther (en_lines k was now)
unfolding en_lines is_spent_line head_of is_word
en-other k was now = either _ _ _ (one _ _ refl none) none

marks-other : (words : List (List ℕ)) (k : ℕ) (was : Bool) (old : List ℕ) (s : Machine) → AreOther (marks_lines words k was old s)
unfolding marks_lines is_spent_line head_of is_word
marks-other words k was old s = two _ _ (prints-other words) (one _ _ refl (two _ _ (en-other k was s.enabled) (words-other k old s)))

taken-other : (first : Bool) (taken : Option ℕ) (done : ℕ) → AreOther (taken_by first taken done)
unfolding is_spent_line head_of is_word
taken-other true taken done = none
taken-other false None done = none
taken-other false (Some i) done = one _ _ refl none

state-other : (words : List (List ℕ)) (k : ℕ) (was : Bool) (old : List ℕ) (s : Machine) (taken : Option ℕ) (done : ℕ) → AreOther (state_lines words k was old s taken done)
unfolding state_lines
state-other words k was old s taken done = two _ _ (marks-other words k was old s) (taken-other (nat_eq k 0) taken done)

start-other : (k : ℕ) (m : Moment) → AreOther (segment_start_lines k m)
unfolding is_spent_line head_of is_word
start-other k m = either (begins_segment k m) _ _ (one _ _ refl none) none

segment-other : (o : Machine → ℕ → Option Origin) (ds : List ℕ) (n k : ℕ) (b : Machine) (m : Moment) → AreOther (segment_lines o ds n k b m)
unfolding segment_lines
segment-other o ds n k b m =
    two _ _ (two _ _ (either (ends_segment m) _ _ (segment_end-other _ k _ _ _ _) none) (state-other _ k _ _ _ _ _)) (start-other k m)

-- ---- lines that account for ticks

AreSpent : List (List ℕ) → Type 0
AreSpent xs = filter is_spent_line xs ≡ xs

spent-none : AreSpent []
unfolding AreSpent
spent-none = refl

spent-one : (x : List ℕ) (xs : List (List ℕ)) → is_spent_line x ≡ true → AreSpent xs → AreSpent (x ∷ xs)
unfolding AreSpent
spent-one x xs is rest = rw is (ap (λ ys. x ∷ ys) rest)

spent-two : (xs ys : List (List ℕ)) → AreSpent xs → AreSpent ys → AreSpent (xs ++ ys)
unfolding AreSpent
spent-two xs ys first second = filter-append is_spent_line xs ys ∙ ap (λ zs. zs ++ filter is_spent_line ys) first ∙ ap (λ zs. xs ++ zs) second

spent-is : (xs : List (List ℕ)) → AreSpent xs → filter is_spent_line xs ≡ xs
unfolding AreSpent
spent-is xs are = are

spent-either : (b : Bool) (xs ys : List (List ℕ)) → AreSpent xs → AreSpent ys → AreSpent (if b then xs else ys)
spent-either true xs ys first second = first
spent-either false xs ys first second = second

waits-spent : (xs : List Wait) → AreSpent (wait_lines xs)
unfolding wait_lines is_spent_line head_of is_word
waits-spent [] = spent-none
waits-spent (x ∷ xs) = spent-one _ _ refl (waits-spent xs)

charged-spent : (uses before : List Use) (xs : List Charge) → AreSpent (charged_lines uses before xs)
unfolding charged_lines is_spent_line head_of is_word
charged-spent uses before [] = spent-none
charged-spent uses before (x ∷ xs) =
    spent-two (charge_line x ∷ wait_lines (charge_waits x uses before)) (charged_lines uses before xs)
    (spent-one _ _ refl (waits-spent (charge_waits x uses before))) (charged-spent uses before xs)

cause-spent : (n : ℕ) (b : StallCause) → is_spent_line (because_line n b) ≡ true
unfolding is_spent_line head_of is_word
cause-spent n (Start t) = refl
cause-spent n (Prefetch x) = refl
cause-spent n (Earlier x) = refl

because-spent : (n done r : ℕ) (b : StallCause) → AreSpent (because_lines n done r b)
unfolding because_lines
because-spent n done r b = spent-either (nat_lt done r) _ _ (spent-one _ _ (cause-spent n b) spent-none) spent-none

level-spent : (d : ℕ) → AreSpent (level_lines d)
unfolding level_lines is_spent_line head_of is_word
level-spent d = spent-either (nat_eq d 0) _ _ spent-none (spent-one _ _ refl spent-none)

sums-spent : (xs : List StageSum) → AreSpent (sum_lines xs)
unfolding sum_lines is_spent_line head_of is_word
sums-spent [] = spent-none
sums-spent (x ∷ xs) = spent-one _ _ refl (sums-spent xs)

wait_sums-spent : (xs : List WaitSum) → AreSpent (wait_sum_lines xs)
unfolding wait_sum_lines is_spent_line head_of is_word
wait_sums-spent [] = spent-none
wait_sums-spent (x ∷ xs) = spent-one _ _ refl (wait_sums-spent xs)

-- ---- other lines followed by lines that account for ticks

kept-behind : (xs ys : List (List ℕ)) → AreOther xs → AreSpent ys → filter is_spent_line (xs ++ ys) ≡ ys
unfolding AreOther AreSpent
kept-behind xs ys first second = filter-append is_spent_line xs ys ∙ rw (first, second) refl

-- ---- a row

mispredicted-other : (b : Bool) → AreOther (missed_lines b)
unfolding missed_lines is_spent_line head_of is_word
mispredicted-other true = one _ _ refl none
mispredicted-other false = none

entry-told : (d : EntryDone) (p : Prepared) (k : Known) (uses before : List Use)
    → filter is_spent_line (done_entry_lines d p k uses before) ≡ row_stage_line d.n d.address d.row.ticks ∷ spent_lines d uses before
unfolding done_entry_lines is_spent_line head_of is_word
entry-told d p k uses before =
    ap (λ xs. row_stage_line d.n d.address d.row.ticks ∷ xs)
    (kept-behind (known_lines d p k uses) (spent_lines d uses before)
    (two (missed_lines d.mispredicted) (facts_lines d.n d.end p k d.origin uses) (mispredicted-other d.mispredicted) (facts-other d.n d.end p k d.origin uses))
    (spent-two (charged_lines uses before (charges_of_entry d)) (late_entry_lines d) (charged-spent uses before (charges_of_entry d))
    (spent-two (level_lines d.row.level_wait) (because_lines d.n d.before d.row.ticks.r d.because) (level-spent d.row.level_wait)
    (because-spent d.n d.before d.row.ticks.r d.because))))

row-told : (o : Machine → ℕ → Option Origin) (ds : List ℕ) (n : ℕ) (end : Option ℕ) (before segment : List Use) (p : Standing)
    → filter is_spent_line (lines_of_entry o ds n end before p)
    ≡ lines_of_row ds n (record { standing = p; uses = uses_at ds n p; before = before; segment = segment })
unfolding lines_of_entry lines_of_row charges_at
row-told o ds n end before segment p = entry-told _ _ _ (uses_at ds n p) before

-- ---- the end

end-other : (b : Bool) → is_spent_line (run_end_line b) ≡ false
unfolding is_spent_line head_of is_word
end-other true = refl
end-other false = refl

last-told : (o : Machine → ℕ → Option Origin) (ds : List ℕ) (n k : ℕ) (b : Machine) (m : Moment) → filter is_spent_line (last_lines o ds n k b m) ≡ ticks_line m.tick ∷ []
unfolding last_lines is_spent_line head_of is_word AreOther
last-told o ds n k b m =
    let state = segment_end_lines (o (next_state m)) k m.tick (m.scene.machine.done + 1) (map (seen_ahead ds n) m.dropped) (begun_at ds n b m)
    ++ marks_lines (words_behind m) k b.enabled b.words (next_state m) in
    filter-append is_spent_line state (run_end_line (rests (next_state m)) ∷ done_line (next_state m).done ∷ ticks_line m.tick ∷ [])
    ∙ ap (λ xs. xs ++ filter is_spent_line (run_end_line (rests (next_state m)) ∷ done_line (next_state m).done ∷ ticks_line m.tick ∷ []))
    (two (segment_end_lines (o (next_state m)) k m.tick (m.scene.machine.done + 1) (map (seen_ahead ds n) m.dropped) (begun_at ds n b m))
    (marks_lines (words_behind m) k b.enabled b.words (next_state m)) (segment_end-other (o (next_state m)) k m.tick (m.scene.machine.done + 1) (map (seen_ahead ds n) m.dropped) (begun_at ds n b m))
    (marks-other (words_behind m) k b.enabled b.words (next_state m)))
    ∙ rw (end-other (rests (next_state m))) refl

-- ---- the whole

standing-late : (m : Moment) → m.issue.c ≡ m.tick → m.tick ≤ (standing_at m).issue.c
unfolding next_issue
standing-late m at = cond_both (ends_segment m) _ _ (λ (f : IssueState). m.tick ≤ f.c) (λ y. omega arith) (λ k. omega (arith, at))

next-at : (ds : List ℕ) (n : ℕ) (p : Standing) → (next_moment ds n p).issue.c ≡ (next_moment ds n p).tick
unfolding next_moment next_row row_of_entry issue_after_entry
next-at ds n p = refl

row-ticks : (ds : List ℕ) (n : ℕ) (p : Standing) → p.tick ≤ p.issue.c → p.tick + all_ticks (charges_at ds n p) ≡ (next_moment ds n p).tick
unfolding charges_at next_moment next_row
row-ticks ds n p early = charges_follow.sum ds n p.tick p.issue (entry_of_moment p) early

ticks-append : (xs ys : List Charge) → all_ticks (xs ++ ys) ≡ all_ticks xs + all_ticks ys
unfolding all_ticks
ticks-append [] ys = omega arith
ticks-append (x ∷ xs) ys = omega (arith, ticks-append xs ys)

same-line : (t u : ℕ) → t ≡ u → ticks_line t ∷ [] ≡ ticks_line u ∷ []
same-line t u is = ap (λ k. ticks_line k ∷ []) is

from-told : (o : Machine → ℕ → Option Origin) (ds : List ℕ) (n left k : ℕ) (b : Machine) (us segment : List Use) (m : Moment) → m.issue.c ≡ m.tick
    → filter is_spent_line (lines_from o ds n left k b us m)
    ≡ lines_of_rows ds n (told_from ds n left us segment m) ++ (ticks_line (m.tick + all_ticks (all_charges ds n (entries_from ds n left m))) ∷ [])
unfolding lines_from told_from all_charges all_ticks lines_of_rows AreOther
from-told o ds n zero k b us segment m at = rw (entries-none ds n m) (last-told o ds n k b m ∙ same-line m.tick (m.tick + 0) (omega arith))
from-told o ds n (suc left) k b us segment m at = elim (cases_Bool (rests (next_state m))) [
  | inl y ↦ rw (entries-step ds n left m, y) (last-told o ds n k b m ∙ same-line m.tick (m.tick + 0) (omega arith))
  | inr r ↦
      let p = standing_at m in
      let behind = next_moment ds n p in
      let all = reverse (uses_at ds n p) ++ words_before m segment in
      let row = lines_of_entry o ds n (segment_end_at left behind) (words_before m us) p in
      let rest = lines_from o ds n left (segment_after k m) (next_state m) (uses_at ds n p) behind in
      let here = lines_of_row ds n (record { standing = p; uses = uses_at ds n p; before = words_before m us; segment = all }) in
      let told = lines_of_rows ds n (told_from ds n left (uses_at ds n p) all behind) in
      let later = all_charges ds n (entries_from ds n left behind) in
      rw (entries-step ds n left m, r)
      (filter-append is_spent_line (segment_lines o ds n k b m ++ row) rest
      ∙ ap (λ xs. xs ++ filter is_spent_line rest)
      (filter-append is_spent_line (segment_lines o ds n k b m) row
      ∙ ap (λ xs. xs ++ filter is_spent_line row) (segment-other o ds n k b m)
      ∙ row-told o ds n (segment_end_at left behind) (words_before m us) all p)
      ∙ ap (λ xs. here ++ xs) (from-told o ds n left (segment_after k m) (next_state m) (uses_at ds n p) all behind (next-at ds n p)
      ∙ ap (λ xs. told ++ xs) (same-line (behind.tick + all_ticks later) (m.tick + all_ticks (charges_at ds n p ++ later))
      (omega (arith, row-ticks ds n p (standing-late m at), ticks-append (charges_at ds n p) later))))
      ∙ sym (append_assoc here told (ticks_line (m.tick + all_ticks (charges_at ds n p ++ later)) ∷ [])))
]

four-told : (ms body sums waits : List (List ℕ)) → AreOther ms → AreSpent sums → AreSpent waits
    → filter is_spent_line (ms ++ body ++ sums ++ waits) ≡ filter is_spent_line body ++ (sums ++ waits)
unfolding AreOther
four-told ms body sums waits first third fourth =
    let same : (ms ++ body ++ sums ++ waits) ≡ ms ++ (body ++ (sums ++ waits)) = simp append_assoc refl in
    ap (filter is_spent_line) same
    ∙ filter-append is_spent_line ms (body ++ (sums ++ waits))
    ∙ ap (λ ys. ys ++ filter is_spent_line (body ++ (sums ++ waits))) first
    ∙ filter-append is_spent_line body (sums ++ waits)
    ∙ ap (λ ys. filter is_spent_line body ++ ys) (spent-is (sums ++ waits) (spent-two sums waits third fourth))

pub ledger-told : (o : Machine → ℕ → Option Origin) (ds : List ℕ) (n left : ℕ) (c : Scene)
    → filter is_spent_line (ledger o ds n left c)
    ≡ lines_of_rows ds n (told_from ds n left [] [] (moment_at_start c))
    ++ (ticks_line (all_ticks (all_charges ds n (entries_from ds n left (moment_at_start c))))
    ∷ (totals_lines (all_charges ds n (entries_from ds n left (moment_at_start c)))
    ++ wait_totals_lines (λ r s. stalled_from r s ds n left [] (moment_at_start c))))
unfolding ledger
ledger-told o ds n left c =
    let xs = all_charges ds n (entries_from ds n left (moment_at_start c)) in
    let sums = totals_lines xs in
    let waits = wait_totals_lines (λ r s. stalled_from r s ds n left [] (moment_at_start c)) in
    let rows = lines_of_rows ds n (told_from ds n left [] [] (moment_at_start c)) in
    four-told (machine_lines ds n) (lines_from o ds n left 0 c.machine [] (moment_at_start c)) sums waits (machine-other ds n) (sums-spent _) (wait_sums-spent _)
    ∙ ap (λ ys. ys ++ (sums ++ waits)) (from-told o ds n left 0 c.machine [] [] (moment_at_start c) refl
    ∙ ap (λ ys. rows ++ ys) (same-line ((moment_at_start c).tick + all_ticks xs) (all_ticks xs) (omega arith)))
    ∙ append_assoc rows (ticks_line (all_ticks xs) ∷ []) (sums ++ waits)
