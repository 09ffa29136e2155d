-- The rows of a run are rows of segments.
use Rattle.st_causes.proofs.Common.{zero, suc, Bool, if◌then◌else◌, All, reverse, ◌≡◌, ℕ, ◌+◌, ◌≤◌, ◌<◌, true, List, [], ◌∷◌, ◌++◌, inl, inr, refl, sym, ◌∙◌, ap, subst, arith, cases_Bool, All-nil, All-cons, All-head, All-tail, LastAnswers, plan, rests, interrupt, row_of_entry, issue_after_entry, opening_issue, reads_of_entry, IssueState, entry, Scene, Moment, Standing, moment_at_start, next_state, next_issue, ends_segment, standing_at, next_moment, next_row, entry_of_moment, entries-none, entries-step, charges, ticks_for, entries_from, charges_at, all_charges, Charge, side_at, Use, served, reads_told, AreBrought, IsWrittenBy, charge_waits, Turn, Bank, Storage, Wait, formed_at, uses_at, words_before, stalled_from, IsTrueOf, FallTo, ToldRow, told_from, because_at, ticks_for-append, reads_told_are_those_of_the_bus, held_words_are_brought, forwarded_words_are_written, waits_are_true, waits_cover_their_charge, waits_end_before_their_row, waits_add_up_to_their_stage}
use Rattle.std.proofs.Common.{false, length}
use Rattle.st_rows.specs.Ranges.{IsEntryInTime}
use Rattle.st_segment.proofs.EntryRanges.{entry-ranges}
use Rattle.st_refine.proofs.Kept.{interrupt-below}
use Rattle.st_run.specs.Scenes.{IsScene}
use Rattle.st_run.proofs.SceneLemmas.{settled-scene, stepped-scene}
use Rattle.st_ledger.specs.declared.charges.Stage.{Stage}
use Rattle.st_ledger.specs.Sums.{is_parted, row_stalled}
use Rattle.st_ledger.specs.Segments.{Told, IsTold, issue_of, uses_behind, last_uses, all_uses}
use Rattle.st_ledger.specs.Paths.{IsReason}
use Rattle.st_ledger.proofs.ReasonLaws.{reasons_are_true}

-- the issue state is the one after a segment's entries so far; the words of the last entry and of
-- the whole segment are given
pub record ComesOf (ds : List ℕ) (n : ℕ) (f : IssueState) (us segment : List Use) : Type 0 where
  pub banks : LastAnswers
  pub start : ℕ
  pub older : List Told
  pub issue : f ≡ issue_of ds n banks start older
  pub last : us ≡ last_uses ds n banks start older
  pub whole : segment ≡ all_uses ds n banks start older
  pub told : All IsTold older

module _ (ds : List ℕ) (n : ℕ) where
  opened : (banks : LastAnswers) (start : ℕ) → ComesOf ds n (opening_issue banks start) [] []
  unfolding issue_of last_uses all_uses
  opened banks start = record { banks = banks; start = start; older = []; issue = refl; last = refl; whole = refl; told = All-nil IsTold }

  -- the issue state and the words between two rows
  standing-if : (ends : Bool) (m : Moment) (us segment : List Use) (banks : LastAnswers) (start : ℕ) → ComesOf ds n m.issue us segment
      → ComesOf ds n (if ends then opening_issue banks start else m.issue) (if ends then [] else us) (if ends then [] else segment)
  standing-if true m us segment banks start comes = opened banks start
  standing-if false m us segment banks start comes = comes

  at-standing : (m : Moment) (us segment : List Use) → ComesOf ds n m.issue us segment
      → ComesOf ds n (standing_at m).issue (words_before m us) (words_before m segment)
  unfolding next_issue
  at-standing m us segment comes = standing-if (ends_segment m) m us segment m.banks (m.tick + 1 + length m.dropped) comes

  -- the next row's entry
  unfoldable pub told_at : Standing → Told
  told_at p =
      let s = p.scene.machine in
      record { entry = entry_of_moment p; side = side_at (interrupt s) s; reads = (plan s (interrupt s)).reads }

  told-right : (p : Standing) → IsEntryInTime (entry_of_moment p) → IsTold (told_at p)
  unfolding told_at side_at entry
  told-right p fits = record { side = refl; entry = fits }

  uses-are : (p : Standing) (us segment : List Use) (comes : ComesOf ds n p.issue us segment)
      → uses_at ds n p ≡ uses_behind ds n comes.banks comes.start comes.older (told_at p)
  unfolding uses_at uses_behind told_at
  uses-are p us segment comes = rw comes.issue refl

  next-comes : (p : Standing) (us segment : List Use) → IsEntryInTime (entry_of_moment p) → ComesOf ds n p.issue us segment
      → ComesOf ds n (next_moment ds n p).issue (uses_at ds n p) (reverse (uses_at ds n p) ++ segment)
  unfolding next_moment issue_of last_uses all_uses told_at
  next-comes p us segment fits comes = record {
    banks = comes.banks;
    start = comes.start;
    older = told_at p ∷ comes.older;
    issue = ap (λ f. issue_after_entry ds n f (entry_of_moment p)) comes.issue;
    last = uses-are p us segment comes;
    whole = ap (λ us. reverse us ++ segment) (uses-are p us segment comes) ∙ ap (λ us. reverse (uses_behind ds n comes.banks comes.start comes.older (told_at p)) ++ us) comes.whole;
    told = All-cons IsTold (told_at p) comes.older (told-right p fits) comes.told;
  }

  charges-are : (p : Standing) (us segment : List Use) (comes : ComesOf ds n p.issue us segment)
      → charges p.tick (issue_of ds n comes.banks comes.start comes.older) (row_of_entry ds n (issue_of ds n comes.banks comes.start comes.older) (told_at p).entry) ≡ charges_at ds n p
  unfolding charges_at next_row told_at
  charges-are p us segment comes = sym (rw comes.issue refl)

  pub row-true : (p : Standing) (us segment : List Use) → IsEntryInTime (entry_of_moment p) → ComesOf ds n p.issue us segment
      → All (λ (x : Charge). All (IsTrueOf (reverse (uses_at ds n p) ++ segment)) (charge_waits x (uses_at ds n p) us)) (charges_at ds n p)
  unfolding all_uses
  row-true p us segment fits comes =
      let law = waits_are_true ds n p.tick comes.banks comes.start comes.older (told_at p) (All-cons IsTold (told_at p) comes.older (told-right p fits) comes.told) in
      rw (uses-are p us segment comes, comes.last, comes.whole, ← charges-are p us segment comes) law

  pub row-covered : (p : Standing) (us segment : List Use) → IsEntryInTime (entry_of_moment p) → ComesOf ds n p.issue us segment
      → All (λ (x : Charge). is_parted x.stage ≡ true → FallTo x.from x.to (charge_waits x (uses_at ds n p) us)) (charges_at ds n p)
  row-covered p us segment fits comes =
      let law = waits_cover_their_charge ds n p.tick comes.banks comes.start comes.older (told_at p) (All-cons IsTold (told_at p) comes.older (told-right p fits) comes.told) in
      rw (uses-are p us segment comes, comes.last, ← charges-are p us segment comes) law

  -- the words of the next row
  pub row-read : (p : Standing) (us segment : List Use) → IsEntryInTime (entry_of_moment p) → ComesOf ds n p.issue us segment
      → reads_told (uses_at ds n p) ≡ served ds (reads_of_entry ds n p.issue (entry_of_moment p)) p.issue.bus
  unfolding uses_at side_at entry
  row-read p us segment fits comes =
      let s = p.scene.machine in
      reads_told_are_those_of_the_bus ds n p.issue (entry_of_moment p) (side_at (interrupt s) s) (plan s (interrupt s)).reads refl

  pub row-brought : (p : Standing) (us segment : List Use) → IsEntryInTime (entry_of_moment p) → ComesOf ds n p.issue us segment
      → AreBrought (reverse (uses_at ds n p) ++ segment)
  unfolding all_uses
  row-brought p us segment fits comes =
      let law = held_words_are_brought ds n comes.banks comes.start (told_at p ∷ comes.older) (All-cons IsTold (told_at p) comes.older (told-right p fits) comes.told) in
      rw (uses-are p us segment comes, comes.whole) law

  pub row-written : (p : Standing) (us segment : List Use) → IsEntryInTime (entry_of_moment p) → ComesOf ds n p.issue us segment
      → All (IsWrittenBy p.issue.past) (uses_at ds n p)
  unfolding uses_at
  row-written p us segment fits comes =
      let s = p.scene.machine in
      forwarded_words_are_written ds n p.issue (entry_of_moment p) (side_at (interrupt s) s) (plan s (interrupt s)).reads

  pub row-ended : (p : Standing) (us segment : List Use) → IsEntryInTime (entry_of_moment p) → ComesOf ds n p.issue us segment
      → All (λ (x : Charge). All (λ (w : Wait). w.to < (next_row ds n p).c) (charge_waits x (uses_at ds n p) us)) (charges_at ds n p)
  unfolding next_row told_at
  row-ended p us segment fits comes =
      let law = waits_end_before_their_row ds n p.tick comes.banks comes.start comes.older (told_at p) (All-cons IsTold (told_at p) comes.older (told-right p fits) comes.told) in
      rw (uses-are p us segment comes, comes.last, ← charges-are p us segment comes, comes.issue) law

  pub row-reasoned : 1 ≤ n → n ≤ 8 → (p : Standing) (us segment : List Use) → IsEntryInTime (entry_of_moment p) → ComesOf ds n p.issue us segment
      → IsReason ds n p.issue (entry_of_moment p) (formed_at ds p) us (because_at ds n us p)
  unfolding formed_at next_row row_of_entry told_at
  row-reasoned least most p us segment fits comes =
      let law = reasons_are_true ds n comes.banks comes.start comes.older (told_at p) least most (All-cons IsTold (told_at p) comes.older (told-right p fits) comes.told) in
      rw (comes.issue, comes.last) law

  -- ---- all rows

  fits-head : (p : Standing) (ps : List Standing) → All (λ (q : Standing). IsEntryInTime (entry_of_moment q)) (p ∷ ps) → IsEntryInTime (entry_of_moment p)
  fits-head p ps all = All-head (λ (q : Standing). IsEntryInTime (entry_of_moment q)) p ps all

  -- a property of each row holds of all rows
  pub each-told : (P : ToldRow → Type 0)
      → ((p : Standing) (us segment : List Use) → IsEntryInTime (entry_of_moment p) → ComesOf ds n p.issue us segment
      → P (record { standing = p; uses = uses_at ds n p; before = us; segment = reverse (uses_at ds n p) ++ segment }))
      → (left : ℕ) (m : Moment) (us segment : List Use) → ComesOf ds n m.issue us segment
      → All (λ (q : Standing). IsEntryInTime (entry_of_moment q)) (entries_from ds n left m) → All P (told_from ds n left us segment m)
  unfolding told_from
  each-told P one zero m us segment comes fits = All-nil P
  each-told P one (suc left) m us segment comes fits = elim (cases_Bool (rests (next_state m))) [
    | inl y ↦ rw y (All-nil P)
    | inr k ↦
        let p = standing_at m in
        let E : Standing → Type 0 = λ (q : Standing). IsEntryInTime (entry_of_moment q) in
        let here = at-standing m us segment comes in
        let all : All E (p ∷ entries_from ds n left (next_moment ds n p)) =
        subst (λ b. All E (if b then [] else p ∷ entries_from ds n left (next_moment ds n p))) k (subst (All E) (entries-step ds n left m) fits) in
        let fit = fits-head p (entries_from ds n left (next_moment ds n p)) all in
        rw k (All-cons P _ _ (one p (words_before m us) (words_before m segment) fit here)
        (each-told P one left (next_moment ds n p) (uses_at ds n p) (reverse (uses_at ds n p) ++ words_before m segment)
        (next-comes p (words_before m us) (words_before m segment) fit here) (All-tail E p (entries_from ds n left (next_moment ds n p)) all)))
  ]

  -- ---- the totals of all rows

  row-sums : (s : Stage) (p : Standing) (us segment : List Use) → is_parted s ≡ true → IsEntryInTime (entry_of_moment p) → ComesOf ds n p.issue us segment
      → row_stalled s Turn (uses_at ds n p) us (charges_at ds n p) + row_stalled s Bank (uses_at ds n p) us (charges_at ds n p)
      + row_stalled s Storage (uses_at ds n p) us (charges_at ds n p) ≡ ticks_for s (charges_at ds n p)
  row-sums s p us segment parted fits comes =
      let law = waits_add_up_to_their_stage ds n p.tick comes.banks comes.start comes.older (told_at p) s
      (All-cons IsTold (told_at p) comes.older (told-right p fits) comes.told) parted in
      rw (uses-are p us segment comes, comes.last, ← charges-are p us segment comes) law

  pub sums-from : (s : Stage) → is_parted s ≡ true → (left : ℕ) (m : Moment) (us segment : List Use) → ComesOf ds n m.issue us segment
      → All (λ (q : Standing). IsEntryInTime (entry_of_moment q)) (entries_from ds n left m)
      → stalled_from s Turn ds n left us m + stalled_from s Bank ds n left us m + stalled_from s Storage ds n left us m
      ≡ ticks_for s (all_charges ds n (entries_from ds n left m))
  unfolding stalled_from all_charges ticks_for
  sums-from s parted zero m us segment comes fits = rw (entries-none ds n m) refl
  sums-from s parted (suc left) m us segment comes fits = elim (cases_Bool (rests (next_state m))) [
    | inl y ↦ rw (entries-step ds n left m, y) refl
    | inr k ↦
        let p = standing_at m in
        let E : Standing → Type 0 = λ (q : Standing). IsEntryInTime (entry_of_moment q) in
        let here = at-standing m us segment comes in
        let rest = entries_from ds n left (next_moment ds n p) in
        let all : All E (p ∷ rest) = subst (λ b. All E (if b then [] else p ∷ rest)) k (subst (All E) (entries-step ds n left m) fits) in
        let fit = fits-head p rest all in
        let later = sums-from s parted left (next_moment ds n p) (uses_at ds n p) (reverse (uses_at ds n p) ++ words_before m segment)
        (next-comes p (words_before m us) (words_before m segment) fit here) (All-tail E p rest all) in
        rw (entries-step ds n left m, k) (omega (
          arith,
          row-sums s p (words_before m us) (words_before m segment) parted fit here,
          later,
          ticks_for-append s (charges_at ds n p) (all_charges ds n rest),
        ))
  ]

pub at-start : (ds : List ℕ) (n : ℕ) (c : Scene) → ComesOf ds n (moment_at_start c).issue [] []
at-start ds n c = opened ds n (moment_at_start c).banks 0

-- the entries of a run are entries that a machine can have
pub entries-fit : (ds : List ℕ) (n left : ℕ) (m : Moment) → IsScene m.scene → All (λ (q : Standing). IsEntryInTime (entry_of_moment q)) (entries_from ds n left m)
unfolding next_moment
entries-fit ds n zero m is = rw (entries-none ds n m) (All-nil (λ (q : Standing). IsEntryInTime (entry_of_moment q)))
entries-fit ds n (suc left) m is = elim (cases_Bool (rests (next_state m))) [
  | inl y ↦ rw (entries-step ds n left m, y) (All-nil (λ (q : Standing). IsEntryInTime (entry_of_moment q)))
  | inr k ↦
      let p = standing_at m in
      let here : IsScene p.scene = settled-scene m.scene is in
      rw (entries-step ds n left m, k) (All-cons (λ (q : Standing). IsEntryInTime (entry_of_moment q)) p (entries_from ds n left (next_moment ds n p))
      (entry-ranges (interrupt p.scene.machine) p.scene.machine here.machine (interrupt-below p.scene.machine))
      (entries-fit ds n left (next_moment ds n p) (stepped-scene p.scene here)))
]
