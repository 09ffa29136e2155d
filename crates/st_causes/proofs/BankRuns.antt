-- In a run, a bank is held by the previous read in it.
use Rattle.st_causes.proofs.Common.{zero, suc, nat_lt, All, length, reverse, ◌≡◌, ℕ, ◌+◌, List, [], ◌∷◌, ◌++◌, inl, inr, refl, ◌∙◌, ap, subst, cases_Bool, All-nil, All-cons, LastAnswers, plan, rests, interrupt, opening_issue, reads_of_entry, reads_to_end, entry, Moment, Standing, next_state, next_issue, ends_segment, standing_at, next_row, next_moment, entry_of_moment, side_at, Use, AreBankedBehind, busy_until, reads_told_are_those_of_the_bus, uses_at, words_before, ToldRow, told_from}
use Rattle.std.proofs.lemmas.List.{length-set}
use Rattle.st_banks.specs.Bank.{bank_of}
use Rattle.st_banks.specs.declared.answers.TheConstants.{BANKS}
use Rattle.st_rows.specs.Asked.{made_before}
use Rattle.st_rows.specs.BusTimes.{accept_at, answer_at, Read, after_one}
use Rattle.st_rows.specs.declared.bus.Bus.{Bus}
use Rattle.st_rows.proofs.Laws.{rows_make_their_reads}
use Rattle.st_ledger.proofs.BankLemmas.{AreBanked, left-by, banked}

-- the number of banks is unchanged by reads
made-whole : (ds : List ℕ) (t : ℕ) (reads : List Read) (b : Bus) → length b.banks.ticks ≡ BANKS → length (made_before ds t reads b).banks.ticks ≡ BANKS
unfolding made_before
made-whole ds t [] b whole = whole
made-whole ds t (r ∷ reads) b whole = elim (cases_Bool (nat_lt (accept_at b r.w r.want) t)) [
  | inl y ↦
      let one = after_one ds b r in
      let after : length one.banks.ticks ≡ BANKS =
      ap (λ ticks. length ticks) (left-by b.banks ds b r) ∙ length-set b.banks.ticks (bank_of r.w) (answer_at ds b r.w r.want) ∙ whole in
      rw y (made-whole ds t reads one after)
  | inr m ↦ rw m whole
]

-- the banks at the start of a segment
pub opened-banked : (banks : LastAnswers) → length banks.ticks ≡ BANKS → (start : ℕ) → AreBanked banks (opening_issue banks start).bus []
unfolding AreBankedBehind busy_until
opened-banked banks whole start = record { each = tt; until = λ w. refl; whole = whole }

module _ (ds : List ℕ) (n : ℕ) where
  row-banked : (p : Standing) (segment : List Use) (banks : LastAnswers) → AreBanked banks p.issue.bus segment
      → AreBanked banks (next_moment ds n p).issue.bus (reverse (uses_at ds n p) ++ segment)
  unfolding uses_at side_at entry next_moment
  row-banked p segment banks are =
      let s = p.scene.machine in
      let e = entry_of_moment p in
      let told = reads_told_are_those_of_the_bus ds n p.issue e (side_at (interrupt s) s) (plan s (interrupt s)).reads refl in
      subst (λ b. AreBanked banks b (reverse (uses_at ds n p) ++ segment)) (rows_make_their_reads.bus ds n p.issue e)
      (banked banks ds (uses_at ds n p) (reads_of_entry ds n p.issue e) p.issue.bus segment told are)

  next-whole : (p : Standing) → length p.issue.bus.banks.ticks ≡ BANKS → length (next_moment ds n p).banks.ticks ≡ BANKS
  unfolding next_moment
  next-whole p whole =
      let s = p.scene.machine in
      made-whole ds (next_row ds n p).c (reads_to_end ds n (next_row ds n p).c (interrupt s) s p.issue (entry_of_moment p)) p.issue.bus whole

  -- the banks after a moment
  at-standing : (m : Moment) (segment : List Use) (banks : LastAnswers) → AreBanked banks m.issue.bus segment → length m.banks.ticks ≡ BANKS
      → (now : LastAnswers) × AreBanked now (standing_at m).issue.bus (words_before m segment)
  unfolding next_issue
  at-standing m segment banks are whole = elim (cases_Bool (ends_segment m)) [
    | inl y ↦ (m.banks, rw y (opened-banked m.banks whole (m.tick + 1 + length m.dropped)))
    | inr k ↦ (banks, rw k are)
  ]

  pub each-banked : (left : ℕ) (m : Moment) (us segment : List Use) (banks : LastAnswers) → AreBanked banks m.issue.bus segment
      → length m.banks.ticks ≡ BANKS → All (λ (r : ToldRow). (now : LastAnswers) × AreBankedBehind now r.segment) (told_from ds n left us segment m)
  unfolding told_from
  each-banked zero m us segment banks are whole = All-nil (λ (r : ToldRow). (now : LastAnswers) × AreBankedBehind now r.segment)
  each-banked (suc left) m us segment banks are whole =
      let P : ToldRow → Type 0 = λ (r : ToldRow). (now : LastAnswers) × AreBankedBehind now r.segment in
      elim (cases_Bool (rests (next_state m))) [
        | inl y ↦ rw y (All-nil P)
        | inr k ↦
            let p = standing_at m in
            let here = at-standing m segment banks are whole in
            let row = row-banked p (words_before m segment) here.0 here.1 in
            rw k (All-cons P _ _ (here.0, row.each)
            (each-banked left (next_moment ds n p) (uses_at ds n p) (reverse (uses_at ds n p) ++ words_before m segment) here.0 row (next-whole p here.1.whole)))
      ]
