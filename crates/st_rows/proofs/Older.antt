-- Entries n or more before the last one do not affect any tick on n levels.
use Rattle.st_rows.proofs.Common.{if◌then◌else◌, nat_lt, Bool, ◌≡◌, ℕ, zero, suc, ◌+◌, ◌-◌, ◌<◌, ◌≤◌, max, true, false, List, [], ◌∷◌, get_or, take, Option, None, Some, refl, ap, ◌∙◌, inl, inr, ◌⊎◌, arith, cases_Bool, cases_lt, ltb-true, get_or-take, All-from_get_or, bus_after_request, answer_tick_on, answer_if, is_among, latest_done, no_runs, AreInOrder, AreOlderDone, issue_of_last, wanted_from, words_tick, address_tick, done_before, preparation_tick, tick_a, bus_a, index_arrival, tick_p, operands, tick_c, row_of_entry, issue_after_entry, fetch_word, fetch_words, bus_after_index_read, side_there, read_word, read_words, operands_read, Bus, WordRuns, Entry, Past, Fetching, IssueState, behind, behind_use, uses, wishes}
use Rattle.st_rows.proofs.Within.{latest-within}
use Rattle.st_rows.proofs.Sooner.{take-beyond}
use Rattle.st_rows.proofs.UseLemmas.{read_if, side_if}

-- ---- they are complete when the last entry is prepared

older-taken : (n p : ℕ) (past : List Past) → ((j : ℕ) → n ≤ j → (get_or past j (record { c = 0; writes = no_runs })).c ≤ p)
    → (j : ℕ) → n ≤ j → (get_or (take 7 past) j (record { c = 0; writes = no_runs })).c ≤ p
older-taken n p past old j back = elim (cases_lt j 7) [
  | inl inside ↦ rw (get_or-take 7 past j (record { c = 0; writes = no_runs }) inside) (old j back)
  | inr beyond ↦ omega (arith, take-beyond past 7 j beyond)
]

older-next : (n p : ℕ) (x : Past) (past : List Past) → 1 ≤ n → ((j : ℕ) → n - 1 ≤ j → (get_or past j (record { c = 0; writes = no_runs })).c ≤ p)
    → (j : ℕ) → n ≤ j → (get_or (x ∷ past) j (record { c = 0; writes = no_runs })).c ≤ p
older-next n p x past some old zero back = let no_place : ⊥ = omega arith in absurd no_place
older-next n p x past some old (suc j) back = old j (omega arith)

pub older-after : (ds : List ℕ) (n : ℕ) (f : IssueState) (e : Entry) → 1 ≤ n → AreInOrder f → AreOlderDone n (issue_after_entry ds n f e)
unfolding issue_after_entry tick_p preparation_tick
older-after ds n f e some order =
    older-next n (tick_p ds n f e) (record { c = tick_c ds n f e; writes = e.writes }) (take 7 f.past) some
    (older-taken (n - 1) (tick_p ds n f e) f.past (λ j back. omega (arith, order.falls (n - 1) j back)))

-- ---- the latest writer among the last n entries, and among all kept entries

abbrev AreAlike : ℕ → ℕ → ℕ → Type 0
AreAlike p x y = (x ≡ y) ⊎ ((x ≡ 0) × (y ≤ p))

latest-kept : (p : ℕ) (past : List Past) (n w : ℕ) → ((j : ℕ) → n ≤ j → (get_or past j (record { c = 0; writes = no_runs })).c ≤ p)
    → AreAlike p (latest_done (take n past) w) (latest_done past w)
unfolding latest_done
latest-kept p [] zero w old = inl refl
latest-kept p [] (suc n) w old = inl refl
latest-kept p (x ∷ past) zero w old =
    inr (refl, latest-within p (x ∷ past) w (record { each = All-from_get_or (λ (entry : Past). entry.c ≤ p) (x ∷ past) (record { c = 0; writes = no_runs }) (λ i inside. old i (omega arith)) }))
latest-kept p (x ∷ past) (suc n) w old = elim (cases_Bool (is_among w x.writes)) [
  | inl t ↦ inl (rw t refl)
  | inr f ↦ rw f (latest-kept p past n w (λ j back. old (suc j) (omega arith)))
]

alike-max : (p m x y : ℕ) → p ≤ m → AreAlike p x y → max m x ≡ max m y
alike-max p m x y low (inl same) = rw same refl
alike-max p m x y low (inr old) = omega (arith, old.0, old.1)

not-later : (t y : ℕ) → y ≤ t → nat_lt t y ≡ false
not-later t y low = elim (cases_Bool (nat_lt t y)) [ inl yet ↦ let none : ⊥ = omega (arith, ltb-true t y yet) in absurd none | inr f ↦ f ]

-- ---- stage by stage

record AreSame (p : ℕ) (s t : Fetching) : Type 0 where
  bus : s.bus ≡ t.bus
  answered : s.answered ≡ t.answered
  awaited : max p s.awaited ≡ max p t.awaited

both : {A : Type 0} (F : Bus → ℕ → A) (b c : Bus) (u v : ℕ) → b ≡ c → u ≡ v → F b u ≡ F c v
both F b c u v same equal = rw (same, equal) refl

module _ (ds : List ℕ) (p : ℕ) (few past : List Past) (alike : (w : ℕ) → AreAlike p (latest_done few w) (latest_done past w)) where
  same-words : (from : ℕ) (s t : Fetching) (w n : ℕ) → p ≤ from → AreSame p s t → AreSame p (fetch_words ds few s from w n) (fetch_words ds past t from w n)
  unfolding fetch_words fetch_word behind uses wishes behind_use bus_after_request answer_tick_on
  same-words from s t w zero late is = is
  same-words from s t w (suc n) late is =
      let want : max (max from s.answered) s.awaited ≡ max (max from t.answered) t.awaited = omega (arith, is.answered, is.awaited) in
      let known = both (λ b u. answer_tick_on ds b w u) s.bus t.bus _ _ is.bus want in
      let writer = alike-max p p (latest_done few w) (latest_done past w) (omega arith) (alike w) in
      same-words from (fetch_word ds few s w from) (fetch_word ds past t w from) (w + 1) n late (record {
        bus = both (λ b u. bus_after_request ds b w u) s.bus t.bus _ _ is.bus want;
        answered = omega (arith, is.answered, known);
        awaited = omega (arith, is.awaited, writer);
      })

  same-bus_if : (w a x y : ℕ) (b : Bus) → p < a → AreAlike p x y → side_if ds b w a (if nat_lt a x then Some x else None) ≡ side_if ds b w a (if nat_lt a y then Some y else None)
  same-bus_if w a x y b late (inl same) = rw same refl
  same-bus_if w a x y b late (inr old) = rw (not-later a x (omega (arith, old.0)), not-later a y (omega (arith, old.1))) refl

  same-there_if : (w a x y : ℕ) (b : Bus) → p < a → AreAlike p x y → answer_if ds b w a (if nat_lt a x then Some x else None) ≡ answer_if ds b w a (if nat_lt a y then Some y else None)
  same-there_if w a x y b late (inl same) = rw same refl
  same-there_if w a x y b late (inr old) = rw (not-later a x (omega (arith, old.0)), not-later a y (omega (arith, old.1))) refl

  same-sided : (b : Bus) (side : Option ℕ) (a : ℕ) → p < a → bus_after_index_read ds few b side a ≡ bus_after_index_read ds past b side a
  unfolding bus_after_index_read behind uses behind_use
  same-sided b None a late = refl
  same-sided b (Some w) a late = same-bus_if w a (latest_done few w) (latest_done past w) b late (alike w)

  same-there : (b : Bus) (side : Option ℕ) (a : ℕ) → p < a → side_there ds few b side a ≡ side_there ds past b side a
  unfolding side_there behind uses behind_use
  same-there b None a late = refl
  same-there b (Some w) a late = same-there_if w a (latest_done few w) (latest_done past w) b late (alike w)

  same-read_if : (s : Fetching) (w q x y : ℕ) → p < q → AreAlike p x y
      → read_if ds s w q (if nat_lt q x then Some x else None)
      ≡ read_if ds s w q (if nat_lt q y then Some y else None)
  same-read_if s w q x y late (inl same) = rw same refl
  same-read_if s w q x y late (inr old) = rw (not-later q x (omega (arith, old.0)), not-later q y (omega (arith, old.1))) refl

  same-reads : (q : ℕ) (s : Fetching) (w n : ℕ) → p < q → read_words ds few s q w n ≡ read_words ds past s q w n
  unfolding read_words read_word behind uses wishes behind_use
  same-reads q s w zero late = refl
  same-reads q s w (suc n) late =
      ap (λ (t : Fetching). read_words ds few t q (w + 1) n) (same-read_if s w q (latest_done few w) (latest_done past w) late (alike w))
      ∙ same-reads q (read_word ds past s w q) (w + 1) n late

  same-operands : (b : Bus) (reads : WordRuns) (q : ℕ) → p < q → operands_read ds few (record { bus = b; answered = q; awaited = 0 }) reads q ≡ operands_read ds past (record { bus = b; answered = q; awaited = 0 }) reads q
  unfolding operands_read
  same-operands b reads q late =
      let start : Fetching = record { bus = b; answered = q; awaited = 0 } in
      ap (λ (t : Fetching). read_words ds few t q reads.two.first reads.two.len) (same-reads q start reads.one.first reads.one.len late)
      ∙ same-reads q (read_words ds past start q reads.one.first reads.one.len) reads.two.first reads.two.len late

-- ---- the whole row

take-thrice : (m k j : ℕ) (past : List Past) → m ≤ j → take m (take k (take j past)) ≡ take m (take k past)
take-thrice zero k j past less = refl
take-thrice (suc m) zero j past less = refl
take-thrice (suc m) (suc k) zero past less = let none : ⊥ = omega arith in absurd none
take-thrice (suc m) (suc k) (suc j) [] less = refl
take-thrice (suc m) (suc k) (suc j) (x ∷ past) less = ap (λ (rest : List Past). x ∷ rest) (take-thrice m k j past (omega arith))

take-newest : (n : ℕ) (x : Past) (past : List Past) → take n (x ∷ take 7 (take n past)) ≡ take n (x ∷ take 7 past)
take-newest zero x past = refl
take-newest (suc n) x past = ap (λ (rest : List Past). x ∷ rest) (take-thrice n 7 (suc n) past (omega arith))

module _ (ds : List ℕ) (n : ℕ) (f : IssueState) (e : Entry) (some : 1 ≤ n) (old : AreOlderDone n f) where
  alike : (w : ℕ) → AreAlike f.p (latest_done (take n f.past) w) (latest_done f.past w)
  alike w = latest-kept f.p f.past n w old

  wanted-late : f.p ≤ wanted_from f
  wanted-late = late_if f.serial
    where
      late_if : (alone : Bool) → f.p ≤ (if alone then max f.p f.c else f.p)
      late_if true = omega arith
      late_if false = omega arith

  same-fetched : AreSame f.p (words_tick ds (issue_of_last n f) e) (words_tick ds f e)
  unfolding words_tick fetch_words
  same-fetched =
      let start : AreSame f.p (record { bus = f.bus; answered = 0; awaited = 0 }) (record { bus = f.bus; answered = 0; awaited = 0 }) =
      record { bus = refl; answered = refl; awaited = refl } in
      same-words ds f.p (take n f.past) f.past alike (max (wanted_from f) f.c) _ _ e.target.first e.target.len (omega (arith, wanted-late))
      (same-words ds f.p (take n f.past) f.past alike (wanted_from f) _ _ e.own.first e.own.len wanted-late start)

  same-a : tick_a ds (issue_of_last n f) e ≡ tick_a ds f e
  unfolding tick_a address_tick
  same-a = omega (arith, same-fetched.answered, same-fetched.awaited)

  a-late : f.p < tick_a ds f e
  unfolding tick_a address_tick
  a-late = omega arith

  same-bus_a : bus_a ds (issue_of_last n f) e ≡ bus_a ds f e
  unfolding bus_a bus_after_index_read
  same-bus_a =
      both (λ b a. bus_after_index_read ds (take n f.past) b e.side a) _ _ _ _ same-fetched.bus same-a
      ∙ same-sided ds f.p (take n f.past) f.past alike (words_tick ds f e).bus e.side (tick_a ds f e) a-late

  same-y : index_arrival ds (issue_of_last n f) e ≡ index_arrival ds f e
  unfolding index_arrival side_there
  same-y =
      both (λ b a. side_there ds (take n f.past) b e.side a) _ _ _ _ same-fetched.bus same-a
      ∙ same-there ds f.p (take n f.past) f.past alike (words_tick ds f e).bus e.side (tick_a ds f e) a-late

  same-nth : done_before n (take n f.past) ≡ done_before n f.past
  same-nth = ap (λ (d : Past). d.c) (get_or-take n f.past (n - 1) (record { c = 0; writes = no_runs }) (omega arith))

  same-p : tick_p ds n (issue_of_last n f) e ≡ tick_p ds n f e
  unfolding tick_p preparation_tick
  same-p = omega (arith, same-a, same-y, same-nth)

  p-late : f.p < tick_p ds n f e
  unfolding tick_p preparation_tick
  p-late = omega (arith, a-late)

  same-operands_of : operands ds n (issue_of_last n f) e ≡ operands ds n f e
  unfolding operands operands_read read_words
  same-operands_of =
      both (λ b q. operands_read ds (take n f.past) (record { bus = b; answered = q; awaited = 0 }) e.reads q) _ _ _ _ same-bus_a same-p
      ∙ same-operands ds f.p (take n f.past) f.past alike (bus_a ds f e) e.reads (tick_p ds n f e) p-late

  same-c : tick_c ds n (issue_of_last n f) e ≡ tick_c ds n f e
  unfolding tick_c
  same-c = rw same-operands_of refl

  pub row-kept : row_of_entry ds n (issue_of_last n f) e ≡ row_of_entry ds n f e
  unfolding row_of_entry
  row-kept = rw (same-a, same-p, same-operands_of, same-c) refl

  pub after-kept : issue_of_last n (issue_after_entry ds n (issue_of_last n f) e) ≡ issue_of_last n (issue_after_entry ds n f e)
  unfolding issue_after_entry
  after-kept =
      let taken = take-newest n (record { c = tick_c ds n f e; writes = e.writes }) f.past in
      rw (same-operands_of, same-p, same-c, taken) refl
