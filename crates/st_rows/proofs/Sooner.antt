-- From ticks that are no later follow ticks that are no later, if all reads take equally long and nothing is forwarded.
use Rattle.st_rows.proofs.Common.{◌==◌, ◌||◌, if◌then◌else◌, nat_lt, Bool, IfSome, ◌≡◌, ℕ, zero, suc, ◌+◌, ◌-◌, ◌<◌, ◌≤◌, max, true, false, List, [], ◌∷◌, length, get_or, set, take, replicate, All, Option, None, Some, refl, sym, inl, inr, arith, subst, mod-lt, cases_Bool, cases_lt, nat_tests, All-get_or, All-head, All-tail, All-cons, All-take, All-replicate, get_or-take, words_of_storage, bank_of, last_of, delay, tick_of, AskedWord, accept_at, answer_at, bus_after_read, requested_if, answer_if, bus_after_request, answer_tick_on, is_in, is_among, latest_done, no_runs, AreEqual, IsHeldSooner, IsBusSooner, IsPastSooner, IsIssueSooner, IsRowSooner, AreInOrder, IsUnwritten, IsHazardFree, AreHazardFree, AreCovered, rows_of_entries, wanted_from, words_tick, address_tick, preparation_tick, tick_a, bus_a, index_arrival, tick_p, operands, tick_c, opening_issue, row_of_entry, issue_after_entry, fetch_word, fetch_words, bus_after_index_read, side_there, read_word, read_words, operands_read, request_inside, bus_after_prefetch, is_forwarded, behind, behind_use, uses, wishes, Bus, WordRuns, Entry, Past, Fetching, IssueState, ArePastWithin}
use Rattle.std.specs.Prelude.{◌%◌}
use Rattle.std.specs.List.{AllZip}
use Rattle.st_banks.specs.declared.answers.LastAnswers.{LastAnswers}
use Rattle.st_rows.proofs.Within.{past-weaker}
use Rattle.st_rows.proofs.Stages.{nth-within}
use Rattle.st_rows.proofs.UseLemmas.{followed-is}

-- ---- pairs of lists

pub paired-take : {A : Type 0} (R : A → A → Type 0) (n : ℕ) (xs ys : List A) → AllZip R xs ys → AllZip R (take n xs) (take n ys)
paired-take R zero xs ys is = tt
paired-take R (suc n) [] [] is = tt
paired-take R (suc n) [] (y ∷ ys) is = absurd is
paired-take R (suc n) (x ∷ xs) [] is = absurd is
paired-take R (suc n) (x ∷ xs) (y ∷ ys) is = (is.0, paired-take R n xs ys is.1)

paired-at : (xs ys : List ℕ) (i : ℕ) → AllZip (λ s t. s ≤ t) xs ys → get_or xs i 0 ≤ get_or ys i 0
paired-at [] [] i is = omega arith
paired-at [] (y ∷ ys) i is = absurd is
paired-at (x ∷ xs) [] i is = absurd is
paired-at (x ∷ xs) (y ∷ ys) zero is = is.0
paired-at (x ∷ xs) (y ∷ ys) (suc i) is = paired-at xs ys i is.1

paired-set : (xs ys : List ℕ) (i s t : ℕ) → s ≤ t → AllZip (λ s t. s ≤ t) xs ys → AllZip (λ s t. s ≤ t) (set xs i s) (set ys i t)
paired-set [] [] i s t low is = tt
paired-set [] (y ∷ ys) i s t low is = absurd is
paired-set (x ∷ xs) [] i s t low is = absurd is
paired-set (x ∷ xs) (y ∷ ys) zero s t low is = (low, is.1)
paired-set (x ∷ xs) (y ∷ ys) (suc i) s t low is = (is.0, paired-set xs ys i s t low is.1)

-- the word is held in both buffers, answered no later in the first, or in neither
abbrev BothSooner : Option ℕ → Option ℕ → Type 0
BothSooner None None = Unit {0}
BothSooner None (Some t) = ⊥
BothSooner (Some s) None = ⊥
BothSooner (Some s) (Some t) = s ≤ t

found-sooner : (xs ys : List AskedWord) (w : ℕ) → AllZip IsHeldSooner xs ys → BothSooner (tick_of xs w) (tick_of ys w)
found-sooner [] [] w is = tt
found-sooner [] (y ∷ ys) w is = absurd is
found-sooner (x ∷ xs) [] w is = absurd is
found-sooner (x ∷ xs) (y ∷ ys) w is = elim (cases_Bool (x.w == w)) [
  | inl t ↦ let u : (y.w == w) ≡ true = rw (sym is.0.0) t in rw (t, u) is.0.1
  | inr n ↦ let u : (y.w == w) ≡ false = rw (sym is.0.0) n in rw (n, u) (found-sooner xs ys w is.1)
]

latest-sooner : (past late : List Past) (w : ℕ) → AllZip IsPastSooner past late → latest_done past w ≤ latest_done late w
unfolding latest_done
latest-sooner [] [] w is = omega arith
latest-sooner [] (y ∷ ys) w is = absurd is
latest-sooner (x ∷ xs) [] w is = absurd is
latest-sooner (x ∷ xs) (y ∷ ys) w is = elim (cases_Bool (is_among w x.writes)) [
  | inl t ↦ let u : is_among w y.writes ≡ true = rw (sym is.0.1) t in rw (t, u) is.0.0
  | inr n ↦ let u : is_among w y.writes ≡ false = rw (sym is.0.1) n in rw (n, u) (latest-sooner xs ys w is.1)
]

nth-sooner : (past late : List Past) (i : ℕ) → AllZip IsPastSooner past late
    → (get_or past i (record { c = 0; writes = no_runs })).c ≤ (get_or late i (record { c = 0; writes = no_runs })).c
nth-sooner [] [] i is = omega arith
nth-sooner [] (y ∷ ys) i is = absurd is
nth-sooner (x ∷ xs) [] i is = absurd is
nth-sooner (x ∷ xs) (y ∷ ys) zero is = is.0.0
nth-sooner (x ∷ xs) (y ∷ ys) (suc i) is = nth-sooner xs ys i is.1

-- a word that no entry writes has no latest writer
unwritten-latest : (past : List Past) (w : ℕ) → All (λ entry. is_among w entry.writes ≡ false) past → latest_done past w ≡ 0
unfolding latest_done
unwritten-latest [] w none = refl
unwritten-latest (d ∷ past) w none =
    rw (All-head (λ (entry : Past). is_among w entry.writes ≡ false) d past none)
    (unwritten-latest past w (All-tail (λ (entry : Past). is_among w entry.writes ≡ false) d past none))

not-below-zero : (t : ℕ) → nat_lt t 0 ≡ false
not-below-zero t = grind (arith, nat_tests)

pub not-forwarded : (past : List Past) (w t : ℕ) → All (λ entry. is_among w entry.writes ≡ false) past → is_forwarded past w t ≡ false
not-forwarded past w t none = rw (unwritten-latest past w none) (not-below-zero t)

-- both machines keep entries that write equal words
pub unwritten-same : (past late : List Past) (w : ℕ) → AllZip IsPastSooner past late
    → All (λ entry. is_among w entry.writes ≡ false) past → All (λ entry. is_among w entry.writes ≡ false) late
unwritten-same [] [] w is none = none
unwritten-same [] (y ∷ ys) w is none = absurd is
unwritten-same (x ∷ xs) [] w is none = absurd is
unwritten-same (x ∷ xs) (y ∷ ys) w is none =
    All-cons (λ (entry : Past). is_among w entry.writes ≡ false) y ys
    (rw (sym is.0.1) (All-head (λ (entry : Past). is_among w entry.writes ≡ false) x xs none))
    (unwritten-same xs ys w is.1 (All-tail (λ (entry : Past). is_among w entry.writes ≡ false) x xs none))

-- ---- one read

module _ (d : ℕ) (ds : List ℕ) (are : AreEqual d ds) where
  delay-equal : (t : ℕ) → delay ds t ≡ d
  delay-equal t = All-get_or (λ x. x ≡ d) ds (t % length ds) 0 (mod-lt t (omega (arith, are.some))) are.each

  accept-sooner : (b c : Bus) (w want later : ℕ) → IsBusSooner b c → want ≤ later → accept_at b w want ≤ accept_at c w later
  accept-sooner b c w want later is low =
      let bank : last_of b.banks.ticks w ≤ last_of c.banks.ticks w = paired-at b.banks.ticks c.banks.ticks (bank_of w) is.banks in
      omega (arith, is.free)

  pub answer-sooner : (b c : Bus) (w want later : ℕ) → IsBusSooner b c → want ≤ later → answer_at ds b w want ≤ answer_at ds c w later
  answer-sooner b c w want later is low =
      omega (arith, delay-equal (accept_at b w want), delay-equal (accept_at c w later), accept-sooner b c w want later is low)

  pub read-sooner : (b c : Bus) (w want later : ℕ) → IsBusSooner b c → want ≤ later → IsBusSooner (bus_after_read ds b w want) (bus_after_read ds c w later)
  unfolding bus_after_read
  read-sooner b c w want later is low = record {
    free = omega (arith, accept-sooner b c w want later is low);
    banks = paired-set b.banks.ticks c.banks.ticks (bank_of w) _ _ (answer-sooner b c w want later is low) is.banks;
    held = is.held;
  }

  requested_if-sooner : (o p : Option ℕ) (b c : Bus) (w want later : ℕ) → BothSooner o p → IsBusSooner b c → want ≤ later
      → IsBusSooner (requested_if ds b w want o) (requested_if ds c w later p) × (answer_if ds b w want o ≤ answer_if ds c w later p)
  requested_if-sooner (Some s) (Some t) b c w want later both is low = (is, both)
  requested_if-sooner (Some s) None b c w want later both is low = absurd both
  requested_if-sooner None (Some t) b c w want later both is low = absurd both
  requested_if-sooner None None b c w want later both is low =
      let made = read-sooner b c w want later is low in
      let known = answer-sooner b c w want later is low in (
        record {
          free = made.free;
          banks = made.banks;
          held = ((refl, known), paired-take IsHeldSooner 3 b.held.words c.held.words is.held);
        },
        known,
      )

  pub requested-sooner : (b c : Bus) (w want later : ℕ) → IsBusSooner b c → want ≤ later
      → IsBusSooner (bus_after_request ds b w want) (bus_after_request ds c w later) × (answer_tick_on ds b w want ≤ answer_tick_on ds c w later)
  unfolding bus_after_request answer_tick_on
  requested-sooner b c w want later is low =
      requested_if-sooner (tick_of b.held.words w) (tick_of c.held.words w) b c w want later (found-sooner b.held.words c.held.words w is.held) is low

  -- ---- instruction words

  record IsFetchingSooner (s t : Fetching) : Type 0 where
    bus : IsBusSooner s.bus t.bus
    answered : s.answered ≤ t.answered
    awaited : s.awaited ≤ t.awaited

  module _ (past late : List Past) (kept : AllZip IsPastSooner past late) where
    fetch_words-sooner : (from later : ℕ) (s t : Fetching) (w n : ℕ) → from ≤ later → IsFetchingSooner s t
        → IsFetchingSooner (fetch_words ds past s from w n) (fetch_words ds late t later w n)
    unfolding fetch_word fetch_words behind_use bus_after_request answer_tick_on behind uses wishes
    fetch_words-sooner from later s t w zero low is = is
    fetch_words-sooner from later s t w (suc n) low is =
        let one = requested-sooner s.bus t.bus w (max (max from s.answered) s.awaited) (max (max later t.answered) t.awaited) is.bus
        (omega (arith, is.answered, is.awaited)) in
        fetch_words-sooner from later (fetch_word ds past s w from) (fetch_word ds late t w later) (w + 1) n low (record {
          bus = one.0;
          answered = omega (arith, is.answered, one.1);
          awaited = omega (arith, is.awaited, latest-sooner past late w kept);
        })

    -- ---- operands that no entry writes

    record IsReadingSooner (s t : Fetching) : Type 0 where
      bus : IsBusSooner s.bus t.bus
      answered : s.answered ≤ t.answered

    read_word-sooner : (p q : ℕ) (s t : Fetching) (w : ℕ) → p ≤ q → All (λ entry. is_among w entry.writes ≡ false) past → IsReadingSooner s t
        → IsReadingSooner (read_word ds past s w p) (read_word ds late t w q)
    unfolding read_word behind_use
    read_word-sooner p q s t w low none is =
        rw (not-forwarded past w p none, not-forwarded late w q (unwritten-same past late w kept none)) (record {
          bus = read-sooner s.bus t.bus w p q is.bus low;
          answered = omega (arith, is.answered, answer-sooner s.bus t.bus w p q is.bus low);
        })

    read_words-sooner : (p q : ℕ) (s t : Fetching) (w n : ℕ) → p ≤ q
        → ((v : ℕ) → w ≤ v → v < w + n → All (λ entry. is_among v entry.writes ≡ false) past) → IsReadingSooner s t
        → IsReadingSooner (read_words ds past s p w n) (read_words ds late t q w n)
    unfolding read_words behind uses wishes read_word
    read_words-sooner p q s t w zero low none is = is
    read_words-sooner p q s t w (suc n) low none is =
        read_words-sooner p q (read_word ds past s w p) (read_word ds late t w q) (w + 1) n low (λ v least most. none v (omega arith) (omega arith))
        (read_word-sooner p q s t w low (none w (omega arith) (omega arith)) is)

    -- ---- the index-side word

    sided-sooner : (b c : Bus) (side : Option ℕ) (a x : ℕ) → IfSome side (λ w. All (λ entry. is_among w entry.writes ≡ false) past) → IsBusSooner b c → a ≤ x
        → IsBusSooner (bus_after_index_read ds past b side a) (bus_after_index_read ds late c side x) × (side_there ds past b side a ≤ side_there ds late c side x)
    unfolding bus_after_index_read side_there behind uses behind_use
    sided-sooner b c None a x none is low = (is, omega arith)
    sided-sooner b c (Some w) a x none is low =
        rw (not-forwarded past w a none, not-forwarded late w x (unwritten-same past late w kept none))
        (read-sooner b c w a x is low, answer-sooner b c w a x is low)

  -- ---- following words

  inside_if-sooner : (inside : Bool) (b c : Bus) (w p q : ℕ) → IsBusSooner b c → p ≤ q
      → IsBusSooner (if inside then bus_after_request ds b w p else b) (if inside then bus_after_request ds c w q else c)
  inside_if-sooner true b c w p q is low = (requested-sooner b c w p q is low).0
  inside_if-sooner false b c w p q is low = is

  follow_if-sooner : (follows : Bool) (b c : Bus) (w p q : ℕ) → IsBusSooner b c → p ≤ q
      → IsBusSooner (if follows then request_inside ds (request_inside ds b w p) (w + 1) p else b)
      (if follows then request_inside ds (request_inside ds c w q) (w + 1) q else c)
  follow_if-sooner false b c w p q is low = is
  follow_if-sooner true b c w p q is low =
      inside_if-sooner (nat_lt (w + 1) words_of_storage) (request_inside ds b w p) (request_inside ds c w q) (w + 1) p q
      (inside_if-sooner (nat_lt w words_of_storage) b c w p q is low) low

-- ---- one entry, on m levels and on n levels, where n is at most m

-- none of the previous entries writes a word that the entry reads, except instruction words
pub record IsHazardFreeBehind (past : List Past) (e : Entry) : Type 0 where
  pub side : IfSome e.side (λ w. All (λ entry. is_among w entry.writes ≡ false) past)
  pub one : (v : ℕ) → e.reads.one.first ≤ v → v < e.reads.one.first + e.reads.one.len → All (λ entry. is_among v entry.writes ≡ false) past
  pub two : (v : ℕ) → e.reads.two.first ≤ v → v < e.reads.two.first + e.reads.two.len → All (λ entry. is_among v entry.writes ≡ false) past

alone-sooner : (alone : Bool) (c x : ℕ) → c ≤ x → (if alone then c else 0) ≤ (if alone then x else 0)
alone-sooner true c x low = low
alone-sooner false c x low = omega arith

wanted_if-sooner : (alone : Bool) (p q c x : ℕ) → p ≤ q → c ≤ x → (if alone then max p c else p) ≤ (if alone then max q x else q)
wanted_if-sooner true p q c x low less = omega arith
wanted_if-sooner false p q c x low less = low

module _ (d : ℕ) (ds : List ℕ) (are : AreEqual d ds) (m n : ℕ) (more : n ≤ m) (f g : IssueState) (e : Entry)
    (is : IsIssueSooner f g) (order : AreInOrder g) (hazard_free : IsHazardFreeBehind f.past e) where
  wanted-sooner : wanted_from f ≤ wanted_from g
  wanted-sooner = rw is.serial (wanted_if-sooner g.serial f.p g.p f.c g.c is.prepared is.done)

  fetched-sooner : IsFetchingSooner d ds are (words_tick ds f e) (words_tick ds g e)
  unfolding words_tick fetch_words
  fetched-sooner =
      let start : IsFetchingSooner d ds are (record { bus = f.bus; answered = 0; awaited = 0 }) (record { bus = g.bus; answered = 0; awaited = 0 }) =
      record { bus = is.bus; answered = omega arith; awaited = omega arith } in
      let want = wanted-sooner in
      fetch_words-sooner d ds are f.past g.past is.past (max (wanted_from f) f.c) (max (wanted_from g) g.c) _ _ e.target.first e.target.len (omega (arith, want, is.done))
      (fetch_words-sooner d ds are f.past g.past is.past (wanted_from f) (wanted_from g) _ _ e.own.first e.own.len want start)

  a-sooner : tick_a ds f e ≤ tick_a ds g e
  unfolding tick_a address_tick
  a-sooner =
      let words = fetched-sooner in
      let alone : (if e.serial || f.serial then f.c else 0) ≤ (if e.serial || g.serial then g.c else 0) =
      rw is.serial (alone-sooner (e.serial || g.serial) f.c g.c is.done) in
      omega (arith, words.answered, words.awaited, is.prepared, is.bus.free, alone)

  sides-sooner : IsBusSooner (bus_a ds f e) (bus_a ds g e) × (index_arrival ds f e ≤ index_arrival ds g e)
  unfolding bus_a index_arrival bus_after_index_read side_there
  sides-sooner =
      let words = fetched-sooner in
      sided-sooner d ds are f.past g.past is.past (words_tick ds f e).bus (words_tick ds g e).bus e.side (tick_a ds f e) (tick_a ds g e) hazard_free.side words.bus a-sooner

  p-sooner : tick_p ds m f e ≤ tick_p ds n g e
  unfolding tick_p preparation_tick
  p-sooner =
      let early = nth-sooner f.past g.past (m - 1) is.past in
      let falls = order.falls (n - 1) (m - 1) (omega arith) in
      omega (arith, a-sooner, sides-sooner.1, early, falls)

  operands-sooner : IsReadingSooner d ds are f.past g.past is.past (operands ds m f e) (operands ds n g e)
  unfolding operands operands_read read_words
  operands-sooner =
      let p = p-sooner in
      let start : IsReadingSooner d ds are f.past g.past is.past (record { bus = bus_a ds f e; answered = tick_p ds m f e; awaited = 0 }) (record { bus = bus_a ds g e; answered = tick_p ds n g e; awaited = 0 }) =
      record { bus = sides-sooner.0; answered = p } in
      read_words-sooner d ds are f.past g.past is.past (tick_p ds m f e) (tick_p ds n g e) _ _ e.reads.two.first e.reads.two.len p hazard_free.two
      (read_words-sooner d ds are f.past g.past is.past (tick_p ds m f e) (tick_p ds n g e) _ _ e.reads.one.first e.reads.one.len p hazard_free.one start)

  c-sooner : tick_c ds m f e ≤ tick_c ds n g e
  unfolding tick_c
  c-sooner = omega (arith, is.done, operands-sooner.answered)

  pub row-sooner : IsRowSooner (row_of_entry ds m f e) (row_of_entry ds n g e)
  unfolding row_of_entry
  row-sooner = record { address = a-sooner; prepared = p-sooner; ready = operands-sooner.answered; done = c-sooner }

  pub after-sooner : IsIssueSooner (issue_after_entry ds m f e) (issue_after_entry ds n g e)
  unfolding issue_after_entry bus_after_prefetch
  after-sooner = record {
    bus = subst (λ (b : Bus). IsBusSooner b (bus_after_prefetch ds (operands ds n g e).bus e (tick_p ds n g e))) (sym (followed-is ds (operands ds m f e).bus e (tick_p ds m f e)))
        (subst (IsBusSooner _) (sym (followed-is ds (operands ds n g e).bus e (tick_p ds n g e)))
        (follow_if-sooner d ds are e.follows (operands ds m f e).bus (operands ds n g e).bus (e.own.first + e.own.len) (tick_p ds m f e) (tick_p ds n g e) operands-sooner.bus p-sooner));
    prepared = p-sooner;
    done = c-sooner;
    serial = refl;
    past = ((c-sooner, refl), paired-take IsPastSooner 7 f.past g.past is.past);
  }

-- ---- the order of completions, and the written words

-- there are no entries past the prefix
pub take-beyond : (past : List Past) (k j : ℕ) → k ≤ j → (get_or (take k past) j (record { c = 0; writes = no_runs })).c ≤ 0
take-beyond past zero j low = omega arith
take-beyond [] (suc k) j low = omega arith
take-beyond (x ∷ past) (suc k) zero low = let no : ⊥ = omega arith in absurd no
take-beyond (x ∷ past) (suc k) (suc j) low = take-beyond past k j (omega arith)

take-falls : (past : List Past) (i j : ℕ) → i ≤ j
    → ((i j : ℕ) → i ≤ j → (get_or past j (record { c = 0; writes = no_runs })).c ≤ (get_or past i (record { c = 0; writes = no_runs })).c)
    → (get_or (take 7 past) j (record { c = 0; writes = no_runs })).c ≤ (get_or (take 7 past) i (record { c = 0; writes = no_runs })).c
take-falls past i j low falls = elim (cases_lt j 7) [
  | inl inside ↦
      rw (get_or-take 7 past j (record { c = 0; writes = no_runs }) inside, get_or-take 7 past i (record { c = 0; writes = no_runs }) (omega arith)) (falls i j low)
  | inr beyond ↦ omega (arith, take-beyond past 7 j beyond)
]

cons-falls : (x : Past) (past : List Past) → ArePastWithin x.c past
    → ((i j : ℕ) → i ≤ j → (get_or past j (record { c = 0; writes = no_runs })).c ≤ (get_or past i (record { c = 0; writes = no_runs })).c)
    → (i j : ℕ) → i ≤ j → (get_or (x ∷ past) j (record { c = 0; writes = no_runs })).c ≤ (get_or (x ∷ past) i (record { c = 0; writes = no_runs })).c
cons-falls x past within falls zero zero low = omega arith
cons-falls x past within falls zero (suc j) low = nth-within x.c past j within
cons-falls x past within falls (suc i) zero low = let no : ⊥ = omega arith in absurd no
cons-falls x past within falls (suc i) (suc j) low = falls i j (omega arith)

pub order-after : (ds : List ℕ) (n : ℕ) (g : IssueState) (e : Entry) → AreInOrder g → AreInOrder (issue_after_entry ds n g e)
unfolding issue_after_entry tick_c
order-after ds n g e order =
    let done = tick_c ds n g e in
    let late : g.c ≤ done = omega arith in
    let kept = past-weaker g.c done g.past late order.done in
    let taken : ArePastWithin done (take 7 g.past) = record { each = All-take (λ (entry : Past). entry.c ≤ done) 7 g.past kept.each } in
    record {
      done = record { each = All-cons (λ (entry : Past). entry.c ≤ done) (record { c = done; writes = e.writes }) (take 7 g.past) (omega arith) taken.each };
      falls = cons-falls (record { c = done; writes = e.writes }) (take 7 g.past) taken (λ i j low. take-falls g.past i j low order.falls);
    }

pub covered-after : (ds : List ℕ) (n : ℕ) (f : IssueState) (e : Entry) (earlier : List WordRuns) → AreCovered f.past earlier → AreCovered (issue_after_entry ds n f e).past (e.writes ∷ earlier)
unfolding issue_after_entry
covered-after ds n f e earlier covered w none =
    All-cons (λ (entry : Past). is_among w entry.writes ≡ false) _ (take 7 f.past)
    (All-head (λ (writes : WordRuns). is_among w writes ≡ false) e.writes earlier none)
    (All-take (λ (entry : Past). is_among w entry.writes ≡ false) 7 f.past
    (covered w (All-tail (λ (writes : WordRuns). is_among w writes ≡ false) e.writes earlier none)))

side-hazard_free : (past : List Past) (earlier : List WordRuns) (side : Option ℕ) → AreCovered past earlier → IfSome side (IsUnwritten earlier)
    → IfSome side (λ w. All (λ entry. is_among w entry.writes ≡ false) past)
side-hazard_free past earlier None covered hazard_free = tt
side-hazard_free past earlier (Some w) covered hazard_free = covered w hazard_free

pub hazard_free-behind : (past : List Past) (earlier : List WordRuns) (e : Entry) → AreCovered past earlier → IsHazardFree earlier e → IsHazardFreeBehind past e
hazard_free-behind past earlier e covered hazard_free = record {
  side = side-hazard_free past earlier e.side covered hazard_free.side;
  one = λ v least most. covered v (hazard_free.one v least most);
  two = λ v least most. covered v (hazard_free.two v least most);
}

-- ---- the entries of a list

pub rows-sooner : (d : ℕ) (ds : List ℕ) → AreEqual d ds → (m n : ℕ) → n ≤ m → (es : List Entry) (f g : IssueState) (earlier : List WordRuns)
    → IsIssueSooner f g → AreInOrder g → AreCovered f.past earlier → AreHazardFree earlier es → AllZip IsRowSooner (rows_of_entries ds m f es) (rows_of_entries ds n g es)
unfolding rows_of_entries
rows-sooner d ds are m n more [] f g earlier is order covered hazard_free = tt
rows-sooner d ds are m n more (e ∷ es) f g earlier is order covered hazard_free =
    let behind = hazard_free-behind f.past earlier e covered hazard_free.0 in (
      row-sooner d ds are m n more f g e is order behind,
      rows-sooner d ds are m n more es (issue_after_entry ds m f e) (issue_after_entry ds n g e) (e.writes ∷ earlier)
          (after-sooner d ds are m n more f g e is order behind) (order-after ds n g e order) (covered-after ds m f e earlier covered) hazard_free.1,
    )

-- ---- from the start of a segment

same-ticks : (xs : List ℕ) → AllZip (λ s t. s ≤ t) xs xs
same-ticks [] = tt
same-ticks (x ∷ xs) = (omega arith, same-ticks xs)

held-same : (xs : List AskedWord) → AllZip IsHeldSooner xs xs
held-same [] = tt
held-same (x ∷ xs) = ((refl, omega arith), held-same xs)

past-same : (xs : List Past) → AllZip IsPastSooner xs xs
past-same [] = tt
past-same (x ∷ xs) = ((omega arith, refl), past-same xs)

abbrev pub nobody : Past
nobody = record { c = 0; writes = no_runs }

pub none-falls : (k i : ℕ) → (get_or (replicate k nobody) i nobody).c ≤ 0
none-falls zero i = omega arith
none-falls (suc k) zero = omega arith
none-falls (suc k) (suc i) = none-falls k i

no-words : (w : ℕ) → is_among w no_runs ≡ false
unfolding is_among is_in
no-words w = grind (arith, nat_tests)

pub opening-sooner : (banks : LastAnswers) (start : ℕ) → IsIssueSooner (opening_issue banks start) (opening_issue banks start)
opening-sooner banks start = record {
  bus = record {
    free = omega arith;
    banks = same-ticks banks.ticks;
    held = held-same (opening_issue banks start).bus.held.words;
  };
  prepared = omega arith;
  done = omega arith;
  serial = refl;
  past = past-same (opening_issue banks start).past;
}

pub opening-order : (banks : LastAnswers) (start : ℕ) → AreInOrder (opening_issue banks start)
opening-order banks start = record {
  done = record { each = All-replicate (λ (entry : Past). entry.c ≤ start) 8 (record { c = 0; writes = no_runs }) (omega arith) };
  falls = λ i j low. omega (arith, none-falls 8 j);
}

pub opening-covered : (banks : LastAnswers) (start : ℕ) → AreCovered (opening_issue banks start).past []
opening-covered banks start w none =
    All-replicate (λ (entry : Past). is_among w entry.writes ≡ false) 8 (record { c = 0; writes = no_runs }) (no-words w)
