-- Lemmas on the reads of the last completed entry and of the entries that run ahead, and on those
-- of the reads that are made.
use Rattle.st_account.proofs.Common.{Bool, if◌then◌else◌, nat_lt, All, ◌≡◌, ℕ, zero, suc, ◌+◌, ◌≤◌, ◌<◌, max, true, false, List, [], ◌++◌, drop, length, length-append, Option, None, Some, refl, sym, ◌∙◌, ap, subst, append_assoc, arith, nat_tests, append-nil, All-weaker, LastAnswers, Machine, IsMachine, prediction, formed_asked, prepared_asked, fetches_asked, bus_after_reads, made_before, side_count, words_asked, Read, log_after_reads, notes_of_reads, answers_left, AreEarly, IsLogged, AreDelaysUpTo, IsEntryInTime, IsTight, row_of_entry, issue_after_entry, wanted_from, tick_a, tick_p, bus_a, operands, reads_of_entry, Bus, Entry, IssueState, Made, undone_is_made_before, few_are_undone, logged-noted, two-parts, at-prepared, free-formed, made-bounds, served-append, served-asked, few-words, few-side, few-operands, few-following, served-formed, tight-after, entry, ahead, reads_before, entry-ranges, reads_up_to, HasReads}
use Rattle.st_rows.specs.Words.{fetch_words}
use Rattle.st_rows.specs.declared.fetching.Fetching.{Fetching}
use Rattle.st_rows.proofs.MadeLemmas.{made-more}
use Rattle.st_segment.proofs.PredictionLemmas.{prediction-machine}
use Rattle.st_plain.proofs.LookLemmas.{row-p}

-- ---- the number of reads of an entry in each part

pub few-prepared : (ds : List ℕ) (n : ℕ) (f : IssueState) (e : Entry) → IsEntryInTime e → length (prepared_asked ds n f e) ≤ 34
few-prepared ds n f e range =
    let p = tick_p ds n f e in
    simp length-append
    (omega (
      arith,
      few-operands f.past p e.reads.one.first e.reads.one.len,
      few-operands f.past p e.reads.two.first e.reads.two.len,
      few-following ds (operands ds n f e).bus e p,
      range.one_few,
      range.two_few,
    ))

at-most-one : (side : Option ℕ) → side_count side ≤ 1
at-most-one None = omega arith
at-most-one (Some w) = omega arith

few-formed : (ds : List ℕ) (f : IssueState) (e : Entry) → IsEntryInTime e → length (formed_asked ds f e) ≤ 5
unfolding fetches_asked words_asked fetch_words
few-formed ds f e range =
    let start : Fetching = record { bus = f.bus; answered = 0; awaited = 0 } in
    let behind = fetch_words ds f.past start (wanted_from f) e.own.first e.own.len in
    simp length-append
    (omega (
      arith,
      few-words ds f.past (wanted_from f) start e.own.first e.own.len,
      few-words ds f.past (max (wanted_from f) f.c) behind e.target.first e.target.len,
      few-side f.past e.side (tick_a ds f e),
      at-most-one e.side,
      range.own_few,
      range.target_few,
    ))

-- ---- tests of ticks

early-by : (a t : ℕ) → nat_lt a t ≡ true → a < t
early-by a t is = grind (arith, nat_tests)

late-by : (a t : ℕ) → nat_lt a t ≡ false → t ≤ a
late-by a t is = grind (arith, nat_tests)

-- ---- reads that are omitted are wanted too late

module _ (ds : List ℕ) (n t : ℕ) where
  made-next : (f : IssueState) (e : Entry) (xs : List Read) (b : Bus) (rest few : List Read) (c : Bool) → nat_lt (row_of_entry ds n f e).p t ≡ c
      → made_before ds t ((xs ++ reads_of_entry ds n f e) ++ rest) b ≡ made_before ds t ((xs ++ reads_of_entry ds n f e) ++ few) b
      → made_before ds t (xs ++ (reads_of_entry ds n f e ++ (if c then rest else []))) b
      ≡ made_before ds t (xs ++ (if c then reads_of_entry ds n f e ++ few else formed_asked ds f e)) b
  made-next f e xs b rest few true is same =
      ap (λ reads. made_before ds t reads b) (sym (append_assoc xs (reads_of_entry ds n f e) rest))
      ∙ same
      ∙ ap (λ reads. made_before ds t reads b) (append_assoc xs (reads_of_entry ds n f e) few)
  made-next f e xs b rest few false is same =
      let formed = formed_asked ds f e in
      let behind = prepared_asked ds n f e in
      let late = late-by (row_of_entry ds n f e).p t is in
      ap (λ reads. made_before ds t (xs ++ reads) b) (append-nil (reads_of_entry ds n f e) ∙ two-parts ds n f e)
      ∙ ap (λ reads. made_before ds t reads b) (sym (append_assoc xs formed behind))
      ∙ made-more ds t (xs ++ formed) behind b
      (All-weaker (λ (r : Read). r.want ≡ tick_p ds n f e) (λ (r : Read). t ≤ r.want) (λ r h. omega (arith, h, late, row-p ds n f e)) behind
      (at-prepared ds n f e))

  made-looked : (k : ℕ) (s : Machine) (f : IssueState) (xs : List Read) (b : Bus)
      → made_before ds t (xs ++ reads_before ds n t (ahead ds n k None s f)) b ≡ made_before ds t (xs ++ reads_up_to ds n t (ahead ds n k None s f)) b
  unfolding ahead reads_before reads_up_to
  made-looked zero s f xs b = refl
  made-looked (suc k) s f xs b =
      let e = entry None s in
      let list = ahead ds n k None (prediction None s) (issue_after_entry ds n f e) in
      made-next f e xs b (reads_before ds n t list) (reads_up_to ds n t list) (nat_lt (row_of_entry ds n f e).p t) refl
      (made-looked k (prediction None s) (issue_after_entry ds n f e) (xs ++ reads_of_entry ds n f e) b)

-- ---- few of the other reads are accepted at the tick or later

-- the reads in two parts: the bus is free by the tick after the first part, and the second part has
-- few reads
record AreFew (ds : List ℕ) (t : ℕ) (reads : List Read) (b : Bus) : Type 0 where
  first : List Read
  rest : List Read
  parts : reads ≡ first ++ rest
  few : length rest ≤ 64
  free : (bus_after_reads ds first b).free ≤ t

module _ (ds : List ℕ) (are : AreDelaysUpTo 255 ds) (n t : ℕ) (b : Bus) where
  few-next : (f : IssueState) (e : Entry) (xs first rest more : List Read) (c : Bool) → IsEntryInTime e → nat_lt (row_of_entry ds n f e).p t ≡ c
      → xs ≡ first ++ rest → length rest ≤ 34 → (bus_after_reads ds first b).free ≤ t
      → ((row_of_entry ds n f e).p < t → AreFew ds t ((xs ++ reads_of_entry ds n f e) ++ more) b)
      → AreFew ds t (xs ++ (if c then reads_of_entry ds n f e ++ more else formed_asked ds f e)) b
  few-next f e xs first rest more true range is parts few free next =
      subst (λ reads. AreFew ds t reads b) (append_assoc xs (reads_of_entry ds n f e) more) (next (early-by (row_of_entry ds n f e).p t is))
  few-next f e xs first rest more false range is parts few free next =
      let formed = formed_asked ds f e in
      record {
        first = first;
        rest = rest ++ formed;
        parts = ap (λ l. l ++ formed) parts ∙ append_assoc first rest formed;
        few = omega (arith, length-append rest formed, few, few-formed ds f e range);
        free = free;
      }

  few-looked : (k : ℕ) (s : Machine) (f : IssueState) (xs first rest : List Read) → IsMachine s → IsTight 255 f → bus_after_reads ds xs b ≡ f.bus
      → xs ≡ first ++ rest → length rest ≤ 34 → (bus_after_reads ds first b).free ≤ t → AreFew ds t (xs ++ reads_up_to ds n t (ahead ds n k None s f)) b
  unfolding ahead reads_up_to
  few-looked zero s f xs first rest m tight is parts few free = record {
    first = first;
    rest = rest;
    parts = append-nil xs ∙ parts;
    few = omega (arith, few);
    free = free;
  }
  few-looked (suc k) s f xs first rest m tight is parts few free =
      let e = entry None s in
      let f' = issue_after_entry ds n f e in
      let range = entry-ranges None s m tt in
      let formed = formed_asked ds f e in
      let behind = prepared_asked ds n f e in
      let bus : bus_after_reads ds (xs ++ formed) b ≡ bus_a ds f e =
      served-append ds xs formed b ∙ ap (bus_after_reads ds formed) is ∙ served-formed ds f e in
      let after_bus : bus_after_reads ds (xs ++ reads_of_entry ds n f e) b ≡ f'.bus =
      served-append ds xs (reads_of_entry ds n f e) b ∙ ap (bus_after_reads ds (reads_of_entry ds n f e)) is ∙ served-asked ds n f e in
      few-next f e xs first rest (reads_up_to ds n t (ahead ds n k None (prediction None s) f')) (nat_lt (row_of_entry ds n f e).p t) range refl parts few free
      (λ early.
      few-looked k (prediction None s) f' (xs ++ reads_of_entry ds n f e) (xs ++ formed) behind (prediction-machine None s m tt)
      (tight-after 255 ds are n f e range tight) after_bus
      (ap (λ reads. xs ++ reads) (two-parts ds n f e) ∙ sym (append_assoc xs formed behind)) (few-prepared ds n f e range)
      (omega (arith, ap (λ (c : Bus). c.free) bus, free-formed 255 ds are n f e range tight, early, row-p ds n f e)))

-- ---- the banks, where the segment ends

module _ (ds : List ℕ) (are : AreDelaysUpTo 255 ds) (n t : ℕ) (s : Machine) (m : IsMachine s) (f : IssueState) (tight : IsTight 255 f) (reads : List Read)
    (start : Bus) (log : List Made) (has : HasReads ds t reads start f.bus log) where
  ahead_reads : List Read
  ahead_reads = reads_up_to ds n t (ahead ds n (suc n) None s f)

  all : List Read
  all = reads ++ reads_up_to ds n t (ahead ds n (suc n) None s f)

  bus-is : bus_after_reads ds all start ≡ bus_after_reads ds ahead_reads f.bus
  unfolding all ahead_reads
  bus-is = served-append ds reads (reads_up_to ds n t (ahead ds n (suc n) None s f)) start ∙ ap (bus_after_reads ds (reads_up_to ds n t (ahead ds n (suc n) None s f))) has.leaves

  log-is : IsLogged ds t all start (log_after_reads ds ahead_reads f.bus log)
  unfolding all ahead_reads
  log-is = subst (λ (b : Bus). IsLogged ds t (reads ++ reads_up_to ds n t (ahead ds n (suc n) None s f)) start (log_after_reads ds (reads_up_to ds n t (ahead ds n (suc n) None s f)) b log))
      has.leaves (logged-noted ds t reads (reads_up_to ds n t (ahead ds n (suc n) None s f)) start log has.logged)

  split : AreFew ds t all start
  unfolding all
  split = few-looked ds are n t start (suc n) s f reads has.first has.rest m tight has.leaves has.parts has.few has.early

  ticks-are : answers_left t (log_after_reads ds ahead_reads f.bus log) (bus_after_reads ds ahead_reads f.bus).banks.ticks
      ≡ (made_before ds t (reads ++ reads_before ds n t (ahead ds n (suc n) None s f)) start).banks.ticks
  unfolding all
  ticks-are =
      ap (λ (b : Bus). answers_left t (log_after_reads ds ahead_reads f.bus log) b.banks.ticks) (sym bus-is)
      ∙ undone_is_made_before ds t all start (log_after_reads ds ahead_reads f.bus log) log-is (λ older early.
      subst (λ (l : List Read). AreEarly t (drop 64 (notes_of_reads ds l start ++ older))) (sym split.parts)
      (few_are_undone ds t split.first split.rest start older split.few split.free early))
      ∙ ap (λ (b : Bus). b.banks.ticks) (sym (made-looked ds n t (suc n) s f reads start))

  module _ (new : List Made) (bus : Bus) (banks : LastAnswers) (logs : new ≡ log_after_reads ds (reads_up_to ds n t (ahead ds n (suc n) None s f)) f.bus log)
      (serves : bus ≡ bus_after_reads ds (reads_up_to ds n t (ahead ds n (suc n) None s f)) f.bus) (is : banks.ticks ≡ answers_left t new bus.banks.ticks) where
    made : banks.ticks ≡ (made_before ds t (reads ++ reads_before ds n t (ahead ds n (suc n) None s f)) start).banks.ticks
    unfolding ahead_reads
    made =
        is
        ∙ ap (λ (l : List Made). answers_left t l bus.banks.ticks) logs
        ∙ ap (λ (c : Bus). answers_left t (log_after_reads ds (reads_up_to ds n t (ahead ds n (suc n) None s f)) f.bus log) c.banks.ticks) serves
        ∙ ticks-are

    pub banks-left : banks ≡ (made_before ds t (reads ++ reads_before ds n t (ahead ds n (suc n) None s f)) start).banks
    banks-left = let with_ticks : List ℕ → LastAnswers = λ xs. record { ticks = xs } in ap with_ticks made

    pub banks-soon : All (λ x. x ≤ t + 255) banks.ticks
    banks-soon =
        let all_reads = reads ++ reads_before ds n t (ahead ds n (suc n) None s f) in
        let bounds = made-bounds 255 ds are t all_reads start has.near has.free in
        subst (All (λ x. x ≤ t + 255)) (sym made)
        (All-weaker (λ x. x ≤ (made_before ds t all_reads start).free + 255) (λ x. x ≤ t + 255) (λ x low. omega (arith, low, bounds.1))
        (made_before ds t all_reads start).banks.ticks bounds.0.banks)

-- the banks for an equal state and an equal issue state
module _ (ds : List ℕ) (are : AreDelaysUpTo 255 ds) (n t : ℕ) (s u : Machine) (f g : IssueState) (m : IsMachine u) (tight : IsTight 255 f) (state : u ≡ s) (issue : g ≡ f)
    (reads : List Read) (start : Bus) (log new : List Made) (bus : Bus) (banks : LastAnswers) (has : HasReads ds t reads start f.bus log)
    (logs : new ≡ log_after_reads ds (reads_up_to ds n t (ahead ds n (suc n) None u g)) g.bus log)
    (serves : bus ≡ bus_after_reads ds (reads_up_to ds n t (ahead ds n (suc n) None u g)) g.bus) (is : banks.ticks ≡ answers_left t new bus.banks.ticks) where
  logs_at : new ≡ log_after_reads ds (reads_up_to ds n t (ahead ds n (suc n) None u f)) f.bus log
  logs_at = logs ∙ ap (λ (h : IssueState). log_after_reads ds (reads_up_to ds n t (ahead ds n (suc n) None u h)) h.bus log) issue

  serves_at : bus ≡ bus_after_reads ds (reads_up_to ds n t (ahead ds n (suc n) None u f)) f.bus
  serves_at = serves ∙ ap (λ (h : IssueState). bus_after_reads ds (reads_up_to ds n t (ahead ds n (suc n) None u h)) h.bus) issue

  pub banks-behind : banks ≡ (made_before ds t (reads ++ reads_before ds n t (ahead ds n (suc n) None s f)) start).banks
  banks-behind =
      banks-left ds are n t u m f tight reads start log has new bus banks logs_at serves_at is
      ∙ ap (λ (v : Machine). (made_before ds t (reads ++ reads_before ds n t (ahead ds n (suc n) None v f)) start).banks) state

  pub soon-behind : All (λ x. x ≤ t + 255) banks.ticks
  soon-behind = banks-soon ds are n t u m f tight reads start log has new bus banks logs_at serves_at is
