-- The reads of an entry, made in order, give the bus after it.
use Rattle.st_rows.proofs.Common.{if◌then◌else◌, nat_lt, Bool, ◌≡◌, ℕ, zero, suc, ◌+◌, ◌<◌, ◌≤◌, max, true, false, List, [], ◌∷◌, ◌++◌, length, Option, None, Some, refl, ap, sym, ◌∙◌, inl, inr, ◌⊎◌, length-append, arith, cases_Bool, ltb-true, words_of_storage, tick_of, word_asked, words_asked, data_asked, side_asked, operands_asked, inside_asked, runs_asked, following_asked, fetches_asked, formed_asked, prepared_asked, bus_after_reads, made_before, side_count, own_reads, accept_at, bus_after_read, requested_if, bus_after_request, Read, after_one, bus_if, AreDelaysUpTo, IsNear, wanted_from, words_tick, tick_a, bus_a, tick_p, operands, issue_after_entry, reads_of_entry, followings, fetch_words, bus_after_index_read, read_word, read_words, operands_read, request_inside, behind, behind_use, reads_of, uses, wishes, read_made, forwarded_at, use_of, unused, wish_of, Wish, Instruction, Operand, Following, Bus, Entry, Past, Fetching, IssueState}
use Rattle.st_rows.specs.declared.uses.Role.{Role}
use Rattle.st_rows.proofs.UseLemmas.{reads-are, side-read, operands-read}
use Rattle.st_rows.proofs.Tight.{near-one_if}

module _ (ds : List ℕ) where
  served-none : (b : Bus) → bus_after_reads ds [] b ≡ b
  unfolding bus_after_reads
  served-none b = refl

  pub served-append : (xs ys : List Read) (b : Bus) → bus_after_reads ds (xs ++ ys) b ≡ bus_after_reads ds ys (bus_after_reads ds xs b)
  unfolding bus_after_reads
  served-append [] ys b = refl
  served-append (x ∷ xs) ys b = served-append xs ys (after_one ds b x)

  -- the read of a word, or none if the word arrives at a given tick without one
  served-one : (o : Option ℕ) (r : Read) (b : Bus) → bus_after_reads ds (read_made r o) b ≡ bus_if ds b r o
  unfolding bus_after_reads
  served-one (Some t) r b = refl
  served-one None r b = refl

  -- the reads of any uses
  pub served-uses : (past : List Past) (s : Fetching) (xs : List Wish) → bus_after_reads ds (reads_of (uses ds past s xs)) s.bus ≡ (behind ds past s (uses ds past s xs)).bus
  unfolding reads_of uses behind behind_use
  served-uses past s [] = served-none s.bus
  served-uses past s (x ∷ xs) =
      let u = use_of ds past s x in
      let others = reads_of (uses ds past (behind_use ds past s u) xs) in
      served-append (read_made u.read u.unread) others s.bus
      ∙ ap (bus_after_reads ds others) (served-one u.unread u.read s.bus)
      ∙ served-uses past (behind_use ds past s u) xs

  pub served-word : (o : Option ℕ) (w want : ℕ) (b : Bus) → bus_after_reads ds (word_asked o w want) b ≡ requested_if ds b w want o
  served-word o w want b = served-one o (record { w = w; want = want; fetch = true }) b

  pub served-words : (past : List Past) (from : ℕ) (s : Fetching) (w n : ℕ)
      → bus_after_reads ds (words_asked ds past s from w n) s.bus ≡ (fetch_words ds past s from w n).bus
  unfolding words_asked fetch_words
  served-words past from s w n = served-uses past s (wishes Instruction from w n)

  -- an operand word
  pub served-data : (past : List Past) (w p : ℕ) (s : Fetching) → bus_after_reads ds (data_asked past w p) s.bus ≡ (read_word ds past s w p).bus
  unfolding read_word behind_use
  served-data past w p s = served-one (forwarded_at past w p) (record { w = w; want = p; fetch = false }) s.bus

  pub served-side : (past : List Past) (side : Option ℕ) (a : ℕ) (b : Bus) → bus_after_reads ds (side_asked past side a) b ≡ bus_after_index_read ds past b side a
  unfolding bus_after_index_read
  served-side past side a b =
      ap (λ (rs : List Read). bus_after_reads ds rs b) (sym (side-read ds past (unused b 0) side a)) ∙ served-uses past (unused b 0) (wish_of side a)

  pub served-operands : (past : List Past) (p : ℕ) (s : Fetching) (w n : ℕ)
      → bus_after_reads ds (operands_asked past p w n) s.bus ≡ (read_words ds past s p w n).bus
  unfolding read_words
  served-operands past p s w n =
      ap (λ (rs : List Read). bus_after_reads ds rs s.bus) (sym (operands-read ds past s p w n)) ∙ served-uses past s (wishes Operand p w n)

  inside_if : (inside : Bool) (b : Bus) (w p : ℕ)
      → bus_after_reads ds (if inside then word_asked (tick_of b.held.words w) w p else []) b ≡ (if inside then bus_after_request ds b w p else b)
  unfolding bus_after_request
  inside_if true b w p = served-word (tick_of b.held.words w) w p b
  inside_if false b w p = served-none b

  -- a following word
  pub served-inside : (b : Bus) (w p : ℕ) → bus_after_reads ds (inside_asked b w p) b ≡ request_inside ds b w p
  served-inside b w p = inside_if (nat_lt w words_of_storage) b w p

  pub served-fetches : (f : IssueState) (e : Entry) → bus_after_reads ds (fetches_asked ds f e) f.bus ≡ (words_tick ds f e).bus
  unfolding fetches_asked words_tick words_asked fetch_words
  served-fetches f e =
      let start : Fetching = record { bus = f.bus; answered = 0; awaited = 0 } in
      let own = fetch_words ds f.past start (wanted_from f) e.own.first e.own.len in
      let target = words_asked ds f.past own (max (wanted_from f) f.c) e.target.first e.target.len in
      served-append (words_asked ds f.past start (wanted_from f) e.own.first e.own.len) target f.bus
      ∙ ap (bus_after_reads ds target) (served-words f.past (wanted_from f) start e.own.first e.own.len)
      ∙ served-words f.past (max (wanted_from f) f.c) own e.target.first e.target.len

  -- the reads of the operands, followed by those of the following words
  pub served-runs : (n : ℕ) (f : IssueState) (e : Entry) → bus_after_reads ds (runs_asked f.past e.reads (tick_p ds n f e)) (bus_a ds f e) ≡ (operands ds n f e).bus
  unfolding operands operands_read read_words
  served-runs n f e =
      let p = tick_p ds n f e in
      let start : Fetching = record { bus = bus_a ds f e; answered = p; awaited = 0 } in
      let one = operands_asked f.past p e.reads.one.first e.reads.one.len in
      let two = operands_asked f.past p e.reads.two.first e.reads.two.len in
      served-append one two (bus_a ds f e)
      ∙ ap (bus_after_reads ds two) (served-operands f.past p start e.reads.one.first e.reads.one.len)
      ∙ served-operands f.past p (read_words ds f.past start p e.reads.one.first e.reads.one.len) e.reads.two.first e.reads.two.len

  pub served-following : (n : ℕ) (f : IssueState) (e : Entry)
      → bus_after_reads ds (following_asked ds (operands ds n f e).bus e (tick_p ds n f e)) (operands ds n f e).bus ≡ (issue_after_entry ds n f e).bus
  unfolding issue_after_entry following_asked
  served-following n f e =
      let p = tick_p ds n f e in
      served-uses [] (unused (operands ds n f e).bus p) (followings e p)

  -- both parts of the reads of an entry
  pub served-formed : (f : IssueState) (e : Entry) → bus_after_reads ds (formed_asked ds f e) f.bus ≡ bus_a ds f e
  unfolding bus_a bus_after_index_read
  served-formed f e =
      let side = side_asked f.past e.side (tick_a ds f e) in
      served-append (fetches_asked ds f e) side f.bus
      ∙ ap (bus_after_reads ds side) (served-fetches f e)
      ∙ served-side f.past e.side (tick_a ds f e) (words_tick ds f e).bus

  pub served-prepared : (n : ℕ) (f : IssueState) (e : Entry) → bus_after_reads ds (prepared_asked ds n f e) (bus_a ds f e) ≡ (issue_after_entry ds n f e).bus
  served-prepared n f e =
      let p = tick_p ds n f e in
      let next = following_asked ds (operands ds n f e).bus e p in
      served-append (runs_asked f.past e.reads p) next (bus_a ds f e) ∙ ap (bus_after_reads ds next) (served-runs n f e) ∙ served-following n f e

  pub served-asked : (n : ℕ) (f : IssueState) (e : Entry) → bus_after_reads ds (reads_of_entry ds n f e) f.bus ≡ (issue_after_entry ds n f e).bus
  served-asked n f e =
      let others = prepared_asked ds n f e in
      ap (λ (rs : List Read). bus_after_reads ds rs f.bus) (reads-are ds n f e)
      ∙ served-append (formed_asked ds f e) others f.bus ∙ ap (bus_after_reads ds others) (served-formed f e) ∙ served-prepared n f e

-- ---- the number of reads

few-made : (o : Option ℕ) (r : Read) → length (read_made r o) ≤ 1
few-made (Some t) r = omega arith
few-made None r = omega arith

pub few-uses : (ds : List ℕ) (past : List Past) (s : Fetching) (xs : List Wish) → length (reads_of (uses ds past s xs)) ≤ length xs
unfolding reads_of uses
few-uses ds past s [] = omega arith
few-uses ds past s (x ∷ xs) =
    let u = use_of ds past s x in
    simp length-append (omega (arith, few-made u.unread u.read, few-uses ds past (behind_use ds past s u) xs))

pub wishes-length : (role : Role) (from w n : ℕ) → length (wishes role from w n) ≡ n
unfolding wishes
wishes-length role from w zero = refl
wishes-length role from w (suc n) = ap suc (wishes-length role from (w + 1) n)

pub few-words : (ds : List ℕ) (past : List Past) (from : ℕ) (s : Fetching) (w n : ℕ) → length (words_asked ds past s from w n) ≤ n
unfolding words_asked
few-words ds past from s w n = omega (arith, few-uses ds past s (wishes Instruction from w n), wishes-length Instruction from w n)

pub few-side : (past : List Past) (side : Option ℕ) (a : ℕ) → length (side_asked past side a) ≤ side_count side
unfolding side_asked
few-side past None a = omega arith
few-side past (Some w) a = few-made (forwarded_at past w a) (record { w = w; want = a; fetch = false })

pub few-operands : (past : List Past) (p w n : ℕ) → length (operands_asked past p w n) ≤ n
unfolding operands_asked
few-operands past p w zero = omega arith
few-operands past p w (suc n) = simp length-append (omega (arith, few-made (forwarded_at past w p) (record { w = w; want = p; fetch = false }), few-operands past p (w + 1) n))

pub followings-length : (e : Entry) (p : ℕ) → length (followings e p) ≤ 2
followings-length e p = followed_by e.follows (nat_lt (e.own.first + e.own.len) words_of_storage) (nat_lt (e.own.first + e.own.len + 1) words_of_storage)
  where
    followed_by : (follows one two : Bool)
        → length {A = Wish} (if follows
        then (if one then record { role = Following; w = e.own.first + e.own.len; from = p } ∷ [] else [])
        ++ (if two then record { role = Following; w = e.own.first + e.own.len + 1; from = p } ∷ [] else [])
        else []) ≤ 2
    followed_by false one two = omega arith
    followed_by true true true = omega arith
    followed_by true true false = omega arith
    followed_by true false true = omega arith
    followed_by true false false = omega arith

pub few-following : (ds : List ℕ) (b : Bus) (e : Entry) (p : ℕ) → length (following_asked ds b e p) ≤ 2
unfolding following_asked
few-following ds b e p = omega (arith, few-uses ds [] (unused b p) (followings e p), followings-length e p)

pub few-asked : (ds : List ℕ) (n : ℕ) (f : IssueState) (e : Entry)
    → length (reads_of_entry ds n f e) ≤ own_reads e + 2
unfolding fetches_asked words_asked fetch_words
few-asked ds n f e =
    let start : Fetching = record { bus = f.bus; answered = 0; awaited = 0 } in
    let own = fetch_words ds f.past start (wanted_from f) e.own.first e.own.len in
    let p = tick_p ds n f e in
    rw (reads-are ds n f e) (
    simp length-append (omega (
      arith,
      few-words ds f.past (wanted_from f) start e.own.first e.own.len,
      few-words ds f.past (max (wanted_from f) f.c) own e.target.first e.target.len,
      few-side f.past e.side (tick_a ds f e),
      few-operands f.past p e.reads.one.first e.reads.one.len,
      few-operands f.past p e.reads.two.first e.reads.two.len,
      few-following ds (operands ds n f e).bus e p,
    )))

pub most-asked : (ds : List ℕ) (n : ℕ) (f : IssueState) (e : Entry) → own_reads e ≤ 36 → length (reads_of_entry ds n f e) ≤ 36 + 2
most-asked ds n f e few = omega (arith, few, few-asked ds n f e)

-- ---- the reads that are accepted before a tick

ltb_cases : (a b : ℕ) → ((nat_lt a b ≡ true) × (a < b)) ⊎ (nat_lt a b ≡ false)
ltb_cases a b = elim (cases_Bool (nat_lt a b)) [ inl t ↦ inl (t, ltb-true a b t) | inr n ↦ inr n ]

pub free-one_if : (ds : List ℕ) (fetch : Bool) (b : Bus) (w want : ℕ) → (after_one ds b (record { w = w; want = want; fetch = fetch })).free ≡ accept_at b w want + 1
unfolding bus_after_read
free-one_if ds true b w want = refl
free-one_if ds false b w want = refl

module _ (most : ℕ) (ds : List ℕ) (are : AreDelaysUpTo most ds) (t : ℕ) where
  pub made-bounds : (reads : List Read) (b : Bus) → IsNear most b → b.free ≤ t
      → IsNear most (made_before ds t reads b) × ((made_before ds t reads b).free ≤ t)
  unfolding made_before
  made-bounds [] b is early = (is, early)
  made-bounds (r ∷ reads) b is early = elim (ltb_cases (accept_at b r.w r.want) t) [
    | inl early_one ↦ rw early_one.0 (made-bounds reads (after_one ds b r) (near-one_if most ds are r.fetch b r.w r.want is) (rw (free-one_if ds r.fetch b r.w r.want) (omega (arith, early_one.1))))
    | inr late_one ↦ rw late_one (is, early)
  ]
