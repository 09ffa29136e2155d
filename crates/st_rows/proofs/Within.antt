-- Ticks that stay within a bound while reads are made.
use Rattle.st_rows.proofs.Common.{◌==◌, IfSome, Bool, if◌then◌else◌, nat_lt, ℕ, zero, suc, ◌+◌, ◌*◌, ◌%◌, ◌≤◌, max, true, false, List, [], ◌∷◌, length, get_or, take, All, Option, None, Some, inl, inr, arith, max-le, mod-lt, suc-mul, All-head, All-tail, All-cons, All-set, All-take, All-get_or, All-weaker, cases_Bool, words_of_storage, bank_of, delay, tick_of, AskedWord, accept_at, answer_at, bus_after_read, requested_if, answer_if, bus_after_request, answer_tick_on, is_among, latest_done, AreDelaysUpTo, IsBusWithin, IsFetchingWithin, IsReadingWithin, ArePastWithin, fetch_word, fetch_words, request_inside, read_word, read_words, behind, behind_use, uses, wishes, forwarded_at, Bus, Past, Fetching}
use Rattle.st_banks.specs.declared.delays.Delays.{Delays}
use Rattle.st_rows.proofs.UseLemmas.{read_if}

-- the delays of the banks are at most 255
pub delays-are : (d : Delays) → AreDelaysUpTo 255 d.list
delays-are d = record { some = d.some; each = d.each }

-- an item of a list, or 0 past its end
pub at-within : (m : ℕ) (xs : List ℕ) (i : ℕ) → All (λ t. t ≤ m) xs → get_or xs i 0 ≤ m
at-within m [] i all = omega arith
at-within m (x ∷ xs) zero all = All-head (λ t. t ≤ m) x xs all
at-within m (x ∷ xs) (suc i) all = at-within m xs i (All-tail (λ t. t ≤ m) x xs all)

-- the delay of a tick
pub delay-bounds : (most : ℕ) (ds : List ℕ) (t : ℕ) → AreDelaysUpTo most ds → (1 ≤ delay ds t) × (delay ds t ≤ most)
delay-bounds most ds t are =
    All-get_or (λ d. (1 ≤ d) × (d ≤ most)) ds (t % length ds) 0 (mod-lt t (omega (arith, are.some))) are.each

-- the tick at which a read is accepted
pub accept-within : (m : ℕ) (b : Bus) (w want : ℕ) → IsBusWithin m b → want ≤ m → accept_at b w want ≤ m
accept-within m b w want is early = max-le (max-le is.free early) (at-within m b.banks.ticks (bank_of w) is.banks)

-- the completion tick of the latest writer
pub latest-within : (m : ℕ) (past : List Past) (w : ℕ) → ArePastWithin m past → latest_done past w ≤ m
unfolding latest_done
latest-within m [] w are = omega arith
latest-within m (d ∷ past) w are = elim (cases_Bool (is_among w d.writes)) [
  | inl t ↦ rw t (All-head (λ (entry : Past). entry.c ≤ m) d past are.each)
  | inr n ↦ rw n (latest-within m past w (record { each = All-tail (λ (entry : Past). entry.c ≤ m) d past are.each }))
]

-- the answer of a held word
pub found-within : (m : ℕ) (held : List AskedWord) (w : ℕ) → All (λ h. h.tick ≤ m) held → IfSome (tick_of held w) (λ t. t ≤ m)
found-within m [] w all = tt
found-within m (h ∷ held) w all = elim (cases_Bool (h.w == w)) [
  | inl t ↦ rw t (All-head (λ (f : AskedWord). f.tick ≤ m) h held all)
  | inr n ↦ rw n (found-within m held w (All-tail (λ (f : AskedWord). f.tick ≤ m) h held all))
]

-- a greater bound holds too
pub bus-weaker : (m n : ℕ) (b : Bus) → m ≤ n → IsBusWithin m b → IsBusWithin n b
bus-weaker m n b more is = record {
  free = omega (arith, is.free);
  banks = All-weaker (λ t. t ≤ m) (λ t. t ≤ n) (λ t low. omega arith) b.banks.ticks is.banks;
  held = All-weaker (λ (h : AskedWord). h.tick ≤ m) (λ (h : AskedWord). h.tick ≤ n) (λ h low. omega arith) b.held.words is.held;
}

pub past-weaker : (m n : ℕ) (past : List Past) → m ≤ n → ArePastWithin m past → ArePastWithin n past
past-weaker m n past more are = record {
  each = All-weaker (λ (d : Past). d.c ≤ m) (λ (d : Past). d.c ≤ n) (λ d low. omega arith) past are.each;
}

pub fetching-weaker : (m n : ℕ) (s : Fetching) → m ≤ n → IsFetchingWithin m s → IsFetchingWithin n s
fetching-weaker m n s more is = record {
  bus = bus-weaker m n s.bus more is.bus;
  answered = omega (arith, is.answered);
  awaited = omega (arith, is.awaited);
}

pub reading-weaker : (m n : ℕ) (s : Fetching) → m ≤ n → IsReadingWithin m s → IsReadingWithin n s
reading-weaker m n s more is = record {
  bus = bus-weaker m n s.bus more is.bus;
  answered = omega (arith, is.answered);
}

-- reads are requested and accepted at m at the latest, and answered at n
module _ (most : ℕ) (ds : List ℕ) (are : AreDelaysUpTo most ds) (m n : ℕ) (more : m + most + 1 ≤ n) where
  pub answer-within : (b : Bus) (w want : ℕ) → IsBusWithin m b → want ≤ m → answer_at ds b w want ≤ n
  answer-within b w want is early =
      omega (arith, accept-within m b w want is early, delay-bounds most ds (accept_at b w want) are)

  pub read-within : (b : Bus) (w want : ℕ) → IsBusWithin m b → want ≤ m → IsBusWithin n (bus_after_read ds b w want)
  unfolding bus_after_read
  read-within b w want is early =
      let wider = bus-weaker m n b (omega arith) is in
      record {
        free = omega (arith, accept-within m b w want is early);
        banks = All-set (λ t. t ≤ n) b.banks.ticks (bank_of w) _ (answer-within b w want is early) wider.banks;
        held = wider.held;
      }

  requested_if-within : (o : Option ℕ) (b : Bus) (w want : ℕ) → IfSome o (λ t. t ≤ m) → IsBusWithin m b → want ≤ m
      → IsBusWithin n (requested_if ds b w want o) × (answer_if ds b w want o ≤ n)
  requested_if-within (Some t) b w want known is early = (bus-weaker m n b (omega arith) is, omega (arith, known))
  requested_if-within None b w want known is early =
      let made = read-within b w want is early in
      let answered = answer-within b w want is early in
      let wider = bus-weaker m n b (omega arith) is in (
        record {
          free = made.free;
          banks = made.banks;
          held = All-cons (λ (h : AskedWord). h.tick ≤ n) _ (take 3 b.held.words) answered
              (All-take (λ (h : AskedWord). h.tick ≤ n) 3 b.held.words wider.held);
        },
        answered,
      )

  pub requested-within : (b : Bus) (w want : ℕ) → IsBusWithin m b → want ≤ m
      → IsBusWithin n (bus_after_request ds b w want) × (answer_tick_on ds b w want ≤ n)
  unfolding bus_after_request answer_tick_on
  requested-within b w want is early =
      requested_if-within (tick_of b.held.words w) b w want (found-within m b.held.words w is.held) is early

  request_inside_if-within : (inside : Bool) (b : Bus) (w p : ℕ) → IsBusWithin m b → p ≤ m
      → IsBusWithin n (if inside then bus_after_request ds b w p else b)
  request_inside_if-within true b w p is early = (requested-within b w p is early).0
  request_inside_if-within false b w p is early = bus-weaker m n b (omega arith) is

  pub request_inside-within : (b : Bus) (w p : ℕ) → IsBusWithin m b → p ≤ m → IsBusWithin n (request_inside ds b w p)
  request_inside-within b w p is early = request_inside_if-within (nat_lt w words_of_storage) b w p is early

  pub fetch_word-within : (past : List Past) (s : Fetching) (w from : ℕ)
      → ArePastWithin m past → IsFetchingWithin m s → from ≤ m → IsFetchingWithin n (fetch_word ds past s w from)
  unfolding fetch_word behind_use bus_after_request answer_tick_on
  fetch_word-within past s w from before is early =
      let made = requested-within s.bus w (max (max from s.answered) s.awaited) is.bus (max-le (max-le early is.answered) is.awaited) in
      record {
        bus = made.0;
        answered = max-le (omega (arith, is.answered)) made.1;
        awaited = max-le (omega (arith, is.awaited)) (omega (arith, latest-within m past w before));
      }

-- one more word
one-more : (m n k : ℕ) → m + k + n * k ≤ m + suc n * k
one-more m n k = rw (suc-mul n k) (omega arith)

-- runs of words, each word of which takes at most the longest delay plus one tick
module _ (most : ℕ) (ds : List ℕ) (are : AreDelaysUpTo most ds) (past : List Past) where
  pub fetch_words-within : (from : ℕ) (s : Fetching) (w n m : ℕ) → ArePastWithin m past → IsFetchingWithin m s → from ≤ m
      → IsFetchingWithin (m + n * (most + 1)) (fetch_words ds past s from w n)
  unfolding fetch_words behind uses wishes fetch_word
  fetch_words-within from s w zero m before is early = fetching-weaker m (m + 0 * (most + 1)) s (omega arith) is
  fetch_words-within from s w (suc n) m before is early =
      let k = m + (most + 1) in
      let first = fetch_word-within most ds are m k (omega arith) past s w from before is early in
      let rest = fetch_words-within from (fetch_word ds past s w from) (w + 1) n k (past-weaker m k past (omega arith) before) first (omega arith) in
      fetching-weaker (k + n * (most + 1)) (m + suc n * (most + 1)) _ (one-more m n (most + 1)) rest

  read_word_if-within : (o : Option ℕ) (s : Fetching) (w p m : ℕ) → IsReadingWithin m s → p ≤ m
      → IsReadingWithin (m + (most + 1)) (read_if ds s w p o)
  read_word_if-within (Some there) s w p m is early = reading-weaker m (m + (most + 1)) s (omega arith) is
  read_word_if-within None s w p m is early = record {
    bus = read-within most ds are m (m + (most + 1)) (omega arith) s.bus w p is.bus early;
    answered = max-le (omega (arith, is.answered)) (answer-within most ds are m (m + (most + 1)) (omega arith) s.bus w p is.bus early);
  }

  pub read_word-within : (s : Fetching) (w p m : ℕ) → IsReadingWithin m s → p ≤ m
      → IsReadingWithin (m + (most + 1)) (read_word ds past s w p)
  unfolding read_word behind_use
  read_word-within s w p m is early = read_word_if-within (forwarded_at past w p) s w p m is early

  pub read_words-within : (p : ℕ) (s : Fetching) (w n m : ℕ) → IsReadingWithin m s → p ≤ m
      → IsReadingWithin (m + n * (most + 1)) (read_words ds past s p w n)
  unfolding read_words behind uses wishes read_word
  read_words-within p s w zero m is early = reading-weaker m (m + 0 * (most + 1)) s (omega arith) is
  read_words-within p s w (suc n) m is early =
      let k = m + (most + 1) in
      let first = read_word-within s w p m is early in
      let rest = read_words-within p (read_word ds past s w p) (w + 1) n k first (omega arith) in
      reading-weaker (k + n * (most + 1)) (m + suc n * (most + 1)) _ (one-more m n (most + 1)) rest
