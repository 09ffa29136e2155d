-- Bounds of the ticks of an entry, stage by stage, if no delay is longer than `most`.
use Rattle.st_rows.proofs.Common.{ℕ, zero, suc, ◌+◌, ◌-◌, ◌*◌, ◌<◌, ◌≤◌, max, true, false, List, [], ◌∷◌, get_or, Option, None, Some, arith, IfSome, ◌||◌, if◌then◌else◌, max-le, mul-le-mul_right, All-head, All-tail, answer_if, latest_done, no_runs, AreDelaysUpTo, IsBusWithin, IsFetchingWithin, IsReadingWithin, ArePastWithin, IsTight, IsEntryInTime, wanted_from, words_tick, address_tick, preparation_tick, tick_a, bus_a, index_arrival, tick_p, operands, tick_c, fetch_words, bus_after_index_read, side_there, read_words, operands_read, is_forwarded, behind, behind_use, uses, forwarded_at, Bus, WordRuns, Entry, Past, Fetching, IssueState}
use Rattle.std.proofs.Common.{Bool}
use Rattle.st_rows.proofs.Within.{latest-within, bus-weaker, past-weaker, fetching-weaker, reading-weaker, answer-within, read-within, fetch_words-within, read_words-within}
use Rattle.st_rows.proofs.UseLemmas.{side_if}

-- an index-side word that is read lies above the registers
pub side-above : (side : Option ℕ) (end : ℕ) → IfSome side (λ w. (32 ≤ w) × (w < end)) → IfSome side (λ w. 32 ≤ w)
side-above None end inside = tt
side-above (Some w) end inside = inside.0

-- the bus of a tight issue state
pub tight-bus : (most : ℕ) (f : IssueState) → IsTight most f → IsBusWithin (f.c + 3 * most + 2) f.bus
tight-bus most f is = bus-weaker (f.bus.free + most) (f.c + 3 * most + 2) f.bus (omega (arith, is.free)) is.near

-- the first request is no later than the last completion
pub wanted-early : (most : ℕ) (f : IssueState) → IsTight most f → wanted_from f ≤ f.c
wanted-early most f is = wanted-if f.serial
  where
    wanted-if : (alone : Bool) → (if alone then max f.p f.c else f.p) ≤ f.c
    wanted-if true = max-le is.prepared (omega arith)
    wanted-if false = is.prepared

module _ (most : ℕ) (ds : List ℕ) (are : AreDelaysUpTo most ds) where
  -- the instruction words of two runs of at most two words
  pub fetch_two-within : (past : List Past) (from w n m : ℕ) (s : Fetching) → n ≤ 2 → ArePastWithin m past → IsFetchingWithin m s → from ≤ m
      → IsFetchingWithin (m + 2 * (most + 1)) (fetch_words ds past s from w n)
  fetch_two-within past from w n m s few before is early =
      let less : n * (most + 1) ≤ 2 * (most + 1) = mul-le-mul_right (most + 1) few in
      fetching-weaker (m + n * (most + 1)) (m + 2 * (most + 1)) _ (omega arith) (fetch_words-within most ds are past from s w n m before is early)

  -- the index-side word
  bus_side_if-within : (o : Option ℕ) (past : List Past) (b : Bus) (w a m : ℕ) → IsBusWithin m b → a ≤ m
      → IsBusWithin (m + most + 1) (side_if ds b w a o)
  bus_side_if-within (Some there) past b w a m is early = bus-weaker m (m + most + 1) b (omega arith) is
  bus_side_if-within None past b w a m is early = read-within most ds are m (m + most + 1) (omega arith) b w a is early

  pub bus_after_index_read-within : (past : List Past) (b : Bus) (side : Option ℕ) (a m : ℕ) → IsBusWithin m b → a ≤ m
      → IsBusWithin (m + most + 1) (bus_after_index_read ds past b side a)
  unfolding bus_after_index_read behind uses behind_use
  bus_after_index_read-within past b None a m is early = bus-weaker m (m + most + 1) b (omega arith) is
  bus_after_index_read-within past b (Some w) a m is early = bus_side_if-within (forwarded_at past w a) past b w a m is early

  side_if-within : (late : Bool) (past : List Past) (b : Bus) (w a m : ℕ) → ArePastWithin m past → IsBusWithin m b → a ≤ m
      → (answer_if ds b w a (if late then Some (latest_done past w) else None)) ≤ m + most + 1
  side_if-within true past b w a m before is early = omega (arith, latest-within m past w before)
  side_if-within false past b w a m before is early = answer-within most ds are m (m + most + 1) (omega arith) b w a is early

  pub side-within : (past : List Past) (b : Bus) (side : Option ℕ) (a m : ℕ) → ArePastWithin m past → IsBusWithin m b → a ≤ m
      → side_there ds past b side a ≤ m + most + 1
  unfolding side_there behind uses behind_use
  side-within past b None a m before is early = omega arith
  side-within past b (Some w) a m before is early = side_if-within (is_forwarded past w a) past b w a m before is early

  -- the operands
  pub read_sixteen-within : (past : List Past) (p w n m : ℕ) (s : Fetching) → n ≤ 16 → IsReadingWithin m s → p ≤ m
      → IsReadingWithin (m + 16 * (most + 1)) (read_words ds past s p w n)
  read_sixteen-within past p w n m s few is early =
      let less : n * (most + 1) ≤ 16 * (most + 1) = mul-le-mul_right (most + 1) few in
      reading-weaker (m + n * (most + 1)) (m + 16 * (most + 1)) _ (omega arith) (read_words-within most ds are past p s w n m is early)

  pub operands-within : (past : List Past) (b : Bus) (reads : WordRuns) (p m : ℕ) → reads.one.len ≤ 16 → reads.two.len ≤ 16 → IsBusWithin m b → p ≤ m
      → IsReadingWithin (m + 32 * (most + 1)) (operands_read ds past (record { bus = b; answered = p; awaited = 0 }) reads p)
  unfolding operands_read
  operands-within past b reads p m few few2 is early =
      let start : IsReadingWithin m (record { bus = b; answered = p; awaited = 0 }) = record { bus = is; answered = early } in
      let one = read_sixteen-within past p reads.one.first reads.one.len m _ few start early in
      reading-weaker (m + 16 * (most + 1) + 16 * (most + 1)) (m + 32 * (most + 1)) _ (omega arith)
      (read_sixteen-within past p reads.two.first reads.two.len (m + 16 * (most + 1)) _ few2 one (omega arith))

-- the address
alone-early : (alone : Bool) (c : ℕ) → (if alone then c else 0) ≤ c
alone-early true c = omega arith
alone-early false c = omega arith

pub addressed-within : (f : IssueState) (e : Entry) (answered awaited m : ℕ) → f.p ≤ m → f.c ≤ m → f.bus.free ≤ m + 1 → answered ≤ m → awaited ≤ m
    → address_tick f e answered awaited ≤ m + 1
unfolding address_tick
addressed-within f e answered awaited m prepared done free there waits =
    let late : max (max (max answered awaited) f.p) (if e.serial || f.serial then f.c else 0) ≤ m =
    max-le (max-le (max-le there waits) prepared) (omega (arith, alone-early (e.serial || f.serial) f.c)) in
    max-le (omega arith) free

-- preparation
pub nth-within : (m : ℕ) (past : List Past) (i : ℕ) → ArePastWithin m past → (get_or past i (record { c = 0; writes = no_runs })).c ≤ m
nth-within m [] i are = omega arith
nth-within m (d ∷ past) zero are = All-head (λ (entry : Past). entry.c ≤ m) d past are.each
nth-within m (d ∷ past) (suc i) are = nth-within m past i (record { each = All-tail (λ (entry : Past). entry.c ≤ m) d past are.each })

pub prepared-within : (n : ℕ) (past : List Past) (a y m : ℕ) → a ≤ m → y ≤ m → ArePastWithin m past → preparation_tick n past a y ≤ m + 1
unfolding preparation_tick
prepared-within n past a y m early there are =
    let late = max-le (max-le early there) (nth-within m past (n - 1) are) in omega arith

module _ (most : ℕ) (ds : List ℕ) (are : AreDelaysUpTo most ds) (f : IssueState) (e : Entry) (entry : IsEntryInTime e) (tight : IsTight most f) where
  pub fetched-within : IsFetchingWithin (f.c + 7 * most + 6) (words_tick ds f e)
  unfolding words_tick fetch_words
  fetched-within =
      let m = f.c + 3 * most + 2 in
      let k = m + 2 * (most + 1) in
      let start : IsFetchingWithin m (record { bus = f.bus; answered = 0; awaited = 0 }) =
      record { bus = tight-bus most f tight; answered = omega arith; awaited = omega arith } in
      let early = wanted-early most f tight in
      let own = fetch_two-within most ds are f.past (wanted_from f) e.own.first e.own.len m _ entry.own_few (past-weaker f.c m f.past (omega arith) tight.done) start (omega arith) in
      let target = fetch_two-within most ds are f.past (max (wanted_from f) f.c) e.target.first e.target.len k _ entry.target_few (past-weaker f.c k f.past (omega arith) tight.done) own
      (max-le (omega arith) (omega arith)) in
      fetching-weaker (k + 2 * (most + 1)) (f.c + 7 * most + 6) _ (omega arith) target

  pub a-within : tick_a ds f e ≤ f.c + 7 * most + 7
  unfolding tick_a
  a-within =
      let words = fetched-within in
      let late : address_tick f e (words_tick ds f e).answered (words_tick ds f e).awaited ≤ f.c + 7 * most + 6 + 1 =
      addressed-within f e (words_tick ds f e).answered (words_tick ds f e).awaited (f.c + 7 * most + 6) (omega (arith, tight.prepared)) (omega arith)
      (omega (arith, tight.free)) words.answered words.awaited in
      omega arith

  pub bus_a-within : IsBusWithin (f.c + 8 * most + 8) (bus_a ds f e)
  unfolding bus_a bus_after_index_read
  bus_a-within =
      let m = f.c + 7 * most + 7 in
      bus-weaker (m + most + 1) (f.c + 8 * most + 8) _ (omega arith)
      (bus_after_index_read-within most ds are f.past (words_tick ds f e).bus e.side (tick_a ds f e) m (bus-weaker (f.c + 7 * most + 6) m _ (omega arith) fetched-within.bus) a-within)

  pub y-within : index_arrival ds f e ≤ f.c + 8 * most + 8
  unfolding index_arrival side_there
  y-within =
      let m = f.c + 7 * most + 7 in
      let late = side-within most ds are f.past (words_tick ds f e).bus e.side (tick_a ds f e) m (past-weaker f.c m f.past (omega arith) tight.done)
      (bus-weaker (f.c + 7 * most + 6) m _ (omega arith) fetched-within.bus) a-within in
      omega arith

  pub p-within : (n : ℕ) → tick_p ds n f e ≤ f.c + 8 * most + 9
  unfolding tick_p
  p-within n =
      let m = f.c + 8 * most + 8 in
      let late = prepared-within n f.past (tick_a ds f e) (index_arrival ds f e) m (omega (arith, a-within)) y-within (past-weaker f.c m f.past (omega arith) tight.done) in
      omega arith

  pub operands_of-within : (n : ℕ) → IsReadingWithin (f.c + 40 * most + 41) (operands ds n f e)
  unfolding operands operands_read read_words
  operands_of-within n =
      let m = f.c + 8 * most + 9 in
      reading-weaker (m + 32 * (most + 1)) (f.c + 40 * most + 41) _ (omega arith)
      (operands-within most ds are f.past (bus_a ds f e) e.reads (tick_p ds n f e) m entry.one_few entry.two_few
      (bus-weaker (f.c + 8 * most + 8) m _ (omega arith) bus_a-within) (p-within n))

  pub c-within : (n : ℕ) → tick_c ds n f e ≤ f.c + 40 * most + 65
  unfolding tick_c
  c-within n =
      let read = operands_of-within n in
      let late : max f.c (operands ds n f e).answered ≤ f.c + 40 * most + 41 = max-le (omega arith) read.answered in
      omega (arith, entry.costs.1)
