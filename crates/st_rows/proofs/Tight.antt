-- The ticks of issue states stay close together from entry to entry.
use Rattle.st_rows.proofs.Common.{if◌then◌else◌, nat_lt, Bool, ℕ, zero, suc, ◌+◌, ◌*◌, ◌<◌, ◌≤◌, max, true, false, List, take, Option, None, Some, arith, subst, sym, [], ◌∷◌, max-le, All-cons, All-set, All-take, All-weaker, words_of_storage, bank_of, tick_of, AskedWord, accept_at, answer_at, bus_after_read, requested_if, answer_if, bus_after_request, answer_tick_on, Read, after_one, bus_if, AreDelaysUpTo, IsNear, IsTight, IsEntryInTime, wanted_from, words_tick, address_tick, preparation_tick, tick_a, bus_a, index_arrival, tick_p, operands, tick_c, issue_after_entry, own_fetched, first_read, followings, fetch_word, fetch_words, bus_after_index_read, side_there, read_word, read_words, operands_read, request_inside, bus_after_prefetch, behind, behind_use, uses, wishes, forwarded_at, use_of, unused, wish_of, Wish, Bus, Entry, Past, Fetching, IssueState}
use Rattle.st_rows.proofs.Within.{at-within, delay-bounds, past-weaker}
use Rattle.st_rows.proofs.UseLemmas.{followed-is, read_if, side_if}

module _ (most : ℕ) (ds : List ℕ) (are : AreDelaysUpTo most ds) where
  -- ---- one read

  -- a read is accepted when the bus is free and the read is requested, or soon after
  pub accept-bounds : (b : Bus) (w want : ℕ) → IsNear most b
      → (b.free ≤ accept_at b w want) × (want ≤ accept_at b w want) × (accept_at b w want ≤ max (b.free + most) want)
  accept-bounds b w want is =
      let bank = at-within (b.free + most) b.banks.ticks (bank_of w) is.banks in
      (omega arith, omega arith, max-le (max-le (omega arith) (omega arith)) (omega arith))

  -- the bus is free no later than the answer
  pub free-answer : (b : Bus) (w want : ℕ) → (bus_after_read ds b w want).free ≤ answer_at ds b w want
  unfolding bus_after_read
  free-answer b w want = omega (arith, delay-bounds most ds (accept_at b w want) are)

  pub near-read : (b : Bus) (w want : ℕ) → IsNear most b → IsNear most (bus_after_read ds b w want)
  unfolding bus_after_read
  near-read b w want is =
      let later : b.free ≤ accept_at b w want = omega arith in
      let known = delay-bounds most ds (accept_at b w want) are in
      record {
        free = omega arith;
        banks = All-set (λ t. t ≤ accept_at b w want + 1 + most) b.banks.ticks (bank_of w) _ (omega arith)
            (All-weaker (λ t. t ≤ b.free + most) (λ t. t ≤ accept_at b w want + 1 + most) (λ t low. omega arith) b.banks.ticks is.banks);
        held = All-weaker (λ (h : AskedWord). h.tick ≤ b.free + most) (λ (h : AskedWord). h.tick ≤ accept_at b w want + 1 + most) (λ h low. omega arith) b.held.words is.held;
      }

  -- ---- an instruction word

  pub near-requested_if : (o : Option ℕ) (b : Bus) (w want : ℕ) → IsNear most b → IsNear most (requested_if ds b w want o)
  unfolding bus_after_read
  near-requested_if (Some t) b w want is = is
  near-requested_if None b w want is =
      let made = near-read b w want is in
      let known = delay-bounds most ds (accept_at b w want) are in
      record {
        free = omega arith;
        banks = made.banks;
        held = All-cons (λ (h : AskedWord). h.tick ≤ accept_at b w want + 1 + most) _ (take 3 b.held.words) (omega arith)
            (All-take (λ (h : AskedWord). h.tick ≤ accept_at b w want + 1 + most) 3 b.held.words made.held);
      }

  free-requested_if : (o : Option ℕ) (b : Bus) (w want : ℕ) → (requested_if ds b w want o).free ≤ max b.free (answer_if ds b w want o)
  free-requested_if (Some t) b w want = omega arith
  free-requested_if None b w want = omega (arith, free-answer b w want)

  soon-requested_if : (o : Option ℕ) (b : Bus) (w want : ℕ) → IsNear most b → (requested_if ds b w want o).free ≤ max (b.free + most) want + 1
  unfolding bus_after_read
  soon-requested_if (Some t) b w want is = omega arith
  soon-requested_if None b w want is = omega (arith, (accept-bounds b w want is).2)

  pub near-one_if : (fetch : Bool) (b : Bus) (w want : ℕ) → IsNear most b → IsNear most (after_one ds b (record { w = w; want = want; fetch = fetch }))
  near-one_if true b w want is = near-requested_if None b w want is
  near-one_if false b w want is = near-read b w want is

  -- any uses
  near-if : (o : Option ℕ) (b : Bus) (r : Read) → IsNear most b → IsNear most (bus_if ds b r o)
  near-if (Some t) b r is = is
  near-if None b r is = near-one_if r.fetch b r.w r.want is

  near-uses : (past : List Past) (s : Fetching) (xs : List Wish) → IsNear most s.bus → IsNear most (behind ds past s (uses ds past s xs)).bus
  unfolding behind uses behind_use
  near-uses past s [] is = is
  near-uses past s (x ∷ xs) is =
      let u = use_of ds past s x in
      near-uses past (behind_use ds past s u) xs (near-if u.unread s.bus u.read is)

  pub free-requested : (b : Bus) (w want : ℕ) → (bus_after_request ds b w want).free ≤ max b.free (answer_tick_on ds b w want)
  unfolding bus_after_request answer_tick_on
  free-requested b w want = free-requested_if (tick_of b.held.words w) b w want

  pub soon-requested : (b : Bus) (w want : ℕ) → IsNear most b → (bus_after_request ds b w want).free ≤ max (b.free + most) want + 1
  unfolding bus_after_request
  soon-requested b w want is = soon-requested_if (tick_of b.held.words w) b w want is

  -- ---- the instruction words of an entry, on a bus that is free at the tick `free`

  module _ (past : List Past) (from : ℕ) where
    pub free-fetch : (free : ℕ) (s : Fetching) (w n : ℕ) → s.bus.free ≤ max free s.answered
        → (fetch_words ds past s from w n).bus.free ≤ max free (fetch_words ds past s from w n).answered
    unfolding fetch_word fetch_words behind_use bus_after_request answer_tick_on behind uses wishes
    free-fetch free s w zero is = is
    free-fetch free s w (suc n) is =
        let want = max (max from s.answered) s.awaited in
        let one = free-requested s.bus w want in
        free-fetch free (fetch_word ds past s w from) (w + 1) n (omega arith)

  -- ---- operands

  free-read_if : (o : Option ℕ) (past : List Past) (s : Fetching) (w p : ℕ) → s.bus.free ≤ s.answered
      → (read_if ds s w p o).bus.free
      ≤ (read_if ds s w p o).answered
  free-read_if (Some there) past s w p is = is
  free-read_if None past s w p is = omega (arith, free-answer s.bus w p)

  later-read_if : (o : Option ℕ) (past : List Past) (s : Fetching) (w p : ℕ)
      → s.answered ≤ (read_if ds s w p o).answered
  later-read_if (Some there) past s w p = omega arith
  later-read_if None past s w p = omega arith

  module _ (past : List Past) (p : ℕ) where
    pub free-reads : (s : Fetching) (w n : ℕ) → s.bus.free ≤ s.answered
        → (read_words ds past s p w n).bus.free ≤ (read_words ds past s p w n).answered
    unfolding read_word read_words behind_use behind uses wishes
    free-reads s w zero is = is
    free-reads s w (suc n) is = free-reads (read_word ds past s w p) (w + 1) n (free-read_if (forwarded_at past w p) past s w p is)

    pub later-reads : (s : Fetching) (w n : ℕ) → s.answered ≤ (read_words ds past s p w n).answered
    unfolding read_word read_words behind_use behind uses wishes
    later-reads s w zero = omega arith
    later-reads s w (suc n) =
        let rest = later-reads (read_word ds past s w p) (w + 1) n in
        omega (arith, rest, later-read_if (forwarded_at past w p) past s w p)

  -- ---- the index-side word

  free-side_if : (o : Option ℕ) (b : Bus) (w a : ℕ) → b.free ≤ a
      → (side_if ds b w a o).free ≤ max a (answer_if ds b w a o)
  free-side_if (Some there) b w a is = omega arith
  free-side_if None b w a is = omega (arith, free-answer b w a)

  pub free-sided : (past : List Past) (b : Bus) (side : Option ℕ) (a : ℕ) → b.free ≤ a
      → (bus_after_index_read ds past b side a).free ≤ max a (side_there ds past b side a)
  unfolding bus_after_index_read side_there behind uses behind_use
  free-sided past b None a is = omega arith
  free-sided past b (Some w) a is = free-side_if (forwarded_at past w a) b w a is

  -- ---- following words, each requested at the tick c or earlier

  near-inside_if : (inside : Bool) (b : Bus) (w p : ℕ) → IsNear most b → IsNear most (if inside then bus_after_request ds b w p else b)
  unfolding bus_after_request
  near-inside_if true b w p is = near-if (tick_of b.held.words w) b (record { w = w; want = p; fetch = true }) is
  near-inside_if false b w p is = is

  soon-inside_if : (inside : Bool) (b : Bus) (w p c : ℕ) → IsNear most b → p ≤ c → b.free ≤ c
      → (if inside then bus_after_request ds b w p else b).free ≤ c + most + 1
  soon-inside_if true b w p c is early free = omega (arith, soon-requested b w p is)
  soon-inside_if false b w p c is early free = omega arith

  soon-follow_if : (follows : Bool) (b : Bus) (w p c : ℕ) → IsNear most b → p ≤ c → b.free ≤ c
      → (if follows then request_inside ds (request_inside ds b w p) (w + 1) p else b).free ≤ c + 2 * most + 2
  soon-follow_if false b w p c is early free = omega arith
  soon-follow_if true b w p c is early free =
      let one = soon-inside_if (nat_lt w words_of_storage) b w p c is early free in
      let near = near-inside_if (nat_lt w words_of_storage) b w p is in
      let two = soon-inside_if (nat_lt (w + 1) words_of_storage) (request_inside ds b w p) (w + 1) p (c + most + 1) near (omega arith) one in
      omega arith

  -- ---- the whole row

  module _ (n : ℕ) (f : IssueState) (e : Entry) (entry : IsEntryInTime e) (tight : IsTight most f) where
    near-fetched : IsNear most (words_tick ds f e).bus
    unfolding words_tick fetch_words
    near-fetched = near-uses f.past (own_fetched ds f e) _ (near-uses f.past (unused f.bus 0) _ tight.near)

    free-fetched : (words_tick ds f e).bus.free ≤ max f.bus.free (words_tick ds f e).answered
    unfolding words_tick fetch_words
    free-fetched =
        free-fetch f.past (max (wanted_from f) f.c) f.bus.free _ e.target.first e.target.len
        (free-fetch f.past (wanted_from f) f.bus.free _ e.own.first e.own.len (omega arith))

    pub free-a : (words_tick ds f e).bus.free ≤ tick_a ds f e
    unfolding tick_a address_tick
    free-a = omega (arith, free-fetched)

    pub free-bus_a : (bus_a ds f e).free ≤ max (tick_a ds f e) (index_arrival ds f e)
    unfolding bus_a index_arrival bus_after_index_read side_there
    free-bus_a = free-sided f.past (words_tick ds f e).bus e.side (tick_a ds f e) free-a

    pub near-bus_a : IsNear most (bus_a ds f e)
    unfolding bus_a bus_after_index_read
    near-bus_a = near-uses f.past (unused (words_tick ds f e).bus 0) (wish_of e.side (tick_a ds f e)) near-fetched

    pub free-p : (bus_a ds f e).free ≤ tick_p ds n f e
    unfolding tick_p preparation_tick
    free-p = omega (arith, free-bus_a)

    pub near-operands : IsNear most (operands ds n f e).bus
    unfolding operands operands_read read_words
    near-operands =
        near-uses f.past (first_read ds n f e) _ (near-uses f.past (unused (bus_a ds f e) (tick_p ds n f e)) _ near-bus_a)

    pub free-r : (operands ds n f e).bus.free ≤ (operands ds n f e).answered
    unfolding operands operands_read read_words
    free-r =
        free-reads f.past (tick_p ds n f e) _ e.reads.two.first e.reads.two.len
        (free-reads f.past (tick_p ds n f e) _ e.reads.one.first e.reads.one.len free-p)

    pub later-r : tick_p ds n f e ≤ (operands ds n f e).answered
    unfolding operands operands_read read_words
    later-r =
        let one = later-reads f.past (tick_p ds n f e) (record { bus = bus_a ds f e; answered = tick_p ds n f e; awaited = 0 }) e.reads.one.first e.reads.one.len in
        let two = later-reads f.past (tick_p ds n f e) (read_words ds f.past (record { bus = bus_a ds f e; answered = tick_p ds n f e; awaited = 0 }) (tick_p ds n f e) e.reads.one.first e.reads.one.len)
        e.reads.two.first e.reads.two.len in
        omega (arith, one, two)

    pub later-c : (f.c < tick_c ds n f e) × ((operands ds n f e).answered < tick_c ds n f e)
    unfolding tick_c
    later-c = (omega (arith, entry.costs.0), omega (arith, entry.costs.0))

    pub tight-after : IsTight most (issue_after_entry ds n f e)
    unfolding issue_after_entry bus_after_prefetch
    tight-after =
        let late = later-c in
        let done = later-r in
        let free = free-r in
        record {
          prepared = omega arith;
          done = record {
            each = All-cons (λ (d : Past). d.c ≤ tick_c ds n f e) _ (take 7 f.past) (omega arith)
                (All-take (λ (d : Past). d.c ≤ tick_c ds n f e) 7 f.past (past-weaker f.c (tick_c ds n f e) f.past (omega arith) tight.done).each);
          };
          free = subst (λ (b : Bus). b.free ≤ tick_c ds n f e + 2 * most + 2) (sym (followed-is ds (operands ds n f e).bus e (tick_p ds n f e)))
              (soon-follow_if e.follows (operands ds n f e).bus (e.own.first + e.own.len) (tick_p ds n f e) (tick_c ds n f e) near-operands (omega arith) (omega arith));
          near = near-uses [] (unused (operands ds n f e).bus (tick_p ds n f e)) (followings e (tick_p ds n f e)) near-operands;
        }
