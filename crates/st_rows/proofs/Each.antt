-- Properties of each read of an entry.
use Rattle.st_rows.proofs.Common.{if◌then◌else◌, nat_lt, Bool, IfSome, ◌≡◌, ℕ, zero, suc, ◌+◌, ◌<◌, ◌≤◌, max, true, false, List, [], ◌++◌, All, Option, None, Some, refl, arith, ltb-true, All-nil, All-cons, All-append, words_of_storage, tick_of, word_asked, words_asked, data_asked, side_asked, operands_asked, inside_asked, runs_asked, following_asked, fetches_asked, data_of, Read, wanted_from, tick_a, tick_p, operands, fetch_word, fetch_words, request_inside, reads_of, uses, wishes, read_made, forwarded_at, Bus, WordRuns, Entry, Past, Fetching, IssueState}
use Rattle.st_rows.proofs.UseLemmas.{following-is}

module _ (P : Read → Type 0) where
  each-word : (o : Option ℕ) (w want : ℕ) → P (record { w = w; want = want; fetch = true }) → All P (word_asked o w want)
  each-word (Some t) w want is = All-nil P
  each-word None w want is = All-cons P _ [] is (All-nil P)

  each-words : (ds : List ℕ) (past : List Past) (from : ℕ) (s : Fetching) (w n : ℕ)
      → ((v want : ℕ) → w ≤ v → v < w + n → from ≤ want → P (record { w = v; want = want; fetch = true }))
      → All P (words_asked ds past s from w n)
  unfolding words_asked reads_of uses wishes fetch_word
  each-words ds past from s w zero is = All-nil P
  each-words ds past from s w (suc n) is =
      let want = max (max from s.answered) s.awaited in
      All-append P (word_asked (tick_of s.bus.held.words w) w want) (words_asked ds past (fetch_word ds past s w from) from (w + 1) n)
      (each-word (tick_of s.bus.held.words w) w want (is w want (omega arith) (omega arith) (omega arith)))
      (each-words ds past from (fetch_word ds past s w from) (w + 1) n (λ v late least most low. is v late (omega arith) (omega arith) low))

  pub each-fetch : (ds : List ℕ) (f : IssueState) (e : Entry)
      → ((v want : ℕ) → e.own.first ≤ v → v < e.own.first + e.own.len → wanted_from f ≤ want → P (record { w = v; want = want; fetch = true }))
      → ((v want : ℕ) → e.target.first ≤ v → v < e.target.first + e.target.len → wanted_from f ≤ want → P (record { w = v; want = want; fetch = true }))
      → All P (fetches_asked ds f e)
  unfolding fetches_asked words_asked fetch_words
  each-fetch ds f e own target =
      let start : Fetching = record { bus = f.bus; answered = 0; awaited = 0 } in
      let behind = fetch_words ds f.past start (wanted_from f) e.own.first e.own.len in
      let from = max (wanted_from f) f.c in
      All-append P (words_asked ds f.past start (wanted_from f) e.own.first e.own.len) (words_asked ds f.past behind from e.target.first e.target.len)
      (each-words ds f.past (wanted_from f) start e.own.first e.own.len own)
      (each-words ds f.past from behind e.target.first e.target.len (λ v want least most low. target v want least most (omega arith)))

  each-data_if : (o : Option ℕ) (w tick : ℕ) → P (record { w = w; want = tick; fetch = false })
      → All P (read_made (record { w = w; want = tick; fetch = false }) o)
  each-data_if (Some there) w tick is = All-nil P
  each-data_if None w tick is = All-cons P _ [] is (All-nil P)

  pub each-side : (past : List Past) (side : Option ℕ) (a : ℕ)
      → IfSome side (λ w. P (record { w = w; want = a; fetch = false })) → All P (side_asked past side a)
  unfolding side_asked
  each-side past None a is = All-nil P
  each-side past (Some w) a is = each-data_if (forwarded_at past w a) w a is

  each-run : (past : List Past) (p w n : ℕ)
      → ((v : ℕ) → w ≤ v → v < w + n → P (record { w = v; want = p; fetch = false })) → All P (operands_asked past p w n)
  unfolding operands_asked
  each-run past p w zero is = All-nil P
  each-run past p w (suc n) is =
      All-append P (data_asked past w p) (operands_asked past p (w + 1) n)
      (each-data_if (forwarded_at past w p) w p (is w (omega arith) (omega arith)))
      (each-run past p (w + 1) n (λ v least most. is v (omega arith) (omega arith)))

  pub each-operand : (past : List Past) (reads : WordRuns) (p : ℕ)
      → ((v : ℕ) → reads.one.first ≤ v → v < reads.one.first + reads.one.len → P (record { w = v; want = p; fetch = false }))
      → ((v : ℕ) → reads.two.first ≤ v → v < reads.two.first + reads.two.len → P (record { w = v; want = p; fetch = false }))
      → All P (runs_asked past reads p)
  each-operand past reads p one two =
      All-append P (operands_asked past p reads.one.first reads.one.len) (operands_asked past p reads.two.first reads.two.len)
      (each-run past p reads.one.first reads.one.len one) (each-run past p reads.two.first reads.two.len two)

  each-inside_if : (inside : Bool) (o : Option ℕ) (w p : ℕ) → (inside ≡ true → P (record { w = w; want = p; fetch = true }))
      → All P (if inside then word_asked o w p else [])
  each-inside_if true o w p is = each-word o w p (is refl)
  each-inside_if false o w p is = All-nil P

  each-following_if : (follows : Bool) (ds : List ℕ) (b : Bus) (w p : ℕ)
      → (follows ≡ true → (v : ℕ) → w ≤ v → v < words_of_storage → P (record { w = v; want = p; fetch = true }))
      → All P (if follows then inside_asked b w p ++ inside_asked (request_inside ds b w p) (w + 1) p else [])
  each-following_if false ds b w p is = All-nil P
  each-following_if true ds b w p is =
      let next = request_inside ds b w p in
      All-append P (inside_asked b w p) (inside_asked next (w + 1) p)
      (each-inside_if (nat_lt w words_of_storage) (tick_of b.held.words w) w p (λ low. is refl w (omega arith) (ltb-true w words_of_storage low)))
      (each-inside_if (nat_lt (w + 1) words_of_storage) (tick_of next.held.words (w + 1)) (w + 1) p
      (λ low. is refl (w + 1) (omega arith) (ltb-true (w + 1) words_of_storage low)))

  pub each-following : (ds : List ℕ) (b : Bus) (e : Entry) (p : ℕ)
      → (e.follows ≡ true → (v : ℕ) → e.own.first + e.own.len ≤ v → v < words_of_storage → P (record { w = v; want = p; fetch = true }))
      → All P (following_asked ds b e p)
  each-following ds b e p is = rw (following-is ds b e p) (each-following_if e.follows ds b (e.own.first + e.own.len) p is)

  pub each-of-data : (ds : List ℕ) (n : ℕ) (f : IssueState) (e : Entry)
      → All P (side_asked f.past e.side (tick_a ds f e)) → All P (runs_asked f.past e.reads (tick_p ds n f e))
      → All P (following_asked ds (operands ds n f e).bus e (tick_p ds n f e)) → All P (data_of ds n f e)
  each-of-data ds n f e side runs next =
      All-append P (side_asked f.past e.side (tick_a ds f e)) (runs_asked f.past e.reads (tick_p ds n f e) ++ following_asked ds (operands ds n f e).bus e (tick_p ds n f e))
      side
      (All-append P (runs_asked f.past e.reads (tick_p ds n f e)) (following_asked ds (operands ds n f e).bus e (tick_p ds n f e)) runs next)
