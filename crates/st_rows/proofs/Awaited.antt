-- An entry waits for the writers of all its instruction words.
use Rattle.st_rows.proofs.Common.{◌≡◌, ℕ, zero, suc, ◌+◌, ◌<◌, ◌≤◌, max, List, refl, arith, Option, None, Some, answer_tick_on, bus_after_request, latest_done, wanted_from, words_tick, tick_p, bus_a, operands, fetch_word, fetch_words, read_word, read_words, operands_read, behind, behind_use, uses, wishes, forwarded_at, Past, Entry, Fetching, IssueState}
use Rattle.st_rows.proofs.UseLemmas.{read_if}

module _ (ds : List ℕ) (past : List Past) (from : ℕ) where
  awaited-later : (s : Fetching) (w n : ℕ) → s.awaited ≤ (fetch_words ds past s from w n).awaited
  unfolding fetch_word fetch_words behind_use bus_after_request answer_tick_on behind uses wishes
  awaited-later s w zero = omega arith
  awaited-later s w (suc n) = omega (arith, awaited-later (fetch_word ds past s w from) (w + 1) n)

  awaited-each : (s : Fetching) (w n i v : ℕ) → i < n → v ≡ w + i → latest_done past v ≤ (fetch_words ds past s from w n).awaited
  unfolding fetch_word fetch_words behind_use bus_after_request answer_tick_on behind uses wishes
  awaited-each s w zero i v inside is = let no : ⊥ = omega arith in absurd no
  awaited-each s w (suc n) zero v inside is =
      let here : v ≡ w = omega arith in
      rw here (omega (arith, awaited-later (fetch_word ds past s w from) (w + 1) n))
  awaited-each s w (suc n) (suc i) v inside is = awaited-each (fetch_word ds past s w from) (w + 1) n i v (omega arith) (omega arith)

module _ (ds : List ℕ) (f : IssueState) (e : Entry) (i : ℕ) where
  pub awaited-own : i < e.own.len → latest_done f.past (e.own.first + i) ≤ (words_tick ds f e).awaited
  unfolding words_tick fetch_words
  awaited-own inside =
      let start : Fetching = record { bus = f.bus; answered = 0; awaited = 0 } in
      let own = awaited-each ds f.past (wanted_from f) start e.own.first e.own.len i (e.own.first + i) inside refl in
      let later = awaited-later ds f.past (max (wanted_from f) f.c) (fetch_words ds f.past start (wanted_from f) e.own.first e.own.len) e.target.first e.target.len in
      omega (arith, own, later)

  pub awaited-target : i < e.target.len → latest_done f.past (e.target.first + i) ≤ (words_tick ds f e).awaited
  unfolding words_tick fetch_words
  awaited-target inside =
      awaited-each ds f.past (max (wanted_from f) f.c) _ e.target.first e.target.len i (e.target.first + i) inside refl

-- a further use does not make the latest arrival earlier
module _ (ds : List ℕ) (past : List Past) (p : ℕ) where
  ready-later_if : (o : Option ℕ) (s : Fetching) (w : ℕ)
      → s.answered ≤ (read_if ds s w p o).answered
  ready-later_if (Some there) s w = omega arith
  ready-later_if None s w = omega arith

  pub ready-later : (s : Fetching) (w n : ℕ) → s.answered ≤ (read_words ds past s p w n).answered
  unfolding read_word read_words behind_use behind uses wishes
  ready-later s w zero = omega arith
  ready-later s w (suc n) =
      omega (arith, ready-later (read_word ds past s w p) (w + 1) n, ready-later_if (forwarded_at past w p) s w)

-- operands arrive at preparation or later
pub ready-after : (ds : List ℕ) (n : ℕ) (f : IssueState) (e : Entry) → tick_p ds n f e ≤ (operands ds n f e).answered
unfolding operands operands_read read_words
ready-after ds n f e =
    let p = tick_p ds n f e in
    let start : Fetching = record { bus = bus_a ds f e; answered = p; awaited = 0 } in
    omega (
      arith,
      ready-later ds f.past p start e.reads.one.first e.reads.one.len,
      ready-later ds f.past p (read_words ds f.past start p e.reads.one.first e.reads.one.len) e.reads.two.first e.reads.two.len,
    )
