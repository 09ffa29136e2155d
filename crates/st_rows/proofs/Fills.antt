-- The first operand words arrive after preparation and before completion.
use Rattle.st_rows.proofs.Common.{if◌then◌else◌, nat_lt, Bool, ◌≡◌, ℕ, zero, suc, ◌+◌, ◌<◌, ◌≤◌, max, true, false, List, get_or, refl, ap, ◌∙◌, arith, None, Some, ltb-true, lt-ltb, accept_at, answer_if, latest_done, AreDelaysUpTo, ArePastWithin, IsTight, tick_p, bus_a, operands, read_word, read_words, operands_read, fill_at, fills_of, fills, is_forwarded, behind, behind_use, uses, wishes, Bus, Entry, Past, IssueState, Fetching}
use Rattle.st_rows.specs.declared.entry.WordRun.{WordRun}
use Rattle.st_rows.proofs.Awaited.{ready-later}
use Rattle.st_rows.proofs.Within.{delay-bounds, latest-within}
use Rattle.st_rows.proofs.UseLemmas.{read_if}

-- ---- after preparation

module _ (most : ℕ) (ds : List ℕ) (are : AreDelaysUpTo most ds) (past : List Past) where
  fill-late_if : (late : Bool) (b : Bus) (w p : ℕ) → (late ≡ true → p < latest_done past w)
      → p < answer_if ds b w p (if late then Some (latest_done past w) else None)
  fill-late_if true b w p is = is refl
  fill-late_if false b w p is = omega (arith, delay-bounds most ds (accept_at b w p) are)

  fill-late : (b : Bus) (w p : ℕ) → p < fill_at ds past b w p
  fill-late b w p = fill-late_if (is_forwarded past w p) b w p (λ late. ltb-true p (latest_done past w) late)

  pub first-late : (b : Bus) (run : WordRun) (p : ℕ) → 1 ≤ run.len → p < get_or (fills_of ds past b run p) 0 0
  unfolding fills_of
  first-late b run p some = rw (lt-ltb 0 run.len some) (fill-late b run.first p)

  pub second-late : (b : Bus) (run : WordRun) (p : ℕ) → 2 ≤ run.len → p < get_or (fills_of ds past b run p) 1 0
  unfolding fills_of
  second-late b run p some = rw (lt-ltb 1 run.len some) (fill-late (read_word ds past (record { bus = b; answered = p; awaited = 0 }) run.first p).bus (run.first + 1) p)

-- ---- no later than the operands and the last completion

module _ (ds : List ℕ) (past : List Past) (p c : ℕ) (before : ArePastWithin c past) where
  fill-early_if : (late : Bool) (s : Fetching) (w : ℕ)
      → answer_if ds s.bus w p (if late then Some (latest_done past w) else None)
      ≤ max (read_if ds s w p (if late then Some (latest_done past w) else None)).answered c
  fill-early_if true s w = omega (arith, latest-within c past w before)
  fill-early_if false s w = omega arith

  fill-early : (s : Fetching) (w : ℕ) → fill_at ds past s.bus w p ≤ max (read_word ds past s w p).answered c
  unfolding read_word behind_use
  fill-early s w = fill-early_if (is_forwarded past w p) s w

  first-early : (s : Fetching) (w n : ℕ) → (if nat_lt 0 n then fill_at ds past s.bus w p else 0) ≤ max (read_words ds past s p w n).answered c
  unfolding read_words behind uses wishes read_word
  first-early s w zero = omega arith
  first-early s w (suc n) = rw (lt-ltb 0 (suc n) (omega arith)) (omega (arith, fill-early s w, ready-later ds past p (read_word ds past s w p) (w + 1) n))

  second-early : (s : Fetching) (w n : ℕ)
      → (if nat_lt 1 n then fill_at ds past (read_word ds past s w p).bus (w + 1) p else 0) ≤ max (read_words ds past s p w n).answered c
  unfolding read_words behind uses wishes read_word
  second-early s w zero = omega arith
  second-early s w (suc zero) = omega arith
  second-early s w (suc (suc n)) =
      let t = read_word ds past s w p in
      rw (lt-ltb 1 (suc (suc n)) (omega arith)) (omega (arith, fill-early t (w + 1), ready-later ds past p (read_word ds past t (w + 1) p) (w + 1 + 1) n))

  pub fills-early : (b : Bus) (run : WordRun) (i : ℕ)
      → get_or (fills_of ds past b run p) i 0 ≤ max (read_words ds past (record { bus = b; answered = p; awaited = 0 }) p run.first run.len).answered c
  unfolding fills_of
  fills-early b run zero = first-early (record { bus = b; answered = p; awaited = 0 }) run.first run.len
  fills-early b run (suc zero) = second-early (record { bus = b; answered = p; awaited = 0 }) run.first run.len
  fills-early b run (suc (suc i)) = omega arith

-- ---- the later of the two arrivals determines when the cost begins, if there are no others

module _ (ds : List ℕ) (past : List Past) (p c : ℕ) (before : ArePastWithin c past) where
  fill-step_if : (late : Bool) (s : Fetching) (w : ℕ)
      → max (read_if ds s w p (if late then Some (latest_done past w) else None)).answered c
      ≡ max (max s.answered c) (answer_if ds s.bus w p (if late then Some (latest_done past w) else None))
  fill-step_if true s w = omega (arith, latest-within c past w before)
  fill-step_if false s w = omega arith

  fill-step : (s : Fetching) (w : ℕ) → max (read_word ds past s w p).answered c ≡ max (max s.answered c) (fill_at ds past s.bus w p)
  unfolding read_word behind_use
  fill-step s w = fill-step_if (is_forwarded past w p) s w

  few-decide : (s : Fetching) (w n : ℕ) → n ≤ 2
      → max (read_words ds past s p w n).answered c
      ≡ max (max s.answered c) (max ((if nat_lt 0 n then fill_at ds past s.bus w p else 0)) ((if nat_lt 1 n then fill_at ds past (read_word ds past s w p).bus (w + 1) p else 0)))
  unfolding read_words behind uses wishes read_word
  few-decide s w zero few = omega arith
  few-decide s w (suc zero) few = omega (arith, fill-step s w)
  few-decide s w (suc (suc zero)) few = omega (arith, fill-step s w, fill-step (read_word ds past s w p) (w + 1))
  few-decide s w (suc (suc (suc n))) few = let none : ⊥ = omega arith in absurd none

  pub two-decide : (b : Bus) (run : WordRun) → run.len ≤ 2
      → max (read_words ds past (record { bus = b; answered = p; awaited = 0 }) p run.first run.len).answered c
      ≡ max (max p c) (max (get_or (fills_of ds past b run p) 0 0) (get_or (fills_of ds past b run p) 1 0))
  unfolding fills_of
  two-decide b run few = few-decide (record { bus = b; answered = p; awaited = 0 }) run.first run.len few

no-more : (ds : List ℕ) (past : List Past) (s : Fetching) (p w n : ℕ) → n ≡ 0 → read_words ds past s p w n ≡ s
unfolding read_words behind uses wishes read_word
no-more ds past s p w n none = rw none refl

pub fills-decide : (most n : ℕ) (ds : List ℕ) (f : IssueState) (e : Entry) → IsTight most f → e.reads.one.len ≤ 2 → e.reads.two.len ≡ 0
    → max (operands ds n f e).answered f.c ≡ max (max (tick_p ds n f e) f.c) (max (get_or (fills ds n f e) 0 0) (get_or (fills ds n f e) 1 0))
unfolding operands operands_read read_words
fills-decide most n ds f e tight few none =
    ap (λ (s : Fetching). max s.answered f.c) (no-more ds f.past _ (tick_p ds n f e) e.reads.two.first e.reads.two.len none)
    ∙ two-decide ds f.past (tick_p ds n f e) f.c tight.done (bus_a ds f e) e.reads.one few

pub fills-ready : (most n i : ℕ) (ds : List ℕ) (f : IssueState) (e : Entry) → IsTight most f → get_or (fills ds n f e) i 0 ≤ max (operands ds n f e).answered f.c
unfolding operands operands_read read_words
fills-ready most n i ds f e tight =
    let p = tick_p ds n f e in
    let one = read_words ds f.past (record { bus = bus_a ds f e; answered = p; awaited = 0 }) p e.reads.one.first e.reads.one.len in
    omega (
      arith,
      fills-early ds f.past p f.c tight.done (bus_a ds f e) e.reads.one i,
      ready-later ds f.past p one e.reads.two.first e.reads.two.len,
    )
