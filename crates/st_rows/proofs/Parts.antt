-- The reads of an entry in parts: when they are requested, and when the bus is free of them.
use Rattle.st_rows.proofs.Common.{◌≡◌, ℕ, ◌≤◌, List, ◌++◌, All, refl, append_assoc, arith, All-append, side_asked, runs_asked, following_asked, fetches_asked, formed_asked, prepared_asked, data_of, Read, AreDelaysUpTo, IsEntryInTime, IsTight, words_tick, tick_a, bus_a, tick_p, preparation_tick, operands, tick_c, address_tick, reads_of_entry, Entry, IssueState, ◌∙◌}
use Rattle.st_rows.proofs.Each.{each-operand, each-following}
use Rattle.st_rows.proofs.Tight.{free-a, free-p, free-r, later-r, later-c}
use Rattle.st_rows.proofs.UseLemmas.{reads-are}

pub asked-parts : (ds : List ℕ) (n : ℕ) (f : IssueState) (e : Entry) → reads_of_entry ds n f e ≡ fetches_asked ds f e ++ data_of ds n f e
asked-parts ds n f e = reads-are ds n f e ∙ append_assoc (fetches_asked ds f e) (side_asked f.past e.side (tick_a ds f e)) (prepared_asked ds n f e)

-- preparation is later than the address
pub a-p : (ds : List ℕ) (n : ℕ) (f : IssueState) (e : Entry) → tick_a ds f e ≤ tick_p ds n f e
unfolding tick_p preparation_tick
a-p ds n f e = omega arith

-- ---- the reads of an entry in two parts

pub two-parts : (ds : List ℕ) (n : ℕ) (f : IssueState) (e : Entry) → reads_of_entry ds n f e ≡ formed_asked ds f e ++ prepared_asked ds n f e
two-parts ds n f e = reads-are ds n f e

-- each read of the second part is requested at preparation
pub at-prepared : (ds : List ℕ) (n : ℕ) (f : IssueState) (e : Entry) → All (λ (r : Read). r.want ≡ tick_p ds n f e) (prepared_asked ds n f e)
at-prepared ds n f e =
    let p = tick_p ds n f e in
    All-append (λ (r : Read). r.want ≡ p) (runs_asked f.past e.reads p) (following_asked ds (operands ds n f e).bus e p)
    (each-operand (λ (r : Read). r.want ≡ p) f.past e.reads p (λ v least most. refl) (λ v least most. refl))
    (each-following (λ (r : Read). r.want ≡ p) ds (operands ds n f e).bus e p (λ follows v least most. refl))

-- ---- when the bus is free after each part

pub issue-formed : (ds : List ℕ) (f : IssueState) (e : Entry) → f.bus.free ≤ tick_a ds f e
unfolding tick_a address_tick
issue-formed ds f e = omega arith

module _ (most : ℕ) (ds : List ℕ) (are : AreDelaysUpTo most ds) (n : ℕ) (f : IssueState) (e : Entry) (entry : IsEntryInTime e) (tight : IsTight most f) where
  pub free-fetched : (words_tick ds f e).bus.free ≤ tick_a ds f e
  free-fetched = free-a most ds are n f e entry tight

  pub free-formed : (bus_a ds f e).free ≤ tick_p ds n f e
  free-formed = free-p most ds are n f e entry tight

  pub issue-done : f.bus.free ≤ tick_c ds n f e
  issue-done = omega (arith, issue-formed ds f e, a-p ds n f e, later-r most ds are n f e entry tight, (later-c most ds are n f e entry tight).1)

  pub free-done : (operands ds n f e).bus.free ≤ tick_c ds n f e
  free-done = omega (arith, free-r most ds are n f e entry tight, (later-c most ds are n f e entry tight).1)
