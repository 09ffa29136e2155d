-- After the oldest level completes, the others are the entries in flight of the new state.
use Rattle.st_ring.proofs.Common.{◌≡◌, ℕ, suc, ◌-◌, ◌<◌, Bool, true, false, List, [], ◌∷◌, length, drop, Option, None, Some, refl, sym, subst, ◌∙◌, ap, arith, IfSome, slice_get, Machine, IsMachine, index_words, plan, prediction, issue_after_entry, IssueState, Level, entry, predictions, after_speculative_change, split_words, RunAhead, behind-none, prediction-past, split-change, IsLevel, AreLevels, AreAhead, AreFull, PlannedRow}

pub split-behind : (k : ℕ) (t : Option ℕ) (s : Machine) → split_words (suc (suc k)) t s ≡ split_words (suc k) None (prediction t s)
unfolding split_words predictions
split-behind k t s = ap (λ i. index_words (after_speculative_change i (predictions k None (prediction t s)))) (sym (behind-none k))

index-behind : (b : Bool) (t : Option ℕ) (s : Machine) (x y : List ℕ) → (plan s t).serial ≡ b → IsMachine s → IfSome t (λ i. i < 64)
    → x ≡ split_words 1 t s → (b ≡ false → y ≡ x) → (b ≡ true → y ≡ index_words (prediction t s)) → y ≡ index_words (prediction t s)
unfolding predictions
index-behind true t s x y e m some before stays new = new refl
index-behind false t s x y e m some before stays new =
    stays refl ∙ (before ∙ (split-change 0 t s m some ∙ sym (prediction-past t s m some e).index))

pub behind-serial : (k : ℕ) (t : Option ℕ) (s : Machine) → RunAhead (suc k) t s → (plan s t).serial ≡ false
unfolding RunAhead
behind-serial k t s free = free.0

pub behind-rest : (k : ℕ) (t : Option ℕ) (s : Machine) → RunAhead (suc k) t s → RunAhead k None (prediction t s)
unfolding RunAhead
behind-rest k t s free = free.1

nothing-ahead : (t : Option ℕ) (s : Machine) → RunAhead 0 t s
unfolding RunAhead
nothing-ahead t s = tt

pub levels-behind : (ds : List ℕ) (n tick : ℕ) (t : Option ℕ) (s : Machine) (f last : IssueState) (level : Level) (ring : List Level)
    (plans : List PlannedRow) (x y : List ℕ) → IsMachine s → IfSome t (λ i. i < 64)
    → AreLevels ds n tick t s f last (level ∷ ring) plans → x ≡ split_words (suc (length ring)) t s → RunAhead (length ring) t s
    → ((plan s t).serial ≡ false → y ≡ x) → ((plan s t).serial ≡ true → y ≡ index_words (prediction t s))
    → AreAhead ds n tick None (prediction t s) (issue_after_entry ds n f (entry t s)) last (record { ring = ring; plans = drop 1 plans; x = y })
unfolding AreLevels split_words
levels-behind ds n tick t s f last level ring [] x y m some h before free stays new = absurd h
levels-behind ds n tick t s f last level [] (q ∷ qs) x y m some h before free stays new = record {
  levels = h.1;
  index = index-behind (plan s t).serial t s x y refl m some before stays new;
  run_ahead = nothing-ahead None (prediction t s);
}
levels-behind ds n tick t s f last level (next ∷ ring) (q ∷ qs) x y m some h before free stays new = record {
  levels = h.1;
  index = stays (behind-serial (length ring) t s free) ∙ (before ∙ split-behind (length ring) t s);
  run_ahead = let same : length ring ≡ suc (length ring) - 1 = omega arith in
      subst (λ k. RunAhead k None (prediction t s)) same (behind-rest (length ring) t s free);
}

pub first-is : (ds : List ℕ) (n tick : ℕ) (t : Option ℕ) (s : Machine) (f last : IssueState) (level : Level) (ring : List Level)
    (plans : List PlannedRow) (q : PlannedRow) → AreLevels ds n tick t s f last (level ∷ ring) plans → slice_get plans 0 ≡ Some q
    → IsLevel ds n tick t s f level q
unfolding AreLevels
first-is ds n tick t s f last level ring [] q h first = absurd h
first-is ds n tick t s f last level ring (r ∷ rs) q h first =
    let same : r ≡ q = cc first in subst (λ (p : PlannedRow). IsLevel ds n tick t s f level p) same h.0

-- the others have all words that have arrived
pub full-behind : (ds : List ℕ) (n tick : ℕ) (t : Option ℕ) (s : Machine) (f : IssueState) (level : Level) (ring : List Level)
    → AreFull ds n tick t s f (level ∷ ring) → AreFull ds n tick None (prediction t s) (issue_after_entry ds n f (entry t s)) ring
unfolding AreFull
full-behind ds n tick t s f level ring full = full.1
