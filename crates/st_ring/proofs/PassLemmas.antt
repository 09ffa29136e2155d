-- Levels of two states that differ only in indicators and orders.
use Rattle.st_ring.proofs.Common.{◌≡◌, ℕ, zero, suc, ◌+◌, ◌-◌, ◌<◌, ◌≤◌, Bool, true, false, not, ◌&&◌, ◌||◌, List, [], ◌∷◌, length, Option, None, Some, refl, sym, subst, ◌∙◌, ap, ap₂, arith, nat_lt, nat_le, if◌then◌else◌, ltb-true, Machine, IsMachine, word, Prepared, is_transmission, plan, IsPrepared, plan-prepared, prediction, row_of_entry, issue_after_entry, fills, Entry, IssueState, Level, entry, predictions, RunAhead, prediction-machine, LevelsView, IsLevel, AreLevels, AreAhead, AreFull, fill_tick, slot_of, IsKeptSlot, PlannedRow}
use Rattle.st_prep.specs.BesideOrders.{AreAlikeBesideOrders}
use Rattle.st_segment.proofs.PassedOver.{entry-same, plan-same, passed-over}

-- ---- slots

slot-same_if : (a b c : Bool) (x y : ℕ) → (b ≡ true → x ≡ y)
    → (if a && b && c then Some x else None) ≡ (if a && b && c then Some y else None)
slot-same_if false b c x y same = refl
slot-same_if true false c x y same = refl
slot-same_if true true true x y same = ap Some (same refl)
slot-same_if true true false x y same = refl

slot-same : (ticks : List ℕ) (p : Prepared) (s u : Machine) (tick k : ℕ) → IsPrepared p → p.serial ≡ false → AreAlikeBesideOrders s u
    → slot_of ticks p s tick k ≡ slot_of ticks p u tick k
unfolding slot_of
slot-same ticks p s u tick k h free alike =
    slot-same_if (not (is_transmission p.instr)) (nat_lt k p.reads.len)
    (nat_lt (p.reads.first + k) 32 || nat_le (fill_tick ticks p (p.reads.first + k)) tick) (word s (p.reads.first + k)) (word u (p.reads.first + k))
    (λ inside.
    let within : k < p.reads.len = ltb-true k p.reads.len inside in
    let above : 32 ≤ p.reads.first = (h.ahead free).reads.above (omega arith) in
    sym (alike.words (p.reads.first + k) (λ e. omega (arith, e))))

slot-moved : (ds : List ℕ) (n tick k : ℕ) (s u : Machine) (f : IssueState) → IsMachine s → AreAlikeBesideOrders s u → (plan s None).serial ≡ false
    → slot_of (fills ds n f (entry None s)) (plan s None) s tick k ≡ slot_of (fills ds n f (entry None u)) (plan u None) u tick k
slot-moved ds n tick k s u f m alike free =
    slot-same (fills ds n f (entry None s)) (plan s None) s u tick k (plan-prepared s None m tt) free alike
    ∙ ap₂ (λ (x : Entry) (p : Prepared). slot_of (fills ds n f x) p u tick k) (sym (entry-same None s u alike)) (sym (plan-same s u alike free))

-- ---- levels

level-same : (ds : List ℕ) (n tick : ℕ) (s u : Machine) (f : IssueState) (level : Level) (q : PlannedRow) → IsMachine s
    → AreAlikeBesideOrders s u → (plan s None).serial ≡ false → IsLevel ds n tick None s f level q → IsLevel ds n tick None u f level q
level-same ds n tick s u f level q m alike free h =
    let own = sym (plan-same s u alike free) in
    let e = sym (entry-same None s u alike) in
    record {
      prepared = h.prepared ∙ own;
      p = h.p ∙ ap (λ (x : Entry). (row_of_entry ds n f x).p) e;
      have = record {
        first = h.have.first;
        second = h.have.second;
        slots = h.have.slots;
        kept_first = subst (λ (there : Option ℕ). IsKeptSlot h.have.first there) (slot-moved ds n tick 0 s u f m alike free) h.have.kept_first;
        kept_second = subst (λ (there : Option ℕ). IsKeptSlot h.have.second there) (slot-moved ds n tick 1 s u f m alike free) h.have.kept_second;
      };
      issue = h.issue;
      r = h.r ∙ ap (λ (x : Entry). (row_of_entry ds n f x).r) e;
      c = h.c ∙ ap (λ (x : Entry). (row_of_entry ds n f x).c) e;
      fills = h.fills ∙ ap (λ (x : Entry). fills ds n f x) e;
    }

prediction-same : (s u : Machine) → IsMachine s → AreAlikeBesideOrders s u → (plan s None).serial ≡ false
    → AreAlikeBesideOrders (prediction None s) (prediction None u)
unfolding predictions RunAhead
prediction-same s u m alike free = (passed-over 1 s u m alike (free, tt)).1

levels-same : (ds : List ℕ) (n tick : ℕ) (s u : Machine) (f last : IssueState) (ring : List Level) (plans : List PlannedRow) → IsMachine s
    → AreAlikeBesideOrders s u → RunAhead (length ring) None s → AreLevels ds n tick None s f last ring plans
    → AreLevels ds n tick None u f last ring plans
unfolding AreLevels RunAhead
levels-same ds n tick s u f last [] [] m alike free h = h
levels-same ds n tick s u f last [] (q ∷ qs) m alike free h = absurd h
levels-same ds n tick s u f last (level ∷ levels) [] m alike free h = absurd h
levels-same ds n tick s u f last (level ∷ levels) (q ∷ qs) m alike free h =
    let P : Entry → Type 0 = λ x. AreLevels ds n tick None (prediction None u) (issue_after_entry ds n f x) last levels qs in (
      level-same ds n tick s u f level q m alike free.0 h.0,
      subst P (sym (entry-same None s u alike))
          (levels-same ds n tick (prediction None s) (prediction None u) (issue_after_entry ds n f (entry None s)) last levels qs (prediction-machine None s m tt)
          (prediction-same s u m alike free.0) free.1 h.1),
    )

-- the levels have all words that have arrived
pub full-same : (ds : List ℕ) (n tick : ℕ) (s u : Machine) (f : IssueState) (ring : List Level) → IsMachine s
    → AreAlikeBesideOrders s u → RunAhead (length ring) None s → AreFull ds n tick None s f ring → AreFull ds n tick None u f ring
unfolding AreFull RunAhead
full-same ds n tick s u f [] m alike free full = tt
full-same ds n tick s u f (level ∷ levels) m alike free full =
    let P : Entry → Type 0 = λ x. AreFull ds n tick None (prediction None u) (issue_after_entry ds n f x) levels in (
      full.0 ∙ ap₂ (λ (x y : Option ℕ). x ∷ y ∷ []) (slot-moved ds n tick 0 s u f m alike free.0) (slot-moved ds n tick 1 s u f m alike free.0),
      subst P (sym (entry-same None s u alike))
          (full-same ds n tick (prediction None s) (prediction None u) (issue_after_entry ds n f (entry None s)) levels (prediction-machine None s m tt)
          (prediction-same s u m alike free.0) free.1 full.1),
    )

-- if none of k + 1 entries is serializing, none of the first k is
fewer-ahead : (k : ℕ) (t : Option ℕ) (s : Machine) → RunAhead (suc k) t s → RunAhead k t s
unfolding RunAhead
fewer-ahead zero t s free = tt
fewer-ahead (suc k) t s free = (free.0, fewer-ahead k None (prediction t s) free.1)

less-ahead : (k : ℕ) (t : Option ℕ) (s : Machine) → RunAhead k t s → RunAhead (k - 1) t s
less-ahead zero t s free = free
less-ahead (suc k) t s free = let same : k ≡ suc k - 1 = omega arith in subst (λ i. RunAhead i t s) same (fewer-ahead k t s free)

pub ahead-same : (ds : List ℕ) (n tick : ℕ) (s u : Machine) (f last : IssueState) (v : LevelsView) → IsMachine s
    → AreAlikeBesideOrders s u → RunAhead (length v.ring) None s → AreAhead ds n tick None s f last v
    → AreAhead ds n tick None u f last v
ahead-same ds n tick s u f last v m alike free h =
    let all = passed-over (length v.ring) s u m alike free in
    record {
      levels = levels-same ds n tick s u f last v.ring v.plans m alike free h.levels;
      index = h.index ∙ sym all.2;
      run_ahead = less-ahead (length v.ring) None u all.0;
    }
