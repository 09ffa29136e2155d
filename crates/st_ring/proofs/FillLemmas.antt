-- Operand words that have arrived by a tick: the state has their contents from before the step of their entry.
use Rattle.st_ring.proofs.Common.{◌≡◌, ℕ, zero, suc, ◌+◌, ◌-◌, ◌<◌, ◌≤◌, Bool, true, false, not, ◌&&◌, ◌||◌, List, [], ◌∷◌, length, get_or, take, All, Option, None, Some, ◌⊎◌, inl, inr, refl, sym, subst, ◌∙◌, ap, ap₂, arith, IfSome, nat_lt, nat_le, if◌then◌else◌, slice_get, slice_set, slice_index_or, ltb-true, ltb-false, leb-true, leb-false, lt-ltb, le-ltb, le-leb, and_parts, All-head, All-tail, All-cons, Machine, IsMachine, word, Prepared, is_transmission, plan, IsPrepared, plan-prepared, prediction, is_among, latest_done, AreDelaysUpTo, row_of_entry, issue_after_entry, tick_p, bus_a, read_word, fill_at, fills_of, fills, is_forwarded, IssueState, Past, Level, entry, above_registers, words_to_read, predictions, RunAhead, is_word_written, prediction-machine, have_of, IsLevel, AreLevels, AreFull, fill_tick, is_there, slot_of, IsKeptSlot, put_of, coming, came_at, level_with_slot, level_with_words, PlannedRow}
use Rattle.st_rows.specs.BusTimes.{accept_at, answer_at, answer_if}
use Rattle.st_rows.specs.declared.bus.Bus.{Bus}
use Rattle.st_rows.specs.declared.entry.WordRun.{WordRun}
use Rattle.st_rows.proofs.Within.{delay-bounds}
use Rattle.st_segment.proofs.RestLemmas.{storage-kept}
use Rattle.st_ring.proofs.WriterLemmas.{take-latest, not-latest}

-- ---- no word arrives before its latest writer completes

module _ (most : ℕ) (ds : List ℕ) (are : AreDelaysUpTo most ds) (past : List Past) where
  behind_if : (late : Bool) (b : Bus) (w p : ℕ) → (late ≡ false → latest_done past w ≤ p)
      → latest_done past w ≤ answer_if ds b w p (if late then Some (latest_done past w) else None)
  behind_if true b w p early = omega arith
  behind_if false b w p early = omega (arith, delay-bounds most ds (accept_at b w p) are, early refl)

  behind-writer : (b : Bus) (w p : ℕ) → latest_done past w ≤ fill_at ds past b w p
  behind-writer b w p = behind_if (is_forwarded past w p) b w p (λ early. ltb-false p (latest_done past w) early)

  pub fills-behind : (b : Bus) (r : WordRun) (p i : ℕ) → i < 2 → i < r.len
      → latest_done past (r.first + i) ≤ get_or (fills_of ds past b r p) i 0
  unfolding fills_of
  fills-behind b r p zero few inside =
      let same : r.first + 0 ≡ r.first = omega arith in
      rw (lt-ltb 0 r.len inside, same) (behind-writer b r.first p)
  fills-behind b r p (suc zero) few inside =
      rw (lt-ltb 1 r.len inside) (behind-writer (read_word ds past (record { bus = b; answered = p; awaited = 0 }) r.first p).bus (r.first + 1) p)
  fills-behind b r p (suc (suc i)) few inside = absurd (omega arith)

-- the first run of operand words of an entry
run-is : (t : Option ℕ) (s : Machine) → (entry t s).reads.one ≡ above_registers (plan s t).reads.first (plan s t).reads.len
unfolding entry words_to_read
run-is t s = refl

module _ (ds : List ℕ) (n most : ℕ) (t : Option ℕ) (s : Machine) (f : IssueState) (are : AreDelaysUpTo most ds) where
  latest-at : (i : ℕ) → i < 2 → i < (entry t s).reads.one.len
      → latest_done f.past ((entry t s).reads.one.first + i) ≤ get_or (fills ds n f (entry t s)) i 0
  latest-at i few inside =
      fills-behind most ds are f.past (bus_a ds f (entry t s)) (entry t s).reads.one (tick_p ds n f (entry t s)) i few inside

  latest-by : (b : Bool) (first len k : ℕ) (ticks : List ℕ) → nat_le 32 first ≡ b → k < len → k < 2 → 32 ≤ first + k
      → (let r : WordRun = if b then record { first = first; len = len } else record { first = 32; len = len - (32 - first) } in
      (i : ℕ) → i < 2 → i < r.len → latest_done f.past (r.first + i) ≤ get_or ticks i 0)
      → latest_done f.past (first + k) ≤ (if b then get_or ticks (first + k - first) 0 else get_or ticks (first + k - 32) 0)
  latest-by true first len k ticks e inside few above late =
      let same : first + k - first ≡ k = omega arith in
      rw same (late k few inside)
  latest-by false first len k ticks e inside few above late =
      let low : first < 32 = leb-false 32 first e in
      let same : 32 + (first + k - 32) ≡ first + k = omega arith in
      subst (λ w. latest_done f.past w ≤ get_or ticks (first + k - 32) 0) same (late (first + k - 32) (omega arith) (omega arith))

  pub latest-early : (k : ℕ) → k < (plan s t).reads.len → k < 2 → 32 ≤ (plan s t).reads.first + k
      → latest_done f.past ((plan s t).reads.first + k) ≤ fill_tick (fills ds n f (entry t s)) (plan s t) ((plan s t).reads.first + k)
  unfolding above_registers
  latest-early k inside few above =
      latest-by (nat_le 32 (plan s t).reads.first) (plan s t).reads.first (plan s t).reads.len k
      (fills ds n f (entry t s)) refl inside few above
      (λ i low within. subst (λ (r : WordRun). latest_done f.past (r.first + i) ≤ get_or (fills ds n f (entry t s)) i 0) (run-is t s)
      (latest-at i low (subst (λ (r : WordRun). i < r.len) (sym (run-is t s)) within)))

-- ---- a slot by a tick

later-by : (a b c d e : Bool) (x w : ℕ) → (d ≡ true → e ≡ true) → (if not a && b && (c || d) then Some x else None) ≡ Some w
    → (if not a && b && (c || e) then Some x else None) ≡ Some w
later-by true b c d e x w more is = absurd (cc is)
later-by false false c d e x w more is = absurd (cc is)
later-by false true true d e x w more is = is
later-by false true false true e x w more is = rw (more refl) is
later-by false true false false e x w more is = absurd (cc is)

-- a word that has arrived in a slot stays in it
pub slot-later : (ticks : List ℕ) (p : Prepared) (s : Machine) (tick later k w : ℕ) → tick ≤ later → slot_of ticks p s tick k ≡ Some w
    → slot_of ticks p s later k ≡ Some w
unfolding slot_of
slot-later ticks p s tick later k w behind is =
    let at = fill_tick ticks p (p.reads.first + k) in
    later-by (is_transmission p.instr) (nat_lt k p.reads.len) (nat_lt (p.reads.first + k) 32) (nat_le at tick) (nat_le at later) (word s (p.reads.first + k)) w
    (λ early. le-leb at later (omega (arith, behind, leb-true at tick early))) is

pub kept-later : (ticks : List ℕ) (p : Prepared) (s : Machine) (tick later k : ℕ) (x : Option ℕ) → tick ≤ later → IsKeptSlot x (slot_of ticks p s tick k)
    → IsKeptSlot x (slot_of ticks p s later k)
kept-later ticks p s tick later k None behind is = tt
kept-later ticks p s tick later k (Some w) behind is = slot-later ticks p s tick later k w behind is

kept-there : (there : Option ℕ) → IsKeptSlot there there
kept-there None = tt
kept-there (Some w) = refl

same-by : (a b c : Bool) (x y : ℕ) → ((not a && b && c) ≡ true → x ≡ y)
    → (if not a && b && c then Some x else None) ≡ (if not a && b && c then Some y else None)
same-by true b c x y same = refl
same-by false false c x y same = refl
same-by false true false x y same = refl
same-by false true true x y same = ap Some (same refl)

-- a slot is equal in two states that agree in its word once the word has arrived
slot-same : (ticks : List ℕ) (p : Prepared) (m u : Machine) (tick k : ℕ)
    → ((not (is_transmission p.instr) && nat_lt k p.reads.len && is_there ticks p tick (p.reads.first + k)) ≡ true
    → word m (p.reads.first + k) ≡ word u (p.reads.first + k))
    → slot_of ticks p m tick k ≡ slot_of ticks p u tick k
unfolding slot_of
slot-same ticks p m u tick k same =
    same-by (is_transmission p.instr) (nat_lt k p.reads.len) (is_there ticks p tick (p.reads.first + k)) (word m (p.reads.first + k)) (word u (p.reads.first + k)) same

-- the content of a slot after a word, if there is one, is put into it
abbrev or_put : Option ℕ → Option ℕ → Option ℕ
or_put x None = x
or_put x (Some w) = Some w

-- a filled slot has the word that has arrived
slot-filled : (ticks : List ℕ) (p : Prepared) (m u : Machine) (tick now k : ℕ) (x : Option ℕ) → tick ≤ now → IsKeptSlot x (slot_of ticks p u tick k)
    → slot_of ticks p m now k ≡ slot_of ticks p u now k → or_put x (put_of x (slot_of ticks p m now k)) ≡ slot_of ticks p u now k
slot-filled ticks p m u tick now k (Some w) behind is same = sym (slot-later ticks p u tick now k w behind is)
slot-filled ticks p m u tick now k None behind is same = none-put (slot_of ticks p m now k) ∙ same
  where
    none-put : (there : Option ℕ) → or_put None there ≡ there
    none-put None = refl
    none-put (Some w) = refl

have-with : (level : Level) (x y a b : Option ℕ) (i j : ℕ) → level.have ≡ x ∷ y ∷ []
    → (level_with_slot (level_with_slot level 0 a i) 1 b j).have ≡ or_put x a ∷ or_put y b ∷ []
have-with level x y None None i j e = e
have-with level x y (Some v) None i j e = ap (λ (h : List (Option ℕ)). slice_set h 0 (Some v)) e
have-with level x y None (Some w) i j e = ap (λ (h : List (Option ℕ)). slice_set h 1 (Some w)) e
have-with level x y (Some v) (Some w) i j e = ap (λ (h : List (Option ℕ)). slice_set (slice_set h 0 (Some v)) 1 (Some w)) e

prepared-with : (level : Level) (a b : Option ℕ) (i j : ℕ) → (level_with_slot (level_with_slot level 0 a i) 1 b j).prepared ≡ level.prepared
prepared-with level None None i j = refl
prepared-with level (Some v) None i j = refl
prepared-with level None (Some w) i j = refl
prepared-with level (Some v) (Some w) i j = refl

p-with : (level : Level) (a b : Option ℕ) (i j : ℕ) → (level_with_slot (level_with_slot level 0 a i) 1 b j).p ≡ level.p
p-with level None None i j = refl
p-with level (Some v) None i j = refl
p-with level None (Some w) i j = refl
p-with level (Some v) (Some w) i j = refl

-- an entry without such an operand word gets no word
none-by : (a b c : Bool) (x : ℕ) → b ≡ false → (if not a && b && c then Some x else None) ≡ None
none-by true b c x e = refl
none-by false true c x e = absurd (cc e)
none-by false false c x e = refl

pub nothing-put : (x : Option ℕ) (ticks : List ℕ) (p : Prepared) (m : Machine) (now k : ℕ) → p.reads.len ≤ k → None ≡ put_of x (slot_of ticks p m now k)
unfolding slot_of
nothing-put (Some w) ticks p m now k behind = refl
nothing-put None ticks p m now k behind =
    sym (none-by (is_transmission p.instr) (nat_lt k p.reads.len) (is_there ticks p now (p.reads.first + k)) (word m (p.reads.first + k)) (le-ltb k p.reads.len behind))

-- ---- levels by a tick

-- two states agree in each word whose latest writer in `past` has completed
abbrev pub Agrees : ℕ → Machine → List Past → Machine → Type 0
Agrees now m past u = (w : ℕ) → 32 ≤ w → latest_done past w ≤ now → word m w ≡ word u w

-- the state m has the registers of the predicted state before each serializing entry of the next k
unfoldable pub HasLow : ℕ → Machine → Option ℕ → Machine → Type 0
HasLow zero m t u = Unit {0}
HasLow (suc k) m t u = ((plan u t).serial ≡ true → (w : ℕ) → w < 32 → word m w ≡ word u w) × HasLow k m None (prediction t u)

pub low-free : (k : ℕ) (m : Machine) (t : Option ℕ) (u : Machine) → RunAhead k t u → HasLow k m t u
unfolding RunAhead HasLow
low-free zero m t u free = tt
low-free (suc k) m t u free = ((λ alone. absurd (cc (alone, free.0))), low-free k m None (prediction t u) free.1)

pub low-first : (m : Machine) (t : Option ℕ) (u : Machine) → ((w : ℕ) → word m w ≡ word u w) → HasLow 1 m t u
unfolding HasLow
low-first m t u same = ((λ alone w low. same w), tt)

prediction-leaves : (t : Option ℕ) (s : Machine) (w : ℕ) → IsMachine s → IfSome t (λ i. i < 64) → 32 ≤ w
    → is_among w (entry t s).writes ≡ false → word (prediction t s) w ≡ word s w
unfolding predictions is_word_written
prediction-leaves t s w m some above h = storage-kept 1 t s w m some above (ap (λ b. b || false) h)

-- a register that a serializing entry reads
register-there : (b : Bool) (p : Prepared) (m u : Machine) (w k : ℕ) → p.serial ≡ b → IsPrepared p → (p.serial ≡ true → (w : ℕ) → w < 32 → word m w ≡ word u w)
    → k < p.reads.len → w ≡ p.reads.first + k → w < 32 → word m w ≡ word u w
register-there true p m u w k e h same inside place low = same e w low
register-there false p m u w k e h same inside place low =
    let above : 32 ≤ p.reads.first = (h.ahead e).reads.above (omega arith) in absurd (omega arith)

there-by : (b : Bool) (w : ℕ) (ticks : List ℕ) (p : Prepared) (now : ℕ) → nat_lt w 32 ≡ b → (nat_lt w 32 || nat_le (fill_tick ticks p w) now) ≡ true
    → (w < 32) ⊎ ((32 ≤ w) × (fill_tick ticks p w ≤ now))
there-by true w ticks p now e there = inl (ltb-true w 32 e)
there-by false w ticks p now e there = inr (ltb-false w 32 e, leb-true (fill_tick ticks p w) now (sym (ap (λ b. b || nat_le (fill_tick ticks p w) now) e) ∙ there))

module _ (ds : List ℕ) (n tick now most : ℕ) (m : Machine) (are : AreDelaysUpTo most ds) (behind : tick ≤ now) where
  word-there : (j k : ℕ) (t : Option ℕ) (u : Machine) (f : IssueState) → IsMachine u → IfSome t (λ i. i < 64) → Agrees now m (take j f.past) u
      → ((plan u t).serial ≡ true → (w : ℕ) → w < 32 → word m w ≡ word u w) → k < 2
      → (not (is_transmission (plan u t).instr) && nat_lt k (plan u t).reads.len && is_there (fills ds n f (entry t u)) (plan u t) now ((plan u t).reads.first + k)) ≡ true
      → word m ((plan u t).reads.first + k) ≡ word u ((plan u t).reads.first + k)
  word-there j k t u f machine some agrees low few there =
      let w = (plan u t).reads.first + k in
      let ticks = fills ds n f (entry t u) in
      let last = and_parts _ _ there in
      let second = and_parts _ _ last.0 in
      let inside = ltb-true k (plan u t).reads.len second.1 in
      elim (there-by (nat_lt w 32) w ticks (plan u t) now refl last.1) [
        | inl register ↦ register-there (plan u t).serial (plan u t) m u w k refl (plan-prepared u t machine some) low inside refl register
        | inr word_by ↦
            let early : latest_done f.past w ≤ fill_tick ticks (plan u t) w = latest-early ds n most t u f are k inside few word_by.0 in
            let due : latest_done f.past w ≤ now = omega (arith, early, word_by.1) in
            agrees w word_by.0 (take-latest j f.past w now due)
      ]

  have-filled : (j : ℕ) (t : Option ℕ) (u : Machine) (f : IssueState) (level : Level) (q : PlannedRow) → IsMachine u → IfSome t (λ i. i < 64)
      → Agrees now m (take j f.past) u → ((plan u t).serial ≡ true → (w : ℕ) → w < 32 → word m w ≡ word u w)
      → IsLevel ds n tick t u f level q → (level_with_words q.fills m now level).have ≡ have_of ds n now t u f
  have-filled j t u f level q machine some agrees low h =
      let ticks = fills ds n f (entry t u) in
      let p = plan u t in
      let x = h.have.first in
      let y = h.have.second in
      have-with level x y (coming q.fills level m now 0) (coming q.fills level m now 1) (came_at q.fills level 0) (came_at q.fills level 1) h.have.slots
      ∙ ap (λ (have : List (Option ℕ)). or_put x (put_of (slice_index_or have 0 None) (slot_of q.fills level.prepared m now 0))
      ∷ or_put y (put_of (slice_index_or have 1 None) (slot_of q.fills level.prepared m now 1)) ∷ []) h.have.slots
      ∙ ap₂ (λ (c : List ℕ) (o : Prepared). or_put x (put_of x (slot_of c o m now 0)) ∷ or_put y (put_of y (slot_of c o m now 1)) ∷ []) h.fills h.prepared
      ∙ ap₂ (λ (c d : Option ℕ). c ∷ d ∷ [])
      (slot-filled ticks p m u tick now 0 x behind h.have.kept_first (slot-same ticks p m u now 0 (word-there j 0 t u f machine some agrees low (omega arith))))
      (slot-filled ticks p m u tick now 1 y behind h.have.kept_second (slot-same ticks p m u now 1 (word-there j 1 t u f machine some agrees low (omega arith))))

  level-filled : (t : Option ℕ) (u : Machine) (f : IssueState) (level : Level) (q : PlannedRow)
      → (level_with_words q.fills m now level).have ≡ have_of ds n now t u f
      → IsLevel ds n tick t u f level q → IsLevel ds n now t u f (level_with_words q.fills m now level) q
  level-filled t u f level q full h =
      let a = coming q.fills level m now 0 in
      let b = coming q.fills level m now 1 in
      let i = came_at q.fills level 0 in
      let j = came_at q.fills level 1 in
      record {
        prepared = prepared-with level a b i j ∙ h.prepared;
        p = p-with level a b i j ∙ h.p;
        have = record { first = _; second = _; slots = full; kept_first = kept-there _; kept_second = kept-there _ };
        issue = h.issue;
        r = h.r;
        c = h.c;
        fills = h.fills;
      }

  agrees-next : (j : ℕ) (t : Option ℕ) (u : Machine) (f : IssueState) → IsMachine u → IfSome t (λ i. i < 64) → j ≤ 7
      → now < (row_of_entry ds n f (entry t u)).c → Agrees now m (take j f.past) u
      → Agrees now m (take (suc j) (issue_after_entry ds n f (entry t u)).past) (prediction t u)
  agrees-next j t u f machine some few late agrees = λ w above early.
      let both = not-latest ds n j now w t u f few late early in
      agrees w above both.1 ∙ sym (prediction-leaves t u w machine some above both.0)

  pub levels-filled : (j : ℕ) (t : Option ℕ) (u : Machine) (f last : IssueState) (ring : List Level) (plans : List PlannedRow) (new : List Level)
      → IsMachine u → IfSome t (λ i. i < 64) → AreLevels ds n tick t u f last ring plans → All (λ q. now < q.c) plans
      → j + length ring ≤ 8 → Agrees now m (take j f.past) u → HasLow (length ring) m t u
      → ((k : ℕ) (level : Level) (q : PlannedRow) → slice_get ring k ≡ Some level → slice_get plans k ≡ Some q
      → slice_get new k ≡ Some (level_with_words q.fills m now level))
      → length new ≡ length ring → AreLevels ds n now t u f last new plans × AreFull ds n now t u f new
  unfolding AreLevels AreFull HasLow
  levels-filled j t u f last [] [] [] machine some h each room agrees low same len = (h, tt)
  levels-filled j t u f last [] [] (x ∷ new) machine some h each room agrees low same len = absurd (omega arith)
  levels-filled j t u f last [] (q ∷ qs) new machine some h each room agrees low same len = absurd h
  levels-filled j t u f last (level ∷ levels) [] new machine some h each room agrees low same len = absurd h
  levels-filled j t u f last (level ∷ levels) (q ∷ qs) [] machine some h each room agrees low same len = absurd (omega arith)
  levels-filled j t u f last (level ∷ levels) (q ∷ qs) (x ∷ new) machine some h each room agrees low same len =
      let first : x ≡ level_with_words q.fills m now level = cc (same 0 level q refl refl) in
      let open_c : now < q.c = All-head (λ (r : PlannedRow). now < r.c) q qs each in
      let done : q.c ≡ (row_of_entry ds n f (entry t u)).c = h.0.c in
      let late : now < (row_of_entry ds n f (entry t u)).c = omega arith in
      let full = have-filled j t u f level q machine some agrees low.0 h.0 in
      let rest = levels-filled (suc j) None (prediction t u) (issue_after_entry ds n f (entry t u)) last levels qs new (prediction-machine t u machine some) tt h.1
      (All-tail (λ (r : PlannedRow). now < r.c) q qs each) (omega arith)
      (agrees-next j t u f machine some (omega arith) late agrees) low.1 (λ k. same (suc k)) (omega arith) in (
        (subst (λ (y : Level). IsLevel ds n now t u f y q) (sym first) (level-filled t u f level q full h.0), rest.0),
        (ap (λ (y : Level). y.have) first ∙ full, rest.1),
      )

low-none : (m : Machine) (t : Option ℕ) (u : Machine) → HasLow 0 m t u
unfolding HasLow
low-none m t u = tt

-- only a single level may be serializing and read registers, which are those of the state
pub low-by : (k : ℕ) (m : Machine) (t : Option ℕ) (u : Machine) → ((w : ℕ) → word m w ≡ word u w) → (2 ≤ k → RunAhead k t u) → HasLow k m t u
low-by zero m t u same ahead = low-none m t u
low-by (suc zero) m t u same ahead = low-first m t u same
low-by (suc (suc k)) m t u same ahead = low-free (suc (suc k)) m t u (ahead (omega arith))

-- ---- the invariant

abbrev pub IsReady : Level → Type 0
IsReady level = IsPrepared level.prepared

pub all-next : (m : Machine) (now : ℕ) (ring : List Level) (plans : List PlannedRow) (new : List Level) → All IsReady ring
    → length plans ≡ length ring → length new ≡ length ring
    → ((k : ℕ) (level : Level) (q : PlannedRow) → slice_get ring k ≡ Some level → slice_get plans k ≡ Some q
    → slice_get new k ≡ Some (level_with_words q.fills m now level)) → All IsReady new
all-next m now [] plans [] each beside len same = each
all-next m now [] plans (x ∷ new) each beside len same = absurd (omega arith)
all-next m now (level ∷ levels) [] new each beside len same = absurd (omega arith)
all-next m now (level ∷ levels) (q ∷ qs) [] each beside len same = absurd (omega arith)
all-next m now (level ∷ levels) (q ∷ qs) (x ∷ new) each beside len same =
    let first : x ≡ level_with_words q.fills m now level = cc (same 0 level q refl refl) in
    let form : x.prepared ≡ level.prepared = ap (λ (y : Level). y.prepared) first ∙ prepared-with level _ _ _ _ in
    All-cons IsReady x new (subst (λ (p : Prepared). IsPrepared p) (sym form) (All-head IsReady level levels each))
    (all-next m now levels qs new (All-tail IsReady level levels each) (omega arith) (omega arith) (λ k. same (suc k)))
