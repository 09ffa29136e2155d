-- The state after a non-serializing entry, and the entries that can be mispredicted.
use Rattle.st_exec.proofs.Common.{◌≡◌, ◌≢◌, ℕ, ◌+◌, ◌^◌, ◌<◌, ◌≤◌, ◌⊎◌, inl, inr, Bool, true, false, not, ◌&&◌, if◌then◌else◌, Option, None, Some, List, length, refl, sym, ◌∙◌, ap, subst, arith, get_or, get_or-set_other, drop, IfSome, set, length-set, get_or-set_same, length-take, length-drop, get_or-take, get_or-drop, leb_tells, eqb_tells, register_word, words_of_storage, words_of_storage_is, fixed-index, Instr, Half, Branch, Floating, Vfl, Connect, Move, BitBranch, IndBranch, StoreCounter, Transfer, Invalid, Machine, IsMachine, word, state_with_store, fixed-word, IndexChange, Words, Prepared, words_after, is_serial_operation, index_words, state_at_entry, IsChange, AreAbove, IsPrepared, are_index_words, effect, carried_out, with_change, state_with_speculative_changes, is_taken, counter, state_counted_on, state_after_effect, state_after_completion, predicted_state, is_mispredicted, IsNotAmong, IsPast, is_indicator_branch}
use Rattle.st_exec.proofs.Unchanged.{stored-other, early-above, early-done, done-done}
use Rattle.st_exec.proofs.SparedLemmas.{HasMarks, marks-same, marks-then, marks-words, marks-done, quiet-effect, spares-effect, IsKept, kept-below, kept-above, kept-mask, Stands, done-keeps}

-- ---- the speculative change

pub change-marks : (c : Option IndexChange) (s : Machine) → HasMarks s (with_change c s)
change-marks None s = marks-same s
change-marks (Some c) s = marks-words s _ (length-set s.words (16 + c.number) (register_word (16 + c.number) c.word))

pub speculative-marks : (p : Prepared) (s : Machine) → HasMarks s (state_with_speculative_changes p s)
unfolding state_with_speculative_changes
speculative-marks p s =
    let u = with_change p.index s in
    marks-then s u (state_with_speculative_changes p s) (change-marks p.index s) (marks-words u _ (length-set u.words 11 _))

pub change-low : (c : Option IndexChange) (s : Machine) (i : ℕ) → i < 16 → word (with_change c s) i ≡ word s i
change-low None s i h = refl
change-low (Some c) s i h = stored-other s (16 + c.number) c.word i (omega arith)

early-low : (p : Prepared) (s : Machine) (i : ℕ) → i < 16 → i ≢ 11 → word (state_with_speculative_changes p s) i ≡ word s i
unfolding state_with_speculative_changes
early-low p s i h other =
    get_or-set_other (with_change p.index s).words 11 i _ 0 other ∙ change-low p.index s i h

-- the list of index words has word 16 + k of the state in place k
pub index-at : (s : Machine) (k : ℕ) → k < 16 → get_or (index_words s) k 0 ≡ word s (16 + k)
unfolding index_words
index-at s k h = get_or-take 16 (drop 16 s.words) k 0 h ∙ get_or-drop 16 s.words k 0

pub length-index_words : (s : Machine) → 32 ≤ length s.words → length (index_words s) ≡ 16
unfolding index_words
length-index_words s long = omega (arith, length-take 16 (drop 16 s.words), length-drop 16 s.words)

pub length-words_after : (x : List ℕ) (c : Option IndexChange) → length (words_after x c) ≡ length x
length-words_after x None = refl
length-words_after x (Some c) = length-set x c.number c.word

change-index : (c : Option IndexChange) (s : Machine) (k : ℕ) → 32 ≤ length s.words → k < 16 → IfSome c IsChange
    → word (with_change c s) (16 + k) ≡ get_or (words_after (index_words s) c) k 0
change-index None s k long few h = sym (index-at s k few)
change-index (Some c) s k long few h =
    let x = index_words s in
    let place : c.number < 16 = h.number in
    let size : length x ≡ 16 = length-index_words s long in
    elim (eqb_tells k c.number) [
      | inl p ↦
          let same : k ≡ c.number = p.1 in
          ap (λ j. word (state_with_store s (16 + c.number) c.word) (16 + j)) same
          ∙ get_or-set_same s.words (16 + c.number) (register_word (16 + c.number) c.word) 0 (omega arith)
          ∙ fixed-index (16 + c.number) c.word (omega arith)
          ∙ sym (get_or-set_same x c.number c.word 0 (omega arith))
          ∙ ap (λ j. get_or (set x c.number c.word) j 0) (sym same)
      | inr q ↦
          let other : k ≢ c.number = q.1 in
          stored-other s (16 + c.number) c.word (16 + k) (λ e. other (omega arith))
          ∙ sym (index-at s k few)
          ∙ sym (get_or-set_other x c.number k c.word 0 other)
    ]

pub speculative-index : (p : Prepared) (s : Machine) (k : ℕ) → 32 ≤ length s.words → k < 16 → IfSome p.index IsChange
    → word (state_with_speculative_changes p s) (16 + k) ≡ get_or (words_after (index_words s) p.index) k 0
unfolding state_with_speculative_changes
speculative-index p s k long few h =
    get_or-set_other (with_change p.index s).words 11 (16 + k) _ 0 (omega arith) ∙ change-index p.index s k long few h

index-below : (c : Option IndexChange) (s : Machine) (k : ℕ) → IsMachine s → k < 16 → IfSome c IsChange
    → get_or (words_after (index_words s) c) k 0 < 2 ^ 64
index-below None s k m few h = subst (λ y. y < 2 ^ 64) (sym (index-at s k few)) (m.below (16 + k))
index-below (Some c) s k m few h =
    let x = index_words s in
    let long : 32 ≤ length s.words = omega (arith, m.size, words_of_storage_is) in
    elim (eqb_tells k c.number) [
      | inl p ↦
          let same : k ≡ c.number = p.1 in
          let place : c.number < length x = omega (arith, length-index_words s long, h.number) in
          subst (λ y. y < 2 ^ 64)
          (sym (ap (λ j. get_or (set x c.number c.word) j 0) same ∙ get_or-set_same x c.number c.word 0 place)) h.word
      | inr q ↦
          subst (λ y. y < 2 ^ 64)
          (sym (get_or-set_other x c.number k c.word 0 q.1 ∙ index-at s k few)) (m.below (16 + k))
    ]

-- ---- the words of a state after the speculative change, by address

stands-low : (p : Prepared) (s : Machine) (i : ℕ) → IsMachine s → i < 16 → i ≢ 11 → Stands (state_with_speculative_changes p s) i (word s i)
stands-low p s i m h other =
    record { is = early-low p s i h other; below = m.below i; fits = fixed-word s i m }

stands-above : (p : Prepared) (s : Machine) (i : ℕ) → IsMachine s → IfSome p.index IsChange → 32 ≤ i
    → Stands (state_with_speculative_changes p s) i (word s i)
stands-above p s i m h above =
    record { is = early-above p s i h above; below = m.below i; fits = fixed-word s i m }

stands-index : (p : Prepared) (s : Machine) (k : ℕ) → IsMachine s → IfSome p.index IsChange → k < 16
    → Stands (state_with_speculative_changes p s) (16 + k) (get_or (words_after (index_words s) p.index) k 0)
stands-index p s k m h few = record {
  is = speculative-index p s k (omega (arith, m.size, words_of_storage_is)) few h;
  below = index-below p.index s k m few h;
  fits = fixed-index (16 + k) (get_or (words_after (index_words s) p.index) k 0) (omega arith);
}

-- ---- the effect of a non-serializing entry

-- the state u after the effect of entry p, or without it if p is suppressed
pub record Late (p : Prepared) (t u : Machine) : Type 0 where
  pub marks : HasMarks t u
  pub done : u.done ≡ t.done
  pub words : (i x : ℕ) → IsKept i → IsNotAmong i p.writes → Stands t i x → word u i ≡ x

-- the state between the speculative change and the update of the counter
abbrev pub late : Bool → Prepared → Machine → Machine
late true p t = t
late false p t = carried_out (effect p t) t

late-kept : (b : Bool) (p : Prepared) (t : Machine) → p.suppressed ≡ b → IsPrepared p → p.serial ≡ false
    → length t.words ≡ words_of_storage → Late p t (late b p t)
late-kept true p t e h free size =
    record { marks = marks-same t; done = refl; words = λ i x kept apart stands. stands.is }
late-kept false p t e h free size =
    let entry = h.entry e in
    let hazard_free : is_serial_operation p.instr ≡ false = (h.ahead free).operation e in
    record {
      marks = marks-done (effect p t) t (quiet-effect p.instr p.e p.value t hazard_free);
      done = done-done (effect p t) t;
      words = λ i x kept apart stands.
          done-keeps (effect p t) t i x size kept
          (spares-effect p.instr p.e p.value t i h.shape hazard_free (rw entry.writes at h.writes_inside) (rw entry.writes at apart))
          stands;
    }

finished-late : (b : Bool) (p : Prepared) (t : Machine)
    → (if b then state_counted_on t p.following else state_counted_on (carried_out (effect p t) t) (counter p t))
    ≡ state_counted_on (late b p t) (if b then p.following else counter p t)
finished-late true p t = refl
finished-late false p t = refl

pub completed-late : (p : Prepared) (s : Machine) → p.place.table ≡ None
    → state_after_completion p s ≡ state_counted_on (late p.suppressed p (state_with_speculative_changes p s)) (if p.suppressed then p.following else counter p (state_with_speculative_changes p s))
unfolding state_after_completion state_after_effect
completed-late p s e =
    ap (λ table. state_after_effect p (state_with_speculative_changes p (state_at_entry table s))) e ∙ finished-late p.suppressed p (state_with_speculative_changes p s)

-- ---- the whole entry

-- a register is not in a range of words above the registers
apart-low : (first len i : ℕ) → (1 ≤ len → 32 ≤ first) → i < 32 → (i < first) ⊎ (first + len ≤ i)
apart-low first len i above low =
    elim (leb_tells 1 len) [
      | inl p ↦ let there : 32 ≤ first = above p.1 in inl (omega arith)
      | inr q ↦
          let none : len < 1 = q.1 in
          elim (leb_tells first i) [
            | inl r ↦ let before : first ≤ i = r.1 in inr (omega arith)
            | inr r ↦ inl r.1
          ]
    ]

above-apart : (w : Words) (i : ℕ) → AreAbove w → i < 32 → IsNotAmong i w
above-apart w i h low =
    record { first = apart-low w.first w.len i h.above low; second = apart-low w.first2 w.len2 i h.above2 low }

-- the state after the update of the counter satisfies `IsPast`
past : (p : Prepared) (s u : Machine) (c : ℕ) → IsMachine s → IsPrepared p → p.serial ≡ false → Late p (state_with_speculative_changes p s) u
    → IsPast p s (state_counted_on u c)
past p s u c m h free k =
    let size : length s.words ≡ words_of_storage = m.size in
    let long : 32 ≤ length s.words = omega (arith, words_of_storage_is) in
    let marks = marks-then s (state_with_speculative_changes p s) u (speculative-marks p s) k.marks in
    let above : AreAbove p.writes = (h.ahead free).writes in
    let x = words_after (index_words s) p.index in
    let low : (i : ℕ) → i < 7 → word u i ≡ word s i =
    λ i few.
    k.words i (word s i) (kept-below i few) (above-apart p.writes i above (omega arith))
    (stands-low p s i m (omega arith) (omega arith)) in
    let index : (j : ℕ) → j < 16 → get_or x j 0 ≡ word u (16 + j) =
    λ j few.
    sym
    (k.words (16 + j) (get_or x j 0) (kept-above (16 + j) (omega arith))
    (above-apart p.writes (16 + j) above (omega arith)) (stands-index p s j m h.change few)) in
    record {
      size = marks.size;
      index = sym
          (are_index_words (state_counted_on u c) x (omega (arith, marks.size))
          (length-words_after (index_words s) p.index ∙ length-index_words s long) index);
      storage = λ w there apart.
          k.words w (word s w) (kept-above w (omega arith)) apart (stands-above p s w m h.change there);
      low = low;
      mask = k.words 12 (word s 12) kept-mask (above-apart p.writes 12 above (omega arith))
          (stands-low p s 12 m (omega arith) (omega arith));
      enabled = marks.enabled;
      waiting = marks.waiting;
      reader = marks.reader;
      printer = marks.printer;
      done = ap (λ n. n + 1) (k.done ∙ early-done p s);
    }

pub completed-past : (p : Prepared) (s : Machine) → IsPrepared p → IsMachine s → p.serial ≡ false
    → IsPast p s (state_after_completion p s)
completed-past p s h m free =
    let t = state_with_speculative_changes p s in
    let size : length t.words ≡ words_of_storage = (speculative-marks p s).size ∙ m.size in
    let k = late-kept p.suppressed p t refl h free size in
    subst (IsPast p s) (sym (completed-late p s (h.ahead free).table))
    (past p s (late p.suppressed p t) (if p.suppressed then p.following else counter p t) m h free k)

-- ---- the prediction

-- of the branches that are decided late, only BI is non-serializing
taken-ahead : (instr : Instr) (e : ℕ) (t : Machine) → is_serial_operation instr ≡ false → is_taken instr e t ≡ true
    → is_indicator_branch instr ≡ true
unfolding is_serial_operation is_taken
taken-ahead (BitBranch sense change a i second) e t hazard_free h = absurd (cc)
taken-ahead (IndBranch sense off a i second) e t hazard_free h = refl
taken-ahead (Half op a j i) e t hazard_free h = absurd (cc)
taken-ahead (Branch op a i) e t hazard_free h = absurd (cc)
taken-ahead (Floating n a i) e t hazard_free h = absurd (cc)
taken-ahead (Vfl op d u n p l b o a i) e t hazard_free h = absurd (cc)
taken-ahead (Connect kind table p l b o a i) e t hazard_free h = absurd (cc)
taken-ahead (Move swap a i second n) e t hazard_free h = absurd (cc)
taken-ahead (StoreCounter a i second) e t hazard_free h = absurd (cc)
taken-ahead (Transfer w a i n) e t hazard_free h = absurd (cc)
taken-ahead (Invalid first second full) e t hazard_free h = absurd (cc)

-- three tests that all hold, by their conjunction
all_three : (a b c : Bool) → (not a && not b && c) ≡ true → (a ≡ false) × (b ≡ false) × (c ≡ true)
all_three false false true h = (refl, refl, refl)
all_three true b c h = absurd (cc)
all_three false true c h = absurd (cc)
all_three false false false h = absurd (cc)

pub mispredicted-branch : (p : Prepared) (s : Machine) → IsPrepared p → is_mispredicted p s ≡ true → is_indicator_branch p.instr ≡ true
unfolding is_mispredicted
mispredicted-branch p s h mispredicted =
    let tests = all_three p.serial p.suppressed _ mispredicted in
    taken-ahead p.instr p.e _ ((h.ahead tests.0).operation tests.1) tests.2

counter-not_taken : (b : Bool) (p : Prepared) (t : Machine) → is_taken p.instr p.e t ≡ b → b ≡ false → counter p t ≡ p.following
counter-not_taken b p t e h = rw (e ∙ h) refl

following-unless : (b : Bool) (p : Prepared) (t : Machine) → p.suppressed ≡ b → (not b && is_taken p.instr p.e t) ≡ false
    → (if b then p.following else counter p t) ≡ p.following
following-unless true p t e h = refl
following-unless false p t e h = counter-not_taken false p t h refl

right-prediction : (b : Bool) (p : Prepared) (s : Machine) → p.serial ≡ b → IsPrepared p
    → (not b && not p.suppressed && is_taken p.instr p.e (state_with_speculative_changes p (state_at_entry p.place.table s))) ≡ false
    → (if b then state_after_completion p s else record (state_after_completion p s) { ic = p.following }) ≡ state_after_completion p s
right-prediction true p s e h mispredicted = refl
right-prediction false p s e h mispredicted =
    let table : p.place.table ≡ None = (h.ahead e).table in
    let test : (not p.suppressed && is_taken p.instr p.e (state_with_speculative_changes p s)) ≡ false =
    ap (λ k. not p.suppressed && is_taken p.instr p.e (state_with_speculative_changes p (state_at_entry k s))) (sym table) ∙ mispredicted in
    let same : (state_after_completion p s).ic ≡ p.following =
    ap (λ (u : Machine). u.ic) (completed-late p s table) ∙ following-unless p.suppressed p (state_with_speculative_changes p s) refl test in
    ap (λ c. record (state_after_completion p s) { ic = c }) (sym same)

pub predicted-right : (p : Prepared) (s : Machine) → IsPrepared p → is_mispredicted p s ≡ false → predicted_state p s ≡ state_after_completion p s
unfolding predicted_state is_mispredicted
predicted-right p s h mispredicted = right-prediction p.serial p s refl h mispredicted
