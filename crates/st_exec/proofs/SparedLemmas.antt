-- The parts of the state that the effect of a non-serializing operation leaves unchanged.
use Rattle.st_exec.proofs.Common.{◌≡◌, ◌≢◌, ℕ, ◌+◌, ◌*◌, ◌/◌, ◌%◌, ◌^◌, ◌<◌, ◌≤◌, ◌⊎◌, inl, inr, Bool, true, false, if◌then◌else◌, Option, None, Some, List, length, refl, sym, ◌∙◌, ap, subst, arith, get_or-set_other, IfSome, nat_le, leb-true, leb_tells, length-set, get_or_past, mod-eq_of_lt, bits, register_word, words_of_storage, HalfOp, Sx, Sv, Sc, Sr, Sva, BranchOp, Be, Bd, Bew, length-bits, Variable, Connective, Instr, Half, Branch, Floating, Vfl, Connect, Move, BitBranch, IndBranch, StoreCounter, Transfer, Invalid, writes_field, Machine, word, state_with_bits, state_with_store, state_with_indicators, Acc, no_words, one_run, field_words, is_index_store, words_written, is_serial_branch, is_serial_operation, HasFields, AreInside, with_accumulator, with_register, with_registers, with_field, with_result, operation_outcome, connects, Done, index_effect, branch_effect, indicator_effect, effect_of, carried_out, IsNotAmong, Effect, Rest, Put, Copy, Exchange, TurnOff, Enable, Wait, Give, Leave}
use Rattle.st_exec.proofs.ApartLemmas.{length-placed, word-placed}
use Rattle.st_exec.proofs.FieldLemmas.{result-field, connection-field}
use Rattle.st_exec.proofs.Unchanged.{stored-other}

-- ---- predicates on effects

-- a field in storage that has no bit of word i
pub record IsApart (a n i : ℕ) : Type 0 where
  pub inside : a + n ≤ 64 * words_of_storage
  pub apart : (64 * i + 64 ≤ a) ⊎ (a + n ≤ 64 * i)

-- an effect that leaves the marks and the orders unchanged
abbrev pub IsQuiet : Effect → Type 0
IsQuiet Rest = Unit {0}
IsQuiet (Put a n v) = Unit {0}
IsQuiet (TurnOff k) = Unit {0}
IsQuiet (Leave o a n) = Unit {0}
IsQuiet _ = ⊥

-- an effect that leaves word i unchanged, unless it is one of the registers of operations on fields
abbrev pub Spares : Effect → ℕ → Type 0
Spares Rest i = Unit {0}
Spares (Put a n v) i = IsApart a n i
Spares (TurnOff k) i = Unit {0}
Spares (Leave o a n) i = IfSome o.field (λ _. IsApart a n i)
Spares _ i = ⊥

-- ---- the effects of non-serializing operations

apart-by : (w m a n i : ℕ) → w + m ≤ words_of_storage → 64 * w ≤ a → a + n ≤ 64 * (w + m) → (i < w) ⊎ (w + m ≤ i)
    → IsApart a n i
apart-by w m a n i room low high (inl before) = record { inside = omega arith; apart = inl (omega arith) }
apart-by w m a n i room low high (inr after) = record { inside = omega arith; apart = inr (omega arith) }

pub apart-word : (w a n i : ℕ) → AreInside (one_run w 1) → 64 * w ≤ a → a + n ≤ 64 * w + 64 → IsNotAmong i (one_run w 1)
    → IsApart a n i
apart-word w a n i h low high k =
    let room : w + 1 ≤ words_of_storage = h.inside (omega arith) in apart-by w 1 a n i room low (omega arith) k.first

apart-words : (b : Bool) (e n i : ℕ) → nat_le (e % 64 + n) 64 ≡ b → n ≤ 64
    → AreInside (one_run (e / 64) (if b then 1 else 2)) → IsNotAmong i (one_run (e / 64) (if b then 1 else 2))
    → IsApart e n i
apart-words true e n i t few h k =
    let le : e % 64 + n ≤ 64 = leb-true (e % 64 + n) 64 t in
    apart-by (e / 64) 1 e n i (h.inside (omega arith)) (omega arith) (omega arith) k.first
apart-words false e n i t few h k =
    apart-by (e / 64) 2 e n i (h.inside (omega arith)) (omega arith) (omega arith) k.first

apart-field : (e n i : ℕ) → n ≤ 64 → AreInside (field_words e n) → IsNotAmong i (field_words e n) → IsApart e n i
unfolding field_words
apart-field e n i few h k = apart-words (nat_le (e % 64 + n) 64) e n i refl few h k

-- a field that is written only if its words are among the written ones has no bit of word i
apart-left : (f : Option ℕ) (b : Bool) (e n i : ℕ) → n ≤ 64 → IfSome f (λ _. b ≡ true)
    → AreInside (if b then field_words e n else no_words) → IsNotAmong i (if b then field_words e n else no_words)
    → IfSome f (λ _. IsApart e n i)
apart-left None b e n i few only h k = tt
apart-left (Some v) true e n i few only h k = apart-field e n i few h k
apart-left (Some v) false e n i few only h k = absurd (cc)

spares-index : (op : HalfOp) (e v i : ℕ) → AreInside (if is_index_store op then one_run (e / 64) 1 else no_words)
    → IsNotAmong i (if is_index_store op then one_run (e / 64) 1 else no_words) → Spares (index_effect op e v) i
spares-index Sx e v i h k = apart-word (e / 64) (64 * (e / 64)) 64 i h (omega arith) (omega arith) k
spares-index Sv e v i h k = apart-word (e / 64) (64 * (e / 64)) 25 i h (omega arith) (omega arith) k
spares-index Sc e v i h k = apart-word (e / 64) (64 * (e / 64) + 28) 18 i h (omega arith) (omega arith) k
spares-index Sr e v i h k = apart-word (e / 64) (64 * (e / 64) + 46) 18 i h (omega arith) (omega arith) k
spares-index Sva e v i h k = apart-word (e / 64) (32 * (e / 32)) 19 i h (omega arith) (omega arith) k
spares-index _ e v i h k = tt

spares-branch : (op : BranchOp) (i : ℕ) → is_serial_branch op ≡ false → Spares (branch_effect op) i
spares-branch Be i h = absurd (cc)
spares-branch Bd i h = absurd (cc)
spares-branch Bew i h = absurd (cc)
spares-branch _ i h = tt

spares-indicator : (off : Bool) (e i : ℕ) → Spares (indicator_effect off e) i
spares-indicator false e i = tt
spares-indicator true e i = tt

pub spares-effect : (instr : Instr) (e v : ℕ) (t : Machine) (i : ℕ) → HasFields instr → is_serial_operation instr ≡ false
    → AreInside (words_written instr e) → IsNotAmong i (words_written instr e) → Spares (effect_of instr e v t) i
unfolding effect_of words_written is_serial_operation operation_outcome connects
spares-effect (Half op a j x) e v t i fields hazard_free h k = spares-index op e v i h k
spares-effect (Branch op a x) e v t i fields hazard_free h k = spares-branch op i hazard_free
spares-effect (Floating n a x) e v t i fields hazard_free h k = tt
spares-effect (Vfl op d u n p l b o a x) e v t i fields hazard_free h k =
    apart-left _ (writes_field (Variable op)) e l i fields.1.length_fits (result-field d op _ _ _ _ _) h k
spares-effect (Connect kind table p l b o a x) e v t i fields hazard_free h k =
    apart-left _ (writes_field (Connective kind)) e l i fields.1.length_fits (connection-field kind _ _ _ _ _) h k
spares-effect (Move swap a x second n) e v t i fields hazard_free h k = absurd (cc)
spares-effect (BitBranch sense change a x second) e v t i fields hazard_free h k = absurd (cc)
spares-effect (IndBranch sense off a x second) e v t i fields hazard_free h k = spares-indicator off e i
spares-effect (StoreCounter a x second) e v t i fields hazard_free h k = absurd (cc)
spares-effect (Transfer w a x n) e v t i fields hazard_free h k = absurd (cc)
spares-effect (Invalid first second full) e v t i fields hazard_free h k = tt

quiet-index : (op : HalfOp) (e v : ℕ) → IsQuiet (index_effect op e v)
quiet-index Sx e v = tt
quiet-index Sv e v = tt
quiet-index Sc e v = tt
quiet-index Sr e v = tt
quiet-index Sva e v = tt
quiet-index _ e v = tt

quiet-branch : (op : BranchOp) → is_serial_branch op ≡ false → IsQuiet (branch_effect op)
quiet-branch Be h = absurd (cc)
quiet-branch Bd h = absurd (cc)
quiet-branch Bew h = absurd (cc)
quiet-branch _ h = tt

quiet-indicator : (off : Bool) (e : ℕ) → IsQuiet (indicator_effect off e)
quiet-indicator false e = tt
quiet-indicator true e = tt

pub quiet-effect : (instr : Instr) (e v : ℕ) (t : Machine) → is_serial_operation instr ≡ false → IsQuiet (effect_of instr e v t)
unfolding effect_of is_serial_operation
quiet-effect (Half op a j x) e v t hazard_free = quiet-index op e v
quiet-effect (Branch op a x) e v t hazard_free = quiet-branch op hazard_free
quiet-effect (Floating n a x) e v t hazard_free = tt
quiet-effect (Vfl op d u n p l b o a x) e v t hazard_free = tt
quiet-effect (Connect kind table p l b o a x) e v t hazard_free = tt
quiet-effect (Move swap a x second n) e v t hazard_free = absurd (cc)
quiet-effect (BitBranch sense change a x second) e v t hazard_free = absurd (cc)
quiet-effect (IndBranch sense off a x second) e v t hazard_free = quiet-indicator off e
quiet-effect (StoreCounter a x second) e v t hazard_free = absurd (cc)
quiet-effect (Transfer w a x n) e v t hazard_free = absurd (cc)
quiet-effect (Invalid first second full) e v t hazard_free = tt

-- ---- marks and orders

pub record HasMarks (s t : Machine) : Type 0 where
  pub size : length t.words ≡ length s.words
  pub enabled : t.enabled ≡ s.enabled
  pub waiting : t.waiting ≡ s.waiting
  pub reader : t.reader ≡ s.reader
  pub printer : t.printer ≡ s.printer

pub marks-same : (s : Machine) → HasMarks s s
marks-same s = record { size = refl; enabled = refl; waiting = refl; reader = refl; printer = refl }

pub marks-then : (s t u : Machine) → HasMarks s t → HasMarks t u → HasMarks s u
marks-then s t u h k = record {
  size = k.size ∙ h.size;
  enabled = k.enabled ∙ h.enabled;
  waiting = k.waiting ∙ h.waiting;
  reader = k.reader ∙ h.reader;
  printer = k.printer ∙ h.printer;
}

pub marks-words : (s : Machine) (ws : List ℕ) → length ws ≡ length s.words → HasMarks s (record s { words = ws })
marks-words s ws size = record { size = size; enabled = refl; waiting = refl; reader = refl; printer = refl }

marks-register : (w : ℕ) (x : Option ℕ) (t : Machine) → HasMarks t (with_register w x t)
marks-register w None t = marks-same t
marks-register w (Some x) t = marks-words t _ (length-set t.words w (register_word w x))

marks-field : (f : Option ℕ) (a n : ℕ) (t : Machine) → HasMarks t (with_field f a n t)
marks-field None a n t = marks-same t
marks-field (Some v) a n t = marks-words t _ (length-placed t a (bits n v))

pub marks-registers : (o : Done) (t : Machine) → HasMarks t (with_registers o t)
unfolding with_registers
marks-registers o t =
    let a = with_accumulator o.acc t in
    let r = with_register 13 o.rm a in
    let f = with_register 14 o.ft r in
    let x = with_register 15 o.tr f in
    marks-then t a (with_register 7 o.counts x)
    (marks-words t a.words (length-set _ 10 _ ∙ length-set _ 9 _ ∙ length-set t.words 8 _))
    (marks-then a r (with_register 7 o.counts x) (marks-register 13 o.rm a)
    (marks-then r f (with_register 7 o.counts x) (marks-register 14 o.ft r)
    (marks-then f x (with_register 7 o.counts x) (marks-register 15 o.tr f) (marks-register 7 o.counts x))))

marks-with_result : (o : Done) (a n : ℕ) (t : Machine) → HasMarks t (with_result o a n t)
unfolding with_result
marks-with_result o a n t =
    let r = with_registers o t in
    let u = state_with_indicators o.ind r in
    marks-then t r (with_field o.field a n u) (marks-registers o t)
    (marks-then r u (with_field o.field a n u) (marks-words r u.words (length-set r.words 11 _))
    (marks-field o.field a n u))

pub marks-done : (d : Effect) (t : Machine) → IsQuiet d → HasMarks t (carried_out d t)
unfolding carried_out
marks-done Rest t k = marks-same t
marks-done (Put a n v) t k = marks-words t _ (length-placed t a (bits n v))
marks-done (Copy from to n) t k = absurd k
marks-done (Exchange from to n) t k = absurd k
marks-done (TurnOff i) t k = marks-words t _ (length-set t.words 11 _)
marks-done (Enable enabled) t k = absurd k
marks-done Wait t k = absurd k
marks-done (Give write order) t k = absurd k
marks-done (Leave o a n) t k = marks-with_result o a n t

-- ---- words

-- word i is none of the registers that operations on fields write: 7 to 11 and 13 to 15
pub record IsKept (i : ℕ) : Type 0 where
  pub other : (k : ℕ) → 7 ≤ k → k < 16 → k ≢ 12 → i ≢ k

pub kept-below : (i : ℕ) → i < 7 → IsKept i
kept-below i h = record { other = λ k low high not. omega arith }

pub kept-above : (i : ℕ) → 16 ≤ i → IsKept i
kept-above i h = record { other = λ k low high not. omega arith }

pub kept-mask : IsKept 12
kept-mask = record { other = λ k low high not e. not (sym e) }

-- word i of state t is x
pub record Stands (t : Machine) (i x : ℕ) : Type 0 where
  pub is : word t i ≡ x
  pub below : x < 2 ^ 64
  pub fits : register_word i x ≡ x

with_register-keeps : (w : ℕ) (x : Option ℕ) (t : Machine) (i : ℕ) → i ≢ w → word (with_register w x t) i ≡ word t i
with_register-keeps w None t i other = refl
with_register-keeps w (Some x) t i other = stored-other t w x i other

with_accumulator-keeps : (a : Acc) (t : Machine) (i : ℕ) → IsKept i → word (with_accumulator a t) i ≡ word t i
with_accumulator-keeps a t i k =
    let u = state_with_store t 8 (a.mag / 2 ^ 64) in
    let v = state_with_store u 9 (a.mag % 2 ^ 64) in
    stored-other v 10 (a.sb * 2 ^ 56) i (k.other 10 (omega arith) (omega arith) (omega arith))
    ∙ stored-other u 9 (a.mag % 2 ^ 64) i (k.other 9 (omega arith) (omega arith) (omega arith))
    ∙ stored-other t 8 (a.mag / 2 ^ 64) i (k.other 8 (omega arith) (omega arith) (omega arith))

with_registers-keeps : (o : Done) (t : Machine) (i : ℕ) → IsKept i → word (with_registers o t) i ≡ word t i
unfolding with_registers
with_registers-keeps o t i k =
    with_register-keeps 7 o.counts _ i (k.other 7 (omega arith) (omega arith) (omega arith))
    ∙ with_register-keeps 15 o.tr _ i (k.other 15 (omega arith) (omega arith) (omega arith))
    ∙ with_register-keeps 14 o.ft _ i (k.other 14 (omega arith) (omega arith) (omega arith))
    ∙ with_register-keeps 13 o.rm _ i (k.other 13 (omega arith) (omega arith) (omega arith))
    ∙ with_accumulator-keeps o.acc t i k

-- a word that has no bit of a written field is unchanged
placed-keeps : (t : Machine) (a n v i x : ℕ) → length t.words ≡ words_of_storage → IsApart a n i → Stands t i x
    → word (state_with_bits t a (bits n v)) i ≡ x
placed-keeps t a n v i x size k h =
    elim (leb_tells words_of_storage i) [
      | inl p ↦
          let past : words_of_storage ≤ i = p.1 in
          let there : word t i ≡ 0 = get_or_past t.words i 0 (omega arith) in
          get_or_past (state_with_bits t a (bits n v)).words i 0 (omega (arith, length-placed t a (bits n v)))
          ∙ sym there ∙ h.is
      | inr q ↦
          let here : i < words_of_storage = q.1 in
          let long : length (bits n v) ≡ n = length-bits n v in
          let inside : a + n ≤ 64 * words_of_storage = k.inside in
          word-placed t a (bits n v) i (omega arith) (omega arith) (subst (λ m. (64 * i + 64 ≤ a) ⊎ (a + m ≤ 64 * i)) (sym long) k.apart)
          ∙ ap (λ y. register_word i (y % 2 ^ 64)) h.is
          ∙ ap (register_word i) (mod-eq_of_lt h.below)
          ∙ h.fits
    ]

with_field-keeps : (f : Option ℕ) (a n : ℕ) (t : Machine) (i x : ℕ) → length t.words ≡ words_of_storage
    → IfSome f (λ _. IsApart a n i) → Stands t i x → word (with_field f a n t) i ≡ x
with_field-keeps None a n t i x size k h = h.is
with_field-keeps (Some v) a n t i x size k h = placed-keeps t a n v i x size k h

with_result-keeps : (o : Done) (a n : ℕ) (t : Machine) (i x : ℕ) → length t.words ≡ words_of_storage → IsKept i
    → IfSome o.field (λ _. IsApart a n i) → Stands t i x → word (with_result o a n t) i ≡ x
unfolding with_result
with_result-keeps o a n t i x size kept k h =
    let r = with_registers o t in
    let u = state_with_indicators o.ind r in
    let same : word u i ≡ x =
    get_or-set_other r.words 11 i _ 0 (kept.other 11 (omega arith) (omega arith) (omega arith)) ∙ with_registers-keeps o t i kept ∙ h.is in
    let long : length u.words ≡ words_of_storage = length-set r.words 11 _ ∙ (marks-registers o t).size ∙ size in
    with_field-keeps o.field a n u i x long k (record { is = same; below = h.below; fits = h.fits })

pub done-keeps : (d : Effect) (t : Machine) (i x : ℕ) → length t.words ≡ words_of_storage → IsKept i → Spares d i
    → Stands t i x → word (carried_out d t) i ≡ x
unfolding carried_out
done-keeps Rest t i x size kept k h = h.is
done-keeps (Put a n v) t i x size kept k h = placed-keeps t a n v i x size k h
done-keeps (Copy from to n) t i x size kept k h = absurd k
done-keeps (Exchange from to n) t i x size kept k h = absurd k
done-keeps (TurnOff j) t i x size kept k h =
    get_or-set_other t.words 11 i _ 0 (kept.other 11 (omega arith) (omega arith) (omega arith)) ∙ h.is
done-keeps (Enable enabled) t i x size kept k h = absurd k
done-keeps Wait t i x size kept k h = absurd k
done-keeps (Give write order) t i x size kept k h = absurd k
done-keeps (Leave o a n) t i x size kept k h = with_result-keeps o a n t i x size kept k h
