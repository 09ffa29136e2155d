-- Changes of the ring buffer of steps.
use Rattle.st_back.proofs.Common.{◌≡◌, ◌≢◌, ℕ, zero, suc, ◌+◌, ◌-◌, ◌<◌, ◌≤◌, inl, inr, List, [], ◌∷◌, ◌++◌, length, take, drop, true, Option, Some, refl, sym, ◌∙◌, ap, subst, arith, get_or, get_or-set_other, length-append, All, slice_index, slice_set, replicate, eqb_tells, take_more, take_all, length-set, get_or-set_same, length-take, length-drop, length-replicate, get_or-append_right, Buffer, buffer, keep_last, last_item, words_of_storage, Machine, IsMachine, word, state_with_store, step, IsStep, IsTrail, CanBePutBack, IsKeptStep, Trail, Step, Plain, Interrupt, Waits, KeptStep, state_undone, step_with_word, Steps, steps, IsStepSound, AreStepsSound, step_at, steps_with, IsStepKept, IsForth, has_room, IsPut, IsUndone}
use Rattle.std.proofs.lemmas.Bool.{leb-true}
use Rattle.std.proofs.lemmas.List.Elements.{All-append, All-drop, All-take}
use Rattle.std.proofs.lemmas.Option.{slice_get_within, get_or_from_slice_get}
use Rattle.st_back.proofs.StepLemmas.{step-undone, put-undone}

-- ---- lists

-- a list with a last item
snoc : {A : Type 0} (xs : List A) (x : A) → last_item xs ≡ Some x → xs ≡ take (length xs - 1) xs ++ x ∷ []
snoc xs x e =
    let n : ℕ = length xs - 1 in
    let below : n < length xs = slice_get_within xs n x e in
    let one : length xs ≡ n + 1 = omega arith in
    sym (take_all (length xs) xs (omega arith))
    ∙ ap (λ k. take k xs) one
    ∙ take_more xs n x below
    ∙ ap (λ y. take n xs ++ y ∷ []) (get_or_from_slice_get xs n x x e)

-- a ring buffer that is not full drops nothing
keep-few : {A : Type 0} (n : ℕ) (xs : List A) → length xs ≤ n → keep_last n xs ≡ xs
keep-few n xs few =
    let none : length xs - n ≡ 0 = omega arith in ap (λ k. drop k xs) none

of_last : {A : Type 0} (P : A → Type 0) (xs : List A) (x : A) → All P (xs ++ x ∷ []) → P x
of_last P xs x h =
    let n : ℕ = length xs in
    let none : n - n ≡ 0 = omega arith in
    let inside : n < length (xs ++ x ∷ []) = omega (arith, length-append xs (x ∷ [])) in
    subst P
    (get_or-append_right xs (x ∷ []) n n x refl (omega arith) ∙ ap (λ k. get_or (x ∷ []) k x) none)
    (h n x inside)

all-one : {A : Type 0} (P : A → Type 0) (x : A) → P x → All P (x ∷ [])
all-one P x h zero d few = h
all-one P x h (suc k) d few = absurd (omega arith)

-- ---- steps that can be undone

pub fresh-sound : (t : Trail) → CanBePutBack t → IsStepSound (step_at t)
fresh-sound t h = let size : length (replicate {A = ℕ} 8 0) ≡ 8 = length-replicate {A = ℕ} 8 0 in record {
  trail = h;
  few = omega arith;
  eight = size;
  eight_contents = size;
  above = λ n few. absurd (omega arith);
  inside = λ n few. absurd (omega arith);
}

set-all : (P : ℕ → Type 0) (xs : List ℕ) (k w n : ℕ) → k < length xs → P w → ((m : ℕ) → m < k → P (slice_index xs m))
    → n < k + 1 → P (slice_index (slice_set xs k w) n)
set-all P xs k w n room h each few =
    elim (eqb_tells n k) [
      | inl p ↦
          let same : n ≡ k = p.1 in
          subst P (sym (ap (λ m. slice_index (slice_set xs k w) m) same ∙ get_or-set_same xs k w 0 room)) h
      | inr q ↦
          let other : n ≢ k = q.1 in
          subst P (sym (get_or-set_other xs k n w 0 other)) (each n (omega arith))
    ]

pub noted-sound : (k : KeptStep) (w x : ℕ) → IsStepSound k → k.puts ≤ 7 → 32 ≤ w → w < words_of_storage → IsStepSound (step_with_word k w x)
noted-sound k w x h few above inside =
    let room : k.puts < length k.places = omega (arith, h.eight) in
    record {
      trail = h.trail;
      few = omega arith;
      eight = length-set k.places k.puts w ∙ h.eight;
      eight_contents = length-set k.contents k.puts x ∙ h.eight_contents;
      above = λ n below. set-all (λ a. 32 ≤ a) k.places k.puts w n room above h.above below;
      inside = λ n below. set-all (λ a. a < words_of_storage) k.places k.puts w n room inside h.inside below;
    }

pub pushed-sound : (b : Steps) (k : KeptStep) → AreStepsSound b → IsStepSound k
    → AreStepsSound (record b { kept = keep_last b.depth (b.kept ++ k ∷ []) })
pushed-sound b k h sound =
    let xs = b.kept ++ k ∷ [] in
    record {
      some = h.some;
      fits = omega (arith, length-drop (length xs - b.depth) xs);
      each = All-drop IsStepSound (length xs - b.depth) xs (All-append IsStepSound b.kept (k ∷ []) h.each (all-one IsStepSound k sound));
    }

pub popped-sound : (b : Steps) → AreStepsSound b → AreStepsSound (record b { kept = take (length b.kept - 1) b.kept })
popped-sound b h = record {
  some = h.some;
  fits = omega (arith, length-take (length b.kept - 1) b.kept, h.fits);
  each = All-take IsStepSound (length b.kept - 1) b.kept h.each;
}

pub last-sound : (b : Steps) (k : KeptStep) → AreStepsSound b → last_item b.kept ≡ Some k → IsStepSound k
last-sound b k h e =
    of_last IsStepSound (take (length b.kept - 1) b.kept) k (subst (All IsStepSound) (snoc b.kept k e) h.each)

pub room-of : (r : Option KeptStep) (k : KeptStep) → r ≡ Some k → has_room r ≡ true → k.puts ≤ 7
room-of r k e h = leb-true k.puts 7 (ap has_room (sym e) ∙ h)

-- ---- the effect of the calls

step-kept : (b : Steps) (s t : Machine) (trail : Trail) → IsTrail s trail → CanBePutBack trail → t ≡ step s
    → IsStepKept b (steps_with trail b) s t
step-kept b s t trail is fits made = record {
  last = step_at trail;
  kept = refl;
  depth = refl;
  trail = is;
  puts = refl;
  before = ap (state_undone (step_at trail)) made ∙ step-undone s (step_at trail) is fits refl;
}

pub forth-kept : (b c : Steps) (s t : Machine) (old trail : Trail) (r : Step) → IsStep s t r
    → IsKeptStep s old trail r → r ≢ Waits → c ≡ steps_with trail b → IsForth b c s t r
forth-kept b c s t old trail Waits made is some e = absurd (some refl)
forth-kept b c s t old trail Plain made is some e =
    subst (λ d. IsStepKept b d s t) (sym e) (step-kept b s t trail is.0 is.1 made.2)
forth-kept b c s t old trail (Interrupt i) made is some e =
    subst (λ d. IsStepKept b d s t) (sym e) (step-kept b s t trail is.0 is.1 made.2)

pub put-made : (a p b : Buffer KeptStep) (k q : KeptStep) (s t : Machine) (w x : ℕ) → AreStepsSound (steps a) → IsMachine s
    → last_item a.items ≡ Some k → k.puts ≤ 7 → q ≡ step_with_word k w (word s w) → t ≡ state_with_store s w x
    → p ≡ buffer (take (length a.items - 1) a.items) a.capacity
    → b ≡ buffer (keep_last p.capacity (p.items ++ q ∷ [])) p.capacity → IsPut (steps a) (steps b) s t w x
put-made a p b k q s t w x h m e few is made popped pushed =
    let xs = take (length a.items - 1) a.items in
    let y = step_with_word k w (word s w) in
    let some : length a.items - 1 < length a.items = slice_get_within a.items (length a.items - 1) k e in
    let room : length (xs ++ y ∷ []) ≤ a.capacity =
    omega (arith, h.fits, length-append xs (y ∷ []), length-take (length a.items - 1) a.items) in
    let now : b ≡ buffer (xs ++ y ∷ []) a.capacity =
    pushed
    ∙ ap (λ (v : Buffer KeptStep). buffer (keep_last v.capacity (v.items ++ q ∷ [])) v.capacity) popped
    ∙ ap (λ z. buffer (keep_last a.capacity (xs ++ z ∷ [])) a.capacity) is
    ∙ ap (λ ys. buffer ys a.capacity) (keep-few a.capacity (xs ++ y ∷ []) room) in
    record {
      others = xs;
      last = k;
      was = snoc a.items k e;
      is = ap (λ (v : Buffer KeptStep). v.items) now;
      depth = ap (λ (v : Buffer KeptStep). v.capacity) now;
      state = made;
      before = ap (state_undone y) made ∙ put-undone s k w x m (last-sound (steps a) k h e) few;
    }

pub back-made : (a p : Buffer KeptStep) (k : KeptStep) (s t : Machine) → last_item a.items ≡ Some k → t ≡ state_undone k s
    → p ≡ buffer (take (length a.items - 1) a.items) a.capacity → IsUndone (steps a) (steps p) s t
back-made a p k s t e made popped = record {
  last = k;
  kept = snoc a.items k e ∙ ap (λ (v : Buffer KeptStep). v.items ++ k ∷ []) (sym popped);
  depth = ap (λ (v : Buffer KeptStep). v.capacity) popped;
  state = made;
}

pub put-sound : (a p b : Buffer KeptStep) (k q : KeptStep) (w x : ℕ) → AreStepsSound (steps a) → last_item a.items ≡ Some k
    → k.puts ≤ 7 → q ≡ step_with_word k w x → 32 ≤ w → w < words_of_storage
    → p ≡ buffer (take (length a.items - 1) a.items) a.capacity
    → b ≡ buffer (keep_last p.capacity (p.items ++ q ∷ [])) p.capacity → AreStepsSound (steps b)
put-sound a p b k q w x h e few is above inside popped pushed =
    let before = subst (λ (v : Buffer KeptStep). AreStepsSound (steps v)) (sym popped) (popped-sound (steps a) h) in
    let last = subst IsStepSound (sym is) (noted-sound k w x (last-sound (steps a) k h e) few above inside) in
    subst (λ (v : Buffer KeptStep). AreStepsSound (steps v)) (sym pushed) (pushed-sound (steps p) q before last)
