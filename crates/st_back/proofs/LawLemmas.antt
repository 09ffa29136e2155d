-- A step back right after a step forth, and changes in between.
use Rattle.st_back.proofs.Common.{◌≡◌, ◌≢◌, ℕ, zero, suc, ◌+◌, ◌-◌, ◌<◌, ◌≤◌, inl, inr, true, false, List, [], ◌∷◌, ◌++◌, length, drop, Option, None, Some, refl, sym, ◌∙◌, ap, subst, arith, get_or-set_other, length-append, slice_index, leb_tells, length-set, ext_get_or, drop-append-le, keep_last, register_word, words_of_storage_is, Machine, IsMachine, word, with_word, state_with_store, state_with_signal, Order, IsStep, Step, Plain, Interrupt, Waits, KeptStep, AreAlikeAbove, Steps, IsStepKept, IsForth, IsUndone, state_with_words, restored_words, unput, with_rest, state_undone}
use Rattle.st_exec.specs.Transfer.{read_in, printed_out}
use Rattle.st_exec.proofs.AlikeStates.{same-set}
use Rattle.st_back.proofs.UndoneLemmas.{restored-other, restored-size, restored-in}

-- ---- a step forth and a step back

-- equal lists have equal last items
same_last : {A : Type 0} (xs ys : List A) (x y : A) → xs ++ x ∷ [] ≡ ys ++ y ∷ [] → x ≡ y
same_last [] [] x y e = cc
same_last [] (b ∷ ys) x y e = let long : length (x ∷ []) ≡ length (b ∷ (ys ++ y ∷ [])) = ap length e in absurd (omega (arith, length-append ys (y ∷ [])))
same_last (a ∷ xs) [] x y e = let long : length (a ∷ (xs ++ x ∷ [])) ≡ length (y ∷ []) = ap length e in absurd (omega (arith, length-append xs (x ∷ [])))
same_last (a ∷ xs) (b ∷ ys) x y e = let tails : xs ++ x ∷ [] ≡ ys ++ y ∷ [] = cc in same_last xs ys x y tails

-- the last item stays in a ring buffer of at least one place
keeps_last : {A : Type 0} (n : ℕ) (xs : List A) (x : A) → 1 ≤ n
    → keep_last n (xs ++ x ∷ []) ≡ drop (length (xs ++ x ∷ []) - n) xs ++ x ∷ []
keeps_last n xs x some =
    let most : length (xs ++ x ∷ []) - n ≤ length xs = omega (arith, length-append xs (x ∷ [])) in
    drop-append-le (length (xs ++ x ∷ []) - n) xs (x ∷ []) most

back-kept : (a b c : Steps) (s t u : Machine) → 1 ≤ a.depth → IsStepKept a b s t → IsUndone b c t u → u ≡ s
back-kept a b c s t u some h k =
    let same : k.last ≡ h.last =
    same_last c.kept (drop (length (a.kept ++ h.last ∷ []) - a.depth) a.kept) k.last h.last
    (sym k.kept ∙ h.kept ∙ keeps_last a.depth a.kept h.last some) in
    k.state ∙ ap (λ (y : KeptStep). state_undone y t) same ∙ h.before

pub back-before : (a b c : Steps) (s t u : Machine) (r : Step) → 1 ≤ a.depth → r ≢ Waits → IsForth a b s t r
    → IsUndone b c t u → u ≡ s
back-before a b c s t u Waits some made h k = absurd (made refl)
back-before a b c s t u Plain some made h k = back-kept a b c s t u some h k
back-before a b c s t u (Interrupt i) some made h k = back-kept a b c s t u some h k

true_false : true ≢ false
true_false e = cc

some_none : (i : ℕ) → Some i ≢ None
some_none i e = cc

same_some : (i j : ℕ) → Some i ≡ Some j → i ≡ j
same_some i j e = cc

-- a step from one state has only one result
same_step : (s t v : Machine) (r q : Step) → IsStep s t r → IsStep s v q → (q ≡ r) × (v ≡ t)
same_step s t v Waits Waits h k = (refl, k.1 ∙ sym h.1)
same_step s t v Waits Plain h k = absurd (true_false (sym h.0 ∙ k.0))
same_step s t v Waits (Interrupt j) h k = absurd (true_false (sym h.0 ∙ k.0))
same_step s t v Plain Waits h k = absurd (true_false (sym k.0 ∙ h.0))
same_step s t v Plain Plain h k = (refl, k.2 ∙ sym h.2)
same_step s t v Plain (Interrupt j) h k = absurd (some_none j (sym k.1 ∙ h.1))
same_step s t v (Interrupt i) Waits h k = absurd (true_false (sym k.0 ∙ h.0))
same_step s t v (Interrupt i) Plain h k = absurd (some_none i (sym h.1 ∙ k.1))
same_step s t v (Interrupt i) (Interrupt j) h k = (ap Interrupt (same_some j i (sym k.1 ∙ h.1)), k.2 ∙ sym h.2)

pub back-again : (a b c : Steps) (s t u v : Machine) (r q : Step) → 1 ≤ a.depth → r ≢ Waits → IsStep s t r
    → IsForth a b s t r → IsUndone b c t u → IsStep u v q → (q ≡ r) × (v ≡ t)
back-again a b c s t u v r q some made h forth k again =
    same_step s t v r q h
    (subst (λ y. IsStep y v q) (back-before a b c s t u r some made forth k) again)

-- ---- changes in between

pub above-stored : (s t : Machine) (w x : ℕ) → AreAlikeAbove s t → AreAlikeAbove (state_with_store s w x) (state_with_store t w x)
above-stored s t w x h = record {
  size = length-set t.words w (register_word w x) ∙ h.size ∙ sym (length-set s.words w (register_word w x));
  words = λ i above. same-set s.words t.words w (register_word w x) i h.size (h.words i above);
}

above-unput : (n : ℕ) (places contents : List ℕ) (s t : Machine) → AreAlikeAbove s t
    → AreAlikeAbove (unput n places contents s) (unput n places contents t)
unfolding unput
above-unput zero places contents s t h = h
above-unput (suc n) places contents s t h =
    above-unput n places contents _ _ (above-stored s t (slice_index places n) (slice_index contents n) h)

above-restored : (w n f : ℕ) (xs : List ℕ) (s t : Machine) → AreAlikeAbove s t
    → AreAlikeAbove (state_with_words w n f xs s) (state_with_words w n f xs t)
unfolding state_with_words
above-restored w zero f xs s t h = h
above-restored w (suc n) f xs s t h =
    above-restored (w + 1) n (f + 1) xs _ _ (above-stored s t w (slice_index xs f) h)

-- after words 0 to 31 are restored, all words are equal
same-registers : (xs : List ℕ) (s t : Machine) → AreAlikeAbove s t → 32 ≤ length s.words
    → (state_with_words 0 32 0 xs t).words ≡ (state_with_words 0 32 0 xs s).words
same-registers xs s t h long =
    let u = state_with_words 0 32 0 xs s in
    let v = state_with_words 0 32 0 xs t in
    ext_get_or 0 v.words u.words (restored-size 0 32 0 xs t ∙ h.size ∙ sym (restored-size 0 32 0 xs s))
    (λ i inside.
    elim (leb_tells 32 i) [
      | inl p ↦
          let beside = inr p.1 in
          restored-other 0 32 0 xs t i beside ∙ h.words i p.1 ∙ sym (restored-other 0 32 0 xs s i beside)
      | inr p ↦
          let low : i < 32 = p.1 in
          let place : 0 + i ≡ i = omega arith in
          ap (λ k. word v k) (sym place)
          ∙ restored-in 0 32 0 xs t i low (omega (arith, h.size))
          ∙ sym (restored-in 0 32 0 xs s i low (omega arith))
          ∙ ap (λ k. word u k) place
    ])

unput-size : (n : ℕ) (places contents : List ℕ) (s : Machine) → length (unput n places contents s).words ≡ length s.words
unfolding unput
unput-size zero places contents s = refl
unput-size (suc n) places contents s =
    unput-size n places contents _ ∙ length-set s.words (slice_index places n) _

pub above-undone : (k : KeptStep) (s t : Machine) → IsMachine s → AreAlikeAbove s t → state_undone k t ≡ state_undone k s
unfolding state_undone
above-undone k s t m h =
    let q = k.trail.writes in
    let xs = k.trail.before in
    let a = unput k.puts k.places k.contents s in
    let b = unput k.puts k.places k.contents t in
    let alike = above-restored q.first2 q.len2 q.len xs _ _ (above-restored q.first q.len 0 xs a b (above-unput k.puts k.places k.contents s t h)) in
    let size = restored-size q.first2 q.len2 q.len xs (state_with_words q.first q.len 0 xs a) in
    let size_1 = restored-size q.first q.len 0 xs a in
    let size_0 = unput-size k.puts k.places k.contents s in
    ap
    (λ (ws : List ℕ).
    with_rest k.trail (record s { words = ws }))
    (same-registers k.trail.registers (restored_words q xs a) (restored_words q xs b) alike
    (omega (arith, size, size_1, size_0, m.size, words_of_storage_is)))

-- the undoing does not depend on the indicators and the orders
indicators-undone : (k : KeptStep) (s : Machine) (r q : Option Order) (x : ℕ) → IsMachine s
    → state_undone k (with_word (record s { reader = r; printer = q }) 11 x) ≡ state_undone k s
indicators-undone k s r q x m =
    above-undone k s (with_word (record s { reader = r; printer = q }) 11 x) m
    (record {
      size = length-set s.words 11 x;
      words = λ w above. get_or-set_other s.words 11 w x 0 (omega arith);
    })

pub signalled-undone : (k : KeptStep) (s : Machine) (i : ℕ) → IsMachine s → state_undone k (state_with_signal s i) ≡ state_undone k s
signalled-undone k s i m = indicators-undone k s s.reader s.printer _ m

pub printed-undone : (k : KeptStep) (s : Machine) → IsMachine s → state_undone k (printed_out s) ≡ state_undone k s
printed-undone k s m = indicators-undone k s s.reader None _ m

pub no_card-undone : (k : KeptStep) (s : Machine) (w : ℕ) → IsMachine s → state_undone k (read_in s w None) ≡ state_undone k s
no_card-undone k s w m = indicators-undone k s None s.printer _ m
