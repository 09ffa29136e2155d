-- An observer is notified of the words of an entry, in order.
use Rattle.st_rows.proofs.Common.{Bool, map, if◌then◌else◌, nat_lt, ◌≡◌, ℕ, zero, suc, ◌+◌, ◌-◌, ◌≤◌, true, false, List, [], ◌∷◌, ◌++◌, refl, sym, ◌∙◌, ap, arith, words_of_storage, bus_after_request, followings, inside_wish, told, register_uses, use_of, behind_use, uses, wishes, unused, read_word, request_inside, Bus, Entry, Fetching, Past, Operand, Following, Use}
use Rattle.st_rows.specs.declared.uses.Supply.TheVariants.{Register}

-- two successive notifications are one notification of both lists
abbrev pub Joins : {A : Type 0} → (List Use → A → A) → Type 0
Joins noted = (a b : List Use) (m : _) → noted b (noted a m) ≡ noted (a ++ b) m

-- a notification of no words has no effect
abbrev pub Rests : {A : Type 0} → (List Use → A → A) → Type 0
Rests noted = (m : _) → noted [] m ≡ m

module _ {A : Type 0} (noted : List Use → A → A) (more : Joins noted) where
  pub told-two : (a b : List Use) (m n o : A) → n ≡ noted a m → o ≡ noted b n → o ≡ noted (a ++ b) m
  told-two a b m n o one two = two ∙ ap (noted b) one ∙ more a b m

  -- the notification of one register of a run, followed by that of the rest
  pub registers-turn : (w n : ℕ) (m o : A) → o ≡ noted (record { role = Operand; word = w; supply = Register } ∷ []) m → 1 ≤ n
      → noted (register_uses (w + 1) (n - 1)) o ≡ noted (register_uses w n) m
  unfolding register_uses
  registers-turn w zero m o one some = let no : ⊥ = omega arith in absurd no
  registers-turn w (suc n) m o one some =
      let e : suc n - 1 ≡ n = omega arith in
      rw (e, one) (more (record { role = Operand; word = w; supply = Register } ∷ []) (register_uses (w + 1) n) m)

  module _ (ds : List ℕ) (past : List Past) (p : ℕ) where
    -- the notification of one operand word of a run, followed by that of the rest
    pub told-turn : (w : ℕ) (s t : Fetching) (k : ℕ) (m n : A) → t ≡ read_word ds past s w p
        → n ≡ noted (told ds past (use_of ds past s (record { role = Operand; w = w; from = p }) ∷ [])) m → 1 ≤ k
        → noted (told ds past (uses ds past t (wishes Operand p (w + 1) (k - 1)))) n ≡ noted (told ds past (uses ds past s (wishes Operand p w k))) m
    unfolding uses wishes read_word
    told-turn w s t zero m n is one some = let no : ⊥ = omega arith in absurd no
    told-turn w s t (suc k) m n is one some =
        let e : suc k - 1 ≡ k = omega arith in
        let x = use_of ds past s (record { role = Operand; w = w; from = p }) in
        rw (e, one, is) (more (told ds past (x ∷ [])) (told ds past (uses ds past (behind_use ds past s x) (wishes Operand p (w + 1) k))) m)

    -- the notification of two operand words, followed by that of the rest
    pub told-behind : (w : ℕ) (s t u : Fetching) (k : ℕ) (m n o : A) → t ≡ read_word ds past s w p → u ≡ read_word ds past t (w + 1) p
        → n ≡ noted (told ds past (use_of ds past s (record { role = Operand; w = w; from = p }) ∷ [])) m
        → o ≡ noted (told ds past (use_of ds past t (record { role = Operand; w = w + 1; from = p }) ∷ [])) n → 2 ≤ k
        → noted (told ds past (uses ds past u (wishes Operand p (w + 2) (k - 2)))) o ≡ noted (told ds past (uses ds past s (wishes Operand p w k))) m
    told-behind w s t u k m n o is then_is one two some =
        let further : w + 2 ≡ w + 1 + 1 = omega arith in
        let less : k - 2 ≡ k - 1 - 1 = omega arith in
        rw (further, less)
        (told-turn (w + 1) t u (k - 1) n o then_is two (omega arith) ∙ told-turn w s t k m n is one (omega arith))

  -- the notification after the last word
  module _ (none : Rests noted) (ds : List ℕ) (past : List Past) (p : ℕ) where
    pub told-none : (w k : ℕ) (s : Fetching) (m : A) → k ≡ 0 → noted (told ds past (uses ds past s (wishes Operand p w k))) m ≡ m
    unfolding uses wishes
    told-none w k s m is = rw is (none m)

    -- the notification of a single operand word
    pub told-one : (w : ℕ) (s : Fetching) (k : ℕ) (m n : A) → n ≡ noted (told ds past (use_of ds past s (record { role = Operand; w = w; from = p }) ∷ [])) m → k ≡ 1
        → n ≡ noted (told ds past (uses ds past s (wishes Operand p w k))) m
    unfolding uses wishes
    told-one w s k m n one is = rw is one

  -- the notification of a following word, which may lie outside storage
  module _ (none : Rests noted) (ds : List ℕ) (b : Bus) (w p : ℕ) where
    pub told-outside : (m : A) → nat_lt w words_of_storage ≡ false → m ≡ noted (told ds [] (uses ds [] (unused b p) (inside_wish w p))) m
    unfolding uses
    told-outside m out = rw out (sym (none m))

    pub told-inside : (m n : A) → nat_lt w words_of_storage ≡ true
        → n ≡ noted (told ds [] (use_of ds [] (unused b p) (record { role = Following; w = w; from = p }) ∷ [])) m
        → n ≡ noted (told ds [] (uses ds [] (unused b p) (inside_wish w p))) m
    unfolding uses
    told-inside m n within one = rw within one

  -- the notification of both following words
  module _ (ds : List ℕ) (b : Bus) where
    both_if : (one two : Bool) (w v p : ℕ)
        → uses ds [] (unused b p) ((if one then record { role = Following; w = w; from = p } ∷ [] else []) ++ (if two then record { role = Following; w = v; from = p } ∷ [] else []))
        ≡ uses ds [] (unused b p) (if one then record { role = Following; w = w; from = p } ∷ [] else [])
        ++ uses ds [] (unused (if one then bus_after_request ds b w p else b) p) (if two then record { role = Following; w = v; from = p } ∷ [] else [])
    unfolding uses behind_use bus_after_request
    both_if true true w v p = refl
    both_if true false w v p = refl
    both_if false true w v p = refl
    both_if false false w v p = refl

    map-both : {X Y : Type 0} (f : X → Y) (xs ys : List X) → map f (xs ++ ys) ≡ map f xs ++ map f ys
    map-both f [] ys = refl
    map-both f (x ∷ xs) ys = ap (λ rest. f x ∷ rest) (map-both f xs ys)

    pub told-both : (d : Bus) (e : Entry) (p w : ℕ) (m n o : A) → e.follows ≡ true → w ≡ e.own.first + e.own.len → d ≡ request_inside ds b w p
        → n ≡ noted (told ds [] (uses ds [] (unused b p) (inside_wish w p))) m
        → o ≡ noted (told ds [] (uses ds [] (unused d p) (inside_wish (w + 1) p))) n
        → o ≡ noted (told ds [] (uses ds [] (unused b p) (followings e p))) m
    told-both d e p w m n o follows here is one two =
        let behind = uses ds [] (unused (request_inside ds b w p) p) (inside_wish (w + 1) p) in
        let first = uses ds [] (unused b p) (inside_wish w p) in
        rw (follows, ← here, both_if (nat_lt w words_of_storage) (nat_lt (w + 1) words_of_storage) w (w + 1) p, map-both _ first behind)
        (told-two (told ds [] first) (told ds [] behind) m n o one (two ∙ ap (λ (x : Bus). noted (told ds [] (uses ds [] (unused x p) (inside_wish (w + 1) p))) n) is))

-- the notification after the last register
pub registers-end : {A : Type 0} (noted : List Use → A → A) → Rests noted → (w n : ℕ) (m : A) → n ≡ 0 → m ≡ noted (register_uses w n) m
unfolding register_uses
registers-end noted none w zero m is = sym (none m)
registers-end noted none w (suc n) m is = let no : ⊥ = omega arith in absurd no
