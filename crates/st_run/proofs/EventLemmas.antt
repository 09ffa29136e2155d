-- Successive external events of a machine.
use Rattle.st_run.proofs.Common.{nat_lt, option_map, map, if◌then◌else◌, option_or, nat_tests, ◌≡◌, ◌≤◌, ◌||◌, ◌++◌, ℕ, Bool, true, false, List, [], ◌∷◌, length, Option, None, Some, refl, ap, sym, subst, ◌∙◌, arith, length-append, Machine, next_device, Device, line_of_words, rests, Scene, Transition, PlainEvent, and_then, uneventful, with_device, with_order_at_rest, with_wait, AreTexts, reported_plain_event, PendingEvents, ArePrinted, HasHappened, scene_at, joined_of, ends_by, Interlude}
use Rattle.st_run.proofs.SignalLemmas.{wait-none}

abbrev pub nothing : Interlude
nothing = record { card = false; waited = false; words = None }

abbrev pub a_wait : Interlude
a_wait = record { card = false; waited = true; words = None }

-- the effect on the rest of the machine composes
abbrev pub Both : {A : Type 0} → (Bool → A → A → Type 0) → Type 0
Both leaves = (a b c : Bool) (m n o : _) → leaves a m n → leaves b n o → c ≡ (a || b) → leaves c m o

-- ---- cards

pub none-came : (n : ℕ) → false ≡ nat_lt n n
none-came n = grind (arith, nat_tests)

came-both : (a b c : ℕ) (one two : Bool) → b ≤ a → c ≤ b → one ≡ nat_lt b a → two ≡ nat_lt c b → (one || two) ≡ nat_lt c a
came-both a b c one two first second is_one is_two = rw (is_one, is_two) (grind (arith, nat_tests))

-- ---- prints

printed-joined : (t u : Option (List ℕ)) (xs ys : List PlainEvent) → (length xs ≤ 1 → ArePrinted t xs) → (length ys ≤ 1 → ArePrinted u ys)
    → length (xs ++ ys) ≤ 1 → ArePrinted (option_or t u) (xs ++ ys)
printed-joined None u [] ys first second few = second few
printed-joined None u (x ∷ xs) ys first second few =
    let one : length (x ∷ xs) ≤ 1 = omega (arith, length-append (x ∷ xs) ys) in
    absurd (cc (first one))
printed-joined (Some words) u [] ys first second few = absurd (cc (first (omega arith)).1)
printed-joined (Some words) u (x ∷ []) [] first second few = first (omega arith)
printed-joined (Some words) u (x ∷ []) (y ∷ ys) first second few = absurd (omega arith)
printed-joined (Some words) u (x ∷ z ∷ xs) ys first second few = absurd (omega arith)

-- printed words are reported as text
pub printed-texts : (t : Option (List ℕ)) (xs : List PlainEvent) → ArePrinted t xs → AreTexts (option_map line_of_words t) xs
printed-texts None xs is = ap (map reported_plain_event) (sym is)
printed-texts (Some words) xs is = ap (map reported_plain_event) (sym is.1)

words-none : (t : Option (List ℕ)) → option_or t None ≡ t
words-none None = refl
words-none (Some words) = refl

or-none : (b : Bool) → (b || false) ≡ b
or-none true = refl
or-none false = refl

-- ---- two external events

ends-both : (i j : Interlude) → ends_by (joined_of i j) ≡ (ends_by i || ends_by j)
ends-both i j = by i.waited i.card j.waited j.card
  where
    by : (a b c d : Bool) → ((a || c) || (b || d)) ≡ ((a || b) || (c || d))
    by true b c d = refl
    by false true true d = refl
    by false true false d = refl
    by false false true d = refl
    by false false false d = refl

pub came-then : {A : Type 0} (state : A → Machine) (leaves : Bool → A → A → Type 0) → Both leaves
    → (r : Transition) (f : Scene → Transition) (v w : Bool) (i j : Interlude) (m n o : A) (x y z : PendingEvents)
    → HasHappened state leaves r v i m x n y → HasHappened state leaves (f (scene_at (state n) y)) w j n y o z
    → HasHappened state leaves (and_then r f) (v || w) (joined_of i j) m x o z
came-then state leaves both r f v w i j m n o x y z first next =
    let same : f (scene_at (state n) y) ≡ f r.scene = ap f first.scene in
    record {
      scene = next.scene ∙ ap (λ (q : Transition). q.scene) same;
      told = printed-joined i.words j.words r.happened (f r.scene).happened first.told
          (subst (λ (q : Transition). length q.happened ≤ 1 → ArePrinted j.words q.happened) same next.told);
      card = came-both (length x.cards) (length y.cards) (length z.cards) i.card j.card first.fewer next.fewer first.card next.card;
      fewer = omega (arith, first.fewer, next.fewer);
      wait = ap (λ (b : Bool). b || j.waited) first.wait ∙ ap (λ (b : Bool). v || b) next.wait;
      rest = both (ends_by i) (ends_by j) _ m n o first.rest next.rest (ends-both i j);
    }

pub came-is : {A : Type 0} (state : A → Machine) (leaves : Bool → A → A → Type 0) (q r : Transition) (w : Bool) (i : Interlude)
    (m n : A) (x y : PendingEvents) → q ≡ r → HasHappened state leaves q w i m x n y → HasHappened state leaves r w i m x n y
came-is state leaves q r w i m n x y same came = subst (λ (t : Transition). HasHappened state leaves t w i m x n y) same came

-- no external event
pub came-none : {A : Type 0} (state : A → Machine) (leaves : Bool → A → A → Type 0) (m : A) (x : PendingEvents) → leaves false m m
    → HasHappened state leaves (uneventful (scene_at (state m) x)) false nothing m x m x
came-none state leaves m x same = record {
  scene = refl;
  told = λ few. refl;
  card = none-came (length x.cards);
  fewer = omega arith;
  wait = refl;
  rest = same;
}

both-nothing : (i : Interlude) → joined_of i nothing ≡ i
both-nothing i =
    ap (λ (b : Bool). record { card = b; waited = i.waited || false; words = option_or i.words None }) (or-none i.card)
    ∙ ap (λ (b : Bool). record { card = i.card; waited = b; words = option_or i.words None }) (or-none i.waited)
    ∙ ap (λ (t : Option (List ℕ)). record { card = i.card; waited = i.waited; words = t }) (words-none i.words)

-- ---- orders

-- the next order during a wait
pub order-awake : (c : Scene) → rests c.machine ≡ false → uneventful c ≡ with_order_at_rest c
unfolding with_order_at_rest
order-awake c awake = sym (ap (λ b. if b then with_device (next_device c.machine) c else uneventful c) awake)

pub order-at_rest : (c : Scene) (d : Option Device) → rests c.machine ≡ true → next_device c.machine ≡ d
    → with_device d c ≡ with_order_at_rest c
unfolding with_order_at_rest
order-at_rest c d resting next =
    sym (ap (λ b. if b then with_device (next_device c.machine) c else uneventful c) resting ∙ ap (λ x. with_device x c) next)

-- ---- signals

-- an external event after signals
pub came-behind : {A : Type 0} (state : A → Machine) (leaves : Bool → A → A → Type 0) → Both leaves
    → (f : Scene → Transition) (c : Scene) (w : Bool) (i : Interlude) (m n o : A) (x y z : PendingEvents)
    → scene_at (state n) y ≡ c → y.cards ≡ x.cards → leaves false m n → HasHappened state leaves (f (scene_at (state n) y)) w i n y o z
    → HasHappened state leaves (f c) w i m x o z
came-behind state leaves both f c w i m n o x y z reached cards left came =
    subst (λ d. HasHappened state leaves (f d) w i m x o z) reached
    (record {
      scene = came.scene;
      told = came.told;
      card = came.card ∙ ap (λ (ys : List (List ℕ)). nat_lt (length z.cards) (length ys)) cards;
      fewer = subst (λ (ys : List (List ℕ)). length z.cards ≤ length ys) cards came.fewer;
      wait = came.wait;
      rest = both false (ends_by i) _ m n o left came.rest refl;
    })

-- signals after an external event
pub came-signals : {A : Type 0} (state : A → Machine) (leaves : Bool → A → A → Type 0) → Both leaves
    → (r : Transition) (f : Scene → Scene) (w : Bool) (i : Interlude) (m n o : A) (x y z : PendingEvents)
    → HasHappened state leaves r w i m x n y → scene_at (state o) z ≡ f (scene_at (state n) y) → z.cards ≡ y.cards → leaves false n o
    → HasHappened state leaves (and_then r (λ c. uneventful (f c))) w i m x o z
came-signals state leaves both r f w i m n o x y z first came cards left =
    subst (λ b. HasHappened state leaves (and_then r (λ c. uneventful (f c))) b i m x o z) (or-none w)
    (subst (λ k. HasHappened state leaves (and_then r (λ c. uneventful (f c))) (w || false) k m x o z) (both-nothing i)
    (came-then state leaves both r (λ c. uneventful (f c)) w false i nothing m n o x y z first
    (record {
      scene = came;
      told = λ few. refl;
      card = none-came (length y.cards) ∙ ap (λ (ys : List (List ℕ)). nat_lt (length ys) (length y.cards)) (sym cards);
      fewer = rw cards (omega arith);
      wait = refl;
      rest = left;
    })))

-- ---- a wait

-- the machine is not at rest
pub came-awake : {A : Type 0} (state : A → Machine) (leaves : Bool → A → A → Type 0) → Both leaves
    → ((m : A) → leaves false m m) → (r : Transition) (i : Interlude) (m o : A) (x z : PendingEvents)
    → rests (state o) ≡ false → HasHappened state leaves r false i m x o z
    → HasHappened state leaves (and_then r with_wait) (rests r.scene.machine) i m x o z
came-awake state leaves both same r i m o x z awake came =
    let none = wait-none (scene_at (state o) z) awake in
    let goes : rests r.scene.machine ≡ false = ap (λ (c : Scene). rests c.machine) (sym came.scene) ∙ awake in
    subst (λ w. HasHappened state leaves (and_then r with_wait) w i m x o z) (sym goes)
    (subst (λ k. HasHappened state leaves (and_then r with_wait) false k m x o z) (both-nothing i)
    (came-then state leaves both r with_wait false false i nothing m o o x z z came
    (subst (λ q. HasHappened state leaves q false nothing o z o z) (sym none) (came-none state leaves o z (same o)))))

-- the machine is at rest, and the events that may end the wait follow
pub came-waiting : {A : Type 0} (state : A → Machine) (leaves : Bool → A → A → Type 0) → Both leaves
    → (r : Transition) (i j : Interlude) (m n o p : A) (x y z : PendingEvents)
    → rests (state n) ≡ true → HasHappened state leaves r false i m x n y → state o ≡ state n → leaves true n o
    → HasHappened state leaves (with_wait (scene_at (state o) y)) false j o y p z
    → HasHappened state leaves (and_then r with_wait) (rests r.scene.machine) (joined_of (joined_of i a_wait) j) m x p z
came-waiting state leaves both r i j m n o p x y z resting came kept left wait =
    let waits : rests r.scene.machine ≡ true = ap (λ (c : Scene). rests c.machine) (sym came.scene) ∙ resting in
    subst (λ w. HasHappened state leaves (and_then r with_wait) w (joined_of (joined_of i a_wait) j) m x p z) (sym waits)
    (came-then state leaves both r with_wait true false (joined_of i a_wait) j m o p x y z
    (record {
      scene = ap (λ (s : Machine). scene_at s y) kept ∙ came.scene;
      told = λ few. subst (λ t. ArePrinted t r.happened) (sym (words-none i.words)) (came.told few);
      card = or-none i.card ∙ came.card;
      fewer = came.fewer;
      wait = ap (λ (b : Bool). b || true) came.wait;
      rest = both (ends_by i) true _ m n o came.rest left (ends-both i a_wait);
    }) wait)
