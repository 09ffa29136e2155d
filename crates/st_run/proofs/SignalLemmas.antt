-- Signals that are taken one at a time.
use Rattle.st_run.proofs.Common.{nat_le, slice_get, option_map, ◌≡◌, ℕ, Bool, true, false, List, [], ◌∷◌, Some, refl, ap, subst, rules, Signal, Machine, state_with_signal, of_choice, rests, Scene, uneventful, with_signals_while, with_due_signals, with_signals_at_rest, with_wait, with_order_at_rest, PendingEvents, scene_at, signal_due}
use Rattle.std.specs.Prelude.{drop}

-- the scene after a signal is taken
abbrev pub with_signal : Signal → List Signal → Scene → Scene
with_signal x xs c = record c { machine = state_with_signal c.machine x.indicator; signals = xs }

pub kept-while : (P : Scene → Type 0) → ((c : Scene) (x : Signal) (xs : List Signal) → P c → P (with_signal x xs c))
    → (holds : Machine → Signal → Bool) (xs : List Signal) (c : Scene) → P c → P (with_signals_while holds xs c)
kept-while P keeps holds [] c is = is
kept-while P keeps holds (x ∷ xs) c is =
    of_choice P (holds c.machine x) (with_signals_while holds xs (with_signal x xs c)) c
    (kept-while P keeps holds xs (with_signal x xs c) (keeps c x xs is)) is

-- a due signal is taken
due-taken : (s : Machine) (xs : List Signal) (cards : List (List ℕ)) (i : ℕ) → signal_due s.done xs ≡ true
    → option_map (λ (x : Signal). x.indicator) (slice_get xs 0) ≡ Some i
    → with_due_signals (record { machine = state_with_signal s i; signals = drop 1 xs; cards = cards })
    ≡ with_due_signals (record { machine = s; signals = xs; cards = cards })
due-taken s [] cards i due some = search rules
due-taken s (x ∷ xs) cards i due some = grind (rules, some, due)

pub due-came : (s t : Machine) (x y : PendingEvents) (d i : ℕ) → signal_due d x.signals ≡ true → d ≡ s.done
    → option_map (λ (x : Signal). x.indicator) (slice_get x.signals 0) ≡ Some i → t ≡ state_with_signal s i
    → y ≡ record x { signals = drop 1 x.signals } → with_due_signals (scene_at t y) ≡ with_due_signals (scene_at s x)
due-came s t x y d i due same some sig left =
    simp (sig, left) (due-taken s x.signals x.cards i (subst (λ e. signal_due e x.signals ≡ true) same due) some)

-- a signal is taken while the machine is at rest
rest-taken : (s : Machine) (xs : List Signal) (cards : List (List ℕ)) (i : ℕ) → rests s ≡ true
    → option_map (λ (x : Signal). x.indicator) (slice_get xs 0) ≡ Some i
    → with_signals_at_rest (record { machine = state_with_signal s i; signals = drop 1 xs; cards = cards })
    ≡ with_signals_at_rest (record { machine = s; signals = xs; cards = cards })
rest-taken s [] cards i resting some = search rules
rest-taken s (x ∷ xs) cards i resting some = grind (rules, some, resting)

pub rest-came : (s t : Machine) (x y : PendingEvents) (i : ℕ) → rests s ≡ true
    → option_map (λ (x : Signal). x.indicator) (slice_get x.signals 0) ≡ Some i → t ≡ state_with_signal s i
    → y ≡ record x { signals = drop 1 x.signals } → with_signals_at_rest (scene_at t y) ≡ with_signals_at_rest (scene_at s x)
rest-came s t x y i resting some sig left = simp (sig, left) (rest-taken s x.signals x.cards i resting some)

-- no signal is taken if none is due or the machine is not at rest
pub due-over : (xs : List Signal) (c : Scene) (d : ℕ) → d ≡ c.machine.done → signal_due d xs ≡ false
    → with_signals_while (λ s x. nat_le x.count s.done) xs c ≡ c
due-over [] c d same none = refl
due-over (x ∷ xs) c d same none = rw (subst (λ e. nat_le x.count e ≡ false) same none) refl

pub rest-over : (xs : List Signal) (c : Scene) → rests c.machine ≡ false → with_signals_while (λ s x. rests s) xs c ≡ c
rest-over [] c awake = refl
rest-over (x ∷ xs) c awake = rw awake refl

-- without a wait, nothing has to end it
pub wait-none : (c : Scene) → rests c.machine ≡ false → with_wait c ≡ uneventful c
unfolding with_wait with_order_at_rest
wait-none c awake = simp awake (ap uneventful (rest-over c.signals c awake))
