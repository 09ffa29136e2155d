-- The second machine moves as the run does, and steps back restore the previous states.
use Rattle.st_top.proofs.Common.{◌≡◌, ◌≢◌, ◌≤◌, ◌<◌, ℕ, zero, suc, ◌+◌, ◌-◌, List, [], ◌∷◌, ◌++◌, true, false, nat_le, length, drop, refl, sym, ◌∙◌, ap, subst, arith, get_or-set_other, length-append, nat_tests, length-set, length-drop, drop-append-le, MatchOption, IfSome, IsSome, slice_get, Machine, IsMachine, word, with_word, state_with_store, Order, rests, IsStep, all_stored, read_in, Scene, interlude, PendingEvents, scene_at, step_made, KeptStep, Steps, none_of, newest_step, IsForth, IsStepKept, IsPut, has_room, states_before, between-states, forth-states, Beside, IsFreshStep, HasRoomForCard, IsOpen, IsKept, IsBesideReady, IsMoved, IsStepped, IsBeside}
use Rattle.std.specs.Prelude.{Option, None, Some, is_some}
use Rattle.circular_buffer.specs.Buffer.{keep_last}
use Rattle.st_exec.specs.declared.step.Step.{Step}
use Rattle.st_exec.specs.declared.step.Step.TheVariants.{Plain, Interrupt, Waits}
use Rattle.st_back.specs.Between.{AreAlikeAbove}
use Rattle.st_back.specs.Undone.{step_with_word}
use Rattle.st_top.specs.declared.beside.Noted.{Noted}

-- ---- the words from address 32

-- changes of the indicators and the orders do not affect the words from 32
pub alike-turned : (s : Machine) (r q : Option Order) (x : ℕ) → AreAlikeAbove s (with_word (record s { reader = r; printer = q }) 11 x)
alike-turned s r q x = record {
  size = length-set s.words 11 x;
  words = λ w above. get_or-set_other s.words 11 w x 0 (omega arith);
}

-- ---- moves without a step

pub room_same : (o q : Option Order) (ks : List KeptStep) → q ≡ o → HasRoomForCard o ks → HasRoomForCard q ks
room_same o q ks e h = subst (λ r. HasRoomForCard r ks) (sym e) h

-- the transition between two steps
pub moved_between : (m n : Noted) (x y : PendingEvents) → IsOpen m → scene_at n.state y ≡ (interlude (scene_at m.state x)).scene
    → IsKept false m n → IsMoved (scene_at m.state x, m.steps) (scene_at n.state y, n.steps) (interlude (scene_at m.state x)).scene
moved_between m n x y open_now scene kept = record { ready = kept.2 open_now; scene = scene; depth = kept.0; states = kept.1 }

-- ---- a step

not_waits : (s t : Machine) (r : Step) → rests s ≡ false → IsStep s t r → r ≢ Waits
not_waits s t Waits going step = absurd (cc)
not_waits s t Plain going step = λ e. cc
not_waits s t (Interrupt i) going step = λ e. cc

depth-forth : (old new : Steps) (s t : Machine) (r : Step) → IsForth old new s t r → new.depth ≡ old.depth
depth-forth old new s t Waits h = ap (λ k. k.depth) h
depth-forth old new s t Plain h = h.depth
depth-forth old new s t (Interrupt i) h = h.depth

-- the last item of a list is its newest step
newest-last : (ks : List KeptStep) (k : KeptStep) → slice_get (ks ++ k ∷ []) (length ks) ≡ Some k
newest-last [] k = refl
newest-last (j ∷ ks) k = newest-last ks k

newest-pushed : (ks : List KeptStep) (k : KeptStep) → newest_step (ks ++ k ∷ []) ≡ Some k
newest-pushed ks k =
    let same : length (ks ++ k ∷ []) - 1 ≡ length ks = omega (arith, length-append ks (k ∷ [])) in
    ap (λ n. slice_get (ks ++ k ∷ []) n) same ∙ newest-last ks k

newest-kept : (depth : ℕ) (ks : List KeptStep) (k : KeptStep) → 1 ≤ depth → newest_step (keep_last depth (ks ++ k ∷ [])) ≡ Some k
newest-kept depth ks k some =
    let n = length (ks ++ k ∷ []) - depth in
    let few : n ≤ length ks = omega (arith, length-append ks (k ∷ [])) in
    ap newest_step (drop-append-le n ks (k ∷ []) few) ∙ newest-pushed (drop n ks) k

pub fresh_when : (ks : List KeptStep) (k : KeptStep) → newest_step ks ≡ Some k → k.puts ≡ 0 → IsFreshStep ks
fresh_when ks k e none = subst (λ (o : Option KeptStep). MatchOption o ⊥ (λ j. j.puts ≡ 0)) (sym e) none

pub room_when : (o : Option Order) (ks : List KeptStep) → IsFreshStep ks → HasRoomForCard o ks
room_when None ks h = tt
room_when (Some order) ks h = h

kept-room : (old new : Steps) (s t : Machine) (o : Option Order) → 1 ≤ old.depth → IsStepKept old new s t → HasRoomForCard o new.kept
kept-room old new s t o some h =
    room_when o new.kept (fresh_when new.kept h.last (ap newest_step h.kept ∙ newest-kept old.depth old.kept h.last some) h.puts)

forth-room : (old new : Steps) (s t : Machine) (r : Step) → 1 ≤ old.depth → HasRoomForCard s.reader old.kept → IsStep s t r → IsForth old new s t r → HasRoomForCard t.reader new.kept
forth-room old new s t Waits some room step forth =
    subst (λ (k : Steps). HasRoomForCard t.reader k.kept) (sym forth) (subst (λ (m : Machine). HasRoomForCard m.reader old.kept) (sym step.1) room)
forth-room old new s t Plain some room step forth = kept-room old new s t t.reader some forth
forth-room old new s t (Interrupt i) some room step forth = kept-room old new s t t.reader some forth

forth-ready : (old new : Steps) (c : Scene) (t : Machine) (r : Step) → IsBesideReady (c, old) → IsStep c.machine t r → IsForth old new c.machine t r → IsBesideReady (record c { machine = t }, new)
forth-ready old new c t r h step forth =
    let depth = depth-forth old new c.machine t r forth in
    record {
      some = omega (arith, h.some, depth);
      few = omega (arith, h.few, depth);
      room = forth-room old new c.machine t r h.some h.room step forth;
    }

pub stepped_by : (old new : Steps) (c d : Scene) (t : Machine) (r : Step) → IsBesideReady (c, old) → rests c.machine ≡ false → IsStep c.machine t r → IsForth old new c.machine t r → d ≡ record c { machine = t } → IsStepped (c, old) (d, new)
stepped_by old new c d t r h going step forth same =
    let made : IsStepped (c, old) (record c { machine = t }, new) = record {
      ready = forth-ready old new c t r h step forth;
      scene = ap (λ (m : Machine). record c { machine = m }) (step_made c.machine t r going step);
      depth = depth-forth old new c.machine t r forth;
      states = forth-states old new c.machine t r (not_waits c.machine t r going step) forth;
    } in
    subst (λ (e : Scene). IsStepped (c, old) (e, new)) (sym same) made

-- ---- the run of the second machine

pub beside_settled : (back : ℕ) (b d : Beside) (c : Scene) (before : List Machine) → IsMoved b d c → IsBeside back b before → IsBeside back d before
beside_settled back b d c before h k = record { some = k.some; ready = h.ready; deep = h.depth ∙ k.deep; states = h.states ∙ k.states }

drop-none : (a : ℕ) → drop {A = Machine} a [] ≡ []
drop-none zero = refl
drop-none (suc a) = refl

drop-drop : (a m : ℕ) (xs : List Machine) → drop a (drop m xs) ≡ drop (m + a) xs
drop-drop a zero xs = let same : a ≡ 0 + a = omega arith in ap (λ k. drop k xs) same
drop-drop a (suc m) [] = drop-none a ∙ sym (drop-none (suc m + a))
drop-drop a (suc m) (x ∷ xs) =
    let same : suc (m + a) ≡ suc m + a = omega arith in drop-drop a m xs ∙ ap (λ k. drop k (x ∷ xs)) same

keep-more : (n : ℕ) (xs : List Machine) (x : Machine) → 1 ≤ n → keep_last n (keep_last n xs ++ x ∷ []) ≡ keep_last n (xs ++ x ∷ [])
keep-more n xs x some =
    let m = length xs - n in
    let ys = drop m xs in
    let size = length-drop m xs in
    let a = length (ys ++ x ∷ []) - n in
    let long = length-append xs (x ∷ []) in
    let short = length-append ys (x ∷ []) in
    let b = length (xs ++ x ∷ []) - n in
    let first : a ≤ length ys = omega (arith, short) in
    let second : b ≤ length xs = omega (arith, long) in
    let sum : m + a ≡ b = omega (arith, size, long, short) in
    drop-append-le a ys (x ∷ []) first
    ∙ (ap (λ zs. zs ++ x ∷ []) (drop-drop a m xs ∙ ap (λ k. drop k xs) sum) ∙ sym (drop-append-le b xs (x ∷ []) second))

pub beside_stepped : (back : ℕ) (b d : Beside) (before : List Machine) → IsStepped b d → IsBeside back b before → IsBeside back d (before ++ b.0.machine ∷ [])
beside_stepped back b d before h k = record {
  some = k.some;
  ready = h.ready;
  deep = h.depth ∙ k.deep;
  states = h.states ∙ (ap (λ n. keep_last n (states_before b.1.kept b.0.machine ++ b.0.machine ∷ [])) k.deep
      ∙ (ap (λ (ss : List Machine). keep_last back (ss ++ b.0.machine ∷ [])) k.states ∙ keep-more back before b.0.machine k.some));
}

-- ---- a card that is put

pub put-fresh : (old new : Steps) (s t : Machine) (w x n : ℕ) → IsPut old new s t w x → MatchOption (newest_step old.kept) ⊥ (λ k. k.puts ≡ n) → MatchOption (newest_step new.kept) ⊥ (λ k. k.puts ≡ n + 1)
put-fresh old new s t w x n h puts =
    let last : h.last.puts ≡ n = subst (λ (o : Option KeptStep). MatchOption o ⊥ (λ k. k.puts ≡ n)) (ap newest_step h.was ∙ newest-pushed h.others h.last) puts in
    let more : (step_with_word h.last w (word s w)).puts ≡ n + 1 = ap (λ k. k + 1) last in
    subst (λ (o : Option KeptStep). MatchOption o ⊥ (λ k. k.puts ≡ n + 1)) (sym (ap newest_step h.is ∙ newest-pushed h.others (step_with_word h.last w (word s w)))) more

pub room_at : (o : Option KeptStep) (n : ℕ) → MatchOption o ⊥ (λ k. k.puts ≡ n) → n < 8 → has_room o ≡ true
room_at None n puts few = absurd puts
room_at (Some k) n puts few = let most : nat_le k.puts 7 ≡ true = grind (arith, nat_tests, puts, few) in most

-- ---- the reader and the printer

all_stored-reader : (m : Machine) (w : ℕ) (xs : List ℕ) → (all_stored m w xs).reader ≡ m.reader
unfolding all_stored
all_stored-reader m w [] = refl
all_stored-reader m w (x ∷ xs) = all_stored-reader (state_with_store m w x) (w + 1) xs

read_in-free : (m : Machine) (w : ℕ) (card : Option (List ℕ)) → (read_in m w card).reader ≡ None
read_in-free m w None = refl
read_in-free m w (Some card) = all_stored-reader (record m { reader = None }) w card

-- the reader's order has taken effect
pub read-kept : (o : Option Order) (m n : Noted) (card : Option (List ℕ)) → IsSome o
    → IfSome o (λ order. n.state ≡ read_in m.state order.word card) → n.steps.depth ≡ m.steps.depth
    → states_before n.steps.kept n.state ≡ states_before m.steps.kept m.state → IsKept (is_some card) m n
read-kept None m n card some read depth states = absurd (cc some)
read-kept (Some order) m n card some read depth states =
    let free : n.state.reader ≡ None = ap (λ (s : Machine). s.reader) read ∙ read_in-free m.state order.word card in (
      depth,
      states,
      λ now. record {
        some = omega (arith, now.some, depth);
        few = omega (arith, now.few, depth);
        room = room_same None n.state.reader n.steps.kept free tt;
      },
    )

-- changes of the indicators and the orders do not affect the states that steps back restore
pub states_beside : (ks : List KeptStep) (s : Machine) (r q : Option Order) (x : ℕ) → IsMachine s → states_before ks (with_word (record s { reader = r; printer = q }) 11 x) ≡ states_before ks s
states_beside ks s r q x m = between-states ks s (with_word (record s { reader = r; printer = q }) 11 x) m (alike-turned s r q x)

-- ---- the start

nothing_kept : (back : ℕ) (ks : List KeptStep) (s : Machine) → ks ≡ [] → states_before ks s ≡ keep_last {X = Machine} back []
unfolding states_before
nothing_kept back ks s none = ap (λ js. states_before js s) none ∙ sym (drop-none (0 - back))

pub begins_beside : (back : ℕ) (k : Steps) (b : Scene) → 1 ≤ back → back ≤ 64 → k ≡ none_of back → b.machine.reader ≡ None → IsBeside back (b, k) []
begins_beside back k b some few none free =
    let depth : k.depth ≡ back = ap (λ j. j.depth) none in
    record {
      some = some;
      ready = record {
        some = omega (arith, some, depth);
        few = omega (arith, few, depth);
        room = room_same None b.machine.reader k.kept free tt;
      };
      deep = depth;
      states = nothing_kept back k.kept b.machine (ap (λ j. j.kept) none);
    }

pub states_unread : (ks : List KeptStep) (s : Machine) (r : Option Order) → IsMachine s → states_before ks (record s { reader = r }) ≡ states_before ks s
states_unread ks s r m = between-states ks s (record s { reader = r }) m (record { size = refl; words = λ w above. refl })
