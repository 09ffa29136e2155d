-- The transition between two entries of a run without cards.
use Rattle.st_sweep.proofs.Common.{◌||◌, ◌&&◌, not, nat_lt, ◌≡◌, ◌≤◌, ℕ, Bool, List, [], ◌∷◌, length, refl, sym, subst, ◌∙◌, ap, arith, Machine, rests, Signal, Scene, with_due_signals, with_due_orders, interlude, PendingEvents, scene_at, is_hazard_free_interlude, without_cards}

none-left : (cards : List (List ℕ)) → length cards ≤ 0 → cards ≡ []
none-left [] few = refl
none-left (card ∷ cards) few = absurd (omega (arith, few))

-- there was no card, and there is none afterwards
module _ (s t : Machine) (xs ys : List Signal) (x y : PendingEvents) (is : x ≡ record { signals = xs; cards = [] })
    (scene : scene_at t y ≡ (interlude (scene_at s x)).scene) (fewer : length y.cards ≤ length x.cards) (left : ys ≡ y.signals) where
  pub settled-scene : (interlude (without_cards s xs)).scene ≡ without_cards t ys
  settled-scene =
      sym (subst (λ (z : PendingEvents). scene_at t y ≡ (interlude (scene_at s z)).scene) is scene)
      ∙ ap (λ (cards : List (List ℕ)). scene_at t (record y { cards = cards }))
      (none-left y.cards (subst (λ (z : PendingEvents). length y.cards ≤ length z.cards) is fewer))
      ∙ ap (without_cards t) (sym left)

  pub settled-quiet : (waited : Bool)
      → waited ≡ rests (with_due_orders (with_due_signals (scene_at s x))).scene.machine
      → is_hazard_free_interlude (without_cards s xs) ≡ (rests t || not waited)
  unfolding is_hazard_free_interlude
  settled-quiet waited wait =
      ap (λ (after : Scene). not (nat_lt (length after.cards) 0) && (rests after.machine || not (rests (with_due_orders (with_due_signals (without_cards s xs))).scene.machine))) settled-scene
      ∙ ap (λ (b : Bool). rests t || not b)
      (sym (subst (λ (z : PendingEvents). waited ≡ rests (with_due_orders (with_due_signals (scene_at s z))).scene.machine) is wait))
