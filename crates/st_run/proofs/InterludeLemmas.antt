-- The external events of an overlapped machine between two entries, combined.
use Rattle.st_run.proofs.Common.{◌≡◌, ℕ, Bool, true, false, ◌||◌, List, Option, refl, sym, subst, ◌∙◌, ap, nat_lt, option_map, line_of_words, rests, beside-same, Overlap, Scene, interlude, with_due_orders, with_due_signals, has_card, has_waited, Together, scene_of, moment_of, AreTexts, IsBehindEntry, IsSince, PendingEvents, HasHappened, scene_at, ends_by, IsChanged, Interlude}
use Rattle.std.specs.Prelude.{length}
use Rattle.st_run.proofs.EventLemmas.{printed-texts}
use Rattle.st_run.proofs.PrintLemmas.{settled-one}

-- the effect of all external events: the scene, the printed text, and whether the segment has ended
pub record HasCome (b t : Together) (text : Option (List ℕ)) (over : Bool) : Type 0 where
  pub scene : scene_of t ≡ (interlude (scene_of b)).scene
  pub told : AreTexts text (interlude (scene_of b)).happened
  pub since : IsSince b.machine over t.machine
  pub ends : over ≡ (has_card (moment_of b) || has_waited (moment_of b))

-- the machine before any external event
pub since-none : (o : Overlap) → IsSince o false o
since-none o = record { machine = refl; alike = λ open_still. beside-same o.state }

or-change : (a b c d : Bool) → a ≡ d → b ≡ c → (a || b) ≡ (c || d)
or-change true b true d first next = refl
or-change true b false d first next = first
or-change false b true d first next = next
or-change false b false d first next = next ∙ first

abbrev pub with_pending : Overlap → PendingEvents → Together
with_pending m x = record { machine = m; signals = x.signals; cards = x.cards }

-- the external events of a machine at a moment are those of the plain run
pub come-between : (b : Together) (m n : Overlap) (x y : PendingEvents) (i : Interlude) (over : Bool) → with_pending m x ≡ b → IsBehindEntry b
    → HasHappened (λ (o : Overlap). o.state) IsChanged (interlude (scene_at m.state x))
    (rests (with_due_orders (with_due_signals (scene_at m.state x))).scene.machine) i m x n y
    → over ≡ ends_by i → HasCome b (with_pending n y) (option_map line_of_words i.words) over
come-between b m n x y i over view is came same =
    subst {A = Together} (λ t. IsBehindEntry t → HasCome t (with_pending n y) (option_map line_of_words i.words) over) view
    (λ behind. subst {A = Bool} (λ o. HasCome (with_pending m x) (with_pending n y) (option_map line_of_words i.words) o) (sym same)
    (record {
      scene = came.scene;
      told = printed-texts i.words _ (came.told (settled-one (scene_at m.state x)));
      since = came.rest.since (with_pending m x) false behind (since-none m);
      ends = or-change i.waited i.card (has_card (moment_of (with_pending m x))) _ came.wait
          (came.card ∙ ap (λ (c : Scene). nat_lt (length c.cards) (length x.cards)) came.scene);
    })) is
