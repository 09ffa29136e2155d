-- The moment at which the next entry of a machine completes.
use Rattle.st_run.proofs.Common.{is_some, if◌then◌else◌, IfSome, ◌≡◌, ℕ, ◌<◌, ◌≤◌, ◌^◌, Bool, true, false, List, Option, None, Some, refl, sym, ◌∙◌, ap, subst, Machine, plan, of_choice, plan-prepared, state_after_execution, is_mispredicted, interrupt, step, Scene, AreDelaysUpTo, row_of_entry, issue_after_entry, IssueState, Ahead, ahead, prepared_before, entry, Overlap, state_ahead, oldest_row, with_counter, levels_of, banks_at_its_end, machine_between_ticks, machine_after_completion, IsScene, Moment, Standing, next_row, issue_after, entries_behind, next_moment, Together, scene_of, IsBeforeEntry, IsBehindEntry, standing_of, moment_of, IsMachineReady, at_completion, interrupt-below}
use Rattle.st_run.proofs.SceneLemmas.{stepped-scene}
use Rattle.st_run.proofs.PredictionLemmas.{behind-right, behind-mispredicted}

-- a machine between two ticks
abbrev pub still : List ℕ → ℕ → Machine → IssueState → ℕ → Overlap
still ds n s f now = machine_between_ticks ds n s (interrupt s) f now

pub ready-still : (o : Overlap) → IsMachineReady o → o ≡ still o.delays o.levels o.state o.issue o.now
ready-still o h = h.between

module _ (ds : List ℕ) (n : ℕ) (c : Scene) (f : IssueState) (tick now : ℕ) where
  abbrev pub here : Standing
  here = record { scene = c; tick = tick; issue = f }

  abbrev pub quiet : Overlap
  quiet = still ds n c.machine f now

  abbrev pub done : Overlap
  done = machine_after_completion (at_completion quiet)

  abbrev pub together : Overlap → Together
  together o = record { machine = o; signals = c.signals; cards = c.cards }

  pub row-still : oldest_row quiet ≡ next_row ds n here
  unfolding oldest_row state_ahead next_row
  row-still = refl

  -- the entries in flight after the prediction, as the machine has them
  behind-same : IsScene c → (b : Bool) → (next_moment ds n here).mispredicted ≡ b
      → ahead ds n n None
      (with_counter (if b then Some (plan c.machine (interrupt c.machine)).following else None) (next_moment ds n here).scene.machine)
      (next_moment ds n here).issue
      ≡ entries_behind ds n here n
  behind-same is true mispredicted = sym (behind-mispredicted ds n n here is mispredicted)
  behind-same is false mispredicted = sym (behind-right ds n n here is mispredicted)

  mispredicted-same : (b : Bool) (h : ℕ) → is_some (if b then Some h else None) ≡ b
  mispredicted-same true h = refl
  mispredicted-same false h = refl

  pub moment-done : IsScene c → moment_of (together done) ≡ next_moment ds n here
  unfolding next_moment machine_after_completion oldest_row state_ahead next_row step levels_of banks_at_its_end
  moment-done is =
      let s = c.machine in
      let p = plan s (interrupt s) in
      let tick = (row_of_entry ds n f (entry (interrupt s) s)).c in
      let m : Moment = next_moment ds n here in
      let dropped : prepared_before tick
      (ahead ds n n None (with_counter (if is_mispredicted p s then Some p.following else None) (state_after_execution (interrupt s) s))
      (issue_after ds n here))
      ≡ m.dropped = ap (prepared_before tick) (behind-same is (is_mispredicted p s) refl) in
      ap (λ (b : Bool). record (moment_of (together done)) { mispredicted = b }) (mispredicted-same (is_mispredicted p s) p.following)
      ∙ ap (λ (xs : List Ahead). record m { dropped = xs }) dropped

-- the machine after the completion of the next entry corresponds to the next moment
pub moment-next : (t : Together) (tick : ℕ) → IsBeforeEntry t
    → moment_of (record t { machine = machine_after_completion (at_completion t.machine) })
    ≡ next_moment t.machine.delays t.machine.levels (standing_of tick t)
moment-next t tick h =
    let o = t.machine in
    ap {A = Overlap} (λ q. moment_of (record t { machine = machine_after_completion (at_completion q) })) (ready-still o h.ready)
    ∙ moment-done o.delays o.levels (scene_of t) o.issue tick o.now h.kept.scene

-- the machine right after the completion, before external events
behind-done : (t : Together) (f : IssueState) (now : ℕ) → 1 ≤ t.machine.levels → t.machine.levels ≤ 8 → AreDelaysUpTo 255 t.machine.delays
    → IsScene (scene_of t)
    → IsBehindEntry (record t { machine = machine_after_completion (at_completion (still t.machine.delays t.machine.levels t.machine.state f now)) })
unfolding machine_after_completion oldest_row state_ahead step row_of_entry issue_after_entry
behind-done t f now some few delays is = record {
  kept = record { some = some; few = few; delays = delays; scene = stepped-scene (scene_of t) is };
  banks = banks_at_its_end (at_completion (still t.machine.delays t.machine.levels t.machine.state f now));
  phase = refl;
  table = refl;
  counter =
      let s = t.machine.state in
      let p = plan s (interrupt s) in
      of_choice (λ (o : Option ℕ). IfSome o (λ h. h < 2 ^ 19)) (is_mispredicted p s) (Some p.following) None
      (plan-prepared s (interrupt s) is.machine (interrupt-below s)).following tt;
  last = refl;
}

pub behind-next : (t : Together) → IsBeforeEntry t → IsBehindEntry (record t { machine = machine_after_completion (at_completion t.machine) })
behind-next t h =
    subst {A = Overlap} (λ q. IsBehindEntry (record t { machine = machine_after_completion (at_completion q) })) (sym (ready-still t.machine h.ready))
    (behind-done t t.machine.issue t.machine.now h.kept.some h.kept.few h.kept.delays h.kept.scene)

-- the row of the next entry in the machine is that of the timed run
pub row-before : (t : Together) (tick : ℕ) → IsBeforeEntry t
    → oldest_row t.machine ≡ next_row t.machine.delays t.machine.levels (standing_of tick t)
row-before t tick h =
    let o = t.machine in
    ap oldest_row (ready-still o h.ready) ∙ row-still o.delays o.levels (scene_of t) o.issue tick o.now
