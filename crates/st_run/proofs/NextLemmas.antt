-- Pending events precede the continuation of the run.
use Rattle.st_run.proofs.Common.{map, IsSome, ◌≡◌, ℕ, ◌<◌, ◌^◌, Bool, List, [], ◌∷◌, ◌++◌, sym, ◌∙◌, ap, subst, All-tail, levels_of, ReportedEvent, TimedReportedEvent, Together, OutputQueue, queued_events, at_once, rest_of, rest_by, told_at_end, IsRun, AreInTime, RunPhase}
use Rattle.st_run.proofs.ProgressLemmas.{Quiet, rest-quiet}
use Rattle.st_run.specs.declared.run_phase.RunPhase.TheVariants as turns

module _ (turn : RunPhase) (left tick : ℕ) (snaps : List ℕ) (w v : OutputQueue) (t : Together) (x y : ReportedEvent)
    (first : queued_events w t.machine.state ≡ x ∷ queued_events v t.machine.state) (same : x ≡ y) where
  pub next-tells : rest_of turn left tick snaps w t ≡ at_once tick t.machine.state y ∷ rest_of turn left tick snaps v t
  unfolding rest_of
  next-tells =
      let s = t.machine.state in
      ap {A = List ReportedEvent} (λ xs. map (at_once tick s) xs ++ rest_by turn left tick snaps t) first
      ∙ ap {A = ReportedEvent} (λ z. at_once tick s z ∷ (map (at_once tick s) (queued_events v s) ++ rest_by turn left tick snaps t)) same

  pub next-keeps : IsRun turn left tick snaps w t → (IsSome v.taken → IsSome w.taken) → IsRun turn left tick snaps v t
  next-keeps is kept = record {
    stands = is.stands;
    taken = λ some. is.taken (kept some);
    in_time =
        All-tail (λ (z : TimedReportedEvent). (z.tick < 2 ^ 63) × (z.done < 2 ^ 63)) (at_once tick t.machine.state y) (rest_of turn left tick snaps v t)
        (subst {A = List TimedReportedEvent} AreInTime next-tells is.in_time);
  }

-- without pending events, the phase determines the next event
module _ (turn : RunPhase) (left tick : ℕ) (snaps : List ℕ) (w v : OutputQueue) (t : Together) (quiet : Quiet w) (kept : v ≡ w)
    (is : IsRun turn left tick snaps w t) where
  pub still-quiet : Quiet v
  still-quiet = subst {A = OutputQueue} Quiet (sym kept) quiet

  pub still-run : IsRun turn left tick snaps v t
  still-run = subst {A = OutputQueue} (λ u. IsRun turn left tick snaps u t) (sym kept) is

  pub turn-run : (k : RunPhase) → turn ≡ k → IsRun k left tick snaps v t
  turn-run k same = subst {A = RunPhase} (λ k. IsRun k left tick snaps v t) same still-run

  pub turn-rest : (k : RunPhase) → turn ≡ k → rest_of turn left tick snaps w t ≡ rest_by k left tick snaps t
  turn-rest k same =
      rest-quiet turn left tick snaps w t quiet ∙ ap {A = RunPhase} (λ k. rest_by k left tick snaps t) same

  pub end-levels : (rests : Bool) → turn ≡ turns.AtEnd rests → levels_of t.machine ≡ []
  end-levels rests same = (turn-run (turns.AtEnd rests) same).stands

  pub end-in_time : (rests : Bool) → turn ≡ turns.AtEnd rests → AreInTime (told_at_end rests tick snaps t.machine.state)
  end-in_time rests same = subst {A = List TimedReportedEvent} AreInTime (turn-rest (turns.AtEnd rests) same) is.in_time
