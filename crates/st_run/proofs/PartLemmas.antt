-- External events between two entries do not change the delays and the number of levels.
use Rattle.st_run.proofs.Common.{if◌then◌else◌, ◌≡◌, ℕ, ◌+◌, Bool, true, false, length, Option, None, Some, refl, sym, ◌∙◌, subst, of_choice, rests, opening_issue, Ended, has_ended, closing, Overlap, levels_of, interrupt_due, banks_left, machine_after_segment, settled_by, IsSince, IsChoice, RunPhase, Before, AtEnd, Over, Decided}
use Rattle.st_ahead.specs.Calls.{machine_after_settling as settled_of}

-- two machines have equal delays and levels
pub record HasParts (o p : Overlap) : Type 0 where
  pub delays : p.delays ≡ o.delays
  pub levels : p.levels ≡ o.levels

parts-then : (o p q : Overlap) → HasParts o p → HasParts p q → HasParts o q
parts-then o p q first second = record { delays = second.delays ∙ first.delays; levels = second.levels ∙ first.levels }

ended-parts : (o : Overlap) → HasParts o (machine_after_segment o)
unfolding machine_after_segment
ended-parts o =
    of_choice (λ (q : Overlap). HasParts o q) (has_ended o.phase) o
    (record o { issue = opening_issue (banks_left (closing o.phase)) (o.now + 1 + length (levels_of o)); phase = Ended })
    (record { delays = refl; levels = refl }) (record { delays = refl; levels = refl })

settled-parts : (due : Option ℕ) (waits : Bool) (behind : Option ℕ) (o : Overlap) → HasParts o (settled_by due waits behind o)
settled-parts (Some i) waits behind o = record { delays = (ended-parts o).delays; levels = (ended-parts o).levels }
settled-parts None true behind o = ended-parts o
settled-parts None false (Some h) o = record { delays = (ended-parts o).delays; levels = (ended-parts o).levels }
settled-parts None false None o = record { delays = refl; levels = refl }

choice-parts : (turn : RunPhase) (left : ℕ) (over : Bool) (o p : Overlap) (d : Decided) → IsChoice turn left over o d p → HasParts o p
unfolding settled_of
choice-parts Before left over o p d h =
    subst {A = Overlap} (λ q. HasParts o q) (sym h.2.0) (settled-parts (interrupt_due o) (rests o.state) o.mispredicted o)
choice-parts (AtEnd resting) left over o p d h =
    subst {A = Overlap} (λ q. HasParts o q) (sym h.4) (record { delays = (ended-parts o).delays; levels = (ended-parts o).levels })
choice-parts Over left over o p d h = absurd h

closed-parts : (over : Bool) (o : Overlap) → HasParts o (if over then machine_after_segment o else o)
closed-parts true o = ended-parts o
closed-parts false o = record { delays = refl; levels = refl }

pub left-parts : (o m n : Overlap) (over : Bool) (left : ℕ) (d : Decided) → IsSince o over m → IsChoice d.turn left over m d n → HasParts o n
left-parts o m n over left d since choice =
    let closed : HasParts o m =
    subst {A = Overlap} (λ q. HasParts o q) (sym since.machine)
    (record { delays = (closed-parts over o).delays; levels = (closed-parts over o).levels }) in
    parts-then o m n closed (choice-parts d.turn left over m n d choice)
