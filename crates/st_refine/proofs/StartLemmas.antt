-- A machine has the delays and levels of the machine from which its calls started.
use Rattle.st_refine.proofs.Common.{◌≡◌, ℕ, Bool, true, false, List, Option, None, Some, refl, ◌∙◌, rests, cond_both, Ticked, Overlap, interrupt_due, is_done, machine_after_tick, machine_after_completion, machine_after_settling, settled_by, read_in_by, IsReached, Starts, Ticks, Settles, Signals, Reads, Prints, Stops, start_of}
use Rattle.st_refine.proofs.Kept.{ended-rest}
use Rattle.st_refine.proofs.InTime.{ticked-delays, settled-delays, read-delays}

pub start-delays : {m : Overlap} {made since : ℕ} (reached : IsReached m made since) → m.delays ≡ (start_of reached).delays
start-delays (Starts ds n s can) = refl
start-delays (Ticks m made since reached may) = ticked-delays m ∙ start-delays reached
start-delays (Settles m made since reached may) = settled-delays m ∙ start-delays reached
start-delays (Signals m made since i reached known may) = start-delays reached
start-delays (Reads m made since order card reached given fits may) = read-delays order.word m card ∙ start-delays reached
start-delays (Prints m made since reached given may) = start-delays reached
start-delays (Stops m made since reached may) = (ended-rest m).delays ∙ start-delays reached

ticked-levels : (m : Overlap) → (machine_after_tick m).levels ≡ m.levels
unfolding machine_after_tick machine_after_completion
ticked-levels m =
    cond_both (is_done m) (machine_after_completion m) (record m { phase = Ticked }) (λ (x : Overlap). x.levels ≡ m.levels)
    (λ done. refl) (λ not_done. refl)

settled_by-levels : (due behind : Option ℕ) (resting : Bool) (m : Overlap) → (settled_by due resting behind m).levels ≡ m.levels
settled_by-levels (Some i) behind resting m = (ended-rest m).levels
settled_by-levels None behind true m = (ended-rest m).levels
settled_by-levels None (Some h) false m = (ended-rest m).levels
settled_by-levels None None false m = refl

settled-levels : (m : Overlap) → (machine_after_settling m).levels ≡ m.levels
unfolding machine_after_settling
settled-levels m = settled_by-levels (interrupt_due m) m.mispredicted (rests m.state) m

read-levels : (w : ℕ) (m : Overlap) (card : Option (List ℕ)) → (read_in_by w card m).levels ≡ m.levels
read-levels w m None = refl
read-levels w m (Some card) = (ended-rest m).levels

pub start-levels : {m : Overlap} {made since : ℕ} (reached : IsReached m made since) → m.levels ≡ (start_of reached).levels
start-levels (Starts ds n s can) = refl
start-levels (Ticks m made since reached may) = ticked-levels m ∙ start-levels reached
start-levels (Settles m made since reached may) = settled-levels m ∙ start-levels reached
start-levels (Signals m made since i reached known may) = start-levels reached
start-levels (Reads m made since order card reached given fits may) = read-levels order.word m card ∙ start-levels reached
start-levels (Prints m made since reached given may) = start-levels reached
start-levels (Stops m made since reached may) = (ended-rest m).levels ∙ start-levels reached
