-- The bound of the ticks between completions.
use Rattle.st_refine.proofs.Common.{All, IfSome, IsSome, if◌then◌else◌, ◌≡◌, ℕ, ◌+◌, ◌*◌, ◌≤◌, Bool, true, false, List, [], ◌∷◌, length, inl, inr, Option, None, Some, refl, sym, subst, ◌∙◌, ap, arith, cases_Bool, eqb-true, cond_both, All-replicate, All-weaker, AskedWord, Machine, state_with_store, state_with_signal, plan, state_after_execution, rests, all_stored, read_in, printed_out, LastAnswers, AreDelaysUpTo, IsEntryInTime, IsTight, IsNear, row_of_entry, opening_issue, address_tick, preparation_tick, tick_a, tick_p, tick_c, made_before, Read, Bus, Entry, Past, IssueState, ready-after, made-bounds, entry, entry-ranges, Ready, Ticked, Ended, Stopped, is_owed, has_ended, closing, Overlap, state_ahead, oldest_entry, oldest_row, levels_of, banks_at_its_end, interrupt_due, is_done, machine_after_completion, machine_after_tick, banks_left, machine_after_segment, run_ended, machine_after_pass, machine_after_settling, settled_by, read_in_by, IsReached, Starts, Ticks, Settles, Signals, Reads, Prints, Stops}
use Rattle.std.proofs.Math.Nat.{mul-add}
use Rattle.st_exec.proofs.Unchanged.{completed-done}
use Rattle.st_banks.specs.declared.answers.TheConstants.{BANKS}
use Rattle.st_rows.proofs.Stages.{c-within}
use Rattle.st_rows.proofs.Tight.{tight-after}
use Rattle.st_refine.proofs.LevelLists.{few-before}
use Rattle.st_refine.proofs.Kept.{ticks_made, IsIdle, IsKept, idle-none, idle-of, fresh-of, has_completed, served, settling, closing-some, kept, seen-idle, after-oldest, made-settled, made-owed, ended-rest, settled-idle_is}

-- ---- issue states

pub opening-tight : (most start : ℕ) (banks : LastAnswers) → All (λ t. t ≤ start + most) banks.ticks → IsTight most (opening_issue banks start)
opening-tight most start banks soon = record {
  prepared = omega arith;
  done = record { each = All-replicate (λ (entry : Past). entry.c ≤ start) 8 _ (omega arith) };
  free = omega arith;
  near = record {
    free = omega arith;
    banks = soon;
    held = All-replicate (λ (h : AskedWord). h.tick ≤ start + most) 4 _ (omega arith);
  };
}

pub free-before_done : (ds : List ℕ) (n : ℕ) (f : IssueState) (e : Entry) → IsEntryInTime e → f.bus.free ≤ (row_of_entry ds n f e).c
unfolding row_of_entry tick_a tick_p tick_c address_tick preparation_tick
free-before_done ds n f e is = omega (arith, is.costs.0, ready-after ds n f e)

row-within : (most : ℕ) (ds : List ℕ) (n : ℕ) (f : IssueState) (e : Entry) → AreDelaysUpTo most ds → IsEntryInTime e → IsTight most f
    → (row_of_entry ds n f e).c ≤ f.c + 40 * most + 65
unfolding row_of_entry
row-within most ds n f e are is tight = c-within most ds are f e is tight n

-- the banks after the reads that are made before a tick
made-soon : (most : ℕ) (ds : List ℕ) (t : ℕ) (reads : List Read) (b : Bus) → AreDelaysUpTo most ds → IsNear most b → b.free ≤ t
    → All (λ x. x ≤ t + most) (made_before ds t reads b).banks.ticks
made-soon most ds t reads b are near free =
    let bounds = made-bounds most ds are t reads b near free in
    let c = made_before ds t reads b in
    All-weaker (λ x. x ≤ c.free + most) (λ x. x ≤ t + most) (λ x low. omega (arith, bounds.1)) c.banks.ticks bounds.0.banks

-- ---- the invariant of the ticks, with a bound of the delays

pub record IsWithin (most : ℕ) (m : Overlap) (made since : ℕ) : Type 0 where
  pub tight : IsTight most m.issue
  pub banks : IfSome (closing m.phase) (λ b. All (λ t. t ≤ m.now + most) b.ticks)
  pub ticks : made ≡ ticks_made m
  pub near : m.issue.c + since ≤ made + 8
  pub fresh : has_completed m.phase ≡ true → since ≡ 0

pub levels-few : (m : Overlap) → length (levels_of m) ≤ m.levels
unfolding levels_of
levels-few m = few-before m.delays m.levels m.now m.levels m.taken (state_ahead m) m.issue

left-soon : (most : ℕ) (m : Overlap) (c : Option LastAnswers) → IsSome c → IfSome c (λ b. All (λ t. t ≤ m.now + most) b.ticks)
    → All (λ t. t ≤ m.now + most) (banks_left c).ticks
left-soon most m None some soon = absurd (cc some)
left-soon most m (Some banks) some soon = soon

opened : Overlap → Overlap
opened m = record m { issue = opening_issue (banks_left (closing m.phase)) (m.now + 1 + length (levels_of m)); phase = Ended }

-- ---- each call

within-ended : (most made since : ℕ) (m : Overlap) → IsKept m → has_completed m.phase ≡ true → IsWithin most m made since → IsWithin most (machine_after_segment m) made since
unfolding machine_after_segment
within-ended most made since m is some w =
    let fresh = fresh-of m is some in
    let start = m.now + 1 + length (levels_of m) in
    let none : since ≡ 0 = w.fresh some in
    let owed : ticks_made m ≡ m.now + 1 = made-owed m.phase m.now fresh.owed in
    cond_both (has_ended m.phase) m _ (λ (x : Overlap). IsWithin most x made since)
    (λ over. w)
    (λ going. record {
      tight =
          opening-tight most start (banks_left (closing m.phase))
          (All-weaker (λ t. t ≤ m.now + most) (λ t. t ≤ start + most) (λ t low. omega arith) (banks_left (closing m.phase)).ticks
          (left-soon most m (closing m.phase) (closing-some m.phase some going) w.banks));
      banks = tt;
      ticks = w.ticks ∙ owed;
      near = omega (arith, none, w.ticks, owed, levels-few m, is.few);
      fresh = λ again. none;
    })

within-passed : (most made since : ℕ) (m : Overlap) → is_owed m.phase ≡ true → IsWithin most m made since → IsWithin most (machine_after_pass m) made since
within-passed most made since m owed w =
    let fresh : has_completed (machine_after_pass m).phase ≡ true → since ≡ 0 = λ some. absurd (cc some) in
    assumption (w.ticks ∙ made-owed m.phase m.now owed)

within-table : (most made since : ℕ) (m : Overlap) (t : Option ℕ) → IsWithin most m made since → IsWithin most (record m { taken = t }) made since
within-table most made since m t w = record { tight = w.tight; banks = w.banks; ticks = w.ticks; near = w.near; fresh = w.fresh }

within-state : (most made since : ℕ) (m : Overlap) (s : Machine) → IsWithin most m made since → IsWithin most (record m { state = s }) made since
within-state most made since m s w = record { tight = w.tight; banks = w.banks; ticks = w.ticks; near = w.near; fresh = w.fresh }

within-stopped : (most made since : ℕ) (m : Overlap) → is_owed m.phase ≡ true → has_completed m.phase ≡ true → IsWithin most m made since
    → IsWithin most (record m { phase = Stopped }) made since
within-stopped most made since m owed some w =
    record { tight = w.tight; banks = tt; ticks = w.ticks ∙ made-owed m.phase m.now owed; near = w.near; fresh = λ again. w.fresh some }

within-settled_fresh : (due behind : Option ℕ) (resting : Bool) (most made since : ℕ) (m : Overlap) → IsKept m → has_completed m.phase ≡ true
    → IsWithin most m made since → IsWithin most (settled_by due resting behind m) made since
within-settled_fresh (Some i) behind resting most made since m is some w =
    within-passed most made since (record (machine_after_segment m) { taken = Some i }) (ended-rest m).owed
    (within-table most made since (machine_after_segment m) (Some i) (within-ended most made since m is some w))
within-settled_fresh None behind true most made since m is some w = within-ended most made since m is some w
within-settled_fresh None (Some h) false most made since m is some w =
    within-passed most made since (machine_after_segment m) (ended-rest m).owed (within-ended most made since m is some w)
within-settled_fresh None None false most made since m is some w = within-passed most made since m (fresh-of m is some).owed w

within-settled : (most made since : ℕ) (m : Overlap) → IsKept m → is_owed m.phase ≡ true → IsWithin most m made since → IsWithin most (machine_after_settling m) made since
unfolding machine_after_settling
within-settled most made since m is owed w = elim (cases_Bool (has_completed m.phase)) [
  | inr none ↦ let idle : IsIdle m = idle-none m is none in
      subst (λ (x : Overlap). IsWithin most x made since) (sym (settled-idle_is m idle)) (within-passed most made since m owed w)
  | inl some ↦ within-settled_fresh (interrupt_due m) m.mispredicted (rests m.state) most made since m is some w
]

within-ticked : (most made since : ℕ) (m : Overlap) → AreDelaysUpTo most m.delays → IsKept m → m.phase ≡ Ready → IsWithin most m made since
    → IsWithin most (machine_after_tick m) (made + 1) (if is_done m then 0 else since + 1)
unfolding machine_after_tick machine_after_completion banks_at_its_end oldest_row
within-ticked most made since m are is over w =
    let idle : IsIdle m = idle-of m is over in
    let same = seen-idle m idle.going idle.right in
    let e = oldest_entry m in
    let fits : IsEntryInTime e = subst (λ s. IsEntryInTime (entry m.taken s)) (sym same) (entry-ranges m.taken m.state is.machine is.indicator) in
    let now : made ≡ m.now = w.ticks ∙ made-settled m.phase m.now over in
    by-done (is_done m) fits now refl
  where
    by-done : (b : Bool) → IsEntryInTime (oldest_entry m) → made ≡ m.now → is_done m ≡ b
        → IsWithin most (if b then machine_after_completion m else record m { phase = Ticked }) (made + 1) (if b then 0 else since + 1)
    by-done true fits now done =
        let e = oldest_entry m in
        let due : (row_of_entry m.delays m.levels m.issue e).c ≡ m.now = eqb-true (row_of_entry m.delays m.levels m.issue e).c m.now done in
        let free : m.issue.bus.free ≤ m.now = omega (arith, due, free-before_done m.delays m.levels m.issue e fits) in
        record {
          tight = tight-after most m.delays are m.levels m.issue e fits w.tight;
          banks = made-soon most m.delays m.now _ m.issue.bus are w.tight.near free;
          ticks = ap (λ k. k + 1) now;
          near = omega (arith, now, due, after-oldest m);
          fresh = λ some. refl;
        }
    by-done false fits now done = record {
      tight = w.tight;
      banks = tt;
      ticks = ap (λ k. k + 1) now;
      near = omega (arith, w.near);
      fresh = λ some. absurd (cc some);
    }

-- ---- all calls

pub ticked-delays : (m : Overlap) → (machine_after_tick m).delays ≡ m.delays
unfolding machine_after_tick machine_after_completion
ticked-delays m =
    cond_both (is_done m) (machine_after_completion m) (record m { phase = Ticked }) (λ (x : Overlap). x.delays ≡ m.delays) (λ done. refl) (λ not_done. refl)

settled_by-delays : (due behind : Option ℕ) (resting : Bool) (m : Overlap) → (settled_by due resting behind m).delays ≡ m.delays
settled_by-delays (Some i) behind resting m = (ended-rest m).delays
settled_by-delays None behind true m = (ended-rest m).delays
settled_by-delays None (Some h) false m = (ended-rest m).delays
settled_by-delays None None false m = refl

pub settled-delays : (m : Overlap) → (machine_after_settling m).delays ≡ m.delays
unfolding machine_after_settling
settled-delays m = settled_by-delays (interrupt_due m) m.mispredicted (rests m.state) m

read-within : (most made since w : ℕ) (m : Overlap) (card : Option (List ℕ)) → IsKept m → has_completed m.phase ≡ true → IsWithin most m made since
    → IsWithin most (read_in_by w card m) made since
read-within most made since w m None is some h = within-state most made since m _ h
read-within most made since w m (Some card) is some h = within-state most made since (machine_after_segment m) _ (within-ended most made since m is some h)

pub read-delays : (w : ℕ) (m : Overlap) (card : Option (List ℕ)) → (read_in_by w card m).delays ≡ m.delays
read-delays w m None = refl
read-delays w m (Some card) = (ended-rest m).delays

pub within : (most : ℕ) {m : Overlap} {made since : ℕ} → IsReached m made since → AreDelaysUpTo most m.delays → IsWithin most m made since
within most (Starts ds n s can) are = record {
  tight = opening-tight most 0 _ (All-replicate (λ t. t ≤ 0 + most) BANKS 0 (omega arith));
  banks = tt;
  ticks = refl;
  near = omega arith;
  fresh = λ some. absurd (cc some);
}
within most (Ticks m made since from may) are =
    let same = subst (AreDelaysUpTo most) (ticked-delays m) are in
    within-ticked most made since m same (kept from) may.ready (within most from same)
within most (Settles m made since from may) are =
    within-settled most made since m (kept from) (settling m.phase may) (within most from (subst (AreDelaysUpTo most) (settled-delays m) are))
within most (Signals m made since i from known may) are = within-state most made since m _ (within most from are)
within most (Reads m made since order card from given fits may) are =
    read-within most made since order.word m card (kept from) (served m.phase may) (within most from (subst (AreDelaysUpTo most) (read-delays order.word m card) are))
within most (Prints m made since from given may) are = within-state most made since m _ (within most from are)
within most (Stops m made since from may) are =
    within-stopped most made since (machine_after_segment m) (ended-rest m).owed (ended-rest m).done
    (within-ended most made since m (kept from) (served m.phase may) (within most from (subst (AreDelaysUpTo most) (ended-rest m).delays are)))

pub made-ticks : {m : Overlap} {made since : ℕ} → IsReached m made since → made ≡ ticks_made m
made-ticks {m} from = (within 255 from (kept from).delays).ticks

pub in-time : (m : Overlap) (made since most : ℕ) → IsReached m made since → AreDelaysUpTo most m.delays → since ≤ 64 * (most + 4)
in-time m made since most from are =
    let w = within most from are in
    let is = kept from in
    elim (cases_Bool (has_completed m.phase)) [
      | inr none ↦ let idle : IsIdle m = idle-none m is none in
          let fits = entry-ranges m.taken m.state is.machine is.indicator in
          omega (arith, w.ticks, w.near, idle.early, row-within most m.delays m.levels m.issue (entry m.taken m.state) are fits w.tight)
      | inl some ↦ omega (arith, w.fresh some)
    ]

-- ---- all ticks

-- the bounds at a tick with a completion
done-early : (m : Overlap) (made since most : ℕ) → IsReached m made since → AreDelaysUpTo most m.delays → m.phase ≡ Ready → since + 1 ≤ 64 * (most + 4)
done-early m made since most from are over =
    let w = within most from are in
    let is = kept from in
    let idle = idle-of m is over in
    let fits = entry-ranges m.taken m.state is.machine is.indicator in
    omega (arith, w.ticks, w.near, idle.early, row-within most m.delays m.levels m.issue (entry m.taken m.state) are fits w.tight)

-- the number of ticks is within the bound of the completed instructions and the ticks since the
-- last one
abbrev IsCounted : ℕ → ℕ → ℕ → Overlap → Type 0
IsCounted b made since m = made ≤ b * m.state.done + since

counted-ticked : (b made since : ℕ) (m : Overlap) → since + 1 ≤ b → IsCounted b made since m
    → IsCounted b (made + 1) (if is_done m then 0 else since + 1) (machine_after_tick m)
unfolding machine_after_tick machine_after_completion
counted-ticked b made since m early counted = by-done (is_done m)
  where
    by-done : (c : Bool) → IsCounted b (made + 1) (if c then 0 else since + 1) (if c then machine_after_completion m else record m { phase = Ticked })
    by-done true =
        let more : (state_after_execution m.taken m.state).done ≡ m.state.done + 1 = completed-done (plan m.state m.taken) m.state in
        omega (arith, counted, early, mul-add b m.state.done 1, ap (λ d. b * d) more)
    by-done false = omega (arith, counted)

changed-counted : (b made since : ℕ) (m : Overlap) (s : Machine) → s.done ≡ m.state.done → IsCounted b made since m
    → IsCounted b made since (record m { state = s })
changed-counted b made since m s same counted = subst (λ d. made ≤ b * d + since) (sym same) counted

same-counted : (b made since : ℕ) (m x : Overlap) → x.state ≡ m.state → IsCounted b made since m → IsCounted b made since x
same-counted b made since m x same counted = subst (λ (s : Machine). made ≤ b * s.done + since) (sym same) counted

pub all_stored-done : (m : Machine) (w : ℕ) (xs : List ℕ) → (all_stored m w xs).done ≡ m.done
unfolding all_stored
all_stored-done m w [] = refl
all_stored-done m w (x ∷ xs) = all_stored-done (state_with_store m w x) (w + 1) xs

pub read-done : (s : Machine) (w : ℕ) (card : Option (List ℕ)) → (read_in s w card).done ≡ s.done
read-done s w None = refl
read-done s w (Some card) = all_stored-done (record s { reader = None }) w card

read-state : (w : ℕ) (m : Overlap) (card : Option (List ℕ)) → (read_in_by w card m).state ≡ read_in m.state w card
read-state w m None = refl
read-state w m (Some card) = refl

settled_by-state : (due behind : Option ℕ) (resting : Bool) (m : Overlap) → (settled_by due resting behind m).state ≡ m.state
settled_by-state (Some i) behind resting m = (ended-rest m).state
settled_by-state None behind true m = (ended-rest m).state
settled_by-state None (Some h) false m = (ended-rest m).state
settled_by-state None None false m = refl

pub settled-state : (m : Overlap) → (machine_after_settling m).state ≡ m.state
unfolding machine_after_settling
settled-state m = settled_by-state (interrupt_due m) m.mispredicted (rests m.state) m

counted : (most : ℕ) {m : Overlap} {made since : ℕ} → IsReached m made since → AreDelaysUpTo most m.delays → IsCounted (64 * (most + 4)) made since m
counted most (Starts ds n s can) are = omega arith
counted most (Ticks m made since from may) are =
    let same = subst (AreDelaysUpTo most) (ticked-delays m) are in
    counted-ticked (64 * (most + 4)) made since m (done-early m made since most from same may.ready) (counted most from same)
counted most (Settles m made since from may) are =
    same-counted (64 * (most + 4)) made since m (machine_after_settling m) (settled-state m) (counted most from (subst (AreDelaysUpTo most) (settled-delays m) are))
counted most (Signals m made since i from known may) are = changed-counted (64 * (most + 4)) made since m (state_with_signal m.state i) refl (counted most from are)
counted most (Reads m made since order card from given fits may) are =
    let before = counted most from (subst (AreDelaysUpTo most) (read-delays order.word m card) are) in
    subst (λ d. made ≤ 64 * (most + 4) * d + since) (sym (ap (λ (s : Machine). s.done) (read-state order.word m card) ∙ read-done m.state order.word card)) before
counted most (Prints m made since from given may) are = changed-counted (64 * (most + 4)) made since m (printed_out m.state) refl (counted most from are)
counted most (Stops m made since from may) are =
    same-counted (64 * (most + 4)) made since m (run_ended m) (ended-rest m).state (counted most from (subst (AreDelaysUpTo most) (ended-rest m).delays are))

pub all-in_time : (m : Overlap) (made since most : ℕ) → IsReached m made since → AreDelaysUpTo most m.delays
    → made ≤ 64 * (most + 4) * (m.state.done + 1)
all-in_time m made since most from are =
    let b = 64 * (most + 4) in
    omega (arith, counted most from are, in-time m made since most from are, mul-add b m.state.done 1)
