-- A machine is at the opening of its segment.
use Rattle.st_refine.proofs.Common.{All, IfSome, IsSome, ◌==◌, if◌then◌else◌, ◌-◌, ◌≡◌, ℕ, zero, suc, ◌+◌, ◌<◌, ◌≤◌, Bool, true, false, List, [], ◌∷◌, ◌++◌, length, Option, None, Some, refl, sym, subst, ◌∙◌, ap, ap₂, arith, eqb-true, ne_eqb, eq-eqb, All-nil, All-cons, All-head, All-tail, All-append, All-weaker, Machine, state_after_execution, prediction, interrupt, rests, step, read_in, step-done, LastAnswers, bus_after_reads, made_before, reads_of_entry, row_of_entry, issue_after_entry, opening_issue, address_tick, preparation_tick, tick_a, tick_p, tick_c, Bus, Entry, IssueState, ready-after, served-append, served-asked, made-behind, entry, table_behind, ahead, reads_before, Ready, Ticked, Ended, Stopped, is_owed, has_ended, closing, Overlap, machine_at_start, state_ahead, oldest_entry, oldest_row, levels_of, banks_at_its_end, interrupt_due, is_done, machine_after_completion, machine_after_tick, banks_left, machine_after_segment, machine_after_pass, machine_after_settling, answer, read_in_by, MayServe, Goes, Interrupt, Mispredicted, Waits, IsReached, MayTick, Change, Signalled, ReadIn, PrintedOut, state_after_change, ExternalEvents, with_changes, Opening, first_opening, state_after, issue_at, reads_after, banks_behind, opening_behind, StandsAt, after-c}
use Rattle.st_refine.proofs.Kept.{IsIdle, idle-of, fresh-of, served, closing-some, kept, seen-idle, ended-rest}
use Rattle.st_refine.proofs.InTime.{read-done}
use Rattle.st_refine.proofs.RefinedLemmas.{goes-by, taken-by, mispredicted-by, waits-by, settled-goes, settled-taken, settled-mispredicted}

-- ---- changes

changed-done : (x : Change) (s : Machine) → (state_after_change x s).done ≡ s.done
changed-done (Signalled i) s = refl
changed-done (ReadIn w card) s = read-done s w card
changed-done PrintedOut s = refl

one-done : (b : Bool) (x : Change) (s : Machine) → (if b then state_after_change x s else s).done ≡ s.done
one-done true x s = changed-done x s
one-done false x s = refl

changes-done : (xs : List ExternalEvents) (s : Machine) → (with_changes xs s).done ≡ s.done
unfolding with_changes
changes-done [] s = refl
changes-done (x ∷ xs) s = changes-done xs (if x.done == s.done then state_after_change x.change s else s) ∙ one-done (x.done == s.done) x.change s

-- one more external change
changes-more : (xs : List ExternalEvents) (x : ExternalEvents) (s : Machine)
    → with_changes (xs ++ x ∷ []) s
    ≡ (if x.done == (with_changes xs s).done then state_after_change x.change (with_changes xs s) else with_changes xs s)
unfolding with_changes
changes-more [] x s = refl
changes-more (y ∷ xs) x s = changes-more xs x (if y.done == s.done then state_after_change y.change s else s)

changes-other : (xs : List ExternalEvents) (x : ExternalEvents) (s : Machine) → (x.done ≡ s.done → ⊥) → with_changes (xs ++ x ∷ []) s ≡ with_changes xs s
changes-other xs x s other =
    let u = with_changes xs s in
    let same : u.done ≡ s.done = changes-done xs s in
    changes-more xs x s ∙ ap (λ b. if b then state_after_change x.change u else u) (ne_eqb x.done u.done (λ is. other (is ∙ same)))

changes-now : (xs : List ExternalEvents) (x : ExternalEvents) (s : Machine) → x.done ≡ s.done
    → with_changes (xs ++ x ∷ []) s ≡ state_after_change x.change (with_changes xs s)
changes-now xs x s here =
    let u = with_changes xs s in
    let same : u.done ≡ s.done = changes-done xs s in
    changes-more xs x s ∙ ap (λ b. if b then state_after_change x.change u else u) (eq-eqb x.done u.done (here ∙ sym same))

-- changes at an earlier count of completed instructions have no effect
changes-none : (xs : List ExternalEvents) (s : Machine) → All (λ x. x.done < s.done) xs → with_changes xs s ≡ s
unfolding with_changes
changes-none [] s before = refl
changes-none (x ∷ xs) s before =
    let early : x.done < s.done = All-head (λ (y : ExternalEvents). y.done < s.done) x xs before in
    ap (λ b. with_changes xs (if b then state_after_change x.change s else s)) (ne_eqb x.done s.done (λ is. omega (arith, early, is)))
    ∙ changes-none xs s (All-tail (λ (y : ExternalEvents). y.done < s.done) x xs before)

-- ---- the banks at the end of a segment

-- the last answers of the banks after the reads of the entry that completes and of those in flight
-- after it
banks-of : List ℕ → ℕ → ℕ → Option ℕ → Machine → IssueState → Entry → LastAnswers
banks-of ds n c t s f e =
    (made_before ds c (reads_of_entry ds n f e ++ reads_before ds n c (ahead ds n (suc n) None (prediction t s) (issue_after_entry ds n f e))) f.bus).banks

free-done : (ds : List ℕ) (n : ℕ) (f : IssueState) (e : Entry) → f.bus.free ≤ (row_of_entry ds n f e).c
unfolding row_of_entry tick_a tick_p tick_c address_tick preparation_tick
free-done ds n f e = omega (arith, ready-after ds n f e)

module _ (ds : List ℕ) (n : ℕ) (o : Opening) (xs : List ExternalEvents) where
  reads-served : (j : ℕ) → bus_after_reads ds (reads_after ds n o xs j) o.issue.bus ≡ (issue_at ds n o xs j).bus
  unfolding reads_after issue_at bus_after_reads
  reads-served zero = refl
  reads-served (suc j) =
      let f = issue_at ds n o xs j in
      let e = entry (table_behind j o.table) (state_after o xs j) in
      served-append ds (reads_after ds n o xs j) (reads_of_entry ds n f e) o.issue.bus
      ∙ ap (bus_after_reads ds (reads_of_entry ds n f e)) (reads-served j) ∙ served-asked ds n f e

  banks-whole : (j : ℕ)
      → banks_behind ds n o xs (suc j)
      ≡ banks-of ds n (row_of_entry ds n (issue_at ds n o xs j) (entry (table_behind j o.table) (state_after o xs j))).c (table_behind j o.table)
      (state_after o xs j) (issue_at ds n o xs j) (entry (table_behind j o.table) (state_after o xs j))
  unfolding banks_behind banks-of
  banks-whole j =
      let s = state_after o xs j in
      let t = table_behind j o.table in
      let f = issue_at ds n o xs j in
      let e = entry t s in
      let c = (row_of_entry ds n f e).c in
      let rest = reads_of_entry ds n f e ++ reads_before ds n c (ahead ds n (suc n) None (prediction t s) (issue_after_entry ds n f e)) in
      let served_is = reads-served j in
      let early : (bus_after_reads ds (reads_after ds n o xs j) o.issue.bus).free ≤ c = omega (arith, ap (λ (b : Bus). b.free) served_is, free-done ds n f e) in
      ap (λ (b : Bus). b.banks) (made-behind ds c (reads_after ds n o xs j) rest o.issue.bus early)
      ∙ ap (λ (b : Bus). (made_before ds c rest b).banks) served_is

-- ---- states and issue states after j steps

module _ (o : Opening) (xs : List ExternalEvents) where
  state-done : (j : ℕ) → (state_after o xs j).done ≡ o.state.done + j
  unfolding state_after
  state-done zero = let same = changes-done xs o.state in omega (arith, same)
  state-done (suc j) =
      let s = state_after o xs j in
      let same : (with_changes xs (step s)).done ≡ (step s).done = changes-done xs (step s) in
      omega (arith, same, step-done s, state-done j)

  module _ (x : ExternalEvents) (j : ℕ) (when : x.done ≡ o.state.done + j) where
    state-before : (i : ℕ) → i < j → state_after o (xs ++ x ∷ []) i ≡ state_after o xs i
    unfolding state_after
    state-before zero early = changes-other xs x o.state (λ is. omega (arith, is, when, early))
    state-before (suc i) early =
        let s = state_after o xs i in
        ap (λ u. with_changes (xs ++ x ∷ []) (step u)) (state-before i (omega (arith, early)))
        ∙ changes-other xs x (step s) (λ is. omega (arith, is, when, early, step-done s, state-done i))

    state-now : (k : ℕ) → k ≡ j → state_after o (xs ++ x ∷ []) k ≡ state_after_change x.change (state_after o xs k)
    unfolding state_after
    state-now zero here = changes-now xs x o.state (omega (arith, when, here))
    state-now (suc k) here =
        let s = state_after o xs k in
        ap (λ u. with_changes (xs ++ x ∷ []) (step u)) (state-before k (omega (arith, here)))
        ∙ changes-now xs x (step s) (omega (arith, when, here, step-done s, state-done k))

    module _ (ds : List ℕ) (n : ℕ) where
      issue-same : (i : ℕ) → i ≤ j → issue_at ds n o (xs ++ x ∷ []) i ≡ issue_at ds n o xs i
      unfolding issue_at
      issue-same zero early = refl
      issue-same (suc i) early =
          ap₂ (λ f s. issue_after_entry ds n f (entry (table_behind i o.table) s)) (issue-same i (omega (arith, early))) (state-before i (omega (arith, early)))

      banks-same : (i : ℕ) → i ≤ j → banks_behind ds n o (xs ++ x ∷ []) i ≡ banks_behind ds n o xs i
      unfolding banks_behind
      banks-same zero early = refl
      banks-same (suc i) early =
          let t = table_behind i o.table in
          banks-whole ds n o (xs ++ x ∷ []) i
          ∙ ap₂ (λ (f : IssueState) (s : Machine). banks-of ds n (row_of_entry ds n f (entry t s)).c t s f (entry t s)) (issue-same i (omega (arith, early)))
          (state-before i (omega (arith, early)))
          ∙ sym (banks-whole ds n o xs i)

-- ---- the start

pub stands-started : (ds : List ℕ) (n : ℕ) (s : Machine) → StandsAt (first_opening s) [] 0 (machine_at_start ds n s)
unfolding state_after issue_at with_changes
stands-started ds n s = record {
  state = refl;
  issue = refl;
  table = refl;
  done = λ some. absurd (omega (arith, some));
  before = All-nil (λ (x : ExternalEvents). x.done ≤ s.done);
  banks = tt;
}

-- ---- an external change

if-same : (c : Option LastAnswers) (a b : LastAnswers) → a ≡ b → IfSome c (λ x. x ≡ a) → IfSome c (λ x. x ≡ b)
if-same None a b same is = tt
if-same (Some x) a b same is = is ∙ same

pub stands-changed : (m : Overlap) (x : Change) (j : ℕ) (o : Opening) (xs : List ExternalEvents) → StandsAt o xs j m
    → StandsAt o (xs ++ record { done = m.state.done; change = x } ∷ []) j (record m { state = state_after_change x m.state })
stands-changed m x j o xs is =
    let new : ExternalEvents = record { done = m.state.done; change = x } in
    let when : m.state.done ≡ o.state.done + j = ap (λ (s : Machine). s.done) is.state ∙ state-done o xs j in
    let same : (state_after_change x m.state).done ≡ m.state.done = changed-done x m.state in
    let begin : ℕ → Type 0 = λ d. All (λ (y : ExternalEvents). y.done ≤ d) (xs ++ new ∷ []) in
    record {
      state = ap (state_after_change x) is.state ∙ sym (state-now o xs new j when j refl);
      issue = is.issue ∙ sym (issue-same o xs new j when m.delays m.levels j (omega arith));
      table = is.table;
      done = is.done;
      before =
          subst begin (sym same)
          (All-append (λ (y : ExternalEvents). y.done ≤ m.state.done) xs (new ∷ []) is.before
          (All-cons (λ (y : ExternalEvents). y.done ≤ m.state.done) new [] (omega arith) (All-nil (λ (y : ExternalEvents). y.done ≤ m.state.done))));
      banks = if-same (closing m.phase) _ _ (sym (banks-same o xs new j when m.delays m.levels j (omega arith))) is.banks;
    }

-- ---- a tick

last-before : (owed : Bool) (now : ℕ) → (if owed then now else now - 1) ≤ now
last-before true now = omega arith
last-before false now = omega arith

stands-passed_by : (m : Overlap) (j : ℕ) (o : Opening) (xs : List ExternalEvents) → m.phase ≡ Ready → StandsAt o xs j m
    → StandsAt o xs j (record m { phase = Ticked })
stands-passed_by m j o xs settled_is is = record {
  state = is.state;
  issue = is.issue;
  table = is.table;
  done = λ some. omega (arith, is.done some, last-before (is_owed m.phase) m.now);
  before = is.before;
  banks = tt;
}

executed-step : (t : Option ℕ) (s : Machine) → t ≡ interrupt s → state_after_execution t s ≡ step s
unfolding step
executed-step t s table = ap (λ i. state_after_execution i s) table

-- the last answers of the banks if the segment ends at the completion of an entry
banks-are : (m : Overlap) (j : ℕ) (o : Opening) (xs : List ExternalEvents) → (row_of_entry m.delays m.levels m.issue (oldest_entry m)).c ≡ m.now → StandsAt o xs j m
    → state_ahead m ≡ m.state → banks_at_its_end m ≡ banks_behind m.delays m.levels o xs (suc j)
unfolding banks_at_its_end banks-of
banks-are m j o xs due is seen_is =
    let ds = m.delays in
    let n = m.levels in
    ap (λ c. banks-of ds n c m.taken m.state m.issue (oldest_entry m)) (sym due)
    ∙ ap (λ s. banks-of ds n (row_of_entry ds n m.issue (entry m.taken s)).c m.taken m.state m.issue (entry m.taken s)) (seen_is ∙ is.state)
    ∙ ap (λ s. banks-of ds n (row_of_entry ds n m.issue (entry m.taken (state_after o xs j))).c m.taken s m.issue (entry m.taken (state_after o xs j))) is.state
    ∙ ap₂ (λ t f. banks-of ds n (row_of_entry ds n f (entry t (state_after o xs j))).c t (state_after o xs j) f (entry t (state_after o xs j))) is.table is.issue
    ∙ sym (banks-whole ds n o xs j)

stands-completed : (m : Overlap) (made since j : ℕ) (o : Opening) (xs : List ExternalEvents) → IsReached m made since → MayTick m → is_done m ≡ true
    → StandsAt o xs j m → StandsAt o xs (suc j) (machine_after_completion m)
unfolding machine_after_completion state_after issue_at oldest_row
stands-completed m made since j o xs from may done is =
    let idle : IsIdle m = idle-of m (kept from) may.ready in
    let seen_is : state_ahead m ≡ m.state = seen-idle m idle.going idle.right in
    let e = oldest_entry m in
    let e_is : e ≡ entry (table_behind j o.table) (state_after o xs j) = ap₂ entry is.table (seen_is ∙ is.state) in
    let due : (row_of_entry m.delays m.levels m.issue e).c ≡ m.now = eqb-true (row_of_entry m.delays m.levels m.issue e).c m.now done in
    let stepped : state_after_execution m.taken m.state ≡ step m.state = executed-step m.taken m.state idle.table in
    let more : (step m.state).done ≡ m.state.done + 1 = step-done m.state in
    let counted : (state_after_execution m.taken m.state).done ≡ m.state.done + 1 = ap (λ (s : Machine). s.done) stepped ∙ more in
    let over : All (λ (x : ExternalEvents). x.done < (step m.state).done) xs =
    All-weaker (λ (x : ExternalEvents). x.done ≤ m.state.done) (λ (x : ExternalEvents). x.done < (step m.state).done) (λ x low. omega (arith, more)) xs is.before in
    record {
      state = stepped ∙ sym (changes-none xs (step m.state) over) ∙ ap (λ s. with_changes xs (step s)) is.state;
      issue = ap₂ (issue_after_entry m.delays m.levels) is.issue e_is;
      table = refl;
      done = λ some. omega (arith, due, after-c m.delays m.levels m.issue e);
      before =
          All-weaker (λ (x : ExternalEvents). x.done ≤ m.state.done) (λ (x : ExternalEvents). x.done ≤ (state_after_execution m.taken m.state).done)
          (λ x low. omega (arith, counted)) xs is.before;
      banks = banks-are m j o xs due is seen_is;
    }

pub stands-ticked : (m : Overlap) (made since j : ℕ) (o : Opening) (xs : List ExternalEvents) → IsReached m made since → MayTick m → StandsAt o xs j m
    → StandsAt o xs (if is_done m then suc j else j) (machine_after_tick m)
unfolding machine_after_tick
stands-ticked m made since j o xs from may is = by-done (is_done m) refl
  where
    by-done : (b : Bool) → is_done m ≡ b → StandsAt o xs (if b then suc j else j) (if b then machine_after_completion m else record m { phase = Ticked })
    by-done true done = stands-completed m made since j o xs from may done is
    by-done false done = stands-passed_by m j o xs may.ready is

-- ---- a settle

stands-passed : (m : Overlap) (j : ℕ) (o : Opening) (xs : List ExternalEvents) → is_owed m.phase ≡ true → StandsAt o xs j m → StandsAt o xs j (machine_after_pass m)
stands-passed m j o xs owed is = record {
  state = is.state;
  issue = is.issue;
  table = is.table;
  done = λ some. omega (arith, is.done some, last-owed (is_owed m.phase) m.now owed);
  before = is.before;
  banks = tt;
}
  where
    last-owed : (b : Bool) (now : ℕ) → b ≡ true → (if b then now else now - 1) ≡ now
    last-owed true now is_owed = refl
    last-owed false now is_owed = absurd (cc is_owed)

pub stands-goes : (m : Overlap) (j : ℕ) (o : Opening) (xs : List ExternalEvents) → is_owed m.phase ≡ true → answer m ≡ Goes → StandsAt o xs j m
    → StandsAt o xs j (machine_after_settling m)
unfolding answer
stands-goes m j o xs owed is stands =
    let why = goes-by (interrupt_due m) m.mispredicted (rests m.state) m is in
    subst (StandsAt o xs j) (sym (settled-goes m why)) (stands-passed m j o xs owed stands)

-- ---- the end of a segment

opened : Overlap → Overlap
opened m = record m { issue = opening_issue (banks_left (closing m.phase)) (m.now + 1 + length (levels_of m)); phase = Ended }

ended-going : (m : Overlap) → has_ended m.phase ≡ false → machine_after_segment m ≡ opened m
unfolding machine_after_segment opened
ended-going m going = ap (λ b. if b then m else opened m) going

pub ended-again : (m : Overlap) → has_ended m.phase ≡ true → machine_after_segment m ≡ m
unfolding machine_after_segment opened
ended-again m over = ap (λ b. if b then m else opened m) over

left-is : (c : Option LastAnswers) (b : LastAnswers) → IsSome c → IfSome c (λ x. x ≡ b) → banks_left c ≡ b
left-is None b some is = absurd (cc some)
left-is (Some x) b some is = is

stands-opened : (m : Overlap) (made since j : ℕ) (o : Opening) (xs : List ExternalEvents) → IsReached m made since → MayServe m → has_ended m.phase ≡ false
    → StandsAt o xs j m → StandsAt (opening_behind m.delays m.levels (length (levels_of m)) o xs j) [] 0 (opened m)
unfolding opened opening_behind state_after issue_at with_changes
stands-opened m made since j o xs from may going is =
    let fresh = fresh-of m (kept from) (served m.phase may) in
    let now : m.now ≡ (issue_at m.delays m.levels o xs j).c = sym (fresh.last going) ∙ ap (λ (f : IssueState). f.c) is.issue in
    record {
      state = is.state;
      issue =
          ap₂ (λ b c. opening_issue b (c + 1 + length (levels_of m)))
          (left-is (closing m.phase) (banks_behind m.delays m.levels o xs j) (closing-some m.phase (served m.phase may) going) is.banks) now;
      table = fresh.none;
      done = λ some. absurd (omega (arith, some));
      before = All-nil (λ (x : ExternalEvents). x.done ≤ m.state.done);
      banks = tt;
    }

pub stands-ended : (m : Overlap) (made since j : ℕ) (o : Opening) (xs : List ExternalEvents) → IsReached m made since → MayServe m → has_ended m.phase ≡ false
    → StandsAt o xs j m → StandsAt (opening_behind m.delays m.levels (length (levels_of m)) o xs j) [] 0 (machine_after_segment m)
stands-ended m made since j o xs from may going is =
    subst (StandsAt (opening_behind m.delays m.levels (length (levels_of m)) o xs j) [] 0) (sym (ended-going m going))
    (stands-opened m made since j o xs from may going is)

-- the machine after the end of a run
pub stands-stopped : (m : Overlap) (j : ℕ) (o : Opening) (xs : List ExternalEvents) → StandsAt o xs j m → StandsAt o xs j (record m { phase = Stopped })
stands-stopped m j o xs is = record {
  state = is.state;
  issue = is.issue;
  table = is.table;
  done = λ some. omega (arith, is.done some, last-before (is_owed m.phase) m.now);
  before = is.before;
  banks = tt;
}

with-table : (o : Opening) (t : Option ℕ) (xs : List ExternalEvents) (m : Overlap) → StandsAt o xs 0 m
    → StandsAt (record o { table = t }) xs 0 (machine_after_pass (record m { taken = t }))
unfolding state_after issue_at
with-table o t xs m is = record {
  state = is.state;
  issue = is.issue;
  table = refl;
  done = λ some. absurd (omega (arith, some));
  before = is.before;
  banks = tt;
}

pub stands-interrupt : (m : Overlap) (i d ic k : ℕ) (o : Opening) (xs : List ExternalEvents) → answer m ≡ Interrupt i d ic k → StandsAt o xs 0 (machine_after_segment m)
    → StandsAt (record o { table = Some i }) xs 0 (machine_after_settling m)
unfolding answer
stands-interrupt m i d ic k o xs is stands =
    let told = taken-by (interrupt_due m) m.mispredicted (rests m.state) m i d ic k is in
    subst (StandsAt (record o { table = Some i }) xs 0) (sym (settled-taken m i told.0)) (with-table o (Some i) xs (machine_after_segment m) stands)

pub stands-mispredicted : (m : Overlap) (k : ℕ) (o : Opening) (xs : List ExternalEvents) → is_owed m.phase ≡ true → answer m ≡ Mispredicted k → StandsAt o xs 0 (machine_after_segment m)
    → StandsAt o xs 0 (machine_after_settling m)
unfolding answer machine_after_settling
stands-mispredicted m k o xs owed is stands =
    let told = mispredicted-by (interrupt_due m) m.mispredicted (rests m.state) m k is in
    subst (StandsAt o xs 0) (sym (settled-mispredicted m m.mispredicted told.0 told.1 told.2))
    (stands-passed (machine_after_segment m) 0 o xs (ended-rest m).owed stands)

pub waits-ended : (m : Overlap) → answer m ≡ Waits → machine_after_settling m ≡ machine_after_segment m
unfolding answer machine_after_settling
waits-ended m is =
    let told = waits-by (interrupt_due m) m.mispredicted (rests m.state) m is in
    rw (told.0, told.1) refl

pub stands-card : (m : Overlap) (w : ℕ) (card : List ℕ) (o : Opening) (xs : List ExternalEvents) → StandsAt o xs 0 (machine_after_segment m)
    → StandsAt o (xs ++ record { done = m.state.done; change = ReadIn w (Some card) } ∷ []) 0 (read_in_by w (Some card) m)
stands-card m w card o xs stands =
    subst (λ (s : Machine). StandsAt o (xs ++ record { done = s.done; change = ReadIn w (Some card) } ∷ []) 0 (record (machine_after_segment m) { state = read_in s w (Some card) }))
    (ended-rest m).state (stands-changed (machine_after_segment m) (ReadIn w (Some card)) 0 o xs stands)
