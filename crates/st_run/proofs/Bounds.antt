-- The bound of the ticks of a run by the number of completed instructions.
use Rattle.st_run.proofs.Common.{All, nat_lt, ◌≡◌, ℕ, zero, suc, ◌+◌, ◌*◌, ◌≤◌, List, [], ◌∷◌, length, Option, None, sym, subst, arith, mul-add, All-replicate, All-weaker, Machine, of_choice, prediction, Scene, idle_banks, AreDelaysUpTo, IsEntryInTime, IsTight, row_of_entry, tick_c, issue_after_entry, IssueState, entry, Ahead, ahead, prepared_before, reads_to_end, entry-ranges, Timed, IsScene, Moment, Standing, moment_at_start, next_scene, next_state, ends_segment, next_segment, next_issue, standing_at, next_row, issue_after, entries_behind, entry_of_moment, next_moment, timed_from, opening-tight, free-before_done, interrupt-below, interrupt}
use Rattle.st_banks.specs.declared.answers.TheConstants.{BANKS}
use Rattle.st_rows.specs.Asked.{made_before}
use Rattle.st_rows.proofs.Served.{made-bounds}
use Rattle.st_rows.proofs.Stages.{c-within}
use Rattle.st_rows.proofs.Tight.{tight-after}
use Rattle.st_run.proofs.SceneLemmas.{settled-scene, stepped-scene}
use Rattle.st_run.proofs.EachEvent.{timed-each, next-more}

-- ---- entries in flight

ahead-few : (ds : List ℕ) (n k : ℕ) (t : Option ℕ) (s : Machine) (f : IssueState) → length (ahead ds n k t s f) ≤ k
unfolding ahead
ahead-few ds n zero t s f = omega arith
ahead-few ds n (suc k) t s f =
    let rest = ahead-few ds n k None (prediction t s) (issue_after_entry ds n f (entry t s)) in
    omega arith

prepared-few : (t : ℕ) (xs : List Ahead) → length (prepared_before t xs) ≤ length xs
unfolding prepared_before
prepared-few t [] = omega arith
prepared-few t (a ∷ rest) =
    let few = prepared-few t rest in
    of_choice (λ xs. length xs ≤ suc (length rest)) (nat_lt a.row.p t) (a ∷ prepared_before t rest) [] (omega arith) (omega arith)

-- ---- moments

-- the invariant of the moments of a run
pub record IsMoment (most n : ℕ) (m : Moment) : Type 0 where
  pub scene : IsScene m.scene
  pub tight : IsTight most m.issue
  pub last : m.issue.c ≤ m.tick
  pub few : length m.dropped ≤ n
  pub banks : All (λ t. t ≤ m.tick + most) m.banks.ticks

module _ (most n : ℕ) (ds : List ℕ) (are : AreDelaysUpTo most ds) (levels : n ≤ 8) where
  next_segment-tight : (m : Moment) → IsMoment most n m → IsTight most (next_segment m)
  next_segment-tight m is =
      opening-tight most (m.tick + 1 + length m.dropped) m.banks
      (All-weaker (λ t. t ≤ m.tick + most) (λ t. t ≤ m.tick + 1 + length m.dropped + most) (λ t low. omega arith) m.banks.ticks is.banks)

  next_issue-is : (m : Moment) → IsMoment most n m → IsTight most (next_issue m) × ((next_issue m).c ≤ m.tick + 9)
  unfolding next_issue
  next_issue-is m is =
      of_choice (λ f. IsTight most f × (f.c ≤ m.tick + 9)) (ends_segment m) (next_segment m) m.issue
      (next_segment-tight m is, omega (arith, is.few, levels))
      (is.tight, omega (arith, is.last))

  completed-is : (p : Standing) → IsScene p.scene → IsTight most p.issue → IsMoment most n (next_moment ds n p)
  unfolding next_moment next_row row_of_entry issue_after_entry
  completed-is p is tight =
      let s = p.scene.machine in
      let t = interrupt p.scene.machine in
      let e = entry t s in
      let tick = tick_c ds n p.issue e in
      let fits : IsEntryInTime e = entry-ranges t s is.machine (interrupt-below s) in
      let free : p.issue.bus.free ≤ tick = free-before_done ds n p.issue e fits in
      let made = made-bounds most ds are tick (reads_to_end ds n tick (interrupt p.scene.machine) p.scene.machine p.issue (entry_of_moment p)) p.issue.bus tight.near free in
      record {
        scene = stepped-scene p.scene is;
        tight = tight-after most ds are n p.issue e fits tight;
        last = omega arith;
        few = omega (arith, prepared-few tick (entries_behind ds n p n), ahead-few ds n n None (prediction t s) (issue_after ds n p));
        banks =
            All-weaker (λ x. x ≤ (made_before ds tick (reads_to_end ds n tick (interrupt p.scene.machine) p.scene.machine p.issue (entry_of_moment p)) p.issue.bus).free + most) (λ x. x ≤ tick + most)
            (λ x low. omega (arith, made.1)) _ made.0.banks;
      }

  pub next-is : (m : Moment) → IsMoment most n m → IsMoment most n (next_moment ds n (standing_at m))
  next-is m is = completed-is (standing_at m) (settled-scene m.scene is.scene) (next_issue-is m is).0

  pub next-tick : (m : Moment) → IsMoment most n m → (next_moment ds n (standing_at m)).tick ≤ m.tick + 64 * (most + 4)
  unfolding next_moment next_row row_of_entry
  next-tick m is =
      let s = next_state m in
      let t = interrupt (next_state m) in
      let scene : IsScene (next_scene m) = settled-scene m.scene is.scene in
      let fits : IsEntryInTime (entry t s) = entry-ranges t s scene.machine (interrupt-below s) in
      let f = next_issue-is m is in
      omega (arith, f.1, c-within most ds are (next_issue m) (entry t s) fits f.0 n)

-- ---- events

-- the tick is within the bound of b ticks for each completed instruction
abbrev pub HasTime : ℕ → ℕ → Machine → Type 0
HasTime b tick s = tick ≤ b * s.done

-- ---- the run

module _ (most n : ℕ) (ds : List ℕ) (are : AreDelaysUpTo most ds) (levels : n ≤ 8) where
  pub next-time : (m : Moment) → IsMoment most n m → HasTime (64 * (most + 4)) m.tick m.scene.machine
      → HasTime (64 * (most + 4)) (next_moment ds n (standing_at m)).tick (next_moment ds n (standing_at m)).scene.machine
  next-time m is has =
      let b = 64 * (most + 4) in
      let d = m.scene.machine.done in
      let next = next_moment ds n (standing_at m) in
      let more : next.scene.machine.done ≡ d + 1 = next-more ds n m in
      let tick : next.tick ≤ m.tick + b = next-tick most n ds are levels m is in
      let sum : b * (d + 1) ≡ b * d + b * 1 = mul-add b d 1 in
      let late : next.tick ≤ b * (d + 1) = omega (arith, has, tick, sum) in
      subst (λ k. next.tick ≤ b * k) (sym more) late

  timed-time : (left : ℕ) (m : Moment) (snaps : List ℕ) → IsMoment most n m → HasTime (64 * (most + 4)) m.tick m.scene.machine
      → All (λ (x : Timed). x.tick ≤ 64 * (most + 4) * (x.done + 1)) (timed_from ds n left m snaps)
  timed-time left m snaps is has =
      let b = 64 * (most + 4) in
      timed-each (λ done tick. tick ≤ b * (done + 1)) ds n (λ left m. IsMoment most n m × HasTime b m.tick m.scene.machine)
      (λ left m is. omega (arith, is.1, mul-add b m.scene.machine.done 1))
      (λ left m is. (next-is most n ds are levels m is.0, next-time m is.0 is.1)) left m snaps (is, has)

  pub start-is : (c : Scene) → IsScene c → IsMoment most n (moment_at_start c)
  start-is c is = record {
    scene = is;
    tight = opening-tight most 0 idle_banks (All-replicate (λ t. t ≤ 0 + most) BANKS 0 (omega arith));
    last = omega arith;
    few = omega arith;
    banks = All-replicate (λ t. t ≤ 0 + most) BANKS 0 (omega arith);
  }

  pub run-time : (left : ℕ) (c : Scene) (snaps : List ℕ) → IsScene c
      → All (λ (x : Timed). x.tick ≤ 64 * (most + 4) * (x.done + 1)) (timed_from ds n left (moment_at_start c) snaps)
  run-time left c snaps is = timed-time left (moment_at_start c) snaps (start-is c is) (omega arith)
