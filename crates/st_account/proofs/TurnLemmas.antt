-- Lemmas on the run at the head of its loop, and on the effect of one round.
use Rattle.st_account.proofs.Common.{Bool, nat_eq, ◌||◌, All, ◌≡◌, ◌≢◌, ℕ, ◌+◌, ◌*◌, ◌≤◌, true, false, List, [], ◌∷◌, length, sym, ◌∙◌, ap, subst, arith, MOST_INSTRUCTIONS, Signal, OutputState, words_of_storage, Machine, word, prediction, rests, step, interrupt, AreDelaysUpTo, IsTight, IssueState, Scene, IsCard, PendingEvents, scene_at, Moment, Standing, moment_at_start, next_state, standing_at, next_moment, settled-done, IsMoment, HasTime, start-is, next-is, next-time, Stage, Totals, ticks_for, all_ticks, charges_at, entries_from, all_charges, sum_at, AreWithin, Account, Last, IsAtStart, HasTakenEvents, IsNext, IsStepped, Completes, is_parted, waited_at, row_stalled, WaitTotals, Stall, Position, position, next_position, predicting, charges_kept, kept_stalled, AddsKeptWaits, IsStanding, IsAt, run_ends, segment_after, uses_at, words_before, stalled_from, end_from, done_line, ticks_line}
use Rattle.st_exec.proofs.StepLemmas.{step-done}
use Rattle.st_report.specs.Line.{end_line as run_end_line}
use Rattle.st_account.proofs.LastLemmas.{start-last}
use Rattle.st_account.proofs.RunLemmas.{next-stepped, next-at, early-tick, end-last}
use Rattle.st_account.proofs.LoopLemmas.{sums-none, number-next, number-some, left-some, rests-not, ends-one, sums-next, sums-end, waits-next, waits-last}
use Rattle.st_account.proofs.StallLemmas.{waited-none, kept-stalled-none}

-- The account agrees with a moment of the run.
pub record IsCounting (p : Position) (a : Account) (x : PendingEvents) : Type 0 where
  pub at : IsAt p a x
  pub bounds : IsMoment 255 p.levels p.moment
  pub time : HasTime (64 * (255 + 4)) p.moment.tick p.moment.scene.machine

-- The ticks still to be added and those already added are together the total.
pub record IsAdding (p : Position) (total : Stage → ℕ) (waited : Stage → Stall → ℕ) (a : Account) : Type 0 where
  pub within : AreWithin a.last.tick a.sums
  pub sum : (s : Stage) → sum_at s a.sums + ticks_for s (all_charges p.delays p.levels (entries_from p.delays p.levels p.left p.moment)) ≡ total s
  pub waits : (r : Stage) (z : Stall) → is_parted r ≡ true
      → waited_at r z a.waiting.totals + (kept_stalled r z a.k a.last + stalled_from r z p.delays p.levels p.left a.last.uses.items p.moment) ≡ waited r z

-- Loop invariant of the totals: nothing is written, and the remaining run ends with the lines with which the whole run does.
pub record IsSumming (s t : OutputState) (all : List (List ℕ)) (ds : List ℕ) (n : ℕ) (a : Account) (x : PendingEvents) (left : ℕ) : Type 0 where
  pub m : Moment
  pub b : Machine
  pub counted : IsCounting (position ds n left b m) a x
  pub ends : end_from ds n left m ≡ all
  pub unwritten : t ≡ s
  pub bare : length a.words.items ≡ 0

pub next-done : (ds : List ℕ) (n : ℕ) (m : Moment) → (next_moment ds n (standing_at m)).scene.machine.done ≡ m.scene.machine.done + 1
unfolding next_moment
next-done ds n m = step-done (next_state m) ∙ ap (λ d. d + 1) (settled-done m.scene)

-- ---- the start

module _ (ds : List ℕ) (n budget : ℕ) (state : Machine) (x : PendingEvents) (a : Account)
    (are : AreDelaysUpTo 255 ds) (few : n ≤ 8) (each : All IsCard x.cards) (fresh : state.done ≡ 0) (limit : budget ≤ MOST_INSTRUCTIONS) (start : IsAtStart state a) where
  abbrev first : Moment
  first = moment_at_start (scene_at state x)

  pub counts-at-start : IsCounting (position ds n budget state first) a x
  counts-at-start = record {
    at = record {
      scene = ap (λ u. scene_at u x) (sym start.state);
      each = each;
      hand = start-last ds n (scene_at state x) a.last a.log start.tick start.issue start.mispredicted start.counter start.log start.opened.tight;
      was = sym start.enabled;
      predicted = λ some. absurd (some start.number);
      words = λ some long. absurd (some start.number);
      unwritten = λ some. absurd (some start.number);
      run = record {
        few = omega (arith, ap (λ (s : Machine). s.done) start.state, fresh, limit);
        number = omega (arith, start.number);
        early = omega (arith, start.tick);
        opened = start.opened;
        meets = ap (λ (f : IssueState). f.c) start.issue ∙ sym start.tick;
        counter = start.below;
        waiting = start.waiting;
      };
    };
    bounds = start-is 255 n ds are few (scene_at state x) (record { machine = start.machine; cards = each });
    time = omega arith;
  }

  pub adds-at-start : IsAdding (position ds n budget state first) (λ s. ticks_for s (all_charges ds n (entries_from ds n budget first)))
      (λ r z. stalled_from r z ds n budget [] first) a
  adds-at-start = record {
    within = subst (λ t. AreWithin t a.sums) (sym start.tick) start.none;
    sum = λ s. sums-none a.sums s _ start.none;
    waits = λ r z parted.
        let nothing = waited-none a.waiting.totals r z start.unwaited in
        let unkept = kept-stalled-none r z a.k a.last start.number in
        let same = ap (λ us. stalled_from r z ds n budget us first) start.unused in
        omega (arith, nothing, unkept, same);
  }

-- an invariant of the loop after the signals and the budget have been taken from the controls
pub taken : (Q : PendingEvents → ℕ → Type 0) (x : PendingEvents) (xs ys : List Signal) (cards : List (List ℕ)) (left budget : ℕ)
    → x ≡ record { signals = xs; cards = cards } → xs ≡ ys → left ≡ budget → Q (record { signals = ys; cards = cards }) budget → Q x left
taken Q x xs ys cards left budget came is same h =
    subst (λ (y : PendingEvents). Q y left) (sym came)
    (subst (λ zs. Q (record { signals = zs; cards = cards }) left) (sym is) (subst (λ k. Q (record { signals = ys; cards = cards }) k) (sym same) h))

-- ---- the state at the head of the loop

-- The run at the head of its loop, and after it has taken its events there.
pub record IsTurning (p : Position) (a : Account) (x : PendingEvents) (a' : Account) (y : PendingEvents) : Type 0 where
  pub counted : IsCounting p a x
  pub same : a' ≡ record a { state = a'.state; log = a'.log; behind = a'.behind }
  pub came : HasTakenEvents p a' y

pub turning : {p : Position} {a : Account} {x : PendingEvents} {a' : Account} {y : PendingEvents} → IsCounting p a x
    → a' ≡ record a { state = a'.state; log = a'.log; behind = a'.behind } → HasTakenEvents p a' y → IsTurning p a x a' y
turning counted same came = record { counted = counted; same = same; came = came }

module _ {p : Position} {a : Account} {x : PendingEvents} {a' : Account} {y : PendingEvents} (turn : IsTurning p a x a' y) where
  last : a'.last ≡ a.last
  last = ap (λ (u : Account). u.last) turn.same

  segment : a'.k ≡ a.k
  segment = ap (λ (u : Account). u.k) turn.same

  next : next_state p.moment ≡ a'.state
  next = turn.came.behind.is.state

  pub done-is : p.moment.scene.machine.done ≡ a'.state.done
  done-is = sym (settled-done p.moment.scene) ∙ ap (λ (u : Machine). u.done) next

  -- whether the run ends
  pub over-is : (over : Bool) → over ≡ (nat_eq p.left 0 || rests a'.state) → run_ends p.left p.moment ≡ over
  over-is over is = ap (λ u. nat_eq p.left 0 || rests u) next ∙ sym is

  -- the run ends
  module _ (end : run_ends p.left p.moment ≡ true) where
    -- the lines of the end, of the state after the events
    pub ends-with : (all : List (List ℕ)) → end_from p.delays p.levels p.left p.moment ≡ all
        → all ≡ run_end_line (rests a'.state) ∷ done_line a'.state.done ∷ ticks_line a'.last.tick ∷ []
    ends-with all ends =
        sym ends ∙ end-last p.delays p.levels p.left p.moment (ends-one p.left (rests (next_state p.moment)) end)
        ∙ ap (λ (u : Machine). run_end_line (rests u) ∷ done_line u.done ∷ ticks_line p.moment.tick ∷ []) next
        ∙ ap (λ t. run_end_line (rests a'.state) ∷ done_line a'.state.done ∷ ticks_line t ∷ []) turn.came.behind.is.tick

    pub sums-are : (total : Stage → ℕ) (waited : Stage → Stall → ℕ) → IsAdding p total waited a → (s : Stage) → sum_at s a'.sums ≡ total s
    sums-are total waited adding s =
        ap (λ (u : Account). sum_at s u.sums) turn.same
        ∙ sums-end p.delays p.levels p.left p.moment s (sum_at s a.sums) (total s) (ends-one p.left (rests (next_state p.moment)) end) (adding.sum s)

    pub waits-are : (total : Stage → ℕ) (waited : Stage → Stall → ℕ) → IsAdding p total waited a → (new : WaitTotals) → AddsKeptWaits a'.k a'.last a'.waiting.totals new → (r : Stage) (z : Stall) → is_parted r ≡ true → waited_at r z new ≡ waited r z
    waits-are total waited adding new told r z parted =
        waits-last p.delays p.levels p.left a.last.uses.items p.moment r z _ _ _ (waited r z) (ends-one p.left (rests (next_state p.moment)) end)
        (subst (λ (u : Account). waited_at r z u.waiting.totals + (kept_stalled r z u.k u.last + stalled_from r z p.delays p.levels p.left a.last.uses.items p.moment) ≡ waited r z)
        (sym turn.same) (adding.waits r z parted)) (told.sums r z parted)

  -- the run continues
  module _ (going : run_ends p.left p.moment ≡ false) where
    pub some : p.left ≢ 0
    some = left-some p.left (rests (next_state p.moment)) going

    pub on : rests (next_state p.moment) ≡ false
    on = rests-not (nat_eq p.left 0) (rests (next_state p.moment)) going

    module _ (c : Account) (moved : IsNext p a' c) where
      pub stands : IsStanding (standing_at p.moment) c.state c.last
      stands = record { machine = next ∙ sym moved.state; tick = turn.came.behind.is.tick ∙ sym moved.tick; issue = sym moved.issue }

      pub after : c.k ≡ segment_after a.k p.moment
      after = moved.number ∙ ap (λ k. segment_after k p.moment) segment

      pub old-words : c.last.uses.items ≡ words_before p.moment a.last.uses.items
      old-words = moved.uses ∙ ap (λ (l : Last). words_before p.moment l.uses.items) last

      -- the next entry is completed, and its lines are still to be written
      pub counts : (d : Account) → (length c.words.items ≡ words_of_storage → c.words.items ≡ a'.state.words) → AreDelaysUpTo 255 p.delays → p.levels ≤ 8
          → IsStepped c d → ((q : Standing) → IsStanding q c.state c.last → Completes p.delays p.levels q c d)
          → IsCounting (next_position p) d y
      counts d words are few stepped completes =
          let done = completes (standing_at p.moment) stands in
          let bounds = next-is 255 p.levels p.delays are few p.moment turn.counted.bounds in
          let time = next-time 255 p.levels p.delays are few p.moment turn.counted.bounds turn.counted.time in
          let more = next-done p.delays p.levels p.moment in
          let made : d.state ≡ step a'.state = stepped.state ∙ ap step moved.state in
          let scene = next-stepped p.delays p.levels p.moment a'.state d.state y.signals y.cards turn.came.scene made in
          let here : next_state p.moment ≡ c.state = next ∙ sym moved.state in
          let kept = ap (λ (u : Account). u.words.items) stepped.rest in
          let stored : length d.words.items ≡ words_of_storage → d.words.items ≡ (next_state p.moment).words =
          λ long. kept ∙ words (ap length (sym kept) ∙ long) ∙ ap (λ (u : Machine). u.words) (sym next) in
          let count : d.state.done ≡ p.moment.scene.machine.done + 1 = ap (λ (s : Scene). s.machine.done) (sym scene) ∙ more in
          let least = turn.came.behind.run.few in
          let least_number = turn.came.behind.run.number in
          let issue = done.last.issue in
          record {
            at = record {
              scene = scene;
              each = bounds.scene.cards;
              hand = done.last;
              was = ap (λ (u : Machine). u.enabled) here ∙ sym stepped.enabled;
              predicted = λ later. ap (λ (s : Scene). predicting d.last.ic s.machine) scene ∙ stepped.prediction ∙ ap (λ u. prediction (interrupt u) u) (sym here);
              words = λ later. stored;
              unwritten = λ later w above among. stepped.left w above among ∙ ap (λ (u : Machine). word u w) (sym here);
              run = record {
                few = omega (arith, count, done-is, least, some);
                number = number-next a'.k d.k p.moment a'.state.done d.state.done (ap (λ (u : Account). u.k) stepped.rest ∙ moved.number) least_number
                    (count ∙ ap (λ e. e + 1) done-is);
                early = omega (arith, early-tick (next_moment p.delays p.levels (standing_at p.moment)) d.last.tick d.state.done done.last.tick time (ap (λ (s : Scene). s.machine.done) scene) (omega (arith, count, done-is, least, some)));
                opened = record {
                  past = stepped.past;
                  tight = subst (IsTight 255) issue bounds.tight;
                  order = omega (arith, ap (λ (f : IssueState). f.c) (sym issue), next-at p.delays p.levels (standing_at p.moment), done.last.tick);
                  soon = omega (arith, ap (λ (f : IssueState). f.c) (sym issue), next-at p.delays p.levels (standing_at p.moment), done.last.tick);
                };
                meets = ap (λ (f : IssueState). f.c) (sym issue) ∙ next-at p.delays p.levels (standing_at p.moment) ∙ done.last.tick;
                counter = stepped.counter;
                waiting = stepped.waiting;
              };
            };
            bounds = bounds;
            time = time;
          }

      -- the charges of the next entry are added
      module _ (total : Stage → ℕ) (waited : Stage → Stall → ℕ) (adding : IsAdding p total waited a) (d : Account) (stepped : IsStepped c d) (kept : d.sums ≡ c.sums)
          (completes : (q : Standing) → IsStanding q c.state c.last → Completes p.delays p.levels q c d) where
        pub within-next : AreWithin d.last.done.before d.sums
        within-next =
            subst (AreWithin d.last.done.before) (sym (kept ∙ moved.sums ∙ ap (λ (u : Account). u.sums) turn.same))
            (subst (λ t. AreWithin t a.sums) (sym (stepped.before ∙ moved.tick ∙ ap (λ (l : Last). l.tick) last)) adding.within)

        pub adds : AddsKeptWaits a'.k a'.last a'.waiting.totals c.waiting.totals → (sums : Totals)
            → AreWithin (d.last.done.before + all_ticks (charges_kept d.last)) sums
            → ((s : Stage) → sum_at s sums ≡ sum_at s d.sums + ticks_for s (charges_kept d.last)) → IsAdding (next_position p) total waited (record d { sums = sums })
        adds told sums within added =
            let done = completes (standing_at p.moment) stands in
            let later = number-some a.k c.k p.moment after in
            record {
              within = subst (λ t. AreWithin t sums) stepped.waiting.reach within;
              sum = λ s. sums-next p.delays p.levels p.left p.moment s (sum_at s a.sums) (sum_at s sums) (total s) some on (adding.sum s)
                  (added s
                  ∙ ap (λ (t : Totals). sum_at s t + ticks_for s (charges_kept d.last)) (kept ∙ moved.sums ∙ ap (λ (u : Account). u.sums) turn.same)
                  ∙ ap (λ xs. sum_at s a.sums + ticks_for s xs) done.charges);
              waits = λ r z parted.
                  waits-next p.delays p.levels p.left a.last.uses.items d.last.uses.items p.moment r z _ _ _ _ (waited r z) some on
                  (subst (λ (u : Account). waited_at r z u.waiting.totals
                  + (kept_stalled r z u.k u.last + stalled_from r z p.delays p.levels p.left a.last.uses.items p.moment) ≡ waited r z)
                  (sym turn.same) (adding.waits r z parted))
                  (ap (λ (u : Account). waited_at r z u.waiting.totals) stepped.rest ∙ told.sums r z parted)
                  (done.stalled r z later
                  ∙ ap (λ us. row_stalled r z (uses_at p.delays p.levels (standing_at p.moment)) us (charges_at p.delays p.levels (standing_at p.moment))) old-words)
                  done.uses;
            }

-- the totals of charges are no part of the step
pub stepped-with : (c d : Account) (sums : Totals) → IsStepped c d → IsStepped c (record d { sums = sums })
stepped-with c d sums is = record {
  state = is.state;
  enabled = is.enabled;
  prediction = is.prediction;
  left = is.left;
  past = is.past;
  counter = is.counter;
  ordered = is.ordered;
  before = is.before;
  waiting = is.waiting;
  rest = ap (λ (y : Account). record y { sums = sums }) is.rest;
}

pub completes-with : (ds : List ℕ) (n : ℕ) (p : Standing) (c d : Account) (sums : Totals) → Completes ds n p c d → Completes ds n p c (record d { sums = sums })
completes-with ds n p c d sums is =
    record { last = is.last; uses = is.uses; charges = is.charges; stalled = is.stalled; row = is.row }
