-- Lemmas on the tables of a run in its loop.
use Rattle.st_account.proofs.Common.{append-nil, ◌≡◌, ◌≢◌, ℕ, zero, suc, ◌+◌, ◌-◌, ◌*◌, ◌^◌, ◌≤◌, ◌⊎◌, inl, inr, true, false, List, [], ◌∷◌, ◌++◌, refl, sym, ◌∙◌, ap, subst, append_assoc, arith, Signal, Machine, rests, OutputState, PendingEvents, Moment, Standing, next_state, standing_at, next_moment, Use, origin_at, Origin, Why, Run, AreTablesWithin, TalliedRow, IsTally, Tables, Account, why_after, row_at, tallied_from, dropped_at_end, dropped_from, end_from, IsAtStart, IsNext, IsStepped, Completes, Position, position, next_position, IsStanding, CountAs, kept_rows, IsOrdered, IsTallyReady, AddsKeptRow, IsEmptyTally, TalliesRow, run_ends, segment_end_at, segment_after, uses_at, words_before}
use Rattle.std.specs.Prelude.{length, Option}
use Rattle.st_tally.proofs.TableLemmas.{tables-later}
use Rattle.st_account.specs.declared.tallying.Tally.{Tally}
use Rattle.st_account.proofs.LoopLemmas.{number-some, ends-one}
use Rattle.st_account.proofs.RunLemmas.{end-on}
use Rattle.st_account.proofs.TallyLemmas.{kept-rows-none}
use Rattle.st_account.proofs.TurnLemmas.{IsCounting, IsTurning, IsSumming, taken, next-done, done-is, some, on, stands, after, old-words}

-- ---- the rows and the dropped entries from a moment on

module _ (ds : List ℕ) (n : ℕ) where
  pub tallied-end : (o : Machine → ℕ → Option Origin) (left k : ℕ) (w : Why) (us : List Use) (m : Moment) → (left ≡ 0) ⊎ (rests (next_state m) ≡ true)
      → tallied_from o ds n left k w us m ≡ []
  unfolding tallied_from
  tallied-end o zero k w us m end = refl
  tallied-end o (suc left) k w us m (inl none) = let no : ⊥ = omega arith in absurd no
  tallied-end o (suc left) k w us m (inr resting) = rw resting refl

  pub tallied-on : (o : Machine → ℕ → Option Origin) (left k : ℕ) (w : Why) (us : List Use) (m : Moment) → left ≢ 0 → rests (next_state m) ≡ false
      → tallied_from o ds n left k w us m
      ≡ row_at o ds n (segment_end_at (left - 1) (next_moment ds n (standing_at m))) (why_after k w m) (words_before m us) (standing_at m)
      ∷ tallied_from o ds n (left - 1) (segment_after k m) (why_after k w m) (uses_at ds n (standing_at m)) (next_moment ds n (standing_at m))
  unfolding tallied_from
  tallied-on o zero k w us m some going = absurd (some refl)
  tallied-on o (suc left) k w us m some going =
      let one : left ≡ suc left - 1 = omega arith in
      rw going
      (ap (λ j. row_at o ds n (segment_end_at j (next_moment ds n (standing_at m))) (why_after k w m) (words_before m us) (standing_at m)
      ∷ tallied_from o ds n j (segment_after k m) (why_after k w m) (uses_at ds n (standing_at m)) (next_moment ds n (standing_at m))) one)

  dropped-end : (left : ℕ) (m : Moment) → (left ≡ 0) ⊎ (rests (next_state m) ≡ true) → dropped_from ds n left m ≡ length m.dropped
  unfolding dropped_from
  dropped-end zero m end = refl
  dropped-end (suc left) m (inl none) = let no : ⊥ = omega arith in absurd no
  dropped-end (suc left) m (inr resting) = rw resting refl

  dropped-on : (left : ℕ) (m : Moment) → left ≢ 0 → rests (next_state m) ≡ false
      → dropped_from ds n left m ≡ dropped_at_end m + dropped_from ds n (left - 1) (next_moment ds n (standing_at m))
  unfolding dropped_from
  dropped-on zero m some going = absurd (some refl)
  dropped-on (suc left) m some going =
      let one : left ≡ suc left - 1 = omega arith in
      rw going (ap (λ j. dropped_at_end m + dropped_from ds n j (next_moment ds n (standing_at m))) one)

-- ---- the tables at the head of the loop

-- The tables have rows, to which the last entry and the rows of the remaining run are still to be added. `own` is the row of the last entry, as which the
-- kept one counts. The number of entries that are still dropped and
-- of those that were dropped are together the total.
pub record AreTallied (p : Position) (o : Machine → ℕ → Option Origin) (rows : List TalliedRow) (dropped size : ℕ) (a : Account) (y : Tally) : Type 0 where
  pub front : List TalliedRow
  pub tally : IsTally front y.tables
  pub own : List TalliedRow
  pub counts : CountAs (kept_rows a.k a.last (segment_end_at p.left p.moment) y.why) own
  pub all : front ++ (own ++ tallied_from o p.delays p.levels p.left a.k y.why a.last.uses.items p.moment) ≡ rows
  pub table : origin_at a.origins ≡ o
  pub places : length y.tables.cards.items ≡ size
  pub ordered : a.k ≢ 0 → IsOrdered a.last
  pub first : a.k ≡ 0 → AreTablesWithin a.last.tick y.tables
  pub within : AreTablesWithin a.last.done.before y.tables
  pub ticks : y.tables.level_ticks ≤ 165760000000 * p.moment.scene.machine.done
  pub sum : y.dropped + dropped_from p.delays p.levels p.left p.moment ≡ dropped
  pub few : y.dropped ≤ 8 * p.moment.scene.machine.done

-- Loop invariant of the totals with their tables.
pub record IsTallying (s t : OutputState) (all : List (List ℕ)) (o : Machine → ℕ → Option Origin) (ds : List ℕ) (n : ℕ)
    (rows : List TalliedRow) (dropped places : ℕ) (a : Account) (y : Tally) (x : PendingEvents) (left : ℕ) : Type 0 where
  pub summing : IsSumming s t all ds n a x left
  pub tallied : AreTallied (position ds n left summing.b summing.m) o rows dropped places a y

pub tally-taken : (s t : OutputState) (all : List (List ℕ)) (o : Machine → ℕ → Option Origin) (ds : List ℕ) (n : ℕ)
    (rows : List TalliedRow) (dropped places : ℕ) (a : Account) (y : Tally) (x : PendingEvents)
    (xs ys : List Signal) (cards : List (List ℕ)) (left budget : ℕ) → x ≡ record { signals = xs; cards = cards } → xs ≡ ys → left ≡ budget
    → IsTallying s t all o ds n rows dropped places a y (record { signals = ys; cards = cards }) budget
    → IsTallying s t all o ds n rows dropped places a y x left
tally-taken s t all o ds n rows dropped places a y x xs ys cards left budget =
    taken (λ z k. IsTallying s t all o ds n rows dropped places a y z k) x xs ys cards left budget

-- the invariant after a round
pub tallies : (p : Position) (s t : OutputState) (all : List (List ℕ)) (o : Machine → ℕ → Option Origin)
    (rows : List TalliedRow) (dropped places : ℕ) (d : Account) (x : Tally) (y : PendingEvents) → p.left ≢ 0
    → rests (next_state p.moment) ≡ false → end_from p.delays p.levels p.left p.moment ≡ all → t ≡ s → length d.words.items ≡ 0
    → IsCounting (next_position p) d y → AreTallied (next_position p) o rows dropped places d x
    → IsTallying s t all o p.delays p.levels rows dropped places d x y (p.left - 1)
tallies p s t all o rows dropped places d x y some on ends still bare counted tallied = record {
  summing = record {
    m = next_moment p.delays p.levels (standing_at p.moment);
    b = next_state p.moment;
    counted = counted;
    ends = sym (end-on p.delays p.levels p.left p.moment some on) ∙ ends;
    unwritten = still;
    bare = bare;
  };
  tallied = tallied;
}

-- before the first entry
pub tally-starts : (o : Machine → ℕ → Option Origin) (ds : List ℕ) (n budget : ℕ) (s : Machine) (a : Account) (y : Tally) (m : Moment) → IsEmptyTally y → origin_at a.origins ≡ o
    → IsAtStart s a
    → AreTallied (position ds n budget s m) o (tallied_from o ds n budget 0 Run [] m) (dropped_from ds n budget m) (length y.tables.cards.items) a y
tally-starts o ds n budget s a y m empty table start = record {
  front = [];
  tally = empty.tables.tally;
  own = kept_rows a.k a.last (segment_end_at budget m) y.why;
  counts = λ zs t is. is;
  all =
      ap (λ ls. ls ++ tallied_from o ds n budget a.k y.why a.last.uses.items m) (kept-rows-none a.k a.last (segment_end_at budget m) y.why start.number)
      ∙ ap (λ k. tallied_from o ds n budget k y.why a.last.uses.items m) start.number
      ∙ ap (λ w. tallied_from o ds n budget 0 w a.last.uses.items m) empty.why
      ∙ ap (λ us. tallied_from o ds n budget 0 Run us m) start.unused;
  table = table;
  places = refl;
  ordered = λ some. absurd (some start.number);
  first = λ none. subst (λ t. AreTablesWithin t y.tables) (sym start.tick) empty.tables.within;
  within = subst (λ t. AreTablesWithin t y.tables) (sym start.before) empty.tables.within;
  ticks = omega (arith, empty.tables.ticks);
  sum = omega (arith, empty.dropped);
  few = omega (arith, empty.dropped);
}

module _ {p : Position} {a : Account} {x : PendingEvents} {a' : Account} {z : PendingEvents} (turn : IsTurning p a x a' z)
    {o : Machine → ℕ → Option Origin} {rows : List TalliedRow} {dropped places : ℕ} {y : Tally} (tallied : AreTallied p o rows dropped places a y) where
  count-is : p.moment.scene.machine.done ≡ a'.state.done
  count-is = done-is turn

  most : p.moment.scene.machine.done ≤ 10000000
  most = omega (arith, count-is, turn.came.behind.run.few)

  pub ready-then : IsTallyReady a'.k a'.last y.tables
  ready-then = subst (λ (v : Account). IsTallyReady v.k v.last y.tables) (sym turn.same) (record {
    ordered = tallied.ordered;
    first = tallied.first;
    within = tallied.within;
    ticks = omega (arith, tallied.ticks, most, turn.counted.time, turn.counted.at.hand.tick);
  })

  pub few-dropped : y.dropped ≤ 2 ^ 62
  few-dropped = omega (arith, tallied.few, most)

  -- the last entry is added
  module _ (new : Tables) (added : AddsKeptRow a'.k a'.last (segment_end_at p.left p.moment) y.why y.tables new) where
    now : IsTally (tallied.front ++ tallied.own) new
    now =
        tallied.counts tallied.front new
        (subst (λ (v : Account). IsTally (tallied.front ++ kept_rows v.k v.last (segment_end_at p.left p.moment) y.why) new) turn.same (added.tally tallied.front tallied.tally))

    pub places-kept : length new.cards.items ≡ places
    places-kept = added.size ∙ tallied.places

    pub tables-small : AreTablesWithin (2 ^ 63) new
    tables-small =
        tables-later a'.last.tick (2 ^ 63) new (omega (arith, ap (λ (v : Account). v.last.tick) turn.same, turn.counted.at.hand.tick, turn.counted.time, most)) added.within

    -- the run ends
    pub tally-ends : run_ends p.left p.moment ≡ true → IsTally rows new
    tally-ends end =
        subst (λ ls. IsTally ls new)
        (ap (λ ls. tallied.front ++ ls)
        (sym (append-nil tallied.own)
        ∙ ap (λ ls. tallied.own ++ ls)
        (sym (tallied-end p.delays p.levels o p.left a.k y.why a.last.uses.items p.moment (ends-one p.left (rests (next_state p.moment)) end)))) ∙ tallied.all)
        now

  -- the run continues
  module _ (going : run_ends p.left p.moment ≡ false) (c : Account) (moved : IsNext p a' c) where
    pub tally-on : (d : Account) (w : Tally) → TalliesRow p a' y w → IsStepped c d
        → ((q : Standing) → IsStanding q c.state c.last → Completes p.delays p.levels q c d)
        → AreTallied (next_position p) o rows dropped places d w
    tally-on d w added stepped completes =
        let m = p.moment in
        let q = standing_at m in
        let next = next_moment p.delays p.levels q in
        let end = segment_end_at (p.left - 1) next in
        let why_next = why_after a.k y.why m in
        let us = words_before m a.last.uses.items in
        let is_after = after turn going c moved in
        let standing = stands turn going c moved in
        let done = completes q standing in
        let later = number-some a.k c.k m is_after in
        let is_some = some turn going in
        let is_on = on turn going in
        let origin : origin_at c.origins ≡ o = ap origin_at (moved.origins ∙ ap (λ (v : Account). v.origins) turn.same) ∙ tallied.table in
        let why_is : w.why ≡ why_next = added.why ∙ ap (λ (v : Account). why_after v.k y.why m) turn.same in
        let old : a'.last.tick ≡ a.last.tick = ap (λ (v : Account). v.last.tick) turn.same in
        let segment : d.k ≡ c.k = ap (λ (v : Account). v.k) stepped.rest in
        let more_done = next-done p.delays p.levels m in
        let some_more = dropped-on p.delays p.levels p.left m is_some is_on in
        record {
          front = tallied.front ++ tallied.own;
          tally = now w.tables added.row;
          own = row_at o p.delays p.levels end why_next us q ∷ [];
          counts =
              subst (CountAs (kept_rows d.k d.last end w.why))
              (ap (λ g. row_at g p.delays p.levels end w.why c.last.uses.items q ∷ []) origin
              ∙ ap (λ v. row_at o p.delays p.levels end v c.last.uses.items q ∷ []) why_is
              ∙ ap (λ v. row_at o p.delays p.levels end why_next v q ∷ []) (old-words turn going c moved))
              (done.row end w.why later);
          all =
              append_assoc tallied.front tallied.own (row_at o p.delays p.levels end why_next us q
              ∷ tallied_from o p.delays p.levels (p.left - 1) d.k w.why d.last.uses.items next)
              ∙ ap (λ ls. tallied.front ++ (tallied.own ++ ls))
              (ap (λ v. row_at o p.delays p.levels end why_next us q ∷ tallied_from o p.delays p.levels (p.left - 1) d.k v d.last.uses.items next) why_is
              ∙ ap (λ k. row_at o p.delays p.levels end why_next us q ∷ tallied_from o p.delays p.levels (p.left - 1) k why_next d.last.uses.items next) (segment ∙ is_after)
              ∙ ap (λ v. row_at o p.delays p.levels end why_next us q ∷ tallied_from o p.delays p.levels (p.left - 1) (segment_after a.k m) why_next v next) done.uses
              ∙ sym (tallied-on p.delays p.levels o p.left a.k y.why a.last.uses.items m is_some is_on))
              ∙ tallied.all;
          table = ap (λ (v : Account). origin_at v.origins) stepped.rest ∙ origin;
          places = places-kept w.tables added.row;
          ordered = λ some. stepped.ordered;
          first = λ none. absurd (later (sym segment ∙ none));
          within = subst (λ t. AreTablesWithin t w.tables) (sym (stepped.before ∙ moved.tick)) added.row.within;
          ticks = omega (arith, added.row.ticks, old, tallied.ticks, turn.counted.time, most, turn.counted.at.hand.tick, more_done);
          sum = omega (arith, added.dropped, some_more, tallied.sum);
          few = omega (arith, added.few, tallied.few, more_done);
        }

  pub dropped-ends : (new : ℕ) → run_ends p.left p.moment ≡ true → new ≡ y.dropped + length p.moment.dropped → new ≡ dropped
  dropped-ends new end is =
      omega (arith, is, tallied.sum, dropped-end p.delays p.levels p.left p.moment (ends-one p.left (rests (next_state p.moment)) end))
