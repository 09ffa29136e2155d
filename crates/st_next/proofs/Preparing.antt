-- The final preparation of the entry, at its P.
use Rattle.st_next.proofs.Common.{IfSome, option_map, not, nat_lt, ◌≡◌, ℕ, ◌^◌, ◌≤◌, ◌<◌, max, Bool, true, false, if◌then◌else◌, List, Option, None, Some, refl, sym, subst, ◌∙◌, ap, arith, Machine, word, Needs, Place, Prepared, place_of, DecodeContext, decode_context, needs, asks, prepared_entry, plan, state_at_entry, side_word, IsPrepared, is_prepared, is_needs, alone-serial, same_serial, decode_context-fits, plan-prepared, answer_if, tick_a, index_arrival, tick_p, side_there, is_forwarded, behind, behind_use, uses, Entry, Past, IssueState, entry, side_to_read, IsStateBefore, IsPlanned, IsNext, IsNextReady, FetchUnit}
use Rattle.std.specs.Prelude.{is_some}
use Rattle.std.proofs.lemmas.Bool.{ltb-false, le-leb}
use Rattle.st_bits.specs.Storage.{words_of_storage}
use Rattle.st_rows.specs.Entries.{latest_done}
use Rattle.st_rows.specs.Rows.{words_tick as fetched_words, preparation_tick as prepared_at}
use Rattle.st_rows.specs.declared.bus.Bus.{Bus}

-- ---- the writers of the index-side word have completed

side_if : (ds : List ℕ) (b : Bus) (w : ℕ) (late : Bool) (a done n m : ℕ) (past : List Past) → nat_lt a done ≡ late
    → done ≤ max (max a (answer_if ds b w a (if late then Some done else None))) m
side_if ds b w true a done n m past e = omega arith
side_if ds b w false a done n m past e = omega (arith, ltb-false a done e)

side_done : (ds : List ℕ) (n : ℕ) (past : List Past) (b : Bus) (side : Option ℕ) (w a : ℕ) → side ≡ Some w
    → latest_done past w < prepared_at n past a (side_there ds past b side a)
unfolding prepared_at side_there behind uses behind_use
side_done ds n past b None w a e = absurd (cc)
side_done ds n past b (Some v) w a e =
    let same : v ≡ w = cc in
    rw same (omega (arith, side_if ds b w (is_forwarded past w a) a (latest_done past w) n 0 past refl))

pub writers-done : (ds : List ℕ) (n : ℕ) (f : IssueState) (e : Entry) (w : ℕ) → e.side ≡ Some w → latest_done f.past w ≤ tick_p ds n f e
unfolding tick_p index_arrival side_there
writers-done ds n f e w is = omega (arith, side_done ds n f.past (fetched_words ds f e).bus e.side w (tick_a ds f e) is)

-- ---- the present content of the index-side word

table-none : (t : Option ℕ) (u : Machine) → (entry t u).serial ≡ false → t ≡ None
unfolding entry plan decode_context place_of
table-none None u e = refl
table-none (Some i) u e =
    let v = decode_context u (place_of u (Some i)) in
    let serial : (entry (Some i) u).serial ≡ true = alone-serial v (side_word (Some i) u (needs v).index_read) refl in
    absurd (cc)

side-above : (o : Option ℕ) (w : ℕ) → o ≡ Some w → 32 ≤ w → side_to_read o ≡ Some w
unfolding side_to_read
side-above None w e above = absurd (cc)
side-above (Some v) w e above =
    let same : v ≡ w = cc in rw (same, le-leb 32 w above) refl

entry-side : (t : Option ℕ) (u : Machine) → (entry t u).side ≡ side_to_read (needs (decode_context u (place_of u t))).index_read
unfolding entry
entry-side t u = refl

entry-serial : (t : Option ℕ) (u : Machine) → (entry t u).serial ≡ (needs (decode_context u (place_of u t))).serial
unfolding entry plan
entry-serial t u = same_serial (decode_context u (place_of u t)) (side_word t u (needs (decode_context u (place_of u t))).index_read)

place-table : (t : Option ℕ) (u : Machine) → (place_of u t).table ≡ t
unfolding place_of
place-table t u = refl

-- the range of an index-side word, from that of the needs
above-of : (o : Option ℕ) (w : ℕ) → o ≡ Some w → IfSome o (λ w. 32 ≤ w) → 32 ≤ w
above-of None w e h = absurd (cc)
above-of (Some v) w e h = let same : v ≡ w = cc in omega arith

-- the content of the index-side word is 0 until it is read
zero-word : (o : Option ℕ) → IfSome (option_map (λ w. 0) o) (λ w. w < 2 ^ 64)
zero-word None = tt
zero-word (Some w) = omega arith

module _ (ds : List ℕ) (n now : ℕ) (f : IssueState) (x : List ℕ) (s : Machine) (next : FetchUnit) (done : next.planned ≡ true)
    (t : Option ℕ) (u : Machine) (table : IfSome t (λ i. i < 64)) (before : IsStateBefore now f.past x s u) (is : IsNext ds n t u f next) where
  abbrev v : DecodeContext
  v = decode_context u (place_of u t)

  planned : IsPlanned ds n t u f next
  planned = is.planned done

  table-same : next.place.table ≡ t
  table-same = ap (λ (p : Place). p.table) is.read_on.place ∙ place-table t u

  pub table-fits : IfSome next.place.table (λ i. i < 64)
  table-fits = rw table-same table

  pub side-inside : IfSome next.needs.index_read (λ w. w < words_of_storage)
  side-inside = subst (λ (k : Needs). IfSome k.index_read (λ w. w < words_of_storage)) (sym planned.needs) (is_needs v).inside

  -- ---- without an index-side word

  none_if : (o : Option ℕ) → o ≡ None → prepared_entry v (option_map (λ w. 0) o) ≡ prepared_entry v (side_word t u o)
  none_if None e = refl
  none_if (Some w) e = absurd (cc)

  pub none-plan : next.needs.index_read ≡ None → next.prepared ≡ plan u t
  unfolding plan
  none-plan none = planned.prepared ∙ none_if (needs v).index_read (ap (λ (k : Needs). k.index_read) (sym planned.needs) ∙ none)

  pub plan-fits : IsPrepared (plan u t)
  plan-fits = plan-prepared u t before.machine table

  -- ---- with an index-side word

  pub words-seen : v.x ≡ x
  unfolding decode_context
  words-seen = before.index

  pub side-asked : is_some next.needs.index_read ≡ true → asks v ≡ true
  side-asked some = ap (λ (k : Needs). is_some k.index_read) (sym planned.needs) ∙ some

  pub without-side : next.prepared ≡ prepared_entry v (option_map (λ w. 0) (needs v).index_read)
  without-side = planned.prepared

  pub without-fits : IsPrepared next.prepared
  without-fits = rw planned.prepared (is_prepared v _ (decode_context-fits u t before.machine table) (zero-word (needs v).index_read))

  read-ahead : (w : ℕ) → next.needs.index_read ≡ Some w → (entry t u).serial ≡ false → tick_p ds n f (entry t u) ≤ now → word s w ≡ word u w
  read-ahead w e alone late =
      let side : (needs v).index_read ≡ Some w = ap (λ (k : Needs). k.index_read) (sym planned.needs) ∙ e in
      let above : 32 ≤ w = above-of (needs v).index_read w side ((is_needs v).above (sym (entry-serial t u) ∙ alone)) in
      let there : (entry t u).side ≡ Some w = entry-side t u ∙ side-above (needs v).index_read w side above in
      sym (before.storage w above (omega (arith, late, writers-done ds n f (entry t u) w there)))

  read-by : (b : Bool) (w : ℕ) → (entry t u).serial ≡ b → next.needs.index_read ≡ Some w → tick_p ds n f (entry t u) ≤ now → ((entry t u).serial ≡ true → u ≡ s)
      → word (state_at_entry next.place.table s) w ≡ word (state_at_entry next.place.table u) w
  read-by true w e side late alone = ap (λ m. word (state_at_entry next.place.table m) w) (sym (alone e))
  read-by false w e side late alone =
      let none : next.place.table ≡ None = table-same ∙ table-none t u e in
      ap (λ t. word (state_at_entry t s) w) none ∙ read-ahead w side e late ∙ ap (λ t. word (state_at_entry t u) w) (sym none)

  side-by : (o : Option ℕ) → next.needs.index_read ≡ o → tick_p ds n f (entry t u) ≤ now → ((entry t u).serial ≡ true → u ≡ s)
      → side_word next.place.table s o ≡ side_word next.place.table u o
  side-by None e late alone = refl
  side-by (Some w) e late alone = ap (λ x. Some x) (read-by (entry t u).serial w refl e late alone)

  pub some-plan : (p : Prepared) (read : Option ℕ) → p ≡ prepared_entry v read → read ≡ side_word next.place.table s next.needs.index_read
      → now ≡ next.formed.p → ((entry t u).serial ≡ true → u ≡ s) → p ≡ plan u t
  unfolding plan
  some-plan p read prepared there at alone =
      let late : tick_p ds n f (entry t u) ≤ now = omega (arith, at, planned.tick) in
      prepared
      ∙ ap (prepared_entry v)
      (there ∙ side-by next.needs.index_read refl late alone ∙ ap (λ i. side_word i u next.needs.index_read) table-same
      ∙ ap (λ (k : Needs). side_word t u k.index_read) planned.needs)

-- ---- from the premise of the call

pub none-of : (o : Option ℕ) (b : Bool) → is_some o ≡ not b → b ≡ true → o ≡ None
none-of None b e is = refl
none-of (Some w) true e is = absurd (cc)
none-of (Some w) false e is = absurd (cc)

-- the plan of the state before the entry
module _ (x : List ℕ) (s : Machine) (next : FetchUnit) (done : next.planned ≡ true) (k : IsNextReady x s next) where
  pub ready-none : next.needs.index_read ≡ None → IsPrepared next.prepared
  ready-none none =
      subst IsPrepared
      (sym (none-plan k.delays k.levels k.tick k.issue x s next done k.known.table k.known.state k.known.indicator k.known.before k.known.is_next none))
      (plan-fits k.delays k.levels k.tick k.issue x s next done k.known.table k.known.state k.known.indicator k.known.before k.known.is_next)

  pub ready-inside : IfSome next.needs.index_read (λ w. w < words_of_storage)
  ready-inside = side-inside k.delays k.levels k.tick k.issue x s next done k.known.table k.known.state k.known.indicator k.known.before k.known.is_next

  pub ready-table : IfSome next.place.table (λ i. i < 64)
  ready-table = table-fits k.delays k.levels k.tick k.issue x s next done k.known.table k.known.state k.known.indicator k.known.before k.known.is_next

  pub ready-fits : IsPrepared next.prepared
  ready-fits = without-fits k.delays k.levels k.tick k.issue x s next done k.known.table k.known.state k.known.indicator k.known.before k.known.is_next

  pub ready-words : (decode_context k.known.state (place_of k.known.state k.known.table)).x ≡ x
  ready-words = words-seen k.delays k.levels k.tick k.issue x s next done k.known.table k.known.state k.known.indicator k.known.before k.known.is_next

  pub ready-asked : is_some next.needs.index_read ≡ true → asks (decode_context k.known.state (place_of k.known.state k.known.table)) ≡ true
  ready-asked = side-asked k.delays k.levels k.tick k.issue x s next done k.known.table k.known.state k.known.indicator k.known.before k.known.is_next

  pub ready-without : next.prepared ≡ prepared_entry (decode_context k.known.state (place_of k.known.state k.known.table)) (option_map (λ w. 0) (needs (decode_context k.known.state (place_of k.known.state k.known.table))).index_read)
  ready-without = without-side k.delays k.levels k.tick k.issue x s next done k.known.table k.known.state k.known.indicator k.known.before k.known.is_next
