-- A prepared entry does not depend on the orders of the devices.
use Rattle.st_prep.proofs.Common.{◌≡◌, ◌≢◌, ℕ, false, Option, None, Some, refl, sym, ◌∙◌, ap, Machine, Place, index_words, place_of, words_fetched, decode_context_of, needs, prepared_entry, decode_context, side_word, plan, AreAlike}
use Rattle.st_state.specs.declared.devices.Order.{Order}
use Rattle.st_prep.specs.BesideOrders.{AreAlikeBesideOrders}
use Rattle.st_prep.proofs.AlikeLemmas.{plan-alike, plan-alike_ahead}
use Rattle.st_prep.proofs.ReadingLemmas.{fetched-outcome}

-- ---- other orders

-- a state with other orders
abbrev pub with_orders : Option Order → Option Order → Machine → Machine
with_orders r q s = record s { reader = r; printer = q }

fetched-orders : (r q : Option Order) (s : Machine) (p : Place) → words_fetched (with_orders r q s) p ≡ words_fetched s p
unfolding index_words
fetched-orders r q s p = fetched-outcome (with_orders r q s) p ∙ sym (fetched-outcome s p)

decode_context-orders : (r q : Option Order) (s : Machine) (p : Place) → decode_context (with_orders r q s) p ≡ decode_context s p
unfolding decode_context index_words
decode_context-orders r q s p = ap (λ f. decode_context_of p f (index_words s) s) (fetched-orders r q s p)

place-orders : (r q : Option Order) (s : Machine) (t : Option ℕ) → place_of (with_orders r q s) t ≡ place_of s t
unfolding place_of
place-orders r q s None = refl
place-orders r q s (Some i) = refl

side-orders : (r q : Option Order) (s : Machine) (t w : Option ℕ) → side_word t (with_orders r q s) w ≡ side_word t s w
side-orders r q s None w = refl
side-orders r q s (Some i) w = refl

plan-orders : (r q : Option Order) (s : Machine) (t : Option ℕ) → plan (with_orders r q s) t ≡ plan s t
unfolding plan
plan-orders r q s t =
    let u = with_orders r q s in
    let v = decode_context s (place_of s t) in
    let same : decode_context u (place_of u t) ≡ v = ap (decode_context u) (place-orders r q s t) ∙ decode_context-orders r q s (place_of s t) in
    ap (λ y. prepared_entry y (side_word t u (needs y).index_read)) same
    ∙ ap (prepared_entry v) (side-orders r q s t (needs v).index_read)

-- ---- states that differ in orders and indicators

-- with the orders of the other state, a state differs from it only in indicators
pub alike-orders : (s t : Machine) → AreAlikeBesideOrders s t → AreAlike s (with_orders s.reader s.printer t)
alike-orders s t h = record {
  size = h.size;
  words = h.words;
  ic = h.ic;
  enabled = h.enabled;
  waiting = h.waiting;
  done = h.done;
  reader = refl;
  printer = refl;
}

pub plan-beside : (s t : Machine) (i : Option ℕ) → AreAlikeBesideOrders s t
    → (needs (decode_context s (place_of s i))).index_read ≢ Some 11 → plan t i ≡ plan s i
plan-beside s t i h other =
    sym (plan-orders s.reader s.printer t i)
    ∙ plan-alike s (with_orders s.reader s.printer t) i (alike-orders s t h) other

pub plan-beside_ahead : (s t : Machine) (i : Option ℕ) → AreAlikeBesideOrders s t → (plan s i).serial ≡ false
    → plan t i ≡ plan s i
plan-beside_ahead s t i h free =
    sym (plan-orders s.reader s.printer t i)
    ∙ plan-alike_ahead s (with_orders s.reader s.printer t) i (alike-orders s t h) free
