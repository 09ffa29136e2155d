-- The invariant of a machine when a card comes.
use Rattle.st_ahead.proofs.Common.{IfSome, IsSome, take, drop, ◌≡◌, ℕ, ◌+◌, ◌<◌, ◌≤◌, List, [], ◌∷◌, length, Option, None, Some, refl, sym, subst, ◌∙◌, ap, arith, length-take, length-set, ext_get_or, get_or-take, get_or-drop, get_or-set_other, Machine, IsMachine, HasArea, word, state_with_store, state_with_signal, AreAlikeBesideOrders, Place, Overlap, machine_after_segment, read_in_by, index_words, place_of, all_stored, read_in, opening_issue, IssueState, LookaheadView, IsOpened, answers_before, overlap_of, IsBetween, IsInside}
use Rattle.std.proofs.lemmas.List.{length-drop}
use Rattle.st_state.specs.declared.devices.Order.{Order}
use Rattle.st_exec.proofs.Unchanged.{stored-other}
use Rattle.st_ahead.proofs.Standing.{inside-ended}
use Rattle.st_ahead.specs.declared.phase.Phase.{Phase as PhaseField}
use Rattle.st_ahead.specs.declared.phase.Phase.TheVariants as fields

-- ---- states that agree in the index words

record AreAlikeBelow (s u : Machine) : Type 0 where
  size : length u.words ≡ length s.words
  words : (w : ℕ) → 16 ≤ w → w < 32 → word u w ≡ word s w
  ic : u.ic ≡ s.ic

index-below : (s t : Machine) → AreAlikeBelow s t → index_words t ≡ index_words s
unfolding index_words
index-below s t h =
    let long : length (take 16 (drop 16 t.words)) ≡ length (take 16 (drop 16 s.words)) =
    omega (arith, h.size, length-take 16 (drop 16 t.words), length-drop 16 t.words, length-take 16 (drop 16 s.words), length-drop 16 s.words) in
    ext_get_or 0 (take 16 (drop 16 t.words)) (take 16 (drop 16 s.words)) long
    (λ k few.
    let near : k < 16 = omega (arith, length-take 16 (drop 16 t.words)) in
    get_or-take 16 (drop 16 t.words) k 0 near
    ∙ get_or-drop 16 t.words k 0
    ∙ h.words (16 + k) (omega arith) (omega arith)
    ∙ sym (get_or-take 16 (drop 16 s.words) k 0 near ∙ get_or-drop 16 s.words k 0))

stored-below : (s : Machine) (w x : ℕ) → 32 ≤ w → AreAlikeBelow s (state_with_store s w x)
stored-below s w x above = record {
  size = length-set s.words w _;
  words = λ k low few. stored-other s w x k (λ same. absurd (omega (arith, same)));
  ic = refl;
}

joined : (s t u : Machine) → AreAlikeBelow s t → AreAlikeBelow t u → AreAlikeBelow s u
joined s t u a b = record {
  size = b.size ∙ a.size;
  words = λ k low few. b.words k low few ∙ a.words k low few;
  ic = b.ic ∙ a.ic;
}

all-below : (s : Machine) (w : ℕ) (xs : List ℕ) → 32 ≤ w → AreAlikeBelow s (all_stored s w xs)
unfolding all_stored
all-below s w [] above = record { size = refl; words = λ k low few. refl; ic = refl }
all-below s w (x ∷ xs) above = joined s (state_with_store s w x) _ (stored-below s w x above) (all-below (state_with_store s w x) (w + 1) xs (omega arith))

signalled-below : (s : Machine) (i : ℕ) → AreAlikeBelow s (state_with_signal s i)
signalled-below s i = record {
  size = length-set s.words 11 _;
  words = λ k low few. get_or-set_other s.words 11 k _ 0 (λ same. absurd (omega (arith, same)));
  ic = refl;
}

read-below : (s : Machine) (w : ℕ) (card : List ℕ) → 32 ≤ w → AreAlikeBelow s (read_in s w (Some card))
read-below s w card above =
    let free : Machine = record s { reader = None } in
    joined s (all_stored free w card) _
    (joined s free (all_stored free w card) (record { size = refl; words = λ k low few. refl; ic = refl }) (all-below free w card above))
    (signalled-below (all_stored free w card) 12)

-- ---- the whole invariant

card-opened : (s u : Machine) (f : IssueState) (v : LookaheadView) → AreAlikeBelow s u → IsOpened None s f v → IsOpened None u f v
unfolding place_of
card-opened s u f v alike o = assumption (o.index ∙ sym (index-below s u alike), o.place ∙ ap (λ h. place-at h) (sym alike.ic))
  where
    place-at : ℕ → Place
    place-at h = record { counter = h; address = h; table = None }

card-ended : (n : ℕ) (ds : List ℕ) (s u : Machine) (t b : Option ℕ) (now : ℕ) (v : LookaheadView)
    → IsInside (overlap_of n ds s t b now fields.Ended v) v → IsMachine u → (IsMachine s → AreAlikeBelow s u)
    → IsInside (overlap_of n ds u t b now fields.Ended v) v
card-ended n ds s u (Some i) b now v is m alike = absurd (cc is.in_phase)
card-ended n ds s u None b now v is m alike =
    let between : IsBetween now None s v = is.lookahead in
    inside-ended n ds u b now v is.some is.few is.in_time
    (assumption (card-opened s u (opening_issue (answers_before now v) v.issue.c) v (alike between.machine) between.opened))

pub card-inside : (n : ℕ) (ds : List ℕ) (s u : Machine) (t b : Option ℕ) (now : ℕ) (p : PhaseField) (v : LookaheadView) (order : Option Order) (card : List ℕ)
    → IsInside (overlap_of n ds s t b now p v) v → p ≡ fields.Ended → order ≡ s.reader → IsSome order
    → IfSome order (λ o. u ≡ read_in s o.word (Some card)) → IsMachine u
    → IsInside (overlap_of n ds u t b now p v) v
card-inside n ds s u t b now p v None card is over same some h m = absurd (cc some)
card-inside n ds s u t b now p v (Some o) card is over same some h m =
    subst (λ (q : PhaseField). IsInside (overlap_of n ds u t b now q v) v) (sym over)
    (card-ended n ds s u t b now v (subst (λ (q : PhaseField). IsInside (overlap_of n ds s t b now q v) v) over is) m
    (λ before. subst (λ x. AreAlikeBelow s x) (sym h) (read-below s o.word card (subst HasArea (sym same) before.reader_area).0)))

-- an order without a card
pub no_card-alike : (s u : Machine) (order : Option Order) → ((w : ℕ) → AreAlikeBesideOrders s (read_in s w None)) → IsSome order
    → IfSome order (λ o. u ≡ read_in s o.word None) → AreAlikeBesideOrders s u
no_card-alike s u None alike some h = absurd (cc some)
no_card-alike s u (Some o) alike some h = subst (λ x. AreAlikeBesideOrders s x) (sym h) (alike o.word)

-- ---- the machine afterwards

pub with-read : (order : Option Order) (card : Option (List ℕ)) (s u : Machine) (f : Machine → Overlap) → IfSome order (λ o. u ≡ read_in s o.word card)
    → IfSome order (λ o. f u ≡ f (read_in s o.word card))
with-read None card s u f h = h
with-read (Some o) card s u f h = ap f h

pub read-ended : (m e x : Overlap) (words : List ℕ) (card : Option (List ℕ)) → card ≡ Some words → e ≡ machine_after_segment m → e.state ≡ m.state
    → IfSome e.state.reader (λ o. x ≡ record e { state = read_in e.state o.word (Some words) })
    → IfSome m.state.reader (λ o. x ≡ read_in_by o.word card m)
read-ended m e x words card some ends state h =
    let first = subst (λ (s : Machine). IfSome s.reader (λ o. x ≡ record e { state = read_in s o.word (Some words) })) state h in
    let second = subst (λ (y : Overlap). IfSome m.state.reader (λ o. x ≡ record y { state = read_in m.state o.word (Some words) })) ends first in
    subst (λ (k : Option (List ℕ)). IfSome m.state.reader (λ o. x ≡ read_in_by o.word k m)) (sym some) second
