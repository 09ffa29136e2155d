-- No card of a job that is assembled has a fault by itself.
use Rattle.st_asm.proofs.Common.{◌≡◌, ℕ, List, [], ◌∷◌, Bool, true, false, Option, Some, None, Result, Ok, Err, All, length, refl, if◌then◌else◌, All-cons, All-nil, text_in, Card, CardKind, Comment, Control, Fault, CardAfterEnd, Refusal, pass, onward, unless_faulty, pass_then, Found, first_fault_of, before_end, form_kind, form_statement, form_card, form_pass, found_at_start, with_end}
use Rattle.st_card.specs.declared.cards.CardKind.TheVariants.{Statement as StatementCard}

-- a result after an optional fault is good only if there is no fault
unless-none : {S : Type 0} (o : Option Fault) (r : Result S Fault) (s : S) → unless_faulty o r ≡ Ok s → (o ≡ None) × (r ≡ Ok s)
unless-none None r s h = (refl, h)
unless-none (Some f) r s h = let no : ⊥ = cc in absurd no

-- a faulty statement card is refused
either-fails : {S : Type 0} (b : Bool) (f g : Fault) (s : S) → (if b then Err f else Err g) ≡ Ok s → ⊥
either-fails true f g s h = cc
either-fails false f g s h = cc

faulty-statement : (found : Found) (card : ℕ) (f : Fault) (text : List ℕ) (after : Found) → form_statement found card (Some f) text ≡ Ok after → ⊥
unfolding form_statement
faulty-statement found card f text after h = either-fails found.ended CardAfterEnd f after h

kind-faultless : (k : CardKind) (o : Option Fault) (found : Found) (card : ℕ) (text : List ℕ) (after : Found) → unless_faulty (first_fault_of k o) (form_kind k found card o text) ≡ Ok after → o ≡ None
kind-faultless Comment o found card text after h = (unless-none o (form_kind Comment found card o text) after h).0
kind-faultless Control o found card text after h = (unless-none o (form_kind Control found card o text) after h).0
kind-faultless StatementCard None found card text after h = refl
kind-faultless StatementCard (Some f) found card text after h =
    absurd (faulty-statement found card f text after (unless-none (before_end (Some f)) (form_statement found card (Some f) text) after h).1)

card-faultless : (job : List ℕ) (found after : Found) (card : Card) → form_card job found card ≡ Ok after → card.fault ≡ None
unfolding form_card
card-faultless job found after card h = kind-faultless card.kind card.fault found card.number (text_in job card) after h

-- a pass that continues after a card
record GoesOn {S T : Type 0} (rest : S → Result T Refusal) (r : Result S Fault) (t : T) : Type 0 where
  state : S
  good : r ≡ Ok state
  next : rest state ≡ Ok t

onward-ok : {S T : Type 0} (rest : S → Result T Refusal) (card : ℕ) (r : Result S Fault) (t : T) → onward rest card r ≡ Ok t → GoesOn rest r t
onward-ok rest card (Ok s) t h = record { state = s; good = refl; next = h }
onward-ok rest card (Err f) t h = let no : ⊥ = cc in absurd no

pass-faultless : (job : List ℕ) (found after : Found) (cards : List Card) → pass (form_card job) (λ card. card.number) found cards ≡ Ok after → All (λ card. card.fault ≡ None) cards
pass-faultless job found after [] h = All-nil (λ card. card.fault ≡ None)
pass-faultless job found after (card ∷ cards) h =
    let on = onward-ok (λ s. pass (form_card job) (λ x. x.number) s cards) card.number (form_card job found card) after h in
    All-cons (λ x. x.fault ≡ None) card cards (card-faultless job found on.state card on.good) (pass-faultless job on.state after cards on.next)

-- a first result after which another step follows
record ComesNext {A B : Type 0} (next : A → Result B Refusal) (r : Result A Refusal) (b : B) : Type 0 where
  first : A
  is : r ≡ Ok first
  last : next first ≡ Ok b

and_then-ok : {A B : Type 0} (next : A → Result B Refusal) (r : Result A Refusal) (b : B) → pass_then r next ≡ Ok b → ComesNext next r b
and_then-ok next (Ok a) b h = record { first = a; is = refl; last = h }
and_then-ok next (Err e) b h = let no : ⊥ = cc in absurd no

pub form_pass-faultless : (job : List ℕ) (cards : List Card) (found : Found) → form_pass job cards ≡ Ok found → All (λ card. card.fault ≡ None) cards
unfolding form_pass
form_pass-faultless job cards found h =
    let formed = and_then-ok (with_end (length cards)) (pass (form_card job) (λ card. card.number) found_at_start cards) found h in
    pass-faultless job found_at_start formed.first cards formed.is
