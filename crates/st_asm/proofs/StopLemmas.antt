-- A pass stops at the first faulty card.
use Rattle.st_asm.proofs.Common.{◌≡◌, ◌⊎◌, inl, inr, ℕ, ◌+◌, Bool, true, false, List, [], ◌∷◌, ◌++◌, length, Option, Some, None, Result, Ok, Err, refl, ap, sym, ◌∙◌, if◌then◌else◌, option_or, first_fault, cards_of, text_in, Asked, asked_with_card, Card, CardKind, Comment, Control, Fault, BadControlCard, CardAfterEnd, NoEnd, next_reading, reading_map, statement_of, Refusal, onward, pass, pass_then, unless_faulty, name_field, statement_field, Found, found_at_start, before_end, first_fault_of, with_end, with_control, with_statement, form_control, form_statement, form_kind, form_card, form_pass, table, Named, name_pass, Emitted, value_pass, Assembly, together, assembly, result_err}
use Rattle.st_card.specs.declared.cards.CardKind.TheVariants.{Statement as StatementCard}
use Rattle.st_strap.specs.Faults.{faults_on}
use Rattle.st_strap.proofs.FaultLemmas.{card-fault, fault-mapped}
use Rattle.st_asm.specs.Stops.{Leads, HasFirst, StopsAtFirst, LacksEnd, StopsForm, StopsAtNames, StopsAtValues, StopsInOrder, asking_fault, form_fault}

-- the refusal in a result, or a default
abbrev refusal-in : {S : Type 0} → Refusal → Result S Refusal → Refusal
refusal-in other (Ok s) = other
refusal-in other (Err r) = r

first-further : {S X : Type 0} (next : S → X → Result S Fault) (number : X → ℕ) (from state : S) (x : X) (xs : List X) (r : Refusal) →
    next from x ≡ Ok state → HasFirst next number state xs r → HasFirst next number from (x ∷ xs) r
first-further next number from state x xs r good first = record {
  before = x ∷ first.before;
  here = first.here;
  after = first.after;
  state = first.state;
  parts = ap (λ l. x ∷ l) first.parts;
  good = (state, good, first.good);
  bad = first.bad;
  card = first.card;
}

first-here : {S X : Type 0} (next : S → X → Result S Fault) (number : X → ℕ) (from : S) (x : X) (xs : List X) (r : Refusal) (fault : Fault) →
    next from x ≡ Err fault → record { card = number x; fault = fault } ≡ r → HasFirst next number from (x ∷ xs) r
first-here next number from x xs r fault bad same = record {
  before = [];
  here = x;
  after = xs;
  state = from;
  parts = refl;
  good = refl;
  bad = bad ∙ ap (λ q. Err q.fault) same;
  card = ap (λ q. q.card) same;
}

-- a pass over a card without a fault and over the remaining cards
passed-on : {S X : Type 0} (next : S → X → Result S Fault) (number : X → ℕ) (from to : S) (x : X) (xs : List X) →
    ((state : S) → pass next number state xs ≡ Ok to → Leads next state xs to) → (answer : Result S Fault) →
    next from x ≡ answer → onward (λ s. pass next number s xs) (number x) answer ≡ Ok to → Leads next from (x ∷ xs) to
passed-on next number from to x xs further (Ok state) is went = (state, is, further state went)
passed-on next number from to x xs further (Err fault) is went = let no : ⊥ = cc in absurd no

-- the consequences of a refused pass for its first card
first-of : {S X : Type 0} (next : S → X → Result S Fault) (number : X → ℕ) (from : S) (x : X) (xs : List X) (r : Refusal) →
    ((state : S) → pass next number state xs ≡ Err r → HasFirst next number state xs r) → (answer : Result S Fault) →
    next from x ≡ answer → onward (λ s. pass next number s xs) (number x) answer ≡ Err r →
    HasFirst next number from (x ∷ xs) r
first-of next number from x xs r further (Ok state) is stopped =
    first-further next number from state x xs r is (further state stopped)
first-of next number from x xs r further (Err fault) is stopped =
    first-here next number from x xs r fault is (ap (λ a. refusal-in r a) stopped)

has-first : {S X : Type 0} (next : S → X → Result S Fault) (number : X → ℕ) (from : S) (xs : List X) (r : Refusal) →
    pass next number from xs ≡ Err r → HasFirst next number from xs r
has-first next number from [] r stopped = let no : ⊥ = cc in absurd no
has-first next number from (x ∷ xs) r stopped =
    first-of next number from x xs r (λ state again. has-first next number state xs r again) (next from x) refl stopped

refused-there : {S X : Type 0} (next : S → X → Result S Fault) (number : X → ℕ) (from state : S) (before after : List X) (here : X)
    (r : Refusal) → Leads next from before state → next state here ≡ Err r.fault → number here ≡ r.card →
    pass next number from (before ++ here ∷ after) ≡ Err r
refused-there next number from state [] after here r good bad card =
    ap (λ a. onward (λ s. pass next number s after) (number here) a) (ap (λ s. next s here) good ∙ bad)
    ∙ ap (λ n. Err (record { card = n; fault = r.fault })) card
refused-there next number from state (x ∷ xs) after here r (middle, step, good) bad card =
    ap (λ a. onward (λ s. pass next number s (xs ++ here ∷ after)) (number x) a) step
    ∙ refused-there next number middle state xs after here r good bad card

pub stops-at-first : {S X : Type 0} (next : S → X → Result S Fault) (number : X → ℕ) (from : S) → StopsAtFirst next number from
stops-at-first next number from xs r = (
  has-first next number from xs r,
  λ first. ap (λ l. pass next number from l) first.parts
      ∙ refused-there next number from first.state first.before first.after first.here r first.good first.bad first.card,
)

-- a refusal of two consecutive steps comes from the first or from the second
and_then-refused : {A B : Type 0} (next : A → Result B Refusal) (r : Result A Refusal) (refusal : Refusal) → pass_then r next ≡ Err refusal →
    (r ≡ Err refusal) ⊎ ((a : A) × (r ≡ Ok a) × (next a ≡ Err refusal))
and_then-refused next (Ok a) refusal refused = inr (a, refl, refused)
and_then-refused next (Err other) refusal refused = let same : other ≡ refusal = cc in inl (ap (λ q. Err q) same)

and_then-first : {A B : Type 0} (next : A → Result B Refusal) (r : Result A Refusal) (refusal : Refusal) → r ≡ Err refusal → pass_then r next ≡ Err refusal
and_then-first next r refusal is = ap (λ x. pass_then x next) is

and_then-next : {A B : Type 0} (next : A → Result B Refusal) (r : Result A Refusal) (a : A) (refusal : Refusal) → r ≡ Ok a → next a ≡ Err refusal →
    pass_then r next ≡ Err refusal
and_then-next next r a refusal is refused = ap (λ x. pass_then x next) is ∙ refused

-- a pass that reaches its end
passed : {S X : Type 0} (next : S → X → Result S Fault) (number : X → ℕ) (from to : S) (xs : List X) → pass next number from xs ≡ Ok to → Leads next from xs to
passed next number from to [] went = let same : from ≡ to = cc in same
passed next number from to (x ∷ xs) went = passed-on next number from to x xs (λ state again. passed next number state to xs again) (next from x) refl went

passes : {S X : Type 0} (next : S → X → Result S Fault) (number : X → ℕ) (from to : S) (xs : List X) → Leads next from xs to → pass next number from xs ≡ Ok to
passes next number from to [] leads = ap (λ s. Ok s) leads
passes next number from to (x ∷ xs) (middle, step, good) =
    ap (λ a. onward (λ s. pass next number s xs) (number x) a) step ∙ passes next number middle to xs good

ended-not : (ended : Bool) (r : Refusal) (found : Found) (refusal : Refusal) → (if ended then Ok found else Err r) ≡ Err refusal →
    (ended ≡ false) × (refusal ≡ r)
ended-not true r found refusal refused = let no : ⊥ = cc in absurd no
ended-not false r found refusal refused = let same : refusal ≡ r = cc in (refl, same)

open-end : (cards : ℕ) (found : Found) (refusal : Refusal) → with_end cards found ≡ Err refusal →
    (found.ended ≡ false) × (refusal ≡ record { card = cards + 1; fault = NoEnd })
open-end cards found refusal refused = ended-not found.ended (record { card = cards + 1; fault = NoEnd }) found refusal refused

form-by : (job : List ℕ) (cards : List Card) (refusal : Refusal) →
    let read : Result Found Refusal = pass (form_card job) (λ card. card.number) found_at_start cards in
    (read ≡ Err refusal) ⊎ ((found : Found) × (read ≡ Ok found) × (with_end (length cards) found ≡ Err refusal)) →
    HasFirst (form_card job) (λ card. card.number) found_at_start cards refusal ⊎ LacksEnd job cards refusal
form-by job cards refusal (inl refused) = inl (has-first (form_card job) (λ card. card.number) found_at_start cards refusal refused)
form-by job cards refusal (inr (found, read, refused)) =
    let end = open-end (length cards) found refusal refused in
    inr (record {
      found = found;
      good = passed (form_card job) (λ card. card.number) found_at_start found cards read;
      endless = end.0;
      behind = end.1;
    })

form-stopped : (job : List ℕ) (cards : List Card) (refusal : Refusal) →
    HasFirst (form_card job) (λ card. card.number) found_at_start cards refusal ⊎ LacksEnd job cards refusal → form_pass job cards ≡ Err refusal
unfolding form_pass
form-stopped job cards refusal (inl first) =
    and_then-first (with_end (length cards)) (pass (form_card job) (λ card. card.number) found_at_start cards) refusal
    ((stops-at-first (form_card job) (λ card. card.number) found_at_start cards refusal).1 first)
form-stopped job cards refusal (inr lacks) =
    and_then-next (with_end (length cards)) (pass (form_card job) (λ card. card.number) found_at_start cards) lacks.found refusal
    (passes (form_card job) (λ card. card.number) found_at_start lacks.found cards lacks.good)
    (ap (λ (b : Bool). if b then Ok lacks.found else Err (record { card = length cards + 1; fault = NoEnd })) lacks.endless
    ∙ ap (λ (q : Refusal). Err q) (sym lacks.behind))

-- the form pass stops at its first faulty card or at the missing END
pub stops-form : (job : List ℕ) (cards : List Card) → StopsForm job cards
unfolding form_pass
stops-form job cards refusal =
    let number = λ (card : Card). card.number in
    let read : Result Found Refusal = pass (form_card job) number found_at_start cards in (
      λ refused. form-by job cards refusal (and_then-refused (with_end (length cards)) read refusal refused),
      λ stops. form-stopped job cards refusal stops,
    )

-- the passes after the form pass, in order
abbrev after-names : Found → Named → Result Assembly Refusal
after-names found named = pass_then (value_pass (table named.symbols) found.lines named.places) (λ emitted. Ok (together found named emitted))

abbrev after-form : Found → Result Assembly Refusal
after-form found = pass_then (name_pass found.lines) (λ named. after-names found named)

last-refused : (found : Found) (named : Named) (r : Result Emitted Refusal) (refusal : Refusal) → pass_then r (λ emitted. Ok (together found named emitted)) ≡ Err refusal →
    r ≡ Err refusal
last-refused found named (Ok emitted) refusal refused = let no : ⊥ = cc in absurd no
last-refused found named (Err other) refusal refused = let same : other ≡ refusal = cc in ap (λ q. Err q) same

names-by : (job : List ℕ) (refusal : Refusal) (found : Found) → form_pass job (cards_of job) ≡ Ok found →
    (name_pass found.lines ≡ Err refusal) ⊎ ((named : Named) × (name_pass found.lines ≡ Ok named) × (after-names found named ≡ Err refusal)) →
    StopsAtNames job refusal ⊎ StopsAtValues job refusal
names-by job refusal found formed (inl refused) = inl (record { found = found; formed = formed; refused = refused })
names-by job refusal found formed (inr (named, has_names, refused)) = inr (record {
  found = found;
  formed = formed;
  named = named;
  has_names = has_names;
  refused = last-refused found named (value_pass (table named.symbols) found.lines named.places) refusal refused;
})

order-by : (job : List ℕ) (refusal : Refusal) →
    (form_pass job (cards_of job) ≡ Err refusal) ⊎ ((found : Found) × (form_pass job (cards_of job) ≡ Ok found) × (after-form found ≡ Err refusal)) →
    (form_pass job (cards_of job) ≡ Err refusal) ⊎ (StopsAtNames job refusal ⊎ StopsAtValues job refusal)
order-by job refusal (inl refused) = inl refused
order-by job refusal (inr (found, formed, refused)) =
    inr (names-by job refusal found formed (and_then-refused (λ named. after-names found named) (name_pass found.lines) refusal refused))

order-stopped : (job : List ℕ) (refusal : Refusal) →
    (form_pass job (cards_of job) ≡ Err refusal) ⊎ (StopsAtNames job refusal ⊎ StopsAtValues job refusal) → assembly job ≡ Err refusal
unfolding assembly
order-stopped job refusal (inl refused) = and_then-first (λ found. after-form found) (form_pass job (cards_of job)) refusal refused
order-stopped job refusal (inr (inl at)) =
    and_then-next (λ found. after-form found) (form_pass job (cards_of job)) at.found refusal at.formed
    (and_then-first (λ named. after-names at.found named) (name_pass at.found.lines) refusal at.refused)
order-stopped job refusal (inr (inr at)) =
    and_then-next (λ found. after-form found) (form_pass job (cards_of job)) at.found refusal at.formed
    (and_then-next (λ named. after-names at.found named) (name_pass at.found.lines) at.named refusal at.has_names
    (and_then-first (λ emitted. Ok (together at.found at.named emitted)) (value_pass (table at.named.symbols) at.found.lines at.named.places) refusal at.refused))

pub stops-in-order : (job : List ℕ) → StopsInOrder job
unfolding assembly
stops-in-order job refusal = (
  λ refused. order-by job refusal (and_then-refused (λ found. after-form found) (form_pass job (cards_of job)) refusal refused),
  λ stops. order-stopped job refusal stops,
)

-- ---- the faults of one card in the form pass

unless-fault : {S : Type 0} (o : Option Fault) (r : Result S Fault) → result_err (unless_faulty o r) ≡ option_or o (result_err r)
unless-fault None r = refl
unless-fault (Some fault) r = refl

or-none : (o : Option Fault) → option_or o None ≡ o
or-none None = refl
or-none (Some fault) = refl

asked-fault : (found : Found) (card : ℕ) (o : Option Asked) →
    result_err (next_reading BadControlCard o (λ asked. Ok (with_control found card asked))) ≡ asking_fault o
asked-fault found card None = refl
asked-fault found card (Some asked) = refl

control-fault : (found : Found) (card : ℕ) (text : List ℕ) → result_err (form_control found card text)
    ≡ (if found.ended then asking_fault (asked_with_card found.asked text) else Some BadControlCard)
unfolding form_control
control-fault found card text =
    elim found.ended as (λ b. result_err (if b then next_reading BadControlCard (asked_with_card found.asked text) (λ asked. Ok (with_control found card asked)) else Err BadControlCard)
    ≡ (if b then asking_fault (asked_with_card found.asked text) else Some BadControlCard)) [
      | true ↦ asked-fault found card (asked_with_card found.asked text)
      | false ↦ refl
    ]

read-fault : (o : Option Fault) (found : Found) (card : ℕ) (name text : List ℕ) →
    result_err (unless_faulty o (reading_map (λ s. with_statement found card name s) (statement_of name text))) ≡ option_or o (first_fault (faults_on name text))
read-fault o found card name text =
    unless-fault o (reading_map (λ s. with_statement found card name s) (statement_of name text))
    ∙ ap (λ x. option_or o x) (fault-mapped (λ s. with_statement found card name s) (statement_of name text) ∙ card-fault name text)

statement-fault : (found : Found) (card : ℕ) (o : Option Fault) (text : List ℕ) → result_err (form_statement found card o text)
    ≡ option_or (if found.ended then Some CardAfterEnd else None) (option_or o (first_fault (faults_on (name_field text) (statement_field text))))
unfolding form_statement
statement-fault found card o text =
    let read : Result Found Fault = unless_faulty o (reading_map (λ s. with_statement found card (name_field text) s) (statement_of (name_field text) (statement_field text))) in
    elim found.ended as (λ b. result_err (if b then Err CardAfterEnd else read)
    ≡ option_or (if b then Some CardAfterEnd else None) (option_or o (first_fault (faults_on (name_field text) (statement_field text))))) [
      | true ↦ refl
      | false ↦ read-fault o found card (name_field text) (statement_field text)
    ]

kind-fault : (k : CardKind) (job : List ℕ) (found : Found) (card : Card) →
    result_err (unless_faulty (first_fault_of k card.fault) (form_kind k found card.number card.fault (text_in job card))) ≡ form_fault k job found card
kind-fault Comment job found card = unless-fault card.fault (form_kind Comment found card.number card.fault (text_in job card)) ∙ or-none card.fault
kind-fault Control job found card =
    unless-fault card.fault (form_control found card.number (text_in job card))
    ∙ ap (λ x. option_or card.fault x) (control-fault found card.number (text_in job card))
kind-fault StatementCard job found card =
    unless-fault (before_end card.fault) (form_statement found card.number card.fault (text_in job card))
    ∙ ap (λ x. option_or (before_end card.fault) x) (statement-fault found card.number card.fault (text_in job card))

pub form_card-fault : (job : List ℕ) (found : Found) (card : Card) → result_err (form_card job found card) ≡ form_fault card.kind job found card
unfolding form_card
form_card-fault job found card = kind-fault card.kind job found card
