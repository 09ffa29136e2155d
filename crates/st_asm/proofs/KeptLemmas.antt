-- Invariants of the passes.
use Rattle.st_asm.proofs.Common.{◌≡◌, ◌≤◌, ◌<◌, ◌+◌, ◌-◌, ◌^◌, ◌&&◌, ◌==◌, ℕ, zero, suc, ℤ, pos, negsuc, Bool, true, false, not, nat_le, List, [], ◌∷◌, ◌++◌, length, map, get_or, replicate, Option, Some, None, unwrap_or, Result, Ok, Err, refl, ap, sym, ◌∙◌, subst, append_assoc, append-nil, length-append, lit≤, lit<, arith, if◌then◌else◌, zip, list_all, length-take, get_or-take, IfSome, IfOk, All-nil, All-cons, All-head, All-tail, All-push, All-append, text_in, card_at, cards_from, cards_of, Asked, asked_with_card, is_in_range, Card, CardKind, Comment, Control, Fault, BadControlCard, CardAfterEnd, next_reading, reading_map, statement_of, Statement, read-is, read-named, Refusal, onward, pass, unless_faulty, pass_then, name_field, statement_field, name_in, silent_line, saying, Found, found_at_start, first_fault_of, with_statement, with_control, with_end, form_control, form_statement, form_kind, form_card, form_pass, table, value_fault, placing_of, place_in, Named, naming_at_start, name_fault, name_step, name_card, name_pass, place_of_card, symbol_of, Emitted, emitting_at_start, value_statement, value_saying, value_card, value_pass, together, with_defaults, IsLocation, IsSymbol, IsAssemblySound, IsReadCard, IsDeck, IsNamed, IsSoundLayout, ReadCard, Placing, Emits, Passes, Sets, Names, Ends}
use Rattle.st_card.specs.declared.keywords.Once.TheVariants.{Budget}
use Rattle.std.proofs.lemmas.Bool.{and_parts as both}
use Rattle.std.specs.List.{All}
use Rattle.std.specs.Str.{IsAscii}
use Rattle.std.specs.Char.{is_ascii_uppercase}
use Rattle.std.proofs.lemmas.Bool.Decides.{nat_tests}
use Rattle.st_text.specs.Number.{is_filled}
use Rattle.st_text.specs.Pieces.{pieces_of}
use Rattle.st_card.specs.Limits.{IsWithinLimits, AreDelays}
use Rattle.st_card.specs.declared.cards.CardKind.TheVariants.{Statement as StatementCard}
use Rattle.st_card.proofs.LimitLemmas.{added-kept, nothing-within, others-within}
use Rattle.st_expr.specs.Name.{is_name, is_name_byte, padded_name}
use Rattle.st_asm.specs.Values.{value_modulo, values_of}
use Rattle.st_asm.specs.declared.valuing.Listed.{Listed}

-- the numbers of the cards of lines
abbrev cards_in : List ReadCard → List ℕ
cards_in lines = map (λ line. line.card) lines

abbrev numbers_in : List Listed → List ℕ
numbers_in rows = map (λ row. row.card) rows

-- ---- passes

onward-kept : {S T : Type 0} (P : T → Type 0) (R : S → Type 0) (rest : S → Result T Refusal) (card : ℕ) (r : Result S Fault) →
    IfOk r R → ((s : S) → R s → IfOk (rest s) P) → IfOk (onward rest card r) P
onward-kept P R rest card (Ok s) is next = next s is
onward-kept P R rest card (Err f) is next = tt

-- a pass preserves a property that each card preserves
pub pass-kept : {S X : Type 0} (next : S → X → Result S Fault) (number : X → ℕ) (P : S → Type 0) (Q : X → Type 0) →
    ((s : S) (x : X) → P s → Q x → IfOk (next s x) P) → (state : S) (xs : List X) → P state → All Q xs →
    IfOk (pass next number state xs) P
pass-kept next number P Q keeps state [] p q = p
pass-kept next number P Q keeps state (x ∷ xs) p q =
    onward-kept P P (λ s. pass next number s xs) (number x) (next state x) (keeps state x p (All-head Q x xs q))
    (λ s is. pass-kept next number P Q keeps s xs is (All-tail Q x xs q))

ok-weaker : {A E : Type 0} (P Q : A → Type 0) (r : Result A E) → ((a : A) → P a → Q a) → IfOk r P → IfOk r Q
ok-weaker P Q (Ok a) weaker p = weaker a p
ok-weaker P Q (Err e) weaker p = tt

-- a list that grows by a number at each card grows by the numbers of all cards
pub pass-numbers : {S X : Type 0} (next : S → X → Result S Fault) (number : X → ℕ) (view : S → List ℕ) →
    ((s : S) (x : X) → IfOk (next s x) (λ t. view t ≡ view s ++ number x ∷ [])) → (state : S) (xs : List X) →
    IfOk (pass next number state xs) (λ t. view t ≡ view state ++ map number xs)
pass-numbers next number view grows state [] = sym (append-nil (view state))
pass-numbers next number view grows state (x ∷ xs) =
    onward-kept (λ t. view t ≡ view state ++ number x ∷ map number xs) (λ t. view t ≡ view state ++ number x ∷ [])
    (λ s. pass next number s xs) (number x) (next state x) (grows state x)
    (λ s grown. ok-weaker (λ t. view t ≡ view s ++ map number xs) (λ t. view t ≡ view state ++ number x ∷ map number xs)
    (pass next number s xs)
    (λ t is. is ∙ (ap (λ l. l ++ map number xs) grown ∙ append_assoc (view state) (number x ∷ []) (map number xs)))
    (pass-numbers next number view grows s xs))

-- a count that grows by one at each card grows by the number of cards
pub pass-counts : {S X : Type 0} (next : S → X → Result S Fault) (number : X → ℕ) (size : S → ℕ) →
    ((s : S) (x : X) → IfOk (next s x) (λ t. size t ≡ size s + 1)) → (state : S) (xs : List X) →
    IfOk (pass next number state xs) (λ t. size t ≡ size state + length xs)
pass-counts next number size grows state [] = omega arith
pass-counts next number size grows state (x ∷ xs) =
    onward-kept (λ t. size t ≡ size state + suc (length xs)) (λ t. size t ≡ size state + 1)
    (λ s. pass next number s xs) (number x) (next state x) (grows state x)
    (λ s grown. ok-weaker (λ t. size t ≡ size s + length xs) (λ t. size t ≡ size state + suc (length xs))
    (pass next number s xs) (λ t is. omega (arith, is, grown)) (pass-counts next number size grows s xs))

ok-unless : {S : Type 0} (P : S → Type 0) (o : Option Fault) (r : Result S Fault) → IfOk r P → IfOk (unless_faulty o r) P
ok-unless P None r is = is
ok-unless P (Some f) r is = tt

ok-if : {S E : Type 0} (P : S → Type 0) (b : Bool) (r q : Result S E) → (b ≡ true → IfOk r P) → (b ≡ false → IfOk q P) →
    IfOk (if b then r else q) P
ok-if P true r q first second = first refl
ok-if P false r q first second = second refl

ok-judged : {A S : Type 0} (P : S → Type 0) (fault : Fault) (o : Option A) (next : A → Result S Fault) →
    ((a : A) → o ≡ Some a → IfOk (next a) P) → IfOk (next_reading fault o next) P
ok-judged P fault None next h = tt
ok-judged P fault (Some a) next h = h a refl

ok-mapped : {A S : Type 0} (P : S → Type 0) (f : A → S) (r : Result A Fault) → ((a : A) → r ≡ Ok a → P (f a)) → IfOk (reading_map f r) P
ok-mapped P f (Ok a) h = h a refl
ok-mapped P f (Err e) h = tt

-- ---- the form pass

card-pushed : (lines : List ReadCard) (line : ReadCard) → cards_in (lines ++ line ∷ []) ≡ cards_in lines ++ line.card ∷ []
card-pushed [] line = refl
card-pushed (l ∷ ls) line = ap (λ ns. l.card ∷ ns) (card-pushed ls line)

form_kind-numbers : (s : Found) (card : ℕ) (fault : Option Fault) (text : List ℕ) (kind : CardKind) →
    IfOk (form_kind kind s card fault text) (λ t. cards_in t.lines ≡ cards_in s.lines ++ card ∷ [])
unfolding form_control form_statement
form_kind-numbers s card fault text Comment = card-pushed s.lines (silent_line card)
form_kind-numbers s card fault text Control =
    let P : Found → Type 0 = λ t. cards_in t.lines ≡ cards_in s.lines ++ card ∷ [] in
    ok-if P s.ended _ (Err BadControlCard)
    (λ e. ok-judged P BadControlCard (asked_with_card s.asked text) (λ asked. Ok (with_control s card asked))
    (λ asked is. card-pushed s.lines (silent_line card)))
    (λ e. tt)
form_kind-numbers s card fault text StatementCard =
    let P : Found → Type 0 = λ t. cards_in t.lines ≡ cards_in s.lines ++ card ∷ [] in
    ok-if P s.ended (Err CardAfterEnd) _ (λ e. tt)
    (λ e. ok-unless P fault _
    (ok-mapped P (λ st. with_statement s card (name_field text) st) (statement_of (name_field text) (statement_field text))
    (λ st is. card-pushed s.lines (saying card (name_in (name_field text)) st))))

form-numbers : (job : List ℕ) (s : Found) (card : Card) →
    IfOk (form_card job s card) (λ t. cards_in t.lines ≡ cards_in s.lines ++ card.number ∷ [])
unfolding form_card
form-numbers job s card =
    ok-unless (λ t. cards_in t.lines ≡ cards_in s.lines ++ card.number ∷ []) (first_fault_of card.kind card.fault)
    (form_kind card.kind s card.number card.fault (text_in job card))
    (form_kind-numbers s card.number card.fault (text_in job card) card.kind)

silent-is : (card : ℕ) → IsReadCard (silent_line card)
silent-is card = record { well = tt; name = tt }

-- bytes of a name are ASCII
upper-below : (c : ℕ) → is_ascii_uppercase c ≡ true → c < 128
upper-below c is = grind (arith, nat_tests, is)

name_byte-below : (c : ℕ) → is_name_byte c ≡ true → c < 128
name_byte-below c is = grind (arith, nat_tests, is)

bytes-below : (cs : List ℕ) (n i : ℕ) → list_all is_name_byte cs ≡ true → get_or (cs ++ replicate n 32) i 0 < 128
bytes-below [] zero i all = lit< tt
bytes-below [] (suc n) zero all = lit< tt
bytes-below [] (suc n) (suc i) all = bytes-below [] n i all
bytes-below (c ∷ cs) n zero all = name_byte-below c (both (is_name_byte c) (list_all is_name_byte cs) all).0
bytes-below (c ∷ cs) n (suc i) all = bytes-below cs n i (both (is_name_byte c) (list_all is_name_byte cs) all).1

padded-ascii : (name : List ℕ) → is_name name ≡ true → IsAscii (padded_name name)
padded-ascii [] is = let no : ⊥ = cc in absurd no
padded-ascii (c ∷ cs) is =
    let front = (both (is_ascii_uppercase c && list_all is_name_byte cs) (nat_le (length cs) 7) is).0 in
    let parts = both (is_ascii_uppercase c) (list_all is_name_byte cs) front in
    λ i. at i (upper-below c parts.0) parts.1
  where
    at : (i : ℕ) → c < 128 → list_all is_name_byte cs ≡ true → get_or (c ∷ (cs ++ replicate (8 - suc (length cs)) 32)) i 0 < 128
    at zero below all = below
    at (suc i) below all = bytes-below cs (8 - suc (length cs)) i all

name-ascii : (name : List ℕ) → (is_filled name ≡ true → is_name name ≡ true) → IfSome (name_in name) IsAscii
unfolding name_in
name-ascii [] named = tt
name-ascii (c ∷ cs) named =
    let some : (length (c ∷ cs) == 0) ≡ false = grind arith in
    padded-ascii (c ∷ cs) (named (ap (λ b. not b) some))

saying-is : (card : ℕ) (name text : List ℕ) (st : Statement) → statement_of name text ≡ Ok st → IsReadCard (saying card (name_in name) st)
saying-is card name text st read = record {
  well = read-is name text st read;
  name = name-ascii name (read-named name text st read);
}

form_kind-kept : (s : Found) (card : ℕ) (fault : Option Fault) (text : List ℕ) (kind : CardKind) → IsDeck s →
    IfOk (form_kind kind s card fault text) IsDeck
unfolding form_control form_statement
form_kind-kept s card fault text Comment is = record {
  lines = All-push IsReadCard s.lines (silent_line card) is.lines (silent-is card);
  limits = is.limits;
}
form_kind-kept s card fault text Control is =
    ok-if IsDeck s.ended _ (Err BadControlCard)
    (λ e. ok-judged IsDeck BadControlCard (asked_with_card s.asked text) (λ asked. Ok (with_control s card asked))
    (λ asked more. record {
      lines = All-push IsReadCard s.lines (silent_line card) is.lines (silent-is card);
      limits = added-kept s.asked asked text more is.limits;
    }))
    (λ e. tt)
form_kind-kept s card fault text StatementCard is =
    ok-if IsDeck s.ended (Err CardAfterEnd) _ (λ e. tt)
    (λ e. ok-unless IsDeck fault _
    (ok-mapped IsDeck (λ st. with_statement s card (name_field text) st)
    (statement_of (name_field text) (statement_field text))
    (λ st read. record {
      lines = All-push IsReadCard s.lines (saying card (name_in (name_field text)) st) is.lines
          (saying-is card (name_field text) (statement_field text) st read);
      limits = is.limits;
    })))

form-kept : (job : List ℕ) (s : Found) (card : Card) → IsDeck s → IfOk (form_card job s card) IsDeck
unfolding form_card
form-kept job s card is =
    ok-unless IsDeck (first_fault_of card.kind card.fault) (form_kind card.kind s card.number card.fault (text_in job card))
    (form_kind-kept s card.number card.fault (text_in job card) card.kind is)

unread-is : IsDeck found_at_start
unread-is = record { lines = All-nil IsReadCard; limits = nothing-within }

ended-kept : (P : Found → Type 0) (cards : ℕ) (r : Result Found Refusal) → IfOk r P → IfOk (pass_then r (with_end cards)) P
ended-kept P cards (Ok found) is = ok-if P found.ended (Ok found) _ (λ e. is) (λ e. tt)
ended-kept P cards (Err e) is = tt

-- the result of the form pass satisfies its invariant
pub form_pass-deck : (job : List ℕ) (cards : List Card) (found : Found) → form_pass job cards ≡ Ok found → IsDeck found
unfolding form_pass
form_pass-deck job cards found is =
    subst (λ r. IfOk r IsDeck) is
    (ended-kept IsDeck (length cards) (pass (form_card job) (λ card. card.number) found_at_start cards)
    (pass-kept (form_card job) (λ card. card.number) IsDeck (λ _. Unit {0}) (λ s card d q. form-kept job s card d) found_at_start cards
    unread-is (λ k d below. tt)))

pub form_pass-numbers : (job : List ℕ) (cards : List Card) (found : Found) → form_pass job cards ≡ Ok found →
    cards_in found.lines ≡ map (λ card. card.number) cards
unfolding form_pass
form_pass-numbers job cards found is =
    let P : Found → Type 0 = λ t. cards_in t.lines ≡ map (λ card. card.number) cards in
    subst (λ r. IfOk r P) is
    (ended-kept P (length cards) (pass (form_card job) (λ card. card.number) found_at_start cards)
    (pass-numbers (form_card job) (λ card. card.number) (λ t. cards_in t.lines) (form-numbers job) found_at_start cards))

-- ---- the name pass

wrapped-below : (value : ℤ) → value_modulo value < 2 ^ 24
unfolding value_modulo
wrapped-below (pos n) = omega arith
wrapped-below (negsuc n) = omega arith

place_in-is : (placing : Placing) (location : ℕ) (value : ℤ) → IsLocation (place_in placing location value)
place_in-is (Emits unit bits) location value = omega arith
place_in-is Passes location value = omega arith
place_in-is Sets location value = wrapped-below value
place_in-is Names location value = wrapped-below value
place_in-is Ends location value = tt

place_of-is : (symbols : List (List ℕ × ℕ)) (location : ℕ) (statement : Option Statement) → IsLocation (place_of_card symbols location statement)
place_of-is symbols location None = tt
place_of-is symbols location (Some s) = place_in-is (placing_of s) location (values_of symbols s).first

symbol_of-is : (name : Option (List ℕ)) (place : Option ℕ) → IfSome name IsAscii → IsLocation place → All IsSymbol (symbol_of name place)
symbol_of-is None place ascii is = All-nil IsSymbol
symbol_of-is (Some name) (Some p) ascii is = All-cons IsSymbol _ [] (record { ascii = ascii; value = is }) (All-nil IsSymbol)
symbol_of-is (Some name) None ascii is = All-cons IsSymbol _ [] (record { ascii = ascii; value = lit< tt }) (All-nil IsSymbol)

name-kept : (on_cards : List ℕ → Bool) (named : Named) (line : ReadCard) → IsNamed named → IsReadCard line → IfOk (name_card on_cards named line) IsNamed
unfolding name_card name_step
name-kept on_cards named line is good =
    let place = place_of_card (table named.symbols) named.location line.statement in
    let located = place_of-is (table named.symbols) named.location line.statement in
    ok-unless IsNamed (name_fault on_cards named line) _ (record {
      symbols = All-append IsSymbol named.symbols (symbol_of line.name place) is.symbols (symbol_of-is line.name place good.name located);
      places = All-push IsLocation named.places place is.places located;
    })

name-counts : (on_cards : List ℕ → Bool) (named : Named) (line : ReadCard) →
    IfOk (name_card on_cards named line) (λ t. length t.places ≡ length named.places + 1)
unfolding name_card name_step
name-counts on_cards named line =
    ok-unless (λ t. length t.places ≡ length named.places + 1) (name_fault on_cards named line) _
    (length-append named.places (place_of_card (table named.symbols) named.location line.statement ∷ []))

-- the result of the name pass satisfies its invariant
pub name_pass-named : (lines : List ReadCard) (named : Named) → name_pass lines ≡ Ok named → All IsReadCard lines → IsNamed named
unfolding name_pass
name_pass-named lines named is good =
    subst (λ r. IfOk r IsNamed) is
    (pass-kept (name_card _) (λ line. line.card) IsNamed IsReadCard (name-kept _) naming_at_start lines
    (record { symbols = All-nil IsSymbol; places = All-nil IsLocation }) good)

pub name_pass-counts : (lines : List ReadCard) (named : Named) → name_pass lines ≡ Ok named → length named.places ≡ length lines
unfolding name_pass
name_pass-counts lines named is =
    subst (λ r. IfOk r (λ t. length t.places ≡ length lines)) is
    (ok-weaker (λ t. length t.places ≡ 0 + length lines) (λ t. length t.places ≡ length lines) _ (λ t e. omega (arith, e))
    (pass-counts (name_card _) (λ line. line.card) (λ t. length t.places) (name-counts _) naming_at_start lines))

-- ---- the value pass

row-pushed : (rows : List Listed) (row : Listed) → numbers_in (rows ++ row ∷ []) ≡ numbers_in rows ++ row.card ∷ []
row-pushed [] row = refl
row-pushed (r ∷ rs) row = ap (λ ns. r.card ∷ ns) (row-pushed rs row)

saying-numbers : (symbols : List (List ℕ × ℕ)) (s : Emitted) (card : ℕ) (statement : Option Statement) (place : Option ℕ) →
    IfOk (value_saying symbols s card statement place) (λ t. numbers_in t.rows ≡ numbers_in s.rows ++ card ∷ [])
unfolding value_statement
saying-numbers symbols s card None place = row-pushed s.rows _
saying-numbers symbols s card (Some st) place =
    ok-unless (λ t. numbers_in t.rows ≡ numbers_in s.rows ++ card ∷ []) (value_fault st (values_of symbols st) (unwrap_or place 0)) _
    (row-pushed s.rows _)

value-numbers : (symbols : List (List ℕ × ℕ)) (s : Emitted) (p : ReadCard × Option ℕ) →
    IfOk (value_card symbols s p) (λ t. numbers_in t.rows ≡ numbers_in s.rows ++ p.0.card ∷ [])
unfolding value_card
value-numbers symbols s p = saying-numbers symbols s p.0.card p.0.statement p.1

zip-cards : (lines : List ReadCard) (places : List (Option ℕ)) → length places ≡ length lines → map (λ p. p.0.card) (zip lines places) ≡ cards_in lines
zip-cards [] places same = refl
zip-cards (l ∷ ls) [] same = let no : ⊥ = omega arith in absurd no
zip-cards (l ∷ ls) (p ∷ ps) same = ap (λ ns. l.card ∷ ns) (zip-cards ls ps (omega arith))

-- the rows are those of the cards, in order
pub value_pass-numbers : (symbols : List (List ℕ × ℕ)) (lines : List ReadCard) (places : List (Option ℕ)) (emitted : Emitted) →
    value_pass symbols lines places ≡ Ok emitted → length places ≡ length lines → numbers_in emitted.rows ≡ cards_in lines
unfolding value_pass
value_pass-numbers symbols lines places emitted is same =
    subst (λ r. IfOk r (λ t. numbers_in t.rows ≡ map (λ p. p.0.card) (zip lines places))) is
    (pass-numbers (value_card symbols) (λ p. p.0.card) (λ t. numbers_in t.rows) (value-numbers symbols) emitting_at_start (zip lines places))
    ∙ zip-cards lines places same

-- ---- the whole assembly

-- the k-th card of lines has the k-th number
numbered : (n place k : ℕ) (lines : List (List ℕ)) (d : Card) → k < length (cards_from n place lines) →
    (get_or (cards_from n place lines) k d).number ≡ n + k
numbered n place k [] d below = let no : ⊥ = omega arith in absurd no
numbered n place k (line ∷ []) d below = last (length line == 0) below
  where
    last : (b : Bool) → k < length (if b then [] else card_at n place line ∷ []) →
        (get_or (if b then [] else card_at n place line ∷ []) k d).number ≡ n + k
    last true within = let no : ⊥ = omega arith in absurd no
    last false within = only k within
      where
        only : (k : ℕ) → k < 1 → (get_or (card_at n place line ∷ []) k d).number ≡ n + k
        only zero within = omega arith
        only (suc k) within = let no : ⊥ = omega arith in absurd no
numbered n place zero (line ∷ next ∷ more) d below = omega arith
numbered n place (suc k) (line ∷ next ∷ more) d below =
    numbered (n + 1) (place + length line + 1) k (next ∷ more) d (omega arith) ∙ omega arith

pub few-cards : (job : List ℕ) → length (cards_of job) ≤ 20001
few-cards job = omega (arith, length-take 20001 (cards_from 1 0 (pieces_of 10 job)))

card-number : (job : List ℕ) (k : ℕ) (d : Card) → k < length (cards_of job) → (get_or (cards_of job) k d).number ≡ k + 1
card-number job k d below =
    let all = cards_from 1 0 (pieces_of 10 job) in
    let size = length-take 20001 all in
    ap (λ card. card.number) (get_or-take 20001 all k d (omega (arith, size, below)))
    ∙ (numbered 1 0 k (pieces_of 10 job) d (omega (arith, size, below)) ∙ omega arith)

get_or-map : {X : Type 0} (f : X → ℕ) (xs : List X) (k : ℕ) (d : X) → k < length xs → get_or (map f xs) k 0 ≡ f (get_or xs k d)
get_or-map f [] k d below = let no : ⊥ = omega arith in absurd no
get_or-map f (x ∷ xs) zero d below = refl
get_or-map f (x ∷ xs) (suc k) d below = get_or-map f xs k d (omega arith)

-- the k-th number of the cards
number-at : (job : List ℕ) (k : ℕ) → k < length (cards_of job) → get_or (map (λ card. card.number) (cards_of job)) k 0 ≡ k + 1
number-at job k below = at (cards_of job) k below (λ d. card-number job k d below)
  where
    at : (cards : List Card) (k : ℕ) → k < length cards → ((d : Card) → (get_or cards k d).number ≡ k + 1) →
        get_or (map (λ card. card.number) cards) k 0 ≡ k + 1
    at [] k within is = let no : ⊥ = omega arith in absurd no
    at (card ∷ cards) k within is = get_or-map (λ c. c.number) (card ∷ cards) k card within ∙ is card

length-numbers : {X : Type 0} (f : X → ℕ) (xs : List X) → length (map f xs) ≡ length xs
length-numbers f [] = refl
length-numbers f (x ∷ xs) = ap suc (length-numbers f xs)

-- controls with their defaults
usual-delays : AreDelays (1 ∷ [])
usual-delays = record {
  each = All-cons (λ n. is_in_range 1 255 n ≡ true) 1 [] refl (All-nil (λ n. is_in_range 1 255 n ≡ true));
  few = lit≤ tt;
}

budget-within : (n : ℕ) → n ≤ 10000000 → ((if n == 0 then 1000 else n) ≤ 10000000) × (1 ≤ (if n == 0 then 1000 else n))
budget-within n few = by (n == 0) refl
  where
    by : (b : Bool) → (n == 0) ≡ b → ((if b then 1000 else n) ≤ 10000000) × (1 ≤ (if b then 1000 else n))
    by true e = (lit≤ tt, lit≤ tt)
    by false e = (few, grind (arith, nat_tests, e))

delays-within : (delays : List ℕ) → AreDelays delays → AreDelays (if length delays == 0 then 1 ∷ [] else delays)
    × (1 ≤ length (if length delays == 0 then 1 ∷ [] else delays))
delays-within delays are = by (length delays == 0) refl
  where
    by : (b : Bool) → (length delays == 0) ≡ b → AreDelays (if b then 1 ∷ [] else delays) × (1 ≤ length (if b then 1 ∷ [] else delays))
    by true e = (usual-delays, lit≤ tt)
    by false e = (are, grind (arith, nat_tests, e))

pub defaults-within : (asked : Asked) → IsWithinLimits asked →
    IsWithinLimits (with_defaults asked) × (1 ≤ (with_defaults asked).budget) × (1 ≤ length (with_defaults asked).delays)
unfolding with_defaults
defaults-within asked is =
    let budget = budget-within asked.budget (is.once Budget) in
    let delays = delays-within asked.delays is.delays in (
      others-within asked _ _ is budget.0 delays.0,
      budget.1,
      delays.1,
    )

-- the combined result of the three passes is sound
pub together-sound : (job : List ℕ) (found : Found) (named : Named) (emitted : Emitted) → form_pass job (cards_of job) ≡ Ok found →
    name_pass found.lines ≡ Ok named → value_pass (table named.symbols) found.lines named.places ≡ Ok emitted →
    IsSoundLayout emitted → IsAssemblySound (length (cards_of job)) (together found named emitted)
together-sound job found named emitted formed is_named is_emitted sound =
    let deck = form_pass-deck job (cards_of job) found formed in
    let names = name_pass-named found.lines named is_named deck.lines in
    let asked = defaults-within found.asked deck.limits in
    let numbers : numbers_in emitted.rows ≡ map (λ card. card.number) (cards_of job) =
    value_pass-numbers (table named.symbols) found.lines named.places emitted is_emitted (name_pass-counts found.lines named is_named)
    ∙ form_pass-numbers job (cards_of job) found formed in
    let count : length emitted.rows ≡ length (cards_of job) =
    sym (length-numbers (λ r. r.card) emitted.rows) ∙ (ap (λ ns. length ns) numbers ∙ length-numbers (λ card. card.number) (cards_of job)) in
    let numbered_row : (k : ℕ) (d : Listed) → k < length (cards_of job) → (get_or emitted.rows k d).card ≡ k + 1 =
    λ k d below. sym (get_or-map (λ r. r.card) emitted.rows k d (omega (arith, count, below)))
    ∙ (ap (λ ns. get_or ns k 0) numbers ∙ number-at job k below) in
    record {
      image = sound.image;
      start = sound.start;
      rows = sound.rows;
      row_count = count;
      numbers = λ k d below. numbered_row k d below;
      symbols = names.symbols;
      limits = asked.0;
      budget = asked.1;
      delays = asked.2;
    }
