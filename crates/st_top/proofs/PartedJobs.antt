-- The assembly of a job depends only on its cards up to END, except for the requests of the control cards after it.
use Rattle.st_top.proofs.Common.{◌≡◌, ℕ, zero, suc, ◌+◌, ◌==◌, ◌&&◌, ◌||◌, Bool, true, false, if◌then◌else◌, List, [], ◌∷◌, ◌++◌, length, map, filter, take, refl, sym, ◌∙◌, ap, subst, append_assoc, append-nil, length-append, arith, Option, Some, None, is_some, All, or_parts, length-map, All-head, All-tail, line_end, words, pieces_of, columns, kind_of, card_at, cards_from, cards_of, text_in, IsCardOf, Asked, nothing_asked, asked_with_card, Card, CardKind, Comment, Control, Statement, Fault, BadControlCard, CardAfterEnd, Refusal, onward, pass, unless_faulty, pass_then, name_field, statement_field, silent_line, table, Named, name_pass, Emitted, value_pass, Assembly, with_defaults, together, assembly, Listed, form_pass-numbers, name_pass-counts, is_comment, is_statement, has_statement, behind_statements, card_words, texts_in, reader_cards, AreAlikeBesideDelays, up_to_end, texts_up_to_end, end_card, HasGoodDelays, asked_in, delays_behind_end, is_control, begins_delays, is_delays_card, texts_behind_end, others_behind_end, DifferInDelaysCards}
use Rattle.std.proofs.Common.{Result, Ok, Err}
use Rattle.st_card.proofs.StandingLemmas.{cards_stand}
use Rattle.st_strap.specs.Order.{next_reading, reading_map}
use Rattle.st_strap.specs.Saying.{statement_of}
use Rattle.st_asm.specs.Forming.{Found, found_at_start, first_fault_of, with_line, with_control, with_statement, with_end, form_control, form_statement, form_kind, form_card, form_pass}
use Rattle.st_asm.proofs.FaultlessLemmas.{form_pass-faultless}
use Rattle.st_top.proofs.MarkLemmas.{cards-split}
use Rattle.st_top.proofs.PartedPasses.{ReadCard, onward-ok, and_then-ok, onward-same, pass-append, quiet, no_places, quiet_rows, with_places, with_rows, names-parted, values-parted, Parts, passes-parted}
use Rattle.st_top.proofs.AcceptedJobs.{mixed}
use Rattle.st_top.proofs.DelayCards.{still, others, asked_by, asked_with, asks-none, asks-some, asks-comment, asks-control, others-kept, others-left}

-- ---- cards and their texts

-- cards with successive numbers from n
abbrev AreNumbered : ℕ → List Card → Type 0
AreNumbered n [] = Unit {0}
AreNumbered n (card ∷ cards) = (card.number ≡ n) × AreNumbered (n + 1) cards

from-numbered : (n place : ℕ) (lines : List (List ℕ)) → AreNumbered n (cards_from n place lines)
from-numbered n place [] = tt
from-numbered n place (line ∷ []) = last (length line == 0) where
  last : (b : Bool) → AreNumbered n (if b then [] else card_at n place line ∷ [])
  last true = tt
  last false = (refl, tt)
from-numbered n place (line ∷ next ∷ more) = (refl, from-numbered (n + 1) (place + length line + 1) (next ∷ more))

take-numbered : (k n : ℕ) (cards : List Card) → AreNumbered n cards → AreNumbered n (take k cards)
take-numbered zero n cards h = tt
take-numbered (suc k) n [] h = tt
take-numbered (suc k) n (card ∷ cards) h = (h.0, take-numbered k (n + 1) cards h.1)

issue-numbered : (n : ℕ) (xs ys : List Card) → AreNumbered n (xs ++ ys) → AreNumbered n xs
issue-numbered n [] ys h = tt
issue-numbered n (x ∷ xs) ys h = (h.0, issue-numbered (n + 1) xs ys h.1)

-- cards without a fault, each with the kind of its text
abbrev AreGood : List ℕ → List Card → Type 0
AreGood job [] = Unit {0}
AreGood job (card ∷ cards) = (card.kind ≡ kind_of (text_in job card)) × (card.fault ≡ None) × AreGood job cards

are-good : (job : List ℕ) (cards : List Card) → All (IsCardOf job) cards → All (λ (card : Card). card.fault ≡ None) cards → AreGood job cards
are-good job [] stand good = tt
are-good job (card ∷ cards) stand good = (
  (All-head (IsCardOf job) card cards stand).kind,
  All-head (λ (c : Card). c.fault ≡ None) card cards good,
  are-good job cards (All-tail (IsCardOf job) card cards stand) (All-tail (λ (c : Card). c.fault ≡ None) card cards good),
)

issue-good : (job : List ℕ) (xs ys : List Card) → AreGood job (xs ++ ys) → AreGood job xs
issue-good job [] ys h = tt
issue-good job (x ∷ xs) ys h = (h.0, h.1, issue-good job xs ys h.2)

behind-good : (job : List ℕ) (xs ys : List Card) → AreGood job (xs ++ ys) → AreGood job ys
behind-good job [] ys h = h
behind-good job (x ∷ xs) ys h = behind-good job xs ys h.2

no-statements : (cards : List Card) → has_statement (behind_statements cards) ≡ false
unfolding behind_statements
no-statements [] = refl
no-statements (card ∷ cards) = by (has_statement (card ∷ cards)) refl (no-statements cards) where
  by : (b : Bool) → has_statement (card ∷ cards) ≡ b → has_statement (behind_statements cards) ≡ false
      → has_statement (if b then behind_statements cards else card ∷ cards) ≡ false
  by true is rest = rest
  by false is rest = is

-- ---- the form pass, by texts

abbrev form_text : Found → ℕ → List ℕ → Result Found Fault
form_text found n text = form_kind (kind_of text) found n None text

-- the pass over cards of these texts, numbered from n on
form_texts : Found → ℕ → List (List ℕ) → Result Found Refusal
form_texts found n [] = Ok found
form_texts found n (text ∷ texts) = onward (λ f. form_texts f (n + 1) texts) n (form_text found n text)

none-first : (k : CardKind) → first_fault_of k None ≡ None
none-first Comment = refl
none-first Control = refl
none-first Statement = refl

card-text : (job : List ℕ) (found : Found) (n : ℕ) (card : Card) → card.number ≡ n → card.kind ≡ kind_of (text_in job card) → card.fault ≡ None
    → form_card job found card ≡ form_text found n (text_in job card)
unfolding form_card
card-text job found n card number kind good =
    let t = text_in job card in
    ap (λ o. unless_faulty (first_fault_of card.kind o) (form_kind card.kind found card.number o t)) good
    ∙ ap (λ o. unless_faulty o (form_kind card.kind found card.number None t)) (none-first card.kind)
    ∙ ap (λ m. form_kind card.kind found m None t) number
    ∙ ap (λ k. form_kind k found n None t) kind

pass-texts : (job : List ℕ) (found : Found) (n : ℕ) (cards : List Card) → AreNumbered n cards → AreGood job cards
    → pass (form_card job) (λ card. card.number) found cards ≡ form_texts found n (map (text_in job) cards)
unfolding form_texts
pass-texts job found n [] numbered good = refl
pass-texts job found n (card ∷ cards) numbered good =
    let texts = map (text_in job) cards in
    ap (λ m. onward (λ f. pass (form_card job) (λ c. c.number) f cards) m (form_card job found card)) numbered.0
    ∙ ap (onward (λ f. pass (form_card job) (λ c. c.number) f cards) n) (card-text job found n card numbered.0 good.0 good.1)
    ∙ onward-same (λ f. pass (form_card job) (λ c. c.number) f cards) (λ f. form_texts f (n + 1) texts) n (form_text found n (text_in job card))
    (λ f. pass-texts job f (n + 1) cards numbered.1 good.2)

-- ---- the cards after END

-- cards with these numbers and texts lead from one state to another: they only add requests
record Went (from to : Found) (numbers : List ℕ) (texts : List (List ℕ)) : Type 0 where
  ended : to.ended ≡ from.ended
  lines : to.lines ≡ from.lines ++ quiet numbers
  asked : asked_with (still from.asked) (others texts) ≡ Some (still to.asked)

control-ok : (from to : Found) (n : ℕ) (ended : Bool) (o : Option Asked)
    → (if ended then next_reading BadControlCard o (λ asked. Ok (with_control from n asked)) else Err BadControlCard) ≡ Ok to
    → (b : Asked) × (o ≡ Some b) × (with_control from n b ≡ to)
control-ok from to n false o h = let no : ⊥ = cc in absurd no
control-ok from to n true None h = let no : ⊥ = cc in absurd no
control-ok from to n true (Some b) h = let is : with_control from n b ≡ to = cc in (b, refl, is)

went-on : (k : CardKind) (from state to : Found) (n : ℕ) (text : List ℕ) (ns : List ℕ) (texts : List (List ℕ)) → kind_of text ≡ k → is_statement k ≡ false
    → form_kind k from n None text ≡ Ok state → Went state to ns texts → Went from to (n ∷ ns) (text ∷ texts)
unfolding form_control
went-on Comment from state to n text ns texts kind none h rest =
    let is : with_line from (silent_line n) ≡ state = cc in record {
      ended = rest.ended ∙ ap (λ (s : Found). s.ended) (sym is);
      lines = rest.lines ∙ ap (λ (s : Found). s.lines ++ quiet ns) (sym is) ∙ append_assoc from.lines (silent_line n ∷ []) (quiet ns);
      asked = asks-comment (still from.asked) (Some (still to.asked)) text texts kind
          (ap (λ (s : Found). asked_with (still s.asked) (others texts)) is ∙ rest.asked);
    }
went-on Control from state to n text ns texts kind none h rest =
    let (b, asks, is) = control-ok from state n from.ended (asked_with_card from.asked text) h in record {
      ended = rest.ended ∙ ap (λ (s : Found). s.ended) (sym is);
      lines = rest.lines ∙ ap (λ (s : Found). s.lines ++ quiet ns) (sym is) ∙ append_assoc from.lines (silent_line n ∷ []) (quiet ns);
      asked = asks-control from.asked b (Some (still to.asked)) text texts kind asks
          (ap (λ (s : Found). asked_with (still s.asked) (others texts)) is ∙ rest.asked);
    }
went-on Statement from state to n text ns texts kind none h rest = let no : ⊥ = cc in absurd no

went : (job : List ℕ) (from to : Found) (cards : List Card) → AreGood job cards → has_statement cards ≡ false
    → pass (form_card job) (λ card. card.number) from cards ≡ Ok to → Went from to (map (λ card. card.number) cards) (map (text_in job) cards)
went job from to [] good none h =
    let same : from ≡ to = cc in record {
      ended = ap (λ (f : Found). f.ended) (sym same);
      lines = ap (λ (f : Found). f.lines) (sym same) ∙ sym (append-nil from.lines);
      asked = asks-none (still from.asked) ∙ ap (λ (f : Found). Some (still f.asked)) same;
    }
went job from to (card ∷ cards) good none h =
    let text = text_in job card in
    let parts = or_parts (is_statement card.kind) (has_statement cards) none in
    let on = onward-ok (λ f. pass (form_card job) (λ c. c.number) f cards) card.number (form_card job from card) to h in
    went-on (kind_of text) from on.state to card.number text (map (λ c. c.number) cards) (map (text_in job) cards) refl
    (ap is_statement (sym good.0) ∙ parts.0)
    (sym (card-text job from card.number card refl good.0 good.1) ∙ on.good)
    (went job on.state to cards good.2 parts.1 on.next)

some-same : {A : Type 0} (x y : A) → (the : Option A) → the ≡ Some x → the ≡ Some y → x ≡ y
some-same x y the one two = cc

-- ---- the cards up to END request nothing

-- each card is a statement card or comes before one
abbrev AreBefore : List Card → Type 0
AreBefore [] = Unit {0}
AreBefore (card ∷ cards) = (has_statement (card ∷ cards) ≡ true) × AreBefore cards

issue-statement : (cards : List Card) → has_statement (up_to_end cards) ≡ has_statement cards
unfolding up_to_end
issue-statement [] = refl
issue-statement (card ∷ cards) = by (has_statement (card ∷ cards)) refl (issue-statement cards) where
  by : (b : Bool) → has_statement (card ∷ cards) ≡ b → has_statement (up_to_end cards) ≡ has_statement cards
      → has_statement (if b then card ∷ up_to_end cards else []) ≡ b
  by true is rest = ap (λ (v : Bool). is_statement card.kind || v) rest ∙ is
  by false is rest = refl

issue-before : (cards : List Card) → AreBefore (up_to_end cards)
unfolding up_to_end
issue-before [] = tt
issue-before (card ∷ cards) = by (has_statement (card ∷ cards)) refl (issue-before cards) (issue-statement cards) where
  by : (b : Bool) → has_statement (card ∷ cards) ≡ b → AreBefore (up_to_end cards) → has_statement (up_to_end cards) ≡ has_statement cards
      → AreBefore (if b then card ∷ up_to_end cards else [])
  by true is rest same = (ap (λ (v : Bool). is_statement card.kind || v) same ∙ is, rest)
  by false is rest same = tt

if-ended : (e : Bool) (r : Result Found Fault) (s : Found) → e ≡ true → (if e then Err CardAfterEnd else r) ≡ Ok s → ⊥
if-ended true r s e h = cc
if-ended false r s e h = cc

if-open : (e : Bool) (r : Result Found Fault) (s : Found) → (if e then Err CardAfterEnd else r) ≡ Ok s → r ≡ Ok s
if-open true r s h = let no : ⊥ = cc in absurd no
if-open false r s h = h

if-control : (e : Bool) (r : Result Found Fault) (s : Found) → e ≡ false → (if e then r else Err BadControlCard) ≡ Ok s → ⊥
if-control true r s e h = cc
if-control false r s e h = cc

mapped-asks : {S : Type 0} (from state : Found) (f : S → Found) (o : Result S Fault) → ((s : S) → (f s).asked ≡ from.asked)
    → reading_map f o ≡ Ok state → state.asked ≡ from.asked
mapped-asks from state f (Ok s) same h = let is : f s ≡ state = cc in ap (λ (t : Found). t.asked) (sym is) ∙ same s
mapped-asks from state f (Err e) same h = let no : ⊥ = cc in absurd no

kind-asks : (k : CardKind) (from state : Found) (n : ℕ) (text : List ℕ) → from.ended ≡ false → form_kind k from n None text ≡ Ok state → state.asked ≡ from.asked
unfolding form_control form_statement
kind-asks Comment from state n text e h = let is : with_line from (silent_line n) ≡ state = cc in ap (λ (t : Found). t.asked) (sym is)
kind-asks Control from state n text e h = absurd (if-control from.ended _ state e h)
kind-asks Statement from state n text e h =
    mapped-asks from state (λ s. with_statement from n (name_field text) s) (statement_of (name_field text) (statement_field text)) (λ s. refl)
    (if-open from.ended _ state h)

kind-ended : (k : CardKind) (from state : Found) (n : ℕ) (text : List ℕ) → from.ended ≡ true → form_kind k from n None text ≡ Ok state
    → (state.ended ≡ true) × (is_statement k ≡ false)
unfolding form_control form_statement
kind-ended Comment from state n text e h = let is : with_line from (silent_line n) ≡ state = cc in (ap (λ (t : Found). t.ended) (sym is) ∙ e, refl)
kind-ended Control from state n text e h =
    let (b, asks, is) = control-ok from state n from.ended (asked_with_card from.asked text) h in (ap (λ (t : Found). t.ended) (sym is) ∙ e, refl)
kind-ended Statement from state n text e h = absurd (if-ended from.ended _ state e h)

or-right : (a b : Bool) → (a || b) ≡ true → a ≡ false → b ≡ true
or-right true b h off = cc
or-right false b h off = h

ended-stops : (job : List ℕ) (from to : Found) (cards : List Card) → AreGood job cards → has_statement cards ≡ true → from.ended ≡ true
    → pass (form_card job) (λ card. card.number) from cards ≡ Ok to → ⊥
ended-stops job from to [] good some e h = cc
ended-stops job from to (card ∷ cards) good some e h =
    let on = onward-ok (λ f. pass (form_card job) (λ c. c.number) f cards) card.number (form_card job from card) to h in
    let step = sym (card-text job from card.number card refl good.0 good.1) ∙ on.good in
    let k = kind-ended (kind_of (text_in job card)) from on.state card.number (text_in job card) e step in
    ended-stops job on.state to cards good.2
    (or-right (is_statement card.kind) (has_statement cards) some (ap is_statement good.0 ∙ k.1)) k.0 on.next

stays : (job : List ℕ) (from to : Found) (cards : List Card) → AreBefore cards → AreGood job cards → from.ended ≡ true
    → pass (form_card job) (λ card. card.number) from cards ≡ Ok to → to.asked ≡ from.asked
stays job from to [] before good e h = let same : from ≡ to = cc in ap (λ (f : Found). f.asked) (sym same)
stays job from to (card ∷ cards) before good e h = absurd (ended-stops job from to (card ∷ cards) good before.0 e h)

open-issue : (job : List ℕ) (from to : Found) (cards : List Card) → AreBefore cards → AreGood job cards → from.ended ≡ false
    → pass (form_card job) (λ card. card.number) from cards ≡ Ok to → to.asked ≡ from.asked
open-issue job from to [] before good e h = let same : from ≡ to = cc in ap (λ (f : Found). f.asked) (sym same)
open-issue job from to (card ∷ cards) before good e h =
    let on = onward-ok (λ f. pass (form_card job) (λ c. c.number) f cards) card.number (form_card job from card) to h in
    let step = sym (card-text job from card.number card refl good.0 good.1) ∙ on.good in
    by on.state.ended refl (λ still_open. open-issue job on.state to cards before.1 good.2 still_open on.next)
    (λ closed. stays job on.state to cards before.1 good.2 closed on.next)
    ∙ kind-asks (kind_of (text_in job card)) from on.state card.number (text_in job card) e step where
      by : {P : Type 0} (b : Bool) {c : Bool} → c ≡ b → (c ≡ false → P) → (c ≡ true → P) → P
      by true is at-false at-true = at-true is
      by false is at-false at-true = at-false is

-- ---- good cards after END

kind-goes : (k : CardKind) (from : Found) (b : Asked) (n : ℕ) (text : List ℕ) → from.ended ≡ true → asked_by k from.asked text ≡ Some b
    → form_kind k from n None text ≡ Ok (record { ended = true; asked = b; lines = from.lines ++ silent_line n ∷ [] })
unfolding form_control
kind-goes Comment from b n text e is =
    let same : from.asked ≡ b = cc in
    ap (λ (v : Bool). Ok (record { ended = v; asked = from.asked; lines = from.lines ++ silent_line n ∷ [] })) e
    ∙ ap (λ (a : Asked). Ok (record { ended = true; asked = a; lines = from.lines ++ silent_line n ∷ [] })) same
kind-goes Control from b n text e is =
    ap (λ (v : Bool). if v then next_reading BadControlCard (asked_with_card from.asked text) (λ asked. Ok (record { ended = v; asked = asked; lines = from.lines ++ silent_line n ∷ [] })) else Err BadControlCard) e
    ∙ ap (λ (o : Option Asked). next_reading BadControlCard o (λ asked. Ok (record { ended = true; asked = asked; lines = from.lines ++ silent_line n ∷ [] }))) is
kind-goes Statement from b n text e is = let no : ⊥ = cc in absurd no

all-go : (job : List ℕ) (from : Found) (z : Asked) (cards : List Card) → AreGood job cards → from.ended ≡ true
    → asked_with from.asked (map (text_in job) cards) ≡ Some z
    → pass (form_card job) (λ card. card.number) from cards
    ≡ Ok (record { ended = true; asked = z; lines = from.lines ++ quiet (map (λ card. card.number) cards) })
all-go job from z [] good e h =
    let same : from.asked ≡ z = some-same from.asked z (asked_with from.asked []) (asks-none from.asked) h in
    ap (λ (v : Bool). Ok (record { ended = v; asked = from.asked; lines = from.lines })) e
    ∙ ap (λ (a : Asked). Ok (record { ended = true; asked = a; lines = from.lines })) same
    ∙ ap (λ (ls : List ReadCard). Ok (record { ended = true; asked = z; lines = ls })) (sym (append-nil from.lines))
all-go job from z (card ∷ cards) good e h =
    let text = text_in job card in
    let ns = map (λ (c : Card). c.number) cards in
    let (b, is, more) = asks-some from.asked z text (map (text_in job) cards) h in
    let state : Found = record { ended = true; asked = b; lines = from.lines ++ silent_line card.number ∷ [] } in
    ap (onward (λ f. pass (form_card job) (λ c. c.number) f cards) card.number)
    (card-text job from card.number card refl good.0 good.1 ∙ kind-goes (kind_of text) from b card.number text e is)
    ∙ all-go job state z cards good.2 refl more
    ∙ ap (λ (ls : List ReadCard). Ok (record { ended = true; asked = z; lines = ls })) (append_assoc from.lines (silent_line card.number ∷ []) (quiet ns))

-- ---- the reader

abbrev comments : List (List ℕ) → List (List ℕ)
comments texts = filter (λ text. is_comment (kind_of text)) texts

no-comment : (k : CardKind) (b : Bool) → (is_control k && b) ≡ true → is_comment k ≡ false
no-comment Comment b h = let no : ⊥ = cc in absurd no
no-comment Control b h = refl
no-comment Statement b h = refl

delays-no-comment : (text : List ℕ) → is_delays_card text ≡ true → is_comment (kind_of text) ≡ false
unfolding is_delays_card
delays-no-comment text h = no-comment (kind_of text) (begins_delays (words (columns text))) h

comments-others : (texts : List (List ℕ)) → comments (others texts) ≡ comments texts
comments-others [] = refl
comments-others (text ∷ texts) = by (is_delays_card text) refl (comments-others texts) where
  by : (d : Bool) → is_delays_card text ≡ d → comments (others texts) ≡ comments texts
      → comments (others (text ∷ texts)) ≡ comments (text ∷ texts)
  by true d rest =
      ap comments (others-left text texts d) ∙ rest
      ∙ sym (ap (λ (b : Bool). if b then text ∷ comments texts else comments texts) (delays-no-comment text d))
  by false d rest =
      ap comments (others-kept text texts d)
      ∙ ap (λ (l : List (List ℕ)). if is_comment (kind_of text) then text ∷ l else l) rest

comment-texts : (job : List ℕ) (cards : List Card) → AreGood job cards
    → map (λ card. card_words (text_in job card)) (filter (λ card. is_comment card.kind) cards) ≡ map card_words (comments (map (text_in job) cards))
comment-texts job [] good = refl
comment-texts job (card ∷ cards) good =
    ap (λ (k : CardKind). map (λ c. card_words (text_in job c)) (if is_comment k then card ∷ filter (λ c. is_comment c.kind) cards
    else filter (λ c. is_comment c.kind) cards)) good.0
    ∙ by (is_comment (kind_of (text_in job card))) (comment-texts job cards good.2) where
      by : (b : Bool) → map (λ c. card_words (text_in job c)) (filter (λ c. is_comment c.kind) cards) ≡ map card_words (comments (map (text_in job) cards))
          → map (λ c. card_words (text_in job c)) (if b then card ∷ filter (λ c. is_comment c.kind) cards else filter (λ c. is_comment c.kind) cards)
          ≡ map card_words (if b then text_in job card ∷ comments (map (text_in job) cards) else comments (map (text_in job) cards))
      by true rest = ap (λ l. card_words (text_in job card) ∷ l) rest
      by false rest = rest

reader-others : (job : List ℕ) → AreGood job (behind_statements (cards_of job)) → reader_cards job ≡ map card_words (comments (others_behind_end job))
unfolding reader_cards texts_in
reader-others job good =
    comment-texts job (behind_statements (cards_of job)) good
    ∙ ap (map card_words) (sym (comments-others (texts_behind_end job)))

-- ---- a job

-- the result of the form pass on a job, by its result on the cards up to END
record Read (job : List ℕ) (all : Found) : Type 0 where
  found : Found
  read : form_texts found_at_start 1 (texts_up_to_end job) ≡ Ok found
  ended : found.ended ≡ true
  opened : found.asked ≡ nothing_asked
  went : Went found all (map (λ card. card.number) (behind_statements (cards_of job))) (texts_behind_end job)
  count : length found.lines ≡ end_card job
  reader : reader_cards job ≡ map card_words (comments (others_behind_end job))

ended-true : (b : Bool) (found all : Found) (r : Refusal) → (if b then Ok found else Err r) ≡ Ok all → b ≡ true
ended-true true found all r h = refl
ended-true false found all r h = let no : ⊥ = cc in absurd no

ended-same : (b : Bool) (found all : Found) (r : Refusal) → (if b then Ok found else Err r) ≡ Ok all → found ≡ all
ended-same true found all r h = cc
ended-same false found all r h = let no : ⊥ = cc in absurd no

counted : (job : List ℕ) (found all : Found) → form_pass job (cards_of job) ≡ Ok all
    → all.lines ≡ found.lines ++ quiet (map (λ card. card.number) (behind_statements (cards_of job)))
    → length found.lines ≡ end_card job
counted job found all is lines =
    let cards = cards_of job in
    let behind = behind_statements cards in
    let ns = map (λ (card : Card). card.number) behind in
    let whole : length all.lines ≡ length cards =
    sym (length-map all.lines (λ (line : ReadCard). line.card)) ∙ ap length (form_pass-numbers job cards all is)
    ∙ length-map cards (λ (card : Card). card.number) in
    let split = ap length lines ∙ length-append found.lines (quiet ns) in
    let few = length-map ns silent_line ∙ length-map behind (λ (card : Card). card.number) in
    let both = sym (length-append (up_to_end cards) behind) ∙ ap length (cards-split cards) in
    omega (arith, whole, split, few, both)

job-read : (job : List ℕ) (all : Found) → form_pass job (cards_of job) ≡ Ok all → Read job all
unfolding form_pass
job-read job all is =
    let cards = cards_of job in
    let issue = up_to_end cards in
    let behind = behind_statements cards in
    let next = λ (from : Found) (cs : List Card). pass (form_card job) (λ card. card.number) from cs in
    let formed = and_then-ok (with_end (length cards)) (next found_at_start cards) all is in
    let same : formed.first ≡ all = ended-same formed.first.ended formed.first all _ formed.last in
    let good = are-good job cards (cards_stand job) (form_pass-faultless job cards all is) in
    let split_good : AreGood job (issue ++ behind) = subst (AreGood job) (sym (cards-split cards)) good in
    let numbered : AreNumbered 1 (issue ++ behind) =
    subst (AreNumbered 1) (sym (cards-split cards)) (take-numbered 20001 1 (cards_from 1 0 (pieces_of line_end job)) (from-numbered 1 0 (pieces_of line_end job))) in
    let two = and_then-ok (λ s. next s behind) (next found_at_start issue) all
    (sym (pass-append (form_card job) (λ card. card.number) found_at_start issue behind)
    ∙ ap (next found_at_start) (cards-split cards) ∙ formed.is ∙ ap (λ (f : Found). Ok f) same) in
    let on = went job two.first all behind (behind-good job issue behind split_good) (no-statements cards) two.last in
    record {
      found = two.first;
      read = sym (pass-texts job found_at_start 1 issue (issue-numbered 1 issue behind numbered) (issue-good job issue behind split_good)) ∙ two.is;
      ended = sym on.ended ∙ ap (λ (f : Found). f.ended) (sym same) ∙ ended-true formed.first.ended formed.first all _ formed.last;
      opened = open-issue job found_at_start two.first issue (issue-before cards) (issue-good job issue behind split_good) refl two.is;
      went = on;
      count = counted job two.first all is on.lines;
      reader = reader-others job (behind-good job issue behind split_good);
    }

-- the assembly of a job, by that of its cards up to END
record FromFront (job : List ℕ) (a : Assembly) : Type 0 where
  found : Found
  named : Named
  emitted : Emitted
  asked : Asked
  read : form_texts found_at_start 1 (texts_up_to_end job) ≡ Ok found
  ended : found.ended ≡ true
  opened : found.asked ≡ nothing_asked
  names : name_pass found.lines ≡ Ok named
  values : value_pass (table named.symbols) found.lines named.places ≡ Ok emitted
  image : a.image ≡ emitted.image
  start : a.start ≡ emitted.start
  symbols : a.symbols ≡ named.symbols
  rows : take (end_card job) a.rows ≡ emitted.rows
  asks : asked_with (still found.asked) (others_behind_end job) ≡ Some (still asked)
  controls : a.asked ≡ with_defaults asked
  reader : reader_cards job ≡ map card_words (comments (others_behind_end job))

take-issue : (n : ℕ) (xs ys : List Listed) → length xs ≡ n → take n (xs ++ ys) ≡ xs
take-issue zero [] ys same = refl
take-issue zero (x ∷ xs) ys same = let no : ⊥ = omega arith in absurd no
take-issue (suc n) [] ys same = let no : ⊥ = omega arith in absurd no
take-issue (suc n) (x ∷ xs) ys same = ap (λ l. x ∷ l) (take-issue n xs ys (omega arith))

from-parts : (job : List ℕ) (all : Found) (named : Named) (emitted : Emitted) → (read : Read job all)
    → Parts read.found.lines (map (λ card. card.number) (behind_statements (cards_of job))) named emitted
    → FromFront job (together all named emitted)
from-parts job all named emitted read parts = record {
  found = read.found;
  named = parts.named;
  emitted = parts.emitted;
  asked = all.asked;
  read = read.read;
  ended = read.ended;
  opened = read.opened;
  names = parts.names;
  values = parts.values;
  image = parts.image;
  start = parts.start;
  symbols = parts.symbols;
  rows = ap (take (end_card job)) parts.rows
      ∙ take-issue (end_card job) parts.emitted.rows (quiet_rows (map (λ card. card.number) (behind_statements (cards_of job)))) (parts.count ∙ read.count);
  asks = read.went.asked;
  controls = refl;
  reader = read.reader;
}

from-issue : (job : List ℕ) (a : Assembly) → assembly job ≡ Ok a → FromFront job a
unfolding assembly
from-issue job a is =
    let emitting = λ (all : Found) (named : Named). pass_then (value_pass (table named.symbols) all.lines named.places) (λ emitted. Ok (together all named emitted)) in
    let f = and_then-ok (λ all. pass_then (name_pass all.lines) (emitting all)) (form_pass job (cards_of job)) a is in
    let n = and_then-ok (emitting f.first) (name_pass f.first.lines) a f.last in
    let v = and_then-ok (λ emitted. Ok (together f.first n.first emitted)) (value_pass (table n.first.symbols) f.first.lines n.first.places) a n.last in
    let same : together f.first n.first v.first ≡ a = cc in
    let read = job-read job f.first f.is in
    let ns = map (λ (card : Card). card.number) (behind_statements (cards_of job)) in
    let lines = read.went.lines in
    let parts = passes-parted read.found.lines ns n.first v.first (ap name_pass (sym lines) ∙ n.is)
    (ap (λ ls. value_pass (table n.first.symbols) ls n.first.places) (sym lines) ∙ v.is) in
    subst (FromFront job) same (from-parts job f.first n.first v.first read parts)

-- ---- two jobs

ok-same : {A : Type 0} (x y : A) → (the : Result A Refusal) → the ≡ Ok x → the ≡ Ok y → x ≡ y
ok-same x y the one two = cc

defaults-still : (ds : List ℕ) (asked : Asked) → record (with_defaults asked) { delays = ds } ≡ record (with_defaults (still asked)) { delays = ds }
unfolding with_defaults
defaults-still ds asked = refl

-- jobs that differ only in their delay cards have equal assemblies apart from the delays
pub cards-differ : (job other : List ℕ) (a b : Assembly) → assembly job ≡ Ok a → assembly other ≡ Ok b → DifferInDelaysCards job other
    → AreAlikeBesideDelays job other a b
cards-differ job other a b is also h =
    let x = from-issue job a is in
    let y = from-issue other b also in
    let found : x.found ≡ y.found =
    ok-same x.found y.found (form_texts found_at_start 1 (texts_up_to_end job)) x.read (ap (form_texts found_at_start 1) h.up_to_end ∙ y.read) in
    let named : x.named ≡ y.named =
    ok-same x.named y.named (name_pass x.found.lines) x.names (ap (λ (f : Found). name_pass f.lines) found ∙ y.names) in
    let emitted : x.emitted ≡ y.emitted = ok-same x.emitted y.emitted (value_pass (table x.named.symbols) x.found.lines x.named.places) x.values
    (ap (λ (f : Found). value_pass (table x.named.symbols) f.lines x.named.places) found
    ∙ ap (λ (n : Named). value_pass (table n.symbols) y.found.lines n.places) named ∙ y.values) in
    let asks : still x.asked ≡ still y.asked =
    some-same (still x.asked) (still y.asked) (asked_with (still x.found.asked) (others_behind_end job)) x.asks
    (ap (λ (f : Found). asked_with (still f.asked) (others_behind_end job)) found
    ∙ ap (asked_with (still y.found.asked)) h.others ∙ y.asks) in
    let ds = b.asked.delays in
    record {
      texts = h.up_to_end;
      rows = x.rows ∙ ap (λ (l : Emitted). l.rows) emitted ∙ sym y.rows;
      image = x.image ∙ ap (λ (l : Emitted). l.image) emitted ∙ sym y.image;
      start = x.start ∙ ap (λ (l : Emitted). l.start) emitted ∙ sym y.start;
      symbols = x.symbols ∙ ap (λ (n : Named). n.symbols) named ∙ sym y.symbols;
      asked = ap (λ (z : Asked). record z { delays = ds }) x.controls
          ∙ defaults-still ds x.asked
          ∙ ap (λ (z : Asked). record (with_defaults z) { delays = ds }) asks
          ∙ sym (defaults-still ds y.asked)
          ∙ sym (ap (λ (z : Asked). record z { delays = ds }) y.controls);
      reader = x.reader ∙ ap (λ l. map card_words (comments l)) h.others ∙ sym y.reader;
    }

-- ---- a job with other good delay cards

some-of : {A : Type 0} (o : Option A) → is_some o ≡ true → (x : A) × (o ≡ Some x)
some-of (Some x) h = (x, refl)
some-of None h = let no : ⊥ = cc in absurd no

-- the form pass on a job, given its result on the cards up to END, if the cards after it are good
form-again : (job : List ℕ) (found : Found) (z : Asked) → form_texts found_at_start 1 (texts_up_to_end job) ≡ Ok found → found.ended ≡ true
    → All (λ (card : Card). card.fault ≡ None) (cards_of job) → asked_with found.asked (texts_behind_end job) ≡ Some z
    → form_pass job (cards_of job)
    ≡ Ok (record { ended = true; asked = z; lines = found.lines ++ quiet (map (λ card. card.number) (behind_statements (cards_of job))) })
unfolding form_pass
form-again job found z read e no_faults asks =
    let cards = cards_of job in
    let issue = up_to_end cards in
    let behind = behind_statements cards in
    let next = λ (from : Found) (cs : List Card). pass (form_card job) (λ card. card.number) from cs in
    let split_good : AreGood job (issue ++ behind) = subst (AreGood job) (sym (cards-split cards)) (are-good job cards (cards_stand job) no_faults) in
    let numbered : AreNumbered 1 (issue ++ behind) =
    subst (AreNumbered 1) (sym (cards-split cards)) (take-numbered 20001 1 (cards_from 1 0 (pieces_of line_end job)) (from-numbered 1 0 (pieces_of line_end job))) in
    let first : next found_at_start issue ≡ Ok found =
    pass-texts job found_at_start 1 issue (issue-numbered 1 issue behind numbered) (issue-good job issue behind split_good) ∙ read in
    let last = all-go job found z behind (behind-good job issue behind split_good) e asks in
    let whole = ap (next found_at_start) (sym (cards-split cards)) ∙ pass-append (form_card job) (λ card. card.number) found_at_start issue behind
    ∙ ap (λ r. pass_then r (λ s. next s behind)) first ∙ last in
    ap (λ r. pass_then r (with_end (length cards))) whole

-- the later passes on lines that are followed by cards without statements
again : (job : List ℕ) (all found : Found) (named : Named) (emitted : Emitted) (ns : List ℕ) → form_pass job (cards_of job) ≡ Ok all
    → all.lines ≡ found.lines ++ quiet ns → name_pass found.lines ≡ Ok named → value_pass (table named.symbols) found.lines named.places ≡ Ok emitted
    → assembly job ≡ Ok (together all (with_places named (no_places ns)) (with_rows emitted (quiet_rows ns)))
unfolding assembly
again job all found named emitted ns formed lines names values =
    let emitting = λ (whole : Found) (n : Named). pass_then (value_pass (table n.symbols) whole.lines n.places) (λ l. Ok (together whole n l)) in
    let more = with_places named (no_places ns) in
    let has_names = ap name_pass lines ∙ names-parted found.lines ns ∙ ap (λ r. pass_then r (λ n. Ok (with_places n (no_places ns)))) names in
    let has_values = ap (λ ls. value_pass (table named.symbols) ls (named.places ++ no_places ns)) lines
    ∙ values-parted (table named.symbols) found.lines named.places ns (name_pass-counts found.lines named names)
    ∙ ap (λ r. pass_then r (λ l. Ok (with_rows l (quiet_rows ns)))) values in
    ap (λ r. pass_then r (λ whole. pass_then (name_pass whole.lines) (emitting whole))) formed
    ∙ ap (λ r. pass_then r (emitting all)) has_names
    ∙ ap (λ r. pass_then r (λ l. Ok (together all more l))) has_values

-- a job with other delay cards is not refused, if these are good
pub again-accepted : (job other : List ℕ) (a : Assembly) → assembly job ≡ Ok a → DifferInDelaysCards job other → HasGoodDelays other
    → (b : Assembly) × (assembly other ≡ Ok b)
again-accepted job other a is h g =
    let x = from-issue job a is in
    let (e, good) = some-of (asked_in nothing_asked (delays_behind_end other)) g.delays in
    let (z, asks) = mixed (texts_behind_end other) x.found.asked nothing_asked (still x.asked) e (ap (λ (a : Asked). a.delays) x.opened)
    (ap (asked_with (still x.found.asked)) (sym h.others) ∙ x.asks) good in
    let ns = map (λ (card : Card). card.number) (behind_statements (cards_of other)) in
    let formed = form-again other x.found z (ap (form_texts found_at_start 1) (sym h.up_to_end) ∙ x.read) x.ended g.cards asks in
    (_, again other (record { ended = true; asked = z; lines = x.found.lines ++ quiet ns }) x.found x.named x.emitted ns formed refl x.names x.values)
