-- A delay card changes only the delays, and no other control card depends on them.
use Rattle.st_top.proofs.Common.{◌≡◌, ℕ, ◌+◌, ◌&&◌, Bool, true, false, not, if◌then◌else◌, List, [], ◌∷◌, ◌++◌, length, filter, refl, sym, ◌∙◌, ap, subst, Option, Some, None, arith, list_all, words, LONGEST_LIST, MOST_DELAY, kind_of, columns, keyword_order, keyword_in, card_numbers, Asked, is_in_range, with_delays, with_keyword, with_card, with_words, asked_with_card, CardKind, Comment, Control, Statement, Keyword, Delays, is_delays, begins_delays, is_control, is_delays_card}
use Rattle.std.specs.Prelude.{nat_le}
use Rattle.std.specs.Option.{option_map, option_and_then}
use Rattle.st_card.specs.declared.keywords.ControlForm.TheVariants.{Card}
use Rattle.st_card.specs.declared.keywords.Keyword.TheVariants.{Number}

-- the requests after a further card, if the previous cards are good
abbrev pub asked_on : Option Asked → (Asked → Option Asked) → Option Asked
asked_on o next = option_and_then next o

-- the requests without the delays
abbrev pub still : Asked → Asked
still asked = record asked { delays = [] }

-- optional requests without the delays
abbrev pub stills : Option Asked → Option Asked
stills o = option_map still o

-- only one keyword is that of delay cards
pub keyword-is : (k : Keyword) → is_delays (Some k) ≡ true → k ≡ Number Delays
keyword-is k h = grind (arith, h)

-- the requests of a card with another keyword do not depend on the delays
keyword-still : (k : Keyword) (a : Asked) (ns : List ℕ) → is_delays (Some k) ≡ false → with_keyword k (still a) ns ≡ stills (with_keyword k a ns)
keyword-still k a ns h = grind (arith, h)

card-still : (o : Option Keyword) (a : Asked) (ns : Option (List ℕ)) → is_delays o ≡ false → with_card (still a) o ns ≡ stills (with_card a o ns)
card-still None a ns h = refl
card-still (Some k) a None h = refl
card-still (Some k) a (Some ns) h = keyword-still k a ns h

words-still : (a : Asked) (ws : List (List ℕ)) → begins_delays ws ≡ false → with_words (still a) ws ≡ stills (with_words a ws)
words-still a [] h = refl
words-still a (word ∷ more) h = card-still (keyword_in Card word keyword_order) a (card_numbers more) h

pub other-still : (a : Asked) (text : List ℕ) → begins_delays (words (columns text)) ≡ false → asked_with_card (still a) text ≡ stills (asked_with_card a text)
other-still a text h = words-still a (words (columns text)) h

-- a delay card does not change the other requests
kept-if : (test : Bool) (a x b : Asked) → still x ≡ still a → (if test then Some x else None) ≡ Some b → still b ≡ still a
kept-if true a x b same h = let is : x ≡ b = cc in ap still (sym is) ∙ same
kept-if false a x b same h = let no : ⊥ = cc in absurd no

delays-keep : (a b : Asked) (ns : List ℕ) → with_delays a ns ≡ Some b → still b ≡ still a
delays-keep a b [] h = let no : ⊥ = cc in absurd no
delays-keep a b (n ∷ ns) h =
    kept-if (nat_le (length a.delays + length (n ∷ ns)) LONGEST_LIST && list_all (is_in_range 1 MOST_DELAY) (n ∷ ns)) a
    (record a { delays = a.delays ++ n ∷ ns }) b refl h

keyword-keeps : (k : Keyword) (a b : Asked) (ns : List ℕ) → is_delays (Some k) ≡ true → with_keyword k a ns ≡ Some b → still b ≡ still a
keyword-keeps k a b ns h is = delays-keep a b ns (subst (λ (q : Keyword). with_keyword q a ns ≡ Some b) (keyword-is k h) is)

card-keeps : (o : Option Keyword) (a b : Asked) (ns : Option (List ℕ)) → is_delays o ≡ true → with_card a o ns ≡ Some b → still b ≡ still a
card-keeps None a b ns h is = let no : ⊥ = cc in absurd no
card-keeps (Some k) a b None h is = let no : ⊥ = cc in absurd no
card-keeps (Some k) a b (Some ns) h is = keyword-keeps k a b ns h is

words-keep : (a b : Asked) (ws : List (List ℕ)) → begins_delays ws ≡ true → with_words a ws ≡ Some b → still b ≡ still a
words-keep a b [] h is = let no : ⊥ = cc in absurd no
words-keep a b (word ∷ more) h is = card-keeps (keyword_in Card word keyword_order) a b (card_numbers more) h is

pub delays-still : (a b : Asked) (text : List ℕ) → begins_delays (words (columns text)) ≡ true → asked_with_card a text ≡ Some b → still b ≡ still a
delays-still a b text h is = words-keep a b (words (columns text)) h is

-- ---- the cards after END

-- the requests after a card that is no statement card
abbrev pub asked_by : CardKind → Asked → List ℕ → Option Asked
asked_by Comment a text = Some a
asked_by Control a text = asked_with_card a text
asked_by Statement a text = None

-- the requests after cards of these texts
unfoldable pub asked_with : Asked → List (List ℕ) → Option Asked
asked_with a [] = Some a
asked_with a (text ∷ texts) = asked_on (asked_by (kind_of text) a text) (λ b. asked_with b texts)

pub asks-none : (a : Asked) → asked_with a [] ≡ Some a
unfolding asked_with
asks-none a = refl

-- a text followed by others
pub asks-some : (a z : Asked) (text : List ℕ) (texts : List (List ℕ)) → asked_with a (text ∷ texts) ≡ Some z
    → (b : Asked) × (asked_by (kind_of text) a text ≡ Some b) × (asked_with b texts ≡ Some z)
unfolding asked_with
asks-some a z text texts h = by (asked_by (kind_of text) a text) h where
  by : (o : Option Asked) → asked_on o (λ c. asked_with c texts) ≡ Some z → (b : Asked) × (o ≡ Some b) × (asked_with b texts ≡ Some z)
  by None g = let no : ⊥ = cc in absurd no
  by (Some b) g = (b, refl, g)

-- the texts that are not delay cards
abbrev pub others : List (List ℕ) → List (List ℕ)
others texts = filter (λ text. not (is_delays_card text)) texts

-- a text followed by others, if it is kept and if it is not
pub others-kept : (text : List ℕ) (texts : List (List ℕ)) → is_delays_card text ≡ false → others (text ∷ texts) ≡ text ∷ others texts
others-kept text texts h = ap (λ (b : Bool). if not b then text ∷ others texts else others texts) h

pub others-left : (text : List ℕ) (texts : List (List ℕ)) → is_delays_card text ≡ true → others (text ∷ texts) ≡ others texts
others-left text texts h = ap (λ (b : Bool). if not b then text ∷ others texts else others texts) h

-- a comment card does not change the requests
pub asks-comment : (a : Asked) (to : Option Asked) (text : List ℕ) (texts : List (List ℕ)) → kind_of text ≡ Comment
    → asked_with a (others texts) ≡ to → asked_with a (others (text ∷ texts)) ≡ to
unfolding asked_with is_delays_card
asks-comment a to text texts kind rest =
    ap (λ l. asked_with a l) (others-kept text texts (ap (λ (k : CardKind). is_control k && begins_delays (words (columns text))) kind))
    ∙ ap (λ (k : CardKind). asked_on (asked_by k a text) (λ b. asked_with b (others texts))) kind
    ∙ rest

-- a control card changes the requests
pub asks-control : (a b : Asked) (to : Option Asked) (text : List ℕ) (texts : List (List ℕ)) → kind_of text ≡ Control → asked_with_card a text ≡ Some b
    → asked_with (still b) (others texts) ≡ to → asked_with (still a) (others (text ∷ texts)) ≡ to
unfolding asked_with is_delays_card
asks-control a b to text texts kind is rest = by (begins_delays (words (columns text))) refl where
  card-is : is_delays_card text ≡ begins_delays (words (columns text))
  card-is = ap (λ (k : CardKind). is_control k && begins_delays (words (columns text))) kind

  by : (d : Bool) → begins_delays (words (columns text)) ≡ d → asked_with (still a) (others (text ∷ texts)) ≡ to
  by true d =
      ap (λ l. asked_with (still a) l) (others-left text texts (card-is ∙ d))
      ∙ ap (λ c. asked_with c (others texts)) (sym (delays-still a b text d is))
      ∙ rest
  by false d =
      ap (λ l. asked_with (still a) l) (others-kept text texts (card-is ∙ d))
      ∙ ap (λ (k : CardKind). asked_on (asked_by k (still a) text) (λ c. asked_with c (others texts))) kind
      ∙ ap (λ o. asked_on o (λ c. asked_with c (others texts))) (other-still a text d ∙ ap stills is)
      ∙ rest
