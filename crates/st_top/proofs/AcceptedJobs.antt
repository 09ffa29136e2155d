-- A job that is not refused is not refused with other good delay cards either.
use Rattle.st_top.proofs.Common.{◌≡◌, ℕ, ◌+◌, ◌&&◌, Bool, true, false, if◌then◌else◌, List, [], ◌∷◌, ◌++◌, length, filter, refl, sym, ◌∙◌, ap, subst, Option, Some, None, arith, list_all, words, LONGEST_LIST, MOST_DELAY, columns, kind_of, keyword_order, keyword_in, card_numbers, Asked, is_in_range, with_delays, with_keyword, with_card, with_words, asked_with_card, CardKind, Comment, Control, Statement, Keyword, is_delays, begins_delays, is_control, is_delays_card, asked_in}
use Rattle.std.specs.Prelude.{nat_le}
use Rattle.st_card.specs.declared.keywords.ControlForm.TheVariants.{Card}
use Rattle.st_top.proofs.DelayCards.{asked_on, still, stills, keyword-is, others, asked_by, asked_with, other-still, delays-still, others-kept, others-left, asks-none}

-- ---- a good delay card is good among others

-- a delay card appends its numbers to the delays, regardless of the other requests
like-if : (test : Bool) (ds : List ℕ) (a d e : Asked) → a.delays ≡ d.delays → (if test then Some (record d { delays = d.delays ++ ds }) else None) ≡ Some e
    → (b : Asked) × ((if test then Some (record a { delays = a.delays ++ ds }) else None) ≡ Some b) × (b.delays ≡ e.delays)
like-if true ds a d e same h =
    let is : record d { delays = d.delays ++ ds } ≡ e = cc in
    (record a { delays = a.delays ++ ds }, refl, ap (λ l. l ++ ds) same ∙ ap (λ (z : Asked). z.delays) is)
like-if false ds a d e same h = let no : ⊥ = cc in absurd no

-- a card that is good after some cards is good after others, and gives equal delays
abbrev Likewise : (Asked → Option Asked) → Asked → Asked → Type 0
Likewise next a e = (b : Asked) × (next a ≡ Some b) × (b.delays ≡ e.delays)

with-like : (a d e : Asked) (ns : List ℕ) → a.delays ≡ d.delays → with_delays d ns ≡ Some e → Likewise (λ z. with_delays z ns) a e
with-like a d e [] same h = let no : ⊥ = cc in absurd no
with-like a d e (n ∷ ns) same h =
    like-if (nat_le (length a.delays + length (n ∷ ns)) LONGEST_LIST && list_all (is_in_range 1 MOST_DELAY) (n ∷ ns)) (n ∷ ns) a d e same
    (ap (λ (l : List ℕ). if nat_le (length l + length (n ∷ ns)) LONGEST_LIST && list_all (is_in_range 1 MOST_DELAY) (n ∷ ns)
    then Some (record d { delays = d.delays ++ n ∷ ns }) else None) same ∙ h)

keyword-like : (k : Keyword) (a d e : Asked) (ns : List ℕ) → is_delays (Some k) ≡ true → a.delays ≡ d.delays → with_keyword k d ns ≡ Some e
    → Likewise (λ z. with_keyword k z ns) a e
keyword-like k a d e ns h same is =
    let one = keyword-is k h in
    let here : with_delays d ns ≡ Some e = subst (λ (q : Keyword). with_keyword q d ns ≡ Some e) one is in
    subst (λ (q : Keyword). Likewise (λ z. with_keyword q z ns) a e) (sym one) (with-like a d e ns same here)

card-like : (o : Option Keyword) (a d e : Asked) (ns : Option (List ℕ)) → is_delays o ≡ true → a.delays ≡ d.delays → with_card d o ns ≡ Some e
    → Likewise (λ z. with_card z o ns) a e
card-like None a d e ns h same is = let no : ⊥ = cc in absurd no
card-like (Some k) a d e None h same is = let no : ⊥ = cc in absurd no
card-like (Some k) a d e (Some ns) h same is = keyword-like k a d e ns h same is

words-like : (a d e : Asked) (ws : List (List ℕ)) → begins_delays ws ≡ true → a.delays ≡ d.delays → with_words d ws ≡ Some e
    → Likewise (λ z. with_words z ws) a e
words-like a d e [] h same is = let no : ⊥ = cc in absurd no
words-like a d e (word ∷ more) h same is = card-like (keyword_in Card word keyword_order) a d e (card_numbers more) h same is

-- a card of another kind does not change the delays
keyword-leaves : (k : Keyword) (a b : Asked) (ns : List ℕ) → is_delays (Some k) ≡ false → with_keyword k a ns ≡ Some b → b.delays ≡ a.delays
keyword-leaves k a b ns h is = grind (arith, h, is)

card-leaves : (o : Option Keyword) (a b : Asked) (ns : Option (List ℕ)) → is_delays o ≡ false → with_card a o ns ≡ Some b → b.delays ≡ a.delays
card-leaves None a b ns h is = let no : ⊥ = cc in absurd no
card-leaves (Some k) a b None h is = let no : ⊥ = cc in absurd no
card-leaves (Some k) a b (Some ns) h is = keyword-leaves k a b ns h is

words-leave : (a b : Asked) (ws : List (List ℕ)) → begins_delays ws ≡ false → with_words a ws ≡ Some b → b.delays ≡ a.delays
words-leave a b [] h is = let no : ⊥ = cc in absurd no
words-leave a b (word ∷ more) h is = card-leaves (keyword_in Card word keyword_order) a b (card_numbers more) h is

-- ---- all cards after END are good if the delay cards and the others are

-- requests exist if they exist without the delays
stills-some : (o : Option Asked) (s : Asked) → stills o ≡ Some s → (b : Asked) × (o ≡ Some b) × (still b ≡ s)
stills-some None s h = let no : ⊥ = cc in absurd no
stills-some (Some b) s h = let is : still b ≡ s = cc in (b, refl, is)

on-some : (o : Option Asked) (next : Asked → Option Asked) (s : Asked) → asked_on o next ≡ Some s → (b : Asked) × (o ≡ Some b) × (next b ≡ Some s)
on-some None next s h = let no : ⊥ = cc in absurd no
on-some (Some b) next s h = (b, refl, h)

-- the requests of all of some texts
abbrev All-asked : Asked → List (List ℕ) → Type 0
All-asked a texts = (z : Asked) × (asked_with a texts ≡ Some z)

-- the texts that are delay cards
abbrev pub delays_in : List (List ℕ) → List (List ℕ)
delays_in texts = filter is_delays_card texts

-- texts are good if their delay cards and their other cards are good
abbrev Mixes : List (List ℕ) → Type 0
Mixes texts = (a d s e : Asked) → a.delays ≡ d.delays → asked_with (still a) (others texts) ≡ Some s → asked_in d (delays_in texts) ≡ Some e
    → All-asked a texts

mix-delays : (text : List ℕ) (texts : List (List ℕ)) (a d s e : Asked) → kind_of text ≡ Control → begins_delays (words (columns text)) ≡ true
    → Mixes texts → a.delays ≡ d.delays → asked_with (still a) (others texts) ≡ Some s
    → (f : Asked) × (asked_with_card d text ≡ Some f) × (asked_in f (delays_in texts) ≡ Some e) → All-asked a (text ∷ texts)
unfolding asked_with
mix-delays text texts a d s e kind begins rest same others_good (f, is, good) =
    let (b, adds, like) = words-like a d f (words (columns text)) begins same is in
    let (z, all) = rest b f s e like (ap (λ c. asked_with c (others texts)) (delays-still a b text begins adds) ∙ others_good) good in (
      z,
      ap (λ (k : CardKind). asked_on (asked_by k a text) (λ c. asked_with c texts)) kind
          ∙ ap (λ o. asked_on o (λ c. asked_with c texts)) adds ∙ all,
    )

mix-other : (k : CardKind) (text : List ℕ) (texts : List (List ℕ)) (a d s e : Asked) → kind_of text ≡ k → (is_control k && begins_delays (words (columns text))) ≡ false
    → Mixes texts → a.delays ≡ d.delays → asked_on (asked_by k (still a) text) (λ c. asked_with c (others texts)) ≡ Some s
    → asked_in d (delays_in texts) ≡ Some e → All-asked a (text ∷ texts)
unfolding asked_with
mix-other Comment text texts a d s e kind plain rest same others_good good =
    let (z, all) = rest a d s e same others_good good in
    (z, ap (λ (k : CardKind). asked_on (asked_by k a text) (λ c. asked_with c texts)) kind ∙ all)
mix-other Control text texts a d s e kind plain rest same others_good good =
    let (sb, adds, more) = on-some (asked_with_card (still a) text) (λ c. asked_with c (others texts)) s others_good in
    let (b, is, still_is) = stills-some (asked_with_card a text) sb (sym (other-still a text plain) ∙ adds) in
    let (z, all) = rest b d s e (words-leave a b (words (columns text)) plain is ∙ same)
    (ap (λ c. asked_with c (others texts)) still_is ∙ more) good in (
      z,
      ap (λ (k : CardKind). asked_on (asked_by k a text) (λ c. asked_with c texts)) kind
          ∙ ap (λ o. asked_on o (λ c. asked_with c texts)) is ∙ all,
    )
mix-other Statement text texts a d s e kind plain rest same others_good good = let no : ⊥ = cc in absurd no

control-and : (k : CardKind) (b : Bool) → (is_control k && b) ≡ true → (k ≡ Control) × (b ≡ true)
control-and Comment b h = let no : ⊥ = cc in absurd no
control-and Control b h = (refl, h)
control-and Statement b h = let no : ⊥ = cc in absurd no

in-some : (d e : Asked) (text : List ℕ) (texts : List (List ℕ)) → asked_in d (text ∷ texts) ≡ Some e
    → (f : Asked) × (asked_with_card d text ≡ Some f) × (asked_in f texts ≡ Some e)
unfolding asked_in
in-some d e text texts h = by (asked_with_card d text) h where
  by : (o : Option Asked) → asked_on o (λ more. asked_in more texts) ≡ Some e → (f : Asked) × (o ≡ Some f) × (asked_in f texts ≡ Some e)
  by o g = on-some o (λ more. asked_in more texts) e g

delays-kept : (text : List ℕ) (texts : List (List ℕ)) → is_delays_card text ≡ true → delays_in (text ∷ texts) ≡ text ∷ delays_in texts
delays-kept text texts h = ap (λ (b : Bool). if b then text ∷ delays_in texts else delays_in texts) h

delays-left : (text : List ℕ) (texts : List (List ℕ)) → is_delays_card text ≡ false → delays_in (text ∷ texts) ≡ delays_in texts
delays-left text texts h = ap (λ (b : Bool). if b then text ∷ delays_in texts else delays_in texts) h

card-is : (text : List ℕ) → is_delays_card text ≡ (is_control (kind_of text) && begins_delays (words (columns text)))
unfolding is_delays_card
card-is text = refl

opened : (a : Asked) (text : List ℕ) (texts : List (List ℕ)) → asked_with (still a) (text ∷ others texts)
    ≡ asked_on (asked_by (kind_of text) (still a) text) (λ c. asked_with c (others texts))
unfolding asked_with
opened a text texts = refl

pub mixed : (texts : List (List ℕ)) → Mixes texts
mixed [] a d s e same others_good good = (a, asks-none a)
mixed (text ∷ texts) a d s e same others_good good = by (is_delays_card text) refl (mixed texts) where
  by : (b : Bool) → is_delays_card text ≡ b → Mixes texts → All-asked a (text ∷ texts)
  by true is rest =
      let two = control-and (kind_of text) (begins_delays (words (columns text))) (sym (card-is text) ∙ is) in
      mix-delays text texts a d s e two.0 two.1 rest same (ap (asked_with (still a)) (sym (others-left text texts is)) ∙ others_good)
      (in-some d e text (delays_in texts) (ap (asked_in d) (sym (delays-kept text texts is)) ∙ good))
  by false is rest =
      mix-other (kind_of text) text texts a d s e refl (sym (card-is text) ∙ is) rest same
      (sym (opened a text texts) ∙ ap (asked_with (still a)) (sym (others-kept text texts is)) ∙ others_good)
      (ap (asked_in d) (sym (delays-left text texts is)) ∙ good)
