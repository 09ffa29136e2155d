-- Requests with a line: what adding one changes, and that requests within their limits can be added
-- one by one.
use Rattle.st_card.proofs.Common.{◌≡◌, ◌≤◌, ◌+◌, ◌==◌, ℕ, Bool, true, false, nat_le, List, [], ◌∷◌, ◌++◌, length, map, Some, refl, ap, sym, subst, arith, append_assoc, append-nil, flat_map, nat_tests, map-append, length-map, All-nil, All-cons, All-append, is_filled, lacks, keyword_order, place, keyword_of, keyword_text, keyword_in, numbers_of, control_of, Asked, nothing_asked, with_control, AreDelays, AreSignals, AreDumps, AreSnaps, IsWithinLimits, where_asked, unless_zero, asked_by, requests, IsShortControl, Signal, Signals, Dump, Keyword, Listing, Mark, Number, Pair, take, number_of, with_number, is_marked, with_mark, most, Once, Delays, Snap}
use Rattle.std.specs.List.{All}
use Rattle.std.proofs.lemmas.Bool.{cond_both, eqb-true as same_number}
use Rattle.st_card.specs.declared.keywords.Control.{Control}
use Rattle.st_card.specs.declared.keywords.ControlForm.{ControlForm}
use Rattle.st_card.proofs.OrderLemmas.{once-asked, once-short, delay-asked, signal-asked, dump-asked, snap-asked, delay-short, signal-short, dump-short, snap-short}
use Rattle.st_card.specs.declared.keywords.Mark.{Mark as MarkKeyword}
use Rattle.st_card.specs.declared.keywords.Once.{Once as OnceKeyword}
use Rattle.st_card.specs.declared.keywords.Control.TheVariants as asks

-- ---- words

-- the keyword of a line is found by its text
pub keyword-found : (form : ControlForm) (keyword : Keyword) → keyword_in form (keyword_text form keyword) keyword_order ≡ Some keyword
keyword-found form keyword = grind arith

-- a keyword is a word of a few characters
pub is-word : (form : ControlForm) (keyword : Keyword) →
    (lacks 32 (keyword_text form keyword) ≡ true) × (is_filled (keyword_text form keyword) ≡ true) × (nat_le (length (keyword_text form keyword)) 8 ≡ true)
is-word form keyword = grind arith

-- the request of a keyword and numbers has these
pub control-parts : (keyword : Keyword) (numbers : List ℕ) (c : Control) → control_of keyword numbers ≡ Some c →
    (keyword_of c ≡ keyword) × (numbers_of c ≡ numbers)
control-parts keyword numbers c same = grind arith

-- ---- one request

-- the requests with one more, whether it is allowed or not
abbrev pub asked_then : Asked → Control → Asked
asked_then a (asks.Mark mark) = with_mark mark true a
asked_then a (asks.Once once n) = with_number once n a
asked_then a (asks.Number Delays n) = record a { delays = a.delays ++ n ∷ [] }
asked_then a (asks.Number Snap t) = record a { snaps = a.snaps ++ t ∷ [] }
asked_then a (asks.Pair Signals c i) = record a { signals = a.signals ++ record { count = c; indicator = i } ∷ [] }
asked_then a (asks.Pair Dump f t) = record a { dumps = a.dumps ++ (f, t) ∷ [] }

-- a request that is allowed makes these requests
pub then-is : (a b : Asked) (c : Control) → with_control a c ≡ Some b → asked_then a c ≡ b
then-is a b c same = grind arith

mapped-more : {X : Type 0} (f : X → Control) (xs : List X) (x : X) → map f (xs ++ x ∷ []) ≡ map f xs ++ f x ∷ []
mapped-more f xs x = map-append f xs (x ∷ [])

-- a request that is added becomes the last with its keyword
pub then-last : (a b : Asked) (c : Control) → with_control a c ≡ Some b → asked_by (keyword_of c) (asked_then a c) ≡ asked_by (keyword_of c) a ++ c ∷ []
then-last a b c same = grind (arith, nat_tests, mapped-more)

-- a request that has a line requests no listing
pub then-unlisted : (a : Asked) (c : Control) → (asked_then a c).list ≡ a.list
then-unlisted a c = grind arith

-- ---- all requests

-- requests with one keyword, added one by one, lead from some requests to others
abbrev pub Steps : Keyword → Asked → List Control → Asked → Type 0
Steps keyword a [] b = a ≡ b
Steps keyword a (c ∷ cs) b = (next : Asked) × (with_control a c ≡ Some next) × (keyword_of c ≡ keyword) × IsShortControl c × Steps keyword next cs b

abbrev IsStep : Keyword → Asked → Control → Asked → Type 0
IsStep keyword a c b = (with_control a c ≡ Some b) × (keyword_of c ≡ keyword) × IsShortControl c

one : (keyword : Keyword) (a b : Asked) (c : Control) → IsStep keyword a c b → Steps keyword a (c ∷ []) b
one keyword a b c step = (b, step.0, step.1, step.2, refl)

-- one request for each item of a list
steps-each : {X : Type 0} (keyword : Keyword) (at : List X → Asked) (line : X → Control) (Fits : List X → Type 0) →
    ((done rest : List X) (x : X) → Fits (done ++ x ∷ rest) → IsStep keyword (at done) (line x) (at (done ++ x ∷ []))) →
    (done rest : List X) → Fits (done ++ rest) → Steps keyword (at done) (map line rest) (at (done ++ rest))
steps-each keyword at line Fits step done [] fits = ap at (sym (append-nil done))
steps-each keyword at line Fits step done (x ∷ rest) fits =
    let this = step done rest x fits in
    let regrouped = append_assoc done (x ∷ []) rest in
    (at (done ++ x ∷ []), this.0, this.1, this.2, rw regrouped at (steps-each keyword at line Fits step (done ++ x ∷ []) rest (rw regrouped fits)))

-- the request of a mark, if it is made
steps-marked : (mark : MarkKeyword) (made : Bool) (a b : Asked) → is_marked mark b ≡ false → with_mark mark false b ≡ b →
    Steps (Mark mark) b (where_asked made (asks.Mark mark)) (with_mark mark made b)
steps-marked mark false a b none same = sym same
steps-marked mark true a b none same = one (Mark mark) b (with_mark mark true b) (asks.Mark mark) (rw none refl, refl, tt)

-- a request that is allowed once, if its number is not zero
steps-counted : (once : OnceKeyword) (n : ℕ) (b : Asked) → number_of once b ≡ 0 → with_number once 0 b ≡ b → n ≤ most once →
    Steps (Once once) b (unless_zero n (asks.Once once n)) (with_number once n b)
steps-counted once n b none same few =
    cond_both (n == 0) [] (asks.Once once n ∷ []) (λ cs. Steps (Once once) b cs (with_number once n b))
    (λ zero. rw (same_number n 0 zero) (sym same))
    (λ some. one (Once once) b (with_number once n b) (asks.Once once n)
    (once-asked b once n (rw none refl) (grind (arith, nat_tests)) few, refl, once-short once n few))

-- keywords that are consecutive in the order from a position on
abbrev AreNext : ℕ → List Keyword → Type 0
AreNext i [] = Unit {0}
AreNext i (keyword ∷ more) = (place keyword ≡ i) × AreNext (i + 1) more

-- requests with those of one keyword taken from others
abbrev copied : Keyword → Asked → Asked → Asked
copied Listing from to = to
copied (Mark mark) from to = with_mark mark (is_marked mark from) to
copied (Once once) from to = with_number once (number_of once from) to
copied (Number Delays) from to = record to { delays = from.delays }
copied (Number Snap) from to = record to { snaps = from.snaps }
copied (Pair Signals) from to = record to { signals = from.signals }
copied (Pair Dump) from to = record to { dumps = from.dumps }

-- requests with those of some keywords taken from others
abbrev all_copied : List Keyword → Asked → Asked → Asked
all_copied [] from to = to
all_copied (keyword ∷ more) from to = all_copied more from (copied keyword from to)

in-order : AreNext 0 keyword_order
in-order = grind arith

module _ (a : Asked) where
  -- the requests with the keywords before a position
  abbrev pub asked_before : ℕ → Asked
  asked_before i = all_copied (take i keyword_order) a nothing_asked

  -- those of the next keyword are taken, of which there are none yet
  next-before : (keyword : Keyword) → asked_before (place keyword + 1) ≡ copied keyword a (asked_before (place keyword))
  next-before keyword = grind arith

  unmarked : (mark : MarkKeyword) → let b = asked_before (place (Mark mark)) in (is_marked mark b ≡ false) × (with_mark mark false b ≡ b)
  unmarked mark = grind arith

  uncounted : (once : OnceKeyword) → let b = asked_before (place (Once once)) in (number_of once b ≡ 0) × (with_number once 0 b ≡ b)
  uncounted once = grind arith

  module _ (limits : IsWithinLimits a) where
    -- the requests with a keyword lead from those before it to those that include its own
    pub steps-of : (keyword : Keyword) → Steps keyword (asked_before (place keyword)) (asked_by keyword a) (asked_before (place keyword + 1))
    steps-of Listing = refl
    steps-of (Mark mark) =
        let none = unmarked mark in
        rw (next-before (Mark mark)) (steps-marked mark (is_marked mark a) a (asked_before (place (Mark mark))) none.0 none.1)
    steps-of (Once once) =
        let none = uncounted once in
        rw (next-before (Once once)) (steps-counted once (number_of once a) (asked_before (place (Once once))) none.0 none.1 (limits.once once))
    steps-of (Number Delays) =
        let at = λ (done : List ℕ). record (asked_before 1) { delays = done } in
        steps-each (Number Delays) at (λ n. asks.Number Delays n) (λ xs. AreDelays xs)
        (λ done rest n fits. (delay-asked (at done) n rest fits, refl, delay-short done rest n fits)) [] a.delays limits.delays
    steps-of (Number Snap) =
        let at = λ (done : List ℕ). record (asked_before 7) { snaps = done } in
        steps-each (Number Snap) at (λ t. asks.Number Snap t) (λ xs. AreSnaps xs)
        (λ done rest t fits. (snap-asked (at done) t rest fits, refl, snap-short done rest t fits)) [] a.snaps limits.snaps
    steps-of (Pair Signals) =
        let at = λ (done : List Signal). record (asked_before 2) { signals = done } in
        steps-each (Pair Signals) at (λ s. asks.Pair Signals s.count s.indicator) (λ xs. AreSignals xs)
        (λ done rest s fits. (signal-asked (at done) s rest fits, refl, signal-short done rest s fits)) [] a.signals limits.signals
    steps-of (Pair Dump) =
        let at = λ (done : List (ℕ × ℕ)). record (asked_before 3) { dumps = done } in
        steps-each (Pair Dump) at (λ p. asks.Pair Dump p.0 p.1) (λ xs. AreDumps xs)
        (λ done rest p fits. (dump-asked (at done) p rest fits, refl, dump-short done rest p fits)) [] a.dumps limits.dumps

    -- at most 4,096 requests have one keyword
    pub few-asked : (keyword : Keyword) → length (asked_by keyword a) ≤ 4096
    few-asked Listing = omega arith
    few-asked (Mark mark) = grind arith
    few-asked (Once once) = grind arith
    few-asked (Number Delays) = simp length-map (omega (arith, limits.delays.few))
    few-asked (Number Snap) = simp length-map (omega (arith, limits.snaps.few))
    few-asked (Pair Signals) = simp length-map (omega (arith, limits.signals.few))
    few-asked (Pair Dump) = simp length-map (omega (arith, limits.dumps.few))

  -- a relation that holds of the requests of each keyword, and of lists one after the other, holds
  -- of all requests
  module _ (R : Asked → List Control → Asked → Type 0) (none : (b : Asked) → R b [] b)
      (both : (b c d : Asked) (xs ys : List Control) → R b xs c → R c ys d → R b (xs ++ ys) d)
      (each : (keyword : Keyword) → R (asked_before (place keyword)) (asked_by keyword a) (asked_before (place keyword + 1))) where
    steps-from : (keywords : List Keyword) (i : ℕ) → AreNext i keywords →
        R (asked_before i) (flat_map (λ keyword. asked_by keyword a) keywords) (asked_before (i + length keywords))
    steps-from [] i next =
        let same : i ≡ i + 0 = omega arith in subst (λ j. R (asked_before i) [] (asked_before j)) same (none (asked_before i))
    steps-from (keyword ∷ more) i next =
        let same : i + 1 + length more ≡ i + length (keyword ∷ more) = omega arith in
        both (asked_before i) (asked_before (i + 1)) (asked_before (i + length (keyword ∷ more))) (asked_by keyword a) (flat_map (λ k. asked_by k a) more)
        (rw next.0 at (each keyword)) (rw same at (steps-from more (i + 1) next.1))

    pub all-steps : R nothing_asked (requests a) (record a { list = false })
    all-steps = steps-from keyword_order 0 in-order

steps-short : (keyword : Keyword) (b c : Asked) (cs : List Control) → Steps keyword b cs c → All IsShortControl cs
steps-short keyword b c [] steps = All-nil IsShortControl
steps-short keyword b c (x ∷ xs) steps = All-cons IsShortControl x xs steps.3 (steps-short keyword steps.0 c xs steps.4)

-- the numbers of requests within their limits have at most 12 digits
pub requests-short : (a : Asked) → IsWithinLimits a → All IsShortControl (requests a)
requests-short a limits =
    all-steps a (λ b cs c. All IsShortControl cs) (λ b. All-nil IsShortControl)
    (λ b c d xs ys first second. All-append IsShortControl xs ys first second)
    (λ keyword. steps-short keyword _ _ _ (steps-of a limits keyword))

-- a property of a request holds of a list that has nothing else
module _ (P : Control → Type 0) where
  where-all : (b : Bool) (c : Control) → P c → All P (where_asked b c)
  where-all true c holds = All-cons P c [] holds (All-nil P)
  where-all false c holds = All-nil P

  unless-all : (n : ℕ) (c : Control) → P c → All P (unless_zero n c)
  unless-all n c holds = cond_both (n == 0) [] (c ∷ []) (λ cs. All P cs) (λ none. All-nil P) (λ some. All-cons P c [] holds (All-nil P))

  each-all : {X : Type 0} (line : X → Control) → ((x : X) → P (line x)) → (xs : List X) → All P (map line xs)
  each-all line holds [] = All-nil P
  each-all line holds (x ∷ xs) = All-cons P (line x) (map line xs) (holds x) (each-all line holds xs)

-- the requests with a keyword have that keyword
pub asked-keyword : (keyword : Keyword) (a : Asked) → All (λ c. keyword_of c ≡ keyword) (asked_by keyword a)
asked-keyword Listing a = All-nil _
asked-keyword (Mark mark) a = where-all (λ c. keyword_of c ≡ Mark mark) (is_marked mark a) (asks.Mark mark) refl
asked-keyword (Once once) a = unless-all (λ c. keyword_of c ≡ Once once) (number_of once a) (asks.Once once (number_of once a)) refl
asked-keyword (Number Delays) a = each-all (λ c. keyword_of c ≡ Number Delays) (λ n. asks.Number Delays n) (λ n. refl) a.delays
asked-keyword (Number Snap) a = each-all (λ c. keyword_of c ≡ Number Snap) (λ t. asks.Number Snap t) (λ t. refl) a.snaps
asked-keyword (Pair Signals) a = each-all (λ c. keyword_of c ≡ Pair Signals) (λ s. asks.Pair Signals s.count s.indicator) (λ s. refl) a.signals
asked-keyword (Pair Dump) a = each-all (λ c. keyword_of c ≡ Pair Dump) (λ p. asks.Pair Dump p.0 p.1) (λ p. refl) a.dumps
