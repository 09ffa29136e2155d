-- Adding a control card keeps the limits.
use Rattle.st_card.proofs.Common.{◌≡◌, ◌≤◌, ◌<◌, ◌+◌, ◌-◌, ◌&&◌, ℕ, Bool, true, false, nat_le, nat_lt, List, [], ◌∷◌, ◌++◌, Option, Some, None, if◌then◌else◌, length, get_or, refl, ap, sym, subst, ◌∙◌, arith, lit≤, length-append, AllPass, option_map_or, IsStrictlyIncreasing, slice_get-get_or, get_or-append_seam, All-nil, All-append, Asked, nothing_asked, is_in_range, last_passes, keyword_in, keyword_order, numbers_before, card_number, card_numbers, number_if_good, is_number, digits_value, reading, words, columns, is_signal, is_part, is_tick, AreDelays, IsWithinLimits, Signal, Keyword, Listing, Mark, Number, Pair, Signals, Dump, number_of, with_number, is_marked, with_mark, most, Once, Delays, Snap}
use Rattle.std.proofs.lemmas.Bool.{and_parts as both, leb-true as at_most, ltb-false as not_below, ltb-true as below}
use Rattle.std.proofs.Math.ListN.{get_or-append}
use Rattle.std.proofs.lemmas.List.Sums.{AllPass-from_list_all}
use Rattle.std.proofs.lemmas.List.Sorted.{IsNonDecreasingBy-push}
use Rattle.st_text.specs.declared.numbers.Reading.TheVariants.{Bad, Large, Good}
use Rattle.st_card.specs.declared.keywords.ControlForm.TheVariants.{Card}
use Rattle.st_card.specs.declared.keywords.Mark.{Mark as MarkKeyword}
use Rattle.st_card.specs.declared.keywords.Once.{Once as OnceKeyword}
use Rattle.st_card.specs.declared.keywords.Once.TheVariants.{Budget}
use Rattle.st_card.specs.Controls as spec

-- a conditional result is present only if its test is true
given : (b : Bool) (x new : Asked) → (if b then Some x else None) ≡ Some new → (b ≡ true) × (x ≡ new)
given true x new same = (refl, cc)
given false x new same = cc

only : {X : Type 0} (p : X → Bool) (x : X) → p x ≡ true → AllPass p (x ∷ [])
only p x holds = AllPass-from_list_all p (x ∷ []) (ap (λ b. b && true) holds)

-- limits are kept if the numbers are within theirs and the lists are unchanged
within-by : (a b : Asked) → ((once : OnceKeyword) → number_of once b ≤ most once) → b.delays ≡ a.delays → b.signals ≡ a.signals →
    b.dumps ≡ a.dumps → b.snaps ≡ a.snaps → IsWithinLimits a → IsWithinLimits b
within-by a b numbers delays signals dumps snaps limits = record {
  once = numbers;
  delays = rw delays limits.delays;
  signals = rw signals limits.signals;
  dumps = rw dumps limits.dumps;
  snaps = rw snaps limits.snaps;
}

-- a list of requests has no numbers of requests that are allowed once
numbers-beside : (once : OnceKeyword) (a : Asked) (delays snaps : List ℕ) (signals : List Signal) (dumps : List (ℕ × ℕ)) →
    number_of once a ≤ most once →
    number_of once (record a { delays = delays; signals = signals; dumps = dumps; snaps = snaps }) ≤ most once
numbers-beside once a delays snaps signals dumps few = grind arith

number-in : (once other : OnceKeyword) (n : ℕ) (a : Asked) → n ≤ most once → number_of other a ≤ most other →
    number_of other (with_number once n a) ≤ most other
number-in once other n a few most = grind arith

lists-of-number : (once : OnceKeyword) (n : ℕ) (a : Asked) →
    ((with_number once n a).delays ≡ a.delays) × ((with_number once n a).signals ≡ a.signals)
    × ((with_number once n a).dumps ≡ a.dumps) × ((with_number once n a).snaps ≡ a.snaps)
lists-of-number once n a = grind arith

-- adding the card of one keyword keeps the limits if the rest is unchanged
once-kept : (once : OnceKeyword) (kept new : Asked) (numbers : List ℕ) → spec.with_once once kept numbers ≡ Some new →
    IsWithinLimits kept → IsWithinLimits new
once-kept once kept new [] same limits = cc
once-kept once kept new (n ∷ []) same limits =
    let parts = given _ _ new same in
    let ranges = both _ _ (both _ _ parts.0).1 in
    let few : n ≤ most once = at_most n (most once) ranges.1 in
    let lists = lists-of-number once n kept in
    subst (λ (a : Asked). IsWithinLimits a) parts.1
    (within-by kept (with_number once n kept) (λ other. number-in once other n kept few (limits.once other)) lists.0 lists.1 lists.2 lists.3 limits)
once-kept once kept new (n ∷ m ∷ ms) same limits = cc

delays-kept : (kept new : Asked) (numbers : List ℕ) → spec.with_delays kept numbers ≡ Some new →
    IsWithinLimits kept → IsWithinLimits new
delays-kept kept new [] same limits = cc
delays-kept kept new (n ∷ ns) same limits =
    let parts = given _ _ new same in
    let tests = both _ _ parts.0 in
    let few : length kept.delays + length (n ∷ ns) ≤ 4096 = at_most _ 4096 tests.0 in
    subst (λ (a : Asked). IsWithinLimits a) parts.1 (record {
      once = λ once. numbers-beside once kept _ _ _ _ (limits.once once);
      delays = record {
        each = All-append (λ d. is_in_range 1 255 d ≡ true) kept.delays (n ∷ ns) limits.delays.each (AllPass-from_list_all (is_in_range 1 255) (n ∷ ns) tests.1);
        few = omega (arith, few, length-append kept.delays (n ∷ ns));
      };
      signals = limits.signals;
      dumps = limits.dumps;
      snaps = limits.snaps;
    })

dump-kept : (kept new : Asked) (numbers : List ℕ) → spec.with_dump kept numbers ≡ Some new →
    IsWithinLimits kept → IsWithinLimits new
dump-kept kept new [] same limits = cc
dump-kept kept new (first ∷ []) same limits = cc
dump-kept kept new (first ∷ last ∷ []) same limits =
    let parts = given _ _ new same in
    let tests = both _ _ parts.0 in
    let sizes = both _ _ tests.0 in
    let room : length kept.dumps < 16 = below _ 16 sizes.0 in
    let part : is_part (first, last) ≡ true = ap (λ b. b && nat_le last 98303) sizes.1 ∙ tests.1 in
    subst (λ (a : Asked). IsWithinLimits a) parts.1 (record {
      once = λ once. numbers-beside once kept _ _ _ _ (limits.once once);
      delays = limits.delays;
      signals = limits.signals;
      dumps = record {
        each = All-append (λ d. is_part d ≡ true) kept.dumps ((first, last) ∷ []) limits.dumps.each (only is_part (first, last) part);
        few = omega (arith, room, length-append kept.dumps ((first, last) ∷ []));
      };
      snaps = limits.snaps;
    })
dump-kept kept new (first ∷ last ∷ n ∷ ns) same limits = cc

-- the test of the last item is a test of the item at the last index
last_item : {X : Type 0} (test : X → Bool) (items : List X) → last_passes test items ≡ true → (d : X) → 0 < length items →
    test (get_or items (length items - 1) d) ≡ true
last_item test [] passes d some = absurd (omega (arith, some))
last_item {X} test (x ∷ xs) passes d some =
    let here : length (x ∷ xs) - 1 ≡ length xs = omega arith in
    let last = slice_get-get_or (x ∷ xs) (length xs) d (omega arith) in
    ap (λ k. test (get_or (x ∷ xs) k d)) here ∙ sym (ap (λ (o : Option X). option_map_or test o true) last) ∙ passes

signal-kept : (kept new : Asked) (numbers : List ℕ) → spec.with_signal kept numbers ≡ Some new →
    IsWithinLimits kept → IsWithinLimits new
signal-kept kept new [] same limits = cc
signal-kept kept new (count ∷ []) same limits = cc
signal-kept kept new (count ∷ indicator ∷ []) same limits =
    let signal : Signal = record { count = count; indicator = indicator } in
    let parts = given _ _ new same in
    let tests = both _ _ parts.0 in
    let ranges = both _ _ tests.0 in
    let sizes = both _ _ ranges.0 in
    let room : length kept.signals < 4096 = below _ 4096 sizes.0 in
    let good : is_signal signal ≡ true = ap (λ b. b && nat_le indicator 13) sizes.1 ∙ ranges.1 in
    subst (λ (a : Asked). IsWithinLimits a) parts.1 (record {
      once = λ once. numbers-beside once kept _ _ _ _ (limits.once once);
      delays = limits.delays;
      signals = record {
        each = All-append (λ s. is_signal s ≡ true) kept.signals (signal ∷ []) limits.signals.each (only is_signal signal good);
        counts = IsNonDecreasingBy-push (λ s. s.count) kept.signals signal limits.signals.counts
            (λ d some. at_most _ count (last_item (λ s. nat_le s.count count) kept.signals tests.1 d some));
        few = omega (arith, room, length-append kept.signals (signal ∷ []));
      };
      dumps = limits.dumps;
      snaps = limits.snaps;
    })
signal-kept kept new (count ∷ indicator ∷ n ∷ ns) same limits = cc

-- a number above the last one keeps a list increasing
rising-push : (xs : List ℕ) (x : ℕ) → IsStrictlyIncreasing xs → (0 < length xs → get_or xs (length xs - 1) 0 < x) →
    IsStrictlyIncreasing (xs ++ x ∷ [])
rising-push xs x rising above k within =
    let more : length (xs ++ x ∷ []) ≡ length xs + 1 = length-append xs (x ∷ []) in
    let here : k < length xs = omega (arith, within, more) in
    let step : (b : Bool) → nat_lt (k + 1) (length xs) ≡ b → get_or (xs ++ x ∷ []) k 0 < get_or (xs ++ x ∷ []) (k + 1) 0 =
    λ b. elim b as (λ v. nat_lt (k + 1) (length xs) ≡ v → get_or (xs ++ x ∷ []) k 0 < get_or (xs ++ x ∷ []) (k + 1) 0) [
      | true ↦ λ test.
          let inside : k + 1 < length xs = below (k + 1) (length xs) test in
          omega (arith, rising k inside, get_or-append xs (x ∷ []) 0 k here, get_or-append xs (x ∷ []) 0 (k + 1) inside)
      | false ↦ λ test.
          let outside : length xs ≤ k + 1 = not_below (k + 1) (length xs) test in
          let last : k + 1 ≡ length xs = omega (arith, here, outside) in
          let some : 0 < length xs = omega (arith, last) in
          let before : k ≡ length xs - 1 = omega (arith, last) in
          let item : get_or (xs ++ x ∷ []) (k + 1) 0 ≡ x =
          ap (λ j. get_or (xs ++ x ∷ []) j 0) last ∙ get_or-append_seam xs x [] 0 in
          let same : get_or xs k 0 ≡ get_or xs (length xs - 1) 0 = ap (λ j. get_or xs j 0) before in
          omega (arith, above some, item, same, get_or-append xs (x ∷ []) 0 k here)
    ] in
    step (nat_lt (k + 1) (length xs)) refl

snap-kept : (kept new : Asked) (numbers : List ℕ) → AllPass is_tick numbers → spec.with_snap kept numbers ≡ Some new →
    IsWithinLimits kept → IsWithinLimits new
snap-kept kept new [] short same limits = cc
snap-kept kept new (tick ∷ []) short same limits =
    let parts = given _ _ new same in
    let tests = both _ _ parts.0 in
    let room : length kept.snaps < 64 = below _ 64 tests.0 in
    subst (λ (a : Asked). IsWithinLimits a) parts.1 (record {
      once = λ once. numbers-beside once kept _ _ _ _ (limits.once once);
      delays = limits.delays;
      signals = limits.signals;
      dumps = limits.dumps;
      snaps = record {
        each = All-append (λ t. is_tick t ≡ true) kept.snaps (tick ∷ []) limits.snaps.each short;
        rising = rising-push kept.snaps tick limits.snaps.rising
            (λ some. below _ tick (last_item (λ t. nat_lt t tick) kept.snaps tests.1 0 some));
        few = omega (arith, room, length-append kept.snaps (tick ∷ []));
      };
    })
snap-kept kept new (tick ∷ n ∷ ns) short same limits = cc

-- marks have no limits, so making their requests keeps the limits
mark-parts : (mark : MarkKeyword) (made : Bool) (once : OnceKeyword) (a : Asked) →
    (number_of once (with_mark mark made a) ≡ number_of once a) × ((with_mark mark made a).delays ≡ a.delays)
    × ((with_mark mark made a).signals ≡ a.signals) × ((with_mark mark made a).dumps ≡ a.dumps) × ((with_mark mark made a).snaps ≡ a.snaps)
mark-parts mark made once a = grind arith

flag-kept : (b : Bool) (kept marked new : Asked) (numbers : List ℕ) → IsWithinLimits marked → spec.with_flag b marked numbers ≡ Some new →
    IsWithinLimits new
flag-kept true kept marked new [] limits same = cc
flag-kept false kept marked new [] limits same =
    let is_new : marked ≡ new = cc in
    subst (λ (a : Asked). IsWithinLimits a) is_new limits
flag-kept b kept marked new (n ∷ ns) limits same = cc

mark-kept : (mark : MarkKeyword) (kept : Asked) → IsWithinLimits kept → IsWithinLimits (with_mark mark true kept)
mark-kept mark kept limits =
    let parts = λ (once : OnceKeyword). mark-parts mark true once kept in
    let lists = parts Budget in
    within-by kept (with_mark mark true kept) (λ once. rw (parts once).0 (limits.once once)) lists.1 lists.2 lists.3 lists.4 limits

listed-beside : (once : OnceKeyword) (a : Asked) → number_of once a ≤ most once → number_of once (record a { list = true }) ≤ most once
listed-beside once a few = grind arith

list-kept : (kept : Asked) → IsWithinLimits kept → IsWithinLimits (record kept { list = true })
list-kept kept limits = record {
  once = λ once. listed-beside once kept (limits.once once);
  delays = limits.delays;
  signals = limits.signals;
  dumps = limits.dumps;
  snaps = limits.snaps;
}

-- adding the request of a keyword keeps the limits
pub keyword-kept : (keyword : Keyword) (kept new : Asked) (numbers : List ℕ) → AllPass is_tick numbers →
    spec.with_keyword keyword kept numbers ≡ Some new → IsWithinLimits kept → IsWithinLimits new
keyword-kept Listing kept new numbers short same limits = flag-kept kept.list kept _ new numbers (list-kept kept limits) same
keyword-kept (Mark mark) kept new numbers short same limits = flag-kept _ kept _ new numbers (mark-kept mark kept limits) same
keyword-kept (Once once) kept new numbers short same limits = once-kept once kept new numbers same limits
keyword-kept (Number Delays) kept new numbers short same limits = delays-kept kept new numbers same limits
keyword-kept (Number Snap) kept new numbers short same limits = snap-kept kept new numbers short same limits
keyword-kept (Pair Signals) kept new numbers short same limits = signal-kept kept new numbers same limits
keyword-kept (Pair Dump) kept new numbers short same limits = dump-kept kept new numbers same limits

good-short : (a b : Bool) (v n : ℕ) → nat_le v 999999999999 ≡ b →
    number_if_good (if a then (if b then Good v else Large) else Bad) ≡ Some n → is_tick n ≡ true
good-short true true v n test same =
    let number : v ≡ n = cc in
    ap is_tick (sym number) ∙ test
good-short true false v n test same = cc
good-short false b v n test same = cc

-- a number of a control card has 12 digits at most
number-short : (word : List ℕ) (n : ℕ) → card_number word ≡ Some n → is_tick n ≡ true
number-short word n same =
    let read : (b : Bool) → (if b then None else number_if_good (reading 999999999999 word)) ≡ Some n → is_tick n ≡ true =
    λ b. elim b as (λ v. (if v then None else number_if_good (reading 999999999999 word)) ≡ Some n → is_tick n ≡ true) [
      | true ↦ λ e. cc
      | false ↦ λ e. good-short (is_number word) (nat_le (digits_value word) 999999999999) (digits_value word) n refl e
    ] in
    read (nat_lt 12 (length word)) same

before-parts : (o : Option ℕ) (os : Option (List ℕ)) (numbers : List ℕ) → numbers_before o os ≡ Some numbers →
    (n : ℕ) × ((ns : List ℕ) × ((o ≡ Some n) × (os ≡ Some ns) × (n ∷ ns ≡ numbers)))
before-parts (Some n) (Some ns) numbers same = (n, (ns, (refl, refl, cc)))
before-parts (Some n) None numbers same = cc
before-parts None os numbers same = cc

-- each number of a control card has at most 12 digits
pub numbers-short : (words : List (List ℕ)) (numbers : List ℕ) → card_numbers words ≡ Some numbers → AllPass is_tick numbers
numbers-short [] numbers same =
    let none : [] ≡ numbers = cc in
    subst (λ (ns : List ℕ). AllPass is_tick ns) none (λ k d within. absurd (omega (arith, within)))
numbers-short (word ∷ more) numbers same =
    let parts = before-parts (card_number word) (card_numbers more) numbers same in
    let later = numbers-short more parts.1.0 parts.1.1.1 in
    subst (λ (ns : List ℕ). AllPass is_tick ns) parts.1.1.2
    (All-append (λ t. is_tick t ≡ true) (parts.0 ∷ []) parts.1.0 (only is_tick parts.0 (number-short word parts.0 parts.1.1.0)) later)

card-kept : (kept new : Asked) (keyword : Option Keyword) (numbers : Option (List ℕ)) →
    ((ns : List ℕ) → numbers ≡ Some ns → AllPass is_tick ns) → spec.with_card kept keyword numbers ≡ Some new →
    IsWithinLimits kept → IsWithinLimits new
card-kept kept new (Some keyword) (Some ns) short same limits = keyword-kept keyword kept new ns (short ns refl) same limits
card-kept kept new (Some keyword) None short same limits = cc
card-kept kept new None numbers short same limits = cc

words-kept : (kept new : Asked) (words : List (List ℕ)) → spec.with_words kept words ≡ Some new →
    IsWithinLimits kept → IsWithinLimits new
words-kept kept new [] same limits = cc
words-kept kept new (word ∷ more) same limits =
    card-kept kept new (keyword_in Card word keyword_order) (card_numbers more) (λ ns is. numbers-short more ns is) same limits

-- adding a control card keeps the limits
pub added-kept : (kept new : Asked) (text : List ℕ) → spec.asked_with_card kept text ≡ Some new → IsWithinLimits kept → IsWithinLimits new
added-kept kept new text same limits = words-kept kept new (words (columns text)) same limits

none-within : (once : OnceKeyword) → number_of once nothing_asked ≤ most once
none-within once = grind arith

-- no requests are within the limits
pub nothing-within : IsWithinLimits nothing_asked
nothing-within = record {
  once = none-within;
  delays = record { each = All-nil (λ n. is_in_range 1 255 n ≡ true); few = lit≤ tt };
  signals = record {
    each = All-nil (λ s. is_signal s ≡ true);
    counts = λ i j d le below. omega arith;
    few = lit≤ tt;
  };
  dumps = record { each = All-nil (λ p. is_part p ≡ true); few = lit≤ tt };
  snaps = record { each = All-nil (λ t. is_tick t ≡ true); rising = λ i below. omega arith; few = lit≤ tt };
}

others-beside : (once : OnceKeyword) (a : Asked) (budget : ℕ) (delays : List ℕ) → budget ≤ 10000000 → number_of once a ≤ most once →
    number_of once (record a { budget = budget; delays = delays }) ≤ most once
others-beside once a budget delays few own = grind arith

-- requests with another budget and other delays
pub others-within : (a : Asked) (budget : ℕ) (delays : List ℕ) → IsWithinLimits a → budget ≤ 10000000 → AreDelays delays →
    IsWithinLimits (record a { budget = budget; delays = delays })
others-within a budget delays limits few are = record {
  once = λ once. others-beside once a budget delays few (limits.once once);
  delays = are;
  signals = limits.signals;
  dumps = limits.dumps;
  snaps = limits.snaps;
}
