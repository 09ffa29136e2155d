-- Requests within their limits can be added one by one.
use Rattle.st_card.proofs.Common.{◌≡◌, ◌≤◌, ◌<◌, ◌+◌, ◌-◌, ◌==◌, ℕ, Bool, true, false, nat_le, nat_lt, List, [], ◌∷◌, ◌++◌, length, get_or, Option, Some, None, if◌then◌else◌, refl, ap, sym, ◌∙◌, length-append, arith, AllPass, IsNonDecreasingBy, IsStrictlyIncreasing, option_map_or, slice_get-get_or, get_or_append_left, get_or_at, get_or_default, Asked, is_in_range, last_passes, with_delays, with_signal, with_dump, with_snap, is_signal, is_part, is_tick, AreDelays, AreSignals, AreDumps, AreSnaps, IsShort, Signal, number_of, with_number, with_once, most}
use Rattle.st_card.specs.declared.keywords.Once.{Once as OnceKeyword}
use Rattle.std.proofs.lemmas.Bool.{and_from as both_true, and_parts as holds_both, le-leb as at_most, leb-true as is_at_most, lt-ltb as below}

-- a conditional result is present if its test is true
taken : (test : Bool) (new : Asked) → test ≡ true → (if test then Some new else None) ≡ Some new
taken true new holds = refl
taken false new holds = cc

-- a test that all items of a list pass is passed by an item in its middle
pub one_passes : {X : Type 0} (p : X → Bool) (done rest : List X) (x : X) → AllPass p (done ++ x ∷ rest) → p x ≡ true
one_passes p done rest x each =
    let within : length done < length (done ++ x ∷ rest) = omega (arith, length-append done (x ∷ rest)) in
    sym (ap p (get_or_at done x rest x (length done) refl)) ∙ each (length done) x within

-- the last item passes a test if the item at the last index does
last_ok : {X : Type 0} (test : X → Bool) (items : List X) →
    ((d : X) → 0 < length items → test (get_or items (length items - 1) d) ≡ true) → last_passes test items ≡ true
last_ok test [] passes = refl
last_ok {X} test (x ∷ xs) passes =
    let here : length xs ≡ length (x ∷ xs) - 1 = omega arith in
    ap (λ (o : Option X). option_map_or test o true) (slice_get-get_or (x ∷ xs) (length xs) x (omega arith))
    ∙ ap (λ k. test (get_or (x ∷ xs) k x)) here ∙ passes x (omega arith)

-- a signal after earlier ones of a nondecreasing list keeps the order of counts
last_count : (done rest : List Signal) (s : Signal) → IsNonDecreasingBy (λ x. x.count) (done ++ s ∷ rest) →
    last_passes (λ x. nat_le x.count s.count) done ≡ true
last_count done rest s order =
    last_ok (λ (x : Signal). nat_le x.count s.count) done
    (λ d some.
    let last : ℕ = length done - 1 in
    let before : last ≤ length done = omega arith in
    let inside : last < length done = omega arith in
    let within : length done < length (done ++ s ∷ rest) = omega (arith, length-append done (s ∷ rest)) in
    let ordered = order last (length done) d before within in
    let left = ap (λ (x : Signal). x.count) (get_or_append_left done (s ∷ rest) d last inside) in
    let right = ap (λ (x : Signal). x.count) (get_or_at done s rest d (length done) refl) in
    at_most _ s.count (omega (arith, ordered, left, right)))

-- a tick after earlier ones of an increasing list is greater than the last
last_tick : (done rest : List ℕ) (t : ℕ) → IsStrictlyIncreasing (done ++ t ∷ rest) → last_passes (λ x. nat_lt x t) done ≡ true
last_tick done rest t order =
    last_ok (λ x. nat_lt x t) done
    (λ d some.
    let last : ℕ = length done - 1 in
    let next : last + 1 ≡ length done = omega (arith, some) in
    let inside : last < length done = omega arith in
    let within : last + 1 < length (done ++ t ∷ rest) = omega (arith, length-append done (t ∷ rest)) in
    let ordered = order last within in
    let left = get_or_append_left done (t ∷ rest) 0 last inside in
    let right = ap (λ k. get_or (done ++ t ∷ rest) k 0) next ∙ get_or_at done t rest 0 (length done) refl in
    let same = get_or_default done last d 0 inside in
    below _ t (omega (arith, ordered, left, right, same)))

module _ (a : Asked) where
  pub once-asked : (once : OnceKeyword) (n : ℕ) → (number_of once a == 0) ≡ true → 1 ≤ n → n ≤ most once →
      with_once once a (n ∷ []) ≡ Some (with_number once n a)
  once-asked once n none some few =
      taken _ _ (both_true (number_of once a == 0) (is_in_range 1 (most once) n) none (both_true _ _ (at_most 1 n some) (at_most n (most once) few)))

  pub delay-asked : (d : ℕ) (rest : List ℕ) → AreDelays (a.delays ++ d ∷ rest) →
      with_delays a (d ∷ []) ≡ Some (record a { delays = a.delays ++ d ∷ [] })
  delay-asked d rest are =
      let room : nat_le (length a.delays + length (d ∷ [])) 4096 ≡ true =
      at_most _ 4096 (omega (arith, are.few, length-append a.delays (d ∷ rest))) in
      let good : is_in_range 1 255 d ≡ true = one_passes (is_in_range 1 255) a.delays rest d are.each in
      taken _ _ (both_true _ _ room (both_true (is_in_range 1 255 d) true good refl))

  pub signal-asked : (s : Signal) (rest : List Signal) → AreSignals (a.signals ++ s ∷ rest) →
      with_signal a (s.count ∷ s.indicator ∷ []) ≡ Some (record a { signals = a.signals ++ s ∷ [] })
  signal-asked s rest are =
      let room : nat_lt (length a.signals) 4096 ≡ true = below _ 4096 (omega (arith, are.few, length-append a.signals (s ∷ rest))) in
      let ranges = holds_both _ _ (one_passes is_signal a.signals rest s are.each) in
      taken _ _ (both_true _ _ (both_true _ _ (both_true _ _ room ranges.0) ranges.1) (last_count a.signals rest s are.counts))

  pub dump-asked : (p : ℕ × ℕ) (rest : List (ℕ × ℕ)) → AreDumps (a.dumps ++ p ∷ rest) →
      with_dump a (p.0 ∷ p.1 ∷ []) ≡ Some (record a { dumps = a.dumps ++ p ∷ [] })
  dump-asked p rest are =
      let room : nat_lt (length a.dumps) 16 ≡ true = below _ 16 (omega (arith, are.few, length-append a.dumps (p ∷ rest))) in
      let ranges = holds_both _ _ (one_passes is_part a.dumps rest p are.each) in
      taken _ _ (both_true _ _ (both_true _ _ room ranges.0) ranges.1)

  pub snap-asked : (t : ℕ) (rest : List ℕ) → AreSnaps (a.snaps ++ t ∷ rest) →
      with_snap a (t ∷ []) ≡ Some (record a { snaps = a.snaps ++ t ∷ [] })
  snap-asked t rest are =
      let room : nat_lt (length a.snaps) 64 ≡ true = below _ 64 (omega (arith, are.few, length-append a.snaps (t ∷ rest))) in
      taken _ _ (both_true _ _ room (last_tick a.snaps rest t are.rising))

pub delay-short : (done rest : List ℕ) (d : ℕ) → AreDelays (done ++ d ∷ rest) → IsShort d
delay-short done rest d are =
    let range = holds_both (nat_le 1 d) (nat_le d 255) (one_passes (is_in_range 1 255) done rest d are.each) in
    let few : d ≤ 255 = is_at_most d 255 range.1 in omega (arith, few)

pub signal-short : (done rest : List Signal) (s : Signal) → AreSignals (done ++ s ∷ rest) → IsShort s.count × IsShort s.indicator
signal-short done rest s are =
    let ranges = holds_both _ _ (one_passes is_signal done rest s are.each) in
    let count : s.count ≤ 10000000 = is_at_most s.count 10000000 ranges.0 in
    let indicator : s.indicator ≤ 13 = is_at_most s.indicator 13 ranges.1 in (omega (arith, count), omega (arith, indicator))

pub dump-short : (done rest : List (ℕ × ℕ)) (p : ℕ × ℕ) → AreDumps (done ++ p ∷ rest) → IsShort p.0 × IsShort p.1
dump-short done rest p are =
    let ranges = holds_both _ _ (one_passes is_part done rest p are.each) in
    let first : p.0 ≤ p.1 = is_at_most p.0 p.1 ranges.0 in
    let last : p.1 ≤ 98303 = is_at_most p.1 98303 ranges.1 in (omega (arith, first, last), omega (arith, last))

pub snap-short : (done rest : List ℕ) (t : ℕ) → AreSnaps (done ++ t ∷ rest) → IsShort t
snap-short done rest t are = is_at_most t 999999999999 (one_passes is_tick done rest t are.each)

-- the greatest number of a request that is allowed once has at most 12 digits
pub once-short : (once : OnceKeyword) (n : ℕ) → n ≤ most once → IsShort n
once-short once n few = grind arith
