-- While the entry rests, its remaining reads are requested later.
use Rattle.st_next.proofs.Common.{◌≡◌, ℕ, zero, suc, ◌≤◌, ◌<◌, ◌||◌, max, Bool, true, false, ◌==◌, if◌then◌else◌, List, inl, inr, Option, refl, ◌∙◌, ap, arith, Machine, wanted_from, words_tick, address_tick, tick_a, fetch_words, WordRun, Entry, Fetching, IssueState, entry, words_so_far, IsReadOn, Rests, wanted_next, FetchUnit}
use Rattle.st_next.proofs.Given.{target-serial}
use Rattle.st_next.proofs.WordByWord.{fetch-none}
use Rattle.st_next.proofs.Late.{waits-most, words-later, AreLeft, left_none, left_target}

pub waits-none : (f : IssueState) (run : WordRun) → run.len ≡ 0 → (if run.len == 0 then 0 else f.c) ≡ 0
waits-none f run none = ap (λ n. if n == 0 then 0 else f.c) none

-- ---- the address is formed later

-- a serializing entry, and the entry after it, await the previous entry
alone-first : (a b : Bool) (p c : ℕ) → (if b then max p c else p) ≤ max p (if a || b then c else 0)
alone-first true true p c = omega arith
alone-first true false p c = omega arith
alone-first false true p c = omega arith
alone-first false false p c = omega arith

alone-serial : (a b : Bool) (c : ℕ) → a ≡ true → c ≤ (if a || b then c else 0)
alone-serial true b c e = omega arith
alone-serial false b c e = absurd (cc)

module _ (ds : List ℕ) (m : ℕ) (t : Option ℕ) (u : Machine) (f : IssueState) (next : FetchUnit) (read : IsReadOn ds t u f next) (un : next.planned ≡ false) where
  abbrev e : Entry
  e = entry t u

  same-answered : next.words.answered ≡ (words_so_far ds f next.entry.own next.entry.target).answered
  same-answered = ap (λ (s : Fetching). s.answered) (read.words un)

  same-awaited : next.words.awaited ≡ (words_so_far ds f next.entry.own next.entry.target).awaited
  same-awaited = ap (λ (s : Fetching). s.awaited) (read.words un)

  after-words : m ≤ max (max (max (wanted_from f) (if e.serial || f.serial then f.c else 0)) next.words.answered) next.words.awaited → m < tick_a ds f e
  unfolding tick_a address_tick
  after-words late =
      let more = words-later ds f next.entry.own next.entry.target e read.first in
      omega (arith, late, same-answered, same-awaited, more.0, more.1, alone-first e.serial f.serial f.p f.c)

  waits-alone : (n : ℕ) → next.entry.target.len ≡ n → (if next.entry.target.len == 0 then 0 else f.c) ≤ (if e.serial || f.serial then f.c else 0)
  waits-alone zero none = omega (arith, waits-none f next.entry.target none)
  waits-alone (suc n) some =
      let serial : e.serial ≡ true = target-serial t u (omega (arith, some, read.first.target_start.few)) in
      omega (arith, waits-most f next.entry.target, alone-serial e.serial f.serial f.c serial)

  pub address-late : Rests m t u f next → m < tick_a ds f e
  address-late rests = elim (rests un) [
    | inl late ↦ after-words (omega (arith, late, waits-alone next.entry.target.len refl))
    | inr is ↦ after-words (omega (arith, is.3, alone-serial e.serial f.serial f.c (target-serial t u is.2)))
  ]

  -- ---- the remaining words are requested later

  left-waits : (n : ℕ) → next.entry.target.len ≡ n → m ≤ wanted_next f next → AreLeft ds f next.entry.own next.entry.target e read.first m
  unfolding words_tick fetch_words
  left-waits zero none late =
      let start : Fetching = record { bus = f.bus; answered = 0; awaited = 0 } in
      let own = fetch_words ds f.past start (wanted_from f) next.entry.own.first next.entry.own.len in
      let words : next.words ≡ own = read.words un ∙ fetch-none ds f.past (max (wanted_from f) f.c) own next.entry.target.first next.entry.target.len none in
      left_none ds f next.entry.own next.entry.target e read.first m none
      (omega (arith, late, waits-none f next.entry.target none, ap (λ (s : Fetching). s.answered) words, ap (λ (s : Fetching). s.awaited) words))
  left-waits (suc n) some late =
      left_target ds f next.entry.own next.entry.target e read.first m (read.first.all_own (omega (arith, some)))
      (omega (arith, late, waits-most f next.entry.target, same-answered, same-awaited))

  pub rest-left : Rests m t u f next → AreLeft ds f next.entry.own next.entry.target e read.first m
  rest-left rests = elim (rests un) [
    | inl late ↦ left-waits next.entry.target.len refl late
    | inr is ↦ left_target ds f next.entry.own next.entry.target e read.first m is.0 (omega (arith, is.3))
  ]
