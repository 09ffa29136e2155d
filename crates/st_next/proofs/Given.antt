-- The next word or the fetched instruction, by the contents of the words so far of the next entry of a state.
use Rattle.st_next.proofs.Common.{◌≡◌, ℕ, ◌+◌, ◌≤◌, Bool, true, false, ◌||◌, List, ◌++◌, length, map, Option, inl, inr, refl, sym, ◌∙◌, ap, arith, Machine, word, Fetched, Next, Found, index_words, place_of, words_fetched, plan, decode_context, left_after, fetching_of, words_read, own_words, is_execute, alone-serial, WordRun, words_of_run, reading_at, instruction_words, own_count, entry, entry-words, entry-own, AreFirstWords}
use Rattle.std.specs.Prelude.{is_some}
use Rattle.st_next.proofs.Issues.{IsRest, rest-left, given-word, given-own, given-target, given-found}
use Rattle.st_next.proofs.Readings.{own-first, targets-execute}
use Rattle.st_next.proofs.Starts.{left_of, first-left, length-first, run_of-none, IsNextOwn, next-own, IsNextTarget, next-target, IsAll, next-none}

module _ (t : Option ℕ) (u : Machine) where
  -- the words so far
  abbrev pub words_of : WordRun → WordRun → List ℕ
  words_of own target = words_of_run own ++ words_of_run target

  abbrev pub contents_of : WordRun → WordRun → List ℕ
  contents_of own target = map (word u) (words_of own target)

  pub own-none : (entry t u).own.len ≡ 0 → (entry t u).own.first ≡ 0
  unfolding entry
  own-none e = run_of-none _ e

  pub target-none : (entry t u).target.len ≡ 0 → (entry t u).target.first ≡ 0
  unfolding entry
  target-none e = run_of-none _ e

  rest-of : (own target : WordRun) → AreFirstWords own target (entry t u)
      → IsRest (reading_at t u) (left_after (reading_at t u) (contents_of own target)) (word u) (words_of own target) (left_of own target (entry t u))
  unfolding instruction_words
  rest-of own target are =
      rest-left (reading_at t u) (word u) (words_of own target) (left_of own target (entry t u))
      (entry-words t u ∙ first-left own target (entry t u) are) (own-first (word u) (index_words u) (word u 3) u.enabled (place_of u t))

  own-counted : own_words (reading_at t u) (word u) ≡ (entry t u).own.len
  unfolding own_count
  own-counted = entry-own t u

  pub gives-own : (own target : WordRun) (w : ℕ) → AreFirstWords own target (entry t u)
      → fetching_of (left_after (reading_at t u) (contents_of own target)) ≡ Next w false → IsNextOwn own target (entry t u) w
  gives-own own target w are e =
      let rest = rest-of own target are in
      let left = left_after (reading_at t u) (contents_of own target) in
      let next = given-word left (word u) w false e in
      let some : 1 ≤ own_words left (word u) = given-own left (word u) w e in
      next-own own target (entry t u) w next.0 are (sym rest.words ∙ next.1)
      (omega (arith, some, rest.own, own-counted, length-first own target))

  pub gives-target : (own target : WordRun) (w : ℕ) → AreFirstWords own target (entry t u)
      → fetching_of (left_after (reading_at t u) (contents_of own target)) ≡ Next w true → IsNextTarget own target (entry t u) w
  gives-target own target w are e =
      let rest = rest-of own target are in
      let left = left_after (reading_at t u) (contents_of own target) in
      let next = given-word left (word u) w true e in
      let none : own_words left (word u) ≡ 0 = given-target left (word u) w e rest.first in
      next-target own target (entry t u) w next.0 are own-none (sym rest.words ∙ next.1)
      (omega (arith, none, rest.own, own-counted, length-first own target))

  pub gives-all : (own target : WordRun) (f : Fetched) → AreFirstWords own target (entry t u)
      → fetching_of (left_after (reading_at t u) (contents_of own target)) ≡ Found f
      → IsAll own target (entry t u) × (f ≡ words_fetched u (place_of u t))
  unfolding words_fetched
  gives-all own target f are e =
      let rest = rest-of own target are in
      let left = left_after (reading_at t u) (contents_of own target) in
      let found = given-found left (word u) f e in (
        next-none own target (entry t u) are own-none target-none (sym rest.words ∙ found.0),
        found.1 ∙ rest.found,
      )

  -- ---- EX is serializing

  or-second : (a b : Bool) → b ≡ true → (a || b) ≡ true
  or-second true b h = refl
  or-second false b h = h

  execute-serial : is_execute (words_fetched u (place_of u t)).instr.instr ≡ true → (entry t u).serial ≡ true
  unfolding entry plan decode_context
  execute-serial ex =
      let p = place_of u t in alone-serial _ _ (or-second (is_some p.table) (is_execute (words_fetched u p).instr.instr) ex)

  words-counted : length (words_read (reading_at t u) (word u)) ≡ (entry t u).own.len + (entry t u).target.len
  unfolding instruction_words
  words-counted = ap length (entry-words t u) ∙ length-first (entry t u).own (entry t u).target

  pub target-serial : 1 ≤ (entry t u).target.len → (entry t u).serial ≡ true
  unfolding words_fetched
  target-serial some = elim (targets-execute (word u) (index_words u) (word u 3) u.enabled (place_of u t)) [
    | inl few ↦ absurd (omega (arith, few, some, words-counted, own-counted))
    | inr ex ↦ execute-serial ex
  ]
