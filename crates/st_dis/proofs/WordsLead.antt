-- The statements of a deck, in order, lead from an empty image to the words of the program.
use Rattle.st_dis.proofs.Common.{◌≡◌, ℕ, suc, ◌≤◌, ◌<◌, ◌+◌, ◌*◌, ◌/◌, ◌%◌, ◌^◌, ◌==◌, Bool, true, false, List, [], ◌∷◌, ◌++◌, length, replicate, get_or, Some, Result, Ok, if◌then◌else◌, refl, ap, sym, subst, ◌∙◌, append_assoc, length-append, arith, zero, ◌⊎◌, inl, inr, nat_lt, get_or-append_seam, nat_tests, All-append, All-cons, All-nil, All-head, All-tail, All-replicate, Fault, Program, IsProgram, AreWords, words_of_storage, words_of_storage_is, number_expr, statement_of, Statement, SetLocation, End, emitted_alone, image_with, location_statement, end_text, number_text, statements_of}
use Rattle.st_dis.proofs.Said.{word_statements, statements_from, deck_statements, AreRead}
use Rattle.st_dis.proofs.Spelled.{whole_bits, half_bits, statements-cases}
use Rattle.st_dis.proofs.WordRead.{says-emits, data-emits}
use Rattle.st_dis.proofs.PlacesRead.{location-read, start-read}
use Rattle.st_dis.proofs.PlacedWords.{word-placed, first-placed, second-placed}
use Rattle.st_dis.proofs.StatementSteps.{Stand, stand, Steps, word-place, first-place, second-place, emits-steps, set-steps, end-steps}

-- each statement that a text is read as leads from one state to the other
abbrev TextLeads : List ℕ → Stand → Stand → Type 0
TextLeads t here there = (s : Statement) → statement_of [] t ≡ Ok s → Steps s here there

-- texts, in order, lead from one state to another
abbrev Lead : List (List ℕ) → Stand → Stand → Type 0
Lead [] here there = here ≡ there
Lead (t ∷ ts) here there = (next : Stand) × TextLeads t here next × Lead ts next there

-- statements, in order, lead from one state to another
abbrev pub Leads : List Statement → Stand → Stand → Type 0
Leads [] here there = here ≡ there
Leads (s ∷ ss) here there = (next : Stand) × Steps s here next × Leads ss next there

-- texts that lead from one state to another are read as statements that do
read-lead : (ts : List (List ℕ)) (ss : List Statement) (here there : Stand) → AreRead ts ss → Lead ts here there → Leads ss here there
read-lead [] ss here there none same = subst (λ xs. Leads xs here there) (sym none) same
read-lead (t ∷ ts) [] here there read lead = absurd read
read-lead (t ∷ ts) (s ∷ ss) here there read lead = (lead.0, lead.1 s read.0, read-lead ts ss lead.0 there read.1 lead.2)

-- texts followed by further texts lead to the last state
lead-behind : (ts us : List (List ℕ)) (here next there : Stand) → Lead ts here next → Lead us next there → Lead (ts ++ us) here there
lead-behind [] us here next there same rest = subst (λ k. Lead us k there) (sym same) rest
lead-behind (t ∷ ts) us here next there lead rest = (lead.0, lead.1, lead-behind ts us lead.0 next there lead.2 rest)

one-leads : (t : List ℕ) (here there : Stand) → TextLeads t here there → Lead (t ∷ []) here there
one-leads t here there lead = (there, lead, refl)

two-lead : (t u : List ℕ) (here next there : Stand) → TextLeads t here next → TextLeads u next there → Lead (t ∷ u ∷ []) here there
two-lead t u here next there first second = (next, first, (there, second, refl))

none-lead : (here : Stand) → Lead [] here here
none-lead here = refl

-- a text is read as at most one statement
same_read : (a b : Statement) (r : Result Statement Fault) → r ≡ Ok a → r ≡ Ok b → a ≡ b
same_read a b r first second = cc

text-leads : (t : List ℕ) (s : Statement) (here there : Stand) → statement_of [] t ≡ Ok s → Steps s here there → TextLeads t here there
text-leads t s here there is steps other read =
    subst (λ k. Steps k here there) (same_read s other (statement_of [] t) is read) steps

module _ (done zs : List ℕ) (start : ℕ) (words : AreWords done) (zeros : AreWords zs) where
  -- the statements of a word lead to the image with that word
  emits-word : (w x : ℕ) → length done ≡ w → 32 ≤ w → w < 98304 → x < 2 ^ 64 →
      Lead (statements_of x) (stand (64 * w) (done ++ 0 ∷ zs) start) (stand (64 * w + 64) (done ++ x ∷ zs) start)
  emits-word w x size above room small =
      let here = stand (64 * w) (done ++ 0 ∷ zs) start in
      let there = stand (64 * w + 64) (done ++ x ∷ zs) start in
      let half = done ++ (x / 2 ^ 32 * 2 ^ 32) ∷ zs in
      let middle = stand (64 * w + 32) half start in
      let more : 64 * w + 32 + 32 ≡ 64 * w + 64 = omega arith in
      let whole = ap (λ k. image_with (done ++ 0 ∷ zs) (64 * k) 64 x) (sym size) ∙ word-placed done zs x words zeros small in
      let first = ap (λ k. image_with (done ++ 0 ∷ zs) (64 * k) 32 (x / 2 ^ 32)) (sym size) ∙ first-placed done zs x words zeros small in
      let second = ap (λ k. image_with half (64 * k + 32) 32 (x % 2 ^ 32)) (sym size) ∙ second-placed done zs x words zeros small in
      let one : (t : List ℕ) → emitted_alone [] t ≡ Some (whole_bits x) → Lead (t ∷ []) here there =
      λ t emits. one-leads t here there
      (λ s read. emits-steps t s 64 x (64 * w) start (done ++ 0 ∷ zs) (done ++ x ∷ zs) read emits (word-place w above room) whole) in
      statements-cases (λ texts. Lead texts here there) x
      (λ t said. one t (says-emits t (whole_bits x) said))
      (λ l r said_l said_r. two-lead l r here middle there
      (λ s read. emits-steps l s 32 (x / 2 ^ 32) (64 * w) start (done ++ 0 ∷ zs) half read
      (says-emits l (half_bits (x / 2 ^ 32)) said_l) (first-place w above room) first)
      (λ s read. subst (λ k. Steps s middle (stand k (done ++ x ∷ zs) start)) more
      (emits-steps r s 32 (x % 2 ^ 32) (64 * w + 32) start half (done ++ x ∷ zs) read
      (says-emits r (half_bits (x % 2 ^ 32)) said_r) (second-place w above room) second)))
      (one (number_text x) (data-emits x small))

abbrev IsWord : ℕ → Type 0
IsWord x = x < 2 ^ 64

-- the location counter is set first if the word before is zero
not_none : (n : ℕ) → (n == 0) ≡ false → n ≡ 0 → ⊥
not_none n is none = let no : ⊥ = grind (arith, nat_tests, is, none) in no

place-by : (b : Bool) (w : ℕ) (texts : List (List ℕ)) (here next there : Stand) → Lead (location_statement w ∷ []) here next →
    (b ≡ false → here ≡ next) → Lead texts next there → Lead ((if b then location_statement w ∷ [] else []) ++ texts) here there
place-by true w texts here next there set same lead = lead-behind (location_statement w ∷ []) texts here next there set lead
place-by false w texts here next there set same lead = subst (λ s. Lead texts s there) (sym (same refl)) lead

place-leads : (w before : ℕ) (texts : List (List ℕ)) (here next there : Stand) → Lead (location_statement w ∷ []) here next →
    ((before ≡ 0 → ⊥) → here ≡ next) → Lead texts next there →
    Lead ((if before == 0 then location_statement w ∷ [] else []) ++ texts) here there
place-leads w before texts here next there set same lead =
    place-by (before == 0) w texts here next there set (λ is. same (not_none before is)) lead

more_than_none : (k : ℕ) → (suc k == 0) ≡ false
more_than_none k = grind (arith, nat_tests)

-- the statements of word w lead to the image with it, if the words before it are written and those
-- from it on are zero
record IsWordLed (w before x : ℕ) (done zs : List ℕ) (location start : ℕ) : Type 0 where
  behind : ℕ
  ready : (x ≡ 0 → ⊥) → behind ≡ 64 * (w + 1)
  lead : Lead (word_statements w before x) (stand location (done ++ 0 ∷ zs) start) (stand behind (done ++ x ∷ zs) start)

word-led : (w before x : ℕ) (done zs : List ℕ) (location start : ℕ) → length done ≡ w → w < 98304 → ((x ≡ 0 → ⊥) → 32 ≤ w) →
    AreWords done → AreWords zs → x < 2 ^ 64 → ((before ≡ 0 → ⊥) → location ≡ 64 * w) → IsWordLed w before x done zs location start
word-led w before zero done zs location start size room above words zeros small ready = record {
  behind = location;
  ready = λ some. absurd (some refl);
  lead = none-lead (stand location (done ++ 0 ∷ zs) start);
}
word-led w before (suc k) done zs location start size room above words zeros small ready =
    let here = stand location (done ++ 0 ∷ zs) start in
    let next = stand (64 * w) (done ++ 0 ∷ zs) start in
    let there = stand (64 * w + 64) (done ++ suc k ∷ zs) start in
    let set = one-leads (location_statement w) here next (text-leads (location_statement w) (SetLocation (number_expr (64 * w))) here next
    (location-read w room) (set-steps (64 * w) location start (done ++ 0 ∷ zs) (omega (arith, room)))) in
    record {
      behind = 64 * w + 64;
      ready = λ some. omega arith;
      lead = subst (λ (b : Bool). Lead (if b then [] else (if before == 0 then location_statement w ∷ [] else []) ++ statements_of (suc k)) here there)
          (sym (more_than_none k))
          (place-leads w before (statements_of (suc k)) here next there set
          (λ other. ap (λ a. stand a (done ++ 0 ∷ zs) start) (ready other))
          (emits-word done zs start words zeros w (suc k) size (above (λ h. omega arith)) room small));
    }

-- the address of a word is below the registers' end or not
is-below : (w : ℕ) → (w < 32) ⊎ (32 ≤ w)
is-below w = by_test (nat_lt w 32) refl
  where
    by_test : (b : Bool) → nat_lt w 32 ≡ b → (w < 32) ⊎ (32 ≤ w)
    by_test true is = inl (grind (arith, nat_tests, is))
    by_test false is = inr (grind (arith, nat_tests, is))

-- the statements of all words from word w on
words-lead : (ws done xs : List ℕ) (w before location start : ℕ) → ws ≡ done ++ xs → length done ≡ w → w + length xs ≡ 98304 →
    AreWords done → AreWords xs → ((k : ℕ) → k < 32 → get_or ws k 0 ≡ 0) → ((before ≡ 0 → ⊥) → location ≡ 64 * w) →
    (behind : ℕ) × Lead (statements_from w before xs) (stand location (done ++ replicate (length xs) 0) start) (stand behind ws start)
words-lead ws done [] w before location start parts size whole words rest registers ready =
    (location, ap (λ k. stand location k start) (sym parts))
words-lead ws done (x ∷ xs) w before location start parts size whole words rest registers ready =
    let zs = replicate (length xs) 0 in
    let small = All-head IsWord x xs rest in
    let after = All-tail IsWord x xs rest in
    let zeros : AreWords zs = All-replicate IsWord (length xs) 0 (omega arith) in
    let now = done ++ x ∷ [] in
    let here : get_or ws w 0 ≡ x = ap (λ k. get_or k w 0) parts
    ∙ (ap (λ k. get_or (done ++ x ∷ xs) k 0) (sym size) ∙ get_or-append_seam done x xs 0) in
    let above : (x ≡ 0 → ⊥) → 32 ≤ w = λ some. elim (is-below w) as (λ h. 32 ≤ w) [
      | inl low ↦ absurd (some (sym here ∙ registers w low))
      | inr high ↦ high
    ] in
    let led = word-led w before x done zs location start size (omega (arith, whole)) above words zeros small ready in
    let long = length-append done (x ∷ []) in
    let more = words-lead ws now xs (w + 1) x led.behind start (parts ∙ sym (append_assoc done (x ∷ []) xs)) (omega (arith, long, size))
    (omega (arith, whole)) (All-append IsWord done (x ∷ []) words (All-cons IsWord x [] small (All-nil IsWord))) after registers led.ready in
    let turned : now ++ zs ≡ done ++ x ∷ zs = append_assoc done (x ∷ []) zs in (
      more.0,
      lead-behind (word_statements w before x) (statements_from (w + 1) x xs) (stand location (done ++ 0 ∷ zs) start)
          (stand led.behind (done ++ x ∷ zs) start) (stand more.0 ws start) led.lead
          (subst (λ k. Lead (statements_from (w + 1) x xs) (stand led.behind k start) (stand more.0 ws start)) turned more.1),
    )

-- the texts of all statements of a deck
deck-lead : (p : Program) (location : ℕ) → IsProgram p → AreWords p.words →
    (behind : ℕ) × Lead (deck_statements p) (stand location (replicate words_of_storage 0) 0) (stand behind p.words p.start)
deck-lead p location is words =
    let size = is.image.size in
    let all = words-lead p.words [] p.words 0 0 location 0 refl refl (omega (arith, size, words_of_storage_is)) (All-nil IsWord) words
    is.image.registers (λ some. absurd (some refl)) in
    let first = stand location (replicate words_of_storage 0) 0 in
    let last = stand all.0 p.words 0 in
    let end = stand all.0 p.words p.start in (
      all.0,
      lead-behind (statements_from 0 0 p.words) (end_text p.start ∷ []) first last end
          (subst (λ n. Lead (statements_from 0 0 p.words) (stand location (replicate n 0) 0) last) size all.1)
          (one-leads (end_text p.start) last end (text-leads (end_text p.start) (End (number_expr (32 * p.start))) last end
          (start-read p.start is.start) (end-steps p.start all.0 0 p.words is.start))),
    )

-- the statements of a deck lead from an empty image to the words of the program
pub deck-leads : (p : Program) (ss : List Statement) (location : ℕ) → IsProgram p → AreWords p.words → AreRead (deck_statements p) ss →
    (behind : ℕ) × Leads ss (stand location (replicate words_of_storage 0) 0) (stand behind p.words p.start)
deck-leads p ss location is words read =
    let all = deck-lead p location is words in
    (all.0, read-lead (deck_statements p) ss (stand location (replicate words_of_storage 0) 0) (stand all.0 p.words p.start) read all.1)
