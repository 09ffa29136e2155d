-- The instruction words of an entry are two runs of words, its own and those of the target of EX.
use Rattle.st_segment.proofs.Common.{◌≡◌, ℕ, suc, ◌+◌, ◌/◌, ◌≤◌, Bool, true, false, ◌==◌, if◌then◌else◌, List, ◌∷◌, ◌++◌, Option, None, Some, refl, sym, subst, ◌∙◌, ap, arith, is_none, append-nil, Place, effective, Reading, Finds, Reads, outcome, words_read, own_words, half_of, Continuation, with_second, with_first, read_after, instruction_at, is_execute, with_target, fetched_alone, own_use, reading_at_place, of_choice, word_list_from}
use Rattle.std.proofs.Math.Nat.{add-zero}
use Rattle.std.proofs.lemmas.Bool.Decides.{nat_tests}
use Rattle.st_format.specs.declared.instruction.Decoded.{Decoded}
use Rattle.st_format.specs.Formats.{decoded_entry}
use Rattle.st_state.specs.Boundary.{forbidden_by}
use Rattle.st_state.specs.declared.protection.Access.TheVariants.{Fetch}
use Rattle.st_prep.specs.declared.entries.Fetched.{Fetched}
use Rattle.st_prep.specs.declared.fetching.FoundInstruction.{FoundInstruction}

-- ---- one instruction

-- how many of n words are the entry's own; none is, of the target of EX
abbrev own_of : Bool → ℕ → ℕ
own_of true n = 0
own_of false n = n

-- a reading that reads at most m words from w on, and then continues with the found instruction
record IsRead (t : Bool) (w m : ℕ) (k : Continuation) (c : ℕ → ℕ) (r : Reading) : Type 0 where
  n : ℕ
  found : FoundInstruction
  few : n ≤ m
  words : words_read r c ≡ word_list_from w n ++ words_read (k found) c
  own : own_words r c ≡ own_of t n + own_words (k found) c

-- no word is read
read-none : (t : Bool) (w m : ℕ) (k : Continuation) (c : ℕ → ℕ) (f : FoundInstruction) → IsRead t w m k c (k f)
unfolding word_list_from
read-none true w m k c f = record { n = 0; found = f; few = omega arith; words = refl; own = omega arith }
read-none false w m k c f = record { n = 0; found = f; few = omega arith; words = refl; own = omega arith }

-- one more word is read first
read-more : (t : Bool) (w m : ℕ) (k : Continuation) (c : ℕ → ℕ) (r : ℕ → Reading) → IsRead t (w + 1) m k c (r (c w))
    → IsRead t w (suc m) k c (Reads t w r)
unfolding word_list_from words_read own_words
read-more true w m k c r h = record {
  n = suc h.n;
  found = h.found;
  few = omega (arith, h.few);
  words = ap (λ ws. w ∷ ws) h.words;
  own = omega (arith, h.own);
}
read-more false w m k c r h = record {
  n = suc h.n;
  found = h.found;
  few = omega (arith, h.few);
  words = ap (λ ws. w ∷ ws) h.words;
  own = omega (arith, h.own);
}

-- the next half-word lies in the word h / 2 or in the one after it
second-word : (h : ℕ) → ((h + 1) / 2 == h / 2) ≡ false → (h + 1) / 2 ≡ h / 2 + 1
second-word h e = grind (arith, nat_tests, e)

second-by : (b t : Bool) (first h content : ℕ) (k : Continuation) (c : ℕ → ℕ) → ((h + 1) / 2 == h / 2) ≡ b
    → IsRead t (h / 2 + 1) 1 k c
    (if b then k (record { decoded = decoded_entry first (half_of content (h + 1)); fault = None })
    else Reads t ((h + 1) / 2) (λ x. k (record { decoded = decoded_entry first (half_of x (h + 1)); fault = None })))
second-by true t first h content k c e = read-none t (h / 2 + 1) 1 k c _
second-by false t first h content k c e =
    subst
    (λ w.
    IsRead t (h / 2 + 1) 1 k c (Reads t w (λ x. k (record { decoded = decoded_entry first (half_of x (h + 1)); fault = None }))))
    (sym (second-word h e))
    (read-more t (h / 2 + 1) 0 k c (λ x. k (record { decoded = decoded_entry first (half_of x (h + 1)); fault = None }))
    (read-none t (h / 2 + 1 + 1) 0 k c _))

read-second : (f : Option ℕ) (t : Bool) (first h content : ℕ) (k : Continuation) (c : ℕ → ℕ)
    → IsRead t (h / 2 + 1) 1 k c (with_second f t first (h + 1) (h / 2) content k)
read-second (Some i) t first h content k c = read-none t (h / 2 + 1) 1 k c _
read-second None t first h content k c = second-by ((h + 1) / 2 == h / 2) t first h content k c refl

read-first : (t : Bool) (b : ℕ) (en : Bool) (h content : ℕ) (k : Continuation) (c : ℕ → ℕ)
    → IsRead t (h / 2 + 1) 1 k c (with_first t b en h content k)
unfolding with_first
read-first t b en h content k c =
    of_choice (IsRead t (h / 2 + 1) 1 k c) ((decoded_entry (half_of content h) 0).halves == 2) _ _
    (read-second (forbidden_by b en Fetch ((h + 1) / 2)) t (half_of content h) h content k c)
    (read-none t (h / 2 + 1) 1 k c _)

read-after : (f : Option ℕ) (t : Bool) (b : ℕ) (en : Bool) (h : ℕ) (k : Continuation) (c : ℕ → ℕ)
    → IsRead t (h / 2) 2 k c (read_after f t b en h k)
read-after (Some i) t b en h k c = read-none t (h / 2) 2 k c _
read-after None t b en h k c =
    read-more t (h / 2) 1 k c (λ x. with_first t b en h x k) (read-first t b en h (c (h / 2)) k c)

read-at : (t : Bool) (b : ℕ) (en : Bool) (h : ℕ) (k : Continuation) (c : ℕ → ℕ) → IsRead t (h / 2) 2 k c (instruction_at t b en h k)
unfolding instruction_at
read-at t b en h k c = read-after (forbidden_by b en Fetch (h / 2)) t b en h k c

-- ---- the target of EX

-- a reading of n words from w on, none of them the entry's own
record IsTarget (c : ℕ → ℕ) (r : Reading) : Type 0 where
  w : ℕ
  n : ℕ
  few : n ≤ 2
  words : words_read r c ≡ word_list_from w n
  own : own_words r c ≡ 0

target-none : (f : Fetched) (c : ℕ → ℕ) → IsTarget c (Finds f)
unfolding words_read own_words word_list_from
target-none f c = record { w = 0; n = 0; few = omega arith; words = refl; own = refl }

target-at : (b : ℕ) (en : Bool) (h : ℕ) (ex : Decoded) (c : ℕ → ℕ)
    → IsTarget c (instruction_at true b en h (λ target. Finds (with_target ex target)))
unfolding words_read own_words
target-at b en h ex c =
    let it : IsRead true (h / 2) 2 (λ target. Finds (with_target ex target)) c
    (instruction_at true b en h (λ target. Finds (with_target ex target))) =
    read-at true b en h (λ target. Finds (with_target ex target)) c in
    record { w = h / 2; n = it.n; few = it.few; words = it.words ∙ append-nil (word_list_from (h / 2) it.n); own = it.own }

target-use : (x : List ℕ) (b : ℕ) (en : Bool) (own : FoundInstruction) (c : ℕ → ℕ) → IsTarget c (own_use x b en own)
unfolding own_use
target-use x b en own c =
    of_choice (IsTarget c) (is_execute own.decoded.instr) _ _
    (target-at b en (effective x own.decoded.instr / 32) own.decoded c) (target-none (fetched_alone own) c)

-- ---- the whole

-- a reading of two runs of words, of which the first is the entry's own
pub record IsCut (c : ℕ → ℕ) (r : Reading) : Type 0 where
  pub w : ℕ
  pub n : ℕ
  pub v : ℕ
  pub m : ℕ
  pub few : n ≤ 2
  pub few_target : m ≤ 2
  pub words : words_read r c ≡ word_list_from w n ++ word_list_from v m
  pub own : own_words r c ≡ n

pub reading-cut : (x : List ℕ) (b : ℕ) (en : Bool) (p : Place) (c : ℕ → ℕ) → IsCut c (reading_at_place x b en p)
unfolding reading_at_place
reading-cut x b en p c =
    let it : IsRead false (p.address / 2) 2 (own_use x b en) c (instruction_at false b en p.address (own_use x b en)) =
    read-at false b en p.address (own_use x b en) c in
    let target : IsTarget c (own_use x b en it.found) = target-use x b en it.found c in
    record {
      w = p.address / 2;
      n = it.n;
      v = target.w;
      m = target.n;
      few = it.few;
      few_target = target.few;
      words = it.words ∙ ap (λ ws. word_list_from (p.address / 2) it.n ++ ws) target.words;
      own = it.own ∙ ap (λ k. it.n + k) target.own ∙ add-zero it.n;
    }

-- an entry without a forbidden word has a word of its own
some-after : (f : Option ℕ) (x : List ℕ) (b : ℕ) (en : Bool) (h : ℕ) (c : ℕ → ℕ)
    → is_none (outcome (read_after f false b en h (own_use x b en)) c).fault ≡ true
    → 1 ≤ own_words (read_after f false b en h (own_use x b en)) c
unfolding own_use is_execute outcome own_words
some-after (Some i) x b en h c e = cc
some-after None x b en h c e = omega arith

pub reading-some : (x : List ℕ) (b : ℕ) (en : Bool) (p : Place) (c : ℕ → ℕ)
    → is_none (outcome (reading_at_place x b en p) c).fault ≡ true → 1 ≤ own_words (reading_at_place x b en p) c
unfolding reading_at_place instruction_at
reading-some x b en p c e = some-after (forbidden_by b en Fetch (p.address / 2)) x b en p.address c e
