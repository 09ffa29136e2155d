-- An entry reads its own words first, and words of a target only after EX.
use Rattle.st_next.proofs.Common.{◌≡◌, ℕ, ◌+◌, ◌/◌, ◌≤◌, ◌⊎◌, inl, inr, Bool, true, false, ◌==◌, if◌then◌else◌, List, length, Option, None, Some, refl, ◌∙◌, ap, arith, decoded_entry, Place, Reading, Finds, Reads, outcome, words_read, own_words, half_of, Continuation, with_second, with_first, read_after, instruction_at, is_execute, with_target, fetched_alone, own_use, reading_at_place}
use Rattle.st_format.specs.declared.instruction.Decoded.{Decoded}
use Rattle.st_state.specs.Boundary.{forbidden_by}
use Rattle.st_state.specs.declared.protection.Access.TheVariants.{Fetch}
use Rattle.st_prep.specs.declared.fetching.FoundInstruction.{FoundInstruction}
use Rattle.st_prep.specs.SpeculativeChanges.{effective}
use Rattle.st_prep.proofs.Choices.{of_choice}
use Rattle.st_next.proofs.Issues.{OwnFirst, none-first}

-- ---- a property that holds of each continuation, and of a reading after words of one kind

module _ (P : Reading → Type 0) (t : Bool) (reads : (w : ℕ) (r : ℕ → Reading) → ((content : ℕ) → P (r content)) → P (Reads t w r)) (b : ℕ) (en : Bool) where
  abbrev Uses : Continuation → Type 0
  Uses k = (f : FoundInstruction) → P (k f)

  of-second : (f : Option ℕ) (first h v content : ℕ) (k : Continuation) → Uses k → P (with_second f t first h v content k)
  of-second (Some i) first h v content k all = all _
  of-second None first h v content k all = of_choice P (h / 2 == v) _ _ (all _) (reads (h / 2) _ (λ c. all _))

  of-first : (h content : ℕ) (k : Continuation) → Uses k → P (with_first t b en h content k)
  unfolding with_first
  of-first h content k all =
      of_choice P ((decoded_entry (half_of content h) 0).halves == 2) _ _
      (of-second (forbidden_by b en Fetch ((h + 1) / 2)) (half_of content h) (h + 1) (h / 2) content k all) (all _)

  of-after : (f : Option ℕ) (h : ℕ) (k : Continuation) → Uses k → P (read_after f t b en h k)
  of-after (Some i) h k all = all _
  of-after None h k all = reads (h / 2) _ (λ c. of-first h c k all)

  pub of-at : (h : ℕ) (k : Continuation) → Uses k → P (instruction_at t b en h k)
  unfolding instruction_at
  of-at h k all = of-after (forbidden_by b en Fetch (h / 2)) h k all

-- ---- no own word follows a word of the target

module _ (c : ℕ → ℕ) where
  abbrev NoOwn : Reading → Type 0
  NoOwn r = own_words r c ≡ 0

  no_own-reads : (w : ℕ) (r : ℕ → Reading) → ((content : ℕ) → NoOwn (r content)) → NoOwn (Reads true w r)
  unfolding own_words
  no_own-reads w r all = all (c w)

  no_own-finds : (own : Decoded) (f : FoundInstruction) → NoOwn (Finds (with_target own f))
  unfolding own_words
  no_own-finds own f = refl

  no_own-alone : (f : FoundInstruction) → NoOwn (Finds (fetched_alone f))
  unfolding own_words
  no_own-alone f = refl

  no_own-use : (x : List ℕ) (b : ℕ) (en : Bool) (f : FoundInstruction) → NoOwn (own_use x b en f)
  unfolding own_use
  no_own-use x b en own =
      of_choice NoOwn (is_execute own.decoded.instr) _ _
      (of-at NoOwn true no_own-reads b en (effective x own.decoded.instr / 32) _ (no_own-finds own.decoded)) (no_own-alone own)

  abbrev InOrder : Reading → Type 0
  InOrder r = OwnFirst r c

  in_order-reads : (w : ℕ) (r : ℕ → Reading) → ((content : ℕ) → InOrder (r content)) → InOrder (Reads false w r)
  unfolding OwnFirst
  in_order-reads w r all = all (c w)

  pub own-first : (x : List ℕ) (b : ℕ) (en : Bool) (p : Place) → OwnFirst (reading_at_place x b en p) c
  unfolding reading_at_place
  own-first x b en p =
      of-at InOrder false in_order-reads b en p.address _ (λ f. none-first (own_use x b en f) c (no_own-use x b en f))

  -- ---- only EX has a target

  -- there is no word of a target, or the instruction is EX
  abbrev Executes : Reading → Type 0
  Executes r = (length (words_read r c) ≤ own_words r c) ⊎ (is_execute (outcome r c).instr.instr ≡ true)

  executes-reads : (w : ℕ) (r : ℕ → Reading) → ((content : ℕ) → Executes (r content)) → Executes (Reads false w r)
  unfolding words_read own_words outcome
  executes-reads w r all = elim (all (c w)) [ inl few ↦ inl (omega arith) | inr ex ↦ inr ex ]

  -- the fetched instruction is `own`
  abbrev IsOf : Decoded → Reading → Type 0
  IsOf own r = (outcome r c).instr ≡ own

  is_of-reads : (own : Decoded) (w : ℕ) (r : ℕ → Reading) → ((content : ℕ) → IsOf own (r content)) → IsOf own (Reads true w r)
  unfolding outcome
  is_of-reads own w r all = all (c w)

  is_of-finds : (own : Decoded) (f : FoundInstruction) → IsOf own (Finds (with_target own f))
  unfolding outcome
  is_of-finds own f = refl

  executes-alone : (f : FoundInstruction) → Executes (Finds (fetched_alone f))
  unfolding words_read own_words
  executes-alone f = inl (omega arith)

  executes-use_if : (b : Bool) (r : Reading) (f : FoundInstruction) → is_execute f.decoded.instr ≡ b → IsOf f.decoded r
      → Executes (if b then r else Finds (fetched_alone f))
  executes-use_if true r f e is = inr (ap (λ (d : Decoded). is_execute d.instr) is ∙ e)
  executes-use_if false r f e is = executes-alone f

  executes-use : (x : List ℕ) (b : ℕ) (en : Bool) (f : FoundInstruction) → Executes (own_use x b en f)
  unfolding own_use
  executes-use x b en own =
      executes-use_if (is_execute own.decoded.instr) _ own refl
      (of-at (IsOf own.decoded) true (is_of-reads own.decoded) b en (effective x own.decoded.instr / 32) _ (is_of-finds own.decoded))

  pub targets-execute : (x : List ℕ) (b : ℕ) (en : Bool) (p : Place)
      → (length (words_read (reading_at_place x b en p) c) ≤ own_words (reading_at_place x b en p) c)
      ⊎ (is_execute (outcome (reading_at_place x b en p) c).instr.instr ≡ true)
  unfolding reading_at_place
  targets-execute x b en p = of-at Executes false executes-reads b en p.address _ (executes-use x b en)
