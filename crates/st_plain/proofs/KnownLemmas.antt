-- What is known of an entry that is planned, where it asks for following words.
use Rattle.st_plain.proofs.Common.{if◌then◌else◌, is_none, nat_lt, ◌≡◌, ℕ, ◌+◌, ◌-◌, ◌/◌, ◌≤◌, true, false, ◌==◌, List, [], ◌∷◌, length, Option, None, Some, refl, sym, ◌∙◌, ap, arith, and_parts, nat_tests, length-drop, Machine, word, needs, decode_context, resolved, resolved_at, entry_at, suppressed_entry, prepared_by, prepared_entry, plan, Needs, Prepared, Entry, run_of, reading_at, instruction_words, own_count, entry, code_of, code_found, side_at, executes_at, executed_code, known_at, Code, Known}
use Rattle.st_prep.specs.Fetch.{place_of, index_words, reading_by, words_fetched}
use Rattle.std.proofs.Common.{Bool}
use Rattle.st_format.specs.declared.instruction.Decoded.{Decoded}
use Rattle.st_format.specs.Formats.{decoded_entry}
use Rattle.st_state.specs.Boundary.{forbidden_by}
use Rattle.st_state.specs.declared.protection.Access.TheVariants.{Fetch}
use Rattle.st_prep.specs.Checks.{effective_instr}
use Rattle.st_prep.specs.Reading.{Reading, Finds, Reads, Continuation, outcome, words_read, own_words, half_of, with_second, with_first, read_after, instruction_at, is_execute, with_target, fetched_alone, own_use, reading_at_place}
use Rattle.st_prep.specs.SpeculativeChanges.{effective}
use Rattle.st_prep.specs.declared.entries.Place.{Place}
use Rattle.st_prep.specs.declared.entries.Fetched.{Fetched}
use Rattle.st_prep.specs.declared.entries.ResolvedEntry.{ResolvedEntry}
use Rattle.st_prep.specs.declared.fetching.FoundInstruction.{FoundInstruction}
use Rattle.st_prep.proofs.Choices.{of_choice}

-- ---- what holds of what each reading goes on with holds of the reading of an instruction

module _ (t : Bool) (P : Reading → Type 0) (c : ℕ → ℕ) (more : (w : ℕ) (r : ℕ → Reading) → P (r (c w)) → P (Reads t w r)) (k : Continuation)
    (each : (f : FoundInstruction) → P (k f)) where
  by-second : (f : Option ℕ) (first h v content : ℕ) → P (with_second f t first h v content k)
  by-second (Some i) first h v content = each _
  by-second None first h v content = of_choice P (h / 2 == v) _ _ (each _) (more (h / 2) _ (each _))

  by-first : (b : ℕ) (en : Bool) (h content : ℕ) → P (with_first t b en h content k)
  unfolding with_first
  by-first b en h content =
      of_choice P ((decoded_entry (half_of content h) 0).halves == 2) _ _
      (by-second (forbidden_by b en Fetch ((h + 1) / 2)) (half_of content h) (h + 1) (h / 2) content) (each _)

  by-after : (f : Option ℕ) (b : ℕ) (en : Bool) (h : ℕ) → P (read_after f t b en h k)
  by-after (Some i) b en h = each _
  by-after None b en h = more (h / 2) _ (by-first b en h (c (h / 2)))

-- ---- EX is what has a target

module _ (c : ℕ → ℕ) where
  -- of EX one word more than its own is read, of another instruction none
  record IsMarked (r : Reading) : Type 0 where
    execute : is_none (outcome r c).fault ≡ true → is_execute (outcome r c).instr.instr ≡ true → own_words r c + 1 ≤ length (words_read r c)
    plain : is_none (outcome r c).fault ≡ true → is_execute (outcome r c).instr.instr ≡ false → own_words r c ≡ length (words_read r c)

  marked-more : (w : ℕ) (r : ℕ → Reading) → IsMarked (r (c w)) → IsMarked (Reads false w r)
  unfolding outcome words_read own_words
  marked-more w r h = record {
    execute = λ allowed it. let few = h.execute allowed it in omega (arith, few);
    plain = λ allowed it. let same = h.plain allowed it in omega (arith, same);
  }

  -- a part of the target
  record IsTarget (d : Decoded) (r : Reading) : Type 0 where
    instr : (outcome r c).instr ≡ d
    few : own_words r c ≤ length (words_read r c)

  target-more : (d : Decoded) (w : ℕ) (r : ℕ → Reading) → IsTarget d (r (c w)) → IsTarget d (Reads true w r)
  unfolding outcome words_read own_words
  target-more d w r h = record { instr = h.instr; few = omega (arith, h.few) }

  target-found : (d : Decoded) (f : FoundInstruction) → IsTarget d (Finds (with_target d f))
  unfolding outcome words_read own_words
  target-found d f = record { instr = refl; few = omega arith }

  marked-target : (f : Option ℕ) (b : ℕ) (en : Bool) (h : ℕ) (d : Decoded) → is_execute d.instr ≡ true
      → IsMarked (read_after f true b en h (λ target. Finds (with_target d target)))
  unfolding outcome words_read own_words
  marked-target (Some i) b en h d is = record { execute = λ allowed it. cc; plain = λ allowed it. cc }
  marked-target None b en h d is =
      let rest = by-first true (IsTarget d) c (target-more d) (λ target. Finds (with_target d target)) (target-found d) b en h (c (h / 2)) in
      record {
        execute = λ allowed it. omega (arith, rest.few);
        plain = λ allowed it. let no : true ≡ false = sym is ∙ ap (λ (i : Decoded). is_execute i.instr) (sym rest.instr) ∙ it in cc;
      }

  marked-by : (e : Bool) (x : List ℕ) (b : ℕ) (en : Bool) (own : FoundInstruction) → is_execute own.decoded.instr ≡ e
      → IsMarked (if e then instruction_at true b en (effective x own.decoded.instr / 32) (λ target. Finds (with_target own.decoded target)) else Finds (fetched_alone own))
  unfolding instruction_at outcome words_read own_words
  marked-by true x b en own is = marked-target (forbidden_by b en Fetch (effective x own.decoded.instr / 32 / 2)) b en (effective x own.decoded.instr / 32) own.decoded is
  marked-by false x b en own is = record { execute = λ allowed it. cc; plain = λ allowed it. refl }

  marked-own : (x : List ℕ) (b : ℕ) (en : Bool) (own : FoundInstruction) → IsMarked (own_use x b en own)
  unfolding own_use
  marked-own x b en own = marked-by (is_execute own.decoded.instr) x b en own refl

  marked : (x : List ℕ) (b : ℕ) (en : Bool) (p : Place) → IsMarked (reading_at_place x b en p)
  unfolding reading_at_place instruction_at
  marked x b en p = by-after false IsMarked c marked-more (own_use x b en) (marked-own x b en) (forbidden_by b en Fetch (p.address / 2)) b en p.address

-- ---- an entry

len-run : (ws : List ℕ) → (run_of ws).len ≡ length ws
unfolding run_of
len-run [] = refl
len-run (w ∷ ws) = refl

no-fault : (o : Option ℕ) → is_none o ≡ true → o ≡ None
no-fault None h = refl
no-fault (Some i) h = cc

prepared-instr : (o : Option ℕ) (place : Place) (a : ResolvedEntry) (x : List ℕ) (r : Option ℕ) → (prepared_by o place a x r).instr ≡ a.instr
unfolding entry_at suppressed_entry
prepared-instr None place a x r = refl
prepared-instr (Some i) place a x r = refl

module _ (t : Option ℕ) (s : Machine) where
  plan-instr : (plan s t).instr ≡ effective_instr (words_fetched s (place_of s t))
  unfolding plan prepared_entry resolved resolved_at decode_context
  plan-instr = prepared-instr (resolved (decode_context s (place_of s t))).fault _ _ _ _

  allowed : (entry t s).follows ≡ true → is_none (words_fetched s (place_of s t)).fault ≡ true
  unfolding entry
  allowed e = (and_parts (is_none t) _ e).1

  target-len : (entry t s).target.len ≡ length (words_read (reading_at t s) (word s)) - own_words (reading_at t s) (word s)
  unfolding entry instruction_words own_count
  target-len = len-run _ ∙ length-drop (own_words (reading_at t s) (word s)) (words_read (reading_at t s) (word s))

  executes-by : (b : Bool) → is_execute (words_fetched s (place_of s t)).instr.instr ≡ b → is_none (words_fetched s (place_of s t)).fault ≡ true
      → nat_lt 0 (entry t s).target.len ≡ b
  unfolding words_fetched
  executes-by true is free =
      let more = (marked (word s) (index_words s) (word s 3) s.enabled (place_of s t)).execute free is in
      let len = target-len in
      grind (arith, nat_tests, more, len)
  executes-by false is free =
      let none = (marked (word s) (index_words s) (word s 3) s.enabled (place_of s t)).plain free is in
      let len = target-len in
      grind (arith, nat_tests, none, len)

  pub known-following : (e : Entry) (n : Needs) (p : Prepared) (k : Known) → e ≡ entry t s → n ≡ needs (decode_context s (place_of s t)) → p ≡ plan s t → e.follows ≡ true
      → k ≡ record { side = n.index_read; execute = nat_lt 0 e.target.len; code = Some (code_of p.instr) } → k ≡ known_at t s
  unfolding side_at executes_at executed_code
  known-following e n p k entry_is needed plan_is follows is =
      let free = allowed (ap (λ (x : Entry). x.follows) (sym entry_is) ∙ follows) in
      let executes : nat_lt 0 e.target.len ≡ is_execute (words_fetched s (place_of s t)).instr.instr =
      ap (λ (x : Entry). nat_lt 0 x.target.len) entry_is ∙ executes-by (is_execute (words_fetched s (place_of s t)).instr.instr) refl free in
      let instr : p.instr ≡ effective_instr (words_fetched s (place_of s t)) = ap (λ (q : Prepared). q.instr) plan_is ∙ plan-instr in
      is ∙ rw (needed, executes, instr, no-fault (words_fetched s (place_of s t)).fault free) refl

-- ---- what is fetched once more

abbrev pub known_with : Option ℕ → Bool → Option Code → Known
known_with side execute code = record { side = side; execute = execute; code = code }

pub fetched-anew : (s : Machine) (t : Option ℕ) (p : Place) (x : List ℕ) (side : Option ℕ) (f : Fetched) (b : Bool) (code : Option Code) → x ≡ index_words s → p ≡ place_of s t
    → f ≡ outcome (reading_by x s p) (word s) → b ≡ is_execute f.instr.instr → code ≡ code_found f
    → known_with side b code ≡ known_with side (is_execute (words_fetched s (place_of s t)).instr.instr) (code_found (words_fetched s (place_of s t)))
unfolding words_fetched
fetched-anew s t p x side f b code words place found executes codes =
    let is : f ≡ outcome (reading_by (index_words s) s (place_of s t)) (word s) = found ∙ rw (words, place) refl in
    rw (executes, codes, is) refl

pub known-anew : (t : Option ℕ) (s : Machine) (n : Needs) (k : Known) → n ≡ needs (decode_context s (place_of s t))
    → k ≡ record { side = n.index_read; execute = is_execute (words_fetched s (place_of s t)).instr.instr; code = code_found (words_fetched s (place_of s t)) } → k ≡ known_at t s
unfolding side_at executes_at executed_code
known-anew t s n k needed is = is ∙ rw needed refl
