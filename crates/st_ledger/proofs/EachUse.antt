-- A property of each word that an entry uses, from the kinds of words.
use Rattle.st_ledger.proofs.Common.{zero, suc, Bool, nat_lt, if◌then◌else◌, Option, None, Some, All, ◌≡◌, ℕ, ◌+◌, ◌-◌, ◌≤◌, ◌<◌, max, List, [], ◌∷◌, ◌++◌, refl, append_assoc, arith, length-append, cond_both, All-nil, All-cons, All-append, words_of_storage, tick_of, Words, wanted_from, words_tick, tick_a, tick_p, bus_a, operands, fetch_word, fetch_words, read_word, read_words, request_inside, Bus, Entry, Fetching, IssueState, Past, Instruction, Index, Operand, Following, Register, Use, instruction_uses, fetch_uses, side_uses, register_uses, operand_uses, run_uses, data_uses, inside_uses, following_uses, prepared_uses, uses_of_entry, fetch_supply, storage_supply, uses, wishes, inside-told, following-told}
use Rattle.std.specs.Prelude.{false, true, length}
use Rattle.st_bits.specs.declared.register.TheConstants.{FIRST_STORAGE_WORD}
use Rattle.st_rows.specs.declared.entry.WordRun.{WordRun}
use Rattle.st_rows.specs.declared.entry.WordRuns.{WordRuns}

module _ (P : Use → Type 0) (ds : List ℕ) where
  each-word : (past : List Past) (from : ℕ) (s : Fetching) (w n : ℕ)
      → ((v : ℕ) → w ≤ v → v < w + n → (o : Option ℕ) (b : Bus) (want : ℕ) → P (record { role = Instruction; word = v; supply = fetch_supply o ds b v want }))
      → All P (instruction_uses ds past s from w n)
  unfolding instruction_uses uses wishes fetch_word
  each-word past from s w zero is = All-nil P
  each-word past from s w (suc n) is =
      All-cons P _ _ (is w (omega arith) (omega arith) (tick_of s.bus.held.words w) s.bus (max (max from s.answered) s.awaited))
      (each-word past from (fetch_word ds past s w from) (w + 1) n (λ v least most. is v (omega arith) (omega arith)))

  pub each-fetch : (f : IssueState) (e : Entry)
      → ((v : ℕ) → e.own.first ≤ v → v < e.own.first + e.own.len → (o : Option ℕ) (b : Bus) (want : ℕ) → P (record { role = Instruction; word = v; supply = fetch_supply o ds b v want }))
      → ((v : ℕ) → e.target.first ≤ v → v < e.target.first + e.target.len → (o : Option ℕ) (b : Bus) (want : ℕ) → P (record { role = Instruction; word = v; supply = fetch_supply o ds b v want }))
      → All P (fetch_uses ds f e)
  unfolding fetch_uses instruction_uses fetch_words
  each-fetch f e own target =
      let start : Fetching = record { bus = f.bus; answered = 0; awaited = 0 } in
      let behind = fetch_words ds f.past start (wanted_from f) e.own.first e.own.len in
      let late = max (wanted_from f) f.c in
      All-append P (instruction_uses ds f.past start (wanted_from f) e.own.first e.own.len) (instruction_uses ds f.past behind late e.target.first e.target.len)
      (each-word f.past (wanted_from f) start e.own.first e.own.len own)
      (each-word f.past late behind e.target.first e.target.len target)

  module _ (n : ℕ) (f : IssueState) (e : Entry) (register : (w : ℕ) → P (record { role = Operand; word = w; supply = Register }))
      (operand : (b : Bus) (w : ℕ) → P (record { role = Operand; word = w; supply = storage_supply ds f.past b w (tick_p ds n f e) }))
      (following : (b : Bus) (w : ℕ) → P (record { role = Following; word = w; supply = fetch_supply (tick_of b.held.words w) ds b w (tick_p ds n f e) })) where
    each-register : (w k : ℕ) → All P (register_uses w k)
    unfolding register_uses
    each-register w zero = All-nil P
    each-register w (suc k) = All-cons P _ _ (register w) (each-register (w + 1) k)

    each-operand : (s : Fetching) (w k : ℕ) → All P (operand_uses ds f.past s (tick_p ds n f e) w k)
    unfolding operand_uses uses wishes read_word
    each-operand s w zero = All-nil P
    each-operand s w (suc k) = All-cons P _ _ (operand s.bus w) (each-operand (read_word ds f.past s w (tick_p ds n f e)) (w + 1) k)

    each-run : (s : Fetching) (w k : ℕ) (run : WordRun) → All P (run_uses ds f.past s (tick_p ds n f e) w k run)
    each-run s w k run =
        All-append P (register_uses w (k - run.len)) (operand_uses ds f.past s (tick_p ds n f e) run.first run.len)
        (each-register w (k - run.len)) (each-operand s run.first run.len)

    each-data : (b : Bus) (reads : Words) (runs : WordRuns) → All P (data_uses ds f.past b (tick_p ds n f e) reads runs)
    unfolding data_uses
    each-data b reads runs =
        let p = tick_p ds n f e in
        let begun : Fetching = record { bus = b; answered = p; awaited = 0 } in
        let one = read_words ds f.past begun p runs.one.first runs.one.len in
        All-append P (run_uses ds f.past begun p reads.first reads.len runs.one) (run_uses ds f.past one p reads.first2 reads.len2 runs.two)
        (each-run begun reads.first reads.len runs.one) (each-run one reads.first2 reads.len2 runs.two)

    each-inside : (b : Bus) (w : ℕ) → All P (inside_uses ds b w (tick_p ds n f e))
    each-inside b w = rw (inside-told ds b w (tick_p ds n f e)) (cond_both (nat_lt w words_of_storage) _ _ (λ xs. All P xs)
        (λ y. All-cons P _ [] (following b w) (All-nil P)) (λ m. All-nil P))

    each-following : (b : Bus) → All P (following_uses ds b e (tick_p ds n f e))
    each-following b =
        let w = e.own.first + e.own.len in
        let behind = request_inside ds b w (tick_p ds n f e) in
        rw (following-told ds b e (tick_p ds n f e)) (cond_both e.follows _ _ (λ xs. All P xs)
        (λ y. All-append P (inside_uses ds b w (tick_p ds n f e)) (inside_uses ds behind (w + 1) (tick_p ds n f e)) (each-inside b w) (each-inside behind (w + 1)))
        (λ m. All-nil P))

    -- the property of the words from the entry's preparation on
    pub each-prepared : (reads : Words) → All P (prepared_uses ds n f e reads)
    each-prepared reads =
        All-append P (data_uses ds f.past (bus_a ds f e) (tick_p ds n f e) reads e.reads) (following_uses ds (operands ds n f e).bus e (tick_p ds n f e))
        (each-data (bus_a ds f e) reads e.reads) (each-following (operands ds n f e).bus)

    module _ (side_register : (w : ℕ) → P (record { role = Index; word = w; supply = Register }))
        (index : (b : Bus) (w : ℕ) → P (record { role = Index; word = w; supply = storage_supply ds f.past b w (tick_a ds f e) })) where
      side-if : (low : Bool) (b : Bus) (w : ℕ)
          → All P (record { role = Index; word = w; supply = if low then Register else storage_supply ds f.past b w (tick_a ds f e) } ∷ [])
      side-if true b w = All-cons P _ [] (side_register w) (All-nil P)
      side-if false b w = All-cons P _ [] (index b w) (All-nil P)

      each-side : (b : Bus) (side : Option ℕ) → All P (side_uses ds f.past b side (tick_a ds f e))
      unfolding side_uses uses
      each-side b None = All-nil P
      each-side b (Some w) = side-if (nat_lt w FIRST_STORAGE_WORD) b w

      -- the property of the words after the instruction words
      pub each-other : (side : Option ℕ) (reads : Words)
          → All P (side_uses ds f.past (words_tick ds f e).bus side (tick_a ds f e) ++ prepared_uses ds n f e reads)
      each-other side reads =
          All-append P (side_uses ds f.past (words_tick ds f e).bus side (tick_a ds f e)) (prepared_uses ds n f e reads)
          (each-side (words_tick ds f e).bus side) (each-prepared reads)

-- ---- the number of instruction words

pub words-length : (ds : List ℕ) (past : List Past) (from : ℕ) (s : Fetching) (w n : ℕ) → length (instruction_uses ds past s from w n) ≡ n
unfolding instruction_uses uses wishes fetch_word
words-length ds past from s w zero = refl
words-length ds past from s w (suc n) = omega (arith, words-length ds past from (fetch_word ds past s w from) (w + 1) n)

pub fetch-length : (ds : List ℕ) (f : IssueState) (e : Entry) → length (fetch_uses ds f e) ≡ e.own.len + e.target.len
unfolding fetch_uses instruction_uses fetch_words
fetch-length ds f e =
    let start : Fetching = record { bus = f.bus; answered = 0; awaited = 0 } in
    let behind = fetch_words ds f.past start (wanted_from f) e.own.first e.own.len in
    let late = max (wanted_from f) f.c in
    omega (
      arith,
      length-append (instruction_uses ds f.past start (wanted_from f) e.own.first e.own.len) (instruction_uses ds f.past behind late e.target.first e.target.len),
      words-length ds f.past (wanted_from f) start e.own.first e.own.len,
      words-length ds f.past late behind e.target.first e.target.len,
    )

-- ---- the words of an entry in two parts

unfoldable pub other_uses : List ℕ → ℕ → IssueState → Entry → Option ℕ → Words → List Use
other_uses ds n f e side reads = side_uses ds f.past (words_tick ds f e).bus side (tick_a ds f e) ++ prepared_uses ds n f e reads

pub two-parts : (ds : List ℕ) (n : ℕ) (f : IssueState) (e : Entry) (side : Option ℕ) (reads : Words)
    → uses_of_entry ds n f e side reads ≡ fetch_uses ds f e ++ other_uses ds n f e side reads
unfolding uses_of_entry other_uses
two-parts ds n f e side reads = append_assoc (fetch_uses ds f e) _ _
