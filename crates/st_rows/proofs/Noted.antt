-- The log after the reads of an entry, part by part.
use Rattle.st_rows.proofs.Common.{◌≡◌, ℕ, zero, suc, true, ◌+◌, ◌-◌, ◌≤◌, List, [], ◌∷◌, ◌++◌, refl, sym, ap, ◌∙◌, arith, data_asked, operands_asked, runs_asked, inside_asked, following_asked, bus_after_reads, Read, after_one, log_after_reads, read_word, read_words, request_inside, Bus, Entry, WordRuns, Made, Past, Fetching}
use Rattle.st_rows.proofs.Served.{served-data, served-inside, served-operands}
use Rattle.st_rows.proofs.UseLemmas.{following-is}

module _ (ds : List ℕ) where
  pub noted-append : (xs ys : List Read) (b : Bus) (log : List Made) → log_after_reads ds (xs ++ ys) b log ≡ log_after_reads ds ys (bus_after_reads ds xs b) (log_after_reads ds xs b log)
  unfolding log_after_reads bus_after_reads
  noted-append [] ys b log = refl
  noted-append (x ∷ xs) ys b log = noted-append xs ys (after_one ds b x) _

  -- the reads of a part, followed by those on the bus after it
  pub noted-two : (xs ys : List Read) (b d : Bus) (log new : List Made) → d ≡ bus_after_reads ds xs b → new ≡ log_after_reads ds xs b log
      → log_after_reads ds ys d new ≡ log_after_reads ds (xs ++ ys) b log
  noted-two xs ys b d log new is made = rw (is, made) (sym (noted-append xs ys b log))

  module _ (past : List Past) (p : ℕ) where
    -- the read of one operand word of a run, followed by the rest
    pub operand-turn : (w : ℕ) (s t : Fetching) (n : ℕ) (log new : List Made) → t ≡ read_word ds past s w p → new ≡ log_after_reads ds (data_asked past w p) s.bus log → 1 ≤ n
        → log_after_reads ds (operands_asked past p (w + 1) (n - 1)) t.bus new ≡ log_after_reads ds (operands_asked past p w n) s.bus log
    unfolding operands_asked
    operand-turn w s t zero log new is made some = let no : ⊥ = omega arith in absurd no
    operand-turn w s t (suc n) log new is made some =
        let e : suc n - 1 ≡ n = omega arith in
        let bus : t.bus ≡ bus_after_reads ds (data_asked past w p) s.bus = ap (λ (x : Fetching). x.bus) is ∙ sym (served-data ds past w p s) in
        rw e (noted-two (data_asked past w p) (operands_asked past p (w + 1) n) s.bus t.bus log new bus made)

    -- the reads of two operand words of a run, followed by the rest
    pub operands-two : (w : ℕ) (s t u : Fetching) (n : ℕ) (log one two : List Made) → t ≡ read_word ds past s w p → u ≡ read_word ds past t (w + 1) p
        → one ≡ log_after_reads ds (data_asked past w p) s.bus log → two ≡ log_after_reads ds (data_asked past (w + 1) p) t.bus one → 2 ≤ n
        → log_after_reads ds (operands_asked past p (w + 2) (n - 2)) u.bus two ≡ log_after_reads ds (operands_asked past p w n) s.bus log
    operands-two w s t u n log one two is then_is made then_made some =
        let further : w + 2 ≡ w + 1 + 1 = omega arith in
        let less : n - 2 ≡ n - 1 - 1 = omega arith in
        rw (further, less)
        (operand-turn (w + 1) t u (n - 1) one two then_is then_made (omega arith) ∙ operand-turn w s t n log one is made (omega arith))

    -- the read of a single operand word
    pub operand-one : (w : ℕ) (s t : Fetching) (n : ℕ) (log new : List Made) → t ≡ read_word ds past s w p → new ≡ log_after_reads ds (data_asked past w p) s.bus log → n ≡ 1
        → new ≡ log_after_reads ds (operands_asked past p w n) s.bus log
    unfolding operands_asked log_after_reads
    operand-one w s t n log new is made one =
        let last = operand-turn w s t n log new is made (omega arith) in
        let none : n - 1 ≡ 0 = omega arith in
        rw none at last

  -- the reads of the first run, followed by those of the second
  pub runs-noted : (past : List Past) (p : ℕ) (reads : WordRuns) (s t : Fetching) (log one two : List Made)
      → t ≡ read_words ds past s p reads.one.first reads.one.len
      → one ≡ log_after_reads ds (operands_asked past p reads.one.first reads.one.len) s.bus log
      → two ≡ log_after_reads ds (operands_asked past p reads.two.first reads.two.len) t.bus one
      → two ≡ log_after_reads ds (runs_asked past reads p) s.bus log
  runs-noted past p reads s t log one two is one_is two_is =
      two_is
      ∙ noted-two (operands_asked past p reads.one.first reads.one.len) (operands_asked past p reads.two.first reads.two.len) s.bus t.bus log one
      (ap (λ (x : Fetching). x.bus) is ∙ sym (served-operands ds past p s reads.one.first reads.one.len)) one_is

  -- the reads of both following words
  pub both-noted : (b d : Bus) (e : Entry) (p w : ℕ) (log one two : List Made) → e.follows ≡ true → w ≡ e.own.first + e.own.len
      → d ≡ request_inside ds b w p → one ≡ log_after_reads ds (inside_asked b w p) b log → two ≡ log_after_reads ds (inside_asked d (w + 1) p) d one
      → two ≡ log_after_reads ds (following_asked ds b e p) b log
  both-noted b d e p w log one two follows here is one_is two_is =
      rw (following-is ds b e p, follows, ← here)
      (two_is
      ∙ rw is (noted-two (inside_asked b w p) (inside_asked (request_inside ds b w p) (w + 1) p) b (request_inside ds b w p) log one
      (sym (served-inside ds b w p)) one_is))
