-- Lemmas on the lines of tables.
use Rattle.st_tally.proofs.Common.{length, nat_eq, Result, Ok, Err, IsErr, ◌≡◌, ℕ, zero, suc, ◌+◌, ◌-◌, ◌≤◌, ◌<◌, true, false, List, [], ◌∷◌, ◌++◌, refl, sym, ◌∙◌, ap, subst, arith, nat_tests, LinesSoFar, lines_none, lines_more, lines_failed, lines_then, lines_cut, lines_for_next, lines_for_whole, wrote_nothing, sum_at, stages, sums_by, sum_lines, Stage, Instruction, Index, Operand, sums-same, waited_at, wait_sums_by, is_parted, Stall, Turn, Bank, Storage, headings, slot_lines, reason_sum_line, tables_lines, TalliedRow, rows_of_card, rows_for, stage_ticks, wait_ticks, mispredicted_rows, level_rows, level_ticks, card_sum, reason_sum, IsCardSum, IsReasonSum, IsTally, card_line, card_lines_by, card_lines, reason_line_of, lines_by_heading, count_lines, table_lines, Heading, CardSum, ReasonSum, Tables}
use Rattle.st_io.specs.Output.{OutputState}
use Rattle.st_io.specs.declared.Failed.{Failed}
use Rattle.st_io.specs.Lines.{WritesLines, lines_for}
use Rattle.st_lines.specs.WaitLines.{wait_sum_lines}

waits-same : (f g : Stage → Stall → ℕ) → ((r : Stage) (s : Stall) → is_parted r ≡ true → f r s ≡ g r s) → wait_sums_by f ≡ wait_sums_by g
waits-same f g each =
    rw (
      each Instruction Turn refl,
      each Instruction Bank refl,
      each Instruction Storage refl,
      each Index Bank refl,
      each Index Storage refl,
      each Operand Turn refl,
      each Operand Bank refl,
      each Operand Storage refl,
    ) refl

slot-same : (k : ℕ) (xs : List TalliedRow) (sum : CardSum) → IsCardSum (rows_of_card k xs) sum → slot_lines k sum ≡ card_lines xs k
unfolding card_lines card_lines_by
slot-same k xs sum is =
    let ys : List TalliedRow = rows_of_card k xs in
    let rows : sum.rows ≡ length ys = is.rows in
    let stages_of : sums_by (λ s. sum_at s sum.sums) stages ≡ sums_by (λ s. stage_ticks s ys) stages =
    sums-same (λ s. sum_at s sum.sums) (λ s. stage_ticks s ys) stages is.stages in
    let waits_of : wait_sums_by (λ r s. waited_at r s sum.waits) ≡ wait_sums_by (λ r s. wait_ticks r s ys) =
    waits-same (λ r s. waited_at r s sum.waits) (λ r s. wait_ticks r s ys) is.waits in
    rw (rows, stages_of, waits_of) refl

lines-same : (f g : ℕ → List (List ℕ)) (n from : ℕ) → ((k : ℕ) → k < from + n → f k ≡ g k) → lines_for f n from ≡ lines_for g n from
unfolding lines_for
lines-same f g zero from each = refl
lines-same f g (suc n) from each =
    ap (λ ls. ls ++ lines_for f n (from + 1)) (each from (omega arith))
    ∙ ap (λ ls. g from ++ ls) (lines-same f g n (from + 1) (λ k low. each k (omega (arith, low))))

headings-same : (f g : Heading → List ℕ) (hs : List Heading) → ((h : Heading) → f h ≡ g h) → lines_by_heading f hs ≡ lines_by_heading g hs
unfolding lines_by_heading
headings-same f g [] each = refl
headings-same f g (h ∷ hs) each =
    ap (λ l. l ∷ lines_by_heading f hs) (each h) ∙ ap (λ ls. g h ∷ ls) (headings-same f g hs each)

reason-same : (h : Heading) (xs : List TalliedRow) (sum : ReasonSum) → IsReasonSum (rows_for h xs) sum → reason_sum_line h sum ≡ reason_line_of xs h
reason-same h xs sum is = rw (is.rows, is.ticks, is.late) refl

counts-same : (xs : List TalliedRow) (t : Tables) (dropped : ℕ) → IsTally xs t
    → count_lines t.mispredicted t.level_rows t.level_ticks dropped ≡ count_lines (length (mispredicted_rows xs)) (length (level_rows xs)) (level_ticks xs) dropped
counts-same xs t dropped is = rw (is.mispredicted, is.level_rows, is.level_ticks) refl

-- the lines of tables are those of their rows
pub tables-same : (xs : List TalliedRow) (t : Tables) (dropped : ℕ) → IsTally xs t → tables_lines t dropped ≡ table_lines (length t.cards.items) xs dropped
unfolding table_lines
tables-same xs t dropped is =
    ap (λ ls. (ls ++ lines_by_heading (λ h. reason_sum_line h (reason_sum t h)) headings) ++ count_lines t.mispredicted t.level_rows t.level_ticks dropped)
    (lines-same (λ k. slot_lines k (card_sum t k)) (card_lines xs) (length t.cards.items) 0
    (λ k low. slot-same k xs (card_sum t k) (is.cards k (omega (arith, low)))))
    ∙ ap (λ ls. (lines_for (card_lines xs) (length t.cards.items) 0 ++ ls) ++ count_lines t.mispredicted t.level_rows t.level_ticks dropped)
    (headings-same (λ h. reason_sum_line h (reason_sum t h)) (reason_line_of xs) headings (λ h. reason-same h xs (reason_sum t h) (is.reasons h)))
    ∙ ap (λ ls. (lines_for (card_lines xs) (length t.cards.items) 0 ++ lines_by_heading (reason_line_of xs) headings) ++ ls) (counts-same xs t dropped is)

-- ---- headings in sequence

headings-first : (f : Heading → List ℕ) (hs xs : List Heading) (h : Heading) → hs ≡ h ∷ xs → lines_by_heading f hs ≡ (f h ∷ []) ++ lines_by_heading f xs
unfolding lines_by_heading
headings-first f hs xs h is = rw is refl

pub headings_cut : (s u : OutputState) (f : Heading → List ℕ) (hs xs : List Heading) (h : Heading) (e : Failed) (r : Result (Unit {0}) Failed) → IsErr r
    → hs ≡ h ∷ xs → WritesLines s u (f h ∷ []) (Err e) → WritesLines s u (lines_by_heading f hs) r
headings_cut s u f hs xs h e r failed is w =
    subst (λ ls. WritesLines s u ls r) (sym (headings-first f hs xs h is)) (lines_cut s u (f h ∷ []) (lines_by_heading f xs) e r failed w)

pub headings_then : (s v u : OutputState) (f : Heading → List ℕ) (hs xs : List Heading) (h : Heading) (o : Unit {0}) (r : Result (Unit {0}) Failed) → hs ≡ h ∷ xs
    → WritesLines s v (f h ∷ []) (Ok o) → WritesLines v u (lines_by_heading f xs) r → WritesLines s u (lines_by_heading f hs) r
headings_then s v u f hs xs h o r is w k =
    subst (λ ls. WritesLines s u ls r) (sym (headings-first f hs xs h is)) (lines_then s v u (f h ∷ []) (lines_by_heading f xs) o r w k)

pub headings_none : (s : OutputState) (f : Heading → List ℕ) (hs : List Heading) (o : Unit {0}) → hs ≡ [] → WritesLines s s (lines_by_heading f hs) (Ok o)
unfolding lines_by_heading
headings_none s f hs o is = subst (λ xs. WritesLines s s (lines_by_heading f xs) (Ok o)) (sym is) (record { ok = wrote_nothing s; err = tt })

-- ---- a card with rows

slot-some : (k : ℕ) (sum : CardSum) → 1 ≤ sum.rows → slot_lines k sum ≡ (card_line k sum.rows ∷ [])
    ++ (sum_lines (sums_by (λ s. sum_at s sum.sums) stages) ++ wait_sum_lines (wait_sums_by (λ r s. waited_at r s sum.waits)))
unfolding card_lines_by
slot-some k sum some = let not : nat_eq sum.rows 0 ≡ false = grind (arith, nat_tests) in rw not refl

pub slot_cut : (s u : OutputState) (k : ℕ) (sum : CardSum) (e : Failed) (r : Result (Unit {0}) Failed) → IsErr r → 1 ≤ sum.rows
    → WritesLines s u (card_line k sum.rows ∷ []) (Err e) → WritesLines s u (slot_lines k sum) r
slot_cut s u k sum e r failed some w =
    subst (λ ls. WritesLines s u ls r) (sym (slot-some k sum some)) (lines_cut s u (card_line k sum.rows ∷ []) _ e r failed w)

pub slot_cut_later : (s v u : OutputState) (k : ℕ) (sum : CardSum) (o : Unit {0}) (e : Failed) (r : Result (Unit {0}) Failed) → IsErr r → 1 ≤ sum.rows
    → WritesLines s v (card_line k sum.rows ∷ []) (Ok o) → WritesLines v u (sum_lines (sums_by (λ s. sum_at s sum.sums) stages)) (Err e)
    → WritesLines s u (slot_lines k sum) r
slot_cut_later s v u k sum o e r failed some w x =
    subst (λ ls. WritesLines s u ls r) (sym (slot-some k sum some))
    (lines_then s v u (card_line k sum.rows ∷ []) _ o r w
    (lines_cut v u (sum_lines (sums_by (λ s. sum_at s sum.sums) stages)) (wait_sum_lines (wait_sums_by (λ r s. waited_at r s sum.waits))) e r failed x))

pub slot_then : (s v w u : OutputState) (k : ℕ) (sum : CardSum) (o p : Unit {0}) (r : Result (Unit {0}) Failed) → 1 ≤ sum.rows
    → WritesLines s v (card_line k sum.rows ∷ []) (Ok o) → WritesLines v w (sum_lines (sums_by (λ s. sum_at s sum.sums) stages)) (Ok p)
    → WritesLines w u (wait_sum_lines (wait_sums_by (λ r s. waited_at r s sum.waits))) r → WritesLines s u (slot_lines k sum) r
slot_then s v w u k sum o p r some x y z =
    subst (λ ls. WritesLines s u ls r) (sym (slot-some k sum some))
    (lines_then s v u (card_line k sum.rows ∷ []) _ o r x
    (lines_then v w u (sum_lines (sums_by (λ s. sum_at s sum.sums) stages)) (wait_sum_lines (wait_sums_by (λ r s. waited_at r s sum.waits))) p r y z))

-- ---- all cards

abbrev pub slot_at : Tables → ℕ → List (List ℕ)
slot_at t k = slot_lines k (card_sum t k)

-- the cards below k are written
pub record AreCardsWritten (s u : OutputState) (t : Tables) (k : ℕ) : Type 0 where
  pub most : k ≤ length t.cards.items
  pub written : LinesSoFar s u (lines_for (slot_at t) (length t.cards.items) 0) (lines_for (slot_at t) (length t.cards.items - k) k)

pub cards_start : (s : OutputState) (t : Tables) → AreCardsWritten s s t 0
cards_start s t = record {
  most = omega arith;
  written =
      let all : length t.cards.items ≡ length t.cards.items - 0 = omega arith in
      subst (λ n. LinesSoFar s s (lines_for (slot_at t) (length t.cards.items) 0) (lines_for (slot_at t) n 0)) all
      (lines_none s (lines_for (slot_at t) (length t.cards.items) 0));
}

pub cards_next : (s v u : OutputState) (t : Tables) (k : ℕ) (sum : CardSum) (o : Unit {0}) → AreCardsWritten s v t k → k < length t.cards.items
    → sum ≡ card_sum t k → WritesLines v u (slot_lines k sum) (Ok o) → AreCardsWritten s u t (k + 1)
cards_next s v u t k sum o is low at w = record {
  most = omega (arith, low);
  written =
      lines_more s v u (lines_for (slot_at t) (length t.cards.items) 0) (slot_at t k) (lines_for (slot_at t) (length t.cards.items - (k + 1)) (k + 1))
      (lines_for_next s v (lines_for (slot_at t) (length t.cards.items) 0) (slot_at t) (length t.cards.items) k low is.written)
      (subst (λ (x : CardSum). WritesLines v u (slot_lines k x) (Ok o)) at w).ok;
}

pub cards_fail : (s v u : OutputState) (t : Tables) (k : ℕ) (sum : CardSum) (e : Failed) (r : Result (Unit {0}) Failed) → IsErr r → AreCardsWritten s v t k
    → k < length t.cards.items → sum ≡ card_sum t k → WritesLines v u (slot_lines k sum) (Err e)
    → WritesLines s u (lines_for (slot_at t) (length t.cards.items) 0) r
cards_fail s v u t k sum e r failed is low at w =
    lines_failed s v u (lines_for (slot_at t) (length t.cards.items) 0) (slot_at t k) (lines_for (slot_at t) (length t.cards.items - (k + 1)) (k + 1)) r failed
    (lines_for_next s v (lines_for (slot_at t) (length t.cards.items) 0) (slot_at t) (length t.cards.items) k low is.written)
    (subst (λ (x : CardSum). WritesLines v u (slot_lines k x) (Err e)) at w).err

pub cards_end : (s u : OutputState) (t : Tables) (k : ℕ) (o : Unit {0}) → AreCardsWritten s u t k → length t.cards.items ≤ k
    → WritesLines s u (lines_for (slot_at t) (length t.cards.items) 0) (Ok o)
cards_end s u t k o is end = record {
  ok = lines_for_whole s u (lines_for (slot_at t) (length t.cards.items) 0) (slot_at t) (length t.cards.items) k end is.written;
  err = tt;
}
