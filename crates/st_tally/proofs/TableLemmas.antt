-- Lemmas on whole tables.
use Rattle.st_tally.proofs.Common.{if◌then◌else◌, not, nat_eq, length, get_or, Option, filter, ◌≡◌, ◌≢◌, ℕ, ◌+◌, ◌≤◌, ◌<◌, true, false, Bool, List, [], ◌∷◌, ◌++◌, inl, inr, sym, ◌∙◌, ap, subst, arith, cases_Bool, eqb_tells, length_push, sum_by_push, sum_at, AreWithin, Stage, Restart, Instruction, Address, Index, Preparing, Operand, Executing, Use, waited_at, AreWaitsWithin, AreWordsInTime, WaitTotals, lt-cases, Totals, EntryDone, IsCardSumWithin, IsReasonSumWithin, AreTablesWithin, AreTablesOfNone, IsInOrder, AddsCard, with_reason, sum_below, TalliedRow, card_by_origin, card_of, reason_of, has_level_wait, rows_of_card, rows_elsewhere, rows_for, stage_ticks, wait_ticks, lost_ticks, late_ticks, mispredicted_rows, level_rows, level_ticks, no_card_sum, card_sum, reason_sum, IsCardSum, IsReasonSum, IsTally, Heading, CardSum, ReasonSum, Tables}
use Rattle.st_ledger.proofs.AddedWaits.{shares-later}
use Rattle.st_tally.proofs.WaitSums.{waited-none}
use Rattle.st_tally.proofs.CardLemmas.{filter-some, filter-none, cards-more, others-more}
use Rattle.st_tally.proofs.ReasonLemmas.{reasons-more, reasons-within}
use Rattle.st_tally.proofs.SharedRows.{below-none}
use Rattle.st_tally.proofs.SlotLemmas.{stages-within, waits-within}

-- ---- counts

-- the number of rows that a test takes, with a row more
count-more : (p : TalliedRow → Bool) (xs : List TalliedRow) (x : TalliedRow) → length (filter p (xs ++ x ∷ [])) ≡ length (filter p xs) + (if p x then 1 else 0)
count-more p xs x = elim (cases_Bool (p x)) [
  | inl y ↦ ap length (filter-some p xs x y) ∙ length_push (filter p xs) x ∙ ap (λ (b : Bool). length (filter p xs) + (if b then 1 else 0)) (sym y)
  | inr n ↦ ap length (filter-none p xs x n) ∙ none (length (filter p xs)) ∙ ap (λ (b : Bool). length (filter p xs) + (if b then 1 else 0)) (sym n)
]
  where
    none : (n : ℕ) → n ≡ n + 0
    none n = omega arith

pub mispredicted-more : (xs : List TalliedRow) (x : TalliedRow) (old new : ℕ) → new ≡ old + (if x.done.mispredicted then 1 else 0)
    → old ≡ length (mispredicted_rows xs) → new ≡ length (mispredicted_rows (xs ++ x ∷ []))
unfolding mispredicted_rows
mispredicted-more xs x old new added is =
    added ∙ ap (λ n. n + (if x.done.mispredicted then 1 else 0)) is
    ∙ sym (count-more (λ (y : TalliedRow). y.done.mispredicted) xs x)

pub levels-more : (xs : List TalliedRow) (x : TalliedRow) (old new : ℕ) → new ≡ old + (if has_level_wait x then 1 else 0)
    → old ≡ length (level_rows xs) → new ≡ length (level_rows (xs ++ x ∷ []))
unfolding level_rows
levels-more xs x old new added is =
    added ∙ ap (λ n. n + (if has_level_wait x then 1 else 0)) is ∙ sym (count-more has_level_wait xs x)

pub level-ticks-more : (xs : List TalliedRow) (x : TalliedRow) (old new : ℕ) → new ≡ old + x.done.row.level_wait → old ≡ level_ticks xs
    → new ≡ level_ticks (xs ++ x ∷ [])
unfolding level_ticks
level-ticks-more xs x old new added is =
    added ∙ ap (λ n. n + x.done.row.level_wait) is ∙ sym (sum_by_push (λ (y : TalliedRow). y.done.row.level_wait) xs x)

pub count-within : (t u : ℕ) (b : Bool) (old new : ℕ) → t < u → new ≡ old + (if b then 1 else 0) → old ≤ t → new ≤ u
count-within t u true old new later added is = omega (arith, later, added, is)
count-within t u false old new later added is = omega (arith, later, added, is)

-- ---- bounds of the sums of cards

totals-later : (t u : ℕ) (sums : Totals) → t ≤ u → AreWithin t sums → AreWithin u sums
totals-later t u sums late is = record {
  restart = omega (arith, late, is.restart);
  instruction = omega (arith, late, is.instruction);
  address = omega (arith, late, is.address);
  index = omega (arith, late, is.index);
  preparing = omega (arith, late, is.preparing);
  operand = omega (arith, late, is.operand);
  executing = omega (arith, late, is.executing);
}

pub waits-later : (t u : ℕ) (sums : WaitTotals) → t ≤ u → AreWaitsWithin t sums → AreWaitsWithin u sums
waits-later t u sums late is = record {
  instruction = shares-later t u sums.instruction late is.instruction;
  index = shares-later t u sums.index late is.index;
  operand = shares-later t u sums.operand late is.operand;
}

card-later : (t u : ℕ) (sum : CardSum) → t ≤ u → IsCardSumWithin t sum → IsCardSumWithin u sum
card-later t u sum late is = record {
  rows = omega (arith, late, is.rows);
  sums = totals-later t u sum.sums late is.sums;
  waits = waits-later t u sum.waits late is.waits;
}

pub others-within : (d : EntryDone) (uses before : List Use) (n : ℕ) (old new : CardSum) → IsInOrder d → (card_by_origin d.origin < n → new ≡ old)
    → (n ≤ card_by_origin d.origin → AddsCard d uses before old new) → IsCardSumWithin d.before old → IsCardSumWithin d.row.ticks.c new
others-within d uses before n old new order kept adds is = elim (lt-cases (card_by_origin d.origin) n) [
  | inl y ↦ subst (IsCardSumWithin d.row.ticks.c) (sym (kept y.1)) (card-later d.before d.row.ticks.c old (omega (arith, order.later)) is)
  | inr m ↦ (adds m.1).within
]

pub cards-within : (d : EntryDone) (uses before : List Use) (old new : List CardSum) → IsInOrder d → length new ≡ length old
    → (card_by_origin d.origin < length old
    → AddsCard d uses before (get_or old (card_by_origin d.origin) no_card_sum) (get_or new (card_by_origin d.origin) no_card_sum))
    → ((k : ℕ) → k ≢ card_by_origin d.origin → get_or new k no_card_sum ≡ get_or old k no_card_sum)
    → ((k : ℕ) → k < length old → IsCardSumWithin d.before (get_or old k no_card_sum))
    → (k : ℕ) → k < length new → IsCardSumWithin d.row.ticks.c (get_or new k no_card_sum)
cards-within d uses before old new order size own others is k inside = elim (eqb_tells k (card_by_origin d.origin)) [
  | inl y ↦
      let at : k ≡ card_by_origin d.origin = y.1 in
      let adds : AddsCard d uses before (get_or old (card_by_origin d.origin) no_card_sum) (get_or new (card_by_origin d.origin) no_card_sum) =
      own (omega (arith, inside, size, at)) in
      subst (λ c. IsCardSumWithin d.row.ticks.c (get_or new c no_card_sum)) (sym at) adds.within
  | inr n ↦
      subst (IsCardSumWithin d.row.ticks.c) (sym (others k n.1))
      (card-later d.before d.row.ticks.c (get_or old k no_card_sum) (omega (arith, order.later)) (is k (omega (arith, inside, size))))
]

-- ---- a row more

-- the tables of a list with a row more
pub tally-more : (xs : List TalliedRow) (x : TalliedRow) (old new : Tables) (cards : List CardSum) (others : CardSum) (reasons : List ReasonSum)
    → 11 ≤ length old.reasons → new.cards.items ≡ cards → new.others ≡ others → new.reasons ≡ reasons → length cards ≡ length old.cards.items
    → (card_of x < length old.cards.items → AddsCard x.done x.uses x.before (card_sum old (card_of x)) (get_or cards (card_of x) no_card_sum))
    → ((k : ℕ) → k ≢ card_of x → get_or cards k no_card_sum ≡ card_sum old k) → (card_of x < length old.cards.items → others ≡ old.others)
    → (length old.cards.items ≤ card_of x → AddsCard x.done x.uses x.before old.others others) → reasons ≡ with_reason (reason_of x) x.done old.reasons
    → new.mispredicted ≡ old.mispredicted + (if x.done.mispredicted then 1 else 0)
    → new.level_rows ≡ old.level_rows + (if not (nat_eq x.done.row.level_wait 0) then 1 else 0) → new.level_ticks ≡ old.level_ticks + x.done.row.level_wait
    → IsTally xs old → IsTally (xs ++ x ∷ []) new
tally-more xs x old new cards others reasons long are rest named size own apart kept more added mispredicted rows ticks is = record {
  cards = λ k inside.
      subst (λ ys. IsCardSum (rows_of_card k (xs ++ x ∷ [])) (get_or ys k no_card_sum)) (sym are)
      (cards-more xs x old.cards.items cards size own apart is.cards k (subst (λ (ys : List CardSum). k < length ys) are inside));
  others =
      subst (λ n. IsCardSum (rows_elsewhere n (xs ++ x ∷ [])) new.others) (sym (ap length are ∙ size))
      (subst (IsCardSum (rows_elsewhere (length old.cards.items) (xs ++ x ∷ []))) (sym rest)
      (others-more (length old.cards.items) xs x old.others others kept more is.others));
  reasons = λ h. reasons-more xs x old.reasons new.reasons h long (named ∙ added) (is.reasons h);
  mispredicted = mispredicted-more xs x old.mispredicted new.mispredicted mispredicted is.mispredicted;
  level_rows = levels-more xs x old.level_rows new.level_rows rows is.level_rows;
  level_ticks = level-ticks-more xs x old.level_ticks new.level_ticks ticks is.level_ticks;
}

pub tables-within : (d : EntryDone) (o : Option Heading) (uses before : List Use) (old new : Tables) (cards : List CardSum) (others : CardSum) (reasons : List ReasonSum)
    → 11 ≤ length old.reasons → IsInOrder d → AreWordsInTime uses → AreWordsInTime before
    → new.cards.items ≡ cards → new.others ≡ others → new.reasons ≡ reasons → length cards ≡ length old.cards.items
    → (card_by_origin d.origin < length old.cards.items
    → AddsCard d uses before (card_sum old (card_by_origin d.origin)) (get_or cards (card_by_origin d.origin) no_card_sum))
    → ((k : ℕ) → k ≢ card_by_origin d.origin → get_or cards k no_card_sum ≡ card_sum old k)
    → (card_by_origin d.origin < length old.cards.items → others ≡ old.others)
    → (length old.cards.items ≤ card_by_origin d.origin → AddsCard d uses before old.others others) → reasons ≡ with_reason o d old.reasons
    → new.mispredicted ≡ old.mispredicted + (if d.mispredicted then 1 else 0) → new.level_rows ≡ old.level_rows + (if not (nat_eq d.row.level_wait 0) then 1 else 0)
    → AreTablesWithin d.before old → AreTablesWithin d.row.ticks.c new
tables-within d o uses before old new cards others reasons long order used earlier are rest named size own apart kept more added mispredicted rows is = record {
  cards = λ k inside.
      subst (λ (ys : List CardSum). IsCardSumWithin d.row.ticks.c (get_or ys k no_card_sum)) (sym are)
      (cards-within d uses before old.cards.items cards order size own apart is.cards k (subst (λ (ys : List CardSum). k < length ys) are inside));
  others =
      subst (IsCardSumWithin d.row.ticks.c) (sym rest)
      (others-within d uses before (length old.cards.items) old.others others order kept more is.others);
  stages = λ s.
      subst (λ (y : CardSum). sum_at s y.sums + sum_below (λ k. sum_at s (card_sum new k).sums) (length new.cards.items) ≤ d.row.ticks.c) (sym rest)
      (subst (λ (ys : List CardSum). sum_at s others.sums + sum_below (λ k. sum_at s (get_or ys k no_card_sum).sums) (length ys) ≤ d.row.ticks.c) (sym are)
      (stages-within d uses before old.cards.items cards old.others others order size own apart kept more s (is.stages s)));
  waits = λ r s parted.
      subst (λ (y : CardSum). waited_at r s y.waits + sum_below (λ k. waited_at r s (card_sum new k).waits) (length new.cards.items) ≤ d.row.ticks.c) (sym rest)
      (subst (λ (ys : List CardSum). waited_at r s others.waits + sum_below (λ k. waited_at r s (get_or ys k no_card_sum).waits) (length ys) ≤ d.row.ticks.c) (sym are)
      (waits-within d uses before old.cards.items cards old.others others order size own apart kept more r s parted used earlier (is.waits r s parted)));
  reasons = λ h. reasons-within o d old.reasons new.reasons h long order (named ∙ added) is.reasons;
  mispredicted = count-within d.before d.row.ticks.c d.mispredicted old.mispredicted new.mispredicted order.later mispredicted is.mispredicted;
  level_rows = count-within d.before d.row.ticks.c (not (nat_eq d.row.level_wait 0)) old.level_rows new.level_rows order.later rows is.level_rows;
}

-- tables that are within a tick are within a later one
pub tables-later : (t u : ℕ) (x : Tables) → t ≤ u → AreTablesWithin t x → AreTablesWithin u x
tables-later t u x late is = record {
  cards = λ k inside. card-later t u (card_sum x k) late (is.cards k inside);
  others = card-later t u x.others late is.others;
  stages = λ s. omega (arith, late, is.stages s);
  waits = λ r s parted. omega (arith, late, is.waits r s parted);
  reasons = λ h. record {
    rows = omega (arith, late, (is.reasons h).rows);
    ticks = omega (arith, late, (is.reasons h).ticks);
    late = omega (arith, late, (is.reasons h).late);
  };
  mispredicted = omega (arith, late, is.mispredicted);
  level_rows = omega (arith, late, is.level_rows);
}

-- ---- no rows

sum-none : (s : Stage) (sums : Totals) → AreWithin 0 sums → sum_at s sums ≡ 0
sum-none Restart sums is = omega (arith, is.restart)
sum-none Instruction sums is = omega (arith, is.instruction)
sum-none Address sums is = omega (arith, is.address)
sum-none Index sums is = omega (arith, is.index)
sum-none Preparing sums is = omega (arith, is.preparing)
sum-none Operand sums is = omega (arith, is.operand)
sum-none Executing sums is = omega (arith, is.executing)

no-card-rows : (k : ℕ) (sum : CardSum) → IsCardSumWithin 0 sum → IsCardSum (rows_of_card k []) sum
unfolding rows_of_card stage_ticks wait_ticks
no-card-rows k sum is = record {
  rows = omega (arith, is.rows);
  stages = λ s. sum-none s sum.sums is.sums;
  waits = λ r s parted. waited-none sum.waits r s is.waits;
}

no-other-rows : (n : ℕ) (sum : CardSum) → IsCardSumWithin 0 sum → IsCardSum (rows_elsewhere n []) sum
unfolding rows_elsewhere stage_ticks wait_ticks
no-other-rows n sum is = record {
  rows = omega (arith, is.rows);
  stages = λ s. sum-none s sum.sums is.sums;
  waits = λ r s parted. waited-none sum.waits r s is.waits;
}

no-reason-rows : (h : Heading) (sum : ReasonSum) → IsReasonSumWithin 0 sum → IsReasonSum (rows_for h []) sum
unfolding rows_for lost_ticks late_ticks
no-reason-rows h sum is = record { rows = omega (arith, is.rows); ticks = omega (arith, is.ticks); late = omega (arith, is.late) }

pub within-none : (t : Tables) → AreTablesOfNone t → AreTablesWithin 0 t
within-none t is = record {
  cards = is.cards;
  others = is.others;
  stages = λ s.
      omega (
        arith,
        sum-none s t.others.sums is.others.sums,
        below-none (λ k. sum_at s (card_sum t k).sums) (length t.cards.items) (λ k less. sum-none s (card_sum t k).sums (is.cards k less).sums),
      );
  waits = λ r s parted.
      omega (
        arith,
        waited-none t.others.waits r s is.others.waits,
        below-none (λ k. waited_at r s (card_sum t k).waits) (length t.cards.items) (λ k less. waited-none (card_sum t k).waits r s (is.cards k less).waits),
      );
  reasons = is.reasons;
  mispredicted = omega (arith, is.mispredicted);
  level_rows = omega (arith, is.level_rows);
}

pub no-rows : (t : Tables) → AreTablesOfNone t → IsTally [] t
unfolding mispredicted_rows level_rows level_ticks
no-rows t is = record {
  cards = λ k inside. no-card-rows k (card_sum t k) (is.cards k inside);
  others = no-other-rows (length t.cards.items) t.others is.others;
  reasons = λ h. no-reason-rows h (reason_sum t h) (is.reasons h);
  mispredicted = is.mispredicted;
  level_rows = is.level_rows;
  level_ticks = is.level_ticks;
}
