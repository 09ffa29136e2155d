-- Proofs of the laws of the waits in the ledger.
use Rattle.std.specs.Prelude.{Bool, nat_eq, ◌||◌, if◌then◌else◌, All}
use Rattle.std.proofs.Common.{◌≡◌, ℕ, ◌+◌, ◌-◌, ◌≤◌, ◌<◌, inl, inr, true, false, List, [], ◌∷◌, refl, sym, ◌∙◌, ap, arith}
use Rattle.std.proofs.lemmas.Bool.{cases_Bool, eqb-true}
use Rattle.std.proofs.lemmas.List.Elements.{All-nil, All-cons, All-head, All-tail, All-weaker}
use Rattle.st_banks.specs.declared.answers.LastAnswers.{LastAnswers}
use Rattle.st_rows.specs.Rows.{row_of_entry, tick_a, tick_p, tick_c, preparation_tick}
use Rattle.st_rows.specs.declared.entry.Entry.{Entry}
use Rattle.st_rows.specs.declared.issue.IssueState.{IssueState}
use Rattle.st_rows.proofs.Awaited.{ready-after}
use Rattle.st_ledger.specs.Charges.{charges, stage_at}
use Rattle.st_ledger.specs.declared.charges.Charge.{Charge}
use Rattle.st_ledger.specs.declared.charges.Stage.{Stage}
use Rattle.st_ledger.specs.declared.charges.Stage.TheVariants.{Restart, Address, Preparing, Executing, Instruction as AtInstruction, Index as AtIndex, Operand as AtOperand}
use Rattle.st_ledger.proofs.ChargeSums.{charges-stages}
use Rattle.st_rows.specs.declared.uses.Role.TheVariants.{Index, Operand}
use Rattle.st_ledger.specs.Sums.{is_parted}
use Rattle.st_ledger.specs.Waits.{stage_waits, charge_waits}
use Rattle.st_ledger.specs.Causes.{IsTrueOf, FallTo}
use Rattle.st_ledger.specs.WaitLaws.{ReadsToldAreThoseOfTheBus, BanksAreHeldByTheReadBefore, HeldWordsAreBrought, ForwardedWordsAreWritten, InstructionWordsAreFirst, WaitsAreTrue, WaitsCoverTheirCharge, WaitsEndBeforeTheirRow, WaitsAddUpToTheirStage, IndexWordsWaitForNoTurn}
use Rattle.st_ledger.specs.Segments.{Told, IsTold, issue_of, uses_behind, last_uses, all_uses}
use Rattle.st_ledger.specs.Charges.{is_stage, ticks_for, stage_number}
use Rattle.st_rows.specs.declared.uses.Use.{Use}
use Rattle.st_ledger.specs.Sums.{stalled_for, row_stalled, is_stall}
use Rattle.st_ledger.specs.declared.waits.Stall.{Stall}
use Rattle.st_ledger.specs.declared.waits.Stall.TheVariants.{Turn, Bank, Storage}
use Rattle.st_ledger.specs.declared.waits.Wait.{Wait}
use Rattle.st_ledger.proofs.BankLemmas.{segment-held}
use Rattle.st_ledger.proofs.BusLemmas.{told-of-entry}
use Rattle.st_ledger.proofs.ChargeEnds.{end_of, row-ends, both, charges-late}
use Rattle.st_ledger.proofs.CoverLaw.{stage-covers}
use Rattle.st_ledger.proofs.IndexLemmas.{no-turns}
use Rattle.st_ledger.proofs.SegmentLemmas.{segment-behind}
use Rattle.st_ledger.proofs.Truth.{data-wait-true, fetch-wait-true, index-is-read, operand-is-read, others-after-four}
use Rattle.st_ledger.proofs.WriterLemmas.{uses-written}

-- ---- the words from which waits are found

pub reads_told_are_those_of_the_bus : ReadsToldAreThoseOfTheBus
reads_told_are_those_of_the_bus ds n f e side reads is = told-of-entry ds n f e side reads is

pub banks_are_held_by_the_read_before : BanksAreHeldByTheReadBefore
banks_are_held_by_the_read_before ds n banks start rows whole all = segment-held ds n banks start rows whole all

pub held_words_are_brought : HeldWordsAreBrought
held_words_are_brought ds n banks start rows all = (segment-behind ds n banks start rows all).brought

pub forwarded_words_are_written : ForwardedWordsAreWritten
forwarded_words_are_written ds n f e side reads = uses-written ds n f e side reads

pub instruction_words_are_first : InstructionWordsAreFirst
instruction_words_are_first ds n f e side reads is = others-after-four ds n f e side reads is

pub index_words_wait_for_no_turn : IndexWordsWaitForNoTurn
index_words_wait_for_no_turn most ds n t banks start older x are opening all = no-turns most ds n t banks start older x are opening all

-- ---- waits are true

module _ (ds : List ℕ) (n : ℕ) (banks : LastAnswers) (start : ℕ) (older : List Told) (x : Told) (all : All IsTold (x ∷ older)) where
  stage-true : (stage : Stage) (from to : ℕ) → (is_parted stage ≡ true → (issue_of ds n banks start older).c ≤ from)
      → All (IsTrueOf (all_uses ds n banks start (x ∷ older))) (stage_waits stage from to (uses_behind ds n banks start older x) (last_uses ds n banks start older))
  unfolding stage_waits uses_behind
  stage-true AtInstruction from to late = fetch-wait-true ds n banks start older x all from (late refl) to
  stage-true AtIndex from to late =
      data-wait-true ds n banks start older x all from (late refl) Index to (index-is-read to ds n (issue_of ds n banks start older) x.entry x.side x.reads)
  stage-true AtOperand from to late =
      data-wait-true ds n banks start older x all from (late refl) Operand to (operand-is-read to ds n (issue_of ds n banks start older) x.entry x.side x.reads)
  stage-true Restart from to late = All-nil (IsTrueOf (all_uses ds n banks start (x ∷ older)))
  stage-true Address from to late = All-nil (IsTrueOf (all_uses ds n banks start (x ∷ older)))
  stage-true Preparing from to late = All-nil (IsTrueOf (all_uses ds n banks start (x ∷ older)))
  stage-true Executing from to late = All-nil (IsTrueOf (all_uses ds n banks start (x ∷ older)))

pub waits_are_true : WaitsAreTrue
waits_are_true ds n t banks start older x all =
    let f = issue_of ds n banks start older in
    All-weaker (λ (c : Charge). is_parted c.stage ≡ true → f.c ≤ c.from)
    (λ (c : Charge). All (IsTrueOf (all_uses ds n banks start (x ∷ older))) (charge_waits c (uses_behind ds n banks start older x) (last_uses ds n banks start older)))
    (λ c late. stage-true ds n banks start older x all c.stage c.from c.to late)
    (charges t f (row_of_entry ds n f x.entry)) (charges-late t f.c (row_of_entry ds n f x.entry))

-- ---- waits cover their charges

pub waits_cover_their_charge : WaitsCoverTheirCharge
waits_cover_their_charge ds n t banks start older x all =
    let f = issue_of ds n banks start older in
    let row = row_of_entry ds n f x.entry in
    both (λ (c : Charge). (c.from < c.to) × (c.to ≡ end_of f.c row c.stage))
    (λ (c : Charge). (is_parted c.stage ≡ true → f.c ≤ c.from) × ((u : ℕ) → c.from < u → u ≤ c.to → stage_at f.c row u ≡ c.stage))
    (λ (c : Charge). is_parted c.stage ≡ true → FallTo c.from c.to (charge_waits c (uses_behind ds n banks start older x) (last_uses ds n banks start older)))
    (λ c ends at parted.
    stage-covers ds n banks start older x all c.from (at.0 parted) c.stage c.to ends.0 ends.1 (at.1 (c.from + 1) (omega arith) (omega (arith, ends.0))) parted)
    (charges t f row) (row-ends t f.c row)
    (both (λ (c : Charge). is_parted c.stage ≡ true → f.c ≤ c.from) (λ (c : Charge). (u : ℕ) → c.from < u → u ≤ c.to → stage_at f.c row u ≡ c.stage)
    (λ (c : Charge). (is_parted c.stage ≡ true → f.c ≤ c.from) × ((u : ℕ) → c.from < u → u ≤ c.to → stage_at f.c row u ≡ c.stage))
    (λ c a b. (a, b)) (charges t f row) (charges-late t f.c row) (charges-stages t f.c row))

-- ---- waits end before the row completes

prepared-after : (ds : List ℕ) (n : ℕ) (f : IssueState) (e : Entry) → tick_a ds f e < tick_p ds n f e
unfolding tick_p preparation_tick
prepared-after ds n f e = omega arith

fall-ends : (from to c : ℕ) (xs : List Wait) → to < c → FallTo from to xs → All (λ (w : Wait). w.to < c) xs
unfolding FallTo
fall-ends from to c [] early fall = All-nil (λ (w : Wait). w.to < c)
fall-ends from to c (x ∷ xs) early fall =
    All-cons (λ (w : Wait). w.to < c) x xs (omega (arith, fall.0, early)) (fall-ends from x.from c xs (omega (arith, fall.0, fall.1, early)) fall.2)

stage-early : (ds : List ℕ) (n : ℕ) (f : IssueState) (e : Entry) (s : Stage) → 1 ≤ e.cost → is_parted s ≡ true
    → end_of f.c (row_of_entry ds n f e) s < (row_of_entry ds n f e).c
unfolding end_of row_of_entry tick_c tick_p preparation_tick
stage-early ds n f e AtInstruction some parted = omega (arith, some, ready-after ds n f e, prepared-after ds n f e)
stage-early ds n f e AtIndex some parted = omega (arith, some, ready-after ds n f e, prepared-after ds n f e)
stage-early ds n f e AtOperand some parted = omega (arith, some)
stage-early ds n f e Restart some parted = absurd (cc)
stage-early ds n f e Address some parted = absurd (cc)
stage-early ds n f e Preparing some parted = absurd (cc)
stage-early ds n f e Executing some parted = absurd (cc)

no-waits : (P : Wait → Type 0) (s : Stage) (from to : ℕ) (uses before : List Use) → is_parted s ≡ false → All P (stage_waits s from to uses before)
unfolding stage_waits
no-waits P Restart from to uses before none = All-nil P
no-waits P Address from to uses before none = All-nil P
no-waits P Preparing from to uses before none = All-nil P
no-waits P Executing from to uses before none = All-nil P
no-waits P AtInstruction from to uses before none = absurd (cc)
no-waits P AtIndex from to uses before none = absurd (cc)
no-waits P AtOperand from to uses before none = absurd (cc)

pub waits_end_before_their_row : WaitsEndBeforeTheirRow
waits_end_before_their_row ds n t banks start older x all =
    let f = issue_of ds n banks start older in
    let row = row_of_entry ds n f x.entry in
    let uses = uses_behind ds n banks start older x in
    let before = last_uses ds n banks start older in
    both (λ (c : Charge). is_parted c.stage ≡ true → FallTo c.from c.to (charge_waits c uses before))
    (λ (c : Charge). (c.from < c.to) × (c.to ≡ end_of f.c row c.stage))
    (λ (c : Charge). All (λ (w : Wait). w.to < row.c) (charge_waits c uses before))
    (λ c fall ends. elim (cases_Bool (is_parted c.stage)) [
      | inl y ↦
          fall-ends c.from c.to row.c (charge_waits c uses before)
          (omega (arith, ends.1, stage-early ds n f x.entry c.stage (All-head IsTold x older all).entry.costs.0 y)) (fall y)
      | inr m ↦ no-waits (λ (w : Wait). w.to < row.c) c.stage c.from c.to uses before m
    ])
    (charges t f row) (waits_cover_their_charge ds n t banks start older x all) (row-ends t f.c row)

-- ---- the totals of waits are those of the stages

three-one : (why : Stall) (d : ℕ) → (if is_stall Turn why then d else 0) + (if is_stall Bank why then d else 0) + (if is_stall Storage why then d else 0) ≡ d
three-one Turn d = omega arith
three-one Bank d = omega arith
three-one Storage d = omega arith

fall-order : (from to : ℕ) (xs : List Wait) → FallTo from to xs → from ≤ to
unfolding FallTo
fall-order from to [] fall = omega (arith, fall)
fall-order from to (x ∷ xs) fall = omega (arith, fall.0, fall.1, fall-order from x.from xs fall.2)

parted_number : ℕ → Bool
parted_number k = nat_eq k 1 || (nat_eq k 3 || nat_eq k 5)

by-number : (s : Stage) → parted_number (stage_number s) ≡ is_parted s
unfolding parted_number
by-number Restart = refl
by-number AtInstruction = refl
by-number Address = refl
by-number AtIndex = refl
by-number Preparing = refl
by-number AtOperand = refl
by-number Executing = refl

same-parted : (s r : Stage) → is_stage s r ≡ true → is_parted s ≡ true → is_parted r ≡ true
same-parted s r same parted = sym (by-number r) ∙ sym (ap parted_number (eqb-true _ _ same)) ∙ by-number s ∙ parted

three : (from to : ℕ) (xs : List Wait) → FallTo from to xs → stalled_for Turn xs + stalled_for Bank xs + stalled_for Storage xs ≡ to - from
unfolding FallTo stalled_for
three from to [] fall = omega (arith, fall)
three from to (x ∷ xs) fall = omega (arith, three-one x.why (x.to - x.from), three from x.from xs fall.2, fall.0, fall.1, fall-order from x.from xs fall.2)

stage-three : (s : Stage) (uses before : List Use) (xs : List Charge) → is_parted s ≡ true
    → All (λ (c : Charge). is_parted c.stage ≡ true → FallTo c.from c.to (charge_waits c uses before)) xs
    → row_stalled s Turn uses before xs + row_stalled s Bank uses before xs + row_stalled s Storage uses before xs ≡ ticks_for s xs
unfolding row_stalled ticks_for
stage-three s uses before [] parted all = refl
stage-three s uses before (x ∷ xs) parted all =
    let P : Charge → Type 0 = λ (c : Charge). is_parted c.stage ≡ true → FallTo c.from c.to (charge_waits c uses before) in
    let rest = stage-three s uses before xs parted (All-tail P x xs all) in
    elim (cases_Bool (is_stage s x.stage)) [
      | inl y ↦ rw y (omega (arith, rest, three x.from x.to (charge_waits x uses before) (All-head P x xs all (same-parted s x.stage y parted))))
      | inr m ↦ rw m (omega (arith, rest))
    ]

pub waits_add_up_to_their_stage : WaitsAddUpToTheirStage
waits_add_up_to_their_stage ds n t banks start older x s all parted =
    let f = issue_of ds n banks start older in
    stage-three s (uses_behind ds n banks start older x) (last_uses ds n banks start older) (charges t f (row_of_entry ds n f x.entry)) parted
    (waits_cover_their_charge ds n t banks start older x all)
