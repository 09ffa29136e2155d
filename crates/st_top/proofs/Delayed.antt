-- Only marked lines depend on delays.
use Rattle.st_top.proofs.Common.{Result, Ok, Err, ◌≡◌, ◌≤◌, ℕ, Bool, true, false, if◌then◌else◌, refl, sym, ◌∙◌, ap, subst, leb-true, le-leb, MOST_CARDS, Assembly, assembly, Refusal, DifferInDelayLines, Program, IsReading, again-read, lines-differ, reading-only, card_count, IsAccepted, DifferInDelaysAlone, HasGoodLines, HasShortDeck, AreDelaysGood, DelaysShowInMarksAlone, lines_unmarked, marked_load, marked_disassembled, marked_output, Output, output_of, ran_by, swept_by, assembled_by, loaded_by, disassembled_by, Done, Refused, Command, Run, Assemble, Load, Disassemble, Sweep, Soak}
use Rattle.std.specs.Prelude.{nat_le, List, []}
use Rattle.st_top.proofs.MarkLemmas.{lines-output}
use Rattle.st_top.proofs.PlainEventLemmas.{unmarked-marked}
use Rattle.st_top.proofs.JobLemmas.{jobs-same, loads-same, assembled-same, disassembled-same}
use Rattle.st_top.proofs.PartedJobs.{cards-differ, again-accepted}

-- ---- jobs that are not refused

ran-job : (job : List ℕ) (r : Result Assembly Refusal) → (ran_by [] job r).status ≡ Done → (a : Assembly) × (r ≡ Ok a)
ran-job job (Ok a) is = (a, refl)
ran-job job (Err e) is = absurd (cc)

assembled-job : (r : Result Assembly Refusal) → (assembled_by r).status ≡ Done → (a : Assembly) × (r ≡ Ok a)
assembled-job (Ok a) is = (a, refl)
assembled-job (Err e) is = absurd (cc)

swept-job : (r : Result Assembly Refusal) → (swept_by r).status ≡ Done → (a : Assembly) × (r ≡ Ok a)
swept-job (Ok a) is = (a, refl)
swept-job (Err e) is = absurd (cc)

short-deck : (b : Bool) (deck other : Output) → other.status ≡ Refused → (if b then deck else other).status ≡ Done → b ≡ true
short-deck true deck other refused is = refl
short-deck false deck other refused is = absurd (cc)

few-cards : (p : Program) → (disassembled_by (Ok p)).status ≡ Done → card_count p ≤ MOST_CARDS
few-cards p is = leb-true (card_count p) MOST_CARDS (short-deck (nat_le (card_count p) MOST_CARDS) _ _ refl is)

-- ---- unmarked lines

same-loaded : (text other : List ℕ) (read also : Result Program ℕ) → IsReading text read → IsReading other also
    → (loaded_by read).status ≡ Done → (loaded_by also).status ≡ Done → DifferInDelayLines text other
    → lines_unmarked (marked_load read) ≡ lines_unmarked (marked_load also)
same-loaded text other (Ok p) (Ok q) is too done also h =
    loads-same p q (lines-differ text other p q (reading-only text (Ok p) is) (reading-only other (Ok q) too) h)
same-loaded text other (Ok p) (Err n) is too done also h = absurd (cc)
same-loaded text other (Err n) q is too done also h = absurd (cc)

same-decks : (text other : List ℕ) (read also : Result Program ℕ) → IsReading text read → IsReading other also
    → (disassembled_by read).status ≡ Done → (disassembled_by also).status ≡ Done → DifferInDelayLines text other
    → lines_unmarked (marked_disassembled read) ≡ lines_unmarked (marked_disassembled also)
same-decks text other (Ok p) (Ok q) is too done also h =
    let differ = lines-differ text other p q (reading-only text (Ok p) is) (reading-only other (Ok q) too) h in
    disassembled-same p q differ (few-cards p done) (few-cards q also)
same-decks text other (Ok p) (Err n) is too done also h = absurd (cc)
same-decks text other (Err n) q is too done also h = absurd (cc)

same-unmarked : (command : Command) (job other : List ℕ) (read also : Result Program ℕ) → IsReading job read → IsReading other also
    → IsAccepted command job read → IsAccepted command other also → DifferInDelaysAlone command job other
    → lines_unmarked (marked_output command job read) ≡ lines_unmarked (marked_output command other also)
unfolding output_of marked_output
same-unmarked Run job other read also is too done both h =
    let a = ran-job job (assembly job) done in
    let b = ran-job other (assembly other) both in
    jobs-same job other a.0 b.0 a.1 b.1 (cards-differ job other a.0 b.0 a.1 b.1 h)
same-unmarked Assemble job other read also is too done both h =
    let a = assembled-job (assembly job) done in
    let b = assembled-job (assembly other) both in
    assembled-same job other a.0 b.0 a.1 b.1 (cards-differ job other a.0 b.0 a.1 b.1 h)
same-unmarked Load job other read also is too done both h = same-loaded job other read also is too done both h
same-unmarked Disassemble job other read also is too done both h = same-decks job other read also is too done both h
same-unmarked Sweep job other read also is too done both h = unmarked-marked _ ∙ sym (unmarked-marked _)
same-unmarked (Soak number cards) job other read also is too done both h = unmarked-marked _ ∙ sym (unmarked-marked _)

-- ---- other delays are not refused

again-loaded : (text other : List ℕ) (read also : Result Program ℕ) → IsReading text read → IsReading other also
    → (loaded_by read).status ≡ Done → DifferInDelayLines text other → HasGoodLines other → (loaded_by also).status ≡ Done
again-loaded text other (Ok p) also is too done h good =
    ap (λ r. (loaded_by r).status) (sym (reading-only other also too) ∙ again-read text other good.0 p (reading-only text (Ok p) is) h good.1)
again-loaded text other (Err n) also is too done h good = absurd (cc)

again-deck : (text other : List ℕ) (read also : Result Program ℕ) → IsReading text read → IsReading other also
    → (disassembled_by read).status ≡ Done → DifferInDelayLines text other → HasGoodLines other → HasShortDeck other
    → (disassembled_by also).status ≡ Done
again-deck text other (Ok p) also is too done h good short =
    let q : Program = record p { controls = record p.controls { delays = good.0 } } in
    let same : also ≡ Ok q = sym (reading-only other also too) ∙ again-read text other good.0 p (reading-only text (Ok p) is) h good.1 in
    let few : card_count q ≤ MOST_CARDS = short q (subst (λ (r : Result Program ℕ). IsReading other r) same too) in
    ap (λ r. (disassembled_by r).status) same ∙ (rw (le-leb (card_count q) MOST_CARDS few) refl)
again-deck text other (Err n) also is too done h good short = absurd (cc)

again-done : (command : Command) (job other : List ℕ) (read also : Result Program ℕ) → IsReading job read → IsReading other also
    → IsAccepted command job read → DifferInDelaysAlone command job other → AreDelaysGood command other
    → IsAccepted command other also
unfolding output_of
again-done Run job other read also is too done h good =
    let a = ran-job job (assembly job) done in
    ap (λ r. (ran_by [] other r).status) (again-accepted job other a.0 a.1 h good).1
again-done Assemble job other read also is too done h good =
    let a = assembled-job (assembly job) done in
    ap (λ r. (assembled_by r).status) (again-accepted job other a.0 a.1 h good).1
again-done Sweep job other read also is too done h good =
    let a = swept-job (assembly job) done in
    ap (λ r. (swept_by r).status) (again-accepted job other a.0 a.1 h good).1
again-done Load job other read also is too done h good = again-loaded job other read also is too done h good
again-done Disassemble job other read also is too done h good = again-deck job other read also is too done h good.0 good.1
again-done (Soak number cards) job other read also is too done h good = done

pub delays_show_in_marks_alone : DelaysShowInMarksAlone
delays_show_in_marks_alone = record { marks = lines-output; texts = same-unmarked; accepted = again-done }
