-- The lines of a ledger about an entry: its properties and effects, and its row with its charges.
--
-- Proved: by their `ensures` clauses these calls do what definitions here say: `alone_by`
-- (facts.rt), `suppressed_by` (facts.rt), `write_alone` (facts.rt), `write_code` (facts.rt), and
-- others.
-- Read by: definitions in BorderLines, TellingWaits, Slots of st_tally, Tally of st_tally, and
-- others.
-- Laws: LostTicksAreThoseOfOtherStages (specs/Laws.antt of st_tally).
-- Change: the meaning is fixed by docs/ledger.md, since the contract of `st_account::ledger`
-- unfolds to a definition here. The form is free, with the proofs that unfold it.
use Rattle.std.specs.Prelude.{ℕ, Bool, true, false, ◌==◌, ◌||◌, nat_eq, if◌then◌else◌, List, [], ◌∷◌, ◌++◌, Option, None, Some}
use Rattle.st_bits.specs.Indicators.{indicator}
use Rattle.st_state.specs.Interrupts.{first_from}
use Rattle.st_prep.specs.Entry.{is_register, has_register}
use Rattle.st_prep.specs.declared.entries.IndexChange.{IndexChange}
use Rattle.st_prep.specs.declared.entries.Prepared.{Prepared}
use Rattle.st_prep.specs.declared.entries.Words.{Words}
use Rattle.st_plain.specs.declared.known.Code.{Code}
use Rattle.st_plain.specs.declared.known.Known.{Known}
use Rattle.st_rows.specs.declared.uses.Use.{Use}
use Rattle.st_ledger.specs.Charges.{parts_of_row, charges_behind}
use Rattle.st_ledger.specs.Lines.{row_stage_line}
use Rattle.st_ledger.specs.declared.charges.Charge.{Charge}
use Rattle.st_lines.specs.Lines.{missed_line, alone_line, suppressed_line, emitted_line, code_line, writes_line, index_line, level_wait_line}
use Rattle.st_lines.specs.UseLines.{use_lines}
use Rattle.st_lines.specs.WaitLines.{charged_lines, because_lines}
use Rattle.st_lines.specs.declared.facts.EntryDone.{EntryDone}
use Rattle.st_lines.specs.declared.lines.Alone.{Alone}
use Rattle.st_lines.specs.declared.lines.Alone.TheVariants.{Table, Execute, Register, Operation}
use Rattle.st_lines.specs.declared.origins.Origin.{Origin}

-- ---- the entry

-- why an entry is serialized, the first that applies: it is the instruction in an interrupt table,
-- EX, or uses a register as a word
abbrev pub alone_for : Option ℕ → Bool → Bool → Alone
alone_for (Some i) execute register = Table i
alone_for None true register = Execute
alone_for None false true = Register
alone_for None false false = Operation

-- why an entry is serialized, if it is, given its preparation, its index-side word and whether it
-- is EX
abbrev pub alone_by : Prepared → Option ℕ → Bool → Option Alone
alone_by p side execute =
    if p.serial then Some (alone_for p.place.table execute
    (is_register side || has_register p.reads || has_register p.writes))
    else None

unfoldable pub alone_lines : Option Alone → List (List ℕ)
alone_lines None = []
alone_lines (Some why) = alone_line why ∷ []

-- the indicator with which an entry is suppressed, if it is
abbrev pub suppressed_by : Prepared → Option ℕ
suppressed_by p = if p.suppressed then first_from (λ i. indicator i == p.ind.on) 0 64 else None

unfoldable pub suppressed_lines : Option ℕ → List (List ℕ)
suppressed_lines None = []
suppressed_lines (Some i) = suppressed_line i ∷ []

-- the lines of the words that an entry writes, one for each run
unfoldable pub run_lines : ℕ → ℕ → List (List ℕ)
run_lines w n = if nat_eq n 0 then [] else writes_line w n ∷ []

abbrev pub writes_lines : Words → List (List ℕ)
writes_lines w = run_lines w.first w.len ++ run_lines w.first2 w.len2

-- the line of the index word that an entry changes speculatively
unfoldable pub index_lines : Option IndexChange → List (List ℕ)
index_lines None = []
index_lines (Some x) = index_line x ∷ []

-- the line of the card that an entry's half-words come from, if a card's bits begin there
unfoldable pub emitted_lines : Option Origin → List (List ℕ)
emitted_lines None = []
emitted_lines (Some o) = emitted_line o ∷ []

-- the line of the half-words that an entry executes, if they may be fetched
unfoldable pub code_lines : Option Code → List (List ℕ)
code_lines None = []
code_lines (Some code) = code_line code ∷ []

-- the lines of the facts about the n-th entry, whose segment ends at a tick or continues
unfoldable pub facts_lines : ℕ → Option ℕ → Prepared → Known → Option Origin → List Use →
    List (List ℕ)
facts_lines n end p k origin uses =
    ((alone_lines (alone_by p k.side k.execute) ++ suppressed_lines (suppressed_by p))
    ++ (emitted_lines origin ++ code_lines k.code))
    ++ (use_lines n end uses ++ (writes_lines p.writes ++ index_lines p.index))

-- ---- the row

-- the line of a branch on an indicator that was mispredicted
unfoldable pub missed_lines : Bool → List (List ℕ)
missed_lines true = missed_line ∷ []
missed_lines false = []

-- the line of the number of ticks for which an entry waited for a level, if it did
unfoldable pub level_lines : ℕ → List (List ℕ)
level_lines d = if nat_eq d 0 then [] else level_wait_line d ∷ []

-- the charges of a completed entry
abbrev pub charges_of_entry : EntryDone → List Charge
charges_of_entry d = charges_behind d.before (parts_of_row d.start d.row.ticks)

-- the lines of a completed entry's facts that do not concern its ticks
abbrev pub known_lines : EntryDone → Prepared → Known → List Use → List (List ℕ)
known_lines d p k uses = missed_lines d.mispredicted ++ facts_lines d.n d.end p k d.origin uses

-- the lines of an entry's wait for a level and of the cause that delayed it
abbrev pub late_entry_lines : EntryDone → List (List ℕ)
late_entry_lines d =
    level_lines d.row.level_wait ++ because_lines d.n d.before d.row.ticks.r d.because

-- the lines of an entry's charges with their waits, its wait for a level, and the cause that
-- delayed it, given the words that it uses and those of the entry before it
abbrev pub spent_lines : EntryDone → List Use → List Use → List (List ℕ)
spent_lines d uses before =
    charged_lines uses before (charges_of_entry d) ++ late_entry_lines d

-- all lines of a completed entry
unfoldable pub done_entry_lines : EntryDone → Prepared → Known → List Use → List Use →
    List (List ℕ)
done_entry_lines d p k uses before =
    row_stage_line d.n d.address d.row.ticks
    ∷ (known_lines d p k uses ++ spent_lines d uses before)
