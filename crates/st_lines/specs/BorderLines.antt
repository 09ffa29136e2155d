-- The lines of a ledger between two entries: the end of a segment, and the state after an entry;
-- and the lines about the machine before all entries.
--
-- Proved: by their `ensures` clauses these calls do what definitions here say: `write_border`
-- (writing.rt), `write_words` (writing.rt), `write_change` (changes.rt), `write_changed`
-- (changes.rt), and others.
-- Read by: definitions in Text of st_account, LedgerRows of st_account, Passing of st_account.
-- Laws: RowsAreAPartOfTheLedger (specs/Laws.antt of st_causes), TotalsAreTheLedgerWithoutRows
-- (specs/Laws.antt of st_causes).
-- Change: the meaning is fixed by docs/ledger.md, since the contract of `st_account::ledger`
-- unfolds to a definition here. The form is free, with the proofs that unfold it.
use Rattle.std.specs.Prelude.{ℕ, ◌+◌, Bool, true, false, not, ◌||◌, nat_eq, if◌then◌else◌, List, [], ◌∷◌, ◌++◌, length, slice_index, Option, None, Some}
use Rattle.st_bits.specs.declared.limits.TheConstants.{WORDS}
use Rattle.st_io.specs.Lines.{lines_for}
use Rattle.st_state.specs.Machine.{Machine, word}
use Rattle.st_exch.specs.Printer.{line_of_words}
use Rattle.st_report.specs.Line.{prt_line, ic_line, en_line, int_line}
use Rattle.st_plain.specs.declared.looking.Ahead.{Ahead}
use Rattle.st_lines.specs.Lines.{ledger_levels_line, delays_lines, segment_end_line, word_line, changed_line, dropped_line, begun_line}
use Rattle.st_lines.specs.EntryLines.{facts_lines}
use Rattle.st_lines.specs.declared.origins.Origin.{Origin}

-- ---- the end of a segment

-- the lines of entries that are dropped at a tick, oldest first, numbered from n on; `origin` gives
-- the card that the half-words at an address come from
unfoldable pub drop_lines : (ℕ → Option Origin) → ℕ → ℕ → List Ahead → List (List ℕ)
drop_lines origin n tick [] = []
drop_lines origin n tick (a ∷ more) = dropped_line n a.plan.place.address a.row
    ∷ (facts_lines n (Some tick) a.plan a.known (origin a.plan.place.address) a.uses.items
    ++ drop_lines origin (n + 1) tick more)

-- the lines of the n-th entry, which had begun after the dropped ones, if there is one
unfoldable pub begun_entry_lines : (ℕ → Option Origin) → ℕ → ℕ → List Ahead → List (List ℕ)
begun_entry_lines origin n tick [] = []
begun_entry_lines origin n tick (a ∷ more) = begun_line n a.plan.place.address a.row
    ∷ facts_lines n (Some tick) a.plan a.known (origin a.plan.place.address) a.uses.items

-- the lines of the end of segment k at a tick, of the entries that ran ahead and are dropped, and
-- of the entry that had begun; none before the first segment
unfoldable pub segment_end_lines : (ℕ → Option Origin) → ℕ → ℕ → ℕ → List Ahead → List Ahead →
    List (List ℕ)
segment_end_lines origin k tick n dropped begun =
    if nat_eq k 0 then [] else segment_end_line k tick
    ∷ (drop_lines origin n tick dropped ++ begun_entry_lines origin (n + length dropped) tick begun)

-- ---- the state after an entry

-- the line of the interrupt that is taken after an entry; none before the first entry
abbrev pub taken_by : Bool → Option ℕ → ℕ → List (List ℕ)
taken_by true taken done = []
taken_by false None done = []
taken_by false (Some i) done = int_line i done ∷ []

-- whether the flags for enabled interrupts before the entry and now differ
abbrev pub differs : Bool → Bool → Bool
differs true now = not now
differs false now = now

-- the line that says whether interrupts are enabled: at the start of the run, and after a change
unfoldable pub en_lines : ℕ → Bool → Bool → List (List ℕ)
en_lines k was now = if nat_eq k 0 || differs was now then en_line now ∷ [] else []

-- the printed lines, each of eight words
unfoldable pub prints_lines : List (List ℕ) → List (List ℕ)
prints_lines [] = []
prints_lines (words ∷ more) = prt_line (line_of_words words) ∷ prints_lines more

-- the line of a word, if it is not zero
unfoldable pub nonzero_word_lines : Machine → ℕ → List (List ℕ)
nonzero_word_lines s w = if nat_eq (word s w) 0 then [] else word_line w (word s w) ∷ []

-- the line of a word, if it changed; the list has the words as they were before
unfoldable pub word_change_lines : List ℕ → Machine → ℕ → List (List ℕ)
word_change_lines old s w =
    if nat_eq (slice_index old w) (word s w) then []
    else changed_line w (slice_index old w) (word s w) ∷ []

-- the lines of words in order of address: at the start of the run all that are not zero, later all
-- that changed
unfoldable pub words_lines : ℕ → List ℕ → Machine → List (List ℕ)
words_lines k old s =
    if nat_eq k 0 then lines_for (nonzero_word_lines s) WORDS 0
    else lines_for (word_change_lines old s) WORDS 0

-- the lines of the printed output, the counter, whether interrupts are enabled, and the words; the
-- flag and the words before the entry are given
unfoldable pub marks_lines : List (List ℕ) → ℕ → Bool → List ℕ → Machine → List (List ℕ)
marks_lines words k was old s = prints_lines words
    ++ (ic_line s.ic ∷ en_lines k was s.enabled ++ words_lines k old s)

-- the lines of the state after an entry and of the interrupt that is taken, if the run continues,
-- after this number of completed instructions
unfoldable pub state_lines : List (List ℕ) → ℕ → Bool → List ℕ → Machine → Option ℕ → ℕ →
    List (List ℕ)
state_lines words k was old s taken done = marks_lines words k was old s
    ++ taken_by (nat_eq k 0) taken done

-- the lines of a whole state: the counter, whether interrupts are enabled, and each word that is
-- not zero, by its address
unfoldable pub whole_state_lines : Machine → List (List ℕ)
whole_state_lines s =
    (ic_line s.ic ∷ en_line s.enabled ∷ []) ++ lines_for (nonzero_word_lines s) WORDS 0

-- ---- the machine

-- the lines of the machine's levels and delays
abbrev pub machine_lines : List ℕ → ℕ → List (List ℕ)
machine_lines ds n = ledger_levels_line n ∷ delays_lines ds
