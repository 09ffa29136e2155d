-- The bytes of the lines of a ledger about the machine and about segments, each with its line end.
--
-- Proved: by their `ensures` clauses these calls do what definitions here say: `fill_changed`
-- (digits.rt), `fill_code` (digits.rt), `fill_index` (digits.rt), `fill_writes` (digits.rt), and
-- others.
-- Read by: definitions in EntryLines, BorderLines, LedgerRows of st_account, Passing of st_account,
-- and others.
-- Laws: none names a definition of this file itself.
-- Change: the meaning is fixed by docs/ledger.md, since the contract of `st_account::ledger`
-- unfolds to a definition here. The form is free, with the proofs that unfold it.
use Rattle.std.specs.Prelude.{ℕ, ◌+◌, ◌/◌, Bool, List, [], ◌∷◌, ◌++◌, codes, decimal, take, drop, length, zero, suc, Option, None, Some}
use Rattle.st_text.specs.Bytes.{lf}
use Rattle.st_text.specs.Numerals.{half_address, hex_text, hex_word, flag}
use Rattle.st_prep.specs.declared.entries.IndexChange.{IndexChange}
use Rattle.st_rows.specs.declared.issue.EntryTicks.{EntryTicks}
use Rattle.st_plain.specs.declared.known.Code.{Code}
use Rattle.st_lines.specs.declared.lines.Alone.{Alone}
use Rattle.st_lines.specs.declared.lines.Alone.TheVariants.{Table, Execute, Register, Operation}
use Rattle.st_lines.specs.declared.lines.Why.{Why}
use Rattle.st_lines.specs.declared.lines.Why.TheVariants.{Run, Interrupt, Mispredicted, Card}
use Rattle.st_lines.specs.declared.origins.Origin.{Origin}

-- the line of the number n of levels
abbrev pub ledger_levels_line : ℕ → List ℕ
ledger_levels_line n = codes "LEVELS " ++ decimal n ++ lf

-- numbers, each after a blank
unfoldable pub numbers_text : List ℕ → List ℕ
numbers_text [] = []
numbers_text (n ∷ ns) = codes " " ++ decimal n ++ numbers_text ns

-- the line of some delays
unfoldable pub delays_line : List ℕ → List ℕ
delays_line ds = codes "DELAYS" ++ numbers_text ds ++ lf

-- n lines of ten delays each; the last may have fewer
unfoldable pub tens_of : ℕ → List ℕ → List (List ℕ)
tens_of zero ds = []
tens_of (suc n) ds = delays_line (take 10 ds) ∷ tens_of n (drop 10 ds)

-- the lines of all delays, ten in each line
abbrev pub delays_lines : List ℕ → List (List ℕ)
delays_lines ds = tens_of ((length ds + 9) / 10) ds

-- the line of word w with its value
abbrev pub word_line : ℕ → ℕ → List ℕ
word_line w word = codes "WORD " ++ decimal w ++ codes " IS " ++ hex_word word ++ lf

-- the line of word w with its old and its new value
abbrev pub changed_line : ℕ → ℕ → ℕ → List ℕ
changed_line w was is =
    codes "WORD " ++ decimal w ++ codes " WAS " ++ hex_word was ++ codes " IS " ++ hex_word is ++ lf

-- why a segment begins
abbrev pub why_text : Why → List ℕ
why_text Run = codes "RUN"
why_text (Interrupt i) = codes "INTERRUPT " ++ decimal i
why_text Mispredicted = codes "MISSED"
why_text Card = codes "CARD"

-- the line of the start of segment k at a tick, with whether the machine had waited and why the
-- segment begins
abbrev pub start_line : ℕ → ℕ → Bool → Why → List ℕ
start_line k tick waited why =
    codes "SEGMENT " ++ decimal k ++ codes " START " ++ decimal tick ++ codes " WAITED "
    ++ flag waited
    ++ codes " BY " ++ why_text why ++ lf

-- the line of the end of segment k at a tick
abbrev pub segment_end_line : ℕ → ℕ → List ℕ
segment_end_line k tick = codes "SEGMENT " ++ decimal k ++ codes " END " ++ decimal tick ++ lf

-- the line of a branch on an indicator that was mispredicted
abbrev pub missed_line : List ℕ
missed_line = codes "MISSED" ++ lf

-- the text of the reason why an entry is serialized
abbrev pub alone_text : Alone → List ℕ
alone_text (Table i) = codes "TABLE " ++ decimal i
alone_text Execute = codes "EXECUTE"
alone_text Register = codes "REGISTER"
alone_text Operation = codes "OPERATION"

abbrev pub alone_line : Alone → List ℕ
alone_line why = codes "ALONE " ++ alone_text why ++ lf

-- the line of an entry that is suppressed with indicator i
abbrev pub suppressed_line : ℕ → List ℕ
suppressed_line i = codes "SUPPRESSED " ++ decimal i ++ lf

-- the line of the card that an entry comes from, with whether storage still has the card's bits
abbrev pub emitted_line : Origin → List ℕ
emitted_line o = codes "LAID " ++ decimal o.card ++ codes " KEPT " ++ flag o.kept ++ lf

-- the line of n words from word w on that an entry writes
abbrev pub writes_line : ℕ → ℕ → List ℕ
writes_line w n = codes "WRITES " ++ decimal w ++ codes " " ++ decimal n ++ lf

-- the line of an index word that an entry changes speculatively
abbrev pub index_line : IndexChange → List ℕ
index_line x =
    codes "INDEX " ++ decimal x.number ++ codes " WAS " ++ hex_word x.kept ++ codes " IS "
    ++ hex_word x.word ++ lf

-- the text of the n-th entry, which ran ahead, with its address and its ticks
abbrev pub ahead_text : ℕ → ℕ → EntryTicks → List ℕ
ahead_text n address row =
    decimal n ++ codes " " ++ half_address address
    ++ codes " A " ++ decimal row.a ++ codes " P " ++ decimal row.p ++ codes " R " ++ decimal row.r

-- the line of an entry that is dropped
abbrev pub dropped_line : ℕ → ℕ → EntryTicks → List ℕ
dropped_line n address row = codes "DROP " ++ ahead_text n address row ++ lf

-- the line of an entry that had begun but was not prepared in time; the ticks are those that it
-- would have had
abbrev pub begun_line : ℕ → ℕ → EntryTicks → List ℕ
begun_line n address row = codes "BEGUN " ++ ahead_text n address row ++ lf

-- the text of the second half-word of a full word; empty for a half-word
abbrev pub second_half_text : Option ℕ → List ℕ
second_half_text None = []
second_half_text (Some half) = codes " " ++ hex_text 8 half

-- the line of the half-words that an entry executes
abbrev pub code_line : Code → List ℕ
code_line code = codes "CODE " ++ hex_text 8 code.first ++ second_half_text code.second ++ lf

-- the line of the number of ticks for which an entry waited for a level
abbrev pub level_wait_line : ℕ → List ℕ
level_wait_line d = codes "LEVEL " ++ decimal d ++ lf
