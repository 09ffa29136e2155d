-- The bytes of each line of the report, including its line end.
--
-- Proved: by their `ensures` clauses these calls do what definitions here say: `line_fault`
-- (job.rt), `line_soak` (job.rt), `two_digits` (kept.rt), `zeros_before` (kept.rt), and others.
-- Read by: definitions in Report of st_telling, BorderLines of st_lines, LedgerSums of st_account,
-- Text of st_account, and others.
-- Laws: LedgersTellWhereTicksWent (specs/Laws.antt of st_causes).
-- Change: the meaning is fixed by docs/report.md, since the contracts of `st_top::stretch` and
-- `st_account::ledger` unfold to a definition here. The form is free, with the proofs that unfold
-- it.
use Rattle.std.specs.Prelude.{ℕ, ◌/◌, ◌%◌, Bool, true, false, List, ◌++◌, codes, decimal, Option, Some, None}
use Rattle.st_text.specs.Bytes.{lf}
use Rattle.st_text.specs.Numerals.{hex_word, half_address, flag}

-- a number below 100 as two decimal digits
abbrev pub two_digits : ℕ → List ℕ
two_digits n = decimal (n / 10) ++ decimal (n % 10)

-- the line of a made deck: its seed and the number of its cards
abbrev pub soak_line : ℕ → ℕ → List ℕ
soak_line number cards = codes "SOAK " ++ decimal number ++ codes " " ++ decimal cards ++ lf

-- the line of a refused job: the first faulty card and the name of its fault
abbrev pub fault_line : ℕ → List ℕ → List ℕ
fault_line card name = codes "CARD " ++ decimal card ++ codes " " ++ name ++ lf

-- the trace line of the n-th completed instruction, with its address
abbrev pub trc_line : ℕ → ℕ → List ℕ
trc_line n address = codes "TRC " ++ decimal n ++ codes " " ++ half_address address ++ lf

-- the line of a print
abbrev pub prt_line : List ℕ → List ℕ
prt_line text = codes "PRT " ++ text ++ lf

-- the line of the interrupt by indicator i after n completed instructions
abbrev pub int_line : ℕ → ℕ → List ℕ
int_line i n = codes "INT " ++ decimal i ++ codes " AFTER " ++ decimal n ++ lf

-- the line of the end of a run: true if the machine waits, false if the budget is used up
abbrev pub end_line : Bool → List ℕ
end_line true = codes "END WAIT" ++ lf
end_line false = codes "END BUDGET" ++ lf

-- the line of the count of completed instructions
abbrev pub done_line : ℕ → List ℕ
done_line m = codes "DONE " ++ decimal m ++ lf

-- the line of the number of steps back
abbrev pub back_line : ℕ → List ℕ
back_line j = codes "BACK " ++ decimal j ++ lf

-- the line of the program counter
abbrev pub ic_line : ℕ → List ℕ
ic_line ic = codes "IC " ++ half_address ic ++ lf

-- the line that shows whether interrupts are enabled
abbrev pub en_line : Bool → List ℕ
en_line enabled = codes "EN " ++ flag enabled ++ lf

-- the line of a register
abbrev pub reg_line : ℕ → ℕ → List ℕ
reg_line w word = codes "REG " ++ two_digits w ++ codes " " ++ hex_word word ++ lf

-- the line of the range of a dump
abbrev pub dump_line : ℕ → ℕ → List ℕ
dump_line from to = codes "DUMP " ++ decimal from ++ codes " " ++ decimal to ++ lf

-- the line of a word of storage
abbrev pub mem_line : ℕ → ℕ → List ℕ
mem_line w word = codes "MEM " ++ decimal w ++ codes " " ++ hex_word word ++ lf

-- the line of the tick of the last completion
abbrev pub ticks_line : ℕ → List ℕ
ticks_line t = codes "TICKS " ++ decimal t ++ lf

-- the line of the tick of an interrupt
abbrev pub time_line : ℕ → List ℕ
time_line t = codes "TIME " ++ decimal t ++ lf

-- the row of the n-th completed instruction: prepared at p, operands there by r, completed at c
abbrev pub row_line : ℕ → ℕ → ℕ → ℕ → ℕ → List ℕ
row_line n address p r c = codes "ROW " ++ decimal n ++ codes " " ++ half_address address
    ++ codes " P " ++ decimal p ++ codes " R " ++ decimal r ++ codes " C " ++ decimal c ++ lf

-- the line of a flushed entry that was prepared at tick p
abbrev pub drop_line : ℕ → ℕ → List ℕ
drop_line address p = codes "DROP " ++ half_address address ++ codes " P " ++ decimal p ++ lf

-- the first line of a snapshot at tick t: q completed instructions and k entries in flight
abbrev pub snap_line : ℕ → ℕ → ℕ → List ℕ
snap_line t q k =
    codes "SNAP " ++ decimal t ++ codes " DONE " ++ decimal q ++ codes " AHEAD " ++ decimal k ++ lf

-- the text of a level's changed index word, with its contents before the change; a dash for none
abbrev pub change_text : Option (ℕ × ℕ) → List ℕ
change_text None = codes "-"
change_text (Some change) = decimal change.0 ++ codes " OLD " ++ hex_word change.1

-- the line of a level: its address, its speculative change, and whether its operands have arrived
abbrev pub lev_line : ℕ → Option (ℕ × ℕ) → Bool → List ℕ
lev_line address index ready = codes "LEV " ++ half_address address
    ++ codes " X " ++ change_text index ++ codes " READY " ++ flag ready ++ lf

-- the line of a sweep for n levels: the tick of the last completion
abbrev pub levels_line : ℕ → ℕ → List ℕ
levels_line n t = codes "LEVELS " ++ decimal n ++ codes " TICKS " ++ decimal t ++ lf

-- the line that shows whether a run on machines of one to eight levels is calm
abbrev pub calm_line : Bool → List ℕ
calm_line calm = codes "CALM " ++ flag calm ++ lf
