-- The cause for which a row was not prepared earlier: the end of the path that leads back from its
-- completion. Words are listed youngest first: those of the row, and those of the row before it.
--
-- Proved: by their `ensures` clauses these calls do what definitions here say: `back_to`
-- (because.rt), `bus_or_order` (because.rt), `done_at` (because.rt), `earlier_reason` (because.rt),
-- and others.
-- Read by: definitions in Paths, Served, Rounds of st_account, Text of st_account, and others.
-- Laws: ReasonsAreTrue (specs/ReasonLaws.antt).
-- Change: the meaning is fixed by docs/ledger.md, since the contract of `st_account::ledger`
-- unfolds to a definition here. The form is free, with the proofs that unfold it.
use Rattle.std.specs.Prelude.{ℕ, ◌-◌, Bool, ◌&&◌, ◌||◌, nat_eq, nat_le, nat_lt, if◌then◌else◌, List, [], ◌∷◌, find, length, reverse, Option, None, Some, unwrap_or}
use Rattle.std.specs.List.{list_any}
use Rattle.st_bits.specs.declared.register.TheConstants.{FIRST_STORAGE_WORD}
use Rattle.st_rows.specs.Entries.{latest_done}
use Rattle.st_rows.specs.Rows.{done_before}
use Rattle.st_rows.specs.declared.entry.Entry.{Entry}
use Rattle.st_rows.specs.declared.issue.IssueState.{IssueState}
use Rattle.st_rows.specs.declared.past.Past.{Past}
use Rattle.st_rows.specs.declared.uses.Role.TheVariants.{Instruction}
use Rattle.st_rows.specs.declared.uses.Supply.{Supply}
use Rattle.st_rows.specs.declared.uses.Supply.TheVariants.{Read, Held, Forwarded, Register}
use Rattle.st_rows.specs.declared.uses.Use.{Use}
use Rattle.st_rows.specs.declared.uses.Writer.{Writer}
use Rattle.st_ledger.specs.Words.{is_read, read_of, is_instruction, is_index, decides}
use Rattle.st_ledger.specs.declared.because.StallCause.{StallCause}
use Rattle.st_ledger.specs.declared.because.StallCause.TheVariants.{Start, Prefetch, Earlier}
use Rattle.st_ledger.specs.declared.because.Reason.{Reason}
use Rattle.st_ledger.specs.declared.because.Reason.TheVariants.{Serial, Store, Level, Forwarding, Bus, Order}

-- a cause with its reason, its distance in rows, the tick at which the path ends, and the greatest
-- number of ticks by which it delayed the row
abbrev pub row_reason : Reason → ℕ → ℕ → ℕ → StallCause
row_reason reason back tick late =
    Earlier (record { reason = reason; back = back; tick = tick; late = late })

-- the distance, 1 to 8, to the entry that completes at tick t; 0 if there is none
abbrev pub back_to : ℕ → List Past → ℕ
back_to t past = unwrap_or (find (λ k. nat_eq (done_before k past) t)
    (1 ∷ 2 ∷ 3 ∷ 4 ∷ 5 ∷ 6 ∷ 7 ∷ 8 ∷ [])) 0

-- whether no entry of the segment precedes the one after this issue state
abbrev pub is_first : IssueState → Bool
is_first f = nat_eq (done_before 1 f.past) 0

-- ---- the events at a tick

-- whether the latest writer of the word w, if w is not a register, completes at tick t
abbrev pub is_written : List Past → ℕ → ℕ → Bool
is_written past t w = nat_le FIRST_STORAGE_WORD w && nat_eq (latest_done past w) t

-- whether a word is used as an instruction word and its latest writer completes at tick t
unfoldable pub is_stored : List Past → ℕ → Use → Bool
is_stored past t u = is_instruction u.role && is_written past t u.word

-- the cause of a completion at tick t: the entry before, if it is serialized or the awaited words
-- must come after it; or an entry that wrote one of these words
unfoldable pub reason_done : IssueState → Bool → ℕ → List Use → Option StallCause
reason_done f alone t words =
    if is_first f then None
    else if nat_eq t f.c && (alone || f.serial)
    then Some (row_reason Serial (if f.serial then 1 else 0) t (t - f.p))
    else if list_any (is_stored f.past t) words
    then Some (row_reason Store (back_to t f.past) t (t - f.p))
    else None

-- the cause without other events: the start of the segment, or the preparation of the entry before
unfoldable pub reason_in_order : IssueState → StallCause
reason_in_order f = if is_first f then Start f.p else row_reason Order 1 f.p 0

-- the cause at tick t if no word was answered: the last read of the row before, if it was accepted
-- at t, after that row was prepared; else the order
unfoldable pub reason_of_bus : IssueState → ℕ → List Use → StallCause
reason_of_bus f t [] = reason_in_order f
reason_of_bus f t (u ∷ older) =
    if is_read u.supply
    then if nat_eq (read_of u.supply).accept t && nat_lt f.p t
    then row_reason Bus 1 (read_of u.supply).want (t - f.p)
    else reason_in_order f
    else reason_of_bus f t older

-- ---- the path

-- the first cause if it is present, else the second
abbrev pub reason_or : Option StallCause → StallCause → StallCause
reason_or (Some reason) other = reason
reason_or None other = other

-- the cause on the path from tick t backwards: if an instruction word was answered at t, an earlier
-- row requested it, or the path continues at its want. `own` is the number of instruction words
-- outside the target of EX, which must come after the entry before
unfoldable pub reason_of_words : IssueState → ℕ → List Use → ℕ → List Use → StallCause
reason_of_words f own before t [] = reason_of_bus f t before
reason_of_words f own before t (u ∷ earlier) =
    if decides Instruction t u earlier
    then if is_read u.supply
    then reason_or
    (reason_done f (nat_le own (length earlier)) (read_of u.supply).want earlier)
    (reason_of_words f own before (read_of u.supply).want earlier)
    else Prefetch (record { word = u.word; late = t - f.p })
    else reason_of_words f own before t earlier

-- the cause on the path from tick t on, at which everything was available that the address is
-- formed from
abbrev pub reason_of_address : IssueState → Entry → ℕ → List Use → List Use → StallCause
reason_of_address f e t before words =
    reason_or (reason_done f e.serial t words) (reason_of_words f e.own.len before t words)

-- ---- the row

-- the writer of a word that is forwarded; None if it is not forwarded
unfoldable pub writer_of_supply : Supply → Option Writer
writer_of_supply (Read r) = None
writer_of_supply (Held answer) = None
writer_of_supply (Forwarded w) = Some w
writer_of_supply Register = None

-- the writer of the index-side word, if that is forwarded
unfoldable pub side_writer : List Use → Option Writer
side_writer [] = None
side_writer (u ∷ uses) = if is_index u.role then writer_of_supply u.supply else side_writer uses

abbrev pub reason_of_side : Option Writer → ℕ → StallCause → StallCause
reason_of_side (Some w) a other = row_reason Forwarding w.back w.done (w.done - a)
reason_of_side None a other = other

-- the cause that delayed the entry e after the issue state f, whose address is formed at tick a and
-- which is prepared at p, `wait` ticks later because no level was free: the level, the index-side
-- word, or else the cause of the address. `words` are the words that it uses until its address is
-- formed, and `before` those of the row before, none for the first row of a segment; both are in
-- the order of their reads
unfoldable pub because : IssueState → Entry → ℕ → ℕ → ℕ → List Use → List Use → StallCause
because f e a p wait words before =
    if nat_lt 0 wait then row_reason Level (back_to (p - 1) f.past) (p - 1) wait
    else reason_of_side (side_writer words) a
    (reason_of_address f e (a - 1) (reverse before) (reverse words))
