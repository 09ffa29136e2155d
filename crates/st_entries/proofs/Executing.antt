-- At most one row executes at a tick: the proof, line by line.
use Rattle.std.proofs.Common.{◌≡◌, ◌≤◌, ◌+◌, refl, ℕ, nat_le, if◌then◌else◌, Bool, true, false, List, [], ◌∷◌, ◌++◌, reverse, Option, None, Some, arith}
use Rattle.std.proofs.lemmas.Bool.{leb-true}
use Rattle.std.proofs.lemmas.List.{reverse-append}
use Rattle.st_text.specs.Pieces.{pieces_of}
use Rattle.st_entries.specs.Phases.{executing_at, turn_of}
use Rattle.st_entries.specs.Report.{item}
use Rattle.st_entries.specs.Timetable.{Timetable, timetable_at_start, is_in_part, timetable_with, after_said, after_line, after_lines, timetable}
use Rattle.st_entries.specs.Completions.{completion_after, CompletionsRise}
use Rattle.st_entries.specs.declared.report.TimetableLine.{TimetableLine}
use Rattle.st_entries.specs.declared.report.TimetableLine.TheVariants.{Row, Drop, Interrupt, Snapshot}
use Rattle.st_entries.specs.declared.report.ReportAddress.{ReportAddress}
use Rattle.st_entries.specs.declared.timetable.DrawnEntry.{DrawnEntry}
use Rattle.st_entries.specs.declared.timetable.DrawnEntry.TheVariants.{Done, Dropped, Taken, Shown}
use Rattle.st_entries.specs.declared.timetable.RowRange.{RowRange}

-- the executing entries of two concatenated lists
executing_append : (tick : ℕ) (a b : List DrawnEntry) → executing_at tick (a ++ b) ≡ executing_at tick a + executing_at tick b
executing_append tick [] b = omega arith
executing_append tick (e ∷ es) b = let rest = executing_append tick es b in omega (arith, rest)

-- the executing entries of a reversed list
executing_reverse : (tick : ℕ) (es : List DrawnEntry) → executing_at tick (reverse es) ≡ executing_at tick es
executing_reverse tick [] = refl
executing_reverse tick (e ∷ es) =
    let turned : reverse (e ∷ es) ≡ reverse es ++ e ∷ [] = reverse-append (e ∷ []) es in
    let rest = executing_reverse tick es in
    let both = executing_append tick (reverse es) (e ∷ []) in
    rw (turned, both) (omega (arith, rest))

-- an entry that is kept or dropped by a test
kept_by_test : (tick : ℕ) (e : DrawnEntry) (es : List DrawnEntry) (kept : Bool)
    → executing_at tick (if kept then es ++ e ∷ [] else es) ≤ executing_at tick es + executing_at tick (e ∷ [])
kept_by_test tick e es true = let both = executing_append tick es (e ∷ []) in omega (arith, both)
kept_by_test tick e es false = omega arith

-- a row executes at most at the ticks from the completion before it to its own
row_executes : (tick before n p r c : ℕ) (a : ReportAddress) → before ≤ c
    → executing_at tick (Done n a p r (turn_of before r c) c ∷ []) ≤ (if nat_le before tick then 1 else 0)
row_executes tick before n p r c a rise = grind (arith, rise)

-- a row does not execute after its completion
row_is_over : (tick before n p r c : ℕ) (a : ReportAddress) → c ≤ tick
    → executing_at tick (Done n a p r (turn_of before r c) c ∷ []) ≡ 0
row_is_over tick before n p r c a over = grind (arith, over)

-- the timetable so far: at most one entry executes at a tick, none after the last completion, and
-- no dropped entry
record IsOnce (tick : ℕ) (t : Timetable) : Type 0 where
  pub one : executing_at tick t.entries ≤ 1
  pub over : t.end ≤ tick → executing_at tick t.entries ≡ 0
  pub dropped : executing_at tick t.dropped ≡ 0

-- one more entry after all earlier ones
joined_at_most : (part : RowRange) (tick n : ℕ) (e : DrawnEntry) (t : Timetable) → IsOnce tick t
    → executing_at tick (timetable_with part n e t).entries ≤ executing_at tick t.entries + executing_at tick (e ∷ [])
joined_at_most part tick n e t is =
    let most = kept_by_test tick e (t.entries ++ reverse t.dropped) (is_in_part part n) in
    let both = executing_append tick t.entries (reverse t.dropped) in
    let none = executing_reverse tick t.dropped in
    omega (arith, most, both, none, is.dropped)

-- one more entry that does not execute, after all earlier ones
joined_once : (part : RowRange) (tick n : ℕ) (e : DrawnEntry) (t : Timetable) → executing_at tick (e ∷ []) ≡ 0 → IsOnce tick t
    → IsOnce tick (timetable_with part n e t)
joined_once part tick n e t rests is =
    let most = joined_at_most part tick n e t is in
    record {
      one = omega (arith, most, rests, is.one);
      over = λ past. omega (arith, most, rests, is.over past);
      dropped = refl;
    }

-- at most one entry executes after one more row, by whether the last completion is past
one_by : (past : Bool) (tick before all so_far here : ℕ) → nat_le before tick ≡ past → so_far ≤ 1
    → (before ≤ tick → so_far ≡ 0) → here ≤ (if past then 1 else 0) → all ≤ so_far + here → all ≤ 1
one_by true tick before all so_far here test one over most sum = omega (arith, over (leb-true _ _ test), most, sum)
one_by false tick before all so_far here test one over most sum = omega (arith, one, most, sum)

-- the timetable after one line
said_once : (part : RowRange) (tick : ℕ) (t : Timetable) (said : Option TimetableLine) → t.end ≤ completion_after t.end said
    → IsOnce tick t → IsOnce tick (after_said part t said)
said_once part tick t None rise is = is
said_once part tick t (Some (Row n a p r c)) rise is =
    let most = joined_at_most part tick n (Done n a p r (turn_of t.end r c) c) t is in
    let here = row_executes tick t.end n p r c a rise in
    record {
      one = one_by (nat_le t.end tick) tick t.end _ _ _ refl is.one is.over here most;
      over = λ past. omega (arith, most, row_is_over tick t.end n p r c a past, is.over (omega (arith, rise, past)));
      dropped = refl;
    }
said_once part tick t (Some (Drop a p)) rise is =
    let most = kept_by_test tick (Dropped a p t.end) t.dropped (is_in_part part t.row) in
    record {
      one = is.one;
      over = is.over;
      dropped = omega (arith, most, is.dropped);
    }
said_once part tick t (Some (Interrupt i)) rise is = joined_once part tick t.row (Taken i t.end) t refl is
said_once part tick t (Some (Snapshot s)) rise is = joined_once part tick t.row (Shown s) t refl is

-- the last completion after a line
said_end : (part : RowRange) (t : Timetable) (said : Option TimetableLine) → (after_said part t said).end ≡ completion_after t.end said
said_end part t None = refl
said_end part t (Some (Row n a p r c)) = refl
said_end part t (Some (Drop a p)) = refl
said_end part t (Some (Interrupt i)) = refl
said_end part t (Some (Snapshot s)) = refl

-- the timetable after several lines
lines_once : (part : RowRange) (tick : ℕ) (t : Timetable) (lines : List (List ℕ)) → CompletionsRise t.end lines
    → IsOnce tick t → IsOnce tick (after_lines part t lines)
lines_once part tick t [] rise is = is
lines_once part tick t (line ∷ lines) rise is =
    let next : CompletionsRise (after_line part t line).end lines = rw (said_end part t (item line)) rise.1 in
    lines_once part tick (after_line part t line) lines next (said_once part tick t (item line) rise.0 is)

-- the timetable of a report
pub executing_once : (part : RowRange) (report : List ℕ) (tick : ℕ) → CompletionsRise 0 (pieces_of 10 report)
    → executing_at tick (timetable part report).entries ≤ 1
unfolding timetable
executing_once part report tick rise =
    let read = after_lines part timetable_at_start (pieces_of 10 report) in
    let is = lines_once part tick timetable_at_start (pieces_of 10 report) rise (record { one = omega arith; over = λ past. refl; dropped = refl }) in
    let both = executing_append tick read.entries (reverse read.dropped) in
    let none = executing_reverse tick read.dropped in
    omega (arith, both, none, is.one, is.dropped)
