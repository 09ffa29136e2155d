-- Lines that were written to a sink, all or some of them.
--
-- Proved: by their `ensures` clauses these calls do what definitions here say: `write_line`
-- (lines.rt), `write_registers` (block.rt of st_telling), `write_words` (block.rt of st_telling),
-- `write_ended` (objects.rt of st_top), and others.
-- Read by: definitions in Event, Answers of st_account, Report of st_telling, Running of
-- st_telling, and others.
-- Laws: EachTextHasOneReading (specs/Laws.antt of st_top), LinesAreTheDeck (specs/Laws.antt of
-- st_top), LinesAreTheObjectText (specs/Laws.antt of st_top).
-- Change: the meaning is fixed by docs/report.md, since the contracts of `st_top::stretch` and
-- `st_account::ledger` unfold to a definition here. The form is free, with the proofs that unfold
-- it.
use Rattle.std.specs.Prelude.{◌≡◌, ◌≢◌, ℕ, ◌+◌, zero, suc, List, [], ◌∷◌, ◌++◌, Result, OnOk, OnErr}
use Rattle.std.specs.List.{concat}
use Rattle.st_io.specs.Count.{HasRisen}
use Rattle.st_io.specs.Output.{OutputState, Appends, Wrote}
use Rattle.st_io.specs.declared.Failed.{Failed}

-- the bytes of a list of lines
abbrev pub text : List (List ℕ) → List ℕ
text lines = concat lines

-- the lines that the function give returns for each of n numbers from first
unfoldable pub lines_for : (ℕ → List (List ℕ)) → ℕ → ℕ → List (List ℕ)
lines_for give zero first = []
lines_for give (suc n) first = give first ++ lines_for give n (first + 1)

-- the writing stopped in one of the lines: the lines before it are written, and a proper prefix of
-- it
pub record StoppedIn (before after : OutputState) (lines : List (List ℕ)) : Type 0 where
  pub earlier : List (List ℕ)
  pub failed : List ℕ
  pub later : List (List ℕ)
  pub order : lines ≡ earlier ++ failed ∷ later
  pub front : List ℕ
  pub rest : List ℕ
  pub parts : failed ≡ front ++ rest
  pub proper : rest ≢ []
  pub appended : Appends before.written after.written (text earlier ++ front)
  pub risen : HasRisen before.faults after.faults

-- all lines are written on Ok; on a failure the writing stopped in one of them
pub record WritesLines (before after : OutputState) (lines : List (List ℕ))
    (result : Result (Unit {0}) Failed) : Type 0 where
  pub ok : OnOk result (Wrote before after (text lines))
  pub err : OnErr result (StoppedIn before after lines)
