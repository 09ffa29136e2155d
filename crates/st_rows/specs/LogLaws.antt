-- Laws of the log of reads, by which the end of a segment undoes late reads.
--
-- Proved: each law has its lemma in proofs/LogLaws.antt, with its name in small letters.
-- Change: docs/promises.txt lists each law, and the gate compares the list with the laws.
use Rattle.std.specs.Prelude.{ℕ, ◌≡◌, ◌≤◌, List, [], ◌∷◌, ◌++◌, length, take, drop}
use Rattle.st_rows.specs.Asked.{bus_after_reads, made_before}
use Rattle.st_rows.specs.BusTimes.{Read}
use Rattle.st_rows.specs.Notes.{note, notes_of_reads, answers_left, AreEarly, AreFalling, IsLogged}
use Rattle.st_rows.specs.declared.bus.Bus.{Bus}
use Rattle.st_rows.specs.declared.log.Made.{Made}

-- Reads are accepted in order: a record has a later tick than all older records.
abbrev pub AcceptsRise : Type 0
AcceptsRise = (ds : List ℕ) (reads : List Read) (b : Bus) → AreFalling (notes_of_reads ds reads b)

-- Undoing the late ones of these reads restores the last answers of the banks after only the early
-- reads.
abbrev pub UndoneIsMadeBefore : Type 0
UndoneIsMadeBefore = (ds : List ℕ) (t : ℕ) (reads : List Read) (b : Bus) (log : List Made) →
    IsLogged ds t reads b log
    → ((older : List Made) → AreEarly t older → AreEarly t
    (drop 64 (notes_of_reads ds reads b ++ older)))
    → answers_left t log (bus_after_reads ds reads b).banks.ticks
    ≡ (made_before ds t reads b).banks.ticks

-- The log is long enough if the bus is free by the tick t after the first reads, and at most 64
-- reads follow them.
abbrev pub FewAreUndone : Type 0
FewAreUndone = (ds : List ℕ) (t : ℕ) (first rest : List Read) (b : Bus) (older : List Made) →
    length rest ≤ 64
    → (bus_after_reads ds first b).free ≤ t → AreEarly t older →
    AreEarly t (drop 64 (notes_of_reads ds (first ++ rest) b ++ older))

-- A log remains valid as reads are made, as ticks pass, and without the first reads, if the bus is
-- free by now after those.
pub record LogsGoOn : Type 0 where
  pub opened : (ds : List ℕ) (now : ℕ) (b : Bus) → IsLogged ds now [] b []
  pub made : (ds : List ℕ) (now : ℕ) (reads : List Read) (r : Read) (b : Bus) (log : List Made) →
      IsLogged ds now reads b log
      → IsLogged ds now (reads ++ r ∷ []) b (take 64 (note (bus_after_reads ds reads b) r ∷ log))
  pub later : (ds : List ℕ) (now later : ℕ) (reads : List Read) (b : Bus) (log : List Made) → now
      ≤ later
      → IsLogged ds now reads b log → IsLogged ds later reads b log
  pub left_behind : (ds : List ℕ) (now : ℕ) (first rest : List Read) (b : Bus) (log : List Made) →
      (bus_after_reads ds first b).free ≤ now
      → IsLogged ds now (first ++ rest) b log → IsLogged ds now rest
      (bus_after_reads ds first b) log
