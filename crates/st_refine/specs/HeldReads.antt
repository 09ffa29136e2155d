-- The held instruction words after reads.
--
-- Proved: no `ensures` clause names a definition of this file.
-- Laws: HeldWordsAreThoseOfReads (specs/Laws.antt).
-- Change: no page fixes these definitions, since no contract of a program unfolds to them; they
-- change together with the clauses, definitions and laws that name them. docs/inside.md describes
-- the subject.
use Rattle.std.specs.Prelude.{ℕ, if◌then◌else◌, List, [], ◌∷◌, ◌++◌}
use Rattle.st_fetch.specs.declared.fetched.AskedWord.{AskedWord}
use Rattle.st_rows.specs.BusTimes.{answer_at, Read, after_one}
use Rattle.st_rows.specs.declared.bus.Bus.{Bus}

-- the held word after the read r on the bus b, if it is a read of an instruction word: the word
-- with the tick of its answer
abbrev pub held_by : List ℕ → Bus → Read → List AskedWord
held_by ds b r = if r.fetch then record { w = r.w; tick = answer_at ds b r.w r.want } ∷ [] else []

-- the held words after successive reads from the bus b, the youngest first
unfoldable pub held_of_reads : List ℕ → List Read → Bus → List AskedWord
held_of_reads ds [] b = []
held_of_reads ds (r ∷ reads) b = held_of_reads ds reads (after_one ds b r) ++ held_by ds b r
