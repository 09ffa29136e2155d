-- Records of reads, by which the reads can be undone. They are in order, youngest first.
-- docs/inside.md ("Reads and their log") says what they are for.
--
-- bus.rt makes each record (`note`), and log.rt keeps 64 and undoes late ones (`answers_left`).
-- Clauses of st_rows, st_next, st_plain and st_account say which reads are recorded
-- (`log_after_reads`); st_ahead and st_account keep `IsLogged` of their log, and st_ahead defines
-- the banks at an end by `answers_left`; a law of st_refine uses `AreEarly`. Proved, in
-- LogLaws.antt: ticks of records rise (`AcceptsRise`); undoing late reads leaves the banks as the
-- early reads do (`UndoneIsMadeBefore`); 64 records are enough if at most 64 reads follow those
-- after which the bus is free (`FewAreUndone`); reads and ticks keep `IsLogged` (`LogsGoOn`).
--
-- Proved: by their `ensures` clauses these calls do what definitions here say: `read` (bus.rt),
-- `request` (bus.rt), `word` (fetching.rt), `fill` (issue.rt), and others.
-- Read by: definitions in Going of st_next, Forecast of st_ahead, Inside of st_ahead, Standing of
-- st_account.
-- Laws: UndoneIsMadeBefore (specs/LogLaws.antt), AcceptsRise (specs/LogLaws.antt), FewAreUndone
-- (specs/LogLaws.antt), LogsGoOn (specs/LogLaws.antt), and others.
-- Change: no page fixes these definitions, since no contract of a program unfolds to them; they
-- change together with the clauses, definitions and laws that name them. docs/timetable.md
-- describes the subject.
use Rattle.std.specs.Prelude.{ℕ, ◌≡◌, ◌<◌, nat_lt, if◌then◌else◌, List, [], ◌∷◌, ◌++◌, take, All}
use Rattle.st_banks.specs.Bank.{last_of, answered_at}
use Rattle.st_rows.specs.BusTimes.{accept_at, Read, after_one}
use Rattle.st_rows.specs.declared.bus.Bus.{Bus}
use Rattle.st_rows.specs.declared.log.Made.{Made}

-- the record of a read on the bus b
abbrev pub note : Bus → Read → Made
note b r = record { tick = accept_at b r.w r.want; before = last_of b.banks.ticks r.w; w = r.w }

-- the records of successive reads from the bus b
unfoldable pub notes_of_reads : List ℕ → List Read → Bus → List Made
notes_of_reads ds [] b = []
notes_of_reads ds (r ∷ reads) b = notes_of_reads ds reads (after_one ds b r) ++ note b r ∷ []

-- the log after the reads of a list, given the log before them: the last 64 records
unfoldable pub log_after_reads : List ℕ → List Read → Bus → List Made → List Made
log_after_reads ds [] b log = log
log_after_reads ds (r ∷ reads) b log = log_after_reads ds reads (after_one ds b r)
    (take 64 (note b r ∷ log))

-- the last answers of the banks after reads are undone, youngest first, up to the first that is
-- accepted before the tick t
unfoldable pub answers_left : ℕ → List Made → List ℕ → List ℕ
answers_left t [] answers = answers
answers_left t (m ∷ notes) answers = if nat_lt m.tick t then answers
    else answers_left t notes (answered_at answers m.w m.before)

-- all of these reads are accepted before the tick t
abbrev pub AreEarly : ℕ → List Made → Type 0
AreEarly t notes = All (λ m. m.tick < t) notes

-- the youngest of these reads is accepted before the tick t
abbrev pub AreSettled : ℕ → List Made → Type 0
AreSettled t [] = Unit {0}
AreSettled t (m ∷ notes) = m.tick < t

-- each of these reads is accepted before the younger ones
abbrev pub AreFalling : List Made → Type 0
AreFalling [] = Unit {0}
AreFalling (m ∷ notes) = AreEarly m.tick notes × AreFalling notes

-- a log contains the last 64 records of these reads, which are made from the bus b, and of older
-- reads, which are accepted before the tick now
pub record IsLogged (ds : List ℕ) (now : ℕ) (reads : List Read) (b : Bus)
    (log : List Made) : Type 0 where
  pub older : List Made
  pub early : AreEarly now older
  pub notes : log ≡ take 64 (notes_of_reads ds reads b ++ older)
