-- Predicted entries without a serializing one among them, and the words that they write.
--
-- Proved: by their `ensures` clauses these calls do what definitions here say: `push` (levels.rt of
-- st_ring), `contents` (fetch_unit.rt of st_next), `word_at` (fetch_unit.rt of st_next).
-- Read by: definitions in Levels of st_ring, Going of st_next, Going of st_ahead.
-- Laws: PredictionsLeaveTheRest (specs/Laws.antt), SignalsArePassedOver (specs/Laws.antt),
-- EntriesAreInRange (specs/Laws.antt), EntriesBehindAreSeen (specs/Laws.antt), and others.
-- Change: no page fixes these definitions, since no contract of a program unfolds to them; they
-- change together with the clauses, definitions and laws that name them. docs/timetable.md
-- describes the subject.
use Rattle.std.specs.Prelude.{ℕ, zero, suc, ◌≡◌, ◌+◌, false, Bool, ◌||◌, List, [], ◌∷◌, Option, None}
use Rattle.st_state.specs.Machine.{Machine}
use Rattle.st_prep.specs.Plan.{plan}
use Rattle.st_prep.specs.BesideOrders.{AreAlikeBesideOrders}
use Rattle.st_exec.specs.Completion.{prediction}
use Rattle.st_rows.specs.Entries.{is_among}
use Rattle.st_rows.specs.declared.entry.WordRun.{WordRun}
use Rattle.st_segment.specs.Entries.{entry}
use Rattle.st_segment.specs.Ahead.{Ahead}

-- none of the next k predicted entries is serializing
unfoldable pub RunAhead : ℕ → Option ℕ → Machine → Type 0
RunAhead zero table s = Unit {0}
RunAhead (suc k) table s = ((plan s table).serial ≡ false) × RunAhead k None (prediction table s)

-- whether one of the next k predicted entries writes the word w
unfoldable pub is_word_written : ℕ → Option ℕ → Machine → ℕ → Bool
is_word_written zero table s w = false
is_word_written (suc k) table s w =
    is_among w (entry table s).writes || is_word_written k None (prediction table s) w

-- n words from the word w on
unfoldable pub word_list_from : ℕ → ℕ → List ℕ
word_list_from w zero = []
word_list_from w (suc n) = w ∷ word_list_from (w + 1) n

-- the words of a run, in order
abbrev pub words_of_run : WordRun → List ℕ
words_of_run run = word_list_from run.first run.len

-- two entries in flight that differ only in the indicators and the device orders of their states
pub record IsSameAhead (a b : Ahead) : Type 0 where
  pub state : AreAlikeBesideOrders a.state b.state
  pub rest : b ≡ record a { state = b.state }
