-- The view of the levels, and the effect of calls on it.
--
-- Proved: no `ensures` clause names a definition of this file.
-- Laws: LevelsAreLent (specs/Laws.antt), LevelsAreUnwound (specs/Laws.antt), CompletionsAreSteps
-- (specs/Laws.antt), RowsTellTheLevels (specs/Laws.antt), and others.
-- Change: no page fixes these definitions, since no contract of a program unfolds to them; they
-- change together with the clauses, definitions and laws that name them. docs/inside.md describes
-- the subject.
use Rattle.std.specs.Prelude.{ℕ, ◌≡◌, ◌+◌, nat_le, List, [], ◌∷◌, ◌++◌, Option, option_map, unwrap_or, ◌⊎◌}
use Rattle.st_bits.specs.declared.register.TheConstants.{FIRST_INDEX_WORD}
use Rattle.st_state.specs.Machine.{Machine, word}
use Rattle.st_prep.specs.Fetch.{address_by, index_words}
use Rattle.st_prep.specs.Plan.{plan}
use Rattle.st_rows.specs.Rows.{row_of_entry}
use Rattle.st_rows.specs.Words.{fills}
use Rattle.st_rows.specs.declared.issue.IssueState.{IssueState}
use Rattle.st_rows.specs.declared.issue.EntryTicks.{EntryTicks}
use Rattle.st_segment.specs.Entries.{entry}
use Rattle.st_segment.specs.Predictions.{predictions, table_behind}
use Rattle.st_segment.specs.Ahead.{Ahead, issue_behind}
use Rattle.st_ahead.specs.Overlap.{Overlap, state_ahead, levels_of}
use Rattle.st_ahead.specs.Shown.{view_at_tick}
use Rattle.st_ahead.specs.declared.events.LevelView.{LevelView}

-- ---- the view of a level

module _ (k : ℕ) (m : Overlap) where
  -- the state before the step of entry k in flight
  abbrev pub state_before : Machine
  state_before = predictions k m.taken (state_ahead m)

  -- the interrupt whose table instruction entry k in flight is, if it is one
  abbrev pub table_before : Option ℕ
  table_before = table_behind k m.taken

  -- the issue state from which the row of entry k in flight is computed
  abbrev pub issue_before : IssueState
  issue_before = issue_behind m.delays m.levels k m.taken (state_ahead m) m.issue

  -- the row of entry k in flight
  abbrev pub row_before : EntryTicks
  row_before =
      row_of_entry m.delays m.levels issue_before (entry table_before state_before)

  -- the ticks at which the first two operand words of entry k above the registers arrive: each when
  -- its read is answered or, without a read, when its latest writer completes
  abbrev pub fills_at : List ℕ
  fills_at = fills m.delays m.levels issue_before
      (entry table_before state_before)

-- the view of entry k in flight at a tick: its address, its P, the number of the index word that it
-- changes and that word before its own step (0 if it changes none), and whether its R has been
-- reached
abbrev pub level_seen : ℕ → ℕ → Overlap → LevelView
level_seen tick k m =
    let s = state_before k m in
    let t = table_before k m in
    let change = (plan s t).index in
    record {
      address = address_by t s;
      p = (row_before k m).p;
      index = option_map (λ c. c.number) change;
      kept = unwrap_or (option_map (λ c. word s (FIRST_INDEX_WORD + c.number)) change) 0;
      ready = nat_le (row_before k m).r tick;
    }

-- ---- the levels after a call

-- there are no levels, and the index words that are shown are those of the state
pub record IsUnwound (m : Overlap) : Type 0 where
  pub levels : levels_of m ≡ []
  pub index : (view_at_tick m).x ≡ index_words m.state

-- the levels are unchanged, or one is added as the youngest
abbrev pub AddsOneAtMost : List Ahead → List Ahead → Type 0
AddsOneAtMost old new = (new ≡ old) ⊎ ((a : Ahead) × (new ≡ old ++ a ∷ []))

-- the view of the levels and of the index words is unchanged
pub record IsStill (old new : Overlap) : Type 0 where
  pub levels : (view_at_tick new).levels ≡ (view_at_tick old).levels
  pub index : (view_at_tick new).x ≡ (view_at_tick old).x
