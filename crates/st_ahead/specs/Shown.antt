-- The shown and lent parts of a machine: its levels, and the index words with speculative changes.
--
-- Proved: by their `ensures` clauses these calls do what definitions here say: `kept_of`
-- (lookahead_shown.rt), `level` (lookahead_shown.rt), `index` (machine.rt), `level` (machine.rt),
-- and others.
-- Read by: definitions in Refined of st_refine, Telling of st_run.
-- Laws: LevelsAreLent (specs/Laws.antt of st_refine), CompletionsAreSteps (specs/Laws.antt of
-- st_refine), TheStateIsSplit (specs/Laws.antt of st_refine).
-- Change: no page fixes these definitions, since no contract of a program unfolds to them; they
-- change together with the clauses, definitions and laws that name them. docs/inside.md describes
-- the subject.
use Rattle.std.specs.Prelude.{ℕ, ◌≡◌, ◌-◌, nat_le, List, ◌++◌, length, map, replicate, Option, None, Some, option_map}
use Rattle.std.specs.List.{AllZip}
use Rattle.st_prep.specs.declared.entries.IndexChange.{IndexChange}
use Rattle.st_rows.specs.Words.{fills}
use Rattle.st_ring.specs.declared.level.Level.{Level}
use Rattle.st_segment.specs.Ahead.{Ahead, plan_of}
use Rattle.st_segment.specs.Predictions.{split_words}
use Rattle.st_ring.specs.Slots.{slots_of}
use Rattle.st_ahead.specs.Overlap.{Overlap, state_ahead, levels_of, last_tick_made}
use Rattle.st_ahead.specs.declared.events.LevelView.{LevelView}
use Rattle.st_ahead.specs.declared.events.View.{View}

-- a level of the ring is an entry in flight, prepared at its P, with the operand words that have
-- arrived by the tick
pub record IsLevelOf (ds : List ℕ) (n tick : ℕ) (level : Level) (a : Ahead) : Type 0 where
  pub prepared : level.prepared ≡ plan_of a
  pub p : level.p ≡ a.row.p
  pub have : level.have ≡ slots_of (fills ds n a.issue a.entry) (plan_of a) a.state tick

-- the lent ring has the levels, in order
abbrev pub AreLevelsOf : Overlap → List Level → Type 0
AreLevelsOf m ring = AllZip (IsLevelOf m.delays m.levels (last_tick_made m)) ring (levels_of m)

-- the lent index words: those with the speculative changes of all levels
unfoldable pub lent_index_words : Overlap → List ℕ
lent_index_words m = split_words (length (levels_of m)) m.taken (state_ahead m)

-- the word that an speculative change replaces, 0 if there is no change
abbrev pub word_before_change : Option IndexChange → ℕ
word_before_change None = 0
word_before_change (Some c) = c.kept

-- the view of a level at a tick
abbrev pub level_shown : ℕ → Ahead → LevelView
level_shown tick a = record {
  address = (plan_of a).place.address;
  p = a.row.p;
  index = option_map (λ c. c.number) (plan_of a).index;
  kept = word_before_change (plan_of a).index;
  ready = nat_le a.row.r tick;
}

-- the view of a machine
unfoldable pub view_at_tick : Overlap → View
view_at_tick m = record {
  tick = last_tick_made m;
  done = m.state.done;
  x = lent_index_words m;
  levels = map (λ a. Some (level_shown (last_tick_made m) a)) (levels_of m)
      ++ replicate (8 - length (levels_of m)) None;
}
