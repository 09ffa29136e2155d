-- Hazard-free runs: all reads have the same delay, the entries in flight are never flushed, and no
-- entry uses a word that an earlier one writes.
--
-- Proved: by their `ensures` clauses these calls do what definitions here say: `step` (hazards.rt),
-- `are_equal` (hazards.rt), `run_plain` (hazards.rt), `pass_interlude` (interlude.rt), and others.
-- Read by: definitions in Marks, SideBySide.
-- Laws: MoreLevelsAreNoSlower (specs/Laws.antt).
-- Change: the meaning is fixed by docs/timetable.md, since the contract of `st_top::stretch`
-- unfolds to a definition here. The form is free, with the proofs that unfold it.
use Rattle.std.specs.Prelude.{ℕ, zero, suc, ◌+◌, map, Bool, true, false, not, ◌==◌, ◌&&◌, ◌||◌, nat_lt, is_none, List, [], ◌∷◌, length, Option, None, Some}
use Rattle.std.specs.List.{list_all, list_any}
use Rattle.st_state.specs.Machine.{Machine}
use Rattle.st_prep.specs.Fetch.{place_of}
use Rattle.st_prep.specs.Plan.{needs, decode_context, plan}
use Rattle.st_prep.specs.declared.entries.Words.{Words}
use Rattle.st_exec.specs.Completion.{is_mispredicted}
use Rattle.st_exec.specs.Step.{interrupt, rests}
use Rattle.st_run.specs.Run.{Scene, with_due_signals, with_due_orders, interlude, state_next, scenes}
use Rattle.st_rows.specs.Entries.{is_among}
use Rattle.st_rows.specs.declared.entry.WordRuns.{WordRuns}
use Rattle.st_segment.specs.Entries.{words_to_write}

-- ---- delays

-- whether all delays of the list are equal
abbrev pub are_equal : List ℕ → Bool
are_equal [] = true
are_equal (d ∷ ds) = list_all (λ x. x == d) ds

-- ---- words that earlier entries write

-- whether one of the earlier entries writes the word w
unfoldable pub is_among_written : List WordRuns → ℕ → Bool
is_among_written earlier w = list_any (is_among w) earlier

-- whether one of the earlier entries writes one of the n words from the word w
unfoldable pub are_written : List WordRuns → ℕ → ℕ → Bool
are_written earlier w zero = false
are_written earlier w (suc n) = is_among_written earlier w || are_written earlier (w + 1) n

-- whether one of the earlier entries writes a word of two ranges
unfoldable pub one_is_written : List WordRuns → Words → Bool
one_is_written earlier w = are_written earlier w.first w.len || are_written earlier w.first2 w.len2

-- whether one of the earlier entries writes the index-side word, if there is one
unfoldable pub side_is_written : List WordRuns → Option ℕ → Bool
side_is_written earlier None = false
side_is_written earlier (Some w) = is_among_written earlier w

-- ---- entries

-- the words that the next entry of a state writes
abbrev pub next_writes : Machine → WordRuns
next_writes s = words_to_write (plan s (interrupt s)).writes

-- the index-side word of the next entry of a state
abbrev pub next_side : Machine → Option ℕ
next_side s = (needs (decode_context s (place_of s (interrupt s)))).index_read

-- whether the next entry is predicted, takes no interrupt, and reads no word that earlier ones write
unfoldable pub is_hazard_free_entry : List WordRuns → Machine → Bool
is_hazard_free_entry earlier s = is_none (interrupt s)
    && not (is_mispredicted (plan s (interrupt s)) s)
    && not (side_is_written earlier (next_side s))
    && not (one_is_written earlier (plan s (interrupt s)).reads)

-- ---- the transition between two entries

-- whether the transition between two entries reads no card into storage and does not end a wait
unfoldable pub is_hazard_free_interlude : Scene → Bool
is_hazard_free_interlude c = let after = (interlude c).scene in
    not (nat_lt (length after.cards) (length c.cards))
    && (rests after.machine || not (rests (with_due_orders (with_due_signals c)).scene.machine))

-- ---- the run

-- whether the next entries of these states are hazard-free, behind entries that write these words
unfoldable pub are_hazard_free_entries : List WordRuns → List Machine → Bool
are_hazard_free_entries earlier [] = true
are_hazard_free_entries earlier (s ∷ ss) =
    is_hazard_free_entry earlier s && are_hazard_free_entries (next_writes s ∷ earlier) ss

-- whether a run is hazard-free, its delays aside, after earlier entries that write these words
unfoldable pub is_hazard_free_behind : List WordRuns → ℕ → Scene → Bool
is_hazard_free_behind earlier left c = let r = scenes left c in
    list_all is_hazard_free_interlude r.before && is_hazard_free_interlude r.last
    && are_hazard_free_entries earlier (map state_next r.before)

-- whether the whole run of a scene with these delays is hazard-free
abbrev pub is_hazard_free : List ℕ → ℕ → Scene → Bool
is_hazard_free ds left c = are_equal ds && is_hazard_free_behind [] left c
