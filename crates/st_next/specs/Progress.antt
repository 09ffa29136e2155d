-- How much of the next entry is known.
--
-- Proved: by their `ensures` clauses these calls do what definitions here say: `new`
-- (fetch_unit.rt), `restart` (fetch_unit.rt).
-- Read by: definitions in Going, Forecast of st_ahead, Going of st_ahead.
-- Laws: EntriesBeginAnywhere (specs/Laws.antt), ReadsSoFarComeFirst (specs/Laws.antt),
-- EntriesArePlannedInTime (specs/Laws.antt), ReadsSoFarGiveTheBus (specs/Laws.antt).
-- Change: no page fixes these definitions, since no contract of a program unfolds to them; they
-- change together with the clauses, definitions and laws that name them. docs/inside.md describes
-- the subject.
use Rattle.std.specs.Prelude.{ℕ, ◌≡◌, ◌≤◌, ◌==◌, max, true, false, if◌then◌else◌, List, [], ◌++◌, ◌⊎◌, Option, option_map}
use Rattle.st_bits.specs.Indicators.{IsIndicatorIfAny}
use Rattle.st_state.specs.Machine.{Machine}
use Rattle.st_prep.specs.Fetch.{place_of, words_fetched as fetched_at}
use Rattle.st_prep.specs.Plan.{DecodeContext, needs as needs_of, decode_context, prepared_entry as prepared_of}
use Rattle.st_prep.specs.declared.entries.Prepared.{Prepared}
use Rattle.st_rows.specs.Rows.{wanted_from, tick_a, bus_a, tick_p}
use Rattle.st_rows.specs.Words.{nothing_fetched}
use Rattle.st_rows.specs.Entries.{no_run}
use Rattle.st_rows.specs.declared.bus.Bus.{Bus}
use Rattle.st_rows.specs.Asked.{side_asked}
use Rattle.st_rows.specs.BusTimes.{Read}
use Rattle.st_rows.specs.declared.issue.IssueState.{IssueState}
use Rattle.st_segment.specs.Entries.{entry as entry_of}
use Rattle.st_next.specs.Known.{IsStateBefore}
use Rattle.st_next.specs.Words.{AreFirstWords, words_so_far, asked_so_far}
use Rattle.st_next.specs.declared.fetch_unit.FetchUnit.{FetchUnit}

-- ---- t is the indicator of a table instruction, u the state before the entry, f the issue state

-- no word of the entry is requested yet, on the given bus
abbrev pub IsUnread : Bus → FetchUnit → Type 0
IsUnread bus next = (next.planned ≡ false) × (next.entry.own ≡ no_run) × (next.entry.target ≡ no_run)
    × (next.words ≡ nothing_fetched bus)

-- the first words of the entry are requested, and until it is planned, the bus is the one after
-- them
pub record IsReadOn (ds : List ℕ) (t : Option ℕ) (u : Machine) (f : IssueState)
    (next : FetchUnit) : Type 0 where
  pub place : next.place ≡ place_of u t
  pub first : AreFirstWords next.entry.own next.entry.target (entry_of t u)
  pub words : next.planned ≡ false → next.words ≡ words_so_far ds f next.entry.own next.entry.target
  pub awaited : next.words.awaited ≡ (words_so_far ds f next.entry.own next.entry.target).awaited

-- the preparation from a decode context, with 0 as the content of the index-side word
abbrev pub preparation_without_side : DecodeContext → Prepared
preparation_without_side v = prepared_of v (option_map (λ w. 0) (needs_of v).index_read)

module _ (ds : List ℕ) (n : ℕ) (t : Option ℕ) (u : Machine) (f : IssueState) (next : FetchUnit) where
  -- all words are requested, and all of the entry is known but its index-side word
  pub record IsPlanned : Type 0 where
    pub found : next.fetched.value ≡ fetched_at u (place_of u t)
    pub needs : next.needs ≡ needs_of (decode_context u (place_of u t))
    pub prepared : next.prepared ≡ preparation_without_side (decode_context u (place_of u t))
    pub entry : next.entry ≡ entry_of t u
    pub address : next.formed.a ≡ tick_a ds f (entry_of t u)
    pub bus : next.words.bus ≡ bus_a ds f (entry_of t u)
    pub tick : next.formed.p ≡ tick_p ds n f (entry_of t u)

  -- the first words of the entry are requested, and it is planned if it is marked so
  pub record IsNext : Type 0 where
    pub read_on : IsReadOn ds t u f next
    pub planned : next.planned ≡ true → IsPlanned

-- the reads that are requested so far
abbrev pub reads_so_far : List ℕ → IssueState → FetchUnit → List Read
reads_so_far ds f next =
    asked_so_far ds f next.entry.own next.entry.target
    ++ (if next.planned then side_asked f.past next.entry.side next.formed.a else [])

-- the request tick of the next word, to the extent that the words so far show it: after a word of
-- the target of EX it is not before C of the previous entry
abbrev pub wanted_next : IssueState → FetchUnit → ℕ
wanted_next f next =
    max (max (max (wanted_from f)
    (if next.entry.target.len == 0 then 0 else f.c)) next.words.answered) next.words.awaited

-- nothing more can be known before the tick `now`: the entry is planned; or its next word is
-- requested at `now` or later; or it is EX with all its own words, and the previous entry, which
-- its target awaits, completes at `now` or later
abbrev pub Rests : ℕ → Option ℕ → Machine → IssueState → FetchUnit → Type 0
Rests now t u f next = next.planned ≡ false → (now ≤ wanted_next f next)
    ⊎ ((next.entry.own ≡ (entry_of t u).own) × (next.entry.target.len ≡ 0)
    × (1 ≤ (entry_of t u).target.len) × (now ≤ f.c))

-- the premise of the calls: a state before the entry agrees with the known part at the tick `now`
pub record IsKnown (ds : List ℕ) (n now : ℕ) (f : IssueState) (x : List ℕ) (s : Machine)
    (next : FetchUnit) : Type 0 where
  pub table : Option ℕ
  pub state : Machine
  pub indicator : IsIndicatorIfAny table
  pub before : IsStateBefore now f.past x s state
  pub is_next : IsNext ds n table state f next

-- `IsKnown` holds for some tick, delays, number of levels and issue state
pub record IsNextReady (x : List ℕ) (s : Machine) (next : FetchUnit) : Type 0 where
  pub delays : List ℕ
  pub levels : ℕ
  pub tick : ℕ
  pub issue : IssueState
  pub known : IsKnown delays levels tick issue x s next
