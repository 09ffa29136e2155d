-- When the ticks of one machine are at most those of another.
--
-- Proved: no `ensures` clause names a definition of this file.
-- Laws: EntriesAreNoLater (specs/Laws.antt), MoreLevelsAreNoLater (specs/Laws.antt),
-- OlderEntriesAreDoneBefore (specs/Laws.antt), OlderEntriesDecideNothing (specs/Laws.antt), and
-- others.
-- Change: no page fixes these definitions, since no contract of a program unfolds to them; they
-- change together with the clauses, definitions and laws that name them. docs/timetable.md
-- describes the subject.
use Rattle.std.specs.Prelude.{ℕ, ◌≡◌, ◌+◌, ◌≤◌, ◌<◌, false, List, [], ◌∷◌, length, All, IfSome, take}
use Rattle.std.specs.List.{AllZip}
use Rattle.st_fetch.specs.declared.fetched.AskedWord.{AskedWord}
use Rattle.st_rows.specs.Entries.{is_among}
use Rattle.st_rows.specs.Ranges.{ArePastWithin}
use Rattle.st_rows.specs.Rows.{row_of_entry, issue_after_entry, completion_of}
use Rattle.st_rows.specs.declared.bus.Bus.{Bus}
use Rattle.st_rows.specs.declared.entry.WordRun.{WordRun}
use Rattle.st_rows.specs.declared.entry.WordRuns.{WordRuns}
use Rattle.st_rows.specs.declared.entry.Entry.{Entry}
use Rattle.st_rows.specs.declared.past.Past.{Past}
use Rattle.st_rows.specs.declared.issue.IssueState.{IssueState}
use Rattle.st_rows.specs.declared.issue.EntryTicks.{EntryTicks}

-- each read takes d ticks
pub record AreEqual (d : ℕ) (ds : List ℕ) : Type 0 where
  pub some : 1 ≤ length ds
  pub each : All (λ x. x ≡ d) ds

-- two held words are equal, and the first is answered no later
abbrev pub IsHeldSooner : AskedWord → AskedWord → Type 0
IsHeldSooner g h = (g.w ≡ h.w) × (g.tick ≤ h.tick)

-- the reads of bus b are accepted and answered no later than those of bus d
pub record IsBusSooner (b d : Bus) : Type 0 where
  pub free : b.free ≤ d.free
  pub banks : AllZip (λ s t. s ≤ t) b.banks.ticks d.banks.ticks
  pub held : AllZip IsHeldSooner b.held.words d.held.words

-- two entries write equal words, and the first completes no later
abbrev pub IsPastSooner : Past → Past → Type 0
IsPastSooner s t = (s.c ≤ t.c) × (s.writes ≡ t.writes)

-- issue state f is no later than g, and both or neither follow a serializing entry
pub record IsIssueSooner (f g : IssueState) : Type 0 where
  pub bus : IsBusSooner f.bus g.bus
  pub prepared : f.p ≤ g.p
  pub done : f.c ≤ g.c
  pub serial : f.serial ≡ g.serial
  pub past : AllZip IsPastSooner f.past g.past

-- no tick of row x is later than that of row y
pub record IsRowSooner (x y : EntryTicks) : Type 0 where
  pub address : x.a ≤ y.a
  pub prepared : x.p ≤ y.p
  pub ready : x.r ≤ y.r
  pub done : x.c ≤ y.c

-- the previous entries complete in order, none after the last one
pub record AreInOrder (f : IssueState) : Type 0 where
  pub done : ArePastWithin f.c f.past
  pub falls : (i j : ℕ) → i ≤ j →
      completion_of f.past j ≤ completion_of f.past i

-- none of the earlier entries writes the word w
abbrev pub IsUnwritten : List WordRuns → ℕ → Type 0
IsUnwritten earlier w = All (λ writes. is_among w writes ≡ false) earlier

-- none of the earlier entries writes a word of the run
abbrev pub IsRunUnwritten : List WordRuns → WordRun → Type 0
IsRunUnwritten earlier run = (w : ℕ) → run.first ≤ w → w < run.first + run.len →
    IsUnwritten earlier w

-- none of the earlier entries writes a word that entry e reads, except instruction words
pub record IsHazardFree (earlier : List WordRuns) (e : Entry) : Type 0 where
  pub side : IfSome e.side (IsUnwritten earlier)
  pub one : IsRunUnwritten earlier e.reads.one
  pub two : IsRunUnwritten earlier e.reads.two

-- no entry of a list reads a word that an earlier one writes, except instruction words
abbrev pub AreHazardFree : List WordRuns → List Entry → Type 0
AreHazardFree earlier [] = Unit {0}
AreHazardFree earlier (e ∷ es) = IsHazardFree earlier e × AreHazardFree (e.writes ∷ earlier) es

-- the words that the kept entries write are among those of the earlier entries
abbrev pub AreCovered : List Past → List WordRuns → Type 0
AreCovered past earlier = (w : ℕ) → IsUnwritten earlier w →
    All (λ entry. is_among w entry.writes ≡ false) past

-- the rows of the entries of a list, in order
unfoldable pub rows_of_entries : List ℕ → ℕ → IssueState → List Entry → List EntryTicks
rows_of_entries ds n f [] = []
rows_of_entries ds n f (e ∷ es) = row_of_entry ds n f e
    ∷ rows_of_entries ds n (issue_after_entry ds n f e) es

-- the issue state with only the last n entries
abbrev pub issue_of_last : ℕ → IssueState → IssueState
issue_of_last n f = record f { past = take n f.past }

-- the entries n or more before the last one were complete when the last one was prepared
abbrev pub AreOlderDone : ℕ → IssueState → Type 0
AreOlderDone n f = (j : ℕ) → n ≤ j → completion_of f.past j ≤ f.p
