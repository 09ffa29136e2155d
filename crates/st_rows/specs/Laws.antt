-- Laws of the ticks of all entries.
--
-- Proved: each law has its lemma in proofs/Laws.antt, with its name in small letters.
-- Claimed: docs/CLAIMS.md names CompletionsAreBounded, EntriesAskInParts, LateReadsChangeNothing,
-- MoreLevelsAreNoLater, and others.
-- Change: docs/promises.txt lists each law, and the gate compares the list with the laws.
use Rattle.std.specs.Prelude.{◌≡◌, ℕ, List, [], ◌∷◌, ◌++◌, ◌+◌, ◌*◌, ◌<◌, ◌≤◌, ◌||◌, true, length, get_or, max, All}
use Rattle.st_rows.specs.Ranges.{AreDelaysUpTo, IsEntryInTime, IsNear, IsTight}
use Rattle.st_rows.specs.Entries.{latest_done}
use Rattle.st_rows.specs.Rows.{opening_issue, wanted_from, words_tick, done_before, tick_a, bus_a, tick_p, operands, tick_c, row_of_entry, issue_after_entry, reads_of_entry}
use Rattle.st_rows.specs.Words.{fills}
use Rattle.std.specs.List.{AllZip}
use Rattle.st_banks.specs.declared.answers.LastAnswers.{LastAnswers}
use Rattle.st_rows.specs.Asked.{fetches_asked, side_asked, formed_asked, prepared_asked, data_of, bus_after_reads, made_before, own_reads}
use Rattle.st_rows.specs.BusTimes.{accept_at, bus_after_read, answer_at, bus_after_request, answer_tick_on, Read, after_one}
use Rattle.st_rows.specs.Levels.{AreEqual, IsBusSooner, IsIssueSooner, IsRowSooner, AreInOrder, AreOlderDone, issue_of_last, IsHazardFree, AreHazardFree, AreCovered, rows_of_entries}
use Rattle.st_rows.specs.declared.bus.Bus.{Bus}
use Rattle.st_rows.specs.declared.entry.Entry.{Entry}
use Rattle.st_rows.specs.declared.entry.WordRuns.{WordRuns}
use Rattle.st_rows.specs.declared.issue.IssueState.{IssueState}
use Rattle.st_rows.specs.Uses.{uses, behind, reads_of}
use Rattle.st_rows.specs.declared.uses.Wish.{Wish}
use Rattle.st_rows.specs.declared.fetching.Fetching.{Fetching}
use Rattle.st_rows.specs.declared.past.Past.{Past}

-- The ticks of a row are in order. Its A is after P of the previous row, and its C after C of that row.
pub record RowsAreInOrder : Type 0 where
  pub address : (ds : List ℕ) (n : ℕ) (f : IssueState) (e : Entry) →
      (f.p < (row_of_entry ds n f e).a) × (f.bus.free ≤ (row_of_entry ds n f e).a)
  pub answers : (ds : List ℕ) (n : ℕ) (f : IssueState) (e : Entry) →
      (words_tick ds f e).answered < (row_of_entry ds n f e).a
  pub awaited : (ds : List ℕ) (n : ℕ) (f : IssueState) (e : Entry) →
      (words_tick ds f e).awaited < (row_of_entry ds n f e).a
  pub writers : (ds : List ℕ) (f : IssueState) (e : Entry) (i : ℕ) →
      (i < e.own.len → latest_done f.past (e.own.first + i) ≤ (words_tick ds f e).awaited)
      × (i < e.target.len →
      latest_done f.past (e.target.first + i) ≤ (words_tick ds f e).awaited)
  pub alone : (ds : List ℕ) (n : ℕ) (f : IssueState) (e : Entry) →
      (e.serial || f.serial) ≡ true → f.c < (row_of_entry ds n f e).a
  pub prepared : (ds : List ℕ) (n : ℕ) (f : IssueState) (e : Entry) →
      (row_of_entry ds n f e).a < (row_of_entry ds n f e).p
  pub levels : (ds : List ℕ) (n : ℕ) (f : IssueState) (e : Entry) →
      done_before n f.past < (row_of_entry ds n f e).p
  pub ready : (ds : List ℕ) (n : ℕ) (f : IssueState) (e : Entry) →
      (row_of_entry ds n f e).p ≤ (row_of_entry ds n f e).r
  pub done : (ds : List ℕ) (n : ℕ) (f : IssueState) (e : Entry) → IsEntryInTime e →
      ((row_of_entry ds n f e).r < (row_of_entry ds n f e).c) × (f.c < (row_of_entry ds n f e).c)

-- The ticks of an issue state stay close together. The next entry completes within 64 times (the
-- longest delay plus four) ticks, less 16 ticks, which are left to start the next segment.
pub record CompletionsAreBounded : Type 0 where
  pub tight : (most n : ℕ) (ds : List ℕ) (f : IssueState) (e : Entry) → AreDelaysUpTo most ds →
      IsEntryInTime e → IsTight most f → IsTight most (issue_after_entry ds n f e)
  pub bound : (most n : ℕ) (ds : List ℕ) (f : IssueState) (e : Entry) → AreDelaysUpTo most ds →
      IsEntryInTime e → IsTight most f → (issue_after_entry ds n f e).c + 16 ≤ f.c + 64 * (most + 4)

-- The first two operand words arrive after preparation and before completion, and no later than
-- both R and C of the last entry. If there are no other operands, the latest of these two, P, and C
-- of the last entry determine when the cost begins.
pub record OperandsAreThereBeforeCompletion : Type 0 where
  pub first : (most n : ℕ) (ds : List ℕ) (f : IssueState) (e : Entry) → AreDelaysUpTo most ds →
      1 ≤ e.reads.one.len → (row_of_entry ds n f e).p < get_or (fills ds n f e) 0 0
  pub second : (most n : ℕ) (ds : List ℕ) (f : IssueState) (e : Entry) → AreDelaysUpTo most ds →
      2 ≤ e.reads.one.len → (row_of_entry ds n f e).p < get_or (fills ds n f e) 1 0
  pub ready : (most n i : ℕ) (ds : List ℕ) (f : IssueState) (e : Entry) → IsTight most f →
      get_or (fills ds n f e) i 0 ≤ max (row_of_entry ds n f e).r f.c
  pub done : (most n i : ℕ) (ds : List ℕ) (f : IssueState) (e : Entry) → IsTight most f →
      IsEntryInTime e → get_or (fills ds n f e) i 0 < (row_of_entry ds n f e).c
  pub last : (most n : ℕ) (ds : List ℕ) (f : IssueState) (e : Entry) → IsTight most f →
      e.reads.one.len ≤ 2 → e.reads.two.len ≡ 0 →
      max (row_of_entry ds n f e).r f.c ≡ max (max (row_of_entry ds n f e).p f.c)
      (max (get_or (fills ds n f e) 0 0) (get_or (fills ds n f e) 1 0))

-- If all reads take equally long, a read that is requested no later, on a bus that is in no way
-- later, is answered no later.
pub record ReadsAreNoLater : Type 0 where
  pub read : (d : ℕ) (ds : List ℕ) (b c : Bus) (w want late : ℕ) → AreEqual d ds →
      IsBusSooner b c → want ≤ late →
      IsBusSooner (bus_after_read ds b w want) (bus_after_read ds c w late)
      × (answer_at ds b w want ≤ answer_at ds c w late)
  pub word : (d : ℕ) (ds : List ℕ) (b c : Bus) (w want late : ℕ) → AreEqual d ds →
      IsBusSooner b c → want ≤ late →
      IsBusSooner (bus_after_request ds b w want) (bus_after_request ds c w late)
      × (answer_tick_on ds b w want ≤ answer_tick_on ds c w late)

-- If all reads take equally long and no earlier entry writes a word that this entry reads, except
-- instruction words, then its row is no later with at least as many levels.
pub record EntriesAreNoLater : Type 0 where
  pub row : (d m n : ℕ) (ds : List ℕ) (f g : IssueState) (e : Entry) (earlier : List WordRuns) →
      AreEqual d ds → n ≤ m → IsIssueSooner f g → AreInOrder g → AreCovered f.past earlier →
      IsHazardFree earlier e → IsRowSooner (row_of_entry ds m f e) (row_of_entry ds n g e)
  pub after : (d m n : ℕ) (ds : List ℕ) (f g : IssueState) (e : Entry) (earlier : List WordRuns) →
      AreEqual d ds → n ≤ m → IsIssueSooner f g → AreInOrder g → AreCovered f.past earlier →
      IsHazardFree earlier e → IsIssueSooner (issue_after_entry ds m f e)
      (issue_after_entry ds n g e)
      × AreInOrder (issue_after_entry ds n g e) × AreCovered (issue_after_entry ds m f e).past
      (e.writes ∷ earlier)

-- With more levels no entry of a segment is later, if all reads take equally long and no entry
-- reads a word that an earlier one writes, except instruction words.
abbrev pub MoreLevelsAreNoLater : Type 0
MoreLevelsAreNoLater = (d m n start : ℕ) (ds : List ℕ) (banks : LastAnswers) (es : List Entry) →
    AreEqual d ds → n ≤ m → AreHazardFree [] es →
    AllZip IsRowSooner
    (rows_of_entries ds m (opening_issue banks start) es)
    (rows_of_entries ds n (opening_issue banks start) es)

-- On n levels, the entry n before the last one is complete when the last one is prepared.
pub record OlderEntriesAreDoneBefore : Type 0 where
  pub opening : (n start : ℕ) (banks : LastAnswers) → AreInOrder (opening_issue banks start)
      × AreOlderDone n (opening_issue banks start)
  pub after : (ds : List ℕ) (n : ℕ) (f : IssueState) (e : Entry) → 1 ≤ n → AreInOrder f →
      AreInOrder (issue_after_entry ds n f e) × AreOlderDone n (issue_after_entry ds n f e)

-- Only the last n entries determine ticks: with only these, the row and the next issue state are equal.
pub record OlderEntriesDecideNothing : Type 0 where
  pub row : (ds : List ℕ) (n : ℕ) (f : IssueState) (e : Entry) → 1 ≤ n → AreOlderDone n f →
      row_of_entry ds n (issue_of_last n f) e ≡ row_of_entry ds n f e
  pub after : (ds : List ℕ) (n : ℕ) (f : IssueState) (e : Entry) → 1 ≤ n → AreOlderDone n f →
      issue_of_last n (issue_after_entry ds n (issue_of_last n f) e)
      ≡ issue_of_last n (issue_after_entry ds n f e)

-- The reads of uses, made in order, give the bus after these uses. There are at most as many reads
-- as requested words. The uses of two lists of words are those of the first list, followed by those
-- of the second.
pub record UsesMakeTheirReads : Type 0 where
  pub bus : (ds : List ℕ) (past : List Past) (s : Fetching) (xs : List Wish) →
      bus_after_reads ds (reads_of (uses ds past s xs)) s.bus
      ≡ (behind ds past s (uses ds past s xs)).bus
  pub few : (ds : List ℕ) (past : List Past) (s : Fetching) (xs : List Wish) →
      length (reads_of (uses ds past s xs)) ≤ length xs
  pub parts : (ds : List ℕ) (past : List Past) (s : Fetching) (xs ys : List Wish) →
      uses ds past s (xs ++ ys)
      ≡ uses ds past s xs ++ uses ds past (behind ds past s (uses ds past s xs)) ys

-- The reads of an entry, made in order, give the bus after the entry. Two of them at most are
-- following words. There are at most 36 others, since an entry of a machine has at most 36
-- instruction, index-side and operand words.
pub record RowsMakeTheirReads : Type 0 where
  pub bus : (ds : List ℕ) (n : ℕ) (f : IssueState) (e : Entry) →
      bus_after_reads ds (reads_of_entry ds n f e) f.bus ≡ (issue_after_entry ds n f e).bus
  pub few : (ds : List ℕ) (n : ℕ) (f : IssueState) (e : Entry) →
      length (reads_of_entry ds n f e) ≤ own_reads e + 2
  pub most : (ds : List ℕ) (n : ℕ) (f : IssueState) (e : Entry) → own_reads e ≤ 36 →
      length (reads_of_entry ds n f e) ≤ 36 + 2

-- A read is accepted when it is requested and the bus is free, or later. The bus is next free one
-- tick after that. The answer comes later, by at most the longest delay.
abbrev pub ReadsComeInOrder : Type 0
ReadsComeInOrder = (most : ℕ) (ds : List ℕ) (b : Bus) (r : Read) → AreDelaysUpTo most ds →
    (r.want ≤ accept_at b r.w r.want) × (b.free ≤ accept_at b r.w r.want)
    × ((after_one ds b r).free ≡ accept_at b r.w r.want + 1)
    × (accept_at b r.w r.want < answer_at ds b r.w r.want)
    × (answer_at ds b r.w r.want ≤ accept_at b r.w r.want + most)

-- After the reads that are accepted before a tick, the bus is free at that tick, and all answers
-- come soon after the bus is free.
abbrev pub MadeReadsAreAnsweredSoon : Type 0
MadeReadsAreAnsweredSoon = (most t : ℕ) (ds : List ℕ) (reads : List Read) (b : Bus) →
    AreDelaysUpTo most ds →
    IsNear most b → b.free ≤ t →
    IsNear most (made_before ds t reads b) × ((made_before ds t reads b).free ≤ t)

-- The reads of an entry are those of its instruction words, followed by those of its data. They are
-- also those of instruction words and the index-side word, followed by those from its preparation
-- on. Each part gives the bus of its stage.
pub record EntriesAskInParts : Type 0 where
  pub parts : (ds : List ℕ) (n : ℕ) (f : IssueState) (e : Entry) →
      reads_of_entry ds n f e ≡ fetches_asked ds f e ++ data_of ds n f e
  pub two : (ds : List ℕ) (n : ℕ) (f : IssueState) (e : Entry) →
      reads_of_entry ds n f e ≡ formed_asked ds f e ++ prepared_asked ds n f e
  pub fetches : (ds : List ℕ) (f : IssueState) (e : Entry) →
      bus_after_reads ds (fetches_asked ds f e) f.bus ≡ (words_tick ds f e).bus
  pub formed : (ds : List ℕ) (f : IssueState) (e : Entry) →
      bus_after_reads ds (formed_asked ds f e) f.bus ≡ bus_a ds f e
  pub prepared : (ds : List ℕ) (n : ℕ) (f : IssueState) (e : Entry) →
      bus_after_reads ds (prepared_asked ds n f e) (bus_a ds f e) ≡ (issue_after_entry ds n f e).bus

-- The ticks at which the reads of an entry are requested: instruction words at the first request or
-- later, the index-side word at A, operands and following words at P. So all reads of data are
-- requested at A or later.
pub record ReadsAreWantedInTime : Type 0 where
  pub fetches : (ds : List ℕ) (f : IssueState) (e : Entry) →
      All (λ r. wanted_from f ≤ r.want) (fetches_asked ds f e)
  pub side : (ds : List ℕ) (f : IssueState) (e : Entry) →
      All (λ r. r.want ≡ tick_a ds f e) (side_asked f.past e.side (tick_a ds f e))
  pub prepared : (ds : List ℕ) (n : ℕ) (f : IssueState) (e : Entry) →
      All (λ r. r.want ≡ tick_p ds n f e) (prepared_asked ds n f e)
  pub «data» : (ds : List ℕ) (n : ℕ) (f : IssueState) (e : Entry) →
      All (λ r. tick_a ds f e ≤ r.want) (data_of ds n f e)

-- The bus is free of the reads of earlier entries and of instruction words when the address is formed,
-- free of the index-side word's read when the entry is prepared, and free of operands at completion.
pub record BusesAreFreeInTime : Type 0 where
  pub before : (ds : List ℕ) (f : IssueState) (e : Entry) → f.bus.free ≤ tick_a ds f e
  pub fetched : (most n : ℕ) (ds : List ℕ) (f : IssueState) (e : Entry) → AreDelaysUpTo most ds →
      IsEntryInTime e → IsTight most f → (words_tick ds f e).bus.free ≤ tick_a ds f e
  pub formed : (most n : ℕ) (ds : List ℕ) (f : IssueState) (e : Entry) → AreDelaysUpTo most ds →
      IsEntryInTime e → IsTight most f → (bus_a ds f e).free ≤ tick_p ds n f e
  pub done : (most n : ℕ) (ds : List ℕ) (f : IssueState) (e : Entry) → AreDelaysUpTo most ds →
      IsEntryInTime e → IsTight most f → (f.bus.free ≤ tick_c ds n f e)
      × ((operands ds n f e).bus.free ≤ tick_c ds n f e)

-- All reads are accepted before a tick at which the bus is free after them. Reads that follow
-- others and are requested at a tick or later do not affect which reads are accepted before it.
pub record LateReadsChangeNothing : Type 0 where
  pub all : (ds : List ℕ) (t : ℕ) (xs : List Read) (b : Bus) →
      (bus_after_reads ds xs b).free ≤ t → made_before ds t xs b ≡ bus_after_reads ds xs b
  pub late : (ds : List ℕ) (t : ℕ) (xs ys : List Read) (b : Bus) → All (λ r. t ≤ r.want) ys →
      made_before ds t (xs ++ ys) b ≡ made_before ds t xs b
