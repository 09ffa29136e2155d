-- The cause of a row's delay as a path without a gap: from the tick before its address is formed,
-- back over the answers and wants of its instruction words, to an event outside the row. Words are
-- listed youngest first.
--
-- Proved: no `ensures` clause names a definition of this file.
-- Laws: ReasonsAreTrue (specs/ReasonLaws.antt), ReasonsOfARunAreTrue (specs/Laws.antt of
-- st_causes).
-- Change: no page fixes these definitions, since no contract of a program unfolds to them; they
-- change together with the clauses, definitions and laws that name them. docs/ledger.md describes
-- the subject.
use Rattle.std.specs.Prelude.{ℕ, ◌≡◌, ◌⊎◌, ◌+◌, ◌-◌, ◌<◌, max, Bool, true, false, not, ◌&&◌, ◌||◌, nat_eq, nat_le, nat_lt, if◌then◌else◌, List, ◌∷◌, ◌++◌, length, reverse, None, Some}
use Rattle.std.specs.List.{list_any}
use Rattle.st_rows.specs.Rows.{tick_a, index_arrival, tick_p, done_before}
use Rattle.st_rows.specs.declared.entry.Entry.{Entry}
use Rattle.st_rows.specs.declared.issue.IssueState.{IssueState}
use Rattle.st_plain.specs.Looking.{level_wait}
use Rattle.st_rows.specs.declared.uses.Role.TheVariants.{Instruction}
use Rattle.st_rows.specs.declared.uses.Use.{Use}
use Rattle.st_ledger.specs.Reasons.{is_first, is_stored, side_writer}
use Rattle.st_ledger.specs.Words.{is_index, is_read, read_of, is_answered_at, decides}
use Rattle.st_ledger.specs.declared.because.StallCause.{StallCause}
use Rattle.st_ledger.specs.declared.because.StallCause.TheVariants.{Start, Prefetch, Earlier}
use Rattle.st_ledger.specs.declared.because.Cause.{Cause}
use Rattle.st_ledger.specs.declared.because.Reason.{Reason}
use Rattle.st_ledger.specs.declared.because.Reason.TheVariants.{Serial, Store, Level, Forwarding, Bus, Order}

-- ---- the possible events at tick t for a row after the issue state f, in the order of the page

-- the row before completed at t, and it is serialized, or the awaited words must come after it
-- (`alone`)
abbrev pub is_serial_at : IssueState → Bool → ℕ → Bool
is_serial_at f alone t = not (is_first f) && (nat_eq t f.c && (alone || f.serial))

-- a row completed at t that wrote one of these instruction words
abbrev pub is_store_at : IssueState → ℕ → List Use → Bool
is_store_at f t words = not (is_first f) && list_any (is_stored f.past t) words

-- no row completed at t that serializes this one or wrote one of these instruction words
pub record IsNothingDone (f : IssueState) (alone : Bool) (t : ℕ) (words : List Use) : Type 0 where
  pub serial : is_serial_at f alone t ≡ false
  pub store : is_store_at f t words ≡ false

-- the word u is the first of these instruction words that was answered at t
pub record IsFirstAnswered (t : ℕ) (words : List Use) (u : Use) : Type 0 where
  pub later : List Use
  pub earlier : List Use
  pub parts : words ≡ later ++ (u ∷ earlier)
  pub first : decides Instruction t u earlier ≡ true

-- none of these instruction words was answered at t
abbrev pub IsNoneAnswered : ℕ → List Use → Type 0
IsNoneAnswered t words = list_any (is_answered_at Instruction t) words ≡ false

-- the last read of the rows before was accepted at t, after the row before was prepared
abbrev pub is_bus_at : IssueState → ℕ → Bool
is_bus_at f t = nat_eq f.bus.free (t + 1) && nat_lt f.p t

-- no completion that counts, no answer and no accepted read came at t
pub record IsNothingThere (f : IssueState) (alone : Bool) (t : ℕ) (words : List Use) : Type 0 where
  pub done : IsNothingDone f alone t words
  pub answered : IsNoneAnswered t words
  pub bus : is_bus_at f t ≡ false

-- ---- the event at tick t at which the path ends: it came at t, and no event that precedes it in
-- that order did; `before` are the words of the row before

-- a use is a read that was wanted at tick `want` and accepted at t
abbrev pub is_read_between : ℕ → ℕ → Use → Bool
is_read_between want t u =
    is_read u.supply && (nat_eq (read_of u.supply).want want && nat_eq (read_of u.supply).accept t)

unfoldable pub EndsByRow : IssueState → Bool → List Use → List Use → ℕ → Cause → Reason → Type 0
EndsByRow f alone before words t x Serial =
    (x.tick ≡ t) × (is_serial_at f alone t ≡ true) × (x.back ≡ (if f.serial then 1 else 0))
EndsByRow f alone before words t x Store =
    (x.tick ≡ t) × (is_serial_at f alone t ≡ false) × (is_store_at f t words ≡ true)
    × (done_before x.back f.past ≡ t)
EndsByRow f alone before words t x Level = ⊥
EndsByRow f alone before words t x Forwarding = ⊥
EndsByRow f alone before words t x Bus =
    IsNothingDone f alone t words × IsNoneAnswered t words × (is_bus_at f t ≡ true) × (x.back ≡ 1)
    × (list_any (is_read_between x.tick t) before ≡ true)
EndsByRow f alone before words t x Order =
    IsNothingThere f alone t words × (is_first f ≡ false) × (t ≡ f.p) × (x.tick ≡ t) × (x.back ≡ 1)

unfoldable pub EndsAt : IssueState → Bool → List Use → List Use → ℕ → StallCause → Type 0
EndsAt f alone before words t (Start tick) =
    IsNothingThere f alone t words × (is_first f ≡ true) × (t ≡ f.p) × (tick ≡ t)
EndsAt f alone before words t (Prefetch x) =
    IsNothingDone f alone t words
    × ((u : Use) × (IsFirstAnswered t words u × ((is_read u.supply ≡ false) × (u.word ≡ x.word))))
    × (x.late ≡ t - f.p)
EndsAt f alone before words t (Earlier x) =
    EndsByRow f alone before words t x x.reason × (x.late ≡ t - f.p)

-- ---- the path from tick t backwards: it ends at t, or no completion that counts came at t and the
-- path continues from the answer of a word to its want; `own` is the number of instruction words
-- outside the target of EX, which must come after the row before
pub data IsPath : IssueState → ℕ → List Use → Bool → List Use → ℕ → StallCause → Type 0 where
  PathEnds : (f : IssueState) (own : ℕ) (before : List Use) (alone : Bool) (words : List Use) (t : ℕ)
      (b : StallCause) → EndsAt f alone before words t b → IsPath f own before alone words t b
  PathGoesOn : (f : IssueState) (own : ℕ) (before : List Use) (alone : Bool) (words : List Use) (t : ℕ)
      (b : StallCause) (u : Use) → IsNothingDone f alone t words → (is : IsFirstAnswered t words u)
      → is_read u.supply ≡ true
      → IsPath f own before (nat_le own (length is.earlier)) is.earlier (read_of u.supply).want b
      → IsPath f own before alone words t b

-- ---- the cause that delayed the entry e after the issue state f; `words` are the words that it
-- uses until its address is formed, and `before` those of the row before, in the order of their
-- reads

-- The cause is a level: the entry is prepared directly after the completion of the row whose level
-- it takes over, x.late ticks later than its address and its index-side word would allow.
pub record IsForLevel (ds : List ℕ) (n : ℕ) (f : IssueState) (e : Entry) (x : Cause) : Type 0 where
  pub reason : x.reason ≡ Level
  pub row : done_before x.back f.past ≡ x.tick
  pub level : done_before n f.past ≡ x.tick
  pub tick : tick_p ds n f e ≡ x.tick + 1
  pub late : tick_p ds n f e ≡ max (tick_a ds f e) (index_arrival ds f e) + 1 + x.late
  pub some : 0 < x.late

-- The cause is the index-side word: the entry is prepared directly after the completion of the row
-- that wrote that word, and it waits for no level.
pub record IsForForwarding (ds : List ℕ) (n : ℕ) (f : IssueState) (e : Entry) (words : List Use)
    (x : Cause) : Type 0 where
  pub reason : x.reason ≡ Forwarding
  pub unlevelled : level_wait ds n f e ≡ 0
  pub writer : side_writer words ≡ Some (record { back = x.back; done = x.tick })
  pub row : done_before x.back f.past ≡ x.tick
  pub tick : tick_p ds n f e ≡ x.tick + 1
  pub late : x.tick ≡ tick_a ds f e + x.late
  pub some : 0 < x.late

-- a use is a read of the index-side word with this want and this answer
abbrev pub is_side_read : ℕ → ℕ → Use → Bool
is_side_read want answer u = is_index u.role
    && (is_read u.supply
    && (nat_eq (read_of u.supply).want want && nat_eq (read_of u.supply).answer answer))

-- The cause is that of the address, where the path ends. The entry waits for no level, and its
-- index-side word is not forwarded; so it is prepared directly after its address, or after the
-- answer of that word, which is wanted at the address's tick.
pub record IsForAddress (ds : List ℕ) (n : ℕ) (f : IssueState) (e : Entry) (words before : List Use)
    (b : StallCause) : Type 0 where
  pub unlevelled : level_wait ds n f e ≡ 0
  pub unforwarded : side_writer words ≡ None
  pub prepared : (tick_p ds n f e ≡ tick_a ds f e + 1)
      ⊎ (list_any (is_side_read (tick_a ds f e) (tick_p ds n f e - 1)) words ≡ true)
  pub path : IsPath f e.own.len (reverse before) e.serial (reverse words) (tick_a ds f e - 1) b

-- the cause that applies first
pub data IsReason (ds : List ℕ) (n : ℕ) (f : IssueState) (e : Entry) (words before : List Use) : StallCause
    → Type 0 where
  ForLevel : (x : Cause) → IsForLevel ds n f e x → IsReason ds n f e words before (Earlier x)
  ForForwarding : (x : Cause) → IsForForwarding ds n f e words x
      → IsReason ds n f e words before (Earlier x)
  ForAddress : (b : StallCause) → IsForAddress ds n f e words before b
      → IsReason ds n f e words before b
