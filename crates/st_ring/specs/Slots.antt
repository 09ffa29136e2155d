-- The operand words that a level has at a tick.
--
-- Proved: by their `ensures` clauses these calls do what definitions here say: `came_at`
-- (filling.rt), `coming` (filling.rt), `fill_all` (filling.rt), `fill_level` (filling.rt), and
-- others.
-- Read by: definitions in Levels, Shown of st_ahead.
-- Laws: LevelsAreLent (specs/Laws.antt of st_refine).
-- Change: no page fixes these definitions, since no contract of a program unfolds to them; they
-- change together with the clauses, definitions and laws that name them. docs/inside.md describes
-- the subject.
use Rattle.std.specs.Prelude.{ℕ, ◌≡◌, ◌+◌, ◌-◌, Bool, not, ◌&&◌, ◌||◌, nat_lt, nat_le, if◌then◌else◌, List, [], ◌∷◌, get_or, slice_index_or, Option, None, Some}
use Rattle.st_bits.specs.declared.register.TheConstants.{FIRST_STORAGE_WORD}
use Rattle.st_state.specs.Machine.{Machine, word}
use Rattle.st_prep.specs.FewWords.{is_transmission}
use Rattle.st_prep.specs.declared.entries.Prepared.{Prepared}
use Rattle.st_ring.specs.OneLevel.{level_with_word}
use Rattle.st_ring.specs.declared.level.Level.{Level}

module _ (ticks : List ℕ) (p : Prepared) where
  -- the arrival tick of an operand word that is no register, given those of the first two such
  -- words
  abbrev pub fill_tick : ℕ → ℕ
  fill_tick w =
      if nat_le FIRST_STORAGE_WORD p.reads.first then get_or ticks (w - p.reads.first) 0
      else get_or ticks (w - FIRST_STORAGE_WORD) 0

  -- a word has arrived: a register at once, another word when its read is answered or its latest
  -- writer completes
  abbrev pub is_there : ℕ → ℕ → Bool
  is_there tick w = nat_lt w FIRST_STORAGE_WORD || nat_le (fill_tick w) tick

  -- operand word k in the state s, if it has arrived at the tick; a transmission keeps none
  unfoldable pub slot_of : Machine → ℕ → ℕ → Option ℕ
  slot_of s tick k =
      if not (is_transmission p.instr) && nat_lt k p.reads.len
      && is_there tick (p.reads.first + k)
      then Some (word s (p.reads.first + k)) else None

  -- the words of both slots of a level
  abbrev pub slots_of : Machine → ℕ → List (Option ℕ)
  slots_of s tick = slot_of s tick 0 ∷ slot_of s tick 1 ∷ []

-- a slot is empty, or has the word that has arrived
abbrev pub IsKeptSlot : Option ℕ → Option ℕ → Type 0
IsKeptSlot None there = Unit {0}
IsKeptSlot (Some w) there = there ≡ Some w

-- each of the two slots of a level is empty, or has the word that has arrived
pub record AreKept (have : List (Option ℕ)) (there : ℕ → Option ℕ) : Type 0 where
  pub first : Option ℕ
  pub second : Option ℕ
  pub slots : have ≡ first ∷ second ∷ []
  pub kept_first : IsKeptSlot first (there 0)
  pub kept_second : IsKeptSlot second (there 1)

-- the word that is put into a slot: the word that has arrived, if the slot is empty
abbrev pub put_of : Option ℕ → Option ℕ → Option ℕ
put_of None there = there
put_of (Some w) there = None

-- the word that is put into slot k of a level by the tick `now`, with its content in the state s
abbrev pub coming : List ℕ → Level → Machine → ℕ → ℕ → Option ℕ
coming ticks level s now k = put_of (slice_index_or level.have k None)
    (slot_of ticks level.prepared s now k)

-- the arrival tick of operand word k; a register is available when the entry is prepared
abbrev pub came_at : List ℕ → Level → ℕ → ℕ
came_at ticks level k =
    if nat_lt (level.prepared.reads.first + k) FIRST_STORAGE_WORD then level.p
    else fill_tick ticks level.prepared (level.prepared.reads.first + k)

-- a level with the word in slot k, if there is one
abbrev pub level_with_slot : Level → ℕ → Option ℕ → ℕ → Level
level_with_slot level k None tick = level
level_with_slot level k (Some w) tick = level_with_word level k w tick

-- a level with the words that have arrived by the tick `now`
abbrev pub level_with_words : List ℕ → Machine → ℕ → Level → Level
level_with_words ticks s now level =
    level_with_slot (level_with_slot level 0 (coming ticks level s now 0) (came_at ticks level 0)) 1
    (coming ticks level s now 1) (came_at ticks level 1)
