-- The limits of the requests that control cards can make.
--
-- Proved: by their `ensures` clauses these calls do what definitions here say: `add`
-- (control_cards.rt), `new` (control_cards.rt), `due_signals` (driven.rt of st_run), `parts`
-- (pending.rt of st_run), and others.
-- Read by: definitions in Kept of st_asm, Sound of st_asm, DelayLines of st_object, Draft of
-- st_object, and others.
-- Laws: ControlsComeBack (specs/Laws.antt of st_dis), SizesOfStorageAgree (specs/Laws.antt of
-- st_laws).
-- Change: the meaning is fixed by docs/strap.md, since the contract of `st_top::stretch` unfolds to
-- a definition here. The form is free, with the proofs that unfold it.
use Rattle.std.specs.Prelude.{ℕ, ◌≤◌, ◌&&◌, Bool, nat_le, List, length}
use Rattle.std.specs.List.{AllPass}
use Rattle.std.specs.List.Sorted.{IsNonDecreasingBy, IsStrictlyIncreasing}
use Rattle.st_bits.specs.declared.limits.TheConstants.{LAST_WORD, MOST_INSTRUCTIONS, LONGEST_LIST, MOST_DELAY}
use Rattle.st_bits.specs.declared.indicators.TheConstants.{CHANNEL_SIGNAL}
use Rattle.st_card.specs.declared.limits.TheConstants.{MOST_DUMPS, MOST_SNAPS, MOST_NUMBER}
use Rattle.st_card.specs.Controls.{Asked, number_of, is_in_range}
use Rattle.st_card.specs.Keywords.{most}
use Rattle.st_card.specs.declared.keywords.Once.{Once}
use Rattle.st_card.specs.declared.control_cards.Signal.{Signal}

-- whether a signal's count is at most 10,000,000 and its indicator is 0 to 13
abbrev pub is_signal : Signal → Bool
is_signal s = nat_le s.count MOST_INSTRUCTIONS && nat_le s.indicator CHANNEL_SIGNAL

-- whether a pair is the first and the last word address of a part of storage
abbrev pub is_part : ℕ × ℕ → Bool
is_part p = nat_le p.0 p.1 && nat_le p.1 LAST_WORD

-- whether a number has at most 12 digits
abbrev pub is_tick : ℕ → Bool
is_tick tick = nat_le tick MOST_NUMBER

-- delays of 1 to 255 ticks each, at most 4,096 of them
pub record AreDelays (delays : List ℕ) : Type 0 where
  pub each : AllPass (is_in_range 1 MOST_DELAY) delays
  pub few : length delays ≤ LONGEST_LIST

-- signals in nondecreasing order of their counts, at most 4,096 of them
pub record AreSignals (signals : List Signal) : Type 0 where
  pub each : AllPass is_signal signals
  pub counts : IsNonDecreasingBy (λ s. s.count) signals
  pub few : length signals ≤ LONGEST_LIST

-- parts of storage to be dumped, at most 16 of them
pub record AreDumps (dumps : List (ℕ × ℕ)) : Type 0 where
  pub each : AllPass is_part dumps
  pub few : length dumps ≤ MOST_DUMPS

-- increasing ticks of snapshots, at most 64 of them
pub record AreSnaps (ticks : List ℕ) : Type 0 where
  pub each : AllPass is_tick ticks
  pub rising : IsStrictlyIncreasing ticks
  pub few : length ticks ≤ MOST_SNAPS

-- requests that control cards can make
pub record IsWithinLimits (asked : Asked) : Type 0 where
  pub once : (once : Once) → number_of once asked ≤ most once
  pub delays : AreDelays asked.delays
  pub signals : AreSignals asked.signals
  pub dumps : AreDumps asked.dumps
  pub snaps : AreSnaps asked.snaps
