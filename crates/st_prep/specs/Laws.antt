-- Laws of preparation that do not belong to one call.
--
-- Proved: each law has its lemma in proofs/Laws.antt, with its name in small letters.
-- Claimed: docs/CLAIMS.md names InstructionWordsComeOneByOne, LooksAgree, PlansAreInRange.
-- Change: docs/promises.txt lists each law, and the gate compares the list with the laws.
use Rattle.std.specs.Prelude.{◌≡◌, ◌≢◌, ℕ, suc, ◌+◌, ◌<◌, ◌≤◌, Bool, true, false, List, length, take, All, Option, Some, is_some}
use Rattle.st_bits.specs.Indicators.{IsIndicatorIfAny}
use Rattle.st_bits.specs.declared.register.TheConstants.{INDICATORS}
use Rattle.st_bits.specs.Storage.{words_of_storage}
use Rattle.st_state.specs.Machine.{Machine, IsMachine, word}
use Rattle.st_prep.specs.Plan.{DecodeContext, needs, prepared_entry, decode_context, plan as plan_of}
use Rattle.st_prep.specs.declared.entries.Place.{Place}
use Rattle.st_prep.specs.Ranges.{IsPrepared}
use Rattle.st_prep.specs.Fetch.{place_of, reading_of, words_fetched}
use Rattle.st_prep.specs.Reading.{Reading, outcome, words_read, own_words, index_side_words, reading_at_place}
use Rattle.st_prep.specs.Alike.{AreAlike, ReadTheSame}
use Rattle.st_prep.specs.declared.entries.Prepared.{Prepared}
use Rattle.st_prep.specs.BesideOrders.{AreAlikeBesideOrders}
use Rattle.st_prep.specs.FewWords.{is_transmission, AreFew}

-- Each prepared entry of each state is in its ranges.
abbrev pub PlansAreInRange : Type 0
PlansAreInRange = (s : Machine) (t : Option ℕ) → IsMachine s → IsIndicatorIfAny t
    → IsPrepared (plan_of s t)

-- An entry is prepared as serializing if and only if its needs say that it is.
abbrev pub LooksAgree : Type 0
LooksAgree = (v : DecodeContext) (read : Option ℕ) → (prepared_entry v read).serial ≡ (needs v).serial

-- The index-side word affects only the change of an index word and its indicators. It does not
-- affect the rest of an entry.
abbrev pub IndexSideWordsChangeIndexWordsAlone : Type 0
IndexSideWordsChangeIndexWordsAlone = (v : DecodeContext) (r q : Option ℕ)
    → prepared_entry v r
    ≡ record (prepared_entry v q) {
      index = (prepared_entry v r).index;
      ind = (prepared_entry v r).ind;
    }

-- EX with a target that could be fetched is serializing.
abbrev pub EntriesWithATargetAreAlone : Type 0
EntriesWithATargetAreAlone = (s : Machine) (t : Option ℕ)
    → is_some (words_fetched s (place_of s t)).target ≡ true → (plan_of s t).serial ≡ true

-- Instruction words are read in sequence: the contents so far determine the next word to read. At
-- most four words are read, all of them in storage above the registers, and at most two of them are
-- the entry's own.
pub record InstructionWordsComeOneByOne : Type 0 where
  pub found : (s : Machine) (p : Place)
      → words_fetched s p ≡ outcome (reading_of s p) (word s)
  pub few : (x : List ℕ) (b : ℕ) (on : Bool) (p : Place) (c : ℕ → ℕ)
      → length (words_read (reading_at_place x b on p) c) ≤ 4
  pub own : (x : List ℕ) (b : ℕ) (on : Bool) (p : Place) (c : ℕ → ℕ)
      → own_words (reading_at_place x b on p) c ≤ 2
  pub above : (x : List ℕ) (b : ℕ) (on : Bool) (p : Place) (c : ℕ → ℕ)
      → All (λ w. 32 ≤ w) (words_read (reading_at_place x b on p) c)
  pub inside : (x : List ℕ) (b : ℕ) (on : Bool) (p : Place) (c : ℕ → ℕ)
      → All (λ w. w < words_of_storage) (words_read (reading_at_place x b on p) c)
  pub next : (r : Reading) (n : ℕ) (c d : ℕ → ℕ) → All (λ w. d w ≡ c w)
      (take n (words_read r c))
      → take (suc n) (words_read r d) ≡ take (suc n) (words_read r c)
  pub same : (r : Reading) (c d : ℕ → ℕ) → All (λ w. d w ≡ c w) (words_read r c)
      → outcome r d ≡ outcome r c

-- The next entry of a state depends only on the counter, the index words, words 2 and 3, the
-- interrupt flag, and the contents of its instruction words and of its index-side word. States that
-- agree in these have equal plans.
abbrev pub PlansDependOnWhatIsRead : Type 0
PlansDependOnWhatIsRead = (s u : Machine) (t : Option ℕ) → IsMachine s → IsMachine u →
    ReadTheSame t s u
    → plan_of u t ≡ plan_of s t

-- States that differ only in their indicators have equal next entries, unless the word of the
-- indicators is the index-side word. An entry with that index-side word is serializing.
pub record IndicatorsAreNotSeen : Type 0 where
  pub plan : (s u : Machine) (t : Option ℕ) → AreAlike s u
      → (needs (decode_context s (place_of s t))).index_read ≢ Some INDICATORS → plan_of u t ≡ plan_of s t
  pub ahead : (s u : Machine) (t : Option ℕ) → AreAlike s u → (plan_of s t).serial ≡ false
      → plan_of u t ≡ plan_of s t

-- An entry of a state reads at most 36 words: instruction words, the index-side word and operands.
abbrev pub EntriesRead36WordsAtMost : Type 0
EntriesRead36WordsAtMost = (s : Machine) (t : Option ℕ) → IsMachine s → IsIndicatorIfAny t
    → let p = place_of s t in
    length (words_read (reading_of s p) (word s))
    + index_side_words (needs (decode_context s p)).index_read
    + ((plan_of s t).reads.len + (plan_of s t).reads.len2) ≤ 36

-- An entry other than T or SWAP reads at most two operand words, in one run, and writes at most
-- two, in one run. T and SWAP read at most 32 words and write at most 32.
pub record OperandsAreFew : Type 0 where
  pub read : (p : Prepared) → IsPrepared p → is_transmission p.instr ≡ false
      → AreFew p.reads
  pub written : (p : Prepared) → IsPrepared p → is_transmission p.instr ≡ false
      → AreFew p.writes
  pub most_read : (p : Prepared) → IsPrepared p → p.reads.len + p.reads.len2 ≤ 32
  pub most_written : (p : Prepared) → IsPrepared p → p.writes.len + p.writes.len2 ≤ 32

-- States that differ only in their indicators and in the orders of the devices have equal next
-- entries, unless the word of the indicators is the index-side word. An entry with that index-side
-- word is serializing.
pub record OrdersAreNotSeen : Type 0 where
  pub plan : (s u : Machine) (t : Option ℕ) → AreAlikeBesideOrders s u
      → (needs (decode_context s (place_of s t))).index_read ≢ Some INDICATORS → plan_of u t ≡ plan_of s t
  pub ahead : (s u : Machine) (t : Option ℕ) → AreAlikeBesideOrders s u
      → (plan_of s t).serial ≡ false → plan_of u t ≡ plan_of s t
