-- States with equal next entries.
--
-- Proved: no `ensures` clause names a definition of this file.
-- Laws: IndicatorsAreNotSeen (specs/Laws.antt), PlansDependOnWhatIsRead (specs/Laws.antt),
-- IndicatorsArePassedOver (specs/Laws.antt of st_exec).
-- Change: no page fixes these definitions, since no contract of a program unfolds to them; they
-- change together with the clauses, definitions and laws that name them. docs/machine.md describes
-- the subject.
use Rattle.std.specs.Prelude.{ℕ, ◌≡◌, ◌≢◌, All, IfSome, Option, length}
use Rattle.st_bits.specs.declared.register.TheConstants.{INTERRUPT_ADDRESS, BOUNDS, INDICATORS}
use Rattle.st_state.specs.Machine.{Machine, word}
use Rattle.st_prep.specs.Fetch.{index_words, place_of, reading_of}
use Rattle.st_prep.specs.Plan.{needs, decode_context}
use Rattle.st_prep.specs.Reading.{words_read}

-- two states in which preparation of the next entry, or of the table instruction of an interrupt,
-- has equal inputs: the counter, the index words, the interruption address, the bounds, the
-- interrupt flag, the instruction words, and the index-side word
pub record ReadTheSame (table : Option ℕ) (s t : Machine) : Type 0 where
  pub ic : t.ic ≡ s.ic
  pub index : index_words t ≡ index_words s
  pub origin : word t INTERRUPT_ADDRESS ≡ word s INTERRUPT_ADDRESS
  pub bounds : word t BOUNDS ≡ word s BOUNDS
  pub enabled : t.enabled ≡ s.enabled
  pub instruction : All (λ w. word t w ≡ word s w)
      (words_read (reading_of s (place_of s table)) (word s))
  pub side : IfSome (needs (decode_context s (place_of s table))).index_read (λ w. word t w ≡ word s w)

-- two states that differ only in their indicators
pub record AreAlike (s t : Machine) : Type 0 where
  pub size : length t.words ≡ length s.words
  pub words : (w : ℕ) → w ≢ INDICATORS → word t w ≡ word s w
  pub ic : t.ic ≡ s.ic
  pub enabled : t.enabled ≡ s.enabled
  pub waiting : t.waiting ≡ s.waiting
  pub done : t.done ≡ s.done
  pub reader : t.reader ≡ s.reader
  pub printer : t.printer ≡ s.printer
