-- States that differ only in their indicators and in the orders of the devices.
--
-- Proved: no `ensures` clause names a definition of this file.
-- Read by: definitions in Alone of st_segment, Together of st_run.
-- Laws: OrdersAreNotSeen (specs/Laws.antt), OrdersArePassedOver (specs/Laws.antt of st_exec),
-- SignalsArePassedOver (specs/Laws.antt of st_segment), LevelsPassSignalsOver (specs/Laws.antt of
-- st_ring), and others.
-- Change: no page fixes these definitions, since no contract of a program unfolds to them; they
-- change together with the clauses, definitions and laws that name them. docs/machine.md describes
-- the subject.
use Rattle.std.specs.Prelude.{ℕ, ◌≡◌, ◌≢◌, length}
use Rattle.st_bits.specs.declared.register.TheConstants.{INDICATORS}
use Rattle.st_state.specs.Machine.{Machine, word}

-- two states that differ only in their indicators and orders
pub record AreAlikeBesideOrders (s t : Machine) : Type 0 where
  pub size : length t.words ≡ length s.words
  pub words : (w : ℕ) → w ≢ INDICATORS → word t w ≡ word s w
  pub ic : t.ic ≡ s.ic
  pub enabled : t.enabled ≡ s.enabled
  pub waiting : t.waiting ≡ s.waiting
  pub done : t.done ≡ s.done
