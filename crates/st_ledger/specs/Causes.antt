-- The truth of a wait: the condition that it names holds at each of its ticks.
--
-- Proved: no `ensures` clause names a definition of this file.
-- Laws: WaitsAreTrue (specs/WaitLaws.antt), WaitsCoverTheirCharge (specs/WaitLaws.antt),
-- NamedReadsAreMade (specs/Laws.antt of st_causes), WaitsOfARunAreTrue (specs/Laws.antt of
-- st_causes), and others.
-- Change: no page fixes these definitions, since no contract of a program unfolds to them; they
-- change together with the clauses, definitions and laws that name them. docs/ledger.md describes
-- the subject.
use Rattle.std.specs.Prelude.{ℕ, ◌≡◌, ◌≤◌, ◌<◌, Bool, true, ◌&&◌, nat_eq, nat_le, nat_lt, List, [], ◌∷◌}
use Rattle.std.specs.List.{list_any}
use Rattle.st_rows.specs.declared.uses.ReadTicks.{ReadTicks}
use Rattle.st_rows.specs.declared.uses.Use.{Use}
use Rattle.st_ledger.specs.Words.{is_read, read_of}
use Rattle.st_ledger.specs.declared.waits.Stall.{Stall}
use Rattle.st_ledger.specs.declared.waits.Stall.TheVariants.{Turn, Bank, Storage}
use Rattle.st_ledger.specs.declared.waits.Wait.{Wait}

-- ---- the condition of a wait up to tick `to` at its tick t + 1, the one from t to t + 1

-- whether a read causes this tick of the wait: a TURN, if the read is accepted at t; a BANK, if it
-- is wanted and first in turn, its bank is not free yet, and it is accepted at the end of the wait;
-- a STORAGE, if it is in progress
unfoldable pub has_cause : Stall → ℕ → ℕ → ReadTicks → Bool
has_cause Turn to t r = nat_eq r.accept t
has_cause Bank to t r =
    nat_le r.want t && (nat_le r.turn t && (nat_lt t r.free && nat_eq r.accept to))
has_cause Storage to t r = nat_le r.accept t && nat_lt t r.answer

-- whether a use is a read of word v and causes this tick of the wait
abbrev pub is_cause : Stall → ℕ → ℕ → ℕ → Use → Bool
is_cause why v to t u =
    (is_read u.supply && nat_eq u.word v) && has_cause why to t (read_of u.supply)

-- ---- a wait

-- each tick of the wait is caused by one of these reads
abbrev pub IsTrueOf : List Use → Wait → Type 0
IsTrueOf us x = (t : ℕ) → x.from ≤ t → t < x.to →
    list_any (is_cause x.why x.read x.to t) us ≡ true

-- waits are consecutive backwards, without a gap, from one tick down to another
unfoldable pub FallTo : ℕ → ℕ → List Wait → Type 0
FallTo from to [] = from ≡ to
FallTo from to (x ∷ xs) = (x.to ≡ to) × (x.from < x.to) × FallTo from x.from xs
