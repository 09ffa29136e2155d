-- The result of a check of a list of delays.
--
-- Proved: by their `ensures` clauses these calls do what definitions here say: `new` (delays.rt).
-- Laws: none names a definition of this file itself.
-- Change: no page fixes these definitions, since no contract of a program unfolds to them; they
-- change together with the clauses, definitions and laws that name them. docs/timetable.md
-- describes the subject.
use Rattle.std.specs.Prelude.{ℕ, ◌≡◌, List, None, Some, Result, Ok, Err}
use Rattle.st_banks.specs.Delay.{first_zero}
use Rattle.st_banks.specs.declared.delays.Delays.{Delays}
use Rattle.st_banks.specs.declared.delays.DelayError.{DelayError}
use Rattle.st_banks.specs.declared.delays.DelayError.TheVariants.{ZeroDelay, NoMemory}

-- the meaning of a result: the list itself, or the place of its first zero; an allocation failure
-- is possible only if no entry is zero
abbrev pub IsDelayAnswer : List ℕ → Result Delays DelayError → Type 0
IsDelayAnswer list (Ok delays) = (first_zero list ≡ None) × (delays.list ≡ list)
IsDelayAnswer list (Err (ZeroDelay place)) = first_zero list ≡ Some place
IsDelayAnswer list (Err NoMemory) = first_zero list ≡ None
