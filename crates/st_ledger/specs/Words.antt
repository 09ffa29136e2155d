-- The words that an entry uses, as needed for its waits.
--
-- Proved: by their `ensures` clauses these calls do what definitions here say: `is_read_at`
-- (waits.rt), `decides` (uses.rt), `is_answered` (uses.rt), `is_any_due` (uses.rt), and others.
-- Read by: definitions in Paths, Reasons, Waits, Causes, and others.
-- Laws: ReadsOfAnEntryAreInTime (specs/Laws.antt), WaitsAreWithinTheirCharge (specs/Laws.antt),
-- InstructionWordsAreFirst (specs/WaitLaws.antt), NamedReadsAreMade (specs/Laws.antt of st_causes).
-- Change: the meaning is fixed by docs/ledger.md, since the contract of `st_account::ledger`
-- unfolds to a definition here. The form is free, with the proofs that unfold it.
use Rattle.std.specs.Prelude.{ℕ, ◌≤◌, Bool, true, false, not, ◌&&◌, nat_eq, List, length, All}
use Rattle.std.specs.List.{list_any}
use Rattle.st_rows.specs.declared.uses.ReadTicks.{ReadTicks}
use Rattle.st_rows.specs.declared.uses.Role.{Role}
use Rattle.st_rows.specs.declared.uses.Role.TheVariants.{Instruction, Index, Operand, Following}
use Rattle.st_rows.specs.declared.uses.Supply.{Supply}
use Rattle.st_rows.specs.declared.uses.Supply.TheVariants.{Read, Held, Forwarded, Register}
use Rattle.st_rows.specs.declared.uses.Use.{Use}

-- whether a word is read
unfoldable pub is_read : Supply → Bool
is_read (Read r) = true
is_read (Held answer) = false
is_read (Forwarded w) = false
is_read Register = false

-- the ticks of a read, all 0, for a word that is not read
abbrev pub no_read : ReadTicks
no_read = record { want = 0; turn = 0; free = 0; accept = 0; answer = 0 }

unfoldable pub read_of : Supply → ReadTicks
read_of (Read r) = r
read_of (Held answer) = no_read
read_of (Forwarded w) = no_read
read_of Register = no_read

-- whether a word is used as an instruction word
abbrev pub is_instruction : Role → Bool
is_instruction Instruction = true
is_instruction Index = false
is_instruction Operand = false
is_instruction Following = false

-- whether a word is used as the index-side word
abbrev pub is_index : Role → Bool
is_index Instruction = false
is_index Index = true
is_index Operand = false
is_index Following = false

-- whether a word is used as an operand word
abbrev pub is_operand : Role → Bool
is_operand Instruction = false
is_operand Index = false
is_operand Operand = true
is_operand Following = false

-- whether a word is used in a role that a row waits for
abbrev pub is_role : Role → Role → Bool
is_role Instruction s = is_instruction s
is_role Index s = is_index s
is_role Operand s = is_operand s
is_role Following s = false

-- whether a word is answered at tick t
unfoldable pub is_answered : ℕ → Supply → Bool
is_answered t (Read r) = nat_eq r.answer t
is_answered t (Held answer) = nat_eq answer t
is_answered t (Forwarded w) = false
is_answered t Register = false

-- whether a word has this role and is answered at tick t
unfoldable pub is_answered_at : Role → ℕ → Use → Bool
is_answered_at role t u = is_role role u.role && is_answered t u.supply

-- whether a word is the first of its role that is answered at tick t, given the words before it
abbrev pub decides : Role → ℕ → Use → List Use → Bool
decides role t u earlier = is_answered_at role t u && not (list_any (is_answered_at role t) earlier)

-- ---- properties of words

-- the read of a word is accepted when it is wanted or later, and answered no earlier than that
pub record IsReadInTime (u : Use) : Type 0 where
  pub wanted : (read_of u.supply).want ≤ (read_of u.supply).accept
  pub answered : (read_of u.supply).accept ≤ (read_of u.supply).answer

-- the words that an entry uses: at most 48, each of them read in time
pub record AreWordsInTime (uses : List Use) : Type 0 where
  pub few : length uses ≤ 48
  pub each : All IsReadInTime uses
