-- The sources of the words that an entry uses, as observers are notified of them.
--
-- Proved: by their `ensures` clauses these calls do what definitions here say: `fill` (issue.rt),
-- `read_operands` (issue.rt), `read` (bus.rt), `request` (bus.rt), and others.
-- Read by: definitions in Uses of st_plain, Told of st_next, Served of st_ledger.
-- Laws: none names a definition of this file itself.
-- Change: the meaning is fixed by docs/timetable.md, since the contract of `st_account::ledger`
-- unfolds to a definition here. The form is free, with the proofs that unfold it.
use Rattle.std.specs.Prelude.{ℕ, zero, suc, ◌+◌, if◌then◌else◌, List, [], ◌∷◌, map, Option, None, Some}
use Rattle.std.specs.List.{position}
use Rattle.st_banks.specs.Bank.{last_of}
use Rattle.st_rows.specs.BusTimes.{accept_at, answer_at}
use Rattle.st_rows.specs.Entries.{is_among, latest_done}
use Rattle.st_rows.specs.Uses.{Use as WordUse}
use Rattle.st_rows.specs.Words.{is_forwarded}
use Rattle.st_rows.specs.declared.bus.Bus.{Bus}
use Rattle.st_rows.specs.declared.past.Past.{Past}
use Rattle.st_rows.specs.declared.uses.ReadTicks.{ReadTicks}
use Rattle.st_rows.specs.declared.uses.Supply.{Supply}
use Rattle.st_rows.specs.declared.uses.Role.TheVariants.{Operand}
use Rattle.st_rows.specs.declared.uses.Supply.TheVariants.{Read, Held, Forwarded, Register}
use Rattle.st_rows.specs.declared.uses.Use.{Use}

-- the ticks of a read of the word w, requested at the tick want, on the bus b
abbrev pub read_ticks : List ℕ → Bus → ℕ → ℕ → ReadTicks
read_ticks ds b w want = record {
  want = want;
  turn = b.free;
  free = last_of b.banks.ticks w;
  accept = accept_at b w want;
  answer = answer_at ds b w want;
}

-- the source of an instruction word, given the tick of its answer if it is held
abbrev pub fetch_supply : Option ℕ → List ℕ → Bus → ℕ → ℕ → Supply
fetch_supply (Some tick) ds b w want = Held tick
fetch_supply None ds b w want = Read (read_ticks ds b w want)

-- the distance of the latest entry that writes the word w, 1 for the newest, 0 if none does; the
-- entries are in order, newest first
abbrev pub one_behind : Option ℕ → ℕ
one_behind None = 0
one_behind (Some k) = k + 1

abbrev pub writer_back : List Past → ℕ → ℕ
writer_back past w = one_behind (position (λ entry. is_among w entry.writes) past)

-- the source of a word of storage requested at a tick: its latest writer unless complete by then, otherwise a read
abbrev pub storage_supply : List ℕ → List Past → Bus → ℕ → ℕ → Supply
storage_supply ds past b w tick =
    if is_forwarded past w tick
    then Forwarded (record { back = writer_back past w; done = latest_done past w })
    else Read (read_ticks ds b w tick)

-- the source of the word of a use
abbrev pub supply_told : List ℕ → List Past → WordUse → Supply
supply_told ds past u =
    if u.read.fetch then fetch_supply u.unread ds u.bus u.read.w u.read.want
    else storage_supply ds past u.bus u.read.w u.read.want

abbrev pub use_told : List ℕ → List Past → WordUse → Use
use_told ds past u =
    record { role = u.role; word = u.read.w; supply = supply_told ds past u }

-- the notifications of the uses of words
abbrev pub told : List ℕ → List Past → List WordUse → List Use
told ds past us = map (use_told ds past) us

-- n operand words from the word w on that are registers
unfoldable pub register_uses : ℕ → ℕ → List Use
register_uses w zero = []
register_uses w (suc n) = record { role = Operand; word = w; supply = Register }
    ∷ register_uses (w + 1) n
