-- The orders of the reader and the printer: whether one is due, and which takes effect next. The
-- rules are in docs/machine.md ("Orders of the reader and of the printer").
--
-- The code is proved to give them: `is_due` in devices.rt, `due` and `next_device` in lib.rt. The
-- definition of a run (`Run` in st_run/specs) serves due orders by `is_due`, the reader's first,
-- and at rest by `next_device`; `run_to` of st_ahead stops by `is_due`. So a change of `is_due` or
-- `next_device` changes runs, which vectors/orders.txt tests. `due` is in no run: docs/CLAIMS.md
-- only offers it. What an order does is defined in `Transfer` of st_exec/specs.
--
-- Proved: by their `ensures` clauses these calls do what definitions here say: `is_due`
-- (devices.rt), `due` (lib.rt), `next_device` (lib.rt), `is_due_at` (plain.rt of st_run), and
-- others.
-- Read by: definitions in Run of st_run, RunTo of st_ahead.
-- Laws: none names a definition of this file itself.
-- Change: the meaning is fixed by docs/machine.md, since the contracts of `st_top::stretch` and
-- `st_account::ledger` unfold to a definition here. The form is free, with the proofs that unfold
-- it.
use Rattle.std.specs.Prelude.{ℕ, Bool, false, nat_le, if◌then◌else◌, Option, None, Some}
use Rattle.st_state.specs.Machine.{Machine}
use Rattle.st_state.specs.declared.devices.Order.{Order}
use Rattle.st_state.specs.declared.devices.Device.{Device}
use Rattle.st_state.specs.declared.devices.Device.TheVariants.{Reader, Printer}

-- whether there is an order that is due by this count of completed instructions
abbrev pub is_due : ℕ → Option Order → Bool
is_due done None = false
is_due done (Some order) = nat_le order.due done

-- the device whose order takes effect next among those that are due; the reader has priority
abbrev pub due : Machine → Option Device
due s = if is_due s.done s.reader then Some Reader
    else if is_due s.done s.printer then Some Printer
    else None

-- the device of the order that is due earlier; the reader's is first if both are due at one count
abbrev pub earlier_device : Option Order → Option Order → Option Device
earlier_device None None = None
earlier_device (Some _) None = Some Reader
earlier_device None (Some _) = Some Printer
earlier_device (Some reader) (Some printer) = if nat_le reader.due printer.due then Some Reader
    else Some Printer

-- the device whose order takes effect next while the machine waits
abbrev pub next_device : Machine → Option Device
next_device s = earlier_device s.reader s.printer
