-- Sources and sinks over a reader or a writer of the standard library.
--
-- Proved: by their `ensures` clauses these calls do what definitions here say: `new` (standard.rt),
-- `read` (standard.rt), `write` (standard.rt).
-- Laws: none names a definition of this file itself.
-- Change: no page fixes these definitions, since no contract of a program unfolds to them; they
-- change together with the clauses, definitions and laws that name them. docs/report.md describes
-- the subject.
use Rattle.std.specs.Prelude.{None}
use Rattle.st_io.specs.Input.{InputState}
use Rattle.st_io.specs.Output.{OutputState}
use Rattle.st_io.specs.declared.standard.StdSource.{StdSource}
use Rattle.st_io.specs.declared.standard.StdSink.{StdSink}

-- the current reader of a source
abbrev pub reader_of : {R : Type 0} → StdSource R → R
reader_of s = s.reader

-- the view of a source over a reader, whose bytes are not known
abbrev pub device_input : {R : Type 0} → StdSource R → InputState
device_input s = record { left = None; taken = s.taken; faults = s.faults }

-- the current writer of a sink
abbrev pub writer_of : {W : Type 0} → StdSink W → W
writer_of k = k.writer

-- the view of a sink over a writer, whose bytes are not known
abbrev pub device_output : {W : Type 0} → StdSink W → OutputState
device_output k = record { written = None; faults = k.faults }
