use Rattle.st_exch.proofs.Common.{◌≡◌, ◌++◌, map, take, character}
use Rattle.st_exch.proofs.printer.push_word.Given as goal

abbrev pub invariant-loop-byte : goal.invariant-loop-byte
invariant-loop-byte l = l.text.bytes ≡ l.initial.text.bytes ++ map character (take l.byte-index l.byte-items)
