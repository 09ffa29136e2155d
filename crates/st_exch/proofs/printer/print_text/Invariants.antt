use Rattle.st_exch.proofs.Common.{◌≡◌, ◌*◌, take, flat_map, characters_of}
use Rattle.arrayvec.specs.ArrayString.{array_string_len}
use Rattle.st_exch.proofs.printer.print_text.Given as goal

abbrev pub invariant-loop-word : goal.invariant-loop-word
invariant-loop-word l = record {
  so_far : l.text.bytes ≡ flat_map characters_of (take l.word-index l.words);
  room : array_string_len l.text ≡ 8 * l.word-index;
}
