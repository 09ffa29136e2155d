use Rattle.st_mnemonic.proofs.Common.{◌≡◌, ◌≤◌, ◌++◌, length, pieces_of, texts}
use Rattle.st_mnemonic.proofs.parts.pieces.Given as goal

abbrev pub invariant-pieces : goal.invariant-pieces
invariant-pieces l = record {
  so_far : texts l.fields.items ++ pieces_of 44 l.rest ≡ pieces_of 44 l.text;
  room : length l.fields.items ≤ 16;
  short : length l.rest ≤ 63;
}

abbrev pub decreases-pieces : goal.decreases-pieces
decreases-pieces l = length l.rest
