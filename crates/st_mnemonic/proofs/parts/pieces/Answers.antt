use Rattle.st_mnemonic.proofs.Common.{◌≡◌, length, arith, nat_tests}
use Rattle.st_mnemonic.proofs.FirstPieces.{no_room}
use Rattle.st_mnemonic.proofs.parts.pieces.Goals as goal

pub returns-then-is_full : goal.returns-then-is_full
returns-then-is_full c =
    let full : length c.push.new.self.items ≡ 17 = grind (arith, nat_tests) in
    no_room c.pieces.fields.items _ _ c.pieces.rest.now c.in-Some.after.now c.args.text.now c.push.ensures.items
    c.pieces.invariant.so_far c.in-Some.ensures.pieces full
