use Rattle.st_ledger.proofs.Common.{◌≤◌, ◌++◌, ◌∙◌, ap, length, codes, decimal, arith, length-decimal-le, lf, half_address}
use Rattle.std.proofs.lemmas.List.{length-append}
use Rattle.st_ledger.proofs.FromEnd.{thirteen_pieces, short_half}
use Rattle.st_ledger.proofs.lines.fill_row.Goals as goal

pub returns : goal.returns
returns c =
    let row = c.args.row.now in
    thirteen_pieces (codes "ROW ") (decimal c.args.n) (codes " ") (half_address c.args.address) (codes " A ") (decimal row.a) (codes " P ") (decimal row.p)
    (codes " R ") (decimal row.r) (codes " C ") (decimal row.c) lf
    _ _ _ _ _ _ _ _ _ _ _ _ _ _ c.clear.ensures c.put_word.ensures c.put_near.ensures.bytes c.put_word-2.ensures c.put_near-2.ensures.bytes
    c.put_word-3.ensures c.put_near-3.ensures.bytes c.put_word-4.ensures c.put_near-4.ensures.bytes c.put_word-5.ensures c.put_half_address.ensures.bytes
    c.put_word-6.ensures (c.put_near-5.ensures.bytes ∙ ap (λ n. decimal n ++ c.put_word-6.new.self) c.from.ensures) c.put_word-7.ensures

pub put_near-requires-5 : goal.put_near-requires-5
put_near-requires-5 c =
    let half = short_half c.args.address (omega arith) in
    let numbers : length c.put_word-5.new.self ≤ 93 = omega (
      arith,
      ap length c.clear.ensures,
      ap length c.put_word.ensures,
      c.put_near.ensures.room,
      ap length c.put_word-2.ensures,
      c.put_near-2.ensures.room,
      ap length c.put_word-3.ensures,
      c.put_near-3.ensures.room,
      ap length c.put_word-4.ensures,
      c.put_near-4.ensures.room,
      ap length c.put_word-5.ensures,
    ) in
    omega (arith, half, numbers, ap length c.put_half_address.ensures.bytes ∙ length-append (half_address c.args.address) c.put_word-5.new.self, ap length c.put_word-6.ensures)

pub put_word-requires-7 : goal.put_word-requires-7
put_word-requires-7 c =
    let half = short_half c.args.address (omega arith) in
    let short : length (decimal c.from.result) ≤ 10 = length-decimal-le 10 c.from.result (omega arith) (omega (arith, c.from.ensures)) (omega (arith, c.from.ensures)) in
    let numbers : length c.put_word-5.new.self ≤ 93 = omega (
      arith,
      ap length c.clear.ensures,
      ap length c.put_word.ensures,
      c.put_near.ensures.room,
      ap length c.put_word-2.ensures,
      c.put_near-2.ensures.room,
      ap length c.put_word-3.ensures,
      c.put_near-3.ensures.room,
      ap length c.put_word-4.ensures,
      c.put_near-4.ensures.room,
      ap length c.put_word-5.ensures,
    ) in
    omega (
      arith,
      half,
      short,
      numbers,
      ap length c.put_half_address.ensures.bytes ∙ length-append (half_address c.args.address) c.put_word-5.new.self,
      ap length c.put_word-6.ensures,
      ap length c.put_near-5.ensures.bytes ∙ length-append (decimal c.from.result) c.put_word-6.new.self,
    )
