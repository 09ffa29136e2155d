use Rattle.st_state.proofs.Common.{sym, ◌∙◌, arith, bits}
use Rattle.st_bits.proofs.BitLists.{length-bits}
use Rattle.st_state.proofs.Placed.{placed-one, placed-two}
use Rattle.st_state.proofs.State.put_field.Goals as goal

pub returns-then-first-n-le64 : goal.returns-then-first-n-le64
returns-then-first-n-le64 c =
    c.store.ensures
    ∙ sym
    (placed-one c.args.self.now c.args.a c.word.result (bits c.args.n c.args.bits) c.put_field.new.words
    c.word.ensures.machine (omega arith) (omega (arith, length-bits c.args.n c.args.bits))
    c.word.ensures.value c.put_field.auto.words (omega arith) c.put_field.ensures.put)

pub returns-else-first-n-le64 : goal.returns-else-first-n-le64
returns-else-first-n-le64 c =
    rw (c.store-else-first-n-le64-2.ensures, c.store-else-first-n-le64.ensures)
    (sym
    (placed-two c.args.self.now c.args.a
    c.word-else-first-n-le64.result c.word-else-first-n-le64-2.result
    (bits c.args.n c.args.bits) c.put_field-else-first-n-le64.new.words
    c.word-else-first-n-le64.ensures.machine (omega arith) (omega (arith, length-bits c.args.n c.args.bits))
    c.word-else-first-n-le64.ensures.value c.word-else-first-n-le64-2.ensures.value
    c.put_field-else-first-n-le64.auto.words (omega arith) (omega arith)
    c.put_field-else-first-n-le64.ensures.put))
