use Rattle.st_exec.proofs.Common.{slice_index, ◌+◌, ◌/◌, List, ℕ, sym, ◌∙◌, ap, arith}
use Rattle.st_exec.proofs.OperandLemmas.{field-one, field-two, read-first, read-next}
use Rattle.st_exec.proofs.operands.operand_field.Goals as goal

pub operand_word-requires-clause-read : goal.operand_word-requires-clause-read
operand_word-requires-clause-read c = λ above.
    read-first c.args.a c.args.n c.args.operands.now c.args.state.now c.requires.read above
    ∙ ap (λ (ws : List ℕ). slice_index ws (c.args.a / 64)) (sym c.words-stored.ensures.words)

pub operand_word-requires-else-first-from-le64-clause-read : goal.operand_word-requires-else-first-from-le64-clause-read
operand_word-requires-else-first-from-le64-clause-read c = λ above.
    read-first c.args.a c.args.n c.args.operands.now c.args.state.now c.requires.read above
    ∙ ap (λ (ws : List ℕ). slice_index ws (c.args.a / 64)) (sym c.words-stored.ensures.words)

pub operand_word-requires-else-first-from-le64-2-clause-read : goal.operand_word-requires-else-first-from-le64-2-clause-read
operand_word-requires-else-first-from-le64-2-clause-read c = λ above.
    read-next c.args.a c.args.n c.args.operands.now c.args.state.now c.requires.read (omega arith) above
    ∙ ap (λ (ws : List ℕ). slice_index ws (c.args.a / 64 + 1)) (sym c.words-stored.ensures.words)

pub returns-then-first-from-le64-clause-value : goal.returns-then-first-from-le64-clause-value
returns-then-first-from-le64-clause-value c =
    c.get_field.ensures.value
    ∙ field-one c.args.state.now.words c.args.a c.args.n c.operand_word.result
    c.requires.some (omega arith) (omega (arith, c.words-stored.ensures.machine.size))
    (c.operand_word.ensures ∙ ap (λ (ws : List ℕ). slice_index ws (c.args.a / 64)) c.words-stored.ensures.words)

pub returns-else-first-from-le64-clause-value : goal.returns-else-first-from-le64-clause-value
returns-else-first-from-le64-clause-value c =
    c.get_field-else-first-from-le64.ensures.value
    ∙ field-two c.args.state.now.words c.args.a c.args.n
    c.operand_word-else-first-from-le64.result c.operand_word-else-first-from-le64-2.result
    (omega arith) c.requires.few (omega (arith, c.words-stored.ensures.machine.size))
    (c.operand_word-else-first-from-le64.ensures
    ∙ ap (λ (ws : List ℕ). slice_index ws (c.args.a / 64)) c.words-stored.ensures.words)
    (c.operand_word-else-first-from-le64-2.ensures
    ∙ ap (λ (ws : List ℕ). slice_index ws (c.args.a / 64 + 1)) c.words-stored.ensures.words)
