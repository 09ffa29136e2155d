use Rattle.st_lines.proofs.Common.{inl, inr, arith, leb_tells}
use Rattle.st_lines.proofs.changes.next_changed.Goals as goal

pub returns-clause-between : goal.returns-clause-between
returns-clause-between c v low below =
    elim (leb_tells c.next_register-r.result v) [
      | inl p ↦ c.requires.left v low (omega (arith, below, c.next_word-2.ensures.most)) (c.next_word-2.ensures.between v p.1 below)
      | inr p ↦ c.next_register-r.ensures.between v low (omega (arith, p.1))
    ]

pub returns-then-w-ge-FIRST_STORAGE_WORD-clause-between : goal.returns-then-w-ge-FIRST_STORAGE_WORD-clause-between
returns-then-w-ge-FIRST_STORAGE_WORD-clause-between c v low below =
    c.requires.left v low (omega (arith, below, c.next_word.ensures.most)) (c.next_word.ensures.between v low below)
