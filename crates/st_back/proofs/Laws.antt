-- Proofs of the laws of undoing.
use Rattle.st_back.proofs.LawLemmas.{back-before, back-again, above-undone, signalled-undone, printed-undone, no_card-undone}
use Rattle.st_back.proofs.ManyLemmas.{forth-states, put-states, between-states, back-states}
use Rattle.st_back.specs.Laws.{BackUndoesForth, UndoingPassesRegistersOver, BacksGiveTheStatesBefore}

pub back_undoes_forth : BackUndoesForth
back_undoes_forth = record { before = back-before; again = back-again }

pub undoing_passes_registers_over : UndoingPassesRegistersOver
undoing_passes_registers_over = record {
  above = above-undone;
  signalled = signalled-undone;
  printed = printed-undone;
  no_card = no_card-undone;
}

pub backs_give_the_states_before : BacksGiveTheStatesBefore
backs_give_the_states_before = record {
  forth = forth-states;
  put = put-states;
  between = between-states;
  back = back-states;
}
