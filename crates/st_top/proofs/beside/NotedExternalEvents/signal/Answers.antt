use Rattle.st_top.proofs.Common.{◌∙◌, ap, refl, subst, sym, Machine, states_before, HasRoomForCard}
use Rattle.st_top.proofs.Besides.{states_beside}
use Rattle.st_top.proofs.beside.NotedExternalEvents.signal.Goals as goal

pub returns-clause-rest : goal.returns-clause-rest
returns-clause-rest c =
    let m = c.args.self.now in
    let room : Machine → Type 0 = λ s. HasRoomForCard s.reader m.steps.kept in (
      refl,
      ap (states_before m.steps.kept) c.signal.ensures.value
          ∙ states_beside m.steps.kept m.state m.state.reader m.state.printer _ c.signal.ensures.before,
      λ now. record { some = now.some; few = now.few; room = subst room (sym c.signal.ensures.value) now.room },
    )
