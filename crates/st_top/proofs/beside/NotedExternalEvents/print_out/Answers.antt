use Rattle.st_top.proofs.Common.{◌∙◌, ap, refl, subst, sym, Machine, states_before, HasRoomForCard}
use Rattle.std.specs.Prelude.{None}
use Rattle.st_top.proofs.Besides.{states_beside}
use Rattle.st_top.proofs.beside.NotedExternalEvents.print_out.Goals as goal

pub returns-clause-rest : goal.returns-clause-rest
returns-clause-rest c =
    let m = c.args.self.now in
    let room : Machine → Type 0 = λ s. HasRoomForCard s.reader m.steps.kept in (
      refl,
      ap (states_before m.steps.kept) c.print_out.ensures.state
          ∙ states_beside m.steps.kept m.state m.state.reader None _ c.print_out.ensures.before,
      λ now. record { some = now.some; few = now.few; room = subst room (sym c.print_out.ensures.state) now.room },
    )
