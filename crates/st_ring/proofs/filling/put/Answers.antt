use Rattle.st_ring.proofs.Common.{set, sym, ap, ◌∙◌, Level}
use Rattle.st_ring.proofs.Edits.{set-same, no-word}
use Rattle.st_ring.proofs.filling.put.Goals as goal

pub returns-in_default-clause-levels : goal.returns-in_default-clause-levels
returns-in_default-clause-levels g c = λ level at.
    sym (set-same c.args.ring.now c.args.k level at)
    ∙ ap (λ (x : Level). set c.args.ring.now c.args.k x) (sym (no-word level c.args.slot c.args.word c.args.tick c.in_default.not-Some))
