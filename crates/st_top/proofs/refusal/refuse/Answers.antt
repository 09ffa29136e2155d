use Rattle.st_top.proofs.Common.{List, ℕ, [], ◌∷◌, ◌∙◌, ap, subst, StoppedIn, stopped_at_moment, fault_line}
use Rattle.st_card.specs.Faults.{name_of}
use Rattle.st_top.proofs.refusal.refuse.Goals as goal

-- the line belongs to no event of a run
pub returns-in-Err-clause-writes : goal.returns-in-Err-clause-writes
returns-in-Err-clause-writes g c =
    let line = c.line_fault.ensures ∙ ap (λ (s : List ℕ). fault_line c.args.card s) c.name.ensures in
    stopped_at_moment _ _ 0 0 (fault_line c.args.card (name_of c.args.fault) ∷ [])
    (subst (λ (l : List ℕ). StoppedIn (g.K.Sink.output c.args.out.now) (g.K.Sink.output c.put.new.out) (l ∷ [])) line c.in-Err.ensures.err)
