use Rattle.st_asm.proofs.Common.{◌≡◌, List, ℕ, Bool, subst, IfErr, name_pass, name_card, naming_at_start, pass, has_name, is_defined, names_of}
use Rattle.st_asm.specs.Answers.{Explains}
use Rattle.st_asm.proofs.naming.name_pass.Goals as goal

pub returns-clause-err : goal.returns-clause-err
unfolding name_pass
returns-clause-err c =
    let same : is_defined c.in-Ok.all ≡ has_name (names_of c.args.lines.now) = λ i name. c.in-Ok.ensures name i in
    subst
    (λ (test : List ℕ → Bool). IfErr c.name_lines.result
    (Explains (pass (name_card test) (λ line. line.card) naming_at_start c.args.lines.now)))
    same c.name_lines.ensures.err
