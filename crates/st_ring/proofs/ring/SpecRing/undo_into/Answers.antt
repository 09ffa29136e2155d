use Rattle.st_ring.proofs.Common.{List, ℕ, ap, sym, ◌∙◌, Level, unwound}
use Rattle.st_ring.proofs.Unwindings.{unwound-youngest, unwound-nothing, made-undone}
use Rattle.st_ring.proofs.ring.SpecRing.undo_into.Goals as goal

pub levels-preserved : goal.levels-preserved
levels-preserved g c =
    ap (λ (x : List ℕ). unwound x c.take_youngest.new.self) c.put_back.ensures
    ∙ (sym (unwound-youngest c.levels.x c.take_youngest.new.self c.in-Some.level)
    ∙ (ap (λ (levels : List Level). unwound c.levels.x levels) (sym c.in-Some.ensures.level) ∙ c.levels.invariant))

words_are : goal.returns-clause-words
words_are g c =
    sym (unwound-nothing c.levels.x)
    ∙ (ap (λ (levels : List Level). unwound c.levels.x levels) (sym c.in_default.ensures.level.0) ∙ c.levels.invariant)

pub returns-clause-words : goal.returns-clause-words
returns-clause-words g c = words_are g c

pub returns-clause-first_words : goal.returns-clause-first_words
returns-clause-first_words g c = λ first kept makes.
    words_are g c
    ∙ (ap (λ (x : List ℕ). unwound x c.args.self.now) makes ∙ made-undone first c.args.self.now kept)
