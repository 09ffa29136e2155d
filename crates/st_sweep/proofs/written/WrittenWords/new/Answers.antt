use Rattle.st_sweep.proofs.Common.{[], sym, subst, AreMarks}
use Rattle.st_sweep.proofs.MarkLemmas.{marks-none}
use Rattle.st_sweep.proofs.written.WrittenWords.new.Goals as goal

pub returns : goal.returns
returns c =
    subst (AreMarks []) (sym (c.in-Ok.ensures.items_if_clones_equal (λ y same. same))) (marks-none c.number_of_words.result)
