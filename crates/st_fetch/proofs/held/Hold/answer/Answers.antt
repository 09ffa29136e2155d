use Rattle.st_fetch.proofs.Common.{List, ap, ◌∙◌, words_after_answer, Held}
use Rattle.st_fetch.proofs.OldestFirst.{oldest_first-answered}
use Rattle.st_fetch.proofs.held.Hold.answer.Goals as goal

pub returns : goal.returns
returns c =
    let q = c.self.inside in
    let v = c.self.invariant in
    rw (c.answered-self-inside-2.ensures, c.answered-self-inside.ensures.value)
    (oldest_first-answered c.args.w c.args.word c.args.tick q.len q.words.words q.contents.of v.0 v.1 v.2
    ∙ ap (λ (hold : List Held). words_after_answer hold c.args.w c.args.word c.args.tick) c.self.view_is)
