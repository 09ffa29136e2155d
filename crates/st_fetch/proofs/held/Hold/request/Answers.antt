use Rattle.st_fetch.proofs.Common.{List, ap, ◌∙◌, words_after_request, Held}
use Rattle.st_fetch.proofs.OldestFirst.{oldest_first-asked}
use Rattle.st_fetch.proofs.held.Hold.request.Goals as goal

pub returns : goal.returns
returns c =
    let q = c.self.inside in
    let v = c.self.invariant in
    rw (c.request.ensures, c.requested-self-inside.ensures, c.min-self-inside.ensures)
    (oldest_first-asked c.args.w 0 q.len q.words.words q.contents.of v.0 v.1 v.2
    ∙ ap (λ (hold : List Held). words_after_request hold c.args.w) c.self.view_is)
