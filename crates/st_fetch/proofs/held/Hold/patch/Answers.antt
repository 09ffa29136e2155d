use Rattle.st_fetch.proofs.Common.{List, ap, ◌∙◌, words_after_store, Held}
use Rattle.st_fetch.proofs.OldestFirst.{oldest_first-patched}
use Rattle.st_fetch.proofs.held.Hold.patch.Goals as goal

pub returns : goal.returns
returns c =
    let q = c.self.inside in
    let v = c.self.invariant in
    rw c.patched-self-inside.ensures
    (oldest_first-patched c.args.w c.args.word q.len q.words.words q.contents.of v.0 v.1 v.2
    ∙ ap (λ (hold : List Held). words_after_store hold c.args.w c.args.word) c.self.view_is)
