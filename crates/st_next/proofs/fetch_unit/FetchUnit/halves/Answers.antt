use Rattle.st_next.proofs.Common.{◌≡◌, ◌+◌, ◌∙◌, sym, ap, arith, word}
use Rattle.st_next.proofs.Shown.{halves-found}
use Rattle.st_next.proofs.Starts.{length-first, one-read, two-read, own-at}
use Rattle.st_next.proofs.fetch_unit.FetchUnit.halves.Goals as goal

pub returns-then-self-eq1 : goal.returns-then-self-eq1
returns-then-self-eq1 c =
    let own = c.args.self.now.entry.own in
    let target = c.args.self.now.entry.target in
    let s = c.args.state.now in
    let first : own.first ≡ own.first + 0 = omega arith in
    halves-found _ s c.args.self.now.place _ _
    (one-read (word s) _ (own.len + target.len) _ (length-first own target) (omega arith)
    (c.word.ensures.value ∙ ap (word s) (first ∙ sym (own-at own target 0 (omega arith)))))
    c.halves_known.ensures

pub returns-then-self-eq2 : goal.returns-then-self-eq2
returns-then-self-eq2 c =
    let own = c.args.self.now.entry.own in
    let target = c.args.self.now.entry.target in
    let s = c.args.state.now in
    let first : own.first ≡ own.first + 0 = omega arith in
    halves-found _ s c.args.self.now.place _ _
    (two-read (word s) _ (own.len + target.len) _ _ (length-first own target) (omega arith)
    (c.word-then-self-eq2.ensures.value ∙ ap (word s) (first ∙ sym (own-at own target 0 (omega arith))))
    (c.word-then-self-eq2-2.ensures.value ∙ ap (word s) (sym (own-at own target 1 (omega arith)))))
    c.halves_known-then-self-eq2.ensures
