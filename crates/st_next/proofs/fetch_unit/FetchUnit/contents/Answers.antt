use Rattle.st_next.proofs.Common.{◌+◌, ◌∙◌, ap, arith, word}
use Rattle.st_next.proofs.Starts.{take-map_four, length-first}
use Rattle.st_next.proofs.fetch_unit.FetchUnit.contents.Goals as goal

pub returns : goal.returns
returns c =
    let own = c.args.self.now.entry.own in
    let target = c.args.self.now.entry.target in
    let s = c.args.state.now in
    take-map_four (word s) _ (own.len + target.len) _ _ _ _ (length-first own target) (omega (arith, c.requires.words.own_few, c.requires.words.target_few))
    (λ h. c.word.ensures.value ∙ ap (word s) (c.word_at.ensures.value h))
    (λ h. c.word-2.ensures.value ∙ ap (word s) (c.word_at-2.ensures.value h))
    (λ h. c.word-3.ensures.value ∙ ap (word s) (c.word_at-3.ensures.value h))
    (λ h. c.word-4.ensures.value ∙ ap (word s) (c.word_at-4.ensures.value h))
