use Rattle.st_run.proofs.Common.{slice_index, ℕ, List, ◌∙◌, ◌≤◌, length, ap, arith}
use Rattle.st_bits.specs.Storage.{words_of_storage_is}
use Rattle.st_run.proofs.SeenLemmas.{word-low, word-index, word-high}
use Rattle.st_run.proofs.seen.word_with.Goals as goal

pub returns-then-w-lt16 : goal.returns-then-w-lt16
returns-then-w-lt16 c =
    let long : 32 ≤ length c.args.state.now.words = omega (arith, c.words-words.ensures.machine.size, words_of_storage_is) in
    ap (λ (ws : List ℕ). slice_index ws c.args.w) c.words-words.ensures.words
    ∙ word-low c.args.index.now c.args.state.now c.told-index long c.args.w c.if-w-lt16.true

pub returns-then-w-lt32 : goal.returns-then-w-lt32
returns-then-w-lt32 c =
    let long : 32 ≤ length c.args.state.now.words = omega (arith, c.words-words.ensures.machine.size, words_of_storage_is) in
    word-index c.args.index.now c.args.state.now c.told-index long c.args.w c.if-w-lt16.false c.if-w-lt32.true

pub returns : goal.returns
returns c =
    let long : 32 ≤ length c.args.state.now.words = omega (arith, c.words-words.ensures.machine.size, words_of_storage_is) in
    ap (λ (ws : List ℕ). slice_index ws c.args.w) c.words-words.ensures.words
    ∙ word-high c.args.index.now c.args.state.now c.told-index long c.args.w c.if-w-lt32.false
