use Rattle.st_lines.proofs.Common.{slice_set, length, ap, ◌∙◌, arith, words_of_storage_is}
use Rattle.st_lines.proofs.ChangeLemmas.{IsCopying, front-kept, copy-registers, copy-passes, copy-made, copy-left, copy-ends}
use Rattle.st_lines.proofs.changes.keep_changed.Goals as goal

pub copy_front-requires-clause-from : goal.copy_front-requires-clause-from
copy_front-requires-clause-from c = omega (arith, ap length c.words-2.ensures.words, c.words-2.ensures.machine.size, words_of_storage_is)

pub copy_front-requires-clause-to : goal.copy_front-requires-clause-to
copy_front-requires-clause-to c = omega (arith, ap length c.as_mut_slice.ensures.value, c.requires.size, words_of_storage_is)

pub words-init : goal.words-init
words-init c =
    let front = front-kept _ _ _ c.args.state.now.words _ c.args.old.now.items c.copy_front.ensures c.words-2.ensures.words c.as_mut_slice.ensures.value
    (omega (arith, c.words-2.ensures.machine.size, words_of_storage_is)) (omega (arith, c.requires.size, words_of_storage_is))
    (omega (arith, ap length c.as_mut_slice.ensures.value, c.as_mut_slice.ensures.len)) in
    let copied : IsCopying c.args.old.now.items _ c.args.state.now 32 =
    copy-registers c.args.old.now.items _ c.args.state.now c.requires.size c.shape.ensures.size front in
    record {
      above = c.next_word-first.ensures.least;
      copying = copy-passes c.args.old.now.items _ c.args.state.now 32 c.next_word-first.result copied
          c.next_word-first.ensures.least c.next_word-first.ensures.most
          (λ v low below. copied.left v low ∙ c.requires.left v (omega (arith, below, c.next_word-first.ensures.most)) (c.next_word-first.ensures.between v low below));
    }

pub words-preserved : goal.words-preserved
words-preserved c =
    let new : _ = copy-made c.args.old.now.items _ c.args.state.now c.words.w c.words.invariant.copying c.words-test.true _ (ap (slice_set c.words.old.items c.words.w) c.word.ensures.value) in
    record {
      above = omega (arith, c.words.invariant.above, c.next_word-next.ensures.least);
      copying = copy-passes c.args.old.now.items _ c.args.state.now _ _ new
          c.next_word-next.ensures.least c.next_word-next.ensures.most
          (λ v low below. copy-left c.args.old.now.items _ c.args.state.now c.words.w c.words.invariant.copying c.words-test.true _ (ap (slice_set c.words.old.items c.words.w) c.word.ensures.value) c.args.may.now c.requires.left v low (omega (arith, below, c.next_word-next.ensures.most)) (c.next_word-next.ensures.between v low below));
    }

pub returns : goal.returns
returns c = copy-ends c.args.old.now.items _ c.args.state.now c.words.w c.words.invariant.copying c.words-test.false c.shape.ensures.size
