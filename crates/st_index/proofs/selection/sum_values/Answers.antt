use Rattle.std.proofs.Common.{◌≡◌, ◌+◌, ◌-◌, drop, ◌+ℤ◌, to_z, of_z, w32, ap, arith, sym, ◌∙◌}
use Rattle.std.proofs.lemmas.Int.{ints}
use Rattle.st_bits.specs.Bits.{bits}
use Rattle.st_index.specs.IndexChange.{selected_sum}
use Rattle.st_index.proofs.SelectedSum.{selected_sum-next, selected_sum-done}
use Rattle.st_index.proofs.selection.sum_values.Goals as goal

pub loop-j-preserved : goal.loop-j-preserved
loop-j-preserved c =
    let l = c.loop-j in
    let rest = selected_sum (bits (16 - (l.j + 1)) c.args.list) (drop (l.j + 1) c.args.x.now) in
    let sum : to_z w32 (of_z w32 (to_z w32 l.sum-bits +ℤ to_z w32 (of_z w32 c.selected_value-sum.result))) ≡ to_z w32 l.sum-bits +ℤ c.selected_value-sum.result = omega (arith, ints) in
    record {
      words = l.invariant.words;
      all = ap (λ s. s +ℤ rest) sum ∙ selected_sum-next _ _ _ _ _ _ c.loop-j-test.true l.invariant.words c.selected_value-sum.ensures.value l.invariant.all;
      bound = omega (arith, ints);
    }

pub returns-clause-value : goal.returns-clause-value
returns-clause-value c =
    sym (selected_sum-done c.args.list c.loop-j.j c.args.x.now _ c.loop-j-test.false) ∙ c.loop-j.invariant.all
