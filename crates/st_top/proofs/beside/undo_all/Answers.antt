use Rattle.st_top.proofs.Common.{◌≡◌, ◌≢◌, [], ◌∷◌, ◌++◌, length, arith, states_before}
use Rattle.st_top.proofs.Rewinds.{undo_begins, undo_next, undo_fewer, undone_all}
use Rattle.st_top.proofs.beside.undo_all.Goals as goal

pub loop-init : goal.loop-init
loop-init c = record {
  counted = omega (arith, c.len-count.ensures.value);
  left = undo_begins c.args.steps.now c.args.machine.now;
}

pub loop-preserved : goal.loop-preserved
loop-preserved c =
    let all = states_before c.args.steps.now.kept c.args.machine.now ++ c.args.machine.now ∷ [] in
    let some : length c.loop.steps.kept ≢ 0 = λ none. omega (arith, none, c.loop.invariant.counted, c.loop-test.true) in
    let fewer = undo_fewer _ _ _ _ _ c.back.ensures some in
    record {
      counted = omega (arith, fewer, c.loop.invariant.counted);
      left = undo_next all _ _ _ _ _ c.back.ensures some c.loop.invariant.left;
    }

pub returns : goal.returns
returns c =
    let all = states_before c.args.steps.now.kept c.args.machine.now ++ c.args.machine.now ∷ [] in
    let none : length c.loop.steps.kept ≡ 0 = omega (arith, c.loop.invariant.counted, c.loop-test.false) in
    undone_all all c.loop.steps c.loop.machine none c.loop.invariant.left
