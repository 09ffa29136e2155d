use Rattle.st_lines.proofs.ChangeLemmas.{change-starts, change-passes, change-fails, change-made, change-size, change-left, change-ends, words-kept}
use Rattle.st_lines.proofs.LineLemmas.{not_both}
use Rattle.st_lines.proofs.changes.write_changed.Goals as goal

pub next_changed-first-requires-clause-left : goal.next_changed-first-requires-clause-left
next_changed-first-requires-clause-left g c v low below left = c.requires.left v below left

pub words-init : goal.words-init
words-init g c =
    change-passes _ _ c.args.old.now.items c.args.old.now.items c.args.state.now 0 c.next_changed-first.result
    (change-starts _ c.args.old.now.items c.args.state.now c.requires.size) c.next_changed-first.ensures.least c.next_changed-first.ensures.most
    c.next_changed-first.ensures.between

pub write_change-requires-clause-size : goal.write_change-requires-clause-size
write_change-requires-clause-size g c = c.words.invariant.copied.size

pub returns-in_err-write_change-clause-lines : goal.returns-in_err-write_change-clause-lines
returns-in_err-write_change-clause-lines g c =
    change-fails _ _ c.args.old.now.items _ c.args.state.now c.words.w c.words.invariant c.words-test.true _ _ c.from_residual.result c.from_residual.ensures.0
    c.in_err-write_change.ensures.lines

pub returns-in_err-write_change-clause-words : goal.returns-in_err-write_change-clause-words
returns-in_err-write_change-clause-words g c good = not_both c.from_residual.result c.from_residual.ensures.0 good

pub next_changed-next-requires-clause-size : goal.next_changed-next-requires-clause-size
next_changed-next-requires-clause-size g c =
    change-size _ _ c.args.old.now.items _ c.args.state.now c.words.w c.words.invariant c.words-test.true _ _ _ c.in_ok-write_change.ensures.lines
    c.in_ok-write_change.ensures.kept

pub next_changed-next-requires-clause-left : goal.next_changed-next-requires-clause-left
next_changed-next-requires-clause-left g c =
    change-left _ _ c.args.old.now.items _ c.args.state.now c.words.w c.words.invariant c.words-test.true _ _ _ c.in_ok-write_change.ensures.lines
    c.in_ok-write_change.ensures.kept c.args.may.now c.requires.left

pub words-preserved : goal.words-preserved
words-preserved g c =
    change-passes _ _ c.args.old.now.items _ c.args.state.now _ _
    (change-made _ _ c.args.old.now.items _ c.args.state.now c.words.w c.words.invariant c.words-test.true _ _ _ c.in_ok-write_change.ensures.lines
    c.in_ok-write_change.ensures.kept) c.next_changed-next.ensures.least c.next_changed-next.ensures.most
    c.next_changed-next.ensures.between

pub returns-clause-lines : goal.returns-clause-lines
returns-clause-lines g c = change-ends _ _ c.args.old.now.items _ c.args.state.now c.words.w c.words.invariant c.words-test.false _

pub returns-clause-words : goal.returns-clause-words
returns-clause-words g c good = words-kept _ _ c.args.old.now.items _ c.args.state.now c.words.w c.words.invariant c.words-test.false c.shape.ensures.size
