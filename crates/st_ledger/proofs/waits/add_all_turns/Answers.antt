use Rattle.st_ledger.proofs.Common.{[], ◌++◌, List, sym, ◌∙◌, ap, append-nil, Wait}
use Rattle.std.proofs.Common.{reverse}
use Rattle.st_ledger.proofs.Stands.{turns_all}
use Rattle.st_ledger.proofs.Covers.{turns-empty}
use Rattle.st_ledger.proofs.waits.add_all_turns.Goals as goal

pub returns-clause-items : goal.returns-clause-items
returns-clause-items c =
    turns_all c.args.from c.args.read.word c.args.read c.add_turns-here.result c.add_turns-there.result (reverse c.args.earlier.now)
    (reverse c.args.before.now) c.args.waits.now.items c.add_turns-here.new.waits.items c.add_turns-there.new.waits.items _
    (c.add_turns-here.ensures.items (reverse c.args.before.now ++ [])) (c.add_turns-there.ensures.items []) c.add_piece.ensures.items

pub returns-then-read-from-clause-items : goal.returns-then-read-from-clause-items
returns-then-read-from-clause-items c =
    sym (append-nil c.args.waits.now.items)
    ∙ ap (λ (xs : List Wait). c.args.waits.now.items ++ xs)
    (sym (turns-empty c.args.from c.args.read.word c.args.read (reverse c.args.earlier.now ++ reverse c.args.before.now) c.if-read-from.true))
