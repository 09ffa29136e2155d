use Rattle.st_back.proofs.Common.{sym, ◌∙◌, arith}
use Rattle.st_back.proofs.UndoneLemmas.{unput-next, unput-none}
use Rattle.st_back.proofs.undoing.remove_puts.Goals as goal

pub puts-preserved : goal.puts-preserved
puts-preserved c =
    let k = c.args.kept.now in (
      omega arith,
      rw c.store.ensures (unput-next c.puts.n k.places k.contents c.puts.state (omega arith) ∙ c.puts.invariant.1),
    )

pub returns : goal.returns
returns c =
    let k = c.args.kept.now in
    sym (unput-none c.puts.n k.places k.contents c.puts.state (omega arith)) ∙ c.puts.invariant.1
