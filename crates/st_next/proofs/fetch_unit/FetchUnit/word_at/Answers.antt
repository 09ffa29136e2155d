use Rattle.st_next.proofs.Common.{◌+◌, sym, ◌∙◌, ap, arith}
use Rattle.st_next.proofs.Starts.{own-at, target-at}
use Rattle.st_next.proofs.fetch_unit.FetchUnit.word_at.Goals as goal

pub returns-then-k-self-clause-value : goal.returns-then-k-self-clause-value
returns-then-k-self-clause-value c few =
    ap (λ n. c.args.self.now.entry.own.first + n) c.from.ensures
    ∙ sym (own-at c.args.self.now.entry.own c.args.self.now.entry.target c.args.k (omega arith))

pub returns-then-behind-self-clause-value : goal.returns-then-behind-self-clause-value
returns-then-behind-self-clause-value c few =
    ap (λ n. c.args.self.now.entry.target.first + n) c.from-then-behind-self.ensures
    ∙ sym (target-at c.args.self.now.entry.own c.args.self.now.entry.target c.args.k (omega arith) (omega arith))
