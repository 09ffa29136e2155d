use Rattle.st_ahead.proofs.Common.{ℕ, ◌-◌, ◌<◌, ◌^◌, IssueState, GoesFrom}
use Rattle.st_ahead.proofs.Runs.{IsNoting}
use Rattle.st_ahead.proofs.lookahead.Lookahead.run_to.Given as goal

-- the ticks so far are passed
abbrev pub invariant-entries : goal.invariant-entries
invariant-entries g l = record {
  each : (f : IssueState) (now : ℕ) → GoesFrom l.delays.list g.row.N l.last now l.fn.committed.taken l.fn.committed.state f l.fn.self
      → IsNoting l.delays.list g.row.N l.count l.last now l.fn.committed.taken l.fn.committed.state f l.committed.taken l.committed.state l.self l.fn.rows l.rows;
  done : l.committed.state.done < 2 ^ 63;
}

abbrev pub decreases-entries : goal.decreases-entries
decreases-entries g l = l.count - l.committed.state.done
