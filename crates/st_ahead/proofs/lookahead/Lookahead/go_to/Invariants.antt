use Rattle.st_ahead.proofs.Common.{ℕ, ◌-◌, ◌≤◌, Option, IssueState, count, GoesUpTo, Reaches}
use Rattle.st_ahead.proofs.lookahead.Lookahead.go_to.Given as goal

-- the look-ahead advances as before, and no level is removed
abbrev pub invariant-entries : goal.invariant-entries
invariant-entries g l = record {
  going : Reaches l.delays.list g.row.N l.last l.state l.self;
  each : (t : Option ℕ) (f : IssueState) (since : ℕ) → GoesUpTo l.delays.list g.row.N since l.last t l.state f l.fn.self → GoesUpTo l.delays.list g.row.N since l.last t l.state f l.self;
  grows : count l.fn.self ≤ count l.self;
}

abbrev pub decreases-entries : goal.decreases-entries
decreases-entries g l = g.row.N - count l.self
