-- Levels at a later tick: a word in a slot stays in it.
use Rattle.st_ring.proofs.Common.{ℕ, ◌≤◌, List, [], ◌∷◌, Option, None, Machine, plan, prediction, issue_after_entry, fills, IssueState, Level, entry, LevelsView, IsLevel, AreLevels, AreAhead, PlannedRow}
use Rattle.st_ring.proofs.FillLemmas.{kept-later}

module _ (tick later : ℕ) (behind : tick ≤ later) where
  level-rests : (ds : List ℕ) (n : ℕ) (t : Option ℕ) (s : Machine) (f : IssueState) (level : Level) (q : PlannedRow)
      → IsLevel ds n tick t s f level q → IsLevel ds n later t s f level q
  level-rests ds n t s f level q h = record {
    prepared = h.prepared;
    p = h.p;
    have = record {
      first = h.have.first;
      second = h.have.second;
      slots = h.have.slots;
      kept_first = kept-later (fills ds n f (entry t s)) (plan s t) s tick later 0 h.have.first behind h.have.kept_first;
      kept_second = kept-later (fills ds n f (entry t s)) (plan s t) s tick later 1 h.have.second behind h.have.kept_second;
    };
    issue = h.issue;
    r = h.r;
    c = h.c;
    fills = h.fills;
  }

  levels-rest : (ds : List ℕ) (n : ℕ) (t : Option ℕ) (s : Machine) (f last : IssueState) (ring : List Level) (plans : List PlannedRow)
      → AreLevels ds n tick t s f last ring plans → AreLevels ds n later t s f last ring plans
  unfolding AreLevels
  levels-rest ds n t s f last [] [] h = h
  levels-rest ds n t s f last [] (q ∷ qs) h = absurd h
  levels-rest ds n t s f last (level ∷ levels) [] h = absurd h
  levels-rest ds n t s f last (level ∷ levels) (q ∷ qs) h =
      (level-rests ds n t s f level q h.0, levels-rest ds n None (prediction t s) (issue_after_entry ds n f (entry t s)) last levels qs h.1)

  pub ahead-rests : (ds : List ℕ) (n : ℕ) (t : Option ℕ) (s : Machine) (f last : IssueState) (v : LevelsView)
      → AreAhead ds n tick t s f last v → AreAhead ds n later t s f last v
  ahead-rests ds n t s f last v h = record {
    levels = levels-rest ds n t s f last v.ring v.plans h.levels;
    index = h.index;
    run_ahead = h.run_ahead;
  }
