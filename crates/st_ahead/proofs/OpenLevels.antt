-- If the next entry can be known, no level is serializing.
use Rattle.st_ahead.proofs.Common.{◌≡◌, ℕ, ◌≤◌, ◌||◌, List, [], ◌∷◌, length, Option, sym, ◌∙◌, ap, arith, not-true, Machine, plan, issue_after_entry, IssueState, Level, entry, RunAhead, AreLevels, PlannedRow}
use Rattle.std.specs.Prelude.{true, false, not}
use Rattle.std.proofs.Common.{◌==◌}

-- the issue state after a single level says whether the level is serializing
one-level : (ds : List ℕ) (n tick : ℕ) (t : Option ℕ) (s : Machine) (f last : IssueState) (level : Level) (plans : List PlannedRow)
    → AreLevels ds n tick t s f last (level ∷ []) plans → last.serial ≡ false → (plan s t).serial ≡ false
unfolding AreLevels issue_after_entry entry
one-level ds n tick t s f last level [] h alone = absurd h
one-level ds n tick t s f last level (q ∷ []) h alone = sym (ap (λ (g : IssueState). g.serial) h.1) ∙ alone
one-level ds n tick t s f last level (q ∷ r ∷ qs) h alone = absurd h.1

-- several levels are not serializing; a single one is not if the issue state after it says so
pub levels-run : (ds : List ℕ) (n tick : ℕ) (t : Option ℕ) (s : Machine) (f last : IssueState) (ring : List Level) (plans : List PlannedRow)
    → AreLevels ds n tick t s f last ring plans → ((length ring == 0) || not last.serial) ≡ true
    → (2 ≤ length ring → RunAhead (length ring) t s) → RunAhead (length ring) t s
unfolding RunAhead
levels-run ds n tick t s f last [] plans h opened more = tt
levels-run ds n tick t s f last (level ∷ []) plans h opened more =
    (one-level ds n tick t s f last level plans h (not-true last.serial opened), tt)
levels-run ds n tick t s f last (level ∷ next ∷ ring) plans h opened more = more (omega arith)
