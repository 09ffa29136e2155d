-- Lemmas on the charges of each row.
use Rattle.st_ledger.proofs.Common.{◌≡◌, ℕ, ◌+◌, ◌-◌, ◌≤◌, max, List, [], ◌∷◌, refl, ◌∙◌, ap, subst, arith, row_of_entry, preparation_tick, tick_p, tick_c, Entry, IssueState, EntryTicks, ready-after, StagePart, Restart, Address, Preparing, Executing, parts_of_row, charges, all_ticks, ticks_for, Follow}
use Rattle.st_ledger.specs.declared.charges.Stage.TheVariants.{Instruction, Index, Operand}
use Rattle.st_ledger.proofs.ChargeSums.{reach, AreOthers, charged-follow, follow-sum, charged-last, charged-first}

-- the order of the ticks of a row
record IsOrdered (f : IssueState) (row : EntryTicks) (cost : ℕ) : Type 0 where
  a : row.a ≤ row.p
  p : row.p ≤ row.r
  c : row.c ≡ max f.c row.r + cost

ordered : (ds : List ℕ) (n : ℕ) (f : IssueState) (e : Entry) → IsOrdered f (row_of_entry ds n f e) e.cost
unfolding row_of_entry tick_p preparation_tick tick_c
ordered ds n f e = record { a = omega arith; p = ready-after ds n f e; c = refl }

-- the stages of a row end at its completion
reach-end : (t cost : ℕ) (f : IssueState) (r : EntryTicks) → IsOrdered f r cost → t ≤ f.c → reach t (parts_of_row f.c r) ≡ r.c
unfolding reach
reach-end t cost f r is early = omega (arith, is.a, is.p, is.c)

-- the stages of a row before executing; they end when the row is ready and the previous entry has
-- completed
front_parts : ℕ → EntryTicks → List StagePart
front_parts start row =
    record { stage = Restart; end = start }
    ∷ record { stage = Instruction; end = row.a - 1 }
    ∷ record { stage = Address; end = row.a }
    ∷ record { stage = Index; end = row.p - 1 }
    ∷ record { stage = Preparing; end = row.p }
    ∷ record { stage = Operand; end = row.r }
    ∷ []

reach-ready : (t cost : ℕ) (f : IssueState) (r : EntryTicks) → IsOrdered f r cost → t ≤ f.c → reach t (front_parts f.c r) ≡ max f.c r.r
unfolding reach front_parts
reach-ready t cost f r is early = omega (arith, is.a, is.p)

others : (start : ℕ) (r : EntryTicks) → AreOthers Executing (front_parts start r)
unfolding front_parts AreOthers
others start r = (refl, (refl, (refl, (refl, (refl, (refl, tt))))))

executing : (t cost : ℕ) (f : IssueState) (r : EntryTicks) → IsOrdered f r cost → t ≤ f.c → ticks_for Executing (charges t f r) ≡ cost
unfolding front_parts
executing t cost f r is early =
    charged-last t (front_parts f.c r) (record { stage = Executing; end = r.c }) refl (others f.c r)
    ∙ ap (λ k. r.c - k) (reach-ready t cost f r is early)
    ∙ omega (arith, is.c)

-- the stages of a row after the restart, which ends at the start of the segment
later_parts : EntryTicks → List StagePart
later_parts r =
    record { stage = Instruction; end = r.a - 1 }
    ∷ record { stage = Address; end = r.a }
    ∷ record { stage = Index; end = r.p - 1 }
    ∷ record { stage = Preparing; end = r.p }
    ∷ record { stage = Operand; end = r.r }
    ∷ record { stage = Executing; end = r.c }
    ∷ []

none-restarts : (r : EntryTicks) → AreOthers Restart (later_parts r)
unfolding later_parts AreOthers
none-restarts r = (refl, (refl, (refl, (refl, (refl, (refl, tt))))))

restarting : (t : ℕ) (f : IssueState) (r : EntryTicks) → t ≤ f.c → t + ticks_for Restart (charges t f r) ≡ f.c
unfolding later_parts
restarting t f r early =
    let is = charged-first t (record { stage = Restart; end = f.c }) (later_parts r) refl (none-restarts r) in
    omega (arith, is)

module _ (ds : List ℕ) (n t : ℕ) (f : IssueState) (e : Entry) (early : t ≤ f.c) where
  pub row-follows : Follow t (row_of_entry ds n f e).c (charges t f (row_of_entry ds n f e))
  row-follows =
      let r = row_of_entry ds n f e in
      subst (λ c. Follow t c (charges t f r)) (reach-end t e.cost f r (ordered ds n f e) early) (charged-follow t (parts_of_row f.c r))

  pub row-sum : t + all_ticks (charges t f (row_of_entry ds n f e)) ≡ (row_of_entry ds n f e).c
  row-sum = follow-sum t (row_of_entry ds n f e).c (charges t f (row_of_entry ds n f e)) row-follows

  pub row-costs : ticks_for Executing (charges t f (row_of_entry ds n f e)) ≡ e.cost
  row-costs = executing t e.cost f (row_of_entry ds n f e) (ordered ds n f e) early

  pub row-restarts : t + ticks_for Restart (charges t f (row_of_entry ds n f e)) ≡ f.c
  row-restarts = restarting t f (row_of_entry ds n f e) early
