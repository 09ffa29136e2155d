-- The entries in flight after the prediction of an entry, by its completed state.
use Rattle.st_run.proofs.Common.{◌≡◌, ℕ, true, false, List, None, ap, plan, step, interrupt, ahead, Standing, issue_after, entries_behind, next_moment, IsScene, interrupt-below}
use Rattle.st_segment.proofs.StepLemmas.{prediction-right, prediction-mispredicted}

module _ (ds : List ℕ) (n k : ℕ) (p : Standing) (is : IsScene p.scene) where
  pub behind-right : (next_moment ds n p).mispredicted ≡ false
      → entries_behind ds n p k ≡ ahead ds n k None (next_moment ds n p).scene.machine (next_moment ds n p).issue
  unfolding next_moment step
  behind-right right =
      let s = p.scene.machine in
      ap (λ u. ahead ds n k None u (issue_after ds n p)) (prediction-right (interrupt p.scene.machine) s is.machine (interrupt-below s) right)

  pub behind-mispredicted : (next_moment ds n p).mispredicted ≡ true
      → entries_behind ds n p k
      ≡ ahead ds n k None
      (record (next_moment ds n p).scene.machine { ic = (plan p.scene.machine (interrupt p.scene.machine)).following })
      (next_moment ds n p).issue
  unfolding next_moment step
  behind-mispredicted mispredicted =
      let s = p.scene.machine in
      ap (λ u. ahead ds n k None u (issue_after ds n p)) (prediction-mispredicted (interrupt p.scene.machine) s is.machine (interrupt-below s) mispredicted)
