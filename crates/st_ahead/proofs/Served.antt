-- The reads of the levels.
use Rattle.st_ahead.proofs.Common.{◌≡◌, ℕ, suc, List, [], ◌∷◌, ◌++◌, append_assoc, length, Option, None, sym, ◌∙◌, ap, ap₂, append-nil, Machine, prediction, bus_after_reads, reads_of_entry, issue_after_entry, IssueState, served-append, served-asked, Level, ahead, entry, predictions, table_behind, behind-none, AreLevels, PlannedRow, asked_ahead}

module _ (ds : List ℕ) (n tick : ℕ) where
  pub served-ahead : (t : Option ℕ) (s : Machine) (f last : IssueState) (ring : List Level) (plans : List PlannedRow)
      → AreLevels ds n tick t s f last ring plans → bus_after_reads ds (asked_ahead ds n (length ring) t s f) f.bus ≡ last.bus
  unfolding AreLevels bus_after_reads ahead
  served-ahead t s f last [] [] h = ap (λ (g : IssueState). g.bus) (sym h)
  served-ahead t s f last [] (q ∷ qs) h = absurd h
  served-ahead t s f last (level ∷ levels) [] h = absurd h
  served-ahead t s f last (level ∷ levels) (q ∷ qs) h =
      let rest = asked_ahead ds n (length levels) None (prediction t s) (issue_after_entry ds n f (entry t s)) in
      served-append ds (reads_of_entry ds n f (entry t s)) rest f.bus
      ∙ ap (bus_after_reads ds rest) (served-asked ds n f (entry t s))
      ∙ served-ahead None (prediction t s) (issue_after_entry ds n f (entry t s)) last levels qs h.1

  pub asked-more : (t k : Option ℕ) (s u : Machine) (f last : IssueState) (ring : List Level) (plans : List PlannedRow)
      → k ≡ table_behind (length ring) t → u ≡ predictions (length ring) t s → AreLevels ds n tick t s f last ring plans
      → asked_ahead ds n (suc (length ring)) t s f ≡ asked_ahead ds n (length ring) t s f ++ reads_of_entry ds n last (entry k u)
  unfolding AreLevels predictions ahead
  asked-more t k s u f last [] [] table state h =
      append-nil (reads_of_entry ds n f (entry t s)) ∙ ap₂ (λ g e. reads_of_entry ds n g e) (sym h) (sym (ap₂ entry table state))
  asked-more t k s u f last [] (q ∷ qs) table state h = absurd h
  asked-more t k s u f last (level ∷ levels) [] table state h = absurd h
  asked-more t k s u f last (level ∷ levels) (q ∷ qs) table state h =
      let first = reads_of_entry ds n f (entry t s) in
      ap (λ reads. first ++ reads)
      (asked-more None k (prediction t s) u (issue_after_entry ds n f (entry t s)) last levels qs (table ∙ sym (behind-none (length levels))) state h.1)
      ∙ sym (append_assoc first (asked_ahead ds n (length levels) None (prediction t s) (issue_after_entry ds n f (entry t s))) (reads_of_entry ds n last (entry k u)))
