-- The reads of an entry in the log, part by part.
use Rattle.st_plain.proofs.Common.{◌≡◌, ℕ, List, sym, ap, ◌∙◌, formed_asked, prepared_asked, log_after_reads, bus_a, reads_of_entry, row_of_entry, issue_after_entry, Bus, Entry, EntryTicks, IssueState, Made, noted-two, served-formed}
use Rattle.st_rows.proofs.Parts.{two-parts}

module _ (ds : List ℕ) (f : IssueState) (e : Entry) where
  -- the reads from preparation on, after the reads before it
  pub noted-asked : (n : ℕ) (b : Bus) (log one two : List Made) → b ≡ bus_a ds f e → one ≡ log_after_reads ds (formed_asked ds f e) f.bus log
      → two ≡ log_after_reads ds (prepared_asked ds n f e) b one → two ≡ log_after_reads ds (reads_of_entry ds n f e) f.bus log
  noted-asked n b log one two is made next =
      next
      ∙ rw is (noted-two ds (formed_asked ds f e) (prepared_asked ds n f e) f.bus (bus_a ds f e) log one (sym (served-formed ds f e)) made)
      ∙ ap (λ reads. log_after_reads ds reads f.bus log) (sym (two-parts ds n f e))

-- ---- the issue state after an entry

-- the entry of a fetch unit is that of the row
pub after-passed : (ds : List ℕ) (n : ℕ) (f : IssueState) (e x : Entry) (row : EntryTicks) (b : Bus) (g : IssueState) → x ≡ e → row ≡ row_of_entry ds n f e
    → b ≡ (issue_after_entry ds n f e).bus
    → (row ≡ row_of_entry ds n f x → b ≡ (issue_after_entry ds n f x).bus → g ≡ issue_after_entry ds n f x)
    → g ≡ issue_after_entry ds n f e
after-passed ds n f e x row b g same is bus passed =
    passed (is ∙ ap (row_of_entry ds n f) (sym same)) (bus ∙ ap (λ y. (issue_after_entry ds n f y).bus) (sym same))
    ∙ ap (issue_after_entry ds n f) same
