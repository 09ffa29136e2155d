use Rattle.st_rows.proofs.Common.{refl, row_of_entry, issue_after_entry}
use Rattle.st_rows.proofs.issue.IssueState.pass.Goals as goal

pub returns : goal.returns
unfolding row_of_entry issue_after_entry
returns c ds n is bus = rw (c.put.ensures, bus, is) refl
