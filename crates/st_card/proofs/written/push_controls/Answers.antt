use Rattle.st_card.proofs.Common.{control_line, asked_by, Listing}
use Rattle.st_text.proofs.ListLemmas.{first_and_rest}
use Rattle.st_card.proofs.LineLemmas.{keyword-more}
use Rattle.st_card.proofs.written.push_controls.Goals as goal

pub keywords-preserved : goal.keywords-preserved
keywords-preserved c =
    keyword-more (control_line c.args.form) (λ keyword. asked_by keyword c.args.controls.now) _ _ c.keywords.rest.now
    c.keywords.text.items c.push_requests.new.text.items _ (first_and_rest c.keywords.rest.now Listing c.in-len1-up.len_at_least)
    c.keywords.invariant c.in_ok-push_requests.ensures
