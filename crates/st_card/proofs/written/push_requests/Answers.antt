use Rattle.st_card.proofs.Common.{sym, control_line, asked_by}
use Rattle.st_card.proofs.LineLemmas.{lines-more}
use Rattle.st_card.proofs.written.push_requests.Goals as goal

pub requests-preserved : goal.requests-preserved
requests-preserved c =
    lines-more (control_line c.args.form) (asked_by c.args.keyword c.args.controls.now) c.requests.index c.in-Some.control
    c.args.text.now.items c.requests.text.items c.push_line.new.text.items (sym c.in-Some.ensures) c.requests.invariant c.in_ok-push_line.ensures
