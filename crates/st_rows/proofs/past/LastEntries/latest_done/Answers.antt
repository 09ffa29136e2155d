use Rattle.st_rows.proofs.Common.{ap, sym, ◌∙◌, latest_done, entries_in, window}
use Rattle.st_rows.proofs.Writers.{latest-unwritten}
use Rattle.st_rows.proofs.past.LastEntries.latest_done.Goals as goal

pub returns-then-lies_outside : goal.returns-then-lies_outside
returns-then-lies_outside c =
    let past = window c.self.inside.head 8 (entries_in c.self.inside.done) in
    latest-unwritten past c.args.w (c.self.invariant.bounds c.args.w c.requires.storage (sym c.if-lies_outside.ensures))
    ∙ ap (λ seen. latest_done seen c.args.w) c.self.view_is
