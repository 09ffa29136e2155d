use Rattle.st_rows.proofs.Common.{ap, sym, ◌∙◌, subst, arith, trailing_zeros, w64, latest_done, is_among, entries_in, window}
use Rattle.st_rows.proofs.Places.{count, newest-at, tick-at}
use Rattle.st_rows.proofs.Writers.{IsLeft, all-left, none-left, newest-writes, fewer-left, next-left}
use Rattle.st_rows.proofs.past.LastEntries.latest_writer.Goals as goal

pub writers-init : goal.writers-init
writers-init c =
    let past = window c.self.inside.head 8 (entries_in c.self.inside.done) in
    subst (IsLeft past c.args.w) (sym c.self.invariant.writers) (all-left past c.args.w)

pub returns-then-has : goal.returns-then-has
returns-then-has c =
    let q = c.self.inside in
    let past = window q.head 8 (entries_in q.done) in
    let newest = newest-at q.head q.done q.writes q.writers q.bounds.low q.bounds.high c.self.invariant c.args.w c.writers.left (omega arith) (omega arith)
    c.writers.invariant in
    tick-at q.head q.done q.writes q.writers q.bounds.low q.bounds.high c.self.invariant (trailing_zeros w64 c.writers.left) _ newest.0
    ∙ newest-writes past c.args.w c.writers.left (omega arith) (omega arith) c.writers.invariant
    (c.if-has.ensures ∙ ap (is_among c.args.w) newest.1)
    ∙ ap (λ seen. latest_done seen c.args.w) c.self.view_is

pub writers-smaller : goal.writers-smaller
writers-smaller c =
    fewer-left (window c.self.inside.head 8 (entries_in c.self.inside.done)) c.args.w c.writers.left (omega arith) (omega arith) c.writers.invariant

pub writers-preserved : goal.writers-preserved
writers-preserved c =
    let q = c.self.inside in
    let past = window q.head 8 (entries_in q.done) in
    let newest = newest-at q.head q.done q.writes q.writers q.bounds.low q.bounds.high c.self.invariant c.args.w c.writers.left (omega arith) (omega arith)
    c.writers.invariant in
    next-left past c.args.w c.writers.left (omega arith) (omega arith) c.writers.invariant (omega (arith, count q.head q.done q.writes q.writers q.bounds.low q.bounds.high c.self.invariant))
    (c.if-has.ensures ∙ ap (is_among c.args.w) newest.1)

pub returns : goal.returns
returns c =
    none-left (window c.self.inside.head 8 (entries_in c.self.inside.done)) c.args.w c.writers.left (omega arith) c.writers.invariant
    ∙ ap (λ seen. latest_done seen c.args.w) c.self.view_is
