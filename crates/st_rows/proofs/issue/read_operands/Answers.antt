use Rattle.st_rows.proofs.Common.{◌+◌, ◌-◌, ◌*◌, ◌^◌, ◌∙◌, ap, sym, subst, arith, IsReadingWithin, told, uses, words_of, Operand, Fetching}
use Rattle.st_rows.proofs.Noted.{runs-noted}
use Rattle.st_rows.proofs.Telling.{told-two}
use Rattle.st_rows.proofs.Within.{delays-are, reading-weaker}
use Rattle.st_rows.proofs.Stages.{read_sixteen-within}
use Rattle.st_rows.proofs.issue.read_operands.Goals as goal

-- after the first run
pub read_on-requires-clause-room : goal.read_on-requires-clause-room
read_on-requires-clause-room g c =
    let m = 2 ^ 64 - 2 ^ 17 in
    let start : IsReadingWithin m c.args.operands.now = record { bus = c.requires.room; answered = omega (arith, c.requires.start, c.requires.early) } in
    subst (λ (s : Fetching). IsReadingWithin (2 ^ 64 - 2 ^ 16) s) (sym c.read_run-fills.ensures.value)
    (reading-weaker (m + 16 * 256) (2 ^ 64 - 2 ^ 16) _ (omega arith)
    (read_sixteen-within 255 c.args.wanted.now.delays.now.list (delays-are c.args.wanted.now.delays.now) c.args.wanted.now.past.now c.args.wanted.now.tick
    c.args.reads.now.one.first c.args.reads.now.one.len m _ c.requires.one_few start c.requires.early))

pub returns-clause-log : goal.returns-clause-log
returns-clause-log g c =
    runs-noted c.args.wanted.now.delays.now.list c.args.wanted.now.past.now c.args.wanted.now.tick c.args.reads.now c.args.operands.now c.read_run-fills.new.operands c.args.log.now
    c.read_run-fills.new.log c.read_on.new.log c.read_run-fills.ensures.value c.read_run-fills.ensures.log c.read_on.ensures.log

pub returns-clause-told : goal.returns-clause-told
returns-clause-told g c =
    let ds = c.args.wanted.now.delays.now.list in
    let past = c.args.wanted.now.past.now in
    let noted = g.W.Watch.noted in
    let more = g.met.W.Watch.noted_more in
    told-two noted more _ _ c.args.watch.now c.read_run-fills.new.watch c.read_on.new.watch
    (told-two noted more _ _ c.args.watch.now c.notify.new.watch c.read_run-fills.new.watch c.notify.ensures c.read_run-fills.ensures.told)
    (told-two noted more _ _ c.read_run-fills.new.watch c.notify-2.new.watch c.read_on.new.watch c.notify-2.ensures
    (c.read_on.ensures.told
    ∙ ap (λ (s : Fetching). noted (told ds past (uses ds past s (words_of Operand c.args.wanted.now.tick c.args.reads.now.two))) c.notify-2.new.watch) c.read_run-fills.ensures.value))
