use Rattle.st_rows.proofs.Common.{◌+◌, ◌-◌, ◌^◌, ap, arith, words_of_storage_is}
use Rattle.st_rows.proofs.Within.{delays-are, request_inside-within}
use Rattle.st_rows.proofs.Noted.{both-noted}
use Rattle.st_rows.proofs.Telling.{told-both}
use Rattle.st_rows.proofs.issue.follow.Goals as goal

pub overflow_add-w : goal.overflow_add-w
overflow_add-w g c =
    let some = c.requires.entry.follows c.if-not-entry.false in
    omega (arith, words_of_storage_is, c.requires.entry.own.inside some)

pub overflow_add-w-2 : goal.overflow_add-w-2
overflow_add-w-2 g c =
    let some = c.requires.entry.follows c.if-not-entry.false in
    omega (arith, words_of_storage_is, c.requires.entry.own.inside some)

pub request_inside-requires-2-clause-room : goal.request_inside-requires-2-clause-room
request_inside-requires-2-clause-room g c =
    rw c.request_inside.ensures.after
    (request_inside-within 255 c.args.wanted.now.delays.now.list (delays-are c.args.wanted.now.delays.now) (2 ^ 64 - 1024) (2 ^ 64 - 512) (omega arith)
    c.args.bus.now _ c.args.wanted.now.tick c.requires.room c.requires.early)

pub returns-clause-log : goal.returns-clause-log
returns-clause-log g c =
    both-noted c.args.wanted.now.delays.now.list c.args.bus.now c.request_inside.new.bus c.args.entry.now c.args.wanted.now.tick (c.args.entry.now.own.first + c.from.result) c.args.log.now c.request_inside.new.log c.request_inside-2.new.log
    c.if-not-entry.false (ap (λ n. c.args.entry.now.own.first + n) c.from.ensures) c.request_inside.ensures.after c.request_inside.ensures.log c.request_inside-2.ensures.log

pub returns-clause-told : goal.returns-clause-told
returns-clause-told g c =
    told-both g.W.Watch.noted g.met.W.Watch.noted_more c.args.wanted.now.delays.now.list c.args.bus.now c.request_inside.new.bus c.args.entry.now c.args.wanted.now.tick (c.args.entry.now.own.first + c.from.result) c.args.watch.now
    c.request_inside.new.watch c.request_inside-2.new.watch c.if-not-entry.false (ap (λ n. c.args.entry.now.own.first + n) c.from.ensures) c.request_inside.ensures.after c.request_inside.ensures.told
    c.request_inside-2.ensures.told
