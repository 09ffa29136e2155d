use Rattle.st_run.proofs.Common.{◌≡◌, ◌-◌, [], arith, rest_of}
use Rattle.st_run.proofs.LeftLemmas.{done-in_time}
use Rattle.st_run.proofs.PassLemmas.{ahead-is, far-row, far-none, far-left, far-told}
use Rattle.st_run.proofs.progress.go_far.Goals as goal

pub count_of-count-requires : goal.count_of-count-requires
count_of-count-requires g c =
    let run = c.args.run.now in
    let is = ahead-is run.left run.tick run.snaps.now run.queue run.driven c.requires.run c.requires.waits c.requires.snaps in
    let few = done-in_time run.left run.tick [] run.driven is.before is.in_time in
    (omega arith, omega (arith, few, c.requires.done))

pub run_many-requires : goal.run_many-requires
run_many-requires g c =
    let run = c.args.run.now in
    let is = ahead-is run.left run.tick run.snaps.now run.queue run.driven c.requires.run c.requires.waits c.requires.snaps in
    (omega arith, (is.before, (done-in_time run.left run.tick [] run.driven is.before is.in_time, c.count_of-count.ensures.few)))

pub unreachable-requires : goal.unreachable-requires
unreachable-requires g c =
    let run = c.args.run.now in
    let is = ahead-is run.left run.tick run.snaps.now run.queue run.driven c.requires.run c.requires.waits c.requires.snaps in
    far-none c.count_of-count.result run.left run.tick run.driven c.run_many.new.driven is
    (omega (arith, c.count_of-count.ensures.left, c.requires.done))
    c.count_of-count.ensures.signal c.in_default.ensures.made

pub overflow_sub-run-2 : goal.overflow_sub-run-2
overflow_sub-run-2 g c =
    let run = c.args.run.now in
    let is = ahead-is run.left run.tick run.snaps.now run.queue run.driven c.requires.run c.requires.waits c.requires.snaps in
    let far = far-row c.count_of-count.result run.left run.tick run.driven c.run_many.new.driven is
    (omega (arith, c.count_of-count.ensures.left, c.requires.done))
    c.count_of-count.ensures.signal c.in-Some.halt.row c.in-Some.ensures.made in
    omega (arith, far.more, c.requires.done)

pub overflow_sub-run-3 : goal.overflow_sub-run-3
overflow_sub-run-3 g c =
    let run = c.args.run.now in
    let is = ahead-is run.left run.tick run.snaps.now run.queue run.driven c.requires.run c.requires.waits c.requires.snaps in
    let far = far-row c.count_of-count.result run.left run.tick run.driven c.run_many.new.driven is
    (omega (arith, c.count_of-count.ensures.left, c.requires.done))
    c.count_of-count.ensures.signal c.in-Some.halt.row c.in-Some.ensures.made in
    omega (arith, far.more, far.number, c.requires.done)

pub leave_entry-requires : goal.leave_entry-requires
leave_entry-requires g c =
    let run = c.args.run.now in
    let is = ahead-is run.left run.tick run.snaps.now run.queue run.driven c.requires.run c.requires.waits c.requires.snaps in
    let far = far-row c.count_of-count.result run.left run.tick run.driven c.run_many.new.driven is
    (omega (arith, c.count_of-count.ensures.left, c.requires.done))
    c.count_of-count.ensures.signal c.in-Some.halt.row c.in-Some.ensures.made in
    let left : far.left_now ≡ run.left - (c.in-Some.halt.row.number - 1 - c.args.done) =
    omega (arith, far.more, far.number, c.requires.done) in (
      omega arith,
      (
        far-left c.count_of-count.result run.left run.tick run.snaps.now run.driven c.run_many.new.driven c.in-Some.halt.row far _ left c.requires.snaps,
        (c.in-Some.ensures.quiet, (far.counted, (c.requires.turn, c.requires.waits))),
      ),
    )

pub returns-clause-told : goal.returns-clause-told
returns-clause-told g c =
    let run = c.args.run.now in
    let is = ahead-is run.left run.tick run.snaps.now run.queue run.driven c.requires.run c.requires.waits c.requires.snaps in
    let far = far-row c.count_of-count.result run.left run.tick run.driven c.run_many.new.driven is
    (omega (arith, c.count_of-count.ensures.left, c.requires.done))
    c.count_of-count.ensures.signal c.in-Some.halt.row c.in-Some.ensures.made in
    let left : far.left_now ≡ run.left - (c.in-Some.halt.row.number - 1 - c.args.done) =
    omega (arith, far.more, far.number, c.requires.done) in
    let after = c.leave_entry.new.run in
    let rest = rest_of after.turn after.left after.tick after.snaps.now after.queue after.driven in
    far-told c.count_of-count.result run.left run.tick run.snaps.now run.driven c.run_many.new.driven c.in-Some.halt.row far _ left c.requires.snaps
    c.args.done c.args.most rest c.args.rows.now c.run_many.new.rows c.requires.done c.count_of-count.ensures.most c.leave_entry.ensures.told c.in-Some.ensures.rows
