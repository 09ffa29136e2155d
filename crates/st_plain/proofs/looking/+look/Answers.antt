use Rattle.st_plain.proofs.Common.{◌<◌, length, refl, sym, subst, ◌∙◌, ap, arith, length_push, Machine, IsMachine, IsEntryInTime, IssueState, later-c, delays-are}
use Rattle.st_plain.proofs.LookLemmas.{prediction-counted, prediction-done, after-c, first-next}
use Rattle.st_plain.proofs.Looked.{seen-late, found-none, log-at_late, bus-at_late, some-left, found-with, late-behind, log-behind, bus-behind}
use Rattle.st_plain.proofs.looking.+look.Goals as goal

-- the next entry is not prepared in time

pub returns-then-begun-reach-clause-late : goal.returns-then-begun-reach-clause-late
returns-then-begun-reach-clause-late t c =
    seen-late _ _ c.args.reach.now.tick c.args.reach.now.more _ _ _ _ c.begin-begun.ensures.entry c.begin-begun.ensures.tick
    _ _ _ _ _ _ c.begin-begun.ensures.plan c.finish-ticks.ensures.value (c.begin-begun.ensures.known refl)
    c.new-uses.ensures c.begin-begun.ensures.uses c.finish-ticks.ensures.uses (omega (arith, c.if-begun-reach.true))

pub returns-then-begun-reach-clause-found : goal.returns-then-begun-reach-clause-found
returns-then-begun-reach-clause-found t c =
    found-none _ _ c.args.reach.now.tick c.args.reach.now.more _ _ _ _ c.begin-begun.ensures.entry c.begin-begun.ensures.tick
    (omega (arith, c.if-begun-reach.true)) _

pub returns-then-begun-reach-clause-log : goal.returns-then-begun-reach-clause-log
returns-then-begun-reach-clause-log t c =
    log-at_late _ _ c.args.reach.now.tick c.args.reach.now.more _ _ _ _ c.begin-begun.ensures.entry c.begin-begun.ensures.tick
    (omega (arith, c.if-begun-reach.true)) _ _ c.begin-begun.ensures.log

pub returns-then-begun-reach-clause-bus : goal.returns-then-begun-reach-clause-bus
returns-then-begun-reach-clause-bus t c =
    bus-at_late _ _ c.args.reach.now.tick c.args.reach.now.more _ _ _ _ c.begin-begun.ensures.entry c.begin-begun.ensures.tick
    (omega (arith, c.if-begun-reach.true)) _ c.begin-begun.ensures.bus

-- the next entry is prepared in time

pub push-requires : goal.push-requires
push-requires t c =
    let some = some-left _ _ c.args.reach.now.tick c.args.reach.now.more _ _ _ _ c.begin-begun.ensures.entry c.begin-begun.ensures.tick
    (omega (arith, c.if-begun-reach.false)) c.args.reach.now.timing.now.some c.requires.first in
    let room : length c.args.ahead.now.found.items < 8 = omega (arith, c.requires.space, some) in
    (omega arith, room)

pub overflow_sub-further : goal.overflow_sub-further
overflow_sub-further t c =
    some-left _ _ c.args.reach.now.tick c.args.reach.now.more _ _ _ _ c.begin-begun.ensures.entry c.begin-begun.ensures.tick
    (omega (arith, c.if-begun-reach.false)) c.args.reach.now.timing.now.some c.requires.first

pub look-requires : goal.look-requires
look-requires t c =
    let ds = c.args.reach.now.timing.now.delays.now.list in
    let n = c.args.reach.now.timing.now.levels in
    let f = c.args.issue.now in
    let e = c.begin-begun.new.unit.entry in
    let some = some-left _ _ c.args.reach.now.tick c.args.reach.now.more _ _ _ _ c.begin-begun.ensures.entry c.begin-begun.ensures.tick
    (omega (arith, c.if-begun-reach.false)) c.args.reach.now.timing.now.some c.requires.first in
    let done = ap (λ (s : Machine). s.done) c.prediction.ensures ∙ prediction-done c.begin-begun.new.unit.prepared c.args.state.now in
    let more = ap length c.push.ensures.items ∙ length_push c.args.ahead.now.found.items _ in
    let range : IsEntryInTime e = c.begin-begun.ensures.in_time in
    let rises : f.c < c.finish-row.new.issue.c =
    omega (
      arith,
      ap (λ (g : IssueState). g.c) c.finish-row.ensures.after,
      after-c ds n f e,
      (later-c 255 ds (delays-are c.args.reach.now.timing.now.delays.now) n f e range c.requires.tight).0,
    ) in (
      omega (arith, c.decreases, some),
      (
        omega (arith, done, c.requires.few, some),
        (
          c.finish-row.ensures.tight,
          (
            omega (arith, c.finish-row.ensures.bound, c.requires.early, some),
            (
              omega (arith, c.requires.late, rises),
              (
                first-next ds n n c.args.reach.now.more c.args.reach.now.tick f c.finish-row.new.issue e c.args.reach.now.timing.now.few some
                    c.args.reach.now.left c.requires.late rises c.requires.first c.finish-row.ensures.after,
                omega (arith, more, c.requires.space, some),
              ),
            ),
          ),
        ),
      ),
    )

pub returns-clause-state : goal.returns-clause-state
returns-clause-state t c =
    let counted = prediction-counted c.begin-begun.new.unit.prepared c.args.state.now in
    c.undo.ensures ∙ c.keep-kept.ensures.undone _ counted.ic (c.look.ensures.state ∙ c.prediction.ensures ∙ counted.is)

pub returns-clause-machine : goal.returns-clause-machine
returns-clause-machine t c = subst IsMachine (sym (returns-clause-state t c)) c.begin-begun.ensures.machine

pub returns-clause-found : goal.returns-clause-found
returns-clause-found t c =
    found-with _ _ c.args.reach.now.tick c.args.reach.now.more _ _ _ _ c.begin-begun.ensures.entry c.begin-begun.ensures.tick
    (omega (arith, c.if-begun-reach.false)) c.args.reach.now.timing.now.some c.requires.first
    _ _ _ c.begin-begun.ensures.plan c.prediction.ensures c.finish-row.ensures.after
    _ _ _ _ _ _ _ _ c.finish-row.ensures.value (c.begin-begun.ensures.known refl) c.new-uses.ensures c.begin-begun.ensures.uses
    c.finish-row.ensures.uses c.push.ensures.items c.look.ensures.found

pub returns-clause-late : goal.returns-clause-late
returns-clause-late t c =
    late-behind _ _ c.args.reach.now.tick c.args.reach.now.more _ _ _ _ c.begin-begun.ensures.entry c.begin-begun.ensures.tick
    (omega (arith, c.if-begun-reach.false)) c.args.reach.now.timing.now.some c.requires.first
    _ _ _ c.begin-begun.ensures.plan c.prediction.ensures c.finish-row.ensures.after
    _ c.look.ensures.late

pub returns-clause-log : goal.returns-clause-log
returns-clause-log t c =
    log-behind _ _ c.args.reach.now.tick c.args.reach.now.more _ _ _ _ c.begin-begun.ensures.entry c.begin-begun.ensures.tick
    (omega (arith, c.if-begun-reach.false)) c.args.reach.now.timing.now.some c.requires.first
    _ _ _ c.begin-begun.ensures.plan c.prediction.ensures c.finish-row.ensures.after
    _ _ _ (c.finish-row.ensures.log c.args.log.now c.begin-begun.ensures.log) c.look.ensures.log

pub returns-clause-bus : goal.returns-clause-bus
returns-clause-bus t c =
    bus-behind _ _ c.args.reach.now.tick c.args.reach.now.more _ _ _ _ c.begin-begun.ensures.entry c.begin-begun.ensures.tick
    (omega (arith, c.if-begun-reach.false)) c.args.reach.now.timing.now.some c.requires.first
    _ _ _ c.begin-begun.ensures.plan c.prediction.ensures c.finish-row.ensures.after
    _ c.look.ensures.bus
