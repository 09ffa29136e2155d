use Rattle.st_run.proofs.Common.{refl}
use Rattle.st_run.proofs.NextLemmas.{turn-rest}
use Rattle.st_run.proofs.PassLemmas.{far-passed}
use Rattle.st_run.specs.declared.run_phase.RunPhase.TheVariants as turns
use Rattle.st_run.proofs.progress.pass_entries.Goals as goal

pub returns-clause-rows : goal.returns-clause-rows
returns-clause-rows g c =
    let run = c.args.run.now in
    let may = c.may_go_far.ensures c.if-not-may_go_far.false in
    let all = turn-rest run.turn run.left run.tick run.snaps.now run.queue run.queue run.driven may.2 refl c.requires.run turns.Before may.0 in
    (far-passed c.go_far.result _ _ _ _ _ c.args.rows.now c.go_far.new.rows all c.requires.shut c.go_far.ensures.told).0

pub returns-clause-told : goal.returns-clause-told
returns-clause-told g c =
    let run = c.args.run.now in
    let may = c.may_go_far.ensures c.if-not-may_go_far.false in
    let all = turn-rest run.turn run.left run.tick run.snaps.now run.queue run.queue run.driven may.2 refl c.requires.run turns.Before may.0 in
    (far-passed c.go_far.result _ _ _ _ _ c.args.rows.now c.go_far.new.rows all c.requires.shut c.go_far.ensures.told).1
