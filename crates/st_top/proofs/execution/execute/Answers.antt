use Rattle.st_top.proofs.Common.{List, ℕ, ap, assembly_parts, front_lines, scene_at_start, output_of_run}
use Rattle.st_top.proofs.Listings.{has_cards}
use Rattle.st_top.proofs.Outputs.{writes_output}
use Rattle.st_top.proofs.Times.{keeps_time}
use Rattle.st_card.proofs.Laws.{cards_stand_in_their_job}
use Rattle.st_top.proofs.execution.execute.Goals as goal

pub answer_run-requires-clause-cards : goal.answer_run-requires-clause-cards
answer_run-requires-clause-cards g c =
    has_cards c.args.job.now.text.now c.args.program.now.listing.items c.args.job.now.cards.now c.args.job.now.cards_are (cards_stand_in_their_job c.args.job.now.text.now)
    c.requires.good c.requires.sound.rows c.requires.sound.row_count

pub returns-clause-writes : goal.returns-clause-writes
returns-clause-writes g c =
    let job = c.args.job.now.text.now in
    let a = assembly_parts c.args.program.now in
    let start = scene_at_start c.as_slice-words.result.now a.start a.asked job in
    let ready = c.in-Ok.ensures in
    writes_output _ _ _ _ _ (ap (λ (image : List ℕ). output_of_run (front_lines c.args.job.now.made job a) a.asked (scene_at_start image a.start a.asked job)) c.as_slice-words.ensures.value)
    (c.answer_run.ensures start ready.rest ready.beside)

pub returns-clause-in_time : goal.returns-clause-in_time
returns-clause-in_time g c =
    let job = c.args.job.now.text.now in
    let a = assembly_parts c.args.program.now in
    let start = scene_at_start c.as_slice-words.result.now a.start a.asked job in
    let ready = c.in-Ok.ensures in
    keeps_time a.asked start _ _ (front_lines c.args.job.now.made job a) _ c.requires.sound.delays c.requires.sound.limits.delays.each ready.scene
    (c.answer_run.ensures start ready.rest ready.beside)
