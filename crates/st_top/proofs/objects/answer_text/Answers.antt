use Rattle.st_top.proofs.Common.{pieces_of, stopped_at_moment, whole_lines}
use Rattle.st_top.proofs.Outputs.{wrote_alone}
use Rattle.st_top.proofs.objects.answer_text.Goals as goal

pub returns-in-Ok-clause-writes : goal.returns-in-Ok-clause-writes
returns-in-Ok-clause-writes g c =
    wrote_alone _ _ (whole_lines (pieces_of 10 c.args.text.now)) _ c.in-Ok.ensures.ok
    c.without_run.ensures.status c.without_run.ensures.done c.without_run.ensures.ticks

pub returns-in-Err-clause-writes : goal.returns-in-Err-clause-writes
returns-in-Err-clause-writes g c =
    stopped_at_moment _ _ 0 0 (whole_lines (pieces_of 10 c.args.text.now)) c.in-Err.ensures.err
