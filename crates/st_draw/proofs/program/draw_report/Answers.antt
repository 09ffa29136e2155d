use Rattle.std.proofs.Common.{◌≡◌, rules}
use Rattle.st_draw.specs.Answers.{picture}
use Rattle.st_draw.proofs.Statuses.{writes_picture, wrote_same}
use Rattle.st_draw.proofs.program.draw_report.Goals as goal

pub returns-in-Ok-write_all : goal.returns-in-Ok-write_all
returns-in-Ok-write_all g c =
    let same : c.as_slice.result.now ≡ picture c.args.choice c.args.report.now = search rules in
    let wrote = wrote_same _ _ _ _ same c.in-Ok-write_all.ensures.outcome in
    writes_picture _ _ _ _ _ c.in-Ok.ensures.status wrote
