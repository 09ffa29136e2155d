use Rattle.st_top.proofs.Common.{assembly_parts, lines_then, lines_cut, listing, made_lines}
use Rattle.st_top.proofs.listing.write_front.Goals as goal

pub returns-in_err-write_made : goal.returns-in_err-write_made
returns-in_err-write_made g c =
    lines_cut _ _ (made_lines c.args.job.now.made) (listing c.args.job.now.text.now (assembly_parts c.args.program.now)) _ c.from_residual.result c.from_residual.ensures.0
    c.in_err-write_made.ensures

pub returns : goal.returns
returns g c =
    lines_then _ _ _ (made_lines c.args.job.now.made) (listing c.args.job.now.text.now (assembly_parts c.args.program.now)) _ _
    c.in_ok-write_made.ensures c.write_listing.ensures
