use Rattle.st_telling.proofs.Common.{◌+◌, ◌-◌, ◌∷◌, refl, lines_for, dump_line, dump_lines, memory_lines}
use Rattle.st_telling.proofs.Snapshots.{levels_cut, levels_then}
use Rattle.st_telling.proofs.block.write_dump.Goals as goal

pub returns-in_err-put : goal.returns-in_err-put
unfolding dump_lines
returns-in_err-put g c =
    let words = lines_for (memory_lines c.args.seen.now) (c.args.last + 1 - c.args.first) c.args.first in
    levels_cut _ _ (dump_line c.args.first c.args.last ∷ words) (dump_line c.args.first c.args.last) _ words
    _ c.from_residual.result c.from_residual.ensures.0 refl c.line_dump.ensures c.in_err-put.ensures

pub returns : goal.returns
unfolding dump_lines
returns g c =
    let words = lines_for (memory_lines c.args.seen.now) (c.args.last + 1 - c.args.first) c.args.first in
    levels_then _ _ _ (dump_line c.args.first c.args.last ∷ words) (dump_line c.args.first c.args.last) _ words
    _ _ refl c.line_dump.ensures c.in_ok-put.ensures c.write_words.ensures
