use Rattle.st_tally.proofs.Common.{[], ◌∷◌, three_then, three_cut, missed_count_line, level_count_line, drop_count_line}
use Rattle.st_tally.proofs.writing.write_counts.Goals as goal

pub returns-in_err-write_missed : goal.returns-in_err-write_missed
returns-in_err-write_missed g c =
    let t = c.args.tables.now in
    three_cut _ _ (missed_count_line t.mispredicted) (level_count_line t.level_rows t.level_ticks ∷ drop_count_line c.args.dropped ∷ []) _ c.from_residual.result
    c.from_residual.ensures.0 c.in_err-write_missed.ensures

pub returns-in_err-write_level : goal.returns-in_err-write_level
returns-in_err-write_level g c =
    let t = c.args.tables.now in
    three_then _ _ _ (missed_count_line t.mispredicted) (level_count_line t.level_rows t.level_ticks ∷ drop_count_line c.args.dropped ∷ []) _ _
    c.in_ok-write_missed.ensures
    (three_cut _ _ (level_count_line t.level_rows t.level_ticks) (drop_count_line c.args.dropped ∷ []) _ c.from_residual-in_err-write_level.result
    c.from_residual-in_err-write_level.ensures.0 c.in_err-write_level.ensures)

pub returns : goal.returns
returns g c =
    let t = c.args.tables.now in
    three_then _ _ _ (missed_count_line t.mispredicted) (level_count_line t.level_rows t.level_ticks ∷ drop_count_line c.args.dropped ∷ []) _ _
    c.in_ok-write_missed.ensures
    (three_then _ _ _ (level_count_line t.level_rows t.level_ticks) (drop_count_line c.args.dropped ∷ []) _ _ c.in_ok-write_level.ensures
    c.write_dropped.ensures)
