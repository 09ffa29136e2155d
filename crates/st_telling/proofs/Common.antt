-- The names that proofs of this crate use, passed on from one place. Declares nothing.
pub use Rattle.std.proofs.Common.{ℕ, ◌+◌, ◌<◌, List, ◌++◌, length, get_or, drop, ap, subst, ◌≡◌, ◌≤◌, false, [], ◌∷◌, arith, refl, sym, ◌∙◌, zero, suc, ◌-◌}
pub use Rattle.std.specs.Prelude.{map, Result, Ok, Err, IsErr, Option, None, Some, replicate}
pub use Rattle.st_io.specs.Output.{OutputState}
pub use Rattle.st_io.proofs.Progress.{LinesSoFar, EventsSoFar, events_none, events_more, events_stopped, events_whole, lines_then, lines_cut, lines_more, lines_failed, lines_for_next, lines_for_whole}
pub use Rattle.st_state.specs.Machine.{Machine}
pub use Rattle.st_telling.specs.Report.{dumps_lines, lines_at, lines_told, level_line, snapshot_lines, register_lines, memory_lines, line_if}
unfoldable pub use Rattle.st_telling.specs.Report.{dump_lines, report, block}
pub use Rattle.st_card.specs.Controls.{Asked}
pub use Rattle.st_io.specs.declared.Failed.{Failed}
pub use Rattle.st_io.specs.Lines.{WritesLines, lines_for}
pub use Rattle.st_run.specs.Telling.{row_told, rows_then, AreLeftOut, level_of, AreLevelsShown}
pub use Rattle.st_telling.specs.Running.{WritesEvents, WritesNothing, moment_told}
unfoldable pub use Rattle.st_telling.specs.Running.{last_moment, views_lines}
pub use Rattle.st_report.specs.Line.{snap_line, ic_line, en_line, dump_line, trc_line, row_line, end_line, done_line, ticks_line, int_line, time_line}
unfoldable pub use Rattle.st_time.specs.Shown.{levels_standing}
