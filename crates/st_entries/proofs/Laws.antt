-- The laws with their proofs.
use Rattle.st_entries.specs.Laws.{OneExecutesAtATick, LogsGoForward, LabelsStayInTheirLines}
use Rattle.st_entries.specs.Moments.{happenings, moments, in_order}
use Rattle.st_entries.specs.Phases.{first_tick}
use Rattle.st_entries.specs.declared.moments.LogMoment.{LogMoment}
use Rattle.st_entries.proofs.Executing.{executing_once}
use Rattle.st_entries.proofs.Forward.{in_order_rises, plain_printable}

pub one_executes_at_a_tick : OneExecutesAtATick
one_executes_at_a_tick part report tick rise = executing_once part report tick rise

pub logs_go_forward : LogsGoForward
unfolding happenings
logs_go_forward es = in_order_rises (λ (m : LogMoment). m.tick) (moments 0 (in_order first_tick es))

pub labels_stay_in_their_lines : LabelsStayInTheirLines
labels_stay_in_their_lines text = plain_printable text
