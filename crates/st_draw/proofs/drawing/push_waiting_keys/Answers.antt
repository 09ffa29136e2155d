use Rattle.std.proofs.lemmas.Result.{IfOk-equal}
use Rattle.st_draw.specs.Drawing.{waiting_keys}
use Rattle.st_draw.proofs.Elements.{elements_behind}
use Rattle.st_draw.proofs.drawing.push_waiting_keys.Goals as goal

pub returns : goal.returns
unfolding waiting_keys
returns c = IfOk-equal _ _ _ _ c.push_box_key-2.ensures (elements_behind _ _ _ _ c.in_ok-push_box_key.ensures)
