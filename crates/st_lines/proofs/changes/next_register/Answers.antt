use Rattle.st_lines.proofs.ChangeLemmas.{same-starts}
use Rattle.st_lines.proofs.changes.next_register.Goals as goal

pub registers-init : goal.registers-init
registers-init c = same-starts c.args.old.now.items c.args.state.now c.args.w c.requires.most
