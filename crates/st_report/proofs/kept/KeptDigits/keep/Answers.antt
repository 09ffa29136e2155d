use Rattle.st_report.proofs.Common.{◌/◌, arith, length-decimal-le}
use Rattle.st_report.proofs.kept.KeptDigits.keep.Goals as goal

pub write_digits-self-inside-requires : goal.write_digits-self-inside-requires
write_digits-self-inside-requires c =
    (length-decimal-le 16 (c.args.n / 100) (omega arith) (omega arith) (omega arith), omega (arith, c.self.told))
