use Rattle.st_state.proofs.Common.{sym, arith, fixed-index}
use Rattle.st_state.proofs.fixed_word.Goals as goal

pub returns-else-w-lt-FIRST_STORAGE_WORD : goal.returns-else-w-lt-FIRST_STORAGE_WORD
returns-else-w-lt-FIRST_STORAGE_WORD c = sym (fixed-index c.args.w c.args.value (omega arith))
