-- All bytes from the place found are blanks, and the one before it is not.
use Rattle.st_text.proofs.Common.{rules}
use Rattle.st_text.proofs.Filled.{take-filled}
use Rattle.st_text.proofs.blanks.filled_len.Goals as goal

pub returns-clause-value : goal.returns-clause-value
returns-clause-value c =
    take-filled c.args.text.now c.map_or.result (search rules) (λ k low high. search rules) (λ some. search rules)
