use Rattle.st_format.proofs.Common.{sym, ◌∙◌, ap, unwrap_or, is_full, instruction_of, first_half}
use Rattle.std.proofs.Common.{is_some}
use Rattle.st_format.proofs.RoundTrip.{spells-itself, full-shape}
use Rattle.st_format.proofs.encoding.encode.Goals as goal

pub returns-clause-decodes : goal.returns-clause-decodes
returns-clause-decodes c = λ rest.
    ap (λ f. instruction_of f (unwrap_or c.pack.result.1 rest)) c.pack.ensures.first
    ∙ ap (λ s. instruction_of (first_half c.args.instr.now) (unwrap_or s rest)) c.pack.ensures.second
    ∙ spells-itself c.args.instr.now rest c.requires

pub returns-clause-length : goal.returns-clause-length
returns-clause-length c =
    ap is_full c.pack.ensures.first ∙ full-shape c.args.instr.now c.requires ∙ ap is_some (sym c.pack.ensures.second)
