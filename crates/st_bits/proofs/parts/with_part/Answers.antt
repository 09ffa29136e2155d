use Rattle.st_bits.proofs.Common.{sym, ◌∙◌, ap, bits}
use Rattle.st_bits.proofs.BitLists.{put-word}
use Rattle.st_bits.proofs.Shifts.{run_of_word_replaced}
use Rattle.st_bits.proofs.parts.with_part.Goals as goal

pub returns-clause-value : goal.returns-clause-value
returns-clause-value c =
    run_of_word_replaced
    c.args.word c.args.first c.args.count c.args.bits
    c.ranges.word.fits c.requires.some c.requires.inside c.requires.fits

pub returns-clause-put : goal.returns-clause-put
returns-clause-put c =
    ap (bits 64)
    (run_of_word_replaced
    c.args.word c.args.first c.args.count c.args.bits
    c.ranges.word.fits c.requires.some c.requires.inside c.requires.fits)
    ∙ sym (put-word c.args.word c.args.first c.args.count c.args.bits c.requires.inside c.requires.fits)
