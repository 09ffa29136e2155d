use Rattle.st_bits.proofs.Common.{◌-◌, ◌%◌, sym, ◌∙◌, arith}
use Rattle.st_bits.proofs.WordFields.{num-at_word, num-at_two, or-joined, below-joined}
use Rattle.st_bits.proofs.fields.get_field.Goals as goal

pub returns-then-count-here-clause-value : goal.returns-then-count-here-clause-value
returns-then-count-here-clause-value c =
    c.part.ensures.value
    ∙ sym (num-at_word c.args.words.now c.args.a c.args.n c.requires.some (omega arith) c.requires.inside)

pub returns-else-count-here-clause-value : goal.returns-else-count-here-clause-value
returns-else-count-here-clause-value c =
    or-joined _ _ (64 - c.args.a % 64) (c.args.n - (64 - c.args.a % 64)) c.part-high.ensures.bound c.part-low.ensures.bound (omega arith)
    ∙ rw (c.part-high.ensures.value, c.part-low.ensures.value)
    (sym (num-at_two c.args.words.now c.args.a c.args.n (omega arith) c.requires.few c.requires.inside))

pub returns-else-count-here-clause-bound : goal.returns-else-count-here-clause-bound
returns-else-count-here-clause-bound c =
    rw (or-joined _ _ (64 - c.args.a % 64) (c.args.n - (64 - c.args.a % 64)) c.part-high.ensures.bound c.part-low.ensures.bound (omega arith))
    (below-joined _ _ (64 - c.args.a % 64) (c.args.n - (64 - c.args.a % 64)) c.args.n
    c.part-high.ensures.bound c.part-low.ensures.bound (omega arith))
