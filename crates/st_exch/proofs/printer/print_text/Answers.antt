use Rattle.st_exch.proofs.Common.{List, ℕ, ap, ◌∙◌, arith, flat_map, take_all, is_printable, characters_of, line_of_words}
use Rattle.st_text.specs.Blanks.{without_end_blanks}
use Rattle.st_exch.proofs.PrinterLemmas.{printed-printable}
use Rattle.st_exch.proofs.printer.print_text.Goals as goal

text_is : goal.returns-clause-text
unfolding line_of_words
text_is c =
    let whole = take_all c.loop-word.word-index c.args.words.now (omega arith) in
    c.drop_end_blanks.ensures.bytes
    ∙ ap without_end_blanks (c.loop-word.invariant.so_far ∙ ap (λ (x : List ℕ). flat_map characters_of x) whole)

pub returns-clause-text : goal.returns-clause-text
returns-clause-text c = text_is c

pub returns-clause-printable : goal.returns-clause-printable
returns-clause-printable c =
    ap is_printable (text_is c) ∙ printed-printable c.args.words.now
