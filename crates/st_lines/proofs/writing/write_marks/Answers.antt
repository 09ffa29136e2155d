use Rattle.st_lines.proofs.Common.{ℕ, ◌∷◌, ◌++◌, ◌∙◌, ap, refl, lines_then, lines_cut, ic_line, en_lines, words_lines, prints_lines, marks_lines}
use Rattle.std.proofs.Common.{Bool}
use Rattle.st_lines.proofs.ChangeLemmas.{not-zero}
use Rattle.st_lines.proofs.LineLemmas.{both_then, both_cut, not_both}
use Rattle.st_lines.proofs.writing.write_marks.Goals as goal

pub write_words-requires-clause-left : goal.write_words-requires-clause-left
write_words-requires-clause-left g c off = c.requires.left (not-zero c.args.between.now.k off)

pub returns-in_err-write_prints-clause-words : goal.returns-in_err-write_prints-clause-words
returns-in_err-write_prints-clause-words g c good = not_both c.from_residual.result c.from_residual.ensures.0 good

pub returns-in_err-write_prints-clause-lines : goal.returns-in_err-write_prints-clause-lines
unfolding marks_lines
returns-in_err-write_prints-clause-lines g c =
    let b = c.args.between.now in
    let s = c.args.state.now in
    lines_cut _ _ (prints_lines b.printed.now) (ic_line s.ic ∷ en_lines b.k b.was s.enabled ++ words_lines b.k c.args.old.now.items s) _
    c.from_residual.result c.from_residual.ensures.0 c.in_err-write_prints.ensures

pub returns-in_err-write_counter-clause-words : goal.returns-in_err-write_counter-clause-words
returns-in_err-write_counter-clause-words g c good =
    not_both c.from_residual-in_err-write_counter.result c.from_residual-in_err-write_counter.ensures.0 good

pub returns-in_err-write_counter-clause-lines : goal.returns-in_err-write_counter-clause-lines
unfolding marks_lines
returns-in_err-write_counter-clause-lines g c =
    let b = c.args.between.now in
    let s = c.args.state.now in
    lines_then _ _ _ (prints_lines b.printed.now) (ic_line s.ic ∷ en_lines b.k b.was s.enabled ++ words_lines b.k c.args.old.now.items s) _ _
    c.in_ok-write_prints.ensures
    (both_cut _ _ _ _ (words_lines b.k c.args.old.now.items s) _ c.from_residual-in_err-write_counter.result c.from_residual-in_err-write_counter.ensures.0
    (ap (λ (i : ℕ). ic_line i ∷ en_lines b.k b.was c.is_enabled.result) c.counter_in.ensures.value
    ∙ ap (λ (e : Bool). ic_line s.ic ∷ en_lines b.k b.was e) c.is_enabled.ensures) c.in_err-write_counter.ensures)

pub returns-clause-lines : goal.returns-clause-lines
unfolding marks_lines words_lines
returns-clause-lines g c =
    let b = c.args.between.now in
    let s = c.args.state.now in
    lines_then _ _ _ (prints_lines b.printed.now) (ic_line s.ic ∷ en_lines b.k b.was s.enabled ++ words_lines b.k c.args.old.now.items s) _ _
    c.in_ok-write_prints.ensures
    (both_then _ _ _ _ _ (words_lines b.k c.args.old.now.items s) _ _ _
    (ap (λ (i : ℕ). ic_line i ∷ en_lines b.k b.was c.is_enabled.result) c.counter_in.ensures.value
    ∙ ap (λ (e : Bool). ic_line s.ic ∷ en_lines b.k b.was e) c.is_enabled.ensures) refl c.in_ok-write_counter.ensures
    c.write_words.ensures.lines)
