use Rattle.st_lines.proofs.Common.{ℕ, false, [], ◌∷◌, ◌∙◌, ap, refl, WORDS, lines_for, ic_line, en_line, en_lines, nonzero_word_lines, whole_state_lines}
use Rattle.std.proofs.Common.{Bool}
use Rattle.st_lines.proofs.LineLemmas.{both_then, both_cut}
use Rattle.st_lines.proofs.writing.write_whole_state.Goals as goal

pub returns-in_err-write_counter : goal.returns-in_err-write_counter
unfolding whole_state_lines en_lines
returns-in_err-write_counter g c =
    let s = c.args.state.now in
    both_cut _ _ _ (ic_line s.ic ∷ en_line s.enabled ∷ []) (lines_for (nonzero_word_lines s) WORDS 0) _ c.from_residual.result c.from_residual.ensures.0
    (ap (λ (i : ℕ). ic_line i ∷ en_lines 0 false c.is_enabled.result) c.counter_in.ensures.value
    ∙ ap (λ (e : Bool). ic_line s.ic ∷ en_lines 0 false e) c.is_enabled.ensures) c.in_err-write_counter.ensures

pub returns : goal.returns
unfolding whole_state_lines en_lines
returns g c =
    let s = c.args.state.now in
    both_then _ _ _ _ (ic_line s.ic ∷ en_line s.enabled ∷ []) _ (lines_for (nonzero_word_lines s) WORDS 0) _ _
    (ap (λ (i : ℕ). ic_line i ∷ en_lines 0 false c.is_enabled.result) c.counter_in.ensures.value
    ∙ ap (λ (e : Bool). ic_line s.ic ∷ en_lines 0 false e) c.is_enabled.ensures) refl c.in_ok-write_counter.ensures c.write_each_word.ensures
