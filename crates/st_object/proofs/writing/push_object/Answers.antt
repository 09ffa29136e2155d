use Rattle.st_object.proofs.Common.{◌≡◌, ◌++◌, List, ℕ, [], ◌∷◌, map, ap, ◌∙◌, lf, requests, line_text, object_text_of, word_lines, Object, Start, Ask, Fin}
use Rattle.st_card.proofs.LineLemmas.{three_written}
use Rattle.st_object.proofs.WrittenLines.{controls-written}
use Rattle.st_object.proofs.writing.push_object.Goals as goal

pub returns-clause-text : goal.returns-clause-text
returns-clause-text c =
    let asked = c.args.controls.now in
    let controls_there : c.push_controls.new.text.items ≡ c.push_program.new.text.items ++ object_text_of (map (λ c. Ask c) (requests asked)) =
    c.in_ok-push_controls.ensures ∙ ap (λ (t : List ℕ). c.push_program.new.text.items ++ t) (controls-written (requests asked)) in
    three_written (λ i. line_text i ++ lf) c.push_line.result c.args.text.now.items _ _ _
    (Object ∷ Start c.args.start ∷ [] ++ word_lines 0 c.args.words.now)
    (map (λ c. Ask c) (requests asked)) (Fin ∷ []) c.in_ok-push_program.ensures controls_there c.push_line.ensures
