use Rattle.st_object.proofs.Common.{◌≡◌, ◌++◌, List, ℕ, ap, subst, ◌∙◌, Program, AreWords, object_text, read_text}
use Rattle.st_object.proofs.ReadBack.{read_back}
use Rattle.st_object.proofs.writing.write_object.Goals as goal

pub returns-in-Ok-clause-again : goal.returns-in-Ok-clause-again
returns-in-Ok-clause-again c =
    let p : Program = c.args.image.now in
    let seen : Program =
    record { words = c.as_slice-words.result.now; start = c.image.inside.start; controls = c.image.inside.controls } in
    let same : seen ≡ p = ap (λ (ws : List ℕ). record seen { words = ws }) c.as_slice-words.ensures.value ∙ c.image.view_is in
    let known : AreWords p.words = subst (λ (q : Program). AreWords q.words) same c.push_object.ensures.words in
    let text : c.push_object.new.text.items ≡ object_text p =
    c.in-Ok.ensures.text ∙ (ap (λ (s : List ℕ). s ++ object_text seen) c.new-text.ensures.items ∙ ap (λ (q : Program). object_text q) same) in
    ap (λ (s : List ℕ). read_text s) text ∙ read_back p c.requires known
