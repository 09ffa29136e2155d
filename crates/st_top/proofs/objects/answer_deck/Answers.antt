use Rattle.st_top.proofs.Common.{◌≡◌, ◌≤◌, ℕ, List, ◌∙◌, ap, subst, pieces_of, Program, card_count, deck_text, deck_lines, whole_lines, lines_alone, Done}
use Rattle.st_top.proofs.Decks.{deck_few}
use Rattle.st_top.proofs.ObjectTexts.{deck_text-lines}
use Rattle.st_top.proofs.Outputs.{writes_output}
use Rattle.st_top.proofs.Times.{keeps_still}
use Rattle.st_top.proofs.objects.answer_deck.Goals as goal

-- the deck, line by line
pub returns : goal.returns
returns g c =
    let p = c.args.program.now in
    let with_words : List ℕ → Program = λ words. record { words = words; start = c.program.inside.start; controls = c.program.inside.controls } in
    let same : with_words c.as_slice.result.now ≡ p = ap with_words c.as_slice.ensures.value ∙ c.program.view_is in
    let written : c.as_slice-2.result.now ≡ deck_text p = c.as_slice-2.ensures.value ∙ (c.in_ok-deck.ensures.deck ∙ ap deck_text same) in
    let lines : whole_lines (pieces_of 10 c.as_slice-2.result.now) ≡ deck_lines p =
    ap (λ (s : List ℕ). whole_lines (pieces_of 10 s)) written ∙ deck_text-lines p in
    let few : card_count p ≤ 20000 = subst (λ (q : Program). card_count q ≤ 20000) same c.in_ok-deck.ensures.few in (
      writes_output _ _ _ _ _ (ap (lines_alone Done) lines ∙ deck_few p few) c.answer_text.ensures.writes,
      keeps_still _ c.answer_text.result c.answer_text.ensures.ticks,
    )
