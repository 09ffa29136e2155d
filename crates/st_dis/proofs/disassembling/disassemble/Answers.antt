use Rattle.st_dis.proofs.Common.{◌≤◌, ◌∙◌, ◌++◌, ℕ, List, length, ap, subst, sym, arith, words_of_storage_is, Program, deck_text, card_count}
use Rattle.st_dis.proofs.Lengths.{deck_text-short}
use Rattle.st_dis.proofs.disassembling.disassemble.Goals as goal

pub card_count-cards-requires-clause-few : goal.card_count-cards-requires-clause-few
card_count-cards-requires-clause-few c =
    let whole = c.requires.image.size in omega (arith, whole, words_of_storage_is)

pub push_deck-requires-clause-few : goal.push_deck-requires-clause-few
push_deck-requires-clause-few c =
    let whole = c.requires.image.size in omega (arith, whole, words_of_storage_is)

pub returns-in-Ok-clause-short : goal.returns-in-Ok-clause-short
returns-in-Ok-clause-short c =
    let p : Program = record { words = c.args.words.now; start = c.args.start; controls = c.args.controls.now } in
    let counted = c.card_count-cards.ensures.count c.args.start in
    let under = c.if-cards-gt-MOST_CARDS.false in
    let few : card_count p ≤ 20000 = omega (arith, counted, under) in
    let text = c.in-Ok.ensures ∙ ap (λ (s : List ℕ). s ++ deck_text p) c.new-deck.ensures.items in
    subst (λ (s : List ℕ). length s ≤ 2000000) (sym text) (deck_text-short p c.requires c.card_count-cards.ensures.words few)
