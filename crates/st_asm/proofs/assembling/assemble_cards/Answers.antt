use Rattle.st_asm.proofs.Common.{◌≤◌, ◌∙◌, List, ℕ, length, Option, ap, sym, subst, All-weaker, All-same, cards_of, IsCardOf, Asked, Card, IsWellFormedIfAny, Assembly, form_pass, found_in, name_pass, named_in, value_pass, emitted_in, IsLocation, IsAssemblySound, IsReadCard, ReadCard}
use Rattle.std.specs.Prelude.{All}
use Rattle.st_asm.proofs.KeptLemmas.{few-cards, form_pass-deck, name_pass-named, together-sound}
use Rattle.st_asm.proofs.FaultlessLemmas.{form_pass-faultless}
use Rattle.st_card.proofs.Laws.{cards_stand_in_their_job}
use Rattle.st_asm.proofs.assembling.assemble_cards.Goals as goal

pub form_pass-requires-clause-texts : goal.form_pass-requires-clause-texts
form_pass-requires-clause-texts c =
    subst (λ (cs : List Card). All (IsCardOf c.args.job.now) cs) (sym c.requires) (cards_stand_in_their_job c.args.job.now)

pub form_pass-requires-clause-few : goal.form_pass-requires-clause-few
form_pass-requires-clause-few c = subst (λ (cs : List Card). length cs ≤ 20001) (sym c.requires) (few-cards c.args.job.now)

pub name_pass-requires : goal.name_pass-requires
name_pass-requires c =
    let formed = ap (λ (cs : List Card). form_pass c.args.job.now cs) (sym c.requires)
    ∙ c.in_ok-deck.ensures.ok in
    let deck = form_pass-deck c.args.job.now (cards_of c.args.job.now) (found_in c.in_ok-deck.deck) formed in
    All-same (λ (line : ReadCard). IsWellFormedIfAny line.statement) _ _ c.as_slice.ensures.value
    (All-weaker IsReadCard (λ (line : ReadCard). IsWellFormedIfAny line.statement) (λ line is. is.well) _ deck.lines)

pub value_pass-requires-clause-well : goal.value_pass-requires-clause-well
value_pass-requires-clause-well c =
    let formed = ap (λ (cs : List Card). form_pass c.args.job.now cs) (sym c.requires)
    ∙ c.in_ok-deck.ensures.ok in
    let deck = form_pass-deck c.args.job.now (cards_of c.args.job.now) (found_in c.in_ok-deck.deck) formed in
    All-same (λ (line : ReadCard). IsWellFormedIfAny line.statement) _ _ c.as_slice-2.ensures.value
    (All-weaker IsReadCard (λ (line : ReadCard). IsWellFormedIfAny line.statement) (λ line is. is.well) _ deck.lines)

pub value_pass-requires-clause-located : goal.value_pass-requires-clause-located
value_pass-requires-clause-located c =
    let formed = ap (λ (cs : List Card). form_pass c.args.job.now cs) (sym c.requires)
    ∙ c.in_ok-deck.ensures.ok in
    let deck = form_pass-deck c.args.job.now (cards_of c.args.job.now) (found_in c.in_ok-deck.deck) formed in
    let named = ap (λ (ls : List ReadCard). name_pass ls) (sym c.as_slice.ensures.value) ∙ c.in_ok-names.ensures.ok in
    let names = name_pass-named c.in_ok-deck.deck.lines.items (named_in c.in_ok-names.names) named deck.lines in
    All-same IsLocation _ _ c.as_slice-3.ensures.value names.places

pub returns-clause-sound : goal.returns-clause-sound
returns-clause-sound c =
    let formed = ap (λ (cs : List Card). form_pass c.args.job.now cs) (sym c.requires)
    ∙ c.in_ok-deck.ensures.ok in
    let named = ap (λ (ls : List ReadCard). name_pass ls) (sym c.as_slice.ensures.value) ∙ c.in_ok-names.ensures.ok in
    let emitted = ap (λ (t : List (List ℕ × ℕ)). value_pass t c.in_ok-deck.deck.lines.items c.in_ok-names.names.places.items)
    (sym c.in_ok-names.ensures.kept.table_is)
    ∙ (ap (λ (ls : List ReadCard). value_pass c.in_ok-names.names.table ls c.in_ok-names.names.places.items) (sym c.as_slice-2.ensures.value)
    ∙ (ap (λ (ps : List (Option ℕ)). value_pass c.in_ok-names.names.table c.as_slice-2.result.now ps) (sym c.as_slice-3.ensures.value)
    ∙ c.in_ok-layout.ensures.ok)) in
    let sound = together-sound c.args.job.now (found_in c.in_ok-deck.deck) (named_in c.in_ok-names.names) (emitted_in c.in_ok-layout.layout)
    formed named emitted c.in_ok-layout.ensures.sound in
    let assembled : Asked → Assembly = λ asked. record {
      image = c.in_ok-layout.layout.image.items;
      start = c.in_ok-layout.layout.start;
      rows = c.in_ok-layout.layout.rows.items;
      symbols = c.in_ok-names.names.symbols.items;
      asked = asked;
    } in
    subst (λ (asked : Asked). IsAssemblySound (length (cards_of c.args.job.now)) (assembled asked))
    (sym c.in_ok-controls.ensures.defaults) sound

pub returns-clause-faultless : goal.returns-clause-faultless
returns-clause-faultless c =
    let formed = ap (λ (cs : List Card). form_pass c.args.job.now cs) (sym c.requires)
    ∙ c.in_ok-deck.ensures.ok in
    form_pass-faultless c.args.job.now (cards_of c.args.job.now) (found_in c.in_ok-deck.deck) formed
