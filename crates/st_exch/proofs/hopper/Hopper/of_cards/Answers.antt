use Rattle.st_exch.proofs.Common.{List, take, sym, ap, ◌∙◌, subst, arith, All, take_all, take_more, Card, IsCardOf, behind_statements, texts_in, reader_cards}
use Rattle.st_exch.proofs.ReaderLemmas.{texts-more, behind-all}
use Rattle.st_card.proofs.Laws.{cards_stand_in_their_job}
use Rattle.st_exch.proofs.hopper.Hopper.of_cards.Goals as goal

pub loop-card-init : goal.loop-card-init
unfolding texts_in
loop-card-init c =
    let job = c.args.job.now in
    record {
      so_far = c.new-waiting.ensures.items;
      cards = subst (λ (x : List Card). All (IsCardOf job) x) (sym c.behind_statements-behind.ensures)
          (behind-all (IsCardOf job) c.args.cards.now
          (subst (λ (x : List Card). All (IsCardOf job) x) (sym c.requires) (cards_stand_in_their_job job)));
    }

pub loop-card-preserved : goal.loop-card-preserved
loop-card-preserved c =
    let job = c.args.job.now in
    let behind = c.behind_statements-behind.result.now in
    let before = take c.loop-card.card-index behind in
    record {
      so_far = texts-more job before _ _ _ c.loop-card.invariant.so_far c.in_ok-stack.ensures
          ∙ ap (λ (x : List Card). texts_in job x) (sym (take_more behind c.loop-card.card-index _ c.loop-card-test.true));
      cards = c.loop-card.invariant.cards;
    }

pub returns : goal.returns
unfolding reader_cards
returns c =
    let behind = c.behind_statements-behind.result.now in
    c.loop-card.invariant.so_far
    ∙ ap (λ (x : List Card). texts_in c.args.job.now x)
    (take_all c.loop-card.card-index behind (omega arith) ∙ (c.behind_statements-behind.ensures ∙ ap (λ (x : List Card). behind_statements x) c.requires))
