use Rattle.st_card.proofs.Common.{◌≡◌, ◌-◌, ◌++◌, List, length, ap, ◌∙◌, arith, length-append, cards_from, pieces_of, Card, behind_behind, behind_itself}
use Rattle.st_card.proofs.CardLemmas.{cards_further, cards_done, cards_full, texts_further}
use Rattle.st_card.proofs.cards.split.Goals as goal

pub lines-init : goal.lines-init
lines-init c =
    let none : length c.args.job.now - length c.args.job.now ≡ 0 = omega arith in
    let nothing = ap (λ (x : List Card). length x) c.new-cards.ensures.items in
    record {
      so_far = ap (λ (x : List Card). x ++ cards_from 1 (length c.args.job.now - length c.args.job.now) (pieces_of 10 c.args.job.now)) c.new-cards.ensures.items
          ∙ ap (λ k. cards_from 1 k (pieces_of 10 c.args.job.now)) none;
      counted = omega (arith, nothing);
      few = omega arith;
      behind = behind_itself c.args.job.now;
      texts = λ k d below. absurd (omega (arith, nothing, below));
    }

pub returns-then-number-gt-MOST_CARDS : goal.returns-then-number-gt-MOST_CARDS
returns-then-number-gt-MOST_CARDS c =
    let longer = ap (λ (x : List Card). length x) c.in_ok-push_card.ensures in
    let full : length c.push_card.new.cards.items ≡ 20001 = omega (arith, simp length-append at longer) in
    record {
      cards = cards_full 20001 _ _ _ (cards_further _ _ _ _ _ _ _ _ _ c.lines.invariant.so_far c.in-Some.ensures.cards
          c.card_at.ensures c.in_ok-push_card.ensures c.lines.invariant.behind.within c.in-Some.ensures.shorter) full;
      texts = texts_further _ _ _ _ _ _ _ c.lines.invariant.texts c.lines.invariant.behind c.in-Some.ensures.front
          c.card_at.ensures c.in_ok-push_card.ensures;
    }

pub lines-preserved : goal.lines-preserved
lines-preserved c =
    let longer = ap (λ (x : List Card). length x) c.in_ok-push_card.ensures in
    record {
      so_far = cards_further _ _ _ _ _ _ _ _ _ c.lines.invariant.so_far c.in-Some.ensures.cards c.card_at.ensures
          c.in_ok-push_card.ensures c.lines.invariant.behind.within c.in-Some.ensures.shorter;
      counted = omega (arith, simp length-append at longer);
      few = omega arith;
      behind = behind_behind _ _ _ c.in-Some.ensures.behind c.lines.invariant.behind;
      texts = texts_further _ _ _ _ _ _ _ c.lines.invariant.texts c.lines.invariant.behind c.in-Some.ensures.front
          c.card_at.ensures c.in_ok-push_card.ensures;
    }

pub returns-clause-cards : goal.returns-clause-cards
returns-clause-cards c = cards_done 20001 _ _ _ c.lines.invariant.so_far (c.in_default.ensures.cards _ _) (omega arith)
