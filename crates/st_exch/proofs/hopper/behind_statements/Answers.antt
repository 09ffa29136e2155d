use Rattle.st_exch.proofs.Common.{◌≡◌, ℕ, false, drop, sym, subst, ◌∙◌, arith, has_statement}
use Rattle.st_exch.proofs.ReaderLemmas.{none-behind, none-from, behind-none, behind-last}
use Rattle.st_exch.proofs.hopper.behind_statements.Goals as goal

pub cards-init : goal.cards-init
cards-init c = record { within = omega arith; none = none-behind c.args.cards.now }

pub cards-preserved : goal.cards-preserved
cards-preserved c = record {
  within = omega (arith, c.cards.invariant.within);
  none = none-from c.args.cards.now c.cards.count _ c.cards-test.true c.cards.invariant.within
      (sym c.is_statement.ensures ∙ c.if-is_statement.false) c.cards.invariant.none;
}

pub returns-then-is_statement : goal.returns-then-is_statement
returns-then-is_statement c = c.split_at.ensures.back
    ∙ behind-last c.args.cards.now c.cards.count _ c.cards-test.true c.cards.invariant.within
    (sym c.is_statement.ensures ∙ c.if-is_statement.true) c.cards.invariant.none

pub returns : goal.returns
returns c =
    let all : c.cards.count ≡ 0 = omega (arith, c.cards-test.false) in
    sym (behind-none c.args.cards.now
    (subst (λ (k : ℕ). has_statement (drop k c.args.cards.now) ≡ false) all c.cards.invariant.none))
