use Rattle.st_dis.proofs.Common.{arith}
use Rattle.st_text.proofs.ListLemmas.{first_and_rest}
use Rattle.st_card.specs.declared.keywords.Keyword.TheVariants.{Listing}
use Rattle.st_dis.proofs.Counted.{asked-more}
use Rattle.st_dis.proofs.counting.count_controls.Goals as goal

pub keywords-preserved : goal.keywords-preserved
keywords-preserved c = record {
  same = asked-more c.args.controls.now c.keywords.count c.count_asked-count.result _ _ _ c.keywords.rest.now
      (first_and_rest c.keywords.rest.now Listing c.in-len1-up.len_at_least) c.count_asked-count.ensures.count c.keywords.invariant.same;
  few = omega (arith, c.keywords.invariant.few, c.count_asked-count.ensures.few, c.in-len1-up.len_at_least);
}
