use Rattle.st_dis.proofs.Common.{rules}
use Rattle.st_dis.proofs.Counted.{counted-more}
use Rattle.st_dis.proofs.counting.count_words.Goals as goal

pub words-preserved : goal.words-preserved
words-preserved c = record {
  same = counted-more c.words.count c.count_placed-count.result _ c.words.before c.words.rest.now
      c.in-len1-up.len_at_least c.count_placed-count.ensures.count c.words.invariant.same;
  few = search rules;
}
