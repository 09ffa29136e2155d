use Rattle.st_rows.proofs.Common.{◌∷◌, ◌+◌, ◌-◌, ◌%◌, List, take, length, length-set, ap, ◌∙◌, arith, Past, entries_in, window}
use Rattle.st_rows.proofs.Places.{count, entries-put, ticks-put, words-put}
use Rattle.st_rows.proofs.Shifted.{bits-shifted, window-put}
use Rattle.st_rows.proofs.Writers.{unwritten-put}
use Rattle.st_rows.proofs.past.LastEntries.put.Goals as goal

pub invariant_of-self : goal.invariant_of-self
invariant_of-self c =
    let q = c.self.inside in
    let is = c.self.invariant in
    let past = window q.head 8 (entries_in q.done) in
    let put = entries-put q.head q.done q.writes q.writers q.bounds.low q.bounds.high is c.put_done.new.place c.keep_words.new.place c.args.newest c.put_done.ensures.tick c.put_done.ensures.entry c.keep_words.ensures.words in
    record {
      inside = omega arith;
      whole = ap length put ∙ length-set (entries_in q.done) _ c.args.newest ∙ is.whole;
      wide = length-set q.writes _ c.keep_words.new.place ∙ is.wide;
      ticks = ticks-put q.head q.done q.writes q.writers q.bounds.low q.bounds.high is c.put_done.new.place c.keep_words.new.place c.args.newest c.put_done.ensures.tick c.put_done.ensures.entry c.keep_words.ensures.words;
      words = words-put q.head q.done q.writes q.writers q.bounds.low q.bounds.high is c.put_done.new.place c.keep_words.new.place c.args.newest c.put_done.ensures.tick c.put_done.ensures.entry c.keep_words.ensures.words;
      writers =
          rw (c.keep_words.ensures.writers, is.writers, put, window-put q.head (entries_in q.done) c.args.newest is.inside is.whole)
          (bits-shifted c.args.newest past (count q.head q.done q.writes q.writers q.bounds.low q.bounds.high is));
      bounds = λ w above out.
          let all = c.keep_words.ensures.bounds w above out in
          rw (put, window-put q.head (entries_in q.done) c.args.newest is.inside is.whole)
          (unwritten-put w c.args.newest past all.0 all.1 (is.bounds w above all.2));
    }

pub returns : goal.returns
returns c =
    let q = c.self.inside in
    let is = c.self.invariant in
    ap (window ((q.head + 8 - 1) % 8) 8) (entries-put q.head q.done q.writes q.writers q.bounds.low q.bounds.high is c.put_done.new.place c.keep_words.new.place c.args.newest c.put_done.ensures.tick c.put_done.ensures.entry c.keep_words.ensures.words)
    ∙ window-put q.head (entries_in q.done) c.args.newest is.inside is.whole
    ∙ ap (λ (past : List Past). c.args.newest ∷ take 7 past) c.self.view_is
