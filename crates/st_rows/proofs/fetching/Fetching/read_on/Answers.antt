use Rattle.st_rows.proofs.Common.{◌≡◌, ◌+◌, ◌-◌, ◌*◌, ◌^◌, ◌∙◌, sym, subst, arith, words_of_storage_is, operands_asked, log_after_reads, IsReadingWithin, Fetching}
use Rattle.st_rows.proofs.Noted.{operand-turn}
use Rattle.st_rows.proofs.Telling.{told-turn, told-none}
use Rattle.st_rows.proofs.Turns.{read-turn}
use Rattle.st_rows.proofs.Within.{delays-are, past-weaker, reading-weaker, read_word-within}
use Rattle.st_rows.proofs.fetching.Fetching.read_on.Goals as goal

pub overflow_add-w : goal.overflow_add-w
overflow_add-w g c = omega (arith, words_of_storage_is, c.words.invariant.inside (omega arith))

pub read-requires-clause-storage : goal.read-requires-clause-storage
read-requires-clause-storage g c = c.words.invariant.above (omega arith)

pub words-preserved : goal.words-preserved
words-preserved g c =
    let m = 2 ^ 64 - 512 - 256 * c.words.left in
    let are = delays-are c.args.wanted.now.delays.now in
    let before = past-weaker (2 ^ 64 - 2 ^ 16) m c.args.wanted.now.past.now (omega (arith, c.words.invariant.few)) c.requires.before in
    record {
      value = read-turn c.args.wanted.now.delays.now.list c.args.wanted.now.past.now c.words.w c.args.wanted.now.tick c.words.self c.read.new.self c.words.left
          c.read.ensures.after (omega arith)
          ∙ c.words.invariant.value;
      log = operand-turn c.args.wanted.now.delays.now.list c.args.wanted.now.past.now c.args.wanted.now.tick c.words.w c.words.self c.read.new.self c.words.left c.words.log c.read.new.log
          c.read.ensures.after c.read.ensures.log (omega arith)
          ∙ c.words.invariant.log;
      told = told-turn g.W.Watch.noted g.met.W.Watch.noted_more c.args.wanted.now.delays.now.list c.args.wanted.now.past.now c.args.wanted.now.tick c.words.w c.words.self c.read.new.self c.words.left
          c.words.watch c.read.new.watch c.read.ensures.after c.read.ensures.told (omega arith)
          ∙ c.words.invariant.told;
      room = reading-weaker (m + 256) _ c.read.new.self (omega arith)
          (subst (λ (s : Fetching). IsReadingWithin (m + 256) s) (sym c.read.ensures.after)
          (read_word-within 255 c.args.wanted.now.delays.now.list are c.args.wanted.now.past.now c.words.self c.words.w c.args.wanted.now.tick m c.words.invariant.room (omega arith)));
      few = omega (arith, c.words.invariant.few);
      above = λ some. omega (arith, c.words.invariant.above (omega arith));
      inside = λ some. omega (arith, c.words.invariant.inside (omega arith));
    }

pub returns-clause-log : goal.returns-clause-log
unfolding operands_asked log_after_reads
returns-clause-log g c = let none : c.words.left ≡ 0 = omega arith in rw none at c.words.invariant.log

pub returns-clause-told : goal.returns-clause-told
returns-clause-told g c =
    sym (told-none g.W.Watch.noted g.met.W.Watch.noted_more g.met.W.Watch.noted_none c.args.wanted.now.delays.now.list c.args.wanted.now.past.now c.args.wanted.now.tick c.words.w c.words.left c.words.self
    c.words.watch (omega arith))
    ∙ c.words.invariant.told
