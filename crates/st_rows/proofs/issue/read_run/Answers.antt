use Rattle.st_rows.proofs.Common.{◌≡◌, ◌+◌, ◌-◌, ◌^◌, ◌∙◌, ap, sym, subst, refl, arith, words_of_storage_is, operands_asked, log_after_reads, IsReadingWithin, read_word, read_words, Fetching, behind, uses, wishes}
use Rattle.st_rows.proofs.Noted.{operand-one, operands-two}
use Rattle.st_rows.proofs.Telling.{told-none, told-one, told-behind}
use Rattle.st_rows.proofs.Turns.{read-turn, read-two}
use Rattle.st_rows.proofs.Within.{delays-are, reading-weaker, read_word-within}
use Rattle.st_rows.proofs.issue.read_run.Goals as goal

pub returns-then-run-eq0-clause-value : goal.returns-then-run-eq0-clause-value
unfolding read_words behind uses wishes read_word
returns-then-run-eq0-clause-value g c = let none : c.args.run.len ≡ 0 = omega arith in rw none refl

pub returns-then-run-eq1-clause-value : goal.returns-then-run-eq1-clause-value
unfolding read_words behind uses wishes read_word
returns-then-run-eq1-clause-value g c =
    let one : c.args.run.len ≡ 1 = omega arith in
    read-turn c.args.wanted.now.delays.now.list c.args.wanted.now.past.now c.args.run.first c.args.wanted.now.tick c.args.operands.now c.read-first.new.self 1 c.read-first.ensures.after (omega arith)
    ∙ rw one refl

pub read-first-requires-clause-storage : goal.read-first-requires-clause-storage
read-first-requires-clause-storage g c = c.requires.words.above (omega arith)

pub read-second-requires-clause-storage : goal.read-second-requires-clause-storage
read-second-requires-clause-storage g c = omega (arith, c.requires.words.above (omega arith))

pub overflow_add-run : goal.overflow_add-run
overflow_add-run g c = omega (arith, words_of_storage_is, c.requires.words.inside (omega arith))

-- after the first word
pub read-second-requires-clause-room : goal.read-second-requires-clause-room
read-second-requires-clause-room g c =
    let m = 2 ^ 64 - 2 ^ 17 in
    subst (λ (s : Fetching). IsReadingWithin (2 ^ 64 - 512) s) (sym c.read-first.ensures.after)
    (reading-weaker (m + 256) (2 ^ 64 - 512) _ (omega arith)
    (read_word-within 255 c.args.wanted.now.delays.now.list (delays-are c.args.wanted.now.delays.now) c.args.wanted.now.past.now _ c.args.run.first c.args.wanted.now.tick m c.requires.room c.requires.early))

pub overflow_add-behind : goal.overflow_add-behind
overflow_add-behind g c = omega (arith, words_of_storage_is, c.requires.words.inside (omega arith))

-- after the second word
pub read_on-requires-clause-room : goal.read_on-requires-clause-room
read_on-requires-clause-room g c =
    let m = 2 ^ 64 - 2 ^ 17 in
    let are = delays-are c.args.wanted.now.delays.now in
    subst (λ (s : Fetching). IsReadingWithin (2 ^ 64 - 2 ^ 16) s)
    (sym (c.read-second.ensures.after
    ∙ ap (λ (s : Fetching). read_word c.args.wanted.now.delays.now.list c.args.wanted.now.past.now s (c.args.run.first + 1) c.args.wanted.now.tick) c.read-first.ensures.after))
    (reading-weaker (m + 256 + 256) (2 ^ 64 - 2 ^ 16) _ (omega arith)
    (read_word-within 255 c.args.wanted.now.delays.now.list are c.args.wanted.now.past.now _ (c.args.run.first + 1) c.args.wanted.now.tick (m + 256)
    (read_word-within 255 c.args.wanted.now.delays.now.list are c.args.wanted.now.past.now _ c.args.run.first c.args.wanted.now.tick m c.requires.room c.requires.early) (omega arith)))

pub returns-clause-value : goal.returns-clause-value
returns-clause-value g c =
    c.read_on.ensures.value
    ∙ read-two c.args.wanted.now.delays.now.list c.args.wanted.now.past.now c.args.run.first c.args.wanted.now.tick c.args.operands.now c.read-first.new.self
    c.read-second.new.self c.args.run.len c.read-first.ensures.after c.read-second.ensures.after (omega arith)

pub returns-then-run-eq0-clause-log : goal.returns-then-run-eq0-clause-log
unfolding operands_asked log_after_reads
returns-then-run-eq0-clause-log g c = let none : c.args.run.len ≡ 0 = omega arith in rw none refl

pub returns-then-run-eq1-clause-log : goal.returns-then-run-eq1-clause-log
returns-then-run-eq1-clause-log g c =
    operand-one c.args.wanted.now.delays.now.list c.args.wanted.now.past.now c.args.wanted.now.tick c.args.run.first c.args.operands.now c.read-first.new.self c.args.run.len c.args.log.now
    c.read-first.new.log c.read-first.ensures.after c.read-first.ensures.log (omega arith)

pub returns-clause-log : goal.returns-clause-log
returns-clause-log g c =
    c.read_on.ensures.log
    ∙ operands-two c.args.wanted.now.delays.now.list c.args.wanted.now.past.now c.args.wanted.now.tick c.args.run.first c.args.operands.now c.read-first.new.self
    c.read-second.new.self c.args.run.len c.args.log.now c.read-first.new.log c.read-second.new.log c.read-first.ensures.after c.read-second.ensures.after
    c.read-first.ensures.log c.read-second.ensures.log (omega arith)

pub returns-then-run-eq0-clause-told : goal.returns-then-run-eq0-clause-told
returns-then-run-eq0-clause-told g c =
    sym (told-none g.W.Watch.noted g.met.W.Watch.noted_more g.met.W.Watch.noted_none c.args.wanted.now.delays.now.list c.args.wanted.now.past.now c.args.wanted.now.tick c.args.run.first c.args.run.len
    c.args.operands.now c.args.watch.now (omega arith))

pub returns-then-run-eq1-clause-told : goal.returns-then-run-eq1-clause-told
returns-then-run-eq1-clause-told g c =
    told-one g.W.Watch.noted g.met.W.Watch.noted_more g.met.W.Watch.noted_none c.args.wanted.now.delays.now.list c.args.wanted.now.past.now c.args.wanted.now.tick c.args.run.first c.args.operands.now c.args.run.len
    c.args.watch.now c.read-first.new.watch c.read-first.ensures.told (omega arith)

pub returns-clause-told : goal.returns-clause-told
returns-clause-told g c =
    c.read_on.ensures.told
    ∙ told-behind g.W.Watch.noted g.met.W.Watch.noted_more c.args.wanted.now.delays.now.list c.args.wanted.now.past.now c.args.wanted.now.tick c.args.run.first c.args.operands.now c.read-first.new.self
    c.read-second.new.self c.args.run.len c.args.watch.now c.read-first.new.watch c.read-second.new.watch c.read-first.ensures.after c.read-second.ensures.after
    c.read-first.ensures.told c.read-second.ensures.told (omega arith)
