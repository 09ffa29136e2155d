use Rattle.st_rows.proofs.Common.{◌≡◌, ◌+◌, ◌-◌, ◌*◌, ◌^◌, ◌≤◌, words_of_storage, operands_asked, log_after_reads, IsReadingWithin, told, uses, wishes, words_of, read_words, Operand}
use Rattle.st_rows.proofs.fetching.Fetching.read_on.Given as goal

-- the remaining words have the effect here that all words have on the first state; there is time for each
abbrev pub invariant-words : goal.invariant-words
invariant-words g l = record {
  value : read_words l.wanted.delays.now.list l.wanted.past.now l.self l.wanted.tick l.w l.left
      ≡ read_words l.wanted.delays.now.list l.wanted.past.now l.initial.self l.wanted.tick l.fn.run.first l.fn.run.len;
  log : log_after_reads l.wanted.delays.now.list (operands_asked l.wanted.past.now l.wanted.tick l.w l.left) l.self.bus l.log
      ≡ log_after_reads l.wanted.delays.now.list (operands_asked l.wanted.past.now l.wanted.tick l.fn.run.first l.fn.run.len) l.initial.self.bus l.initial.log;
  told : g.W.Watch.noted (told l.wanted.delays.now.list l.wanted.past.now (uses l.wanted.delays.now.list l.wanted.past.now l.self (wishes Operand l.wanted.tick l.w l.left))) l.watch
      ≡ g.W.Watch.noted (told l.wanted.delays.now.list l.wanted.past.now (uses l.wanted.delays.now.list l.wanted.past.now l.initial.self (words_of Operand l.wanted.tick l.fn.run))) l.initial.watch;
  room : IsReadingWithin (2 ^ 64 - 512 - 256 * l.left) l.self;
  few : l.left ≤ 16;
  above : 1 ≤ l.left → 32 ≤ l.w;
  inside : 1 ≤ l.left → l.w + l.left ≤ words_of_storage;
}

abbrev pub decreases-words : goal.decreases-words
decreases-words g l = l.left
