use Rattle.st_rows.proofs.Common.{◌≡◌, ℕ, ◌+◌, ◌-◌, ◌*◌, ◌^◌, List, [], ◌++◌, refl, sym, subst, ap, ap₂, ◌∙◌, arith, runs_asked, following_asked, prepared_asked, log_after_reads, IsReadingWithin, bus_a, tick_p, first_uses, second_uses, operands, following_uses, tick_c, row_of_entry, issue_after_entry, told, register_uses, operands_read, read_words, bus_after_prefetch, Bus, Entry, IssueState, Made, Fetching}
use Rattle.st_rows.proofs.Within.{delays-are, bus-weaker}
use Rattle.st_rows.proofs.Noted.{noted-two}
use Rattle.st_rows.proofs.Telling.{told-two}
use Rattle.st_rows.proofs.Served.{served-runs}
use Rattle.st_rows.proofs.Stages.{bus_a-within, p-within, operands_of-within}
use Rattle.st_rows.proofs.issue.IssueState.fill.Given.{Over}
use Rattle.st_rows.proofs.issue.IssueState.fill.Goals.{After-read_operands-fills}
use Rattle.st_rows.proofs.issue.IssueState.fill.Goals as goal

-- the reads from preparation on are those of the operands
all-read : (ds : List ℕ) (n : ℕ) (f : IssueState) (e : Entry) (s : Fetching) (b : Bus) (p : ℕ) → s ≡ operands_read ds f.past (record { bus = b; answered = p; awaited = 0 }) e.reads p → b ≡ bus_a ds f e
    → p ≡ tick_p ds n f e → s ≡ operands ds n f e
unfolding operands operands_read read_words
all-read ds n f e s b p is bus tick = is ∙ ap₂ (λ (x : Bus) (y : ℕ). operands_read ds f.past (record { bus = x; answered = y; awaited = 0 }) e.reads y) bus tick

-- the log has the reads of the operands and the following words
all-noted : (ds : List ℕ) (n : ℕ) (f : IssueState) (e : Entry) (b d : Bus) (p : ℕ) (log one two : List Made) → b ≡ bus_a ds f e → d ≡ (operands ds n f e).bus
    → p ≡ tick_p ds n f e → one ≡ log_after_reads ds (runs_asked f.past e.reads p) b log → two ≡ log_after_reads ds (following_asked ds d e p) d one
    → two ≡ log_after_reads ds (prepared_asked ds n f e) b log
all-noted ds n f e b d p log one two bus then_bus tick one_is two_is =
    let noted_one : one ≡ log_after_reads ds (runs_asked f.past e.reads (tick_p ds n f e)) (bus_a ds f e) log = one_is ∙ rw (bus, tick) refl in
    rw bus
    (two_is
    ∙ rw (then_bus, tick) (noted-two ds (runs_asked f.past e.reads (tick_p ds n f e)) (following_asked ds (operands ds n f e).bus e (tick_p ds n f e)) (bus_a ds f e)
    (operands ds n f e).bus log one (sym (served-runs ds n f e)) noted_one))

all : (g : Over) (c : After-read_operands-fills g)
    → c.read_operands-fills.new.operands ≡ operands c.args.next.now.timing.now.delays.now.list c.args.next.now.timing.now.levels c.args.self.now c.args.next.now.entry.now
all g c = all-read _ _ _ _ _ _ _ c.read_operands-fills.ensures.value c.requires.bus c.requires.tick

pub read_operands-fills-requires-clause-room : goal.read_operands-fills-requires-clause-room
read_operands-fills-requires-clause-room g c =
    let f = c.args.self.now in
    let are = delays-are c.args.next.now.timing.now.delays.now in
    rw c.requires.bus
    (bus-weaker (f.c + 8 * 255 + 8) (2 ^ 64 - 2 ^ 17) _ (omega arith)
    (bus_a-within 255 c.args.next.now.timing.now.delays.now.list are f c.args.next.now.entry.now c.requires.entry c.requires.tight))

pub read_operands-fills-requires-clause-early : goal.read_operands-fills-requires-clause-early
read_operands-fills-requires-clause-early g c =
    let are = delays-are c.args.next.now.timing.now.delays.now in
    rw c.requires.tick
    (omega (arith, p-within 255 c.args.next.now.timing.now.delays.now.list are c.args.self.now c.args.next.now.entry.now c.requires.entry c.requires.tight c.args.next.now.timing.now.levels))

pub overflow_add-c : goal.overflow_add-c
overflow_add-c g c =
    let reads = all g (goal.at.overflow_add-c g c).After-read_operands-fills in
    let are = delays-are c.args.next.now.timing.now.delays.now in
    let read : IsReadingWithin (c.args.self.now.c + 40 * 255 + 41) c.read_operands-fills.new.operands =
    subst (λ (s : Fetching). IsReadingWithin (c.args.self.now.c + 40 * 255 + 41) s) (sym reads)
    (operands_of-within 255 c.args.next.now.timing.now.delays.now.list are c.args.self.now c.args.next.now.entry.now c.requires.entry c.requires.tight c.args.next.now.timing.now.levels) in
    omega (arith, read.answered)

pub follow-requires-clause-room : goal.follow-requires-clause-room
follow-requires-clause-room g c =
    let reads = all g (goal.at.follow-requires-clause-room g c).After-read_operands-fills in
    let f = c.args.self.now in
    let are = delays-are c.args.next.now.timing.now.delays.now in
    rw (ap (λ (s : Fetching). s.bus) reads)
    (bus-weaker (f.c + 40 * 255 + 41) (2 ^ 64 - 1024) _ (omega arith)
    (operands_of-within 255 c.args.next.now.timing.now.delays.now.list are f c.args.next.now.entry.now c.requires.entry c.requires.tight c.args.next.now.timing.now.levels).bus)

pub follow-requires-clause-early : goal.follow-requires-clause-early
follow-requires-clause-early g c =
    let are = delays-are c.args.next.now.timing.now.delays.now in
    rw c.requires.tick
    (omega (arith, p-within 255 c.args.next.now.timing.now.delays.now.list are c.args.self.now c.args.next.now.entry.now c.requires.entry c.requires.tight c.args.next.now.timing.now.levels))

pub returns-clause-value : goal.returns-clause-value
unfolding row_of_entry operands tick_c operands_read read_words
returns-clause-value g c =
    let reads = all g (goal.at.returns-clause-value g c).After-read_operands-fills in
    rw (c.max.ensures, c.from.ensures, ap (λ (s : Fetching). s.answered) reads, c.requires.tick, c.requires.address) refl

pub returns-clause-bus : goal.returns-clause-bus
unfolding issue_after_entry bus_after_prefetch
returns-clause-bus g c =
    let reads = all g (goal.at.returns-clause-bus g c).After-read_operands-fills in
    rw (c.follow.ensures.after, ap (λ (s : Fetching). s.bus) reads, c.requires.tick) refl

pub returns-clause-log : goal.returns-clause-log
returns-clause-log g c =
    let reads = all g (goal.at.returns-clause-log g c).After-read_operands-fills in
    all-noted c.args.next.now.timing.now.delays.now.list c.args.next.now.timing.now.levels c.args.self.now c.args.next.now.entry.now c.args.words.now.bus c.read_operands-fills.new.operands.bus c.args.next.now.formed.p
    c.args.log.now c.read_operands-fills.new.log c.follow.new.log c.requires.bus (ap (λ (s : Fetching). s.bus) reads) c.requires.tick c.read_operands-fills.ensures.log
    c.follow.ensures.log

pub returns-clause-told : goal.returns-clause-told
unfolding read_words
returns-clause-told g c =
    let reads = all g (goal.at.returns-clause-told g c).After-read_operands-fills in
    let ds = c.args.next.now.timing.now.delays.now.list in
    let n = c.args.next.now.timing.now.levels in
    let f = c.args.self.now in
    let e = c.args.next.now.entry.now in
    let x = c.args.next.now.registers in
    told-two g.W.Watch.noted g.met.W.Watch.noted_more
    ((register_uses x.one.first x.one.len ++ told ds f.past (first_uses ds n f e)) ++ (register_uses x.two.first x.two.len ++ told ds f.past (second_uses ds n f e)))
    (told ds [] (following_uses ds n f e)) c.args.watch.now c.read_operands-fills.new.watch c.follow.new.watch
    (c.read_operands-fills.ensures.told ∙ rw (c.requires.bus, c.requires.tick) refl)
    (c.follow.ensures.told ∙ rw (ap (λ (s : Fetching). s.bus) reads, c.requires.tick) refl)
