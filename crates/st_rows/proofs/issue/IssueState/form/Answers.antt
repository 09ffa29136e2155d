use Rattle.st_rows.proofs.Common.{◌+◌, ◌-◌, ◌*◌, ◌^◌, ap, ◌∙◌, refl, arith, IsBusWithin, address_tick, tick_a, bus_a, index_arrival, tick_p, Fetching, bus_after_index_read, side_there}
use Rattle.st_rows.proofs.Within.{delays-are, past-weaker, bus-weaker, fetching-weaker}
use Rattle.st_rows.proofs.Stages.{side-above, fetched-within, side-within}
use Rattle.st_rows.proofs.issue.IssueState.form.Goals as goal

pub address-a-requires-clause-room : goal.address-a-requires-clause-room
address-a-requires-clause-room g c =
    let are = delays-are c.args.next.now.timing.now.delays.now in
    rw c.requires.words
    (fetching-weaker (c.args.self.now.c + 7 * 255 + 6) (c.args.self.now.c + 1791) _ (omega arith)
    (fetched-within 255 c.args.next.now.timing.now.delays.now.list are c.args.self.now c.args.next.now.entry.now c.requires.entry c.requires.tight))

pub side-y-requires-clause-room : goal.side-y-requires-clause-room
side-y-requires-clause-room g c =
    let are = delays-are c.args.next.now.timing.now.delays.now in
    rw c.requires.words
    (bus-weaker (c.args.self.now.c + 7 * 255 + 6) (2 ^ 64 - 512) _ (omega arith)
    (fetched-within 255 c.args.next.now.timing.now.delays.now.list are c.args.self.now c.args.next.now.entry.now c.requires.entry c.requires.tight).bus)

pub side-y-requires-clause-storage : goal.side-y-requires-clause-storage
side-y-requires-clause-storage g c = side-above c.args.next.now.entry.now.side _ c.requires.entry.side

pub prepared_at-p-requires-clause-side : goal.prepared_at-p-requires-clause-side
prepared_at-p-requires-clause-side g c =
    let f = c.args.self.now in
    let m = f.c + 1792 in
    let are = delays-are c.args.next.now.timing.now.delays.now in
    let room : IsBusWithin m c.args.words.now.bus = rw c.requires.words
    (bus-weaker (f.c + 7 * 255 + 6) m _ (omega arith)
    (fetched-within 255 c.args.next.now.timing.now.delays.now.list are f c.args.next.now.entry.now c.requires.entry c.requires.tight).bus) in
    let late = side-within 255 c.args.next.now.timing.now.delays.now.list are f.past c.args.words.now.bus c.args.next.now.entry.now.side c.address-a.result m
    (past-weaker f.c m f.past (omega arith) c.requires.tight.done) room c.address-a.ensures.bound in
    rw c.side-y.ensures.value (omega arith)

pub returns-clause-address : goal.returns-clause-address
unfolding tick_a
returns-clause-address g c =
    c.address-a.ensures.value
    ∙ ap (λ (s : Fetching). address_tick c.args.self.now c.args.next.now.entry.now s.answered s.awaited) c.requires.words

pub returns-clause-bus : goal.returns-clause-bus
unfolding tick_a bus_a bus_after_index_read
returns-clause-bus g c = rw (c.side-y.ensures.after, c.address-a.ensures.value, c.requires.words) refl

pub returns-clause-tick : goal.returns-clause-tick
unfolding tick_a index_arrival tick_p side_there
returns-clause-tick g c = rw (c.prepared_at-p.ensures, c.side-y.ensures.value, c.address-a.ensures.value, c.requires.words) refl

pub returns-clause-told : goal.returns-clause-told
unfolding tick_a
returns-clause-told g c = rw (c.side-y.ensures.told, c.address-a.ensures.value, c.requires.words) refl
