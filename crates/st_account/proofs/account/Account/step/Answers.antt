use Rattle.st_account.proofs.Common.{Prepared, is_mispredicted, All, option_map, List, ◌<◌, refl, sym, ◌∙◌, ap, subst, arith, IsNotAmong, prediction, address, Use, EntryDone, Origin, StallCause, delays-are, entry-ranges, side_at, formed_uses, Last, entry, because, AreWaitsWithin, IsReadInTime, origin_at, lines_of_entry}
use Rattle.st_account.proofs.EntryLemmas.{IsCompleted, uses-is, entry-lines, entry-row, entry-last, entry-charges, entry-step, kept-some}
use Rattle.st_ledger.proofs.Laws.{reads_of_an_entry_are_in_time}
use Rattle.st_account.proofs.LeftLemmas.{entry-left}
use Rattle.st_account.proofs.TallyLemmas.{row-counts, entry-ordered}
use Rattle.st_account.proofs.StallLemmas.{kept-stalled-some, row-reach, row-stalled}
use Rattle.st_account.proofs.account.Account.step.Goals.{After-execute}
use Rattle.st_account.proofs.account.Account.step.Goals as goal

completed : (c : After-execute)
    → IsCompleted c.args.timing.now.delays.now.list c.args.timing.now.levels c.args.self.now.state c.args.self.now.last c.interrupt-taken.result c.execute.new.last.done
    c.execute.new.last.uses.items
completed c =
    let rest = c.execute.ensures.rest in
    record {
      place = ap (λ (l : Last). l.done.address) rest ∙ ap (λ (d : EntryDone). d.address) c.count_on.ensures.row.rest ∙ c.next_address-address.ensures.value;
      number = ap (λ (l : Last). l.done.n) rest ∙ ap (λ (d : EntryDone). d.n) c.count_on.ensures.row.rest ∙ c.row_number-self.ensures.number;
      ticks = ap (λ (l : Last). l.done.row.ticks) rest ∙ c.count_on.ensures.row.ticks;
      wait = ap (λ (l : Last). l.done.row.level_wait) rest ∙ c.count_on.ensures.row.wait;
      predicted = ap (λ (l : Last). l.done.mispredicted) rest ∙ ap (λ (p : Prepared). is_mispredicted p c.args.self.now.state) c.count_on.ensures.row.plan;
      since = ap (λ (l : Last). l.done.before) rest ∙ ap (λ (d : EntryDone). d.before) c.count_on.ensures.row.rest;
      opened = ap (λ (l : Last). l.done.start) rest ∙ ap (λ (d : EntryDone). d.start) c.count_on.ensures.row.rest;
      used = ap (λ (l : Last). l.uses.items) rest ∙ c.count_on.ensures.row.uses;
    }

pub returns-clause-lines : goal.returns-clause-lines
returns-clause-lines c facts p end some is =
    let rest = c.execute.ensures.rest in
    kept-some _ _ end some
    ∙ entry-lines is c.interrupt-taken.ensures.value (completed (goal.at.returns-clause-lines c).After-execute) (origin_at c.args.self.now.origins) end _ _ _
    (ap (λ (l : Last). l.done.origin) rest
    ∙ ap (λ (d : EntryDone). d.origin) c.count_on.ensures.row.rest
    ∙ c.at_if-self.ensures.facts facts
    ∙ ap (origin_at c.args.self.now.origins c.args.self.now.state) c.next_address-address.ensures.value)
    (ap (λ (l : Last). l.done.because) rest
    ∙ c.count_on.ensures.because facts
    ∙ ap (λ us. because c.args.self.now.last.issue (entry c.interrupt-taken.result c.args.self.now.state) c.count_on.new.last.done.row.ticks.a
    c.count_on.new.last.done.row.ticks.p c.count_on.new.last.done.row.level_wait
    (formed_uses c.args.timing.now.delays.now.list c.args.self.now.last.issue (entry c.interrupt-taken.result c.args.self.now.state)
    (side_at c.interrupt-taken.result c.args.self.now.state)) us)
    (sym c.count_on.ensures.row.earlier)
    ∙ ap (λ (l : Last). because c.args.self.now.last.issue (entry c.interrupt-taken.result c.args.self.now.state) l.done.row.ticks.a l.done.row.ticks.p
    l.done.row.level_wait
    (formed_uses c.args.timing.now.delays.now.list c.args.self.now.last.issue (entry c.interrupt-taken.result c.args.self.now.state)
    (side_at c.interrupt-taken.result c.args.self.now.state)) l.uses.before) (sym rest))
    _ _
    (ap (λ (l : Last). l.unit.prepared) rest ∙ c.count_on.ensures.row.plan)
    (ap (λ (l : Last). l.known) rest ∙ c.count_on.ensures.known facts)
    ∙ ap (λ us. lines_of_entry (origin_at c.args.self.now.origins) c.args.timing.now.delays.now.list c.args.timing.now.levels end us p) (ap (λ (l : Last). l.uses.before) rest ∙ c.count_on.ensures.row.earlier)

pub returns-clause-stepped : goal.returns-clause-stepped
returns-clause-stepped c =
    let rest = c.execute.ensures.rest in
    let done = completed (goal.at.returns-clause-stepped c).After-execute in
    record {
      state = entry-step c.args.self.now.state _ c.interrupt-taken.result c.interrupt-taken.ensures.value (c.execute.ensures.state _ c.count_on.ensures.row.plan);
      enabled = ap (λ (l : Last). l.enabled) c.execute.ensures.rest;
      prediction = c.execute.ensures.prediction _ c.count_on.ensures.row.plan ∙ ap (λ t. prediction t c.args.self.now.state) c.interrupt-taken.ensures.value;
      left = λ w above among.
          entry-left c.args.self.now.state _ c.interrupt-taken.result c.count_on.new.last.unit.prepared c.row_number-self.ensures.machine c.count_on.ensures.row.prepared
          c.count_on.ensures.row.plan (c.execute.ensures.state _ c.count_on.ensures.row.plan) w above (subst (λ (l : Last). IsNotAmong w l.unit.prepared.writes) c.execute.ensures.rest among);
      past = ap (λ (l : Last). l.past) rest ∙ c.count_on.ensures.row.past ∙ ap (λ (l : Last). l.issue.past) (sym rest);
      counter = c.execute.ensures.counter;
      ordered =
          entry-ordered c.args.timing.now.delays.now.list (delays-are c.args.timing.now.delays.now) c.args.timing.now.levels c.args.self.now.state c.args.self.now.last _
          c.interrupt-taken.result c.requires.opened.order (omega (arith, c.requires.early, c.requires.opened.soon)) c.requires.opened.tight
          (entry-ranges c.interrupt-taken.result c.args.self.now.state c.row_number-self.ensures.machine c.interrupt-taken.ensures.bound)
          done (ap (λ (l : Last). l.tick) rest ∙ c.count_on.ensures.row.tick ∙ ap (λ (l : Last). l.done.row.ticks.c) (sym rest));
      before = done.since;
      waiting =
          record {
            uses = subst (All IsReadInTime) (sym done.used) (reads_of_an_entry_are_in_time _ _ _ _ _ _);
            before = subst (All IsReadInTime) (sym (ap (λ (l : Last). l.uses.before) rest ∙ c.count_on.ensures.row.earlier)) c.requires.read;
            reach = row-reach done c.requires.opened.order
                (ap (λ (l : Last). l.tick) rest ∙ c.count_on.ensures.row.tick ∙ ap (λ (l : Last). l.done.row.ticks.c) (sym rest));
            within = subst (λ t. AreWaitsWithin t c.args.self.now.waiting.totals) (sym done.since) c.requires.waits;
          };
      rest = refl;
    }

pub returns-clause-completes : goal.returns-clause-completes
returns-clause-completes c p is =
    let rest = c.execute.ensures.rest in
    let done = completed (goal.at.returns-clause-completes c).After-execute in
    let used = uses-is is c.interrupt-taken.ensures.value done in
    let charged = entry-charges is c.interrupt-taken.ensures.value done in
    record {
      last =
          entry-last is c.interrupt-taken.ensures.value c.args.timing.now.delays.now.list (delays-are c.args.timing.now.delays.now) c.args.timing.now.levels c.execute.new.state
          c.count_on.new.last c.execute.new.last c.count_on.new.log c.count_on.new.last.done.row.ticks c.requires.opened.tight
          (entry-ranges c.interrupt-taken.result c.args.self.now.state c.row_number-self.ensures.machine c.interrupt-taken.ensures.bound) (c.execute.ensures.state _ c.count_on.ensures.row.plan) (c.execute.ensures.prediction _ c.count_on.ensures.row.plan)
          c.count_on.ensures.row.ticks c.count_on.ensures.row.tick c.count_on.ensures.row.issue c.count_on.ensures.log
          (c.execute.ensures.rest ∙ ap (λ (p : Prepared). record c.count_on.new.last {
            done = record c.count_on.new.last.done { mispredicted = is_mispredicted p c.args.self.now.state };
            ic = c.execute.new.last.ic;
            enabled = c.args.self.now.state.enabled;
          }) c.count_on.ensures.row.plan);
      uses = used;
      charges = charged;
      stalled = λ r s some.
          kept-stalled-some r s _ _ some
          ∙ row-stalled r s used (ap (λ (l : Last). l.uses.before) rest ∙ c.count_on.ensures.row.earlier) charged;
      row = λ end v some.
          let o = origin_at c.args.self.now.origins in
          let s = c.args.self.now.state in
          let e = entry c.interrupt-taken.result s in
          let words = formed_uses c.args.timing.now.delays.now.list c.args.self.now.last.issue e (side_at c.interrupt-taken.result s) in
          let why : Last → List Use → StallCause =
          λ (l : Last). λ bs. because c.args.self.now.last.issue e l.done.row.ticks.a l.done.row.ticks.p l.done.row.level_wait words bs in
          row-counts _ c.execute.new.last end v (o s (address s)) (why c.execute.new.last c.execute.new.last.uses.before) _ some
          (ap (λ (l : Last). option_map (λ (x : Origin). x.card) l.done.origin) rest
          ∙ ap (λ (d : EntryDone). option_map (λ (x : Origin). x.card) d.origin) c.count_on.ensures.row.rest
          ∙ c.at_if-self.ensures.card
          ∙ ap (λ h. option_map (λ (x : Origin). x.card) (o s h)) c.next_address-address.ensures.value)
          (λ lost.
          ap (λ (l : Last). l.done.because) rest
          ∙ c.count_on.ensures.lost (subst (λ (l : Last). l.done.before < l.done.row.ticks.r) rest lost)
          ∙ ap (why c.count_on.new.last) (sym c.count_on.ensures.row.earlier)
          ∙ ap (λ (l : Last). why l l.uses.before) (sym rest))
          (entry-row is c.interrupt-taken.ensures.value done o end _ _ _ refl refl
          v _
          (ap (λ (l : Last). l.uses.before) rest ∙ c.count_on.ensures.row.earlier));
    }
