use Rattle.st_account.proofs.Common.{List, [], ◌∷◌, length, take, refl, ◌∙◌, ap, rules, reads_of_entry, issue_after_entry, log_after_reads, Entry, Made, Prepared, because}
use Rattle.st_next.specs.declared.fetch_unit.FetchUnit.{FetchUnit}
use Rattle.st_plain.proofs.UseLemmas.{all-used}
use Rattle.st_account.proofs.LastLemmas.{past-kept, because-made, first-few, first-words}
use Rattle.st_plain.proofs.RowLemmas.{after-passed}
use Rattle.st_account.proofs.stepping.count_on.Goals as goal

pub returns-clause-row : goal.returns-clause-row
returns-clause-row c = record {
  plan = search rules;
  prepared = search rules;
  ticks = search rules;
  wait = search rules;
  uses =
      all-used c.args.timing.now.delays.now.list c.args.timing.now.levels c.args.last.now.issue c.begin-begun.new.unit.entry _ c.begin-begun.result.known.side _
      c.begin-begun.new.unit.prepared.reads _ _ _ _ c.begin-begun.ensures.entry c.begin-begun.ensures.side
      (ap (λ (p : Prepared). p.reads) c.begin-begun.ensures.plan) c.turn-uses.ensures.value c.begin-begun.ensures.uses c.fill-ticks.ensures.uses;
  earlier = search rules;
  issue =
      after-passed c.args.timing.now.delays.now.list c.args.timing.now.levels c.args.last.now.issue c.begin-begun.new.unit.entry c.fill-ticks.new.unit.entry c.fill-ticks.result
      c.fill-ticks.new.unit.words.bus _ (ap (λ (u : FetchUnit). u.entry) c.fill-ticks.ensures.kept) c.fill-ticks.ensures.value c.fill-ticks.ensures.after
      (c.pass.ensures c.args.timing.now.delays.now.list c.args.timing.now.levels)
      ∙ ap (issue_after_entry c.args.timing.now.delays.now.list c.args.timing.now.levels c.args.last.now.issue) c.begin-begun.ensures.entry;
  past =
      past-kept c.args.timing.now.delays.now.list c.args.timing.now.levels c.args.last.now.issue c.begin-begun.new.unit.entry c.fill-ticks.result _ _ _ c.requires.opened.past
      c.fill-ticks.ensures.value
      (c.put.ensures ∙ ap (λ (m : FetchUnit). record { c = c.fill-ticks.result.c; writes = m.entry.writes } ∷ take 7 c.args.last.now.past) c.fill-ticks.ensures.kept)
      (after-passed c.args.timing.now.delays.now.list c.args.timing.now.levels c.args.last.now.issue c.begin-begun.new.unit.entry c.fill-ticks.new.unit.entry c.fill-ticks.result
      c.fill-ticks.new.unit.words.bus _ (ap (λ (u : FetchUnit). u.entry) c.fill-ticks.ensures.kept) c.fill-ticks.ensures.value c.fill-ticks.ensures.after
      (c.pass.ensures c.args.timing.now.delays.now.list c.args.timing.now.levels));
  tick = search rules;
  rest = search rules;
}

pub returns-clause-log : goal.returns-clause-log
returns-clause-log c =
    let ds = c.args.timing.now.delays.now.list in
    let f = c.args.last.now.issue in
    c.fill-ticks.ensures.log c.clear.new.self c.begin-begun.ensures.log
    ∙ ap (λ (l : List Made). log_after_reads ds (reads_of_entry ds c.args.timing.now.levels f c.begin-begun.new.unit.entry) f.bus l) c.clear.ensures
    ∙ ap (λ (e : Entry). log_after_reads ds (reads_of_entry ds c.args.timing.now.levels f e) f.bus []) c.begin-begun.ensures.entry

pub find_if-requires : goal.find_if-requires
find_if-requires c = first-few _ _ _ _ _ _ c.as_slice-formed.ensures.value c.fill-ticks.ensures.uses refl refl

pub returns-clause-because : goal.returns-clause-because
returns-clause-because c wanted =
    because-made c.args.timing.now.delays.now.list c.args.timing.now.levels c.args.last.now.issue c.begin-begun.new.unit.entry _ c.begin-begun.result.known.side _
    c.fill-ticks.result c.begin-begun.result.formed.a c.begin-begun.result.formed.p c.begin-begun.result.level_wait _ _ _ _ _ _ c.turn-uses.ensures.value
    c.begin-begun.ensures.uses (first-words _ _ _ _ _ _ c.as_slice-formed.ensures.value c.fill-ticks.ensures.uses refl refl)
    refl c.begin-begun.ensures.entry
    c.begin-begun.ensures.side c.fill-ticks.ensures.value c.begin-begun.ensures.address c.begin-begun.ensures.tick
    (c.find_if.ensures (c.is_wanted.ensures.facts wanted)
    ∙ ap (λ (u : FetchUnit). because c.args.last.now.issue u.entry c.begin-begun.result.formed.a c.begin-begun.result.formed.p c.begin-begun.result.level_wait
    (take (length c.as_slice-formed.result.now) c.fill-ticks.new.uses.items) c.args.last.now.uses.items) c.fill-ticks.ensures.kept)

pub returns-clause-lost : goal.returns-clause-lost
returns-clause-lost c wanted =
    because-made c.args.timing.now.delays.now.list c.args.timing.now.levels c.args.last.now.issue c.begin-begun.new.unit.entry _ c.begin-begun.result.known.side _
    c.fill-ticks.result c.begin-begun.result.formed.a c.begin-begun.result.formed.p c.begin-begun.result.level_wait _ _ _ _ _ _ c.turn-uses.ensures.value
    c.begin-begun.ensures.uses (first-words _ _ _ _ _ _ c.as_slice-formed.ensures.value c.fill-ticks.ensures.uses refl refl)
    refl c.begin-begun.ensures.entry
    c.begin-begun.ensures.side c.fill-ticks.ensures.value c.begin-begun.ensures.address c.begin-begun.ensures.tick
    (c.find_if.ensures (c.is_wanted.ensures.lost wanted)
    ∙ ap (λ (u : FetchUnit). because c.args.last.now.issue u.entry c.begin-begun.result.formed.a c.begin-begun.result.formed.p c.begin-begun.result.level_wait
    (take (length c.as_slice-formed.result.now) c.fill-ticks.new.uses.items) c.args.last.now.uses.items) c.fill-ticks.ensures.kept)
