use Rattle.st_next.proofs.Common.{refl, arith, AdvancesTo}
use Rattle.st_next.proofs.Goes.{goes-same, goes-then, goes-stop, known-then}
use Rattle.st_next.proofs.Steps.{prepared-goes}
use Rattle.st_next.proofs.Asking.{known-words, known-place, further-then, further-nothing, count-most}
use Rattle.st_next.proofs.Telling.{told-then, told-nothing, told-prepared}
use Rattle.st_next.proofs.fetch_unit.FetchUnit.prepare_before.Goals as goal

pub words-init : goal.words-init
words-init g c = record {
  goes = goes-same _ _ _ _ _ _ _ c.requires.unplanned;
  further = further-nothing _ _ _ _;
  told = told-nothing g.W.Watch.noted _ _ g.met.W.Watch.noted_none _ _;
  unplanned = c.requires.unplanned;
}

pub returns-then-self-due-clause-next : goal.returns-then-self-due-clause-next
returns-then-self-due-clause-next g c =
    goes-stop _ _ _ _ _ _ _ _ _ _ c.words.invariant.goes c.words.invariant.unplanned (omega (arith, c.if-self-due.true))

pub spelled-requires-clause-place : goal.spelled-requires-clause-place
spelled-requires-clause-place g c = known-place _ _ _ _ _ _ _ c.words.invariant.unplanned (known-then _ _ _ _ _ _ _ _ _ c.requires.known c.words.invariant.goes)

pub spelled-requires-clause-words : goal.spelled-requires-clause-words
spelled-requires-clause-words g c = known-words _ _ _ _ _ _ _ c.words.invariant.unplanned (known-then _ _ _ _ _ _ _ _ _ c.requires.known c.words.invariant.goes)

pub prepare_spelled-requires-clause-place : goal.prepare_spelled-requires-clause-place
prepare_spelled-requires-clause-place g c = known-place _ _ _ _ _ _ _ c.words.invariant.unplanned (known-then _ _ _ _ _ _ _ _ _ c.requires.known c.words.invariant.goes)

pub returns-in-Some-clause-next : goal.returns-in-Some-clause-next
returns-in-Some-clause-next g c =
    goes-then _ _ _ _ _ _ _ _ _ _ _ c.words.invariant.goes (prepared-goes _ _ _ _ _ _ _ c.words.invariant.unplanned (omega (arith, c.if-self-due.false)) _ refl _ _ c.prepare_spelled.ensures.value)

pub returns-then-self-due-clause-told : goal.returns-then-self-due-clause-told
returns-then-self-due-clause-told g c = c.words.invariant.told

pub returns-in-Some-clause-told : goal.returns-in-Some-clause-told
returns-in-Some-clause-told g c = told-prepared g.W.Watch.noted _ _ _ _ _ _ _ _ c.args.context.now.index.now c.args.context.now.state.now c.words.invariant.told c.words.invariant.unplanned c.prepare_spelled.ensures.value

pub advance-requires-clause-known : goal.advance-requires-clause-known
advance-requires-clause-known g c = known-then _ _ _ _ _ _ _ _ _ c.requires.known c.words.invariant.goes

pub returns-in-Waits-clause-next : goal.returns-in-Waits-clause-next
unfolding AdvancesTo
returns-in-Waits-clause-next g c = goes-then _ _ _ _ _ _ _ _ _ _ _ c.words.invariant.goes c.in-Waits.ensures.next

pub returns-in-Waits-clause-further : goal.returns-in-Waits-clause-further
returns-in-Waits-clause-further g c = further-then _ _ _ _ _ _ _ _ c.words.invariant.further c.in-Waits.ensures.further

pub returns-in-Waits-clause-told : goal.returns-in-Waits-clause-told
returns-in-Waits-clause-told g c = told-then g.W.Watch.noted _ _ g.met.W.Watch.noted_more _ _ _ _ _ _ c.words.invariant.told c.in-Waits.ensures.told

pub returns-in-Prepared-clause-next : goal.returns-in-Prepared-clause-next
unfolding AdvancesTo
returns-in-Prepared-clause-next g c = goes-then _ _ _ _ _ _ _ _ _ _ _ c.words.invariant.goes c.in-Prepared.ensures.next.0

pub returns-in-Prepared-clause-further : goal.returns-in-Prepared-clause-further
returns-in-Prepared-clause-further g c = further-then _ _ _ _ _ _ _ _ c.words.invariant.further c.in-Prepared.ensures.further

pub returns-in-Prepared-clause-told : goal.returns-in-Prepared-clause-told
returns-in-Prepared-clause-told g c = told-then g.W.Watch.noted _ _ g.met.W.Watch.noted_more _ _ _ _ _ _ c.words.invariant.told c.in-Prepared.ensures.told

pub returns-in-Prepared-clause-prepared : goal.returns-in-Prepared-clause-prepared
unfolding AdvancesTo
returns-in-Prepared-clause-prepared g c = λ is. c.in-Prepared.ensures.next.1

pub words-preserved : goal.words-preserved
unfolding AdvancesTo
words-preserved g c = record {
  goes = goes-then _ _ _ _ _ _ _ _ _ _ _ c.words.invariant.goes c.in-Asked.ensures.next.0;
  further = further-then _ _ _ _ _ _ _ _ c.words.invariant.further c.in-Asked.ensures.further;
  told = told-then g.W.Watch.noted _ _ g.met.W.Watch.noted_more _ _ _ _ _ _ c.words.invariant.told c.in-Asked.ensures.told;
  unplanned = c.in-Asked.ensures.unplanned;
}

pub words-smaller : goal.words-smaller
unfolding AdvancesTo
words-smaller g c = omega (arith, c.in-Asked.ensures.next.1, count-most c.words.self.entry.own c.words.self.entry.target (known-words _ _ _ _ _ _ _ c.words.invariant.unplanned (known-then _ _ _ _ _ _ _ _ _ c.requires.known c.words.invariant.goes)))
