use Rattle.st_next.proofs.Common.{◌-◌, arith}
use Rattle.st_next.proofs.Goes.{goes-then, goes-later, known-sooner}
use Rattle.st_next.proofs.Asking.{further-then}
use Rattle.st_next.proofs.Telling.{told-then}
use Rattle.st_next.proofs.fetch_unit.FetchUnit.prepare_own_before.Goals as goal

pub begin-requires-clause-known : goal.begin-requires-clause-known
begin-requires-clause-known g c = known-sooner _ _ _ _ _ _ _ _ (omega (arith, c.requires.soon)) c.requires.known

pub returns-clause-next : goal.returns-clause-next
returns-clause-next g c =
    goes-then _ _ (c.args.due - 1) _ _ _ _ _ _ _ _ (goes-later _ _ _ _ _ _ _ _ _ _ (omega (arith, c.requires.soon)) c.begin.ensures.next)
    c.prepare_before.ensures.next

pub returns-clause-further : goal.returns-clause-further
returns-clause-further g c = further-then _ _ _ _ _ _ _ _ c.begin.ensures.further c.prepare_before.ensures.further

pub returns-clause-told : goal.returns-clause-told
returns-clause-told g c = told-then g.W.Watch.noted _ _ g.met.W.Watch.noted_more _ _ _ _ _ _ c.begin.ensures.told c.prepare_before.ensures.told
