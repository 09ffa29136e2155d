use Rattle.st_top.proofs.Common.{◌+◌, drop, sym, ◌∙◌, ap, arith, Machine, all_stored, newest_step, put-states}
use Rattle.st_exec.proofs.TransferLemmas.{all_stored-next, all_stored-all}
use Rattle.st_top.proofs.Besides.{put-fresh, room_at}
use Rattle.st_top.proofs.beside.put_card.Goals as goal

pub put-requires-clause-room : goal.put-requires-clause-room
put-requires-clause-room c =
    room_at (newest_step c.loop-k.steps.kept) c.loop-k.k c.loop-k.invariant.fresh c.loop-k-test.true

pub loop-k-preserved : goal.loop-k-preserved
loop-k-preserved c =
    let k = c.loop-k.k in
    let card = c.args.card.now in
    record {
      state = ap (λ (m : Machine). all_stored m (c.args.w + (k + 1)) (drop (k + 1) card)) c.put.ensures.state
          ∙ (all_stored-next c.loop-k.machine c.args.w k card (omega (arith, c.fits-card)) ∙ c.loop-k.invariant.state);
      depth = c.put.ensures.depth ∙ c.loop-k.invariant.depth;
      states = put-states _ _ _ _ _ _ c.put.ensures ∙ c.loop-k.invariant.states;
      fresh = put-fresh _ _ _ _ _ _ k c.put.ensures c.loop-k.invariant.fresh;
    }

pub returns-clause-state : goal.returns-clause-state
returns-clause-state c =
    sym (all_stored-all c.loop-k.machine c.args.w c.loop-k.k c.args.card.now (omega (arith, c.fits-card)))
    ∙ c.loop-k.invariant.state
