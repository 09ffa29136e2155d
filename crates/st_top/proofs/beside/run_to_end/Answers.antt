use Rattle.st_top.proofs.Common.{ap, sym, ◌∙◌, arith, rests}
use Rattle.st_top.proofs.Rewinds.{states_begin, states_rest, states_used, states_next, states_few, states_count}
use Rattle.st_top.proofs.beside.run_to_end.Goals as goal

pub running-init : goal.running-init
running-init c = record {
  counted = omega (arith, c.requires.start.fresh);
  ready = c.requires.start.ready;
  states = λ depth h. states_begin depth c.args.budget c.args.second.now c.requires.start.fresh h;
}

pub step-requires-clause-few : goal.step-requires-clause-few
step-requires-clause-few c =
    let few = states_few c.running.left c.args.budget c.running.second c.pass_interlude.new.second c.pass_interlude.ensures c.running.invariant.counted in
    omega (arith, few, c.requires.limit)

pub returns-then-is_at_rest-clause-end : goal.returns-then-is_at_rest-clause-end
returns-then-is_at_rest-clause-end c = λ depth h.
    states_rest depth c.args.budget c.args.second.now.0 c.running.left c.running.second c.pass_interlude.new.second
    c.pass_interlude.ensures (ap rests (sym c.state.ensures) ∙ sym c.is_at_rest.ensures ∙ c.if-is_at_rest.true) (c.running.invariant.states depth h)

pub returns-then-left-eq0-clause-end : goal.returns-then-left-eq0-clause-end
returns-then-left-eq0-clause-end c = λ depth h.
    states_used depth c.args.budget c.args.second.now.0 c.running.left c.running.second c.pass_interlude.new.second
    c.pass_interlude.ensures c.if-left-eq0.true (c.running.invariant.states depth h)

pub running-preserved : goal.running-preserved
running-preserved c =
    let going = ap rests (sym c.state.ensures) ∙ sym c.is_at_rest.ensures ∙ c.if-is_at_rest.false in
    let made = c.step.ensures going in
    record {
      counted = states_count c.running.left c.args.budget c.running.second c.pass_interlude.new.second
          c.step.new.second c.if-left-eq0.false c.pass_interlude.ensures made c.running.invariant.counted;
      ready = made.ready;
      states = λ depth h.
          states_next depth c.args.budget c.args.second.now.0 c.running.left c.running.second c.pass_interlude.new.second
          c.step.new.second c.if-left-eq0.false going c.pass_interlude.ensures made (c.running.invariant.states depth h);
    }
