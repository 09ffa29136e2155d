use Rattle.st_sweep.proofs.Common.{inl, inr, sym, ◌∙◌, ap, arith, ◌&&◌}
use Rattle.st_sweep.proofs.PlainRun.{ends-hazard_free, ends-done, few-now, next-so_far}
use Rattle.st_sweep.proofs.hazards.run_plain.Goals as goal

pub returns-then-left-eq0-clause-done : goal.returns-then-left-eq0-clause-done
returns-then-left-eq0-clause-done c =
    ap (λ m. m.done) c.state.view_is
    ∙ ends-done _ _ c.entries.hazard_free c.pass_interlude-between.result.quiet c.entries.left _ _ _ (c.pass_interlude-between.result.signals.now) _
    c.entries.invariant.so_far c.pass_interlude-between.ensures.came c.pass_interlude-between.ensures.quiet (inl c.if-left-eq0.true)

pub returns-then-left-eq0-clause-hazard_free : goal.returns-then-left-eq0-clause-hazard_free
returns-then-left-eq0-clause-hazard_free c =
    c.both-hazard_free.ensures
    ∙ ends-hazard_free _ _ c.entries.hazard_free c.pass_interlude-between.result.quiet c.entries.left _ _ _ (c.pass_interlude-between.result.signals.now) _
    c.entries.invariant.so_far c.pass_interlude-between.ensures.came c.pass_interlude-between.ensures.quiet (inl c.if-left-eq0.true)

pub returns-then-is_at_rest-clause-done : goal.returns-then-is_at_rest-clause-done
returns-then-is_at_rest-clause-done c =
    ap (λ m. m.done) c.state.view_is
    ∙ ends-done _ _ c.entries.hazard_free c.pass_interlude-between.result.quiet c.entries.left _ _ _ (c.pass_interlude-between.result.signals.now) _
    c.entries.invariant.so_far c.pass_interlude-between.ensures.came c.pass_interlude-between.ensures.quiet (inr (sym c.is_at_rest.ensures ∙ c.if-is_at_rest.true))

pub returns-then-is_at_rest-clause-hazard_free : goal.returns-then-is_at_rest-clause-hazard_free
returns-then-is_at_rest-clause-hazard_free c =
    c.both-hazard_free.ensures
    ∙ ends-hazard_free _ _ c.entries.hazard_free c.pass_interlude-between.result.quiet c.entries.left _ _ _ (c.pass_interlude-between.result.signals.now) _
    c.entries.invariant.so_far c.pass_interlude-between.ensures.came c.pass_interlude-between.ensures.quiet (inr (sym c.is_at_rest.ensures ∙ c.if-is_at_rest.true))

pub step-entry-requires-clause-few : goal.step-entry-requires-clause-few
step-entry-requires-clause-few c =
    let few =
    few-now _ _ c.entries.hazard_free c.pass_interlude-between.result.quiet c.entries.left _ _ _ (c.pass_interlude-between.result.signals.now) _
    c.entries.invariant.so_far c.pass_interlude-between.ensures.came c.pass_interlude-between.ensures.quiet c.if-left-eq0.false
    (sym c.is_at_rest.ensures ∙ c.if-is_at_rest.false) in
    omega (arith, few)

pub entries-preserved : goal.entries-preserved
entries-preserved c = record {
  passes = c.pass_interlude-between.ensures.rest;
  so_far =
      next-so_far _ _ c.entries.hazard_free c.pass_interlude-between.result.quiet c.entries.left _ _ _ (c.pass_interlude-between.result.signals.now) _
      c.entries.invariant.so_far c.pass_interlude-between.ensures.came c.pass_interlude-between.ensures.quiet c.if-left-eq0.false
      (sym c.is_at_rest.ensures ∙ c.if-is_at_rest.false) c.step-entry.new.state c.step-entry.result c.both-hazard_free-in-entries.result
      c.step-entry.new.written c.step-entry.ensures.state
      (c.both-hazard_free-in-entries.ensures ∙ ap (λ b. b && c.step-entry.result) c.both-hazard_free.ensures) c.step-entry.ensures.entry;
}
