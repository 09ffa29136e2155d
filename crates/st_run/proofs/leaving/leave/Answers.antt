use Rattle.st_run.proofs.Common.{ap, arith, sym, subst, ◌∙◌, option_map, may_serve, IsLedOn, Together, IsBehindEntry}
use Rattle.st_run.proofs.ChoiceLemmas.{decided}
use Rattle.st_run.proofs.InterludeLemmas.{come-between, with_pending}
use Rattle.st_run.proofs.PartLemmas.{left-parts}
use Rattle.st_run.proofs.leaving.leave.Goals as goal

pub between-came-requires : goal.between-came-requires
between-came-requires g c =
    let is = subst {A = Together} IsBehindEntry (sym c.driven.view_is) c.requires in
    ap may_serve is.phase

pub decide-requires : goal.decide-requires
decide-requires g c =
    let is = subst {A = Together} IsBehindEntry (sym c.driven.view_is) c.requires in
    (omega arith, c.between-came.ensures.rest.serves (ap may_serve is.phase))

pub returns-clause-decided : goal.returns-clause-decided
returns-clause-decided g c =
    let came = come-between c.args.driven.now c.driven.inside.machine c.between-came.new.machine c.driven.inside.pending
    c.between-came.new.pending c.between-came.result c.is_over.result c.driven.view_is c.requires c.between-came.ensures c.is_over.ensures in
    decided c.args.driven.now (with_pending c.between-came.new.machine c.between-came.new.pending) _ c.is_over.result c.requires came
    c.args.left c.decide.result c.decide.new.driven c.decide.ensures.rest
    (ap (option_map (λ x. x.bytes)) c.decide.ensures.text ∙ c.text_of.ensures) c.decide.ensures.choice

pub returns-clause-delays : goal.returns-clause-delays
returns-clause-delays g c =
    let came = come-between c.args.driven.now c.driven.inside.machine c.between-came.new.machine c.driven.inside.pending
    c.between-came.new.pending c.between-came.result c.is_over.result c.driven.view_is c.requires c.between-came.ensures c.is_over.ensures in
    (left-parts c.args.driven.now.machine c.between-came.new.machine c.decide.new.driven.machine c.is_over.result c.args.left
    c.decide.result came.since c.decide.ensures.choice).delays

pub returns-clause-levels : goal.returns-clause-levels
returns-clause-levels g c =
    let came = come-between c.args.driven.now c.driven.inside.machine c.between-came.new.machine c.driven.inside.pending
    c.between-came.new.pending c.between-came.result c.is_over.result c.driven.view_is c.requires c.between-came.ensures c.is_over.ensures in
    (left-parts c.args.driven.now.machine c.between-came.new.machine c.decide.new.driven.machine c.is_over.result c.args.left
    c.decide.result came.since c.decide.ensures.choice).levels

pub returns-clause-led : goal.returns-clause-led
returns-clause-led g c =
    subst {A = Together} (λ t. IsLedOn t.machine c.decide.new.driven.machine) c.driven.view_is
    (λ start led. c.decide.ensures.led start (c.between-came.ensures.rest.led start led))
