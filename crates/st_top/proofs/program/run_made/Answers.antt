use Rattle.st_top.proofs.Common.{◌≡◌, List, ℕ, ◌∙◌, subst, assembly, made_lines, ran_by, Ends}
use Rattle.std.specs.Prelude.{Some}
use Rattle.st_gen.specs.Deck.{made_deck}
use Rattle.st_top.proofs.program.run_made.Goals as goal

pub returns : goal.returns
returns g c =
    let n = c.args.number in
    let k = c.args.cards in
    let deck : c.as_slice.result.now ≡ made_deck n k = c.as_slice.ensures.value ∙ c.in-Ok.ensures.deck in
    subst (λ (job : List ℕ). Ends (g.K.Sink.output c.args.out.now) (g.K.Sink.output c.run_job.new.out) (ran_by (made_lines (Some (n, k))) job (assembly job))
    c.run_job.result) deck c.run_job.ensures
