use Rattle.st_lines.proofs.Common.{ℕ, List, ◌∙◌, ap, is_kept}
use Rattle.st_lines.proofs.OriginLemmas.{origin_none, origin_some}
use Rattle.st_lines.proofs.origins.Origins.at.Goals as goal

pub returns-then-card-eq0 : goal.returns-then-card-eq0
returns-then-card-eq0 c = origin_none c.args.self.now c.args.state.now c.args.h c.number_at-card.result c.number_at-card.ensures c.if-card-eq0.true

pub returns : goal.returns
returns c =
    origin_some c.args.self.now c.args.state.now c.args.h c.number_at-card.result c.is_kept.result c.number_at-card.ensures c.if-card-eq0.false
    (c.is_kept.ensures
    ∙ ap (λ (image : List ℕ). is_kept image c.words.result.now c.args.h) c.as_slice.ensures.value
    ∙ ap (λ (words : List ℕ). is_kept c.args.self.now.image.items words c.args.h) c.words.ensures.words)
