use Rattle.st_telling.proofs.Common.{refl, sym, ◌∙◌}
use Rattle.st_telling.proofs.Runs.{counted_skips, none_skips}
use Rattle.st_telling.proofs.telling.pass_counted.Goals as goal

pub returns-then-is_traced : goal.returns-then-is_traced
returns-then-is_traced g c = none_skips c.args.controls.now _ _ _ refl

pub returns-then-is_charted : goal.returns-then-is_charted
returns-then-is_charted g c = none_skips c.args.controls.now _ _ _ refl

pub returns-in-Some : goal.returns-in-Some
returns-in-Some g c =
    counted_skips c.args.controls.now _ _ _ _ _ (sym c.is_traced.ensures ∙ c.if-is_traced.false) (sym c.is_charted.ensures ∙ c.if-is_charted.false)
    c.in-Some.ensures.told c.moment_at.ensures

pub returns-in_default : goal.returns-in_default
returns-in_default g c = none_skips c.args.controls.now _ _ _ c.in_default.ensures.told
