use Rattle.st_mnemonic.proofs.Common.{rules, ◌≡◌, ◌-◌, ◌==◌, length, false, ◌∙◌, slice_get, option_map_or}
use Rattle.st_mnemonic.proofs.Digits.{ends_last}
use Rattle.st_mnemonic.proofs.parts.ends_with.Goals as goal

pub returns : goal.returns
returns c =
    let found : c.is_some_and.result ≡ option_map_or (λ x. x == c.args.byte) (slice_get c.args.text.now (length c.args.text.now - 1)) false = search rules in
    found ∙ ends_last c.args.byte c.args.text.now
