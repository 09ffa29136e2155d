use Rattle.st_top.proofs.Common.{◌≡◌, Some, map, ◌∙◌, rules, string_bytes}
use Rattle.st_top.proofs.CommandLines.{command_within}
use Rattle.st_top.proofs.program.stretch.Goals as goal

pub act-requires : goal.act-requires
act-requires g c =
    let is : Some c.in-Ok-Some.command ≡ c.in-Ok-Some.field-0 = search rules in
    command_within c.in-Ok-Some.command (map string_bytes c.args.words.now) (is ∙ c.in-Ok-Some.ensures.ok)
