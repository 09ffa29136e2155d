use Rattle.st_top.proofs.Common.{◌≡◌, length, map, list_all, string_bytes, is_plain}
use Rattle.st_top.proofs.command.are_plain.Given as goal

abbrev pub invariant-words : goal.invariant-words
invariant-words l = list_all is_plain (map string_bytes l.rest) ≡ list_all is_plain (map string_bytes l.words)

abbrev pub decreases-words : goal.decreases-words
decreases-words l = length l.rest
