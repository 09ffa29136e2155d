use Rattle.st_object.proofs.Common.{◌≡◌, ◌+◌, ◌*◌, ◌%◌, ◌^◌, length}
use Rattle.st_object.specs.Meaning as spec
use Rattle.st_object.proofs.meaning.hex_in.Given as goal

abbrev pub invariant-digits : goal.invariant-digits
invariant-digits l = (l.number * 16 ^ length l.rest + spec.hex_number l.rest) % 2 ^ 64 ≡ spec.hex_number l.text % 2 ^ 64

abbrev pub decreases-digits : goal.decreases-digits
decreases-digits l = length l.rest
