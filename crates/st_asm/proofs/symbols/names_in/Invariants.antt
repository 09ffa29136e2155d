use Rattle.st_asm.proofs.Common.{◌≡◌, ◌||◌, ℕ, List, length, has_name, is_defined, names_of}
use Rattle.st_asm.proofs.symbols.names_in.Given as goal

abbrev pub invariant-lines : goal.invariant-lines
invariant-lines l = (name : List ℕ)
    → (is_defined l.names name || has_name (names_of l.rest) name) ≡ has_name (names_of l.lines) name

abbrev pub decreases-lines : goal.decreases-lines
decreases-lines l = length l.rest
