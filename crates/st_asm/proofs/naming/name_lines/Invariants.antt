use Rattle.st_asm.proofs.Common.{◌≡◌, length, All, pass, is_defined, name_card, named_in, naming_at_start, AreNamesKept, IsWellFormedIfAny}
use Rattle.st_asm.proofs.naming.name_lines.Given as goal

abbrev pub invariant-lines : goal.invariant-lines
invariant-lines l = record {
  same : pass (name_card (is_defined l.all)) (λ line. line.card) (named_in l.names) l.rest
      ≡ pass (name_card (is_defined l.all)) (λ line. line.card) naming_at_start l.lines;
  well : All (λ line. IsWellFormedIfAny line.statement) l.rest;
  kept : AreNamesKept l.names;
}

abbrev pub decreases-lines : goal.decreases-lines
decreases-lines l = length l.rest
