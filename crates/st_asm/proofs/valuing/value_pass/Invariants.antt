use Rattle.st_asm.proofs.Common.{◌≡◌, length, All, zip, pass, value_card, emitted_in, emitting_at_start, IsLocation, IsSoundLayout, IsWellFormedIfAny}
use Rattle.st_asm.proofs.valuing.value_pass.Given as goal

abbrev pub invariant-lines : goal.invariant-lines
invariant-lines l = record {
  same : pass (value_card l.symbols) (λ p. p.0.card) (emitted_in l.layout) (zip l.rest l.places_left)
      ≡ pass (value_card l.symbols) (λ p. p.0.card) emitting_at_start (zip l.lines l.places);
  well : All (λ line. IsWellFormedIfAny line.statement) l.rest;
  located : All IsLocation l.places_left;
  sound : IsSoundLayout (emitted_in l.layout);
}

abbrev pub decreases-lines : goal.decreases-lines
decreases-lines l = length l.rest
