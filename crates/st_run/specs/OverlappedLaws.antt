-- Properties of successive external events of an overlapped machine.
--
-- Proved: invariants and ghost fields of types name these definitions; no `ensures` clause does.
-- Laws: none names a definition of this file itself.
-- Change: no page fixes these definitions, since no contract of a program unfolds to them; they
-- change together with the clauses, definitions and laws that name them. docs/timetable.md
-- describes the subject.
use Rattle.std.proofs.Common.{◌≡◌, ◌||◌, Bool, true, false, refl, sym, subst}
use Rattle.st_ahead.specs.Overlap.{Overlap}
use Rattle.st_run.specs.Together.{IsSince}
use Rattle.st_run.specs.Overlapped.{IsChanged}

pub or-none : (a : Bool) → a ≡ (a || false)
or-none true = refl
or-none false = refl

or-both : (a b c d : Bool) → d ≡ (b || c) → ((a || b) || c) ≡ (a || d)
or-both true b c d is = refl
or-both false b c d is = sym is

pub changed-none : (m : Overlap) → IsChanged false m m
changed-none m = record {
  since = λ b before behind since. subst (λ o. IsSince b.machine o m) (or-none before) since;
  serves = λ may. may;
  led = λ start led. led;
}

pub changed-both : (a b c : Bool) (m n o : Overlap) → IsChanged a m n → IsChanged b n o →
    c ≡ (a || b) → IsChanged c m o
changed-both a b c m n o first second is = record {
  since = λ t before behind since.
      subst (λ e. IsSince t.machine e o) (or-both before a b c is)
      (second.since t (before || a) behind (first.since t before behind since));
  serves = λ may. second.serves (first.serves may);
  led = λ start led. second.led start (first.led start led);
}
