use Rattle.st_rows.proofs.Common.{◌≡◌, false, refl, arith, All-replicate, no_runs, is_among, writer_bits, Past}
use Rattle.st_rows.proofs.Places.{none-written}
use Rattle.st_rows.proofs.Writers.{silent-runs}
use Rattle.st_rows.proofs.past.LastEntries.new.Goals as goal

pub invariant_of-result : goal.invariant_of-result
unfolding writer_bits
invariant_of-result c =
    rw (c.no_entry.ensures, c.no_entry-2.ensures, c.no_entry-3.ensures, c.no_entry-4.ensures, c.no_entry-5.ensures, c.no_entry-6.ensures, c.no_entry-7.ensures, c.no_entry-8.ensures)
    (record {
      inside = omega arith;
      whole = refl;
      wide = refl;
      ticks = refl;
      words = λ i below some. absurd (none-written i below some);
      writers = refl;
      bounds = λ w above out. All-replicate (λ (e : Past). is_among w e.writes ≡ false) 8 (record { c = 0; writes = no_runs }) (silent-runs w (record { c = 0; writes = no_runs }) refl refl);
    })
