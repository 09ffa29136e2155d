-- Lemmas on the totals of a run: the whole ledger ends with their lines.
use Rattle.st_causes.proofs.Common.{Bool, false, Option, ◌≡◌, ◌≢◌, ℕ, ◌-◌, inl, inr, List, [], ◌++◌, refl, sym, ◌∙◌, ap, append_assoc, arith, rests, Machine, Use, Moment, moment_at_start, next_moment, next_state, standing_at, Scene, entries_of, all_charges, machine_lines, marks_lines, Origin, end_lines, end_from, ledger_totals, end_lines_at, words_behind, segment_lines, segment_after, segment_end_at, lines_of_entry, words_before, uses_at, last_lines, lines_from, totals_lines, wait_totals_lines, stalled_from, ledger, IsWithoutLines}
use Rattle.std.specs.Prelude.{true}
use Rattle.std.proofs.Common.{zero, suc}
use Rattle.st_account.proofs.RunLemmas.{lines-end, lines-on, end-last, end-on}

-- some lines end with others
record EndsWith (all end : List (List ℕ)) : Type 0 where
  pub front : List (List ℕ)
  pub is : all ≡ front ++ end

last-ends : (o : Machine → ℕ → Option Origin) (ds : List ℕ) (n k : ℕ) (b : Machine) (m : Moment) → EndsWith (last_lines o ds n k b m) (end_lines m)
unfolding last_lines
last-ends o ds n k b m = record {
  front = end_lines_at o ds n k b m ++ marks_lines (words_behind m) k b.enabled b.words (next_state m);
  is = refl;
}

run-ends : (o : Machine → ℕ → Option Origin) (ds : List ℕ) (n left k : ℕ) (b : Machine) (us : List Use) (m : Moment)
    → EndsWith (lines_from o ds n left k b us m) (end_from ds n left m)
run-ends o ds n zero k b us m =
    let h = last-ends o ds n k b m in
    record {
      front = h.front;
      is = lines-end ds n o zero k b us m (inl refl) ∙ h.is ∙ ap (λ ls. h.front ++ ls) (sym (end-last ds n zero m (inl refl)));
    }
run-ends o ds n (suc left) k b us m =
    by (rests (next_state m)) refl (run-ends o ds n left (segment_after k m) (next_state m) (uses_at ds n (standing_at m)) (next_moment ds n (standing_at m)))
  where
    by : (r : Bool) → rests (next_state m) ≡ r
        → EndsWith (lines_from o ds n left (segment_after k m) (next_state m) (uses_at ds n (standing_at m)) (next_moment ds n (standing_at m)))
        (end_from ds n left (next_moment ds n (standing_at m)))
        → EndsWith (lines_from o ds n (suc left) k b us m) (end_from ds n (suc left) m)
    by true is rest =
        let h = last-ends o ds n k b m in
        record {
          front = h.front;
          is = lines-end ds n o (suc left) k b us m (inr is) ∙ h.is ∙ ap (λ ls. h.front ++ ls) (sym (end-last ds n (suc left) m (inr is)));
        }
    by false is h =
        let some : suc left ≢ 0 = λ none. absurd (omega (arith, none)) in
        let one : suc left - 1 ≡ left = omega arith in
        let row = segment_lines o ds n k b m ++ lines_of_entry o ds n (segment_end_at (suc left - 1) (next_moment ds n (standing_at m))) (words_before m us) (standing_at m) in
        record {
          front = row ++ h.front;
          is = lines-on ds n o (suc left) k b us m some is
              ∙ ap (λ j. row ++ lines_from o ds n j (segment_after k m) (next_state m) (uses_at ds n (standing_at m)) (next_moment ds n (standing_at m))) one
              ∙ ap (λ ls. row ++ ls) h.is
              ∙ sym (append_assoc row h.front (end_from ds n left (next_moment ds n (standing_at m))))
              ∙ ap (λ j. (row ++ h.front) ++ end_from ds n j (next_moment ds n (standing_at m))) (sym one)
              ∙ ap (λ ls. (row ++ h.front) ++ ls) (sym (end-on ds n (suc left) m some is));
        }

pub without-rows : (o : Machine → ℕ → Option Origin) (ds : List ℕ) (n left : ℕ) (c : Scene)
    → IsWithoutLines (ledger o ds n left c) (ledger_totals ds n left c) (machine_lines ds n)
unfolding ledger ledger_totals
without-rows o ds n left c =
    let m = moment_at_start c in
    let h = run-ends o ds n left 0 c.machine [] m in
    let sums = totals_lines (all_charges ds n (entries_of ds n left c)) in
    let waits = wait_totals_lines (λ r s. stalled_from r s ds n left [] m) in
    record {
      between = h.front;
      last = (end_from ds n left m ++ sums) ++ waits;
      whole_is = ap (λ ls. ((machine_lines ds n ++ ls) ++ sums) ++ waits) h.is
          ∙ parted (machine_lines ds n) h.front (end_from ds n left m) sums waits;
      part_is = grouped (machine_lines ds n) (end_from ds n left m) sums waits;
    }
  where
    grouped : (a e s w : List (List ℕ)) → ((a ++ e) ++ s) ++ w ≡ a ++ ((e ++ s) ++ w)
    grouped a e s w = ap (λ x. x ++ w) (append_assoc a e s) ∙ append_assoc a (e ++ s) w

    parted : (a r e s w : List (List ℕ)) → ((a ++ (r ++ e)) ++ s) ++ w ≡ (a ++ r) ++ ((e ++ s) ++ w)
    parted a r e s w =
        ap (λ x. (x ++ s) ++ w) (sym (append_assoc a r e)) ∙ grouped (a ++ r) e s w
