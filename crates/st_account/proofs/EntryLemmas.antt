-- Lemmas on a completed entry and its lines.
use Rattle.st_account.proofs.Common.{nat_eq, nat_tests, ◌≡◌, ◌≢◌, ℕ, zero, suc, false, refl, arith, ◌+◌, List, [], ◌∷◌, Option, sym, ◌∙◌, ap, subst, Machine, plan, Prepared, state_after_execution, prediction, is_mispredicted, interrupt, step, address, log_after_reads, AreDelaysUpTo, IsEntryInTime, IsTight, Made, row_of_entry, issue_after_entry, reads_of_entry, EntryTicks, IssueState, entry, Standing, next_row, next_moment, parts_of_row, charges_behind, charges_at, known_at, level_wait, side_at, formed_uses, uses_of_entry, Use, Last, predicting, kept_lines, IsLast, IsStanding, done_entry_lines, EntryDone, Why, Origin, StallCause, because, row_at, formed_at, uses_at, done_at, lines_of_entry}
use Rattle.st_plain.specs.declared.known.Known.{Known}
use Rattle.st_account.proofs.LastLemmas.{next-last}

pub entry-step : (s u : Machine) (taken : Option ℕ) → taken ≡ interrupt s → u ≡ state_after_execution taken s → u ≡ step s
unfolding step
entry-step s u taken is made = made ∙ ap (λ t. state_after_execution t s) is

-- the lines of the last entry
pub kept-none : (k : ℕ) (l : Last) (end : Option ℕ) → k ≡ 0 → kept_lines k l end ≡ []
unfolding kept_lines
kept-none k l end none = rw none refl

pub kept-some : (k : ℕ) (l : Last) (end : Option ℕ) → k ≢ 0
    → kept_lines k l end ≡ done_entry_lines (record l.done { end = end }) l.unit.prepared l.known l.uses.items l.uses.before
unfolding kept_lines
kept-some zero l end some = absurd (some refl)
kept-some (suc k) l end some = rw (not-zero k) refl
  where
    not-zero : (k : ℕ) → nat_eq (suc k) 0 ≡ false
    not-zero k = grind (arith, nat_tests)

-- the lines of the last entry, by its row
pub kept-row : (k : ℕ) (l : Last) (end : Option ℕ) (us bs : List Use) → k ≢ 0 → us ≡ l.uses.items → bs ≡ l.uses.before
    → done_entry_lines (record l.done { end = end }) l.unit.prepared l.known us bs
    ≡ kept_lines k l end
kept-row k l end us bs some used earlier = rw (used, earlier) (sym (kept-some k l end some))

-- The entry j was completed in the machine s after the last entry l; it uses the words us.
pub record IsCompleted (ds : List ℕ) (n : ℕ) (s : Machine) (l : Last) (taken : Option ℕ) (j : EntryDone) (us : List Use) : Type 0 where
  pub place : j.address ≡ address s
  pub number : j.n ≡ s.done + 1
  pub ticks : j.row.ticks ≡ row_of_entry ds n l.issue (entry taken s)
  pub wait : j.row.level_wait ≡ level_wait ds n l.issue (entry taken s)
  pub predicted : j.mispredicted ≡ is_mispredicted (plan s taken) s
  pub since : j.before ≡ l.tick
  pub opened : j.start ≡ l.issue.c
  pub used : us ≡ uses_of_entry ds n l.issue (entry taken s) (side_at taken s) (plan s taken).reads

-- ---- the next entry, from a machine, a last entry and an interrupt that are those of p

module _ {p : Standing} {s : Machine} {l : Last} {taken : Option ℕ} (is : IsStanding p s l) (is_taken : taken ≡ interrupt s) where
  at-standing : {A : Type 0} (g : Machine → Option ℕ → IssueState → A) → g s taken l.issue ≡ g p.scene.machine (interrupt p.scene.machine) p.issue
  at-standing g =
      ap (λ t. g s t l.issue) is_taken
      ∙ ap (λ m. g m (interrupt m) l.issue) (sym is.machine)
      ∙ ap (g p.scene.machine (interrupt p.scene.machine)) (sym is.issue)

  pub entry-last : (ds : List ℕ) → AreDelaysUpTo 255 ds → (n : ℕ) (u : Machine) (k j : Last) (log : List Made) (r : EntryTicks) → IsTight 255 l.issue
      → IsEntryInTime (entry taken s) → u ≡ state_after_execution taken s → predicting j.ic u ≡ prediction taken s
      → r ≡ row_of_entry ds n l.issue (entry taken s) → k.tick ≡ r.c → k.issue ≡ issue_after_entry ds n l.issue (entry taken s)
      → log ≡ log_after_reads ds (reads_of_entry ds n l.issue (entry taken s)) l.issue.bus []
      → j ≡ record k { done = record k.done { mispredicted = is_mispredicted (plan s taken) s }; ic = j.ic; enabled = s.enabled } → IsLast ds n (next_moment ds n p) j log
  entry-last ds are n u k j log r tight fits made prediction_is is_row tick issue reads rest =
      next-last ds are n p s u l j log is tight (subst (λ o. IsEntryInTime (entry o s)) is_taken fits) (entry-step s u taken is_taken made)
      (prediction_is ∙ ap (λ o. prediction o s) is_taken)
      (ap (λ (x : Last). x.tick) rest ∙ tick ∙ ap (λ (x : EntryTicks). x.c) is_row ∙ ap (λ o. (row_of_entry ds n l.issue (entry o s)).c) is_taken)
      (ap (λ (x : Last). x.issue) rest ∙ issue ∙ ap (λ o. issue_after_entry ds n l.issue (entry o s)) is_taken)
      (ap (λ (x : Last). x.done.mispredicted) rest ∙ ap (λ o. is_mispredicted (plan s o) s) is_taken)
      (reads ∙ ap (λ o. log_after_reads ds (reads_of_entry ds n l.issue (entry o s)) l.issue.bus []) is_taken)

  module _ {ds : List ℕ} {n : ℕ} {j : EntryDone} {us : List Use} (h : IsCompleted ds n s l taken j us) where
    pub uses-is : us ≡ uses_at ds n p
    unfolding uses_at
    uses-is = h.used ∙ at-standing (λ m t f. uses_of_entry ds n f (entry t m) (side_at t m) (plan m t).reads)

    pub entry-charges : charges_behind j.before (parts_of_row j.start j.row.ticks) ≡ charges_at ds n p
    unfolding charges_at next_row
    entry-charges =
        rw (h.ticks, h.since ∙ sym is.tick, h.opened) (at-standing (λ m t f. charges_behind p.tick (parts_of_row f.c (row_of_entry ds n f (entry t m)))))

    -- the entry with its origin and its cause; the previous one used the words bs
    module _ (o : Machine → ℕ → Option Origin) (end : Option ℕ) (bs : List Use) (origin : Option Origin) (why : StallCause) (is_origin : origin ≡ o s (address s))
        (is_why : why ≡ because l.issue (entry taken s) j.row.ticks.a j.row.ticks.p j.row.level_wait (formed_uses ds l.issue (entry taken s) (side_at taken s)) bs) where
      done-is : record j { origin = origin; row = record { ticks = j.row.ticks; level_wait = j.row.level_wait }; end = end; because = why } ≡ done_at o ds n end bs p
      unfolding next_row formed_at
      done-is =
          rw (is_why, is_origin, h.place, h.number, h.ticks, h.wait, h.predicted, h.since ∙ sym is.tick, h.opened)
          (at-standing (λ m t f.
          let e = entry t m in
          let r = row_of_entry ds n f e in
          let d = level_wait ds n f e in
          record {
            n = m.done + 1;
            address = address m;
            origin = o m (address m);
            row = record { ticks = r; level_wait = d };
            mispredicted = is_mispredicted (plan m t) m;
            before = p.tick;
            start = f.c;
            end = end;
            because = because f e r.a r.p d (formed_uses ds f e (side_at t m)) bs;
          }))

      pub entry-lines : (q : Prepared) (known : Known) → q ≡ plan s taken → known ≡ known_at taken s
          → done_entry_lines (record j { origin = origin; end = end; because = why }) q known us bs ≡ lines_of_entry o ds n end bs p
      unfolding lines_of_entry
      entry-lines q known planned is_known =
          rw (planned ∙ at-standing (λ m t f. plan m t), is_known ∙ at-standing (λ m t f. known_at t m), uses-is)
          (ap (λ y. done_entry_lines y (plan p.scene.machine (interrupt p.scene.machine)) (known_at (interrupt p.scene.machine) p.scene.machine) (uses_at ds n p) bs) done-is)

      -- the same entry as a row of the tables
      pub entry-row : (v : Why) (old : List Use) → bs ≡ old
          → (record { done = record j { origin = origin; end = end; because = why }; why = v; uses = us; before = bs } ∷ []) ≡ (row_at o ds n end v old p ∷ [])
      unfolding row_at
      entry-row v old earlier =
          ap (λ y. record { done = y; why = v; uses = us; before = bs } ∷ []) done-is
          ∙ ap (λ y. record { done = done_at o ds n end bs p; why = v; uses = y; before = bs } ∷ []) uses-is
          ∙ ap (λ y. row_at o ds n end v y p ∷ []) earlier
