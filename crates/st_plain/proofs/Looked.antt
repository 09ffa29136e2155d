-- What a search finds at the next entry e, whose P is p, if it is too late and if it is prepared in time.
use Rattle.st_plain.proofs.Common.{map, ◌≡◌, ℕ, suc, ◌-◌, ◌≤◌, ◌<◌, List, [], ◌∷◌, ◌++◌, None, refl, sym, ap, ◌∙◌, arith, Machine, plan, Prepared, predicted_state, formed_asked, bus_after_reads, log_after_reads, row_of_entry, issue_after_entry, bus_a, tick_p, done_before, reads_of_entry, Entry, Made, IssueState, EntryTicks, entry, Bus, seen_ahead, first_late, reads_up_to, side_at, known_at, Known, Use, formed_uses, prepared_uses, uses_of_entry, ahead, next_ahead, prepared_before}
use Rattle.st_plain.specs.declared.looking.Ahead.{Ahead as SeenAhead}
use Rattle.st_plain.proofs.LookLemmas.{found-late, found-same, found-look, begun-here, begun-behind, bus-late, log-late, bus-look, log-look, some-more, row-p}
use Rattle.st_plain.proofs.UseLemmas.{all-used}

abbrev seen-by : Prepared → EntryTicks → Known → List Use → SeenAhead
seen-by q r known uses = record { plan = q; row = r; known = known; uses = record { items = uses } }

module _ (ds : List ℕ) (n t k p : ℕ) (s : Machine) (f : IssueState) (e : Entry) (same : e ≡ entry None s) (at : p ≡ tick_p ds n f e) where
  row-is : (row_of_entry ds n f (entry None s)).p ≡ p
  row-is = row-p ds n f (entry None s) ∙ ap (tick_p ds n f) (sym same) ∙ sym at

  -- the facts of the entry
  module _ (q : Prepared) (r : EntryTicks) (known : Known) (us vs ws : List Use) (plan_is : q ≡ plan s None) (row : r ≡ row_of_entry ds n f e)
      (known_is : known ≡ known_at None s) (none : us ≡ []) (formed : vs ≡ us ++ formed_uses ds f e known.side)
      (all : ws ≡ vs ++ prepared_uses ds n f e q.reads) where
    seen : seen-by q r known ws ≡ seen_ahead ds n (next_ahead ds n None s f)
    seen =
        let uses : ws ≡ uses_of_entry ds n f (entry None s) (side_at None s) (plan s None).reads =
        all-used ds n f e (entry None s) known.side (side_at None s) q.reads (plan s None).reads us vs ws same
        (ap (λ (x : Known). x.side) known_is) (ap (λ (x : Prepared). x.reads) plan_is) none formed all in
        rw (plan_is, row, same, known_is, uses) refl

    pub seen-late : t ≤ p → seen-by q r known ws ∷ [] ≡ map (seen_ahead ds n) (first_late t (ahead ds n (suc k) None s f))
    seen-late late = begun-here ds n t s f k _ (omega (arith, row-is, late)) seen

  -- too late: the search ends
  module _ (late : t ≤ p) where
    pub found-none : (xs : List SeenAhead) → xs ≡ xs ++ map (seen_ahead ds n) (prepared_before t (ahead ds n k None s f))
    found-none xs = found-same ds n xs _ (found-late ds n t s f k (omega (arith, row-is, late)))

    pub log-at_late : (log new : List Made) → new ≡ log_after_reads ds (formed_asked ds f e) f.bus log
        → new ≡ log_after_reads ds (reads_up_to ds n t (ahead ds n (suc k) None s f)) f.bus log
    log-at_late log new is =
        log-late ds n t s f k log new (omega (arith, row-is, late)) (is ∙ ap (λ (d : Entry). log_after_reads ds (formed_asked ds f d) f.bus log) same)

    pub bus-at_late : (b : Bus) → b ≡ bus_a ds f e → b ≡ bus_after_reads ds (reads_up_to ds n t (ahead ds n (suc k) None s f)) f.bus
    bus-at_late b is = bus-late ds n t s f k b (omega (arith, row-is, late)) (is ∙ ap (bus_a ds f) same)

  -- in time: the search continues behind the entry
  module _ (early : p < t) (levels : 1 ≤ n) (first : k < n → t ≤ done_before (n - k) f.past) where
    pub some-left : 1 ≤ k
    some-left = some-more ds n k t f e levels first (omega (arith, at, early))

    module _ (q : Prepared) (u : Machine) (g : IssueState) (plan_is : q ≡ plan s None) (step : u ≡ predicted_state q s) (behind : g ≡ issue_after_entry ds n f e) where
      next : u ≡ predicted_state (plan s None) s
      next = step ∙ ap (λ (x : Prepared). predicted_state x s) plan_is

      after : g ≡ issue_after_entry ds n f (entry None s)
      after = behind ∙ ap (issue_after_entry ds n f) same

      before : (row_of_entry ds n f (entry None s)).p < t
      before = omega (arith, row-is, early)

      pub found-with : (r : EntryTicks) (known : Known) (xs ys ws : List SeenAhead) (us vs xs' : List Use)
          → r ≡ row_of_entry ds n f e → known ≡ known_at None s → us ≡ [] → vs ≡ us ++ formed_uses ds f e known.side → xs' ≡ vs ++ prepared_uses ds n f e q.reads
          → ys ≡ xs ++ seen-by q r known xs' ∷ []
          → ws ≡ ys ++ map (seen_ahead ds n) (prepared_before t (ahead ds n (k - 1) None u g))
          → ws ≡ xs ++ map (seen_ahead ds n) (prepared_before t (ahead ds n k None s f))
      found-with r known xs ys ws us vs xs' row known_is none formed all one rest =
          found-look ds n t s f u g k xs ys ws _ some-left before (seen q r known us vs xs' plan_is row known_is none formed all) next after one rest

      pub late-behind : (xs : List SeenAhead) → xs ≡ map (seen_ahead ds n) (first_late t (ahead ds n (suc (k - 1)) None u g))
          → xs ≡ map (seen_ahead ds n) (first_late t (ahead ds n (suc k) None s f))
      late-behind xs rest = begun-behind ds n t s f u g k xs some-left before next after rest

      pub log-behind : (log one two : List Made) → one ≡ log_after_reads ds (reads_of_entry ds n f e) f.bus log
          → two ≡ log_after_reads ds (reads_up_to ds n t (ahead ds n (suc (k - 1)) None u g)) g.bus one
          → two ≡ log_after_reads ds (reads_up_to ds n t (ahead ds n (suc k) None s f)) f.bus log
      log-behind log one two made rest =
          log-look ds n t s f u g k some-left before next after log one two
          (made ∙ ap (λ (d : Entry). log_after_reads ds (reads_of_entry ds n f d) f.bus log) same) rest

      pub bus-behind : (b : Bus) → b ≡ bus_after_reads ds (reads_up_to ds n t (ahead ds n (suc (k - 1)) None u g)) g.bus
          → b ≡ bus_after_reads ds (reads_up_to ds n t (ahead ds n (suc k) None s f)) f.bus
      bus-behind b is = bus-look ds n t s f u g k some-left before next after b is
