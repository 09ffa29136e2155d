-- The reads of a segment, and those that are accepted before a tick.
use Rattle.st_refine.proofs.Common.{All, IfSome, nat_lt, max, if◌then◌else◌, ◌≡◌, ℕ, zero, suc, ◌<◌, ◌≤◌, Bool, true, false, List, [], ◌∷◌, ◌++◌, append_assoc, append-nil, inl, inr, Option, None, Some, refl, sym, subst, ◌∙◌, ap, arith, All-nil, All-cons, All-append, ltb-false, Machine, prediction, LastAnswers, fetches_asked, data_of, bus_after_reads, made_before, accept_at, Read, after_one, row_of_entry, issue_after_entry, wanted_from, address_tick, operands, tick_a, tick_p, reads_of_entry, Bus, Entry, IssueState, before-cases, free-one, made-more, entry, table_behind, ahead, reads_before, closing, Overlap, Opening, ExternalEvents, StandsAt, state_after, issue_at, reads_after, banks_behind, reads_of_segment, IsReached}
use Rattle.st_rows.specs.Notes.{notes_of_reads, note}
use Rattle.st_rows.specs.declared.log.Made.{Made}
use Rattle.st_rows.proofs.Each.{each-fetch, each-side, each-operand, each-following, each-of-data}
use Rattle.st_rows.proofs.Parts.{a-p, asked-parts}
use Rattle.st_ahead.specs.Forecast.{asked_ahead}
use Rattle.st_refine.specs.Laws.{AreFirstReads}
use Rattle.st_refine.proofs.Kept.{fresh-of, closing-of, kept}

-- ---- reads that are accepted before a tick are the first ones

module _ (ds : List ℕ) (t : ℕ) where
  -- on a bus that is free only from the tick on, no read is accepted before it
  late-logged : (reads : List Read) (b : Bus) → t ≤ b.free → All (λ (m : Made). t ≤ m.tick) (notes_of_reads ds reads b)
  unfolding notes_of_reads
  late-logged [] b free = All-nil (λ (m : Made). t ≤ m.tick)
  late-logged (r ∷ reads) b free =
      let here : t ≤ accept_at b r.w r.want = omega (arith, free) in
      All-append (λ (m : Made). t ≤ m.tick) (notes_of_reads ds reads (after_one ds b r)) (note b r ∷ [])
      (late-logged reads (after_one ds b r) (omega (arith, here, free-one ds b r)))
      (All-cons (λ (m : Made). t ≤ m.tick) (note b r) [] here (All-nil (λ (m : Made). t ≤ m.tick)))

  -- the reads before the tick, and the bus after them
  pub record Splits (reads : List Read) (b : Bus) : Type 0 where
    pub first : List Read
    pub are : AreFirstReads ds t reads b first
    pub made : made_before ds t reads b ≡ bus_after_reads ds first b

  pub split : (reads : List Read) (b : Bus) → Splits reads b
  unfolding made_before bus_after_reads notes_of_reads
  split [] b = record {
    first = [];
    are = record { others = []; order = refl; early = All-nil (λ (m : Made). m.tick < t); late = All-nil (λ (m : Made). t ≤ m.tick) };
    made = refl;
  }
  split (r ∷ reads) b =
      let rest = split reads (after_one ds b r) in
      elim (before-cases (accept_at b r.w r.want) t) [
        | inl early ↦ record {
          first = r ∷ rest.first;
          are = record {
            others = rest.are.others;
            order = ap (λ xs. r ∷ xs) rest.are.order;
            early =
                All-append (λ (m : Made). m.tick < t) (notes_of_reads ds rest.first (after_one ds b r)) (note b r ∷ []) rest.are.early
                (All-cons (λ (m : Made). m.tick < t) (note b r) [] early.1 (All-nil (λ (m : Made). m.tick < t)));
            late = rest.are.late;
          };
          made = rw early.0 rest.made;
        }
        | inr late ↦ record {
          first = [];
          are = record {
            others = r ∷ reads;
            order = refl;
            early = All-nil (λ (m : Made). m.tick < t);
            late =
                All-append (λ (m : Made). t ≤ m.tick) (notes_of_reads ds reads (after_one ds b r)) (note b r ∷ [])
                (late-logged reads (after_one ds b r) (omega (arith, late.1, free-one ds b r)))
                (All-cons (λ (m : Made). t ≤ m.tick) (note b r) [] late.1 (All-nil (λ (m : Made). t ≤ m.tick)));
          };
          made = rw late.0 refl;
        }
      ]

-- ---- the wants of the reads of entries in flight

if-any : (P : ℕ → Type 0) (side : Option ℕ) → ((w : ℕ) → P w) → IfSome side P
if-any P None all = tt
if-any P (Some w) all = all w

wanted-late : (t : ℕ) (f : IssueState) → t ≤ f.p → t ≤ wanted_from f
wanted-late t f late = by f.serial
  where
    by : (b : Bool) → t ≤ (if b then max f.p f.c else f.p)
    by true = omega (arith, late)
    by false = late

address-behind : (ds : List ℕ) (n : ℕ) (f : IssueState) (e : Entry) → f.p < tick_a ds f e
unfolding tick_a address_tick
address-behind ds n f e = omega arith

prepared-behind : (ds : List ℕ) (n : ℕ) (f : IssueState) (e : Entry) → f.p < (row_of_entry ds n f e).p
unfolding row_of_entry
prepared-behind ds n f e = omega (arith, address-behind ds n f e, a-p ds n f e)

asked-late : (ds : List ℕ) (n t : ℕ) (f : IssueState) (e : Entry) → t ≤ f.p → All (λ (r : Read). t ≤ r.want) (reads_of_entry ds n f e)
asked-late ds n t f e late =
    let P : Read → Type 0 = λ (r : Read). t ≤ r.want in
    let want : t ≤ wanted_from f = wanted-late t f late in
    let address : t ≤ tick_a ds f e = omega (arith, late, address-behind ds n f e) in
    let prepared_at : t ≤ tick_p ds n f e = omega (arith, address, a-p ds n f e) in
    let fetches = each-fetch P ds f e (λ v w least most low. omega (arith, low, want)) (λ v w least most low. omega (arith, low, want)) in
    let others = each-of-data P ds n f e
    (each-side P f.past e.side (tick_a ds f e) (if-any (λ w. t ≤ tick_a ds f e) e.side (λ w. address)))
    (each-operand P f.past e.reads (tick_p ds n f e) (λ v least most. prepared_at) (λ v least most. prepared_at))
    (each-following P ds (operands ds n f e).bus e (tick_p ds n f e) (λ follows v least most. prepared_at)) in
    subst (λ (xs : List Read). All (λ (r : Read). t ≤ r.want) xs) (sym (asked-parts ds n f e))
    (All-append P (fetches_asked ds f e) (data_of ds n f e) fetches others)

ahead-late : (ds : List ℕ) (n t k : ℕ) (i : Option ℕ) (s : Machine) (f : IssueState) → t ≤ f.p → All (λ (r : Read). t ≤ r.want) (asked_ahead ds n k i s f)
unfolding issue_after_entry row_of_entry ahead
ahead-late ds n t zero i s f late = All-nil (λ (r : Read). t ≤ r.want)
ahead-late ds n t (suc k) i s f late =
    let e = entry i s in
    All-append (λ (r : Read). t ≤ r.want) (reads_of_entry ds n f e) (asked_ahead ds n k None (prediction i s) (issue_after_entry ds n f e)) (asked-late ds n t f e late)
    (ahead-late ds n t k None (prediction i s) (issue_after_entry ds n f e) (omega (arith, late, prepared-behind ds n f e)))

behind-late : (ds : List ℕ) (n t k : ℕ) (i : Option ℕ) (s : Machine) (f : IssueState) → t ≤ (row_of_entry ds n f (entry i s)).p
    → All (λ (r : Read). t ≤ r.want) (asked_ahead ds n k None (prediction i s) (issue_after_entry ds n f (entry i s)))
unfolding issue_after_entry row_of_entry
behind-late ds n t k i s f late = ahead-late ds n t k None (prediction i s) (issue_after_entry ds n f (entry i s)) late

-- the reads of entries after the first one that is not prepared before the tick do not affect the
-- reads before it
ahead-made : (ds : List ℕ) (n t k : ℕ) (i : Option ℕ) (s : Machine) (f : IssueState) (issue : List Read) (b : Bus)
    → made_before ds t (issue ++ reads_before ds n t (ahead ds n k i s f)) b ≡ made_before ds t (issue ++ asked_ahead ds n k i s f) b
unfolding ahead reads_before
ahead-made ds n t zero i s f issue b = refl
ahead-made ds n t (suc k) i s f issue b = by (nat_lt (row_of_entry ds n f (entry i s)).p t) refl (ahead-made ds n t k None (prediction i s) (issue_after_entry ds n f (entry i s)) (issue ++ reads_of_entry ds n f (entry i s)) b)
  where
    by : (early : Bool) → nat_lt (row_of_entry ds n f (entry i s)).p t ≡ early
        → made_before ds t ((issue ++ reads_of_entry ds n f (entry i s)) ++ reads_before ds n t (ahead ds n k None (prediction i s) (issue_after_entry ds n f (entry i s)))) b
        ≡ made_before ds t ((issue ++ reads_of_entry ds n f (entry i s)) ++ asked_ahead ds n k None (prediction i s) (issue_after_entry ds n f (entry i s))) b
        → made_before ds t (issue ++ (reads_of_entry ds n f (entry i s)
        ++ (if early then reads_before ds n t (ahead ds n k None (prediction i s) (issue_after_entry ds n f (entry i s))) else []))) b
        ≡ made_before ds t (issue ++ (reads_of_entry ds n f (entry i s) ++ asked_ahead ds n k None (prediction i s) (issue_after_entry ds n f (entry i s)))) b
    by true is rest =
        ap (λ xs. made_before ds t xs b) (sym (append_assoc issue (reads_of_entry ds n f (entry i s)) (reads_before ds n t (ahead ds n k None (prediction i s) (issue_after_entry ds n f (entry i s))))))
        ∙ rest
        ∙ ap (λ xs. made_before ds t xs b) (append_assoc issue (reads_of_entry ds n f (entry i s)) (asked_ahead ds n k None (prediction i s) (issue_after_entry ds n f (entry i s))))
    by false is rest =
        let more = asked_ahead ds n k None (prediction i s) (issue_after_entry ds n f (entry i s)) in
        let late : t ≤ (row_of_entry ds n f (entry i s)).p = ltb-false (row_of_entry ds n f (entry i s)).p t is in
        ap (λ xs. made_before ds t (issue ++ xs) b) (append-nil (reads_of_entry ds n f (entry i s)))
        ∙ sym (made-more ds t (issue ++ reads_of_entry ds n f (entry i s)) more b (behind-late ds n t k i s f late))
        ∙ ap (λ xs. made_before ds t xs b) (append_assoc issue (reads_of_entry ds n f (entry i s)) more)

-- ---- the banks at a completion

banks-first : (ds : List ℕ) (n : ℕ) (o : Opening) (xs : List ExternalEvents) (j : ℕ)
    → banks_behind ds n o xs (suc j) ≡ (made_before ds (issue_at ds n o xs (suc j)).c (reads_of_segment ds n o xs j) o.issue.bus).banks
unfolding banks_behind reads_of_segment reads_after issue_at issue_after_entry row_of_entry
banks-first ds n o xs j =
    let s = state_after o xs j in
    let t = table_behind j o.table in
    let f = issue_at ds n o xs j in
    let e = entry t s in
    let c = (row_of_entry ds n f e).c in
    let first = reads_after ds n o xs j in
    let more = asked_ahead ds n (suc n) None (prediction t s) (issue_after_entry ds n f e) in
    ap (λ (ys : List Read). (made_before ds c ys o.issue.bus).banks)
    (sym (append_assoc first (reads_of_entry ds n f e) (reads_before ds n c (ahead ds n (suc n) None (prediction t s) (issue_after_entry ds n f e)))))
    ∙ ap (λ (b : Bus). b.banks) (ahead-made ds n c (suc n) None (prediction t s) (issue_after_entry ds n f e) (first ++ reads_of_entry ds n f e) o.issue.bus)

pub have-first : (m : Overlap) (made since j : ℕ) (o : Opening) (xs : List ExternalEvents) → IsReached m made since → StandsAt o xs (suc j) m
    → IfSome (closing m.phase) (λ banks. (first : List Read) × AreFirstReads m.delays m.now (reads_of_segment m.delays m.levels o xs j) o.issue.bus first
    × (banks ≡ (bus_after_reads m.delays first o.issue.bus).banks))
have-first m made since j o xs from is = by (closing m.phase) refl is.banks
  where
    by : (c : Option LastAnswers) → closing m.phase ≡ c → IfSome c (λ b. b ≡ banks_behind m.delays m.levels o xs (suc j))
        → IfSome c (λ banks. (first : List Read) × AreFirstReads m.delays m.now (reads_of_segment m.delays m.levels o xs j) o.issue.bus first
        × (banks ≡ (bus_after_reads m.delays first o.issue.bus).banks))
    by None none same = tt
    by (Some banks) some same =
        let at_end = closing-of m.phase banks some in
        let fresh = fresh-of m (kept from) at_end.0 in
        let at : (issue_at m.delays m.levels o xs (suc j)).c ≡ m.now = ap (λ (f : IssueState). f.c) (sym is.issue) ∙ fresh.last at_end.1 in
        let parts = split m.delays m.now (reads_of_segment m.delays m.levels o xs j) o.issue.bus in (
          parts.first,
          parts.are,
          same ∙ banks-first m.delays m.levels o xs j
              ∙ ap (λ (k : ℕ). (made_before m.delays k (reads_of_segment m.delays m.levels o xs j) o.issue.bus).banks) at
              ∙ ap (λ (b : Bus). b.banks) parts.made,
        )
