-- The search for predicted entries, step by step.
use Rattle.st_plain.proofs.Common.{Bool, if◌then◌else◌, map, ◌≡◌, ℕ, zero, suc, ◌+◌, ◌-◌, ◌≤◌, ◌<◌, true, false, List, [], ◌∷◌, ◌++◌, None, get_or, take, refl, sym, subst, ap, ◌∙◌, append_assoc, arith, append-nil, lt-ltb, le-ltb, Machine, Prepared, state_after_completion, predicted_state, prediction, formed_asked, bus_after_reads, Read, no_runs, log_after_reads, row_of_entry, issue_after_entry, bus_a, tick_p, tick_c, preparation_tick, done_before, reads_of_entry, Entry, Made, Past, noted-two, served-append, served-asked, served-formed, IssueState, entry, Bus, seen_ahead, first_late, reads_up_to, Ahead, ahead, next_ahead, prepared_before}
use Rattle.st_exec.proofs.Unchanged.{completed-done}
use Rattle.st_plain.specs.declared.looking.Ahead.{Ahead as SeenAhead}

-- a predicted step is a completion with a new counter
pub record IsCounted (p : Prepared) (s : Machine) : Type 0 where
  pub ic : ℕ
  pub is : predicted_state p s ≡ record (state_after_completion p s) { ic = ic }

counted-by : (b : Bool) (u : Machine) (f : ℕ) → (if b then u else record u { ic = f }) ≡ record u { ic = if b then u.ic else f }
counted-by true u f = refl
counted-by false u f = refl

pub prediction-counted : (p : Prepared) (s : Machine) → IsCounted p s
unfolding predicted_state
prediction-counted p s = record {
  ic = if p.serial then (state_after_completion p s).ic else p.following;
  is = counted-by p.serial (state_after_completion p s) p.following;
}

pub prediction-done : (p : Prepared) (s : Machine) → (predicted_state p s).done ≡ s.done + 1
prediction-done p s = let c = prediction-counted p s in ap (λ (u : Machine). u.done) c.is ∙ completed-done p s

module _ (ds : List ℕ) (n t : ℕ) (s : Machine) (f : IssueState) where
  -- the found entries
  pub found-late : (k : ℕ) → t ≤ (row_of_entry ds n f (entry None s)).p → prepared_before t (ahead ds n k None s f) ≡ []
  unfolding ahead prepared_before
  found-late zero late = refl
  found-late (suc k) late = rw (le-ltb _ t late) refl

  pub found-next : (k : ℕ) → 1 ≤ k → (row_of_entry ds n f (entry None s)).p < t
      → prepared_before t (ahead ds n k None s f)
      ≡ next_ahead ds n None s f ∷ prepared_before t (ahead ds n (k - 1) None (prediction None s) (issue_after_entry ds n f (entry None s)))
  unfolding ahead prepared_before
  found-next zero some early = let no : ⊥ = omega arith in absurd no
  found-next (suc k) some early =
      let one : k ≡ suc k - 1 = omega arith in
      rw (lt-ltb _ t early)
      (ap (λ j. next_ahead ds n None s f ∷ prepared_before t (ahead ds n j None (prediction None s) (issue_after_entry ds n f (entry None s)))) one)

  -- the first entry that is too late
  late-here : (k : ℕ) → t ≤ (row_of_entry ds n f (entry None s)).p → first_late t (ahead ds n (suc k) None s f) ≡ next_ahead ds n None s f ∷ []
  unfolding ahead first_late
  late-here k late = rw (le-ltb _ t late) refl

  late-next : (k : ℕ) → 1 ≤ k → (row_of_entry ds n f (entry None s)).p < t
      → first_late t (ahead ds n (suc k) None s f)
      ≡ first_late t (ahead ds n (suc (k - 1)) None (prediction None s) (issue_after_entry ds n f (entry None s)))
  unfolding ahead first_late
  late-next zero some early = let no : ⊥ = omega arith in absurd no
  late-next (suc k) some early =
      let one : suc k ≡ suc (suc k - 1) = omega arith in
      rw (lt-ltb _ t early) (ap (λ j. first_late t (ahead ds n j None (prediction None s) (issue_after_entry ds n f (entry None s)))) one)

  pub begun-here : (k : ℕ) (x : SeenAhead) → t ≤ (row_of_entry ds n f (entry None s)).p → x ≡ seen_ahead ds n (next_ahead ds n None s f)
      → x ∷ [] ≡ map (seen_ahead ds n) (first_late t (ahead ds n (suc k) None s f))
  begun-here k x late is = ap (λ y. y ∷ []) is ∙ ap (map (seen_ahead ds n)) (sym (late-here k late))

  pub begun-behind : (u : Machine) (g : IssueState) (k : ℕ) (xs : List SeenAhead) → 1 ≤ k → (row_of_entry ds n f (entry None s)).p < t
      → u ≡ prediction None s → g ≡ issue_after_entry ds n f (entry None s)
      → xs ≡ map (seen_ahead ds n) (first_late t (ahead ds n (suc (k - 1)) None u g))
      → xs ≡ map (seen_ahead ds n) (first_late t (ahead ds n (suc k) None s f))
  begun-behind u g k xs some early next behind rest =
      rest
      ∙ ap (λ v. map (seen_ahead ds n) (first_late t (ahead ds n (suc (k - 1)) None v g))) next
      ∙ ap (λ h. map (seen_ahead ds n) (first_late t (ahead ds n (suc (k - 1)) None (prediction None s) h))) behind
      ∙ ap (map (seen_ahead ds n)) (sym (late-next k some early))

  -- the reads
  pub looked-late : (k : ℕ) → t ≤ (row_of_entry ds n f (entry None s)).p → reads_up_to ds n t (ahead ds n (suc k) None s f) ≡ formed_asked ds f (entry None s)
  unfolding ahead reads_up_to
  looked-late k late = rw (le-ltb _ t late) refl

  pub looked-next : (k : ℕ) → 1 ≤ k → (row_of_entry ds n f (entry None s)).p < t
      → reads_up_to ds n t (ahead ds n (suc k) None s f)
      ≡ reads_of_entry ds n f (entry None s) ++ reads_up_to ds n t (ahead ds n (suc (k - 1)) None (prediction None s) (issue_after_entry ds n f (entry None s)))
  unfolding ahead reads_up_to
  looked-next zero some early = let no : ⊥ = omega arith in absurd no
  looked-next (suc k) some early =
      let one : suc k ≡ suc (suc k - 1) = omega arith in
      rw (lt-ltb _ t early)
      (ap (λ j. reads_of_entry ds n f (entry None s) ++ reads_up_to ds n t (ahead ds n j None (prediction None s) (issue_after_entry ds n f (entry None s)))) one)

-- the results of a search
pub found-same : (ds : List ℕ) (n : ℕ) (xs : List SeenAhead) (ys : List Ahead) → ys ≡ [] → xs ≡ xs ++ map (seen_ahead ds n) ys
found-same ds n xs ys none = rw none (sym (append-nil xs))

module _ (ds : List ℕ) (n t : ℕ) (s : Machine) (f : IssueState) where
  pub found-look : (u : Machine) (g : IssueState) (k : ℕ) (xs ys ws : List SeenAhead) (x : SeenAhead) → 1 ≤ k → (row_of_entry ds n f (entry None s)).p < t
      → x ≡ seen_ahead ds n (next_ahead ds n None s f) → u ≡ prediction None s → g ≡ issue_after_entry ds n f (entry None s) → ys ≡ xs ++ x ∷ []
      → ws ≡ ys ++ map (seen_ahead ds n) (prepared_before t (ahead ds n (k - 1) None u g))
      → ws ≡ xs ++ map (seen_ahead ds n) (prepared_before t (ahead ds n k None s f))
  found-look u g k xs ys ws x some early is next behind one rest =
      let later : List SeenAhead = map (seen_ahead ds n) (prepared_before t (ahead ds n (k - 1) None (prediction None s) (issue_after_entry ds n f (entry None s)))) in
      rest
      ∙ ap (λ v. ys ++ map (seen_ahead ds n) (prepared_before t (ahead ds n (k - 1) None v g))) next
      ∙ ap (λ h. ys ++ map (seen_ahead ds n) (prepared_before t (ahead ds n (k - 1) None (prediction None s) h))) behind
      ∙ ap (λ l. l ++ later) one
      ∙ append_assoc xs (x ∷ []) later
      ∙ ap (λ y. xs ++ y ∷ later) is
      ∙ ap (λ l. xs ++ map (seen_ahead ds n) l) (sym (found-next ds n t s f k some early))

  -- nothing is read after the entry that is too late
  pub bus-late : (k : ℕ) (b : Bus) → t ≤ (row_of_entry ds n f (entry None s)).p → b ≡ bus_a ds f (entry None s)
      → b ≡ bus_after_reads ds (reads_up_to ds n t (ahead ds n (suc k) None s f)) f.bus
  bus-late k b late is =
      is ∙ sym (ap (λ reads. bus_after_reads ds reads f.bus) (looked-late ds n t s f k late) ∙ served-formed ds f (entry None s))

  pub log-late : (k : ℕ) (log new : List Made) → t ≤ (row_of_entry ds n f (entry None s)).p → new ≡ log_after_reads ds (formed_asked ds f (entry None s)) f.bus log
      → new ≡ log_after_reads ds (reads_up_to ds n t (ahead ds n (suc k) None s f)) f.bus log
  log-late k log new late is = is ∙ ap (λ reads. log_after_reads ds reads f.bus log) (sym (looked-late ds n t s f k late))

  module _ (u : Machine) (g : IssueState) (k : ℕ) (some : 1 ≤ k) (early : (row_of_entry ds n f (entry None s)).p < t) (next : u ≡ prediction None s)
      (behind : g ≡ issue_after_entry ds n f (entry None s)) where
    here : List Read
    here = reads_of_entry ds n f (entry None s)

    later : List Read
    later = reads_up_to ds n t (ahead ds n (suc (k - 1)) None u g)

    all : reads_up_to ds n t (ahead ds n (suc k) None s f) ≡ here ++ later
    unfolding here later
    all =
        looked-next ds n t s f k some early
        ∙ ap (λ v. reads_of_entry ds n f (entry None s) ++ reads_up_to ds n t (ahead ds n (suc (k - 1)) None v (issue_after_entry ds n f (entry None s)))) (sym next)
        ∙ ap (λ h. reads_of_entry ds n f (entry None s) ++ reads_up_to ds n t (ahead ds n (suc (k - 1)) None u h)) (sym behind)

    bus : g.bus ≡ bus_after_reads ds here f.bus
    unfolding here
    bus = ap (λ (h : IssueState). h.bus) behind ∙ sym (served-asked ds n f (entry None s))

    pub bus-look : (b : Bus) → b ≡ bus_after_reads ds (reads_up_to ds n t (ahead ds n (suc (k - 1)) None u g)) g.bus
        → b ≡ bus_after_reads ds (reads_up_to ds n t (ahead ds n (suc k) None s f)) f.bus
    unfolding later
    bus-look b is =
        is
        ∙ ap (bus_after_reads ds later) bus
        ∙ sym (served-append ds here later f.bus)
        ∙ ap (λ reads. bus_after_reads ds reads f.bus) (sym all)

    pub log-look : (log one two : List Made) → one ≡ log_after_reads ds (reads_of_entry ds n f (entry None s)) f.bus log
        → two ≡ log_after_reads ds (reads_up_to ds n t (ahead ds n (suc (k - 1)) None u g)) g.bus one
        → two ≡ log_after_reads ds (reads_up_to ds n t (ahead ds n (suc k) None s f)) f.bus log
    unfolding here later
    log-look log one two made rest =
        rest ∙ noted-two ds here later f.bus g.bus log one bus made ∙ ap (λ reads. log_after_reads ds reads f.bus log) (sym all)

-- ---- at most as many entries are prepared in time as there are levels

get-take : (n j : ℕ) (d : Past) (xs : List Past) → j < n → get_or (take n xs) j d ≡ get_or xs j d
get-take zero j d xs few = let no : ⊥ = omega (arith, few) in absurd no
get-take (suc n) j d [] few = refl
get-take (suc n) zero d (x ∷ xs) few = refl
get-take (suc n) (suc j) d (x ∷ xs) few = get-take n j d xs (omega (arith, few))

done-at : (i : ℕ) (past : List Past) → done_before (suc i) past ≡ (get_or past i (record { c = 0; writes = no_runs })).c
done-at i past = let e : suc i - 1 ≡ i = omega arith in ap (λ j. (get_or past j (record { c = 0; writes = no_runs })).c) e

pub first-next : (ds : List ℕ) (n levels more t : ℕ) (f g : IssueState) (e : Entry) → levels ≤ 8 → 1 ≤ more → more ≤ levels → t ≤ f.c → f.c < g.c
    → (more < levels → t ≤ done_before (levels - more) f.past) → g ≡ issue_after_entry ds n f e → more - 1 < levels → t ≤ done_before (levels - (more - 1)) g.past
unfolding issue_after_entry
first-next ds n levels more t f g e eight some few early rises first behind less = by_place (levels - more) refl
  where
    by_place : (j : ℕ) → levels - more ≡ j → t ≤ done_before (levels - (more - 1)) g.past
    by_place zero is =
        let one : levels - (more - 1) ≡ 1 = omega (arith, some, few, is) in
        let c : g.c ≡ (issue_after_entry ds n f e).c = ap (λ (h : IssueState). h.c) behind in
        rw (one, behind) (omega (arith, early, rises, c))
    by_place (suc j) is =
        let two : levels - (more - 1) ≡ suc (suc j) = omega (arith, some, few, is) in
        let known : t ≤ done_before (suc j) f.past = subst (λ i. t ≤ done_before i f.past) is (first (omega (arith, is))) in
        let there : t ≤ (get_or f.past j (record { c = 0; writes = no_runs })).c = subst (λ v. t ≤ v) (done-at j f.past) known in
        let kept : t ≤ (get_or (issue_after_entry ds n f e).past (suc j) (record { c = 0; writes = no_runs })).c =
        subst (λ (x : Past). t ≤ x.c) (sym (get-take 7 j (record { c = 0; writes = no_runs }) f.past (omega (arith, eight, is, some)))) there in
        let at : t ≤ done_before (suc (suc j)) (issue_after_entry ds n f e).past = subst (λ v. t ≤ v) (sym (done-at (suc j) (issue_after_entry ds n f e).past)) kept in
        subst (λ i. t ≤ done_before i g.past) (sym two) (subst (λ (h : IssueState). t ≤ done_before (suc (suc j)) h.past) (sym behind) at)

-- the entry after the last level is too late
pub last-late : (ds : List ℕ) (n more t : ℕ) (f : IssueState) (e : Entry) → more ≡ 0 → 1 ≤ n → (more < n → t ≤ done_before (n - more) f.past) → t ≤ tick_p ds n f e
unfolding tick_p preparation_tick
last-late ds n more t f e none some first =
    let all : n - more ≡ n = omega (arith, none) in
    let known : t ≤ done_before n f.past = subst (λ i. t ≤ done_before i f.past) all (first (omega (arith, none, some))) in
    omega (arith, known)

pub some-more : (ds : List ℕ) (n more t : ℕ) (f : IssueState) (e : Entry) → 1 ≤ n → (more < n → t ≤ done_before (n - more) f.past) → tick_p ds n f e < t → 1 ≤ more
some-more ds n zero t f e some first early =
    let late = last-late ds n zero t f e refl some first in
    let no : ⊥ = omega (arith, late, early) in absurd no
some-more ds n (suc more) t f e some first early = omega arith

pub row-p : (ds : List ℕ) (n : ℕ) (f : IssueState) (e : Entry) → (row_of_entry ds n f e).p ≡ tick_p ds n f e
unfolding row_of_entry
row-p ds n f e = refl

pub after-c : (ds : List ℕ) (n : ℕ) (f : IssueState) (e : Entry) → (issue_after_entry ds n f e).c ≡ tick_c ds n f e
unfolding issue_after_entry
after-c ds n f e = refl
