-- Lemmas on the facts about a completed entry.
use Rattle.st_account.proofs.Common.{Bool, if◌then◌else◌, nat_lt, map, ◌≡◌, ℕ, zero, suc, ◌≤◌, true, false, List, [], ◌∷◌, ◌++◌, length, take, Option, None, refl, sym, ◌∙◌, ap, subst, arith, Machine, plan, state_after_execution, predicted_state, prediction, is_mispredicted, interrupt, step, nat_tests, accept_at, Read, formed_asked, prepared_asked, bus_after_reads, made_before, log_after_reads, IsLogged, AreDelaysUpTo, IsEntryInTime, IsTight, opening_issue, tick_a, tick_p, row_of_entry, issue_after_entry, reads_of_entry, Made, logged-noted, two-parts, free-formed, issue-done, served-asked, served-formed, later-r, later-c, Bus, Entry, IssueState, EntryTicks, Past, entry, Ahead, ahead, prepared_before, Scene, Standing, moment_at_start, next_row, next_moment, length-map, nil_from_length, seen_ahead, first_late, formed_uses, Use, because, StallCause, Last, predicting, HasReads, IsLast, IsStanding}
use Rattle.st_rows.proofs.NoteLemmas.{opened-log}
use Rattle.st_banks.specs.Bank.{idle_banks}
use Rattle.std.proofs.lemmas.List.{length-append}
use Rattle.std.proofs.Math.Seq.{take-append_seam}
use Rattle.st_prep.proofs.Choices.{of_choice}
use Rattle.st_plain.specs.declared.looking.Ahead.{Ahead as SeenAhead}
use Rattle.st_account.proofs.ReadLemmas.{few-prepared}

-- ---- the start

not-before : (t : ℕ) → nat_lt t 0 ≡ false
not-before t = grind (arith, nat_tests)

none-prepared : (xs : List Ahead) → prepared_before 0 xs ≡ []
unfolding prepared_before
none-prepared [] = refl
none-prepared (a ∷ xs) = rw (not-before a.row.p) refl

none-made : (ds : List ℕ) (reads : List Read) (b : Bus) → made_before ds 0 reads b ≡ b
unfolding made_before
none-made ds [] b = refl
none-made ds (r ∷ reads) b = rw (not-before (accept_at b r.w r.want)) refl

no-reads : (ds : List ℕ) (b : Bus) → bus_after_reads ds [] b ≡ b
unfolding bus_after_reads
no-reads ds b = refl

pub start-last : (ds : List ℕ) (n : ℕ) (c : Scene) (l : Last) (log : List Made) → l.tick ≡ 0 → l.issue ≡ opening_issue idle_banks 0 → l.done.mispredicted ≡ false
    → l.ic ≡ c.machine.ic → log ≡ [] → IsTight 255 l.issue → IsLast ds n (moment_at_start c) l log
start-last ds n c l log tick issue mispredicted ic none tight = record {
  tick = sym tick;
  issue = sym issue;
  mispredicted = sym mispredicted;
  dropped = rw tick (sym (none-prepared _));
  reads = [];
  bus = l.issue.bus;
  has = record {
    logged = rw none (opened-log ds l.tick l.issue.bus);
    leaves = no-reads ds l.issue.bus;
    first = [];
    rest = [];
    parts = refl;
    few = omega arith;
    early = rw (no-reads ds l.issue.bus, issue, tick) (omega arith);
    near = tight.near;
    free = rw (issue, tick) (omega arith);
  };
  banks = rw (tick, issue) (ap (λ (b : Bus). b.banks) (sym (none-made ds _ _)));
}

-- ---- the next entry

-- the predicted state is the completed state except for the instruction counter
prediction-counter : (t : Option ℕ) (s : Machine) (ic : ℕ)
    → ic ≡ (if (plan s t).serial then (state_after_execution t s).ic else (plan s t).following) → predicting ic (state_after_execution t s) ≡ prediction t s
unfolding predicted_state
prediction-counter t s ic is = by_test (plan s t).serial (state_after_execution t s) ic (plan s t).following is
  where
    by_test : (b : Bool) (u : Machine) (ic following : ℕ) → ic ≡ (if b then u.ic else following)
        → predicting ic u ≡ (if b then u else record u { ic = following })
    by_test true u ic following is = rw is refl
    by_test false u ic following is = rw is refl

pub prediction-is : (t : Option ℕ) (s u : Machine) (ic : ℕ) → u ≡ state_after_execution t s → ic ≡ (if (plan s t).serial then u.ic else (plan s t).following)
    → predicting ic u ≡ prediction t s
prediction-is t s u ic made is =
    ap (predicting ic) made ∙ prediction-counter t s ic (is ∙ ap (λ v. if (plan s t).serial then v.ic else (plan s t).following) made)

-- the reads of the last completed entry
pub has-reads : (ds : List ℕ) → AreDelaysUpTo 255 ds → (n : ℕ) (f g : IssueState) (e : Entry) (log : List Made) (t : ℕ) → IsEntryInTime e → IsTight 255 f → t ≡ (row_of_entry ds n f e).c
    → g ≡ issue_after_entry ds n f e → log ≡ log_after_reads ds (reads_of_entry ds n f e) f.bus [] → HasReads ds t (reads_of_entry ds n f e) f.bus g.bus log
unfolding row_of_entry
has-reads ds are n f g e log t range tight at behind is =
    let free : f.bus.free ≤ t = omega (arith, at, issue-done 255 ds are n f e range tight) in
    let formed = ap (λ (b : Bus). b.free) (served-formed ds f e) in
    record {
      logged = subst (λ (l : List Made). IsLogged ds t (reads_of_entry ds n f e) f.bus l) (sym is)
          (rw (no-reads ds f.bus) at (logged-noted ds t [] (reads_of_entry ds n f e) f.bus [] (opened-log ds t f.bus)));
      leaves = served-asked ds n f e ∙ ap (λ (h : IssueState). h.bus) (sym behind);
      first = formed_asked ds f e;
      rest = prepared_asked ds n f e;
      parts = two-parts ds n f e;
      few = few-prepared ds n f e range;
      early = omega (arith, at, formed, free-formed 255 ds are n f e range tight, later-r 255 ds are n f e range tight, (later-c 255 ds are n f e range tight).1);
      near = tight.near;
      free = free;
    }

pub next-last : (ds : List ℕ) (are : AreDelaysUpTo 255 ds) (n : ℕ) (p : Standing) (s u : Machine) (l k : Last) (log : List Made) → IsStanding p s l → IsTight 255 l.issue
    → IsEntryInTime (entry (interrupt s) s)
    → u ≡ step s → predicting k.ic u ≡ prediction (interrupt s) s
    → k.tick ≡ (row_of_entry ds n l.issue (entry (interrupt s) s)).c → k.issue ≡ issue_after_entry ds n l.issue (entry (interrupt s) s)
    → k.done.mispredicted ≡ is_mispredicted (plan s (interrupt s)) s → log ≡ log_after_reads ds (reads_of_entry ds n l.issue (entry (interrupt s) s)) l.issue.bus []
    → IsLast ds n (next_moment ds n p) k log
unfolding next_moment next_row
next-last ds are n p s u l k log is tight fits made prediction_is tick issue mispredicted reads =
    let e = entry (interrupt s) s in
    let machine = is.machine in
    record {
      tick = rw (machine, is.issue) (sym tick);
      issue = rw (machine, is.issue) (sym issue);
      mispredicted = rw machine (sym mispredicted);
      dropped = rw (machine, is.issue, tick, issue, sym made, prediction_is) refl;
      reads = reads_of_entry ds n l.issue e;
      bus = l.issue.bus;
      has = has-reads ds are n l.issue k.issue e log k.tick fits tight tick issue reads;
      banks = rw (machine, is.issue, tick, issue, sym made, prediction_is) refl;
    }

-- ---- entries that ran ahead

ahead-few : (ds : List ℕ) (n k : ℕ) (t : Option ℕ) (s : Machine) (f : IssueState) → length (ahead ds n k t s f) ≤ k
unfolding ahead
ahead-few ds n zero t s f = omega arith
ahead-few ds n (suc k) t s f =
    let rest = ahead-few ds n k None (prediction t s) (issue_after_entry ds n f (entry t s)) in
    omega arith

prepared-few : (t : ℕ) (xs : List Ahead) → length (prepared_before t xs) ≤ length xs
unfolding prepared_before
prepared-few t [] = omega arith
prepared-few t (a ∷ rest) =
    let few = prepared-few t rest in
    of_choice (λ xs. length xs ≤ suc (length rest)) (nat_lt a.row.p t) (a ∷ prepared_before t rest) [] (omega arith) (omega arith)

pub few-found : (ds : List ℕ) (n t k : ℕ) (s : Machine) (f : IssueState) (old new : List SeenAhead) → length old ≡ 0 → k ≤ 8
    → new ≡ old ++ map (seen_ahead ds n) (prepared_before t (ahead ds n k None s f)) → length new ≤ 8
few-found ds n t k s f old new none few is =
    let found = prepared_before t (ahead ds n k None s f) in
    omega (arith, ap length is ∙ length-append old (map (seen_ahead ds n) found), length-map found (seen_ahead ds n), none, few, prepared-few t (ahead ds n k None s f), ahead-few ds n k None s f)

-- the same entries are found from an equal state and an equal issue state
module _ (ds : List ℕ) (n t k : ℕ) (s u : Machine) (f g : IssueState) (state : u ≡ s) (issue : g ≡ f) where
  pub found-is : (old new : List SeenAhead) → length old ≡ 0 → new ≡ old ++ map (seen_ahead ds n) (prepared_before t (ahead ds n k None u g))
      → new ≡ map (seen_ahead ds n) (prepared_before t (ahead ds n k None s f))
  found-is old new none is =
      is
      ∙ ap (λ xs. xs ++ map (seen_ahead ds n) (prepared_before t (ahead ds n k None u g))) (nil_from_length old none)
      ∙ ap (λ v. map (seen_ahead ds n) (prepared_before t (ahead ds n k None v g))) state
      ∙ ap (λ h. map (seen_ahead ds n) (prepared_before t (ahead ds n k None s h))) issue

  pub late-is : (late : List SeenAhead) → late ≡ map (seen_ahead ds n) (first_late t (ahead ds n k None u g))
      → late ≡ map (seen_ahead ds n) (first_late t (ahead ds n k None s f))
  late-is late is =
      is
      ∙ ap (λ v. map (seen_ahead ds n) (first_late t (ahead ds n k None v g))) state
      ∙ ap (λ h. map (seen_ahead ds n) (first_late t (ahead ds n k None s h))) issue

-- the last entries after one more entry
pub past-kept : (ds : List ℕ) (n : ℕ) (f : IssueState) (e : Entry) (r : EntryTicks) (old new : List Past) (g : IssueState) → old ≡ f.past → r ≡ row_of_entry ds n f e
    → new ≡ record { c = r.c; writes = e.writes } ∷ take 7 old → g ≡ issue_after_entry ds n f e → new ≡ g.past
unfolding row_of_entry issue_after_entry
past-kept ds n f e r old new g same is kept behind = rw (behind, kept, is, same) refl

-- the words before more words come
pub first-few : (n : ℕ) (us ws more words begun : List Use) → us ≡ begun → ws ≡ begun ++ more → n ≡ length us → words ≡ ws → n ≤ length words
first-few n us ws more words begun is more_is size same = rw (size, is, same, more_is, length-append begun more) (omega arith)

pub first-words : (n : ℕ) (us ws more words begun : List Use) → us ≡ begun → ws ≡ begun ++ more → n ≡ length us → words ≡ ws → take n words ≡ begun
first-words n us ws more words begun is more_is size same = rw (size, is, same, more_is) (take-append_seam begun more)

-- the cause that delayed the entry, by its row
pub because-made : (ds : List ℕ) (n : ℕ) (f : IssueState) (e x : Entry) (side s : Option ℕ) (row : EntryTicks) (a p wait : ℕ) (none begun us bs cs : List Use)
    (why : StallCause) → none ≡ [] → begun ≡ none ++ formed_uses ds f e side → us ≡ begun → bs ≡ cs → e ≡ x → side ≡ s → row ≡ row_of_entry ds n f e
    → a ≡ tick_a ds f e → p ≡ tick_p ds n f e → why ≡ because f e a p wait us bs → why ≡ because f x row.a row.p wait (formed_uses ds f x s) cs
unfolding row_of_entry
because-made ds n f e x side s row a p wait none begun us bs cs why is_none is_begun same_uses same_before same_entry same_side is_row is_a is_p is_why =
    is_why
    ∙ ap (λ y. because f e y p wait us bs) (is_a ∙ ap (λ (t : EntryTicks). t.a) (sym is_row))
    ∙ ap (λ y. because f e row.a y wait us bs) (is_p ∙ ap (λ (t : EntryTicks). t.p) (sym is_row))
    ∙ ap (λ ws. because f e row.a row.p wait ws bs) (same_uses ∙ is_begun ∙ ap (λ ws. ws ++ formed_uses ds f e side) is_none)
    ∙ ap (λ ws. because f e row.a row.p wait (formed_uses ds f e side) ws) same_before
    ∙ ap (λ y. because f y row.a row.p wait (formed_uses ds f y side) cs) same_entry
    ∙ ap (λ o. because f x row.a row.p wait (formed_uses ds f x o) cs) same_side
