-- The look-ahead after the next entry has become a level.
use Rattle.st_ahead.proofs.Common.{All, if◌then◌else◌, ◌==◌, ◌≡◌, ℕ, suc, ◌+◌, ◌<◌, ◌≤◌, ◌||◌, max, Bool, true, false, not, List, [], ◌∷◌, ◌++◌, length, Option, None, refl, sym, subst, ◌∙◌, ap, arith, append-nil, All-append, All-cons, All-nil, Machine, place_of, plan, Prepared, formed_asked, prepared_asked, Read, log_after_reads, IsLogged, IsTight, issue_after_entry, wanted_from, tick_p, reads_of_entry, Entry, IssueState, two-parts, Level, entry, predictions, table_behind, AreAhead, AreNotDone, reads_so_far, new-next, new-rests, new-reads, LookaheadView, IsNextIf, count, is_open, asked_ahead, reads_ahead, IsGoing, BecomesLevel}
use Rattle.st_prep.proofs.GivenLemmas.{differs}
use Rattle.st_ahead.proofs.Further.{bus-ahead, logged-more}
use Rattle.st_ahead.proofs.Due.{reads-formed}
use Rattle.st_ahead.proofs.Served.{asked-more}

-- ---- the entry after the new level

place-behind : (k : Option ℕ) (u : Machine) (following : ℕ) → k ≡ None → u.ic ≡ following
    → record { counter = following; address = following; table = None } ≡ place_of u k
unfolding place_of
place-behind k u following table counter = rw (table, counter) refl

open-pushed : (first alone b : Bool) → first ≡ false → (first || not alone) ≡ b → alone ≡ not b
open-pushed true alone b some is = absurd (cc some)
open-pushed false true true some is = absurd (cc is)
open-pushed false true false some is = refl
open-pushed false false true some is = refl
open-pushed false false false some is = absurd (cc is)

wanted-alone : (alone : Bool) (p c : ℕ) → alone ≡ false → (if alone then max p c else p) ≡ p
wanted-alone false p c is = refl
wanted-alone true p c is = absurd (cc is)

module _ (ds : List ℕ) (n now : ℕ) (t : Option ℕ) (s : Machine) (f : IssueState) (v w : LookaheadView) where
  abbrev k : Option ℕ
  k = table_behind (count v) t

  abbrev u : Machine
  u = predictions (count v) t s

  next-pushed : (p : Prepared) → p ≡ plan u k → count w ≡ suc (count v) → w.issue.serial ≡ p.serial → w.issue.p ≡ now
      → w.next.place ≡ record { counter = p.following; address = p.following; table = None }
      → w.next.planned ≡ false → w.next.entry.own ≡ record { first = 0; len = 0 } → w.next.entry.target ≡ record { first = 0; len = 0 }
      → w.next.words ≡ record { bus = w.issue.bus; answered = 0; awaited = 0 }
      → ((plan u k).serial ≡ false → (predictions (suc (count v)) t s).ic ≡ (plan u k).following)
      → IsNextIf (is_open w) ds n now t s w
  next-pushed p is counted serial ticked place unplanned own target words counter = by-open (is_open w) refl
    where
      by-open : (b : Bool) → is_open w ≡ b → IsNextIf b ds n now t s w
      by-open false opened = (unplanned, own, target, words)
      by-open true opened =
          let alone : w.issue.serial ≡ false =
          open-pushed (count w == 0) w.issue.serial true (differs (count w) 0 (λ none. omega (arith, none, counted))) opened in
          let free : (plan u k).serial ≡ false = sym (ap (λ (x : Prepared). x.serial) is) ∙ sym serial ∙ alone in
          let table : table_behind (count w) t ≡ None = ap (λ j. table_behind j t) counted in
          let ic : (predictions (count w) t s).ic ≡ p.following =
          ap (λ j. (predictions j t s).ic) counted ∙ counter free ∙ sym (ap (λ (x : Prepared). x.following) is) in
          let from : wanted_from w.issue ≡ w.issue.p = wanted-alone w.issue.serial w.issue.p w.issue.c alone in (
            new-next ds n (table_behind (count w) t) (predictions (count w) t s) w.issue w.next
                (place ∙ place-behind (table_behind (count w) t) (predictions (count w) t s) p.following table ic) own target words unplanned,
            new-rests now (table_behind (count w) t) (predictions (count w) t s) w.issue w.next unplanned (omega (arith, from, ticked)),
          )

  -- ---- the look-ahead

  logged-pushed : IsGoing ds n now (now + 1) t s f v → BecomesLevel ds n now t s f v → v.next.planned ≡ true
      → count w ≡ suc (count v) → reads_so_far ds w.issue w.next ≡ []
      → w.log ≡ log_after_reads ds (prepared_asked ds n v.issue v.next.entry) v.next.words.bus v.log
      → IsLogged ds f.bus.free (reads_ahead ds n t s f w) f.bus w.log
  logged-pushed is becomes planned counted none kept =
      let x = v.next.entry in
      let so_far = asked_ahead ds n (count v) t s f in
      let added = prepared_asked ds n v.issue x in
      let formed : reads_so_far ds v.issue v.next ≡ formed_asked ds v.issue x =
      reads-formed ds n k u v.issue v.next (becomes.is_next.planned planned) planned ∙ ap (formed_asked ds v.issue) (sym (becomes.is_next.planned planned).entry) in
      let parts : reads_of_entry ds n v.issue x ≡ reads_so_far ds v.issue v.next ++ added =
      two-parts ds n v.issue x ∙ ap (λ l. l ++ added) (sym formed) in
      let logged = logged-more ds f.bus.free so_far (reads_so_far ds v.issue v.next) (reads_of_entry ds n v.issue x) added f.bus v.next.words.bus v.log w.log parts
      (bus-ahead ds n now (now + 1) t s f v is.next is.ahead) kept is.logged in
      let list : so_far ++ reads_of_entry ds n v.issue x ≡ reads_ahead ds n t s f w =
      ap (λ y. so_far ++ reads_of_entry ds n v.issue y) (becomes.is_next.planned planned).entry
      ∙ sym (asked-more ds n now t k s u f v.issue v.levels.ring v.levels.plans refl refl is.ahead.levels)
      ∙ ap (λ j. asked_ahead ds n j t s f) (sym counted)
      ∙ sym (append-nil (asked_ahead ds n (count w) t s f))
      ∙ ap (λ l. asked_ahead ds n (count w) t s f ++ l) (sym none) in
      subst (λ (l : List Read). IsLogged ds f.bus.free l f.bus w.log) list logged

  pub going-pushed : (level : Level) (p : Prepared) → IsGoing ds n now (now + 1) t s f v → BecomesLevel ds n now t s f v
      → v.next.planned ≡ true → v.next.formed.p ≡ now
      → w.levels.ring ≡ v.levels.ring ++ level ∷ [] → level.p ≡ now → AreNotDone now w.levels
      → AreAhead ds n now t s f w.issue w.levels → w.issue ≡ issue_after_entry ds n v.issue v.next.entry → IsTight 255 w.issue → w.issue.c ≤ v.issue.c + 16576
      → p ≡ plan u k
      → w.next.place ≡ record { counter = p.following; address = p.following; table = None }
      → w.next.planned ≡ false → w.next.entry.own ≡ record { first = 0; len = 0 } → w.next.entry.target ≡ record { first = 0; len = 0 }
      → w.next.words ≡ record { bus = w.issue.bus; answered = 0; awaited = 0 }
      → w.log ≡ log_after_reads ds (prepared_asked ds n v.issue v.next.entry) v.next.words.bus v.log
      → ((plan u k).serial ≡ false → (predictions (suc (count v)) t s).ic ≡ (plan u k).following)
      → IsGoing ds n now now t s f w
  unfolding issue_after_entry entry
  going-pushed level p is becomes planned due ring level_p not_done ahead issue tight bound plan_is place unplanned own target words kept counter =
      let counted : count w ≡ suc (count v) = ap length ring ∙ length-more v.levels.ring level in
      let ticked : w.issue.p ≡ now = ap (λ (g : IssueState). g.p) issue ∙ ap (tick_p ds n v.issue) (becomes.is_next.planned planned).entry ∙ sym (becomes.is_next.planned planned).tick ∙ due in
      let serial : w.issue.serial ≡ p.serial =
      ap (λ (g : IssueState). g.serial) issue ∙ ap (λ (x : Entry). x.serial) (becomes.is_next.planned planned).entry ∙ sym (ap (λ (x : Prepared). x.serial) plan_is) in
      record {
        machine = is.machine;
        indicator = is.indicator;
        ahead = ahead;
        prepared =
            subst (λ (l : List Level). All (λ x. x.p < now + 1) l) (sym ring)
            (All-append (λ (x : Level). x.p < now + 1) v.levels.ring (level ∷ []) is.prepared
            (All-cons (λ (x : Level). x.p < now + 1) level [] (omega (arith, level_p)) (All-nil (λ (x : Level). x.p < now + 1))));
        not_done = not_done;
        oldest = is.oldest;
        tight = tight;
        start = is.start;
        early = omega (arith, bound, is.early, counted);
        next = next-pushed p plan_is counted serial ticked place unplanned own target words counter;
        late = λ is_planned. absurd (cc (is_planned, unplanned));
        logged = logged-pushed is becomes planned counted (new-reads ds w.issue w.next own target unplanned) kept;
      }
    where
      length-more : (l : List Level) (x : Level) → length (l ++ x ∷ []) ≡ suc (length l)
      length-more [] x = refl
      length-more (y ∷ l) x = ap suc (length-more l x)
