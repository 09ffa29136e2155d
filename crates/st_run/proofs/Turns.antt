-- The recursion of a timed run: it ends, or an entry completes, with snapshots before it.
use Rattle.st_run.proofs.Common.{◌≡◌, ◌≢◌, ℕ, zero, suc, ◌+◌, ◌-◌, ◌<◌, ◌≤◌, true, false, List, [], ◌∷◌, ◌++◌, Option, refl, sym, ◌∙◌, ap, arith, append_assoc, take, drop, length, take-append-drop, drop-drop, lt-ltb, le-ltb, Machine, index_words, rests, interrupt, LastAnswers, opening_issue, row_of_entry, address_tick, preparation_tick, tick_a, tick_p, entry, ahead, prepared_before, split_words, Timed, Shows, with_index_words, snapshot, Moment, Standing, next_state, ends_segment, next_segment, next_issue, standing_at, entries_at_moment, next_moment, ticks_before, snapshots_from, snapshot_at, events_between, completion, until_done, last_events, timed_from, timed_behind}
use Rattle.st_run.proofs.CourseLemmas.{next-same, timed-none, timed-step, timed-later}

-- ---- one entry

-- all snapshots are at or after the moment
abbrev AreToCome : Moment → List ℕ → Type 0
AreToCome m snaps = snapshots_from m.tick snaps ≡ snaps

-- a machine at rest ends the run
pub timed-rests : (ds : List ℕ) (n left : ℕ) (m : Moment) (snaps : List ℕ) → AreToCome m snaps → rests (next_state m) ≡ true
    → timed_from ds n left m snaps ≡ last_events m snaps
timed-rests ds n zero m snaps come h = timed-none ds n m snaps ∙ ap (last_events m) come
timed-rests ds n (suc left) m snaps come h = timed-step ds n left m snaps ∙ (rw h (ap (last_events m) come))

-- a budget that is used up ends the run
pub timed-budget : (ds : List ℕ) (n left : ℕ) (m : Moment) (snaps : List ℕ) → AreToCome m snaps → left ≡ 0
    → timed_from ds n left m snaps ≡ last_events m snaps
timed-budget ds n zero m snaps come h = timed-none ds n m snaps ∙ ap (last_events m) come
timed-budget ds n (suc left) m snaps come h = absurd (omega arith)

-- otherwise the next entry completes
goes_on-some : (ds : List ℕ) (n left : ℕ) (m : Moment) (snaps : List ℕ) → AreToCome m snaps → rests (next_state m) ≡ false
    → timed_from ds n (suc left) m snaps ≡ events_between m ++ timed_behind ds n left (standing_at m) snaps
goes_on-some ds n left m snaps come h =
    let p = standing_at m in
    let rest = timed_from ds n left (next_moment ds n p) snaps in
    timed-step ds n left m snaps
    ∙ (rw h (append_assoc (events_between m) (until_done ds n p (snapshots_from m.tick snaps)) rest))
    ∙ ap (λ (xs : List ℕ). events_between m ++ (until_done ds n p xs ++ rest)) come

pub timed-goes_on : (ds : List ℕ) (n left : ℕ) (m : Moment) (snaps : List ℕ) → AreToCome m snaps → left ≢ 0 → rests (next_state m) ≡ false
    → timed_from ds n left m snaps ≡ events_between m ++ timed_behind ds n (left - 1) (standing_at m) snaps
timed-goes_on ds n zero m snaps come some h = absurd (some refl)
timed-goes_on ds n (suc left) m snaps come some h =
    let same : left ≡ suc left - 1 = omega arith in
    goes_on-some ds n left m snaps come h ∙ ap (λ k. events_between m ++ timed_behind ds n k (standing_at m) snaps) same

-- ---- before a completion

-- a snapshot before the completion is the next event
pub behind-snapshot : (ds : List ℕ) (n left : ℕ) (p : Standing) (x : ℕ) (xs : List ℕ) → x < (next_moment ds n p).tick
    → timed_behind ds n left p (x ∷ xs) ≡ snapshot_at ds n p x ∷ timed_behind ds n left p xs
unfolding until_done ticks_before
behind-snapshot ds n left p x xs early =
    let next = next_moment ds n p in
    ap (λ (rest : List Timed). until_done ds n p (x ∷ xs) ++ rest) (timed-later ds n left next x xs (next-same ds n p) early)
    ∙ (rw (lt-ltb x next.tick early) refl)

-- without a snapshot before it, the completion is the next event
pub behind-done : (ds : List ℕ) (n left : ℕ) (p : Standing) (x : ℕ) (xs : List ℕ) → (next_moment ds n p).tick ≤ x
    → timed_behind ds n left p (x ∷ xs) ≡ completion ds n p ∷ timed_from ds n left (next_moment ds n p) (x ∷ xs)
unfolding until_done ticks_before
behind-done ds n left p x xs late = rw (le-ltb x (next_moment ds n p).tick late) refl

pub behind-none : (ds : List ℕ) (n left : ℕ) (p : Standing)
    → timed_behind ds n left p [] ≡ completion ds n p ∷ timed_from ds n left (next_moment ds n p) []
unfolding until_done ticks_before
behind-none ds n left p = refl

-- ---- snapshots without entries in flight

pub same-words : (s : Machine) → with_index_words (index_words s) s ≡ s
unfolding with_index_words index_words
same-words s =
    let behind = drop 16 s.words in
    ap (λ ws. record s { words = ws })
    (append_assoc (take 16 s.words) (take 16 behind) (drop 32 s.words)
    ∙ ap (λ ws. take 16 s.words ++ (take 16 behind ++ ws)) (sym (drop-drop 16 16 s.words))
    ∙ ap (λ ws. take 16 s.words ++ ws) (take-append-drop 16 behind)
    ∙ take-append-drop 16 s.words)

pub snapshot-none : (tick : ℕ) (t : Option ℕ) (s : Machine) → snapshot tick t s [] ≡ Shows tick s []
unfolding snapshot split_words
snapshot-none tick t s = ap (λ u. Shows tick u []) (same-words s)

-- ---- after the end of a segment

-- the first entry of a segment is prepared after its start
opening-late : (ds : List ℕ) (n k : ℕ) (t : Option ℕ) (s : Machine) (banks : LastAnswers) (start tick : ℕ) → tick ≤ start
    → prepared_before (tick + 1) (ahead ds n k t s (opening_issue banks start)) ≡ []
unfolding ahead prepared_before row_of_entry tick_a tick_p address_tick preparation_tick
opening-late ds n zero t s banks start tick early = refl
opening-late ds n (suc k) t s banks start tick early =
    let p = tick_p ds n (opening_issue banks start) (entry t s) in
    let late : tick + 1 ≤ p = omega arith in
    rw (le-ltb p (tick + 1) late) refl

issue-ended : (m : Moment) → ends_segment m ≡ true → next_issue m ≡ next_segment m
unfolding next_issue
issue-ended m h = rw h refl

pub nothing-ahead : (ds : List ℕ) (n : ℕ) (m : Moment) (tick : ℕ) → ends_segment m ≡ true
    → tick ≤ m.tick + 1 + length m.dropped
    → prepared_before (tick + 1) (entries_at_moment ds n (standing_at m)) ≡ []
nothing-ahead ds n m tick h early =
    ap (λ f. prepared_before (tick + 1) (ahead ds n n (interrupt (next_state m)) (next_state m) f)) (issue-ended m h)
    ∙ opening-late ds n n (interrupt (next_state m)) (next_state m) m.banks (m.tick + 1 + length m.dropped) tick early
