-- The view of the levels.
use Rattle.st_refine.proofs.Common.{IfSome, option_map, unwrap_or, get_or, map, replicate, ◌-◌, if◌then◌else◌, ◌≡◌, ℕ, zero, suc, ◌+◌, ◌<◌, ◌≤◌, ◌^◌, Bool, true, false, List, [], ◌∷◌, length, Option, None, Some, refl, sym, ◌∙◌, ap, arith, length-append, length-map, length-replicate, FIRST_INDEX_WORD, Machine, IsMachine, word, address_by, index_words, place_of, plan, resolved, decode_context, side_word, needs, prepared_entry, prepared_by, suppressed_entry, plan-prepared, prediction, issue_after_entry, IssueState, ChangeKeeps, entry, predictions, table_behind, split_words, Ahead, next_ahead, ahead, issue_behind, predictions-machine, behind-none, behind-indicator, plan-keeps, Ready, is_owed, has_ended, Overlap, state_ahead, with_counter, levels_of, last_tick_made, word_before_change, level_shown, view_at_tick, lent_index_words, LevelView, counted-index, IsReached, state_before, table_before, level_seen}
use Rattle.std.specs.Prelude.{◌++◌}
use Rattle.st_prep.specs.Plan.{entry_at as entry_of}
use Rattle.st_prep.specs.Ranges.{IsChange}
use Rattle.st_prep.specs.declared.entries.ResolvedEntry.{ResolvedEntry}
use Rattle.st_prep.specs.declared.entries.Place.{Place}
use Rattle.st_prep.specs.declared.entries.IndexChange.{IndexChange}
use Rattle.st_exec.proofs.AheadLemmas.{index-at}
use Rattle.st_refine.proofs.LevelLists.{first-ones}
use Rattle.st_refine.proofs.Kept.{IsKept, kept, idle-of, seen-idle}
use Rattle.st_refine.proofs.InTime.{levels-few, made-ticks}

-- ---- the state from which the entries in flight start

pub counted-machine : (c : Option ℕ) (s : Machine) → IsMachine s → IfSome c (λ h. h < 2 ^ 19) → IsMachine (with_counter c s)
counted-machine None s is below = is
counted-machine (Some h) s is below = assumption

pub seen-machine : (m : Overlap) → IsKept m → IsMachine (state_ahead m)
unfolding state_ahead
seen-machine m is = by-end (has_ended m.phase)
  where
    by-end : (b : Bool) → IsMachine (if b then m.state else with_counter m.mispredicted m.state)
    by-end true = is.machine
    by-end false = counted-machine m.mispredicted m.state is.machine is.counter

pub seen-index : (m : Overlap) → index_words (state_ahead m) ≡ index_words m.state
unfolding state_ahead
seen-index m = by-end (has_ended m.phase)
  where
    by-end : (b : Bool) → index_words (if b then m.state else with_counter m.mispredicted m.state) ≡ index_words m.state
    by-end true = refl
    by-end false = counted-index m.mispredicted m.state

seen-by : (over : Bool) (behind : Option ℕ) (h : ℕ) (s : Machine) → over ≡ false → behind ≡ Some h
    → (if over then s else with_counter behind s) ≡ record s { ic = h }
seen-by true behind h s going mispredicted = absurd (cc going)
seen-by false behind h s going mispredicted = ap (λ c. with_counter c s) mispredicted

pub seen-mispredicted : (m : Overlap) (h : ℕ) → has_ended m.phase ≡ false → m.mispredicted ≡ Some h → state_ahead m ≡ record m.state { ic = h }
unfolding state_ahead
seen-mispredicted m h going mispredicted = seen-by (has_ended m.phase) m.mispredicted h m.state going mispredicted

pub seen-ended : (m : Overlap) → has_ended m.phase ≡ true → state_ahead m ≡ m.state
unfolding state_ahead
seen-ended m over = ap (λ b. if b then m.state else with_counter m.mispredicted m.state) over

pub seen-settled : (m : Overlap) (made since : ℕ) → IsReached m made since → m.phase ≡ Ready → state_ahead m ≡ m.state
seen-settled m made since from settled =
    let idle = idle-of m (kept from) settled in
    seen-idle m idle.going idle.right

-- ---- the whole view

pub shown-done : (m : Overlap) → (view_at_tick m).done ≡ m.state.done
unfolding view_at_tick
shown-done m = refl

last-by : (owed : Bool) (now : ℕ) → (if owed then now else now - 1) ≡ (if owed then now + 1 else now) - 1
last-by true now = omega arith
last-by false now = refl

pub shown-tick : (m : Overlap) (made since : ℕ) → IsReached m made since → (view_at_tick m).tick ≡ made - 1
unfolding view_at_tick
shown-tick m made since from = last-by (is_owed m.phase) m.now ∙ ap (λ k. k - 1) (sym (made-ticks from))

pub shown-last : (m : Overlap) → (view_at_tick m).tick ≡ last_tick_made m
unfolding view_at_tick
shown-last m = refl

pub shown-index : (m : Overlap) → (view_at_tick m).x ≡ split_words (length (levels_of m)) m.taken (state_ahead m)
unfolding view_at_tick lent_index_words
shown-index m = refl

no-split : (k : ℕ) (t : Option ℕ) (s : Machine) → k ≡ 0 → split_words k t s ≡ index_words s
unfolding split_words
no-split zero t s none = refl
no-split (suc k) t s none = absurd (omega (arith, none))

pub shown-none : (m : Overlap) → length (levels_of m) ≡ 0 → (view_at_tick m).x ≡ index_words m.state
shown-none m none = shown-index m ∙ no-split (length (levels_of m)) m.taken (state_ahead m) none ∙ seen-index m

-- ---- levels

abbrev pub shows : ℕ → List Ahead → List (Option LevelView)
shows tick xs = map (λ a. Some (level_shown tick a)) xs

at-place : (ds : List ℕ) (n tick k j : ℕ) (t : Option ℕ) (s : Machine) (f : IssueState) (rest : List (Option LevelView)) → k < j
    → get_or (shows tick (ahead ds n j t s f) ++ rest) k None
    ≡ Some (level_shown tick (next_ahead ds n (table_behind k t) (predictions k t s) (issue_behind ds n k t s f)))
unfolding ahead predictions issue_behind
at-place ds n tick k zero t s f rest few = absurd (omega (arith, few))
at-place ds n tick zero (suc j) t s f rest few = refl
at-place ds n tick (suc k) (suc j) t s f rest few =
    let u = prediction t s in
    let g = issue_after_entry ds n f (entry t s) in
    at-place ds n tick k j None u g rest (omega (arith, few))
    ∙ ap (λ i. Some (level_shown tick (next_ahead ds n i (predictions k None u) (issue_behind ds n k None u g)))) (behind-none k)

past-place : (tick m k : ℕ) (xs : List Ahead) → length xs ≤ k → get_or (shows tick xs ++ replicate m None) k None ≡ None
past-place tick zero k [] few = refl
past-place tick (suc m) zero [] few = refl
past-place tick (suc m) (suc k) [] few = past-place tick m k [] (omega arith)
past-place tick m zero (x ∷ xs) few = absurd (omega (arith, few))
past-place tick m (suc k) (x ∷ xs) few = past-place tick m k xs (omega (arith, few))

pub shown-behind : (m : Overlap) (k : ℕ) → length (levels_of m) ≤ k → get_or (view_at_tick m).levels k None ≡ None
unfolding view_at_tick
shown-behind m k few = past-place (last_tick_made m) (8 - length (levels_of m)) k (levels_of m) few

pub shown-eight : (m : Overlap) (made since : ℕ) → IsReached m made since → length (view_at_tick m).levels ≡ 8
unfolding view_at_tick
shown-eight m made since from =
    let left = 8 - length (levels_of m) in
    let none : Option LevelView = None in
    omega (
      arith,
      length-append (shows (last_tick_made m) (levels_of m)) (replicate left none),
      length-map (levels_of m) (λ a. Some (level_shown (last_tick_made m) a)),
      length-replicate left none,
      levels-few m,
      (kept from).few,
    )

pub levels-are : (m : Overlap) → levels_of m ≡ ahead m.delays m.levels (length (levels_of m)) m.taken (state_ahead m) m.issue
unfolding levels_of
levels-are m = first-ones m.delays m.levels (length (levels_of m)) m.now m.levels m.taken (state_ahead m) m.issue refl

-- an entry records its place and the index word that it replaces
place-by : (fault : Option ℕ) (place : Place) (a : ResolvedEntry) (x : List ℕ) (read : Option ℕ) → (prepared_by fault place a x read).place ≡ place
unfolding suppressed_entry entry_of
place-by None place a x read = refl
place-by (Some i) place a x read = refl

pub plan-address : (s : Machine) (t : Option ℕ) → (plan s t).place.address ≡ address_by t s
unfolding plan prepared_entry decode_context place_of
plan-address s t =
    let v = decode_context s (place_of s t) in
    ap (λ (p : Place). p.address) (place-by (resolved v).fault v.place (resolved v) v.x (side_word t s (needs v).index_read))

kept-by : (c : Option IndexChange) (s : Machine) → ChangeKeeps (index_words s) c → IfSome c IsChange → word_before_change c ≡ unwrap_or (option_map (λ x. word s (FIRST_INDEX_WORD + x.number)) c) 0
kept-by None s keeps is = refl
kept-by (Some c) s keeps is = sym keeps ∙ index-at s c.number is.number

abbrev view-of : ℕ → ℕ → Option ℕ → ℕ → Bool → LevelView
view-of address p index kept ready = record { address = address; p = p; index = index; kept = kept; ready = ready }

same-level : (address place p : ℕ) (ready : Bool) (index : Option ℕ) (kept word : ℕ) → place ≡ address → kept ≡ word
    → Some (view-of place p index kept ready) ≡ Some (view-of address p index word ready)
same-level address place p ready index kept word a b = rw (a, b) refl

pub shown-level : (m : Overlap) (made since k : ℕ) → IsReached m made since → k < length (levels_of m)
    → get_or (view_at_tick m).levels k None ≡ Some (level_seen (view_at_tick m).tick k m)
unfolding view_at_tick
shown-level m made since k from few =
    let is = kept from in
    let s = state_before k m in
    let t = table_before k m in
    let machine : IsMachine s = predictions-machine k m.taken (state_ahead m) (seen-machine m is) is.indicator in
    let p = plan-prepared s t machine (behind-indicator k m.taken is.indicator) in
    let left = replicate (8 - length (levels_of m)) None in
    ap (λ (xs : List Ahead). get_or (shows (last_tick_made m) xs ++ left) k None) (levels-are m)
    ∙ at-place m.delays m.levels (last_tick_made m) k (length (levels_of m)) m.taken (state_ahead m) m.issue left few
    ∙ same-level (address_by t s) (plan s t).place.address _ _ _ _ _ (plan-address s t) (kept-by (plan s t).index s (plan-keeps s t) p.change)
