-- The views of the levels agree with the levels.
use Rattle.st_run.proofs.Common.{map, slice_index, IfSome, option_map, nat_lt, replicate, ◌≡◌, ℕ, zero, suc, ◌+◌, ◌-◌, ◌<◌, List, [], ◌∷◌, ◌++◌, length, drop, Option, None, Some, refl, sym, ◌∙◌, ap, subst, get_or-take, get_or-drop, length-map, map-map, Machine, IsMachine, word, index_words, plan, prepared_entry, prepared_by, suppressed_entry, decode_context, of_choice, plan-prepared, prediction, row_of_entry, issue_after_entry, IssueState, entry, Ahead, ahead, prepared_before, plan_of, Ready, Overlap, state_ahead, levels_of, last_tick_made, word_before_change, level_shown, view_at_tick, level_at, Level, OutputQueue, AreLevelsShown, IsRun, ahead_of, level_of, RunPhase, Together, IsBeforeEntry, interrupt-below}
use Rattle.st_bits.specs.declared.operations.HalfOp.{HalfOp}
use Rattle.st_bits.specs.declared.operations.HalfOp.TheVariants.{Lx, Lv, Lc, Lr, Sx, Sv, Sc, Sr, Sva, VPlus, VPlusC, Kv, Lvs, Lvi, Lci, Lri, VPlusI, VMinusI, VPlusIC, VPlusICR, Kvi, Kc, Kci, Cb, Cbr, R, Ex}
use Rattle.st_format.specs.declared.instruction.Instr.{Instr}
use Rattle.st_format.specs.declared.instruction.Instr.TheVariants.{Half, Branch, Floating, Vfl, Connect, Move, BitBranch, IndBranch, StoreCounter, Transfer, Invalid}
use Rattle.st_prep.specs.declared.entries.IndexChange.{IndexChange}
use Rattle.st_prep.specs.declared.entries.Place.{Place}
use Rattle.st_prep.specs.declared.entries.ResolvedEntry.{ResolvedEntry}
use Rattle.st_prep.specs.SpeculativeChanges.{without_change, change_of_comparison, change_of_index, half_change, progressive_change, change}
use Rattle.st_prep.specs.Plan.{entry_at as entry_of}
use Rattle.st_prep.specs.Ranges.{IsChange}
use Rattle.st_exec.proofs.UnwrittenLemmas.{predicted-machine}
use Rattle.st_ahead.specs.declared.events.LevelView.{LevelView}
use Rattle.st_run.proofs.TickLemmas.{ready-table}
use Rattle.st_run.specs.declared.run_phase.RunPhase.TheVariants as turns

-- ---- the word that a speculative change replaces

-- the view contains the previous contents of the index word
abbrev Keeps : List ℕ → Option IndexChange → Type 0
Keeps xs o = IfSome o (λ c. c.kept ≡ slice_index xs c.number)

half-keeps : (op : HalfOp) (xs : List ℕ) (a j e : ℕ) (r : Option ℕ) → Keeps xs (half_change op xs a j (slice_index xs j) e r).index
unfolding half_change change_of_comparison change_of_index
half-keeps Lx xs a j e r = refl
half-keeps Lv xs a j e r = refl
half-keeps Lc xs a j e r = refl
half-keeps Lr xs a j e r = refl
half-keeps VPlus xs a j e r = refl
half-keeps VPlusC xs a j e r = refl
half-keeps Lvs xs a j e r = refl
half-keeps Lvi xs a j e r = refl
half-keeps Lci xs a j e r = refl
half-keeps Lri xs a j e r = refl
half-keeps VPlusI xs a j e r = refl
half-keeps VMinusI xs a j e r = refl
half-keeps VPlusIC xs a j e r = refl
half-keeps VPlusICR xs a j e r = refl
half-keeps Cb xs a j e r = refl
half-keeps Cbr xs a j e r = refl
half-keeps R xs a j e r = refl
half-keeps Kv xs a j e r = tt
half-keeps Kvi xs a j e r = tt
half-keeps Kc xs a j e r = tt
half-keeps Kci xs a j e r = tt
half-keeps Sx xs a j e r = tt
half-keeps Sv xs a j e r = tt
half-keeps Sc xs a j e r = tt
half-keeps Sr xs a j e r = tt
half-keeps Sva xs a j e r = tt
half-keeps Ex xs a j e r = tt

progressive-keeps : (xs : List ℕ) (p i a : ℕ) (r : Option ℕ) → Keeps xs (progressive_change p i (slice_index xs i) a r).index
unfolding progressive_change change_of_index
progressive-keeps xs p i a r =
    of_choice (λ early. Keeps xs early.index) (nat_lt p 2) without_change (change_of_index i (slice_index xs i) _ r) tt refl

change-keeps : (xs : List ℕ) (instr : Instr) (e : ℕ) (r : Option ℕ) → Keeps xs (change xs instr e r).index
unfolding change
change-keeps xs (Half op a j i) e r = half-keeps op xs a j e r
change-keeps xs (Vfl op d u n p l b o a i) e r = progressive-keeps xs p i a r
change-keeps xs (Connect k t p l b o a i) e r = progressive-keeps xs p i a r
change-keeps xs (Branch op a i) e r = tt
change-keeps xs (Floating n a i) e r = tt
change-keeps xs (Move sw a i second n) e r = tt
change-keeps xs (BitBranch sense c a i second) e r = tt
change-keeps xs (IndBranch sense off a i second) e r = tt
change-keeps xs (StoreCounter a i second) e r = tt
change-keeps xs (Transfer w a i n) e r = tt
change-keeps xs (Invalid first second full) e r = tt

by-keeps : (o : Option ℕ) (place : Place) (a : ResolvedEntry) (xs : List ℕ) (read : Option ℕ) → Keeps xs (prepared_by o place a xs read).index
unfolding suppressed_entry entry_of
by-keeps None place a xs read = change-keeps xs a.instr a.e read
by-keeps (Some i) place a xs read = tt

plan-keeps : (s : Machine) (t : Option ℕ) → Keeps (index_words s) (plan s t).index
unfolding plan prepared_entry decode_context
plan-keeps s t = by-keeps _ _ _ (index_words s) _

word-of_index : (s : Machine) (j : ℕ) → j < 16 → slice_index (index_words s) j ≡ word s (16 + j)
unfolding index_words
word-of_index s j low = get_or-take 16 (drop 16 s.words) j 0 low ∙ get_or-drop 16 s.words j 0

-- the view contains the index word of the state before the entry's own step
changed-same : (o : Option IndexChange) (s : Machine) → Keeps (index_words s) o → IfSome o IsChange
    → option_map {U = ℕ × ℕ} (λ (i : ℕ). (i, word_before_change o)) (option_map (λ (c : IndexChange). c.number) o)
    ≡ option_map {U = ℕ × ℕ} (λ (c : IndexChange). (c.number, word s (16 + c.number))) o
changed-same None s keeps fits = refl
changed-same (Some c) s keeps fits =
    let pair : ℕ → ℕ × ℕ = λ k. (c.number, k) in
    ap {A = ℕ} (λ k. Some (pair k)) (keeps ∙ word-of_index s c.number fits.number)

level-is : (tick : ℕ) (a : Ahead) → IsMachine a.state → IfSome a.table (λ i. i < 64) → level_of (level_shown tick a) ≡ level_at tick a
level-is tick a m some =
    ap {A = Option (ℕ × ℕ)} (λ o. record (level_at tick a) { changed = o })
    (changed-same (plan_of a).index a.state (plan-keeps a.state a.table) (plan-prepared a.state a.table m some).change)

-- ---- all levels

levels-are : (tick now : ℕ) (ds : List ℕ) (n k : ℕ) (t : Option ℕ) (s : Machine) (f : IssueState) → IsMachine s → IfSome t (λ i. i < 64)
    → map level_of (map (level_shown tick) (prepared_before now (ahead ds n k t s f)))
    ≡ map (level_at tick) (prepared_before now (ahead ds n k t s f))
unfolding ahead prepared_before
levels-are tick now ds n zero t s f m some = refl
levels-are tick now ds n (suc k) t s f m some =
    let a : Ahead = record { state = s; table = t; issue = f; entry = entry t s; row = row_of_entry ds n f (entry t s) } in
    let next = predicted-machine (plan s t) s (plan-prepared s t m some) m in
    let rest = prepared_before now (ahead ds n k None (prediction t s) (issue_after_entry ds n f (entry t s))) in
    of_choice (λ (xs : List Ahead). map level_of (map (level_shown tick) xs) ≡ map (level_at tick) xs) (nat_lt a.row.p now) (a ∷ rest) []
    (ap {A = Level} (λ l. l ∷ map level_of (map (level_shown tick) rest)) (level-is tick a m some)
    ∙ ap {A = List Level} (λ ls. level_at tick a ∷ ls) (levels-are tick now ds n k None (prediction t s) (issue_after_entry ds n f (entry t s)) next tt))
    refl

room-is : (tick : ℕ) (xs : List Ahead)
    → map (λ (a : Ahead). Some (level_shown tick a)) xs ++ replicate (8 - length xs) None
    ≡ map (λ (v : LevelView). Some v) (map (level_shown tick) xs) ++ replicate (8 - length (map (level_shown tick) xs)) None
room-is tick xs =
    ap {A = List (Option LevelView)} (λ ys. ys ++ replicate (8 - length xs) None) (sym (map-map (λ (v : LevelView). Some v) (level_shown tick) xs))
    ∙ ap {A = ℕ} (λ k. map (λ (v : LevelView). Some v) (map (level_shown tick) xs) ++ replicate (8 - k) None) (sym (length-map xs (level_shown tick)))

seen-plain : (o : Overlap) → o.phase ≡ Ready → o.mispredicted ≡ None → o.state ≡ state_ahead o
unfolding state_ahead
seen-plain o ready predicted = rw (ready, predicted) refl

same-levels : (o : Overlap) (m : IsMachine o.state) → o.phase ≡ Ready → o.mispredicted ≡ None → IfSome o.taken (λ i. i < 64)
    → map level_of (map (level_shown (last_tick_made o)) (levels_of o)) ≡ ahead_of o
unfolding levels_of
same-levels o m ready predicted some =
    levels-are (last_tick_made o) o.now o.delays o.levels o.levels o.taken (state_ahead o) o.issue
    (subst IsMachine (seen-plain o ready predicted) m) some

pub view-before : (t : Together) → IsBeforeEntry t → AreLevelsShown (view_at_tick t.machine).levels (ahead_of t.machine)
unfolding view_at_tick
view-before t h =
    let o = t.machine in
    let some : IfSome o.taken (λ i. i < 64) = subst {A = Option ℕ} (λ k. IfSome k (λ i. i < 64)) (sym (ready-table o h.ready)) (interrupt-below o.state) in
    record {
      views = map (level_shown (last_tick_made o)) (levels_of o);
      room = room-is (last_tick_made o) (levels_of o);
      same = same-levels o h.kept.scene.machine (ap {A = Overlap} (λ x. x.phase) h.ready.between) (ap {A = Overlap} (λ x. x.mispredicted) h.ready.between) some;
    }

pub view-none : (o : Overlap) → levels_of o ≡ [] → AreLevelsShown (view_at_tick o).levels (ahead_of o)
unfolding view_at_tick
view-none o none = record {
  views = [];
  room = rw none refl;
  same = rw none refl;
}

pub view-run : (turn : RunPhase) (left tick : ℕ) (snaps : List ℕ) (w : OutputQueue) (t : Together) → IsRun turn left tick snaps w t
    → AreLevelsShown (view_at_tick t.machine).levels (ahead_of t.machine)
view-run turns.Before left tick snaps w t is = view-before t is.stands.0
view-run (turns.AtEnd rests) left tick snaps w t is = view-none t.machine is.stands
view-run turns.Over left tick snaps w t is = view-none t.machine is.stands
