-- The view of the levels.
use Rattle.st_ahead.proofs.Common.{map, replicate, get_or, slice_get, nat_le, option_map, ◌≡◌, ℕ, zero, suc, ◌≤◌, Bool, List, [], ◌∷◌, length, Option, None, Some, refl, sym, ◌∙◌, ap, arith, length-map, length-replicate, Machine, prediction, Prepared, plan, row_of_entry, issue_after_entry, IssueState, Level, entry, Ahead, ahead, next_ahead, AreLevels, IsLevel, PlannedRow, Overlap, state_ahead, levels_of, last_tick_made, LookaheadView, count, word_before_change, level_shown, view_at_tick, lent_index_words}
use Rattle.std.specs.Prelude.{◌++◌, ◌-◌}
use Rattle.std.proofs.lemmas.List.{length-append}
use Rattle.st_ahead.specs.declared.events.LevelView.{LevelView}
use Rattle.st_ahead.specs.declared.events.View.{View}
use Rattle.st_ahead.proofs.Showing.{IsShowing, showing-count}

-- ---- a level

abbrev hidden : Option LevelView
hidden = None

abbrev pub view-of : ℕ → ℕ → List ℕ → List (Option LevelView) → View
view-of tick done x levels = record { tick = tick; done = done; x = x; levels = levels }

abbrev at : Prepared → ℕ → ℕ → ℕ → LevelView
at prepared p r tick = record {
  address = prepared.place.address;
  p = p;
  index = option_map (λ c. c.number) prepared.index;
  kept = word_before_change prepared.index;
  ready = nat_le r tick;
}

same-shown : (a b : Prepared) (p q r x tick : ℕ) → a ≡ b → p ≡ q → r ≡ x → at a p r tick ≡ at b q x tick
same-shown a b p q r x tick e g h = rw (e, g, h) refl

one-shown : (ds : List ℕ) (n tick now : ℕ) (t : Option ℕ) (s : Machine) (f : IssueState) (level : Level) (q : PlannedRow) → IsLevel ds n tick t s f level q
    → at level.prepared level.p q.r now ≡ level_shown now (next_ahead ds n t s f)
one-shown ds n tick now t s f level q is =
    same-shown level.prepared (plan s t) level.p (row_of_entry ds n f (entry t s)).p q.r (row_of_entry ds n f (entry t s)).r now is.prepared is.p is.r

-- level k is entry k in flight
pub none-shown : (ds : List ℕ) (n now m k : ℕ) (t : Option ℕ) (s : Machine) (f : IssueState) → m ≤ k
    → None ≡ get_or (map (λ a. Some (level_shown now a)) (ahead ds n m t s f)) k None
unfolding ahead
none-shown ds n now zero k t s f few = refl
none-shown ds n now (suc m) zero t s f few = absurd (omega (arith, few))
none-shown ds n now (suc m) (suc k) t s f few = none-shown ds n now m k None (prediction t s) (issue_after_entry ds n f (entry t s)) (omega (arith, few))

pub some-shown : (ds : List ℕ) (n tick now k : ℕ) (t : Option ℕ) (s : Machine) (f last : IssueState) (ring : List Level) (plans : List PlannedRow) (level : Level) (q : PlannedRow)
    → AreLevels ds n tick t s f last ring plans → slice_get ring k ≡ Some level → slice_get plans k ≡ Some q
    → Some (at level.prepared level.p q.r now) ≡ get_or (map (λ a. Some (level_shown now a)) (ahead ds n (length ring) t s f)) k None
unfolding AreLevels ahead
some-shown ds n tick now k t s f last [] plans level q is there planned = absurd (cc there)
some-shown ds n tick now k t s f last (l ∷ ls) [] level q is there planned = absurd is
some-shown ds n tick now zero t s f last (l ∷ ls) (p ∷ ps) level q is there planned =
    let same : level ≡ l = cc in
    let beside : q ≡ p = cc in
    rw (same, beside) (ap (λ x. Some x) (one-shown ds n tick now t s f l p is.0))
some-shown ds n tick now (suc k) t s f last (l ∷ ls) (p ∷ ps) level q is there planned =
    some-shown ds n tick now k None (prediction t s) (issue_after_entry ds n f (entry t s)) last ls ps level q is.1 there planned

none-at : (m k : ℕ) → get_or (replicate m hidden) k None ≡ None
none-at zero k = refl
none-at (suc m) zero = refl
none-at (suc m) (suc k) = none-at m k

more-none : (xs : List (Option LevelView)) (m k : ℕ) → get_or xs k None ≡ get_or (xs ++ replicate m hidden) k None
more-none [] m k = sym (none-at m k)
more-none (x ∷ xs) m zero = refl
more-none (x ∷ xs) m (suc k) = more-none xs m k

abbrev pub level-of : ℕ → ℕ → Option ℕ → ℕ → Bool → LevelView
level-of address p index kept ready = record { address = address; p = p; index = index; kept = kept; ready = ready }

pub some-kept : (address p : ℕ) (index number : Option ℕ) (kept word : ℕ) (ready : Bool) → index ≡ number → kept ≡ word
    → Some (level-of address p index kept ready) ≡ Some (level-of address p number word ready)
some-kept address p index number kept word ready a b = rw (a, b) refl

-- ---- all levels

pub showing-level : (m : Overlap) (v : LookaheadView) (k : ℕ) → IsShowing m v
    → get_or (map (λ a. Some (level_shown (last_tick_made m) a)) (ahead m.delays m.levels (count v) m.taken (state_ahead m) m.issue)) k None
    ≡ get_or (view_at_tick m).levels k None
unfolding view_at_tick
showing-level m v k is =
    ap (λ levels. get_or (map (λ (a : Ahead). Some (level_shown (last_tick_made m) a)) levels) k None) (sym is.levels)
    ∙ more-none (map (λ a. Some (level_shown (last_tick_made m) a)) (levels_of m)) (8 - length (levels_of m)) k

pub showing-eight : (m : Overlap) (v : LookaheadView) → IsShowing m v → count v ≤ 8 → length (view_at_tick m).levels ≡ 8
unfolding view_at_tick
showing-eight m v is few =
    let shows = map (λ (a : Ahead). Some (level_shown (last_tick_made m) a)) (levels_of m) in
    let left = 8 - length (levels_of m) in
    let both = length-append shows (replicate left hidden) in
    omega (arith, both, length-map (levels_of m) (λ (a : Ahead). Some (level_shown (last_tick_made m) a)), length-replicate left hidden, showing-count m v is, few)

tabulated : ℕ → (ℕ → Option LevelView) → List (Option LevelView)
tabulated zero f = []
tabulated (suc n) f = f 0 ∷ tabulated n (λ k. f (suc k))

listed : (n : ℕ) (xs : List (Option LevelView)) → length xs ≡ n → tabulated n (λ k. get_or xs k None) ≡ xs
unfolding tabulated
listed zero [] long = refl
listed zero (x ∷ xs) long = absurd (omega (arith, long))
listed (suc n) [] long = absurd (omega (arith, long))
listed (suc n) (x ∷ xs) long = let rest : length xs ≡ n = omega (arith, long) in ap (λ ys. x ∷ ys) (listed n xs rest)

pub eight : (xs : List (Option LevelView)) → length xs ≡ 8
    → get_or xs 0 None ∷ get_or xs 1 None ∷ get_or xs 2 None ∷ get_or xs 3 None ∷ get_or xs 4 None ∷ get_or xs 5 None ∷ get_or xs 6 None ∷ get_or xs 7 None ∷ [] ≡ xs
unfolding tabulated
eight xs long = listed 8 xs long

pub eight-shown : (xs : List (Option LevelView)) (a b c d e f g h : Option LevelView) → length xs ≡ 8
    → a ≡ get_or xs 0 None → b ≡ get_or xs 1 None → c ≡ get_or xs 2 None → d ≡ get_or xs 3 None
    → e ≡ get_or xs 4 None → f ≡ get_or xs 5 None → g ≡ get_or xs 6 None → h ≡ get_or xs 7 None
    → a ∷ b ∷ c ∷ d ∷ e ∷ f ∷ g ∷ h ∷ [] ≡ xs
eight-shown xs a b c d e f g h long a_is b_is c_is d_is e_is f_is g_is h_is =
    rw (a_is, b_is, c_is, d_is, e_is, f_is, g_is, h_is) (eight xs long)

same-view : (tick done : ℕ) (x : List ℕ) (levels : List (Option LevelView)) (tick' done' : ℕ) (x' : List ℕ) (levels' : List (Option LevelView))
    → tick ≡ tick' → done ≡ done' → x ≡ x' → levels ≡ levels' → view-of tick done x levels ≡ view-of tick' done' x' levels'
same-view tick done x levels tick' done' x' levels' a b c d = rw (a, b, c, d) refl

pub view-shown : (m : Overlap) (tick done : ℕ) (x : List ℕ) (levels : List (Option LevelView)) → tick ≡ last_tick_made m → done ≡ m.state.done → x ≡ lent_index_words m
    → levels ≡ (view_at_tick m).levels → view-of tick done x levels ≡ view_at_tick m
unfolding view_at_tick
view-shown m tick done x levels a b c d = same-view tick done x levels _ _ _ _ a b c d
