-- The lines of a snapshot, from the view of the levels.
use Rattle.st_telling.proofs.Common.{◌≡◌, ℕ, zero, suc, ◌-◌, List, [], ◌∷◌, ◌++◌, length, refl, sym, ◌∙◌, ap, subst, Option, None, Some, map, replicate, Result, Ok, Err, IsErr, OutputState, Failed, Asked, Machine, WritesLines, lines_then, lines_cut, snap_line, levels_standing, level_of, AreLevelsShown, block, level_line, snapshot_lines, views_lines}
use Rattle.st_ahead.specs.declared.events.LevelView.{LevelView}
use Rattle.st_run.specs.Events.{Level}

slots : List LevelView → ℕ → List (Option LevelView)
slots views k = map (λ v. Some v) views ++ replicate k None

none-standing : (k : ℕ) → levels_standing (replicate k None) ≡ 0
unfolding levels_standing
none-standing zero = refl
none-standing (suc k) = refl

none-lines : (k : ℕ) → views_lines (replicate k None) ≡ []
unfolding views_lines
none-lines zero = refl
none-lines (suc k) = refl

levels-standing : (views : List LevelView) (k : ℕ) → levels_standing (slots views k) ≡ length (map level_of views)
unfolding slots levels_standing
levels-standing [] k = none-standing k
levels-standing (v ∷ vs) k = ap suc (levels-standing vs k)

levels-lines : (views : List LevelView) (k : ℕ) → views_lines (slots views k) ≡ map level_line (map level_of views)
unfolding slots views_lines
levels-lines [] k = none-lines k
levels-lines (v ∷ vs) k = ap (λ xs. level_line (level_of v) ∷ xs) (levels-lines vs k)

-- the lines of a snapshot, from the views of its levels
abbrev pub lines_of_views : Asked → ℕ → ℕ → Machine → List (Option LevelView) → List (List ℕ)
lines_of_views asked done at s shown = (snap_line at done (levels_standing shown) ∷ []) ++ (block asked.dumps s ++ views_lines shown)

pub views_are : (asked : Asked) (done at : ℕ) (s : Machine) (shown : List (Option LevelView)) (levels : List Level) → AreLevelsShown shown levels → lines_of_views asked done at s shown ≡ snapshot_lines asked done at s levels
unfolding slots
views_are asked done at s shown levels are =
    let k = 8 - length are.views in
    let count : levels_standing shown ≡ length levels = ap levels_standing are.room ∙ levels-standing are.views k ∙ ap length are.same in
    let lines : views_lines shown ≡ map level_line levels = ap views_lines are.room ∙ levels-lines are.views k ∙ ap (map level_line) are.same in
    ap (λ n. (snap_line at done n ∷ []) ++ (block asked.dumps s ++ views_lines shown)) count
    ∙ ap (λ ls. (snap_line at done (length levels) ∷ []) ++ (block asked.dumps s ++ ls)) lines

pub writes_views : (t u : OutputState) (asked : Asked) (done at : ℕ) (s : Machine) (shown : List (Option LevelView)) (levels : List Level) (r : Result (Unit {0}) Failed) → AreLevelsShown shown levels → WritesLines t u (lines_of_views asked done at s shown) r → WritesLines t u (snapshot_lines asked done at s levels) r
writes_views t u asked done at s shown levels r are w = subst (λ ls. WritesLines t u ls r) (views_are asked done at s shown levels are) w

-- ---- the levels in order

pub levels_cut : (s t : OutputState) (all : List (List ℕ)) (line written : List ℕ) (rest : List (List ℕ)) (e : Failed) (r : Result (Unit {0}) Failed) → IsErr r → all ≡ line ∷ rest → written ≡ line → WritesLines s t (written ∷ []) (Err e) → WritesLines s t all r
levels_cut s t all line written rest e r f is same w =
    subst (λ ls. WritesLines s t ls r) (sym is)
    (lines_cut s t (line ∷ []) rest e r f (subst (λ l. WritesLines s t (l ∷ []) (Err e)) same w))

pub levels_then : (s t u : OutputState) (all : List (List ℕ)) (line written : List ℕ) (rest : List (List ℕ)) (x : Unit {0}) (r : Result (Unit {0}) Failed) → all ≡ line ∷ rest → written ≡ line → WritesLines s t (written ∷ []) (Ok x) → WritesLines t u rest r → WritesLines s u all r
levels_then s t u all line written rest x r is same w next =
    subst (λ ls. WritesLines s u ls r) (sym is)
    (lines_then s t u (line ∷ []) rest x r (subst (λ l. WritesLines s t (l ∷ []) (Ok x)) same w) next)
