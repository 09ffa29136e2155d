-- One more level.
use Rattle.st_ring.proofs.Common.{◌≡◌, ℕ, suc, ◌-◌, ◌<◌, List, [], ◌∷◌, ◌++◌, length, Option, None, refl, sym, subst, ◌∙◌, ap, ap₂, arith, length-append, IfSome, Machine, IsMachine, words_after, plan, Prepared, row_of_entry, issue_after_entry, fills, IssueState, prepared_at, Level, entry, predictions, table_behind, split_words, RunAhead, split-change, index-split, LevelsView, IsLevel, AreLevels, AreAhead, planned_row, PlannedRow}
use Rattle.st_rows.specs.declared.issue.Filled.{Filled}
use Rattle.st_ring.proofs.LevelLemmas.{levels-append}

-- the pushed level, with empty slots
abbrev pub pushed_level : Prepared → Filled → Level
pushed_level p filled = prepared_at p filled.row.p (None ∷ None ∷ [])

pub pushed-level : (ds : List ℕ) (n tick : ℕ) (k : Option ℕ) (u : Machine) (last : IssueState) (p : Prepared) (g : IssueState) (filled : Filled)
    → g ≡ last → p ≡ plan u k → filled.row ≡ row_of_entry ds n last (entry k u) → filled.fills ≡ fills ds n last (entry k u)
    → IsLevel ds n tick k u last (pushed_level p filled) (planned_row g filled)
pushed-level ds n tick k u last p g filled issue form numbers ticks = record {
  prepared = form;
  p = ap (λ r. r.p) numbers;
  have = record { first = None; second = None; slots = refl; kept_first = tt; kept_second = tt };
  issue = issue;
  r = ap (λ r. r.r) numbers;
  c = ap (λ r. r.c) numbers;
  fills = ticks;
}

-- the index words after one more speculative change
pub split-after : (k : ℕ) (t : Option ℕ) (s : Machine) (p : Prepared) (x : List ℕ) → IsMachine s → IfSome t (λ i. i < 64)
    → RunAhead k t s → p ≡ plan (predictions k t s) (table_behind k t) → x ≡ split_words k t s
    → words_after x p.index ≡ split_words (suc k) t s
split-after k t s p x m some free form before =
    ap₂ (λ (y : List ℕ) (q : Prepared). words_after y q.index) (before ∙ sym (index-split k t s m some free)) form
    ∙ sym (split-change k t s m some)

pub push-ahead : (ds : List ℕ) (n tick : ℕ) (t : Option ℕ) (s : Machine) (f last : IssueState) (v new : LevelsView) (level : Level) (q : PlannedRow)
    (p : Prepared) → let k = length v.ring in let u = predictions k t s in let i = table_behind k t in
    IsMachine s → IfSome t (λ i. i < 64) → AreAhead ds n tick t s f last v → RunAhead k t s → p ≡ plan u i
    → IsLevel ds n tick i u last level q
    → new.ring ≡ v.ring ++ level ∷ [] → new.plans ≡ v.plans ++ q ∷ [] → new.x ≡ words_after v.x p.index
    → AreAhead ds n tick t s f (issue_after_entry ds n last (entry i u)) new
push-ahead ds n tick t s f last v new level q p m some h free form is ring plans x =
    let k = length v.ring in
    let more : length new.ring ≡ suc k = ap length ring ∙ (length-append v.ring (level ∷ []) ∙ omega arith) in
    let g = issue_after_entry ds n last (entry (table_behind k t) (predictions k t s)) in
    let appended = levels-append ds n tick t (table_behind k t) s (predictions k t s) f last v.ring v.plans level q refl refl h.levels is in
    record {
      levels = subst (λ (rows : List PlannedRow). AreLevels ds n tick t s f g new.ring rows) (sym plans)
          (subst (λ (r : List Level). AreLevels ds n tick t s f g r (v.plans ++ q ∷ [])) (sym ring) appended);
      index = x ∙ split-after k t s p v.x m some free form h.index ∙ ap (λ i. split_words i t s) (sym more);
      run_ahead = let same : k ≡ length new.ring - 1 = omega (arith, more) in subst (λ i. RunAhead i t s) same free;
    }
