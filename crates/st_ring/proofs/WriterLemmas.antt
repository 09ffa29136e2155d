-- The words that uncompleted levels write, by the entries that the issue states after them record.
use Rattle.st_ring.proofs.Common.{◌≡◌, ℕ, zero, suc, ◌+◌, ◌<◌, ◌≤◌, Bool, true, false, List, [], ◌∷◌, length, take, All, Option, None, refl, subst, ap, arith, if◌then◌else◌, All-head, All-tail, Machine, prediction, is_among, latest_done, row_of_entry, issue_after_entry, tick_c, IssueState, Past, Level, entry, issue_behind, is_word_written, AreLevels, PlannedRow}

-- ---- the latest writer among the newest entries

latest-done_if : (b : Bool) (c rest now : ℕ) → (if b then c else rest) ≤ now → now < c → (b ≡ false) × (rest ≤ now)
latest-done_if true c rest now early late = absurd (omega arith)
latest-done_if false c rest now early late = (refl, early)

choice-below : (b : Bool) (c rest fewer now : ℕ) → (if b then c else rest) ≤ now → (rest ≤ now → fewer ≤ now)
    → (if b then c else fewer) ≤ now
choice-below true c rest fewer now early less = early
choice-below false c rest fewer now early less = less early

-- the latest writer among fewer entries completes no later
pub take-latest : (m : ℕ) (past : List Past) (w now : ℕ) → latest_done past w ≤ now → latest_done (take m past) w ≤ now
unfolding latest_done
take-latest zero past w now early = omega arith
take-latest (suc m) [] w now early = early
take-latest (suc m) (e ∷ past) w now early =
    choice-below (is_among w e.writes) e.c (latest_done past w) (latest_done (take m past) w) now early (take-latest m past w now)

take-take : (m k : ℕ) (past : List Past) → m ≤ k → take m (take k past) ≡ take m past
take-take zero k past few = refl
take-take (suc m) zero past few = absurd (omega arith)
take-take (suc m) (suc k) [] few = refl
take-take (suc m) (suc k) (e ∷ past) few = ap (λ (rest : List Past). e ∷ rest) (take-take m k past (omega arith))

-- if the latest writer of a word has completed, an uncompleted entry does not write it
pub not-latest : (ds : List ℕ) (n m now w : ℕ) (t : Option ℕ) (s : Machine) (f : IssueState) → m ≤ 7 → now < (row_of_entry ds n f (entry t s)).c
    → latest_done (take (suc m) (issue_after_entry ds n f (entry t s)).past) w ≤ now
    → (is_among w (entry t s).writes ≡ false) × (latest_done (take m f.past) w ≤ now)
unfolding row_of_entry issue_after_entry latest_done
not-latest ds n m now w t s f few late early =
    let both = latest-done_if (is_among w (entry t s).writes) (tick_c ds n f (entry t s)) (latest_done (take m (take 7 f.past)) w) now early late in
    (both.0, subst (λ (past : List Past). latest_done past w ≤ now) (take-take m 7 f.past few) both.1)

-- ---- levels

pub unwritten-by : (ds : List ℕ) (n tick now w j m : ℕ) (t : Option ℕ) (s : Machine) (f last : IssueState) (ring : List Level)
    (plans : List PlannedRow) → AreLevels ds n tick t s f last ring plans → All (λ q. now < q.c) plans → j ≤ length ring → m + j ≤ 8
    → latest_done (take (m + j) (issue_behind ds n j t s f).past) w ≤ now
    → (is_word_written j t s w ≡ false) × (latest_done (take m f.past) w ≤ now)
unfolding AreLevels issue_behind is_word_written
unwritten-by ds n tick now w zero m t s f last ring plans h each here few early =
    (refl, subst (λ i. latest_done (take i f.past) w ≤ now) (omega arith) early)
unwritten-by ds n tick now w (suc j) m t s f last [] plans h each here few early = absurd (omega arith)
unwritten-by ds n tick now w (suc j) m t s f last (level ∷ levels) [] h each here few early = absurd h
unwritten-by ds n tick now w (suc j) m t s f last (level ∷ levels) (q ∷ qs) h each here few early =
    let g = issue_after_entry ds n f (entry t s) in
    let more : m + suc j ≡ suc m + j = omega arith in
    let moved = subst (λ i. latest_done (take i (issue_behind ds n j None (prediction t s) g).past) w ≤ now) more early in
    let rest = unwritten-by ds n tick now w j (suc m) None (prediction t s) g last levels qs h.1
    (All-tail (λ (x : PlannedRow). now < x.c) q qs each) (omega arith) (omega arith) moved in
    let open_c : now < q.c = All-head (λ (x : PlannedRow). now < x.c) q qs each in
    let same : q.c ≡ (row_of_entry ds n f (entry t s)).c = h.0.c in
    let late : now < (row_of_entry ds n f (entry t s)).c = omega arith in
    let own = not-latest ds n m now w t s f (omega arith) late rest.1 in
    (rw (own.0, rest.0) refl, own.1)
