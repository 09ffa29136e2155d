-- Reads that are recorded and undone.
use Rattle.st_rows.proofs.Common.{if◌then◌else◌, nat_lt, ◌≡◌, ℕ, zero, suc, ◌+◌, ◌-◌, ◌<◌, ◌≤◌, true, false, List, [], ◌∷◌, ◌++◌, length, take, drop, set, get_or, ◌%◌, ◌≢◌, All, length-set, refl, sym, ap, ◌∙◌, append_assoc, length-append, arith, lt-ltb, le-ltb, ltb-true, ltb-false, append-nil, same_lists, take_all, get_or-set_same, get_or-set_other, All-nil, All-cons, All-head, All-tail, All-append, All-drop, All-weaker, bank_of, last_of, answered_at, window, length-window, get_or-window, bus_after_reads, made_before, accept_at, answer_at, bus_after_read, Read, after_one, note, notes_of_reads, answers_left, AreEarly, AreSettled, AreFalling, IsLogged, Bus, Made}
use Rattle.std.proofs.Common.{Bool}
use Rattle.st_rows.proofs.Served.{free-one_if}

-- ---- one record

-- an overwritten item is restored
set-back : (xs : List ℕ) (i x : ℕ) → set (set xs i x) i (get_or xs i 0) ≡ xs
set-back [] i x = refl
set-back (y ∷ xs) zero x = refl
set-back (y ∷ xs) (suc i) x = ap (λ (rest : List ℕ). y ∷ rest) (set-back xs i x)

put-back : (answers : List ℕ) (w x : ℕ) → answered_at (answered_at answers w x) w (last_of answers w) ≡ answers
put-back answers w x = set-back answers (bank_of w) x

-- a late read is undone
pub undone-late : (t : ℕ) (m : Made) (notes : List Made) (answers : List ℕ) → t ≤ m.tick
    → answers_left t (m ∷ notes) answers ≡ answers_left t notes (answered_at answers m.w m.before)
unfolding answers_left
undone-late t m notes answers late = rw (le-ltb m.tick t late) refl

-- no read is undone if the youngest one is early
pub undone-settled : (t : ℕ) (notes : List Made) (answers : List ℕ) → AreSettled t notes → answers_left t notes answers ≡ answers
unfolding answers_left
undone-settled t [] answers early = refl
undone-settled t (m ∷ notes) answers early = rw (lt-ltb m.tick t early) refl

early-settled : (t : ℕ) (notes : List Made) → AreEarly t notes → AreSettled t notes
early-settled t [] early = tt
early-settled t (m ∷ notes) early = All-head (λ (x : Made). x.tick < t) m notes early

-- early records that are not kept do not matter
pub undone-take : (n t : ℕ) (notes : List Made) (answers : List ℕ) → AreEarly t (drop n notes)
    → answers_left t (take n notes) answers ≡ answers_left t notes answers
unfolding answers_left
undone-take zero t notes answers early = sym (undone-settled t notes answers (early-settled t notes early))
undone-take (suc n) t [] answers early = refl
undone-take (suc n) t (m ∷ notes) answers early =
    ap (λ (x : List ℕ). if nat_lt m.tick t then answers else x) (undone-take n t notes (answered_at answers m.w m.before) early)

-- the oldest records are early if at most n records may be late
pub drop-early : (n t : ℕ) (young old : List Made) → length young ≤ n → AreEarly t old → AreEarly t (drop n (young ++ old))
drop-early n t [] old few early = All-drop (λ (x : Made). x.tick < t) n old early
drop-early zero t (m ∷ young) old few early = absurd (omega (arith, few))
drop-early (suc n) t (m ∷ young) old few early = drop-early n t young old (omega (arith, few)) early

pub take-take : (n : ℕ) (notes : List Made) → take n (take n notes) ≡ take n notes
take-take zero notes = refl
take-take (suc n) [] = refl
take-take (suc n) (m ∷ notes) = ap (λ (rest : List Made). m ∷ rest) (take-take n notes)

take-fewer : (n : ℕ) (notes : List Made) → take n (take (suc n) notes) ≡ take n notes
take-fewer zero notes = refl
take-fewer (suc n) [] = refl
take-fewer (suc n) (m ∷ notes) = ap (λ (rest : List Made). m ∷ rest) (take-fewer n notes)

pub take-more : (n : ℕ) (m : Made) (notes : List Made) → take (suc n) (m ∷ take (suc n) notes) ≡ take (suc n) (m ∷ notes)
take-more n m notes = ap (λ (rest : List Made). m ∷ rest) (take-fewer n notes)

falling-more : (m : Made) (notes : List Made) → AreFalling notes → All (λ x. m.tick < x.tick) notes → AreFalling (notes ++ m ∷ [])
falling-more m [] falls late = (All-nil (λ (x : Made). x.tick < m.tick), tt)
falling-more m (x ∷ notes) falls late = (
  All-append (λ (y : Made). y.tick < x.tick) notes (m ∷ []) falls.0
      (All-cons (λ (y : Made). y.tick < x.tick) m [] (All-head (λ (y : Made). m.tick < y.tick) x notes late) (All-nil (λ (y : Made). y.tick < x.tick))),
  falling-more m notes falls.1 (All-tail (λ (y : Made). m.tick < y.tick) x notes late),
)

-- ---- the ring

-- a write before the first item adds it at the front
pub window-issue : (head n : ℕ) (xs : List Made) (m : Made) → head < 64 → n < 64 → length xs ≡ 64
    → window ((head + 64 - 1) % 64) (n + 1) (set xs ((head + 64 - 1) % 64) m) ≡ m ∷ window head n xs
window-issue head n xs m inside room whole =
    let at = (head + 64 - 1) % 64 in
    let ys = set xs at m in
    let length_ys = length-set xs at m ∙ whole in
    let length_old = length-window 64 head n xs inside (omega arith) whole in
    let length_new = length-window 64 at (n + 1) ys (omega arith) (omega arith) length_ys in
    same_lists _ _ (omega (arith, length_old, length_new)) (λ i d in_range. by-item i d in_range)
  where
    by-item : (i : ℕ) (d : Made) → i < length (window ((head + 64 - 1) % 64) (n + 1) (set xs ((head + 64 - 1) % 64) m))
        → get_or (window ((head + 64 - 1) % 64) (n + 1) (set xs ((head + 64 - 1) % 64) m)) i d ≡ get_or (m ∷ window head n xs) i d
    by-item zero d in_range =
        let at = (head + 64 - 1) % 64 in
        let length_ys = length-set xs at m ∙ whole in
        let place : (at + 0) % 64 ≡ at = omega arith in
        get_or-window 64 at (n + 1) (set xs at m) (omega arith) (omega arith) length_ys 0 d (omega arith)
        ∙ ap (λ j. get_or (set xs at m) j d) place
        ∙ get_or-set_same xs at m d (omega (arith, whole))
    by-item (suc i) d in_range =
        let at = (head + 64 - 1) % 64 in
        let length_ys = length-set xs at m ∙ whole in
        let length_new = length-window 64 at (n + 1) (set xs at m) (omega arith) (omega arith) length_ys in
        let place : (at + suc i) % 64 ≡ (head + i) % 64 = omega arith in
        let other : (head + i) % 64 ≢ at = λ e. omega (arith, e, in_range, length_new) in
        get_or-window 64 at (n + 1) (set xs at m) (omega arith) (omega arith) length_ys (suc i) d (omega (arith, in_range, length_new))
        ∙ ap (λ j. get_or (set xs at m) j d) place
        ∙ get_or-set_other xs at ((head + i) % 64) m d other
        ∙ sym (get_or-window 64 head n xs inside (omega arith) whole i d (omega (arith, in_range, length_new)))

-- a write into a full ring drops the last of 64 items
pub window-full : (head : ℕ) (xs : List Made) (m : Made) → head < 64 → length xs ≡ 64
    → window ((head + 64 - 1) % 64) 64 (set xs ((head + 64 - 1) % 64) m) ≡ m ∷ take 63 (window head 64 xs)
window-full head xs m inside whole =
    window-issue head 63 xs m inside (omega arith) whole ∙ ap (λ (rest : List Made). m ∷ rest) (sym (take-fewer 63 (drop head xs ++ take head xs)))

-- a prefix that is long enough is the whole list
pub take-few : (n : ℕ) (notes : List Made) → length notes ≤ n → take n notes ≡ notes
take-few n notes few = take_all n notes few

-- ---- successive reads

module _ (ds : List ℕ) where
  ticks-one_if : (fetch : Bool) (b : Bus) (w want : ℕ)
      → (after_one ds b (record { w = w; want = want; fetch = fetch })).banks.ticks ≡ answered_at b.banks.ticks w (answer_at ds b w want)
  unfolding bus_after_read
  ticks-one_if true b w want = refl
  ticks-one_if false b w want = refl

  -- undoing a read restores the last answers of the banks
  back-one : (b : Bus) (r : Read) → answered_at (after_one ds b r).banks.ticks r.w (last_of b.banks.ticks r.w) ≡ b.banks.ticks
  back-one b r =
      ap (λ (answers : List ℕ). answered_at answers r.w (last_of b.banks.ticks r.w)) (ticks-one_if r.fetch b r.w r.want)
      ∙ put-back b.banks.ticks r.w (answer_at ds b r.w r.want)

  free-one : (b : Bus) (r : Read) → (after_one ds b r).free ≡ accept_at b r.w r.want + 1
  free-one b r = free-one_if ds r.fetch b r.w r.want

  free-rises : (reads : List Read) (b : Bus) → b.free ≤ (bus_after_reads ds reads b).free
  unfolding bus_after_reads
  free-rises [] b = omega arith
  free-rises (r ∷ reads) b = omega (arith, free-one b r, free-rises reads (after_one ds b r))

  pub logged-append : (first rest : List Read) (b : Bus) → notes_of_reads ds (first ++ rest) b ≡ notes_of_reads ds rest (bus_after_reads ds first b) ++ notes_of_reads ds first b
  unfolding notes_of_reads bus_after_reads
  logged-append [] rest b = sym (append-nil (notes_of_reads ds rest b))
  logged-append (r ∷ first) rest b =
      ap (λ (l : List Made). l ++ note b r ∷ []) (logged-append first rest (after_one ds b r))
      ∙ append_assoc (notes_of_reads ds rest (bus_after_reads ds first (after_one ds b r))) (notes_of_reads ds first (after_one ds b r)) (note b r ∷ [])

  pub logged-more : (reads : List Read) (r : Read) (b : Bus) → notes_of_reads ds (reads ++ r ∷ []) b ≡ note (bus_after_reads ds reads b) r ∷ notes_of_reads ds reads b
  unfolding notes_of_reads
  logged-more reads r b = logged-append reads (r ∷ []) b

  pub length-logged : (reads : List Read) (b : Bus) → length (notes_of_reads ds reads b) ≡ length reads
  unfolding notes_of_reads
  length-logged [] b = refl
  length-logged (r ∷ reads) b = length-append (notes_of_reads ds reads (after_one ds b r)) (note b r ∷ []) ∙ omega (arith, length-logged reads (after_one ds b r))

  -- reads are accepted before the first free tick of the bus after them
  pub logged-early : (reads : List Read) (b : Bus) → AreEarly (bus_after_reads ds reads b).free (notes_of_reads ds reads b)
  unfolding notes_of_reads bus_after_reads
  logged-early [] b = All-nil (λ (m : Made). m.tick < b.free)
  logged-early (r ∷ reads) b =
      let free = (bus_after_reads ds reads (after_one ds b r)).free in
      All-append (λ (m : Made). m.tick < free) (notes_of_reads ds reads (after_one ds b r)) (note b r ∷ []) (logged-early reads (after_one ds b r))
      (All-cons (λ (m : Made). m.tick < free) (note b r) [] (omega (arith, free-one b r, free-rises reads (after_one ds b r))) (All-nil (λ (m : Made). m.tick < free)))

  -- reads are accepted at the first free tick of the bus before them, or later
  logged-late : (reads : List Read) (b : Bus) → All (λ m. b.free ≤ m.tick) (notes_of_reads ds reads b)
  unfolding notes_of_reads
  logged-late [] b = All-nil (λ (m : Made). b.free ≤ m.tick)
  logged-late (r ∷ reads) b =
      All-append (λ (m : Made). b.free ≤ m.tick) (notes_of_reads ds reads (after_one ds b r)) (note b r ∷ [])
      (All-weaker (λ (m : Made). (after_one ds b r).free ≤ m.tick) (λ m. b.free ≤ m.tick) (λ m late. omega (arith, late, free-one b r)) (notes_of_reads ds reads (after_one ds b r))
      (logged-late reads (after_one ds b r)))
      (All-cons (λ (m : Made). b.free ≤ m.tick) (note b r) [] (omega arith) (All-nil (λ (m : Made). b.free ≤ m.tick)))

  pub logged-falls : (reads : List Read) (b : Bus) → AreFalling (notes_of_reads ds reads b)
  unfolding notes_of_reads
  logged-falls [] b = tt
  logged-falls (r ∷ reads) b =
      falling-more (note b r) (notes_of_reads ds reads (after_one ds b r)) (logged-falls reads (after_one ds b r))
      (All-weaker (λ (m : Made). (after_one ds b r).free ≤ m.tick) (λ m. (note b r).tick < m.tick) (λ m late. omega (arith, late, free-one b r)) (notes_of_reads ds reads (after_one ds b r))
      (logged-late reads (after_one ds b r)))

  -- ---- undone reads

  -- all reads are undone if the bus before them is not free before the tick
  all-undone : (t : ℕ) (reads : List Read) (b : Bus) (older : List Made) → t ≤ b.free
      → answers_left t (notes_of_reads ds reads b ++ older) (bus_after_reads ds reads b).banks.ticks ≡ answers_left t older b.banks.ticks
  unfolding notes_of_reads bus_after_reads
  all-undone t [] b older late = refl
  all-undone t (r ∷ reads) b older late =
      let behind = after_one ds b r in
      let last = (bus_after_reads ds reads behind).banks.ticks in
      ap (λ (l : List Made). answers_left t l last) (append_assoc (notes_of_reads ds reads behind) (note b r ∷ []) older)
      ∙ all-undone t reads behind (note b r ∷ older) (omega (arith, late, free-one b r))
      ∙ undone-late t (note b r) older behind.banks.ticks (omega (arith, late))
      ∙ ap (answers_left t older) (back-one b r)

  undone-step : (t : ℕ) (r : Read) (reads : List Read) (b : Bus) (older : List Made) (early_one : Bool) → nat_lt (accept_at b r.w r.want) t ≡ early_one
      → AreEarly t older
      → (AreEarly t (note b r ∷ older) → answers_left t (notes_of_reads ds reads (after_one ds b r) ++ note b r ∷ older) (bus_after_reads ds reads (after_one ds b r)).banks.ticks
      ≡ (made_before ds t reads (after_one ds b r)).banks.ticks)
      → answers_left t (notes_of_reads ds reads (after_one ds b r) ++ note b r ∷ older) (bus_after_reads ds reads (after_one ds b r)).banks.ticks
      ≡ (if early_one then made_before ds t reads (after_one ds b r) else b).banks.ticks
  undone-step t r reads b older true e early rest =
      rest (All-cons (λ (m : Made). m.tick < t) (note b r) older (ltb-true (accept_at b r.w r.want) t e) early)
  undone-step t r reads b older false e early rest =
      let late : t ≤ accept_at b r.w r.want = ltb-false (accept_at b r.w r.want) t e in
      all-undone t reads (after_one ds b r) (note b r ∷ older) (omega (arith, late, free-one b r))
      ∙ undone-late t (note b r) older (after_one ds b r).banks.ticks late
      ∙ ap (answers_left t older) (back-one b r)
      ∙ undone-settled t older b.banks.ticks (early-settled t older early)

  -- exactly the reads that are accepted before the tick remain
  pub undone-made : (t : ℕ) (reads : List Read) (b : Bus) (older : List Made) → AreEarly t older
      → answers_left t (notes_of_reads ds reads b ++ older) (bus_after_reads ds reads b).banks.ticks ≡ (made_before ds t reads b).banks.ticks
  unfolding notes_of_reads bus_after_reads made_before
  undone-made t [] b older early = undone-settled t older b.banks.ticks (early-settled t older early)
  undone-made t (r ∷ reads) b older early =
      ap (λ (l : List Made). answers_left t l (bus_after_reads ds reads (after_one ds b r)).banks.ticks) (append_assoc (notes_of_reads ds reads (after_one ds b r)) (note b r ∷ []) older)
      ∙ undone-step t r reads b older (nat_lt (accept_at b r.w r.want) t) refl early (undone-made t reads (after_one ds b r) (note b r ∷ older))

pub opened-log : (ds : List ℕ) (now : ℕ) (b : Bus) → IsLogged ds now [] b []
unfolding notes_of_reads
opened-log ds now b = record { older = []; early = All-nil (λ (m : Made). m.tick < now); notes = refl }
