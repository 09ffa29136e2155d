-- Entries are in the ranges of the timetable.
use Rattle.st_segment.proofs.Common.{◌≡◌, ℕ, zero, suc, ◌+◌, ◌-◌, ◌<◌, ◌≤◌, Bool, true, false, ◌&&◌, if◌then◌else◌, List, [], ◌∷◌, ◌++◌, length, get_or, take, drop, Option, None, Some, refl, sym, subst, ◌∙◌, ap, arith, length-append, All, IfSome, is_none, nat_le, get_or_append_left, and_parts, leb-true, leb-false, Machine, IsMachine, word, index_words, place_of, words_fetched, needs, decode_context, plan, index_side_words, words_read, own_words, of_choice, plan-prepared, is_needs, fetched-outcome, reading-few, word_list_from, words_of_run, reading_at, instruction_words, own_count, run_of, above_registers, words_to_read, side_to_read, entry}
use Rattle.std.proofs.Math.Seq.{take-append_seam, drop-append_seam}
use Rattle.st_bits.specs.Storage.{words_of_storage}
use Rattle.st_prep.specs.Ranges.{IsPrepared, IsNeeds}
use Rattle.st_prep.proofs.CountLemmas.{few-plan}
use Rattle.st_rows.specs.declared.entry.WordRun.{WordRun}
use Rattle.st_rows.specs.Asked.{side_count, own_reads}
use Rattle.st_rows.specs.Ranges.{IsReadable, IsEntryInTime}
use Rattle.st_segment.proofs.InstructionRuns.{IsCut, reading-cut, reading-some}

-- ---- runs of words

length-words_from : (w n : ℕ) → length (word_list_from w n) ≡ n
unfolding word_list_from
length-words_from w zero = refl
length-words_from w (suc n) = ap suc (length-words_from (w + 1) n)

-- the run of consecutive words has these words
words-run : (w n : ℕ) → words_of_run (run_of (word_list_from w n)) ≡ word_list_from w n
unfolding word_list_from run_of
words-run w zero = refl
words-run w (suc n) = ap (λ k. w ∷ word_list_from (w + 1) k) (length-words_from (w + 1) n)

len-run : (ws : List ℕ) → (run_of ws).len ≡ length ws
unfolding run_of
len-run [] = refl
len-run (w ∷ ws) = refl

len-from : (w n : ℕ) → (run_of (word_list_from w n)).len ≡ n
len-from w n = len-run (word_list_from w n) ∙ length-words_from w n

take-issue : (ws vs : List ℕ) (n : ℕ) → length ws ≡ n → take n (ws ++ vs) ≡ ws
take-issue ws vs n e = ap (λ k. take k (ws ++ vs)) (sym e) ∙ take-append_seam ws vs

drop-issue : (ws vs : List ℕ) (n : ℕ) → length ws ≡ n → drop n (ws ++ vs) ≡ vs
drop-issue ws vs n e = ap (λ k. drop k (ws ++ vs)) (sym e) ∙ drop-append_seam ws vs

-- ---- the runs of an entry

cut : (t : Option ℕ) (s : Machine) → IsCut (word s) (reading_at t s)
cut t s = reading-cut (index_words s) (word s 3) s.enabled (place_of s t) (word s)

own-run : (t : Option ℕ) (s : Machine) → (entry t s).own ≡ run_of (word_list_from (cut t s).w (cut t s).n)
unfolding entry instruction_words own_count
own-run t s =
    let k = cut t s in
    ap (λ n. run_of (take n (words_read (reading_at t s) (word s)))) k.own
    ∙ ap (λ ws. run_of (take k.n ws)) k.words
    ∙ ap run_of (take-issue (word_list_from k.w k.n) (word_list_from k.v k.m) k.n (length-words_from k.w k.n))

target-run : (t : Option ℕ) (s : Machine) → (entry t s).target ≡ run_of (word_list_from (cut t s).v (cut t s).m)
unfolding entry instruction_words own_count
target-run t s =
    let k = cut t s in
    ap (λ n. run_of (drop n (words_read (reading_at t s) (word s)))) k.own
    ∙ ap (λ ws. run_of (drop k.n ws)) k.words
    ∙ ap run_of (drop-issue (word_list_from k.w k.n) (word_list_from k.v k.m) k.n (length-words_from k.w k.n))

pub entry-words : (t : Option ℕ) (s : Machine)
    → instruction_words t s ≡ words_of_run (entry t s).own ++ words_of_run (entry t s).target
unfolding instruction_words
entry-words t s =
    let k = cut t s in
    k.words
    ∙ ap (λ ws. ws ++ word_list_from k.v k.m) (sym (ap words_of_run (own-run t s) ∙ words-run k.w k.n))
    ∙ ap (λ ws. words_of_run (entry t s).own ++ ws) (sym (ap words_of_run (target-run t s) ∙ words-run k.v k.m))

pub entry-own : (t : Option ℕ) (s : Machine) → own_count t s ≡ (entry t s).own.len
unfolding own_count
entry-own t s =
    let k = cut t s in k.own ∙ sym (ap (λ (r : WordRun). r.len) (own-run t s) ∙ len-from k.w k.n)

-- ---- they can be read

first-from : (w n : ℕ) → (run_of (word_list_from w (suc n))).first ≡ w
unfolding word_list_from run_of
first-from w n = refl

nth-from : (w n k d : ℕ) → k < n → get_or (word_list_from w n) k d ≡ w + k
unfolding word_list_from
nth-from w zero k d h = absurd (omega arith)
nth-from w (suc n) zero d h = omega arith
nth-from w (suc n) (suc k) d h =
    let rest : get_or (word_list_from (w + 1) n) k d ≡ w + 1 + k = nth-from (w + 1) n k d (omega arith) in omega (arith, rest)

readable-from : (w n : ℕ) → All (λ v. 32 ≤ v) (word_list_from w n) → All (λ v. v < words_of_storage) (word_list_from w n)
    → IsReadable (run_of (word_list_from w n))
readable-from w zero above inside =
    let none : (run_of (word_list_from w 0)).len ≡ 0 = len-from w 0 in
    record { above = λ h. absurd (omega arith); inside = λ h. absurd (omega arith) }
readable-from w (suc n) above inside =
    let first : (run_of (word_list_from w (suc n))).first ≡ w = first-from w n in
    let long : length (word_list_from w (suc n)) ≡ suc n = length-words_from w (suc n) in
    let len : (run_of (word_list_from w (suc n))).len ≡ suc n = len-from w (suc n) in
    let head : 32 ≤ get_or (word_list_from w (suc n)) 0 0 = above 0 0 (omega arith) in
    let last : get_or (word_list_from w (suc n)) n 0 < words_of_storage = inside n 0 (omega arith) in
    let head_is : get_or (word_list_from w (suc n)) 0 0 ≡ w + 0 = nth-from w (suc n) 0 0 (omega arith) in
    let last_is : get_or (word_list_from w (suc n)) n 0 ≡ w + n = nth-from w (suc n) n 0 (omega arith) in
    record { above = λ h. omega arith; inside = λ h. omega arith }

all-left : (P : ℕ → Type 0) (xs ys : List ℕ) → All P (xs ++ ys) → All P xs
all-left P xs ys h k d few =
    subst P (get_or_append_left xs ys d k few) (h k d (omega (arith, length-append xs ys)))

all-right : (P : ℕ → Type 0) (xs ys : List ℕ) → All P (xs ++ ys) → All P ys
all-right P [] ys h = h
all-right P (x ∷ xs) ys h = all-right P xs ys (λ k d few. h (suc k) d (omega arith))

-- a run without the registers at its start
readable-by : (b : Bool) (w n : ℕ) → nat_le 32 w ≡ b → (1 ≤ n → w + n ≤ words_of_storage)
    → IsReadable (if b then record { first = w; len = n } else record { first = 32; len = n - (32 - w) })
readable-by true w n e inside = record { above = λ h. leb-true 32 w e; inside = inside }
readable-by false w n e inside =
    let low : w < 32 = leb-false 32 w e in
    record {
      above = λ h. omega arith;
      inside = λ h. let all : w + n ≤ words_of_storage = inside (omega arith) in omega arith;
    }

readable-above : (w n : ℕ) → (1 ≤ n → w + n ≤ words_of_storage) → IsReadable (above_registers w n)
unfolding above_registers
readable-above w n inside = readable-by (nat_le 32 w) w n refl inside

few-above : (w n : ℕ) → (above_registers w n).len ≤ n
unfolding above_registers
few-above w n =
    of_choice (λ (r : WordRun). r.len ≤ n) (nat_le 32 w) (record { first = w; len = n })
    (record { first = 32; len = n - (32 - w) }) (omega arith) (omega arith)

-- ---- the index-side word

side-by : (b : Bool) (w : ℕ) → nat_le 32 w ≡ b → w < words_of_storage
    → IfSome (if b then Some w else None) (λ v. (32 ≤ v) × (v < words_of_storage))
side-by true w e inside = (leb-true 32 w e, inside)
side-by false w e inside = tt

side-fits : (q : Option ℕ) → IfSome q (λ w. w < words_of_storage)
    → IfSome (side_to_read q) (λ w. (32 ≤ w) × (w < words_of_storage))
unfolding side_to_read
side-fits None inside = tt
side-fits (Some w) inside = side-by (nat_le 32 w) w refl inside

side-one : (w : ℕ) (b : Bool) → side_count (if b then Some w else None) ≤ 1
side-one w true = omega arith
side-one w false = omega arith

side-few : (q : Option ℕ) → side_count (side_to_read q) ≤ index_side_words q
unfolding side_to_read
side-few None = omega arith
side-few (Some w) = side-one w (nat_le 32 w)

-- ---- the entry

above-words : (t : Option ℕ) (s : Machine)
    → All (λ w. 32 ≤ w) (word_list_from (cut t s).w (cut t s).n ++ word_list_from (cut t s).v (cut t s).m)
above-words t s =
    subst (All (λ w. 32 ≤ w)) (cut t s).words
    (reading-few (index_words s) (word s 3) s.enabled (place_of s t) (word s)).above

inside-words : (t : Option ℕ) (s : Machine)
    → All (λ w. w < words_of_storage) (word_list_from (cut t s).w (cut t s).n ++ word_list_from (cut t s).v (cut t s).m)
inside-words t s =
    subst (All (λ w. w < words_of_storage)) (cut t s).words
    (reading-few (index_words s) (word s 3) s.enabled (place_of s t) (word s)).inside

readable-own : (t : Option ℕ) (s : Machine) → IsReadable (entry t s).own
readable-own t s =
    let k = cut t s in
    let ws = word_list_from k.w k.n in
    let vs = word_list_from k.v k.m in
    subst IsReadable (sym (own-run t s))
    (readable-from k.w k.n (all-left (λ w. 32 ≤ w) ws vs (above-words t s))
    (all-left (λ w. w < words_of_storage) ws vs (inside-words t s)))

readable-target : (t : Option ℕ) (s : Machine) → IsReadable (entry t s).target
readable-target t s =
    let k = cut t s in
    let ws = word_list_from k.w k.n in
    let vs = word_list_from k.v k.m in
    subst IsReadable (sym (target-run t s))
    (readable-from k.v k.m (all-right (λ w. 32 ≤ w) ws vs (above-words t s))
    (all-right (λ w. w < words_of_storage) ws vs (inside-words t s)))

target-len : (t : Option ℕ) (s : Machine) → (entry t s).target.len ≡ (cut t s).m
target-len t s = let k = cut t s in ap (λ (r : WordRun). r.len) (target-run t s) ∙ len-from k.v k.m

own-few : (t : Option ℕ) (s : Machine) → (entry t s).own.len ≤ 2
unfolding own_count
own-few t s =
    let k = cut t s in
    let len : (entry t s).own.len ≡ k.n = sym (entry-own t s) ∙ k.own in
    omega (arith, k.few)

target-few : (t : Option ℕ) (s : Machine) → (entry t s).target.len ≤ 2
target-few t s = omega (arith, target-len t s, (cut t s).few_target)

followed : (t : Option ℕ) (s : Machine) → (is_none t && is_none (words_fetched s (place_of s t)).fault) ≡ true
    → 1 ≤ (entry t s).own.len
unfolding own_count
followed t s e =
    let p = place_of s t in
    let free : is_none (words_fetched s p).fault ≡ true = (and_parts (is_none t) _ e).1 in
    let some : 1 ≤ own_words (reading_at t s) (word s) =
    reading-some (index_words s) (word s 3) s.enabled p (word s) (subst (λ f. is_none f.fault ≡ true) (fetched-outcome s p) free) in
    subst (λ n. 1 ≤ n) (entry-own t s) some

pub entry-ranges : (t : Option ℕ) (s : Machine) → IsMachine s → IfSome t (λ i. i < 64) → IsEntryInTime (entry t s)
unfolding entry words_to_read
entry-ranges t s m some =
    let p : IsPrepared (plan s t) = plan-prepared s t m some in
    let needed : IsNeeds (needs (decode_context s (place_of s t))) = is_needs (decode_context s (place_of s t)) in
    let reads = (plan s t).reads in
    record {
      own = readable-own t s;
      own_few = own-few t s;
      target = readable-target t s;
      target_few = target-few t s;
      side = side-fits (needs (decode_context s (place_of s t))).index_read needed.inside;
      one = readable-above reads.first reads.len p.reads_inside.inside;
      one_few = omega (arith, few-above reads.first reads.len, p.reads.few);
      two = readable-above reads.first2 reads.len2 p.reads_inside.inside2;
      two_few = omega (arith, few-above reads.first2 reads.len2, p.reads.few2);
      costs = (p.some_cost, p.cost);
      follows = followed t s;
    }

lengths : (t : Option ℕ) (s : Machine)
    → length (instruction_words t s) ≡ (entry t s).own.len + (entry t s).target.len
unfolding instruction_words own_count
lengths t s =
    let k = cut t s in
    let all : length (words_read (reading_at t s) (word s)) ≡ k.n + k.m =
    ap length k.words
    ∙ length-append (word_list_from k.w k.n) (word_list_from k.v k.m)
    ∙ ap (λ n. n + length (word_list_from k.v k.m)) (length-words_from k.w k.n)
    ∙ ap (λ n. k.n + n) (length-words_from k.v k.m) in
    let own : (entry t s).own.len ≡ k.n = sym (entry-own t s) ∙ k.own in
    omega (arith, target-len t s)

pub entry-reads : (t : Option ℕ) (s : Machine) → IsMachine s → IfSome t (λ i. i < 64) → own_reads (entry t s) ≤ 36
unfolding entry words_to_read instruction_words
entry-reads t s m some =
    let reads = (plan s t).reads in
    omega (
      arith,
      lengths t s,
      few-plan s t m some,
      few-above reads.first reads.len,
      few-above reads.first2 reads.len2,
      side-few (needs (decode_context s (place_of s t))).index_read,
    )
