-- The contents of the words so far are those of the state before the entry, once their writers have completed.
use Rattle.st_next.proofs.Common.{◌≡◌, ℕ, zero, suc, ◌+◌, ◌≤◌, ◌<◌, List, ◌++◌, map, Option, refl, sym, ◌∙◌, ap, arith, add-zero, map-append, Machine, word, Place, index_words, place_of, Reading, reading_at_place, left_after, fetching_of, IsEntryInTime, IsReadable, WordRun, Entry, IssueState, Past, word_list_from, words_of_run, reading_at, IsStart, AreFirstWords, words_alone, words_so_far, IsStateBefore}
use Rattle.st_rows.proofs.Awaited.{awaited-own, awaited-target}

-- ---- the words so far are in the ranges of an entry

readable : (part whole : WordRun) → IsStart part whole → IsReadable whole → IsReadable part
readable part whole is lies = record {
  above = λ some. omega (arith, is.few, is.first some, lies.above (omega (arith, is.few)));
  inside = λ some. omega (arith, is.few, is.first some, lies.inside (omega (arith, is.few)));
}

no_words-readable : IsReadable (record { first = 0; len = 0 })
no_words-readable = record { above = λ some. absurd (omega arith); inside = λ some. absurd (omega arith) }

pub words-entry : (own target : WordRun) (e : Entry) → AreFirstWords own target e → IsEntryInTime e → IsEntryInTime (words_alone own target)
words-entry own target e are is = record {
  own = readable own e.own are.own_start is.own;
  own_few = omega (arith, are.own_start.few, is.own_few);
  target = readable target e.target are.target_start is.target;
  target_few = omega (arith, are.target_start.few, is.target_few);
  side = tt;
  one = no_words-readable;
  one_few = omega arith;
  two = no_words-readable;
  two_few = omega arith;
  costs = (omega arith, omega arith);
  follows = λ e. absurd (cc);
}

-- ---- contents

map-same : (g h : ℕ → ℕ) (w n : ℕ) → ((i : ℕ) → i < n → g (w + i) ≡ h (w + i)) → map g (word_list_from w n) ≡ map h (word_list_from w n)
unfolding word_list_from
map-same g h w zero same = refl
map-same g h w (suc n) same =
    let first : g w ≡ h w = rw add-zero at (same 0 (omega arith)) in
    let rest = map-same g h (w + 1) n (λ i few. next i (same (suc i) (omega arith))) in
    cc
  where
    next : (i : ℕ) → g (w + suc i) ≡ h (w + suc i) → g (w + 1 + i) ≡ h (w + 1 + i)
    next i e = let place : w + 1 + i ≡ w + suc i = omega arith in rw place e

pub contents-same : (ds : List ℕ) (now : ℕ) (f : IssueState) (x : List ℕ) (s u : Machine) (own target : WordRun)
    → IsStateBefore now f.past x s u → IsEntryInTime (words_alone own target) → (words_so_far ds f own target).awaited ≤ now
    → map (word s) (words_of_run own ++ words_of_run target) ≡ map (word u) (words_of_run own ++ words_of_run target)
contents-same ds now f x s u own target is words done =
    let e = words_alone own target in
    map-append (word s) (words_of_run own) (words_of_run target)
    ∙ ap (λ cs. cs ++ map (word s) (words_of_run target))
    (map-same (word s) (word u) own.first own.len (λ i few. sym (is.storage (own.first + i) (omega (arith, words.own.above (omega arith))) (omega (arith, done, awaited-own ds f e i few)))))
    ∙ ap (λ cs. map (word u) (words_of_run own) ++ cs)
    (map-same (word s) (word u) target.first target.len (λ i few. sym (is.storage (target.first + i) (omega (arith, words.target.above (omega arith))) (omega (arith, done, awaited-target ds f e i few)))))
    ∙ sym (map-append (word u) (words_of_run own) (words_of_run target))

-- ---- the next word, or the fetched instruction

pub reading-same : (now : ℕ) (past : List Past) (x : List ℕ) (s u : Machine) (t : Option ℕ) (p : Place) → IsStateBefore now past x s u
    → p ≡ place_of u t → reading_at_place x (word s 3) s.enabled p ≡ reading_at t u
reading-same now past x s u t p is place =
    ap (λ p. reading_at_place x (word s 3) s.enabled p) place ∙ ap (λ x. reading_at_place x (word s 3) s.enabled (place_of u t)) (sym is.index)
    ∙ ap (λ b. reading_at_place (index_words u) b s.enabled (place_of u t)) (sym is.bounds)
    ∙ ap (λ on. reading_at_place (index_words u) (word u 3) on (place_of u t)) (sym is.enabled)

pub given-same : (r q : Reading) (cs ds : List ℕ) → r ≡ q → cs ≡ ds → fetching_of (left_after r cs) ≡ fetching_of (left_after q ds)
given-same r q cs ds e f = ap (λ r. fetching_of (left_after r cs)) e ∙ ap (λ cs. fetching_of (left_after q cs)) f
