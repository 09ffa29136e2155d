-- The words so far, and the remaining words.
use Rattle.st_next.proofs.Common.{◌≡◌, ℕ, zero, suc, ◌+◌, ◌-◌, ◌≤◌, ◌<◌, List, [], ◌∷◌, ◌++◌, length, get_or, take, map, append_assoc, refl, sym, ◌∙◌, ap, arith, length-append, add-zero, zero-add, suc-add, append-nil, get_or_append_left, get_or-append_right, is_none, is_some, WordRun, Entry, run_of, word_list_from, words_of_run, IsStart, AreFirstWords, run_with_word}
use Rattle.std.specs.Prelude.{◌==◌, if◌then◌else◌, Bool, true, false}

pub length-words : (w n : ℕ) → length (word_list_from w n) ≡ n
unfolding word_list_from
length-words w zero = refl
length-words w (suc n) = ap suc (length-words (w + 1) n)

pub words-split : (w m k : ℕ) → word_list_from w (m + k) ≡ word_list_from w m ++ word_list_from (w + m) k
unfolding word_list_from
words-split w zero k = rw (zero-add k, add-zero w) refl
words-split w (suc m) k =
    let place : w + 1 + m ≡ w + suc m = omega arith in
    rw (suc-add m k) (ap (λ ws. w ∷ ws) (words-split (w + 1) m k ∙ ap (λ v. word_list_from (w + 1) m ++ word_list_from v k) place))

words-none : (w n : ℕ) → n ≡ 0 → word_list_from w n ≡ []
unfolding word_list_from
words-none w zero e = refl
words-none w (suc n) e = absurd (omega arith)

-- the words of a run after its first ones
abbrev pub behind : WordRun → WordRun → List ℕ
behind part whole = word_list_from (whole.first + part.len) (whole.len - part.len)

-- the place of an empty list of words does not matter
start_if : (v w n : ℕ) → (1 ≤ n → v ≡ w) → word_list_from v n ≡ word_list_from w n
start_if v w zero e = words-none v 0 refl ∙ sym (words-none w 0 refl)
start_if v w (suc n) e = ap (λ x. word_list_from x (suc n)) (e (omega arith))

start-split : (part whole : WordRun) → IsStart part whole → words_of_run whole ≡ words_of_run part ++ behind part whole
start-split part whole is =
    let cut : part.len + (whole.len - part.len) ≡ whole.len = omega (arith, is.few) in
    ap (word_list_from whole.first) (sym cut) ∙ words-split whole.first part.len (whole.len - part.len)
    ∙ ap (λ ws. ws ++ behind part whole) (sym (start_if part.first whole.first part.len is.first))

same-first : (n v w : ℕ) → (1 ≤ n → v ≡ w) → (n ≡ 0 → v ≡ 0) → (n ≡ 0 → w ≡ 0) → v ≡ w
same-first zero v w some none other = none refl ∙ sym (other refl)
same-first (suc n) v w some none other = some (omega arith)

abbrev run_at : ℕ → ℕ → WordRun
run_at first len = record { first = first; len = len }

-- the first words of a run are the run, if they are as many
pub start-whole : (part whole : WordRun) → IsStart part whole → (whole.len ≡ 0 → whole.first ≡ 0) → whole.len ≤ part.len → part ≡ whole
start-whole part whole is none all =
    let len : part.len ≡ whole.len = omega (arith, is.few) in
    let first : part.first ≡ whole.first = same-first part.len part.first whole.first is.first is.none (λ e. none (sym len ∙ e)) in
    ap (λ v. run_at v part.len) first ∙ ap (run_at whole.first) len

-- the remaining words of an entry
abbrev pub left_of : WordRun → WordRun → Entry → List ℕ
left_of own target e = behind own e.own ++ behind target e.target

split-both : (n : ℕ) (a b x y : List ℕ) → (n ≡ 0 → y ≡ []) → (1 ≤ n → b ≡ []) → (a ++ b) ++ (y ++ x) ≡ (a ++ y) ++ (b ++ x)
split-both zero a b x y none some = rw (none refl, append-nil a) (append_assoc a b x)
split-both (suc n) a b x y none some =
    let no : b ≡ [] = some (omega arith) in rw (no, append-nil a) (sym (append_assoc a y x))

own-behind : (own target : WordRun) (e : Entry) → own ≡ e.own → behind own e.own ≡ []
own-behind own target e same = words-none (e.own.first + own.len) (e.own.len - own.len) (omega (arith, ap (λ (r : WordRun). r.len) same))

pub first-left : (own target : WordRun) (e : Entry) → AreFirstWords own target e
    → words_of_run e.own ++ words_of_run e.target ≡ (words_of_run own ++ words_of_run target) ++ left_of own target e
first-left own target e are =
    rw (start-split own e.own are.own_start, start-split target e.target are.target_start)
    (split-both target.len (words_of_run own) (behind own e.own) (behind target e.target) (words_of_run target)
    (λ none. words-none target.first target.len none) (λ some. own-behind own target e (are.all_own some)))

pub length-first : (own target : WordRun) → length (words_of_run own ++ words_of_run target) ≡ own.len + target.len
length-first own target = length-append (words_of_run own) (words_of_run target) ∙ ap (λ n. n + length (words_of_run target)) (length-words own.first own.len) ∙ ap (λ n. own.len + n) (length-words target.first target.len)

-- ---- the first remaining word

-- the first of consecutive words
words-first : (v n w : ℕ) (rest : List ℕ) → word_list_from v n ≡ w ∷ rest → (1 ≤ n) × (w ≡ v)
unfolding word_list_from
words-first v zero w rest e = absurd (cc)
words-first v (suc n) w rest e = (omega arith, cc)

words-nil : (v n : ℕ) → word_list_from v n ≡ [] → n ≡ 0
unfolding word_list_from
words-nil v zero e = refl
words-nil v (suc n) e = absurd (cc)

append-first : (n v w : ℕ) (x rest : List ℕ) → word_list_from v n ++ x ≡ w ∷ rest → 1 ≤ n → w ≡ v
unfolding word_list_from
append-first zero v w x rest e some = absurd (omega arith)
append-first (suc n) v w x rest e some = cc

-- an own word is next
pub record IsNextOwn (own target : WordRun) (e : Entry) (w : ℕ) : Type 0 where
  pub none : target.len ≡ 0
  pub more : own.len < e.own.len
  pub place : w ≡ e.own.first + own.len

no-target : (n own whole : ℕ) → (1 ≤ n → own ≡ whole) → own + n < whole → n ≡ 0
no-target zero own whole all more = refl
no-target (suc n) own whole all more = let same : own ≡ whole = all (omega arith) in absurd (omega arith)

pub next-own : (own target : WordRun) (e : Entry) (w : ℕ) (rest : List ℕ) → AreFirstWords own target e → left_of own target e ≡ w ∷ rest
    → own.len + target.len < e.own.len → IsNextOwn own target e w
next-own own target e w rest are left more =
    let none : target.len ≡ 0 = no-target target.len own.len e.own.len (λ some. ap (λ (r : WordRun). r.len) (are.all_own some)) more in
    record {
      none = none;
      more = omega arith;
      place = append-first (e.own.len - own.len) (e.own.first + own.len) w (behind target e.target) rest left (omega arith);
    }

-- a word of the target is next
pub record IsNextTarget (own target : WordRun) (e : Entry) (w : ℕ) : Type 0 where
  pub all : own ≡ e.own
  pub more : target.len < e.target.len
  pub place : w ≡ e.target.first + target.len

all-there : (n : ℕ) (own whole : WordRun) → IsStart own whole → (whole.len ≡ 0 → whole.first ≡ 0) → (1 ≤ n → own ≡ whole)
    → whole.len ≤ own.len + n → own ≡ whole
all-there zero own whole is none all enough = start-whole own whole is none (omega arith)
all-there (suc n) own whole is none all enough = all (omega arith)

pub next-target : (own target : WordRun) (e : Entry) (w : ℕ) (rest : List ℕ) → AreFirstWords own target e → (e.own.len ≡ 0 → e.own.first ≡ 0)
    → left_of own target e ≡ w ∷ rest → e.own.len ≤ own.len + target.len → IsNextTarget own target e w
next-target own target e w rest are none left enough =
    let all : own ≡ e.own = all-there target.len own e.own are.own_start none are.all_own enough in
    let only : behind target e.target ≡ w ∷ rest = ap (λ ws. ws ++ behind target e.target) (sym (own-behind own target e all)) ∙ left in
    let first = words-first (e.target.first + target.len) (e.target.len - target.len) w rest only in
    record { all = all; more = omega (arith, first.0); place = first.1 }

-- no word is next
pub record IsAll (own target : WordRun) (e : Entry) : Type 0 where
  pub own_all : own ≡ e.own
  pub target_all : target ≡ e.target

append-none : (xs ys : List ℕ) → xs ++ ys ≡ [] → (xs ≡ []) × (ys ≡ [])
append-none [] ys e = (refl, e)
append-none (x ∷ xs) ys e = absurd (cc)

pub next-none : (own target : WordRun) (e : Entry) → AreFirstWords own target e → (e.own.len ≡ 0 → e.own.first ≡ 0)
    → (e.target.len ≡ 0 → e.target.first ≡ 0) → left_of own target e ≡ [] → IsAll own target e
next-none own target e are none_own none_target left =
    let both = append-none (behind own e.own) (behind target e.target) left in
    let a = words-nil (e.own.first + own.len) (e.own.len - own.len) both.0 in
    let b = words-nil (e.target.first + target.len) (e.target.len - target.len) both.1 in
    record {
      own_all = start-whole own e.own are.own_start none_own (omega (arith, a));
      target_all = start-whole target e.target are.target_start none_target (omega (arith, b));
    }

-- ---- one more word

first_by : (b : Bool) (n w v : ℕ) → (n == 0) ≡ b → (1 ≤ n → v ≡ w) → (if b then w + n else v) ≡ w
first_by true n w v e some = omega (arith, is_none n e)
first_by false n w v e some = some (is_some n e)

first_if : (n w v : ℕ) → (1 ≤ n → v ≡ w) → (if n == 0 then w + n else v) ≡ w
first_if n w v some = first_by (n == 0) n w v refl some

start-word : (part whole : WordRun) (w : ℕ) → IsStart part whole → part.len < whole.len → w ≡ whole.first + part.len
    → IsStart (run_with_word part w) whole
start-word part whole w is more place = record {
  few = omega arith;
  first = λ some. ap (λ v. if part.len == 0 then v else part.first) place ∙ first_if part.len whole.first part.first is.first;
  none = λ none. absurd (omega arith);
}

pub own-more : (own target : WordRun) (e : Entry) (w : ℕ) → AreFirstWords own target e → IsNextOwn own target e w
    → AreFirstWords (run_with_word own w) target e
own-more own target e w are is = record {
  own_start = start-word own e.own w are.own_start is.more is.place;
  target_start = are.target_start;
  all_own = λ some. absurd (omega (arith, is.none));
}

pub target-more : (own target : WordRun) (e : Entry) (w : ℕ) → AreFirstWords own target e → IsNextTarget own target e w
    → AreFirstWords own (run_with_word target w) e
target-more own target e w are is = record {
  own_start = are.own_start;
  target_start = start-word target e.target w are.target_start is.more is.place;
  all_own = λ some. is.all;
}

-- the word after the first words of a run
pub word-behind : (part whole : WordRun) (w : ℕ) → IsStart part whole → w ≡ whole.first + part.len → 1 ≤ part.len → w ≡ part.first + part.len
word-behind part whole w is place some = place ∙ ap (λ v. v + part.len) (sym (is.first some))

-- the run of no words begins at 0
pub run_of-none : (ws : List ℕ) → (run_of ws).len ≡ 0 → (run_of ws).first ≡ 0
unfolding run_of
run_of-none [] e = refl
run_of-none (w ∷ ws) e = absurd (omega arith)

-- ---- the words by their places

words-at : (w n k : ℕ) → k < n → get_or (word_list_from w n) k 0 ≡ w + k
unfolding word_list_from
words-at w zero k few = absurd (omega arith)
words-at w (suc n) zero few = omega arith
words-at w (suc n) (suc k) few = words-at (w + 1) n k (omega arith) ∙ (omega arith)

pub own-at : (own target : WordRun) (k : ℕ) → k < own.len → get_or (words_of_run own ++ words_of_run target) k 0 ≡ own.first + k
own-at own target k few =
    get_or_append_left (words_of_run own) (words_of_run target) 0 k (omega (arith, length-words own.first own.len))
    ∙ words-at own.first own.len k few

pub target-at : (own target : WordRun) (k : ℕ) → own.len ≤ k → k - own.len < target.len
    → get_or (words_of_run own ++ words_of_run target) k 0 ≡ target.first + (k - own.len)
target-at own target k more few =
    get_or-append_right (words_of_run own) (words_of_run target) own.len k 0 (length-words own.first own.len) more
    ∙ words-at target.first target.len (k - own.len) few

-- four contents at most
pub take-map_four : (g : ℕ → ℕ) (ws : List ℕ) (n a b c d : ℕ) → length ws ≡ n → n ≤ 4 → (0 < n → a ≡ g (get_or ws 0 0)) → (1 < n → b ≡ g (get_or ws 1 0))
    → (2 < n → c ≡ g (get_or ws 2 0)) → (3 < n → d ≡ g (get_or ws 3 0)) → take n (a ∷ b ∷ c ∷ d ∷ []) ≡ map g ws
take-map_four g ws n a b c d size few ha hb hc hd = rw (sym size) (four ws (few_of size few) (λ h. ha (rw size at h)) (λ h. hb (rw size at h)) (λ h. hc (rw size at h)) (λ h. hd (rw size at h)))
  where
    few_of : length ws ≡ n → n ≤ 4 → length ws ≤ 4
    few_of e h = omega arith

    four : (vs : List ℕ) → length vs ≤ 4 → (0 < length vs → a ≡ g (get_or vs 0 0)) → (1 < length vs → b ≡ g (get_or vs 1 0))
        → (2 < length vs → c ≡ g (get_or vs 2 0)) → (3 < length vs → d ≡ g (get_or vs 3 0)) → take (length vs) (a ∷ b ∷ c ∷ d ∷ []) ≡ map g vs
    four [] h pa pb pc pd = refl
    four (v ∷ []) h pa pb pc pd = ap (λ x. x ∷ []) (pa (omega arith))
    four (v ∷ w ∷ []) h pa pb pc pd = let ea = pa (omega arith) in let eb = pb (omega arith) in cc
    four (v ∷ w ∷ x ∷ []) h pa pb pc pd = let ea = pa (omega arith) in let eb = pb (omega arith) in let ec = pc (omega arith) in cc
    four (v ∷ w ∷ x ∷ y ∷ []) h pa pb pc pd = let ea = pa (omega arith) in let eb = pb (omega arith) in let ec = pc (omega arith) in let ed = pd (omega arith) in cc
    four (v ∷ w ∷ x ∷ y ∷ z ∷ vs) h pa pb pc pd = absurd (omega arith)

-- no content, and one
pub none-read : (g : ℕ → ℕ) (ws : List ℕ) (n : ℕ) → length ws ≡ n → n ≡ 0 → [] ≡ map g ws
none-read g [] n size none = refl
none-read g (v ∷ vs) n size none = absurd (omega (arith, size, none))

pub one-read : (g : ℕ → ℕ) (ws : List ℕ) (n a : ℕ) → length ws ≡ n → n ≡ 1 → a ≡ g (get_or ws 0 0) → a ∷ [] ≡ map g ws
one-read g [] n a size one is = absurd (omega (arith, size, one))
one-read g (v ∷ []) n a size one is = ap (λ x. x ∷ []) is
one-read g (v ∷ w ∷ vs) n a size one is = absurd (omega (arith, size, one))

pub two-read : (g : ℕ → ℕ) (ws : List ℕ) (n a b : ℕ) → length ws ≡ n → n ≡ 2 → a ≡ g (get_or ws 0 0) → b ≡ g (get_or ws 1 0) → a ∷ b ∷ [] ≡ map g ws
two-read g [] n a b size two is other = absurd (omega (arith, size, two))
two-read g (v ∷ []) n a b size two is other = absurd (omega (arith, size, two))
two-read g (v ∷ w ∷ []) n a b size two is other = ap (λ x. x ∷ b ∷ []) is ∙ ap (λ x. g v ∷ x ∷ []) other
two-read g (v ∷ w ∷ x ∷ vs) n a b size two is other = absurd (omega (arith, size, two))
