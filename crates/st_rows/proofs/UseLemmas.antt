-- The uses of an entry, part by part.
use Rattle.st_rows.proofs.Common.{if◌then◌else◌, nat_lt, Bool, ◌≡◌, ℕ, zero, suc, ◌+◌, true, false, List, [], ◌∷◌, ◌++◌, Option, None, Some, refl, append_assoc, ap, sym, ◌∙◌, append-nil, words_of_storage, tick_of, word_asked, data_asked, side_asked, operands_asked, inside_asked, following_asked, fetches_asked, formed_asked, prepared_asked, Read, bus_if, answer_if, bus_after_request, own_uses, target_uses, index_uses, first_uses, second_uses, following_uses, first_read, tick_a, tick_p, words_tick, bus_a, uses_of_entry, reads_of_entry, answered_by, use_of, behind_use, uses, behind, wishes, read_made, reads_of, unused, wish_of, Wish, Operand, Following, bus_after_prefetch, request_inside, Bus, Entry, Past, Fetching, IssueState}
use Rattle.st_rows.specs.Uses.{Use}

-- ---- a word that is not held; it needs no read if it arrives at a given tick

-- the bus after the word
abbrev pub side_if : List ℕ → Bus → ℕ → ℕ → Option ℕ → Bus
side_if ds b w want o = bus_if ds b (record { w = w; want = want; fetch = false }) o

-- the progress through the operands after the word
abbrev pub read_if : List ℕ → Fetching → ℕ → ℕ → Option ℕ → Fetching
read_if ds s w p o = record {
  bus = side_if ds s.bus w p o;
  answered = answered_by Operand s.answered (answer_if ds s.bus w p o) o;
  awaited = s.awaited;
}

-- ---- words that are requested in two parts

module _ (ds : List ℕ) (past : List Past) where
  pub uses-append : (s : Fetching) (xs ys : List Wish)
      → uses ds past s (xs ++ ys) ≡ uses ds past s xs ++ uses ds past (behind ds past s (uses ds past s xs)) ys
  unfolding uses behind
  uses-append s [] ys = refl
  uses-append s (x ∷ xs) ys = ap (λ (us : List Use). use_of ds past s x ∷ us) (uses-append (behind_use ds past s (use_of ds past s x)) xs ys)

-- ---- the reads of a part

pub reads-append : (us vs : List Use) → reads_of (us ++ vs) ≡ reads_of us ++ reads_of vs
unfolding reads_of
reads-append [] vs = refl
reads-append (u ∷ us) vs = ap (λ (rs : List Read). read_made u.read u.unread ++ rs) (reads-append us vs) ∙ sym (append_assoc (read_made u.read u.unread) (reads_of us) (reads_of vs))

module _ (ds : List ℕ) (past : List Past) where
  pub operands-read : (s : Fetching) (p w n : ℕ) → reads_of (uses ds past s (wishes Operand p w n)) ≡ operands_asked past p w n
  unfolding reads_of uses wishes operands_asked
  operands-read s p w zero = refl
  operands-read s p w (suc n) =
      ap (λ (rs : List Read). data_asked past w p ++ rs)
      (operands-read (behind_use ds past s (use_of ds past s (record { role = Operand; w = w; from = p }))) p (w + 1) n)

  pub side-read : (s : Fetching) (side : Option ℕ) (a : ℕ) → reads_of (uses ds past s (wish_of side a)) ≡ side_asked past side a
  unfolding reads_of uses side_asked
  side-read s None a = refl
  side-read s (Some w) a = append-nil (data_asked past w a)

module _ (ds : List ℕ) (b : Bus) where
  followed_if : (follows one two : Bool) (w p : ℕ)
      → (behind ds [] (unused b p) (uses ds [] (unused b p)
      (if follows then (if one then record { role = Following; w = w; from = p } ∷ [] else []) ++ (if two then record { role = Following; w = w + 1; from = p } ∷ [] else []) else []))).bus
      ≡ (if follows then (if two then bus_after_request ds (if one then bus_after_request ds b w p else b) (w + 1) p else (if one then bus_after_request ds b w p else b)) else b)
  unfolding behind uses behind_use bus_after_request
  followed_if false one two w p = refl
  followed_if true true true w p = refl
  followed_if true true false w p = refl
  followed_if true false true w p = refl
  followed_if true false false w p = refl

  pub followed-is : (e : Entry) (p : ℕ)
      → bus_after_prefetch ds b e p ≡ (if e.follows then request_inside ds (request_inside ds b (e.own.first + e.own.len) p) (e.own.first + e.own.len + 1) p else b)
  unfolding bus_after_prefetch
  followed-is e p =
      let w = e.own.first + e.own.len in
      followed_if e.follows (nat_lt w words_of_storage) (nat_lt (w + 1) words_of_storage) w p

  following_if : (follows one two : Bool) (w p : ℕ)
      → reads_of (uses ds [] (unused b p)
      (if follows then (if one then record { role = Following; w = w; from = p } ∷ [] else []) ++ (if two then record { role = Following; w = w + 1; from = p } ∷ [] else []) else []))
      ≡ (if follows
      then (if one then word_asked (tick_of b.held.words w) w p else [])
      ++ (if two then word_asked (tick_of (if one then bus_after_request ds b w p else b).held.words (w + 1)) (w + 1) p else [])
      else [])
  unfolding reads_of uses behind_use bus_after_request
  following_if false one two w p = refl
  following_if true true true w p = ap (λ (rs : List Read). word_asked (tick_of b.held.words w) w p ++ rs) (append-nil _)
  following_if true true false w p = refl
  following_if true false true w p = append-nil _
  following_if true false false w p = refl

  pub following-is : (e : Entry) (p : ℕ)
      → following_asked ds b e p
      ≡ (if e.follows
      then inside_asked b (e.own.first + e.own.len) p ++ inside_asked (request_inside ds b (e.own.first + e.own.len) p) (e.own.first + e.own.len + 1) p
      else [])
  unfolding following_asked
  following-is e p =
      let w = e.own.first + e.own.len in
      following_if e.follows (nat_lt w words_of_storage) (nat_lt (w + 1) words_of_storage) w p

-- ---- all reads of an entry, in two parts

pub reads-are : (ds : List ℕ) (n : ℕ) (f : IssueState) (e : Entry) → reads_of_entry ds n f e ≡ formed_asked ds f e ++ prepared_asked ds n f e
unfolding reads_of_entry uses_of_entry fetches_asked following_asked
reads-are ds n f e =
    let p = tick_p ds n f e in
    rw (
      reads-append ((own_uses ds f e ++ target_uses ds f e) ++ index_uses ds f e) ((first_uses ds n f e ++ second_uses ds n f e) ++ following_uses ds n f e),
      reads-append (own_uses ds f e ++ target_uses ds f e) (index_uses ds f e),
      reads-append (own_uses ds f e) (target_uses ds f e),
      reads-append (first_uses ds n f e ++ second_uses ds n f e) (following_uses ds n f e),
      reads-append (first_uses ds n f e) (second_uses ds n f e),
      side-read ds f.past (unused (words_tick ds f e).bus 0) e.side (tick_a ds f e),
      operands-read ds f.past (unused (bus_a ds f e) p) p e.reads.one.first e.reads.one.len,
      operands-read ds f.past (first_read ds n f e) p e.reads.two.first e.reads.two.len,
    ) refl
