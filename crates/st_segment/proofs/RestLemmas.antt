-- The parts of the state that predicted steps leave unchanged.
use Rattle.st_segment.proofs.Common.{◌≡◌, ℕ, zero, suc, ◌+◌, ◌<◌, ◌≤◌, ◌⊎◌, inl, inr, false, ◌&&◌, Option, None, refl, ◌∙◌, ap, IfSome, nat_lt, nat_le, leb-false, ltb-false, and_cases, or_parts, Machine, IsMachine, word, plan, plan-prepared, IsNotAmong, prediction, predicted-unwritten, predicted-following, words_to_write, entry, predictions, table_behind, RunAhead, is_word_written}
use Rattle.st_prep.specs.declared.entries.Words.{Words}
use Rattle.st_rows.specs.Entries.{is_in, is_among}
use Rattle.st_segment.proofs.PredictionLemmas.{prediction-machine, predictions-next}
use Rattle.st_segment.proofs.IndexLemmas.{prediction-past}

-- ---- low registers and the flag for interrupts

pub low-kept : (k : ℕ) (t : Option ℕ) (s : Machine) (w : ℕ) → IsMachine s → IfSome t (λ i. i < 64) → RunAhead k t s
    → w < 7 → word (predictions k t s) w ≡ word s w
unfolding predictions RunAhead
low-kept zero t s w m some free low = refl
low-kept (suc k) t s w m some free low =
    low-kept k None (prediction t s) w (prediction-machine t s m some) tt free.1 low
    ∙ (prediction-past t s m some free.0).low w low

pub enabled-kept : (k : ℕ) (t : Option ℕ) (s : Machine) → IsMachine s → IfSome t (λ i. i < 64) → RunAhead k t s
    → (predictions k t s).enabled ≡ s.enabled
unfolding predictions RunAhead
enabled-kept zero t s m some free = refl
enabled-kept (suc k) t s m some free =
    enabled-kept k None (prediction t s) (prediction-machine t s m some) tt free.1 ∙ (prediction-past t s m some free.0).enabled

-- ---- words that are not written

-- a word that is not in a run lies before it or after it
beside-run : (w first n : ℕ) → (nat_le first w && nat_lt w (first + n)) ≡ false → (w < first) ⊎ (first + n ≤ w)
beside-run w first n h =
    elim (and_cases (nat_le first w) (nat_lt w (first + n)) h) [
      | inl before ↦ inl (leb-false first w before)
      | inr after ↦ inr (ltb-false w (first + n) after)
    ]

not-among : (w : ℕ) (ws : Words) → is_among w (words_to_write ws) ≡ false → IsNotAmong w ws
unfolding is_among is_in
not-among w ws h =
    let both = or_parts _ _ h in
    record { first = beside-run w ws.first ws.len both.0; second = beside-run w ws.first2 ws.len2 both.1 }

unwritten-entry : (t : Option ℕ) (s : Machine) (w : ℕ) → IsMachine s → IfSome t (λ i. i < 64) → 32 ≤ w
    → is_among w (entry t s).writes ≡ false → word (prediction t s) w ≡ word s w
unfolding entry
unwritten-entry t s w m some above h =
    predicted-unwritten (plan s t) s w (plan-prepared s t m some) m above (not-among w (plan s t).writes h)

pub storage-kept : (k : ℕ) (t : Option ℕ) (s : Machine) (w : ℕ) → IsMachine s → IfSome t (λ i. i < 64) → 32 ≤ w
    → is_word_written k t s w ≡ false → word (predictions k t s) w ≡ word s w
unfolding predictions is_word_written
storage-kept zero t s w m some above h = refl
storage-kept (suc k) t s w m some above h =
    let both = or_parts (is_among w (entry t s).writes) (is_word_written k None (prediction t s) w) h in
    storage-kept k None (prediction t s) w (prediction-machine t s m some) tt above both.1
    ∙ unwritten-entry t s w m some above both.0

-- ---- the counter

pub counter-behind : (k : ℕ) (t : Option ℕ) (s : Machine) → (plan (predictions k t s) (table_behind k t)).serial ≡ false
    → (predictions (suc k) t s).ic ≡ (plan (predictions k t s) (table_behind k t)).following
counter-behind k t s free =
    let u = predictions k t s in
    ap (λ (v : Machine). v.ic) (predictions-next k t s) ∙ predicted-following (plan u (table_behind k t)) u free
