-- The index words with the speculative changes of the entries in flight.
use Rattle.st_segment.proofs.Common.{◌≡◌, ℕ, zero, suc, ◌<◌, false, Option, None, refl, sym, ◌∙◌, ap, IfSome, Machine, IsMachine, words_after, index_words, plan, plan-prepared, IsPast, prediction, speculative-index_words, predicted-past, predictions, table_behind, split_words, RunAhead}
use Rattle.st_segment.proofs.PredictionLemmas.{behind-none, behind-indicator, predictions-machine, predictions-next}

-- the predicted state after an entry that is not serializing
pub prediction-past : (t : Option ℕ) (s : Machine) → IsMachine s → IfSome t (λ i. i < 64) → (plan s t).serial ≡ false
    → IsPast (plan s t) s (prediction t s)
prediction-past t s m some free = predicted-past (plan s t) s (plan-prepared s t m some) m free

-- of k + 1 entries that are not serializing, the last one
pub last-ahead : (k : ℕ) (t : Option ℕ) (s : Machine) → RunAhead (suc k) t s
    → (plan (predictions k t s) (table_behind k t)).serial ≡ false
unfolding RunAhead predictions
last-ahead zero t s free = free.0
last-ahead (suc k) t s free =
    let u = predictions k None (prediction t s) in
    ap (λ i. (plan u i).serial) (sym (behind-none k)) ∙ last-ahead k None (prediction t s) free.1

pub split-change : (k : ℕ) (t : Option ℕ) (s : Machine) → IsMachine s → IfSome t (λ i. i < 64)
    → split_words (suc k) t s
    ≡ words_after (index_words (predictions k t s)) (plan (predictions k t s) (table_behind k t)).index
unfolding split_words
split-change k t s m some =
    let u = predictions k t s in
    let i = table_behind k t in
    let n = predictions-machine k t s m some in
    speculative-index_words (plan u i) u i (plan-prepared u i n (behind-indicator k t some)) n

pub index-split : (k : ℕ) (t : Option ℕ) (s : Machine) → IsMachine s → IfSome t (λ i. i < 64) → RunAhead k t s
    → index_words (predictions k t s) ≡ split_words k t s
unfolding predictions split_words
index-split zero t s m some free = refl
index-split (suc k) t s m some free =
    let u = predictions k t s in
    let i = table_behind k t in
    let n = predictions-machine k t s m some in
    ap index_words (predictions-next k t s)
    ∙ (prediction-past i u n (behind-indicator k t some) (last-ahead k t s free)).index
    ∙ sym (split-change k t s m some)
