-- The undoing of several steps.
use Rattle.st_back.proofs.Common.{◌≡◌, ◌≢◌, ℕ, zero, suc, ◌-◌, List, [], ◌∷◌, ◌++◌, length, drop, refl, sym, ◌∙◌, ap, keep_last, Machine, IsMachine, Step, Plain, Interrupt, Waits, KeptStep, AreAlikeAbove, state_undone, step_with_word, word, Steps, IsStepKept, IsForth, IsPut, IsUndone, all_undone, states_before}
use Rattle.st_back.proofs.LawLemmas.{above-undone}

-- ---- one more step

all_undone-last : (ks : List KeptStep) (k : KeptStep) (s : Machine) → all_undone (ks ++ k ∷ []) s ≡ all_undone ks (state_undone k s)
unfolding all_undone
all_undone-last [] k s = refl
all_undone-last (j ∷ ks) k s = ap (state_undone j) (all_undone-last ks k s)

states_before-last : (ks : List KeptStep) (k : KeptStep) (s : Machine)
    → states_before (ks ++ k ∷ []) s ≡ states_before ks (state_undone k s) ++ state_undone k s ∷ []
unfolding states_before all_undone
states_before-last [] k s = refl
states_before-last (j ∷ ks) k s =
    ap (λ t. state_undone j t ∷ states_before (ks ++ k ∷ []) s) (all_undone-last ks k s)
    ∙ ap (λ ts. state_undone j (all_undone ks (state_undone k s)) ∷ ts) (states_before-last ks k s)

states_before-drop : (n : ℕ) (ks : List KeptStep) (s : Machine) → states_before (drop n ks) s ≡ drop n (states_before ks s)
unfolding states_before
states_before-drop zero ks s = refl
states_before-drop (suc n) [] s = refl
states_before-drop (suc n) (k ∷ ks) s = states_before-drop n ks s

length-states_before : (ks : List KeptStep) (s : Machine) → length (states_before ks s) ≡ length ks
unfolding states_before
length-states_before [] s = refl
length-states_before (k ∷ ks) s = ap suc (length-states_before ks s)

states_before-kept : (n : ℕ) (ks : List KeptStep) (s : Machine)
    → states_before (keep_last n ks) s ≡ keep_last n (states_before ks s)
states_before-kept n ks s =
    states_before-drop (length ks - n) ks s
    ∙ ap (λ m. drop (m - n) (states_before ks s)) (sym (length-states_before ks s))

-- ---- the calls

forth-kept : (a b : Steps) (s t : Machine) → IsStepKept a b s t
    → states_before b.kept t ≡ keep_last a.depth (states_before a.kept s ++ s ∷ [])
forth-kept a b s t h =
    ap (λ ks. states_before ks t) h.kept
    ∙ states_before-kept a.depth (a.kept ++ h.last ∷ []) t
    ∙ ap (keep_last a.depth)
    (states_before-last a.kept h.last t ∙ ap (λ u. states_before a.kept u ++ u ∷ []) h.before)

pub forth-states : (a b : Steps) (s t : Machine) (r : Step) → r ≢ Waits → IsForth a b s t r
    → states_before b.kept t ≡ keep_last a.depth (states_before a.kept s ++ s ∷ [])
forth-states a b s t Waits made h = absurd (made refl)
forth-states a b s t Plain made h = forth-kept a b s t h
forth-states a b s t (Interrupt i) made h = forth-kept a b s t h

pub put-states : (a b : Steps) (s t : Machine) (w x : ℕ) → IsPut a b s t w x
    → states_before b.kept t ≡ states_before a.kept s
put-states a b s t w x h =
    ap (λ ks. states_before ks t) h.is
    ∙ states_before-last h.others (step_with_word h.last w (word s w)) t
    ∙ ap (λ u. states_before h.others u ++ u ∷ []) h.before
    ∙ sym (ap (λ ks. states_before ks s) h.was ∙ states_before-last h.others h.last s)

pub back-states : (a b : Steps) (s t : Machine) → IsUndone a b s t
    → states_before a.kept s ≡ states_before b.kept t ++ t ∷ []
back-states a b s t h =
    ap (λ ks. states_before ks s) h.kept
    ∙ states_before-last b.kept h.last s
    ∙ ap (λ u. states_before b.kept u ++ u ∷ []) (sym h.state)

-- ---- changes in between

all_undone-above : (k : KeptStep) (ks : List KeptStep) (s t : Machine) → IsMachine s → AreAlikeAbove s t
    → all_undone (k ∷ ks) t ≡ all_undone (k ∷ ks) s
unfolding all_undone
all_undone-above k [] s t m h = above-undone k s t m h
all_undone-above k (j ∷ ks) s t m h = ap (state_undone k) (all_undone-above j ks s t m h)

pub between-states : (ks : List KeptStep) (s t : Machine) → IsMachine s → AreAlikeAbove s t
    → states_before ks t ≡ states_before ks s
unfolding states_before
between-states [] s t m h = refl
between-states (k ∷ ks) s t m h =
    ap (λ u. u ∷ states_before ks t) (all_undone-above k ks s t m h)
    ∙ ap (λ us. all_undone (k ∷ ks) s ∷ us) (between-states ks s t m h)
