-- Levels record the index words that they replace, and give those with all speculative changes.
use Rattle.st_ring.proofs.Common.{◌≡◌, ℕ, suc, ◌-◌, ◌<◌, Bool, true, false, ℤ, List, [], ◌∷◌, length, Option, None, Some, refl, sym, subst, ◌∙◌, ap₂, arith, IfSome, nat_lt, if◌then◌else◌, slice_index, Machine, IsMachine, change_of_index, change_of_comparison, without_change, half_change, progressive_change, change, words_after, index_words, place_of, decode_context, resolved, needs, side_word, suppressed_entry, prepared_by, prepared_entry, plan, Prepared, prediction, issue_after_entry, IssueState, Level, index_words_after, ChangeKeeps, Kept, entry, predictions, split_words, RunAhead, prediction-machine, prediction-past, split-change, AreLevels, PlannedRow}
use Rattle.st_bits.specs.declared.operations.HalfOp.{HalfOp}
use Rattle.st_bits.specs.declared.operations.HalfOp.TheVariants.{Lx, Lv, Lc, Lr, VPlus, VPlusC, Kv, Lvs, Lvi, Lci, Lri, VPlusI, VMinusI, VPlusIC, VPlusICR, Kvi, Kc, Kci, Cb, Cbr, R}
use Rattle.st_format.specs.declared.instruction.Instr.{Instr}
use Rattle.st_format.specs.declared.instruction.Instr.TheVariants.{Half, Vfl, Connect}
use Rattle.st_prep.specs.Plan.{entry_at as entry_of}
use Rattle.st_prep.specs.declared.entries.ResolvedEntry.{ResolvedEntry}
use Rattle.st_prep.specs.declared.entries.Place.{Place}
use Rattle.st_ring.proofs.DoneLemmas.{split-behind, behind-serial, behind-rest}

-- ---- a change records the word that it replaces

changed-keeps : (xs : List ℕ) (j y : ℕ) (refill : Option ℕ) → ChangeKeeps xs (change_of_index j (slice_index xs j) y refill).index
unfolding change_of_index
changed-keeps xs j y refill = refl

compared-keeps : (xs : List ℕ) (a b : ℤ) → ChangeKeeps xs (change_of_comparison a b).index
unfolding change_of_comparison
compared-keeps xs a b = tt

progressive-keeps_if : (b : Bool) (xs : List ℕ) (i y : ℕ) (read : Option ℕ)
    → ChangeKeeps xs (if b then without_change else change_of_index i (slice_index xs i) y read).index
progressive-keeps_if true xs i y read = tt
progressive-keeps_if false xs i y read = changed-keeps xs i y read

progressive-keeps : (xs : List ℕ) (p i address : ℕ) (read : Option ℕ)
    → ChangeKeeps xs (progressive_change p i (slice_index xs i) address read).index
unfolding progressive_change
progressive-keeps xs p i address read = progressive-keeps_if (nat_lt p 2) xs i _ read

half-keeps : (op : HalfOp) (xs : List ℕ) (address j e : ℕ) (read : Option ℕ)
    → ChangeKeeps xs (half_change op xs address j (slice_index xs j) e read).index
unfolding half_change
half-keeps Lx xs address j e read = changed-keeps xs j _ None
half-keeps Lv xs address j e read = changed-keeps xs j _ None
half-keeps Lc xs address j e read = changed-keeps xs j _ None
half-keeps Lr xs address j e read = changed-keeps xs j _ None
half-keeps VPlus xs address j e read = changed-keeps xs j _ None
half-keeps VPlusC xs address j e read = changed-keeps xs j _ None
half-keeps Kv xs address j e read = compared-keeps xs _ _
half-keeps Lvs xs address j e read = changed-keeps xs j _ None
half-keeps Lvi xs address j e read = changed-keeps xs j _ None
half-keeps Lci xs address j e read = changed-keeps xs j _ None
half-keeps Lri xs address j e read = changed-keeps xs j _ None
half-keeps VPlusI xs address j e read = changed-keeps xs j _ None
half-keeps VMinusI xs address j e read = changed-keeps xs j _ None
half-keeps VPlusIC xs address j e read = changed-keeps xs j _ None
half-keeps VPlusICR xs address j e read = changed-keeps xs j _ read
half-keeps Kvi xs address j e read = compared-keeps xs _ _
half-keeps Kc xs address j e read = compared-keeps xs _ _
half-keeps Kci xs address j e read = compared-keeps xs _ _
half-keeps Cb xs address j e read = changed-keeps xs j _ None
half-keeps Cbr xs address j e read = changed-keeps xs j _ read
half-keeps R xs address j e read = changed-keeps xs j _ None
half-keeps _ xs address j e read = tt

change-keeps : (xs : List ℕ) (instr : Instr) (e : ℕ) (read : Option ℕ) → ChangeKeeps xs (change xs instr e read).index
unfolding change
change-keeps xs (Half op address j i) e read = half-keeps op xs address j e read
change-keeps xs (Vfl op d u n p length byte offset address i) e read = progressive-keeps xs p i address read
change-keeps xs (Connect kind table p length byte offset address i) e read = progressive-keeps xs p i address read
change-keeps xs _ e read = tt

prepared-keeps_by : (fault : Option ℕ) (place : Place) (a : ResolvedEntry) (xs : List ℕ) (read : Option ℕ)
    → ChangeKeeps xs (prepared_by fault place a xs read).index
unfolding suppressed_entry entry_of
prepared-keeps_by (Some i) place a xs read = tt
prepared-keeps_by None place a xs read = change-keeps xs a.instr a.e read

pub plan-keeps : (s : Machine) (t : Option ℕ) → ChangeKeeps (index_words s) (plan s t).index
unfolding plan prepared_entry decode_context
plan-keeps s t =
    let v = decode_context s (place_of s t) in
    prepared-keeps_by (resolved v).fault v.place (resolved v) (index_words s) (side_word t s (needs v).index_read)

-- ---- all levels

-- the levels record the words that they replace, and change the index words x to y
abbrev KeepRest : List ℕ → List Level → List ℕ → Type 0
KeepRest x ring y = Kept x ring × (index_words_after x ring ≡ y)

keep-one : (t : Option ℕ) (s : Machine) (level : Level) (x : List ℕ) → IsMachine s → IfSome t (λ i. i < 64)
    → level.prepared ≡ plan s t → x ≡ index_words s → KeepRest x (level ∷ []) (split_words 1 t s)
unfolding Kept index_words_after predictions
keep-one t s level x m some form before =
    let keeps : ChangeKeeps (index_words s) level.prepared.index = subst (λ (p : Prepared). ChangeKeeps (index_words s) p.index) (sym form) (plan-keeps s t) in (
      (subst (λ (y : List ℕ). ChangeKeeps y level.prepared.index) (sym before) keeps, tt),
      ap₂ (λ (y : List ℕ) (p : Prepared). words_after y p.index) before form ∙ sym (split-change 0 t s m some),
    )

-- only the youngest level may be serializing
lessened : (t : Option ℕ) (s : Machine) (ring : List Level) → RunAhead (suc (suc (length ring)) - 1) t s → RunAhead (suc (length ring)) t s
lessened t s ring free = let same : suc (suc (length ring)) - 1 ≡ suc (length ring) = omega arith in subst (λ k. RunAhead k t s) same free

pub levels-keep : (ds : List ℕ) (n tick : ℕ) (t : Option ℕ) (s : Machine) (f last : IssueState) (ring : List Level) (plans : List PlannedRow)
    (x : List ℕ) → IsMachine s → IfSome t (λ i. i < 64)
    → AreLevels ds n tick t s f last ring plans → RunAhead (length ring - 1) t s → x ≡ index_words s
    → KeepRest x ring (split_words (length ring) t s)
unfolding AreLevels Kept index_words_after split_words
levels-keep ds n tick t s f last [] [] x m some h free before = (tt, before)
levels-keep ds n tick t s f last [] (q ∷ qs) x m some h free before = absurd h
levels-keep ds n tick t s f last (level ∷ ring) [] x m some h free before = absurd h
levels-keep ds n tick t s f last (level ∷ []) (q ∷ qs) x m some h free before = keep-one t s level x m some h.0.prepared before
levels-keep ds n tick t s f last (level ∷ next ∷ ring) (q ∷ qs) x m some h free before =
    let fewer : length (next ∷ ring) ≡ suc (length (next ∷ ring) - 1) = omega arith in
    let ahead = subst (λ k. RunAhead k t s) fewer (lessened t s ring free) in
    let serial = behind-serial (length (next ∷ ring) - 1) t s ahead in
    let one = keep-one t s level x m some h.0.prepared before in
    let here : words_after x level.prepared.index ≡ index_words (prediction t s) =
    ap₂ (λ (y : List ℕ) (p : Prepared). words_after y p.index) before h.0.prepared ∙ sym (prediction-past t s m some serial).index in
    let rest = levels-keep ds n tick None (prediction t s) (issue_after_entry ds n f (entry t s)) last (next ∷ ring) qs (words_after x level.prepared.index)
    (prediction-machine t s m some) tt h.1 (behind-rest (length (next ∷ ring) - 1) t s ahead) here in
    ((one.0.0, rest.0), rest.1 ∙ sym (split-behind (length ring) t s))
