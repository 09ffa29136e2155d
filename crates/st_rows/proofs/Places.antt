-- The places of the last eight entries.
use Rattle.st_rows.proofs.Common.{map, ◌≡◌, ◌+◌, ◌-◌, ◌%◌, ◌<◌, ◌^◌, true, false, length, inl, inr, ap, sym, ◌∙◌, subst, arith, cases_eq, length-map, map-set, get_or-map, get_or-replicate, get_or-set_same, get_or-set_other, window, get_or-window, length-window, trailing_zeros, w64, no_runs, has_words, entries_in, ticks_in, entry_in, IsEntryRing, WordRuns, Past, Done}
use Rattle.std.specs.Prelude.{ℕ, List, get_or, set, replicate}
use Rattle.st_rows.proofs.Writers.{nth, IsLeft, newest-inside, newest-some}

-- the entry without words
abbrev no_words : Past
no_words = record { c = 0; writes = no_runs }

-- no entry of eight without words writes any
pub none-written : (i : ℕ) → i < 8 → has_words (entry_in (replicate 8 no_words) i).writes ≡ true → ⊥
none-written i below some =
    let no : false ≡ true = sym (ap (λ (e : Past). has_words e.writes) (get_or-replicate 8 i no_words no_words below)) ∙ some in cc

module _ (head : ℕ) (places : List Done) (writes : List WordRuns) (bits low high : ℕ)
    (is : IsEntryRing head (entries_in places) (ticks_in places) writes bits low high) where
  abbrev past : List Past
  past = window head 8 (entries_in places)

  pub count : length past ≡ 8
  count = length-window 8 head 8 (entries_in places) is.inside (omega arith) is.whole

  pub count-places : length places ≡ 8
  count-places = sym (length-map places (λ (place : Done). place.entry.value)) ∙ is.whole

  -- entry i is in place (head + i) % 8
  pub entry-at : (i : ℕ) → i < 8 → nth past i ≡ entry_in (entries_in places) ((head + i) % 8)
  entry-at i below = get_or-window 8 head 8 (entries_in places) is.inside (omega arith) is.whole i (record { c = 0; writes = no_runs }) below

  pub tick-at : (i : ℕ) (d : Done) → i < 8 → (get_or places ((head + i) % 8) d).c ≡ (nth past i).c
  tick-at i d below =
      let j = (head + i) % 8 in
      sym (get_or-map (λ (place : Done). place.c) places j d 0 (omega (arith, count-places)))
      ∙ ap (λ ticks. get_or ticks j 0) is.ticks
      ∙ get_or-map (λ (e : Past). e.c) (entries_in places) j (record { c = 0; writes = no_runs }) 0 (omega (arith, is.whole))
      ∙ ap (λ (e : Past). e.c) (sym (entry-at i below))

  pub words-at : (i : ℕ) → i < 8 → has_words (nth past i).writes ≡ true → get_or writes ((head + i) % 8) no_runs ≡ (nth past i).writes
  words-at i below some =
      is.words ((head + i) % 8) (omega arith) (ap (λ (e : Past). has_words e.writes) (sym (entry-at i below)) ∙ some)
      ∙ ap (λ (e : Past). e.writes) (sym (entry-at i below))

  -- the newest of the writers that are left is one of eight, and its words are in its place
  pub newest-at : (w left : ℕ) → 0 < left → left < 2 ^ 64 → IsLeft past w left → let at = trailing_zeros w64 left in
      (at < 8) × (get_or writes ((head + at) % 8) no_runs ≡ (nth past at).writes)
  newest-at w left some fits is_left =
      let at = trailing_zeros w64 left in
      let below : at < 8 = omega (arith, count, newest-inside past w left some fits is_left) in
      (below, words-at at below (newest-some past w left some fits is_left))

-- the places after one more entry is put before the head
module _ (head : ℕ) (places : List Done) (writes : List WordRuns) (bits low high : ℕ)
    (is : IsEntryRing head (entries_in places) (ticks_in places) writes bits low high)
    (place : Done) (kept : WordRuns) (newest : Past) (tick : place.c ≡ newest.c) (entry : place.entry.value ≡ newest)
    (words : has_words newest.writes ≡ true → kept ≡ newest.writes) where
  abbrev at : ℕ
  at = (head + 8 - 1) % 8

  pub entries-put : entries_in (set places at place) ≡ set (entries_in places) at newest
  entries-put = map-set (λ (it : Done). it.entry.value) places at place ∙ ap (set (entries_in places) at) entry

  pub ticks-put : ticks_in (set places at place) ≡ map (λ e. e.c) (entries_in (set places at place))
  ticks-put =
      map-set (λ (it : Done). it.c) places at place
      ∙ ap (λ ticks. set ticks at place.c) is.ticks
      ∙ ap (set (map (λ (e : Past). e.c) (entries_in places)) at) tick
      ∙ sym (map-set (λ (e : Past). e.c) (entries_in places) at newest)
      ∙ ap (map (λ (e : Past). e.c)) (sym entries-put)

  words-set : (i : ℕ) → i < 8 → has_words (entry_in (set (entries_in places) at newest) i).writes ≡ true →
      get_or (set writes at kept) i no_runs ≡ (entry_in (set (entries_in places) at newest) i).writes
  words-set i below some = elim (cases_eq i at) [
    | inl same ↦
        let here : entry_in (set (entries_in places) at newest) i ≡ newest =
        ap (entry_in (set (entries_in places) at newest)) same ∙ get_or-set_same (entries_in places) at newest _ (omega (arith, is.whole)) in
        ap (λ j. get_or (set writes at kept) j no_runs) same
        ∙ get_or-set_same writes at kept no_runs (omega (arith, is.wide))
        ∙ words (sym (ap (λ (e : Past). has_words e.writes) here) ∙ some)
        ∙ ap (λ (e : Past). e.writes) (sym here)
    | inr other ↦
        let there : entry_in (set (entries_in places) at newest) i ≡ entry_in (entries_in places) i =
        get_or-set_other (entries_in places) at i newest _ other in
        get_or-set_other writes at i kept no_runs other
        ∙ is.words i below (sym (ap (λ (e : Past). has_words e.writes) there) ∙ some)
        ∙ ap (λ (e : Past). e.writes) (sym there)
  ]

  pub words-put : (i : ℕ) → i < 8 → has_words (entry_in (entries_in (set places at place)) i).writes ≡ true →
      get_or (set writes at kept) i no_runs ≡ (entry_in (entries_in (set places at place)) i).writes
  words-put =
      subst (λ (es : List Past). (i : ℕ) → i < 8 → has_words (entry_in es i).writes ≡ true → get_or (set writes at kept) i no_runs ≡ (entry_in es i).writes)
      (sym entries-put) words-set
