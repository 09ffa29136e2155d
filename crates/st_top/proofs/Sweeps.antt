-- The result of a sweep, and its lines.
use Rattle.st_top.proofs.Common.{◌≡◌, ℕ, ◌+◌, ◌<◌, ◌≤◌, ◌^◌, List, [], ◌∷◌, All, get_or, length, nat_le, slice_index_or, sym, ◌∙◌, ap, subst, and_parts, leb-true, All-nil, Result, Ok, Err, IfOk, slice_index, AllPass, OutputState, Wrote, text, wrote_at_moment, Asked, is_in_range, MOST_DELAY, Signal, opening_state, levels_line, IsCard, IsScene, without_cards, levels_lines, sweep_lines, sweep_start, sweep_of, output_of_sweep, WroteAll, Writes, Answer, Done}
use Rattle.st_bits.specs.Storage.{words_of_storage}
use Rattle.st_state.proofs.Kept.{is_machine-opening}
use Rattle.st_sweep.specs.SideBySide.{side_by_side}
use Rattle.st_sweep.specs.declared.sweeping.Swept.{Swept}

-- the line of the first machine, followed by those of the others
pub first_lines : (n t : ℕ) (ts xs : List ℕ) → xs ≡ t ∷ ts → levels_lines n xs ≡ levels_line n t ∷ levels_lines (n + 1) ts
unfolding levels_lines
first_lines n t ts xs is = ap (levels_lines n) is

pub no_lines : (n : ℕ) (xs : List ℕ) → xs ≡ [] → [] ≡ levels_lines n xs
unfolding levels_lines
no_lines n xs is = sym (ap (levels_lines n) is)

-- each valid delay is at least 1
pub delays_last : (ds es : List ℕ) → AllPass (is_in_range 1 MOST_DELAY) ds → es ≡ ds → All (λ d. 1 ≤ d) es
delays_last ds es limits same =
    subst (All (λ d. 1 ≤ d)) (sym same) (λ k d lt.
    let x = slice_index_or ds k d in leb-true 1 x (and_parts (nat_le 1 x) (nat_le x MOST_DELAY) (limits k d lt)).0)

-- a sweep with the requested parameters gives the requested result
pub swept_is : {E : Type 0} (r : Result Swept E) (image : List ℕ) (start : ℕ) (asked : Asked) (ds : List ℕ) (budget : ℕ) (xs : List Signal)
    → IfOk r (λ s. s ≡ side_by_side ds budget (without_cards (opening_state image start) xs))
    → ds ≡ asked.delays → budget ≡ asked.budget → xs ≡ asked.signals → IfOk r (λ s. s ≡ sweep_of image start asked)
unfolding sweep_of
swept_is (Ok s) image start asked ds budget xs e delays many signals =
    e ∙ (ap (λ (es : List ℕ). side_by_side es budget (without_cards (opening_state image start) xs)) delays
    ∙ (ap (λ (n : ℕ). side_by_side asked.delays n (without_cards (opening_state image start) xs)) many
    ∙ ap (λ (ys : List Signal). side_by_side asked.delays asked.budget (without_cards (opening_state image start) ys)) signals))
swept_is (Err x) image start asked ds budget xs e delays many signals = tt

-- the start of a sweep is a valid scene
pub sweeps_scene : (image : List ℕ) (start : ℕ) (asked : Asked) → length image ≡ words_of_storage
    → ((w : ℕ) → w < 32 → get_or image w 0 ≡ 0) → ((w : ℕ) → get_or image w 0 < 2 ^ 64) → start < 2 ^ 19
    → IsScene (sweep_start image start asked)
sweeps_scene image start asked size zeros below counter = record {
  machine = is_machine-opening image start size zeros below counter;
  cards = All-nil IsCard;
}

-- all lines of a sweep are written
pub swept_all : (s t : OutputState) (delays : List ℕ) (w : Swept) (answer : Answer) → Wrote s t (text (sweep_lines w))
    → answer.status ≡ Done → answer.done ≡ w.done → answer.ticks ≡ slice_index w.ticks 7 → Writes answer.status s t (output_of_sweep delays w) answer
swept_all s t delays w answer wrote good done ticks =
    let all : WroteAll s t (output_of_sweep delays w) answer =
    record { status = good; wrote = wrote_at_moment s t 0 0 (sweep_lines w) wrote; done = done; ticks = ticks } in
    subst (λ st. Writes st s t (output_of_sweep delays w) answer) (sym good) all
