-- The progress of the writing of lines or of events.
use Rattle.st_io.proofs.Common.{◌≡◌, ℕ, zero, suc, ◌+◌, ◌-◌, ◌<◌, ◌≤◌, List, [], ◌++◌, refl, sym, ◌∙◌, ap, subst, append_assoc, arith, append-nil, Result, Ok, Err, IsErr, Failed, OutputState, Wrote, text, lines_for, StoppedIn, WritesLines, Event, lines_of, StoppedAt}
use Rattle.st_io.proofs.Joins.{Appends_none}
use Rattle.st_io.proofs.Writing.{wrote_more, stopped_before, stopped_after, wrote_events, events_before, events_after}

-- the first of the lines are written, and the rest remains
pub record LinesSoFar (s t : OutputState) (all rest : List (List ℕ)) : Type 0 where
  pub front : List (List ℕ)
  pub wrote : Wrote s t (text front)
  pub order : all ≡ front ++ rest

-- the first of the events are written, and the rest remains
pub record EventsSoFar (s t : OutputState) (all rest : List Event) : Type 0 where
  pub front : List Event
  pub wrote : Wrote s t (text (lines_of front))
  pub order : all ≡ front ++ rest

pub wrote_nothing : (s : OutputState) → Wrote s s []
wrote_nothing s = record { appended = Appends_none s.written; steady = refl }

pub lines_none : (s : OutputState) (all : List (List ℕ)) → LinesSoFar s s all all
lines_none s all = record { front = []; wrote = wrote_nothing s; order = refl }

pub lines_more : (s t u : OutputState) (all xs rest : List (List ℕ)) → LinesSoFar s t all (xs ++ rest) → Wrote t u (text xs) → LinesSoFar s u all rest
lines_more s t u all xs rest h w = record {
  front = h.front ++ xs;
  wrote = wrote_more s t u h.front xs h.wrote w;
  order = h.order ∙ sym (append_assoc h.front xs rest);
}

pub lines_stopped : (s t u : OutputState) (all xs rest : List (List ℕ)) → LinesSoFar s t all (xs ++ rest) → StoppedIn t u xs → StoppedIn s u all
lines_stopped s t u all xs rest h w = subst (StoppedIn s u) (sym h.order) (stopped_after s t u h.front (xs ++ rest) h.wrote (stopped_before t u xs rest w))

pub lines_whole : (s t : OutputState) (all : List (List ℕ)) → LinesSoFar s t all [] → Wrote s t (text all)
lines_whole s t all h = subst (λ ls. Wrote s t (text ls)) (sym (h.order ∙ append-nil h.front)) h.wrote

-- a failure in the next lines is a failure in all lines
pub lines_failed : (s t u : OutputState) (all xs rest : List (List ℕ)) (r : Result (Unit {0}) Failed) → IsErr r → LinesSoFar s t all (xs ++ rest) → StoppedIn t u xs → WritesLines s u all r
lines_failed s t u all xs rest (Ok x) e h w = absurd (cc)
lines_failed s t u all xs rest (Err x) e h w = record { ok = tt; err = lines_stopped s t u all xs rest h w }

-- the result of the last lines is the result of all lines
pub lines_last : (s t u : OutputState) (all xs : List (List ℕ)) (r : Result (Unit {0}) Failed) → LinesSoFar s t all xs → WritesLines t u xs r → WritesLines s u all r
lines_last s t u all xs (Ok x) h w = record { ok = lines_whole s u all (lines_more s t u all xs [] (subst (LinesSoFar s t all) (sym (append-nil xs)) h) w.ok); err = tt }
lines_last s t u all xs (Err x) h w = record { ok = tt; err = lines_stopped s t u all xs [] (subst (LinesSoFar s t all) (sym (append-nil xs)) h) w.err }

pub events_none : (s : OutputState) (all : List Event) → EventsSoFar s s all all
events_none s all = record { front = []; wrote = wrote_nothing s; order = refl }

pub events_more : (s t u : OutputState) (all xs rest : List Event) → EventsSoFar s t all (xs ++ rest) → Wrote t u (text (lines_of xs)) → EventsSoFar s u all rest
events_more s t u all xs rest h w = record {
  front = h.front ++ xs;
  wrote = wrote_events s t u h.front xs h.wrote w;
  order = h.order ∙ sym (append_assoc h.front xs rest);
}

pub events_stopped : (s t u : OutputState) (all xs rest : List Event) (d k : ℕ) → EventsSoFar s t all (xs ++ rest) → StoppedAt t u xs d k → StoppedAt s u all d k
events_stopped s t u all xs rest d k h w = subst (λ es. StoppedAt s u es d k) (sym h.order) (events_after s t u h.front (xs ++ rest) d k h.wrote (events_before t u xs rest d k w))

pub events_whole : (s t : OutputState) (all : List Event) → EventsSoFar s t all [] → Wrote s t (text (lines_of all))
events_whole s t all h = subst (λ es. Wrote s t (text (lines_of es))) (sym (h.order ∙ append-nil h.front)) h.wrote

-- the lines of n numbers are those of the first number, followed by those of the others
lines_for-more : (give : ℕ → List (List ℕ)) (n k w : ℕ) → n ≡ k + 1 → lines_for give n w ≡ give w ++ lines_for give k (w + 1)
unfolding lines_for
lines_for-more give zero k w e = absurd (omega arith)
lines_for-more give (suc n) k w e = let m : n ≡ k = omega arith in ap (λ j. give w ++ lines_for give j (w + 1)) m

lines_for-none : (give : ℕ → List (List ℕ)) (n w : ℕ) → n ≡ 0 → lines_for give n w ≡ []
unfolding lines_for
lines_for-none give zero w e = refl
lines_for-none give (suc n) w e = absurd (omega arith)

-- if the lines of the numbers from w remain, those of w are next
pub lines_for_next : (s t : OutputState) (all : List (List ℕ)) (give : ℕ → List (List ℕ)) (end w : ℕ) → w < end → LinesSoFar s t all (lines_for give (end - w) w) → LinesSoFar s t all (give w ++ lines_for give (end - (w + 1)) (w + 1))
lines_for_next s t all give end w h p = subst (LinesSoFar s t all) (lines_for-more give (end - w) (end - (w + 1)) w (omega arith)) p

-- if no number remains, all lines are written
pub lines_for_whole : (s t : OutputState) (all : List (List ℕ)) (give : ℕ → List (List ℕ)) (end w : ℕ) → end ≤ w → LinesSoFar s t all (lines_for give (end - w) w) → Wrote s t (text all)
lines_for_whole s t all give end w h p = lines_whole s t all (subst (LinesSoFar s t all) (lines_for-none give (end - w) w (omega arith)) p)

-- after lines that are all written, the result of the last lines is the result of all
pub lines_then : (s t u : OutputState) (xs ys : List (List ℕ)) (x : Unit {0}) (r : Result (Unit {0}) Failed) → WritesLines s t xs (Ok x) → WritesLines t u ys r → WritesLines s u (xs ++ ys) r
lines_then s t u xs ys x r h w = lines_last s t u (xs ++ ys) ys r (record { front = xs; wrote = h.ok; order = refl }) w

-- a failure in the first lines is a failure in all lines
pub lines_cut : (s t : OutputState) (xs ys : List (List ℕ)) (e : Failed) (r : Result (Unit {0}) Failed) → IsErr r → WritesLines s t xs (Err e) → WritesLines s t (xs ++ ys) r
lines_cut s t xs ys e r f h = lines_failed s s t (xs ++ ys) xs ys r f (lines_none s (xs ++ ys)) h.err
