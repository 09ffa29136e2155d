-- The writing of successive lines: the lines written so far, and the one in which the writing
-- stopped.
use Rattle.st_io.proofs.Common.{◌≡◌, ℕ, List, [], ◌∷◌, ◌++◌, refl, sym, ◌∙◌, ap, subst, append_assoc, append-nil, Result, Ok, Err, MatchResult, HasRisen, OutputState, Appends, Wrote, WroteFront, Failed, text, StoppedIn, WritesLines, Event, lines_of, at_moment, StoppedAt}
use Rattle.st_io.proofs.Joins.{Appends-join, Wrote_join}

pub text-append : (xs ys : List (List ℕ)) → text (xs ++ ys) ≡ text xs ++ text ys
text-append [] ys = refl
text-append (x ∷ xs) ys = ap (λ zs. x ++ zs) (text-append xs ys) ∙ sym (append_assoc x (text xs) (text ys))

-- one line, by one write of its bytes
pub writes_line : (s t : OutputState) (line : List ℕ) (r : Result (Unit {0}) Failed) → MatchResult r (λ _. Wrote s t line) (λ _. WroteFront s t line) → WritesLines s t (line ∷ []) r
writes_line s t line (Ok u) h = record { ok = subst (Wrote s t) (sym (append-nil line)) h; err = tt }
writes_line s t line (Err e) h = record {
  ok = tt;
  err = record {
    earlier = [];
    failed = line;
    later = [];
    order = refl;
    front = h.front;
    rest = h.rest;
    parts = h.parts;
    proper = h.proper;
    appended = h.appended;
    risen = h.risen;
  };
}

-- two lists of lines are all written
pub wrote_more : (s t u : OutputState) (xs ys : List (List ℕ)) → Wrote s t (text xs) → Wrote t u (text ys) → Wrote s u (text (xs ++ ys))
wrote_more s t u xs ys p q = subst (Wrote s u) (sym (text-append xs ys)) (Wrote_join s t u (text xs) (text ys) p q)

-- a stop in the first lines is a stop in all lines
pub stopped_before : (s t : OutputState) (xs ys : List (List ℕ)) → StoppedIn s t xs → StoppedIn s t (xs ++ ys)
stopped_before s t xs ys h = record {
  earlier = h.earlier;
  failed = h.failed;
  later = h.later ++ ys;
  order = ap (λ zs. zs ++ ys) h.order ∙ append_assoc h.earlier (h.failed ∷ h.later) ys;
  front = h.front;
  rest = h.rest;
  parts = h.parts;
  proper = h.proper;
  appended = h.appended;
  risen = h.risen;
}

-- a stop in the last lines is a stop in all lines
pub stopped_after : (s t u : OutputState) (xs ys : List (List ℕ)) → Wrote s t (text xs) → StoppedIn t u ys → StoppedIn s u (xs ++ ys)
stopped_after s t u xs ys p h = record {
  earlier = xs ++ h.earlier;
  failed = h.failed;
  later = h.later;
  order = ap (λ zs. xs ++ zs) h.order ∙ sym (append_assoc xs h.earlier (h.failed ∷ h.later));
  front = h.front;
  rest = h.rest;
  parts = h.parts;
  proper = h.proper;
  appended = subst (Appends s.written u.written) (sym (append_assoc (text xs) (text h.earlier) h.front) ∙ ap (λ zs. zs ++ h.front) (sym (text-append xs h.earlier))) (Appends-join s.written t.written u.written (text xs) (text h.earlier ++ h.front) p.appended h.appended);
  risen = subst (λ f. HasRisen f u.faults) p.steady h.risen;
}

pub lines_of-append : (xs ys : List Event) → lines_of (xs ++ ys) ≡ lines_of xs ++ lines_of ys
lines_of-append [] ys = refl
lines_of-append (x ∷ xs) ys = ap (λ zs. x.line ∷ zs) (lines_of-append xs ys)

pub at_moment-append : (d k : ℕ) (xs ys : List (List ℕ)) → at_moment d k (xs ++ ys) ≡ at_moment d k xs ++ at_moment d k ys
at_moment-append d k [] ys = refl
at_moment-append d k (x ∷ xs) ys = ap (λ zs. record { line = x; done = d; ticks = k } ∷ zs) (at_moment-append d k xs ys)

pub lines_of-at_moment : (d k : ℕ) (xs : List (List ℕ)) → lines_of (at_moment d k xs) ≡ xs
lines_of-at_moment d k [] = refl
lines_of-at_moment d k (x ∷ xs) = ap (λ zs. x ∷ zs) (lines_of-at_moment d k xs)

-- lines at one moment that are all written
pub wrote_at_moment : (s t : OutputState) (d k : ℕ) (xs : List (List ℕ)) → Wrote s t (text xs) → Wrote s t (text (lines_of (at_moment d k xs)))
wrote_at_moment s t d k xs h = subst (λ zs. Wrote s t (text zs)) (sym (lines_of-at_moment d k xs)) h

-- a stop in lines at one moment
pub stopped_at_moment : (s t : OutputState) (d k : ℕ) (xs : List (List ℕ)) → StoppedIn s t xs → StoppedAt s t (at_moment d k xs) d k
stopped_at_moment s t d k xs h = record {
  earlier = at_moment d k h.earlier;
  failed = record { line = h.failed; done = d; ticks = k };
  later = at_moment d k h.later;
  order = ap (at_moment d k) h.order ∙ at_moment-append d k h.earlier (h.failed ∷ h.later);
  front = h.front;
  rest = h.rest;
  parts = h.parts;
  proper = h.proper;
  appended = subst (λ zs. Appends s.written t.written (text zs ++ h.front)) (sym (lines_of-at_moment d k h.earlier)) h.appended;
  risen = h.risen;
  done_then = refl;
  ticks_then = refl;
}

-- two lists of events are all written
pub wrote_events : (s t u : OutputState) (xs ys : List Event) → Wrote s t (text (lines_of xs)) → Wrote t u (text (lines_of ys)) → Wrote s u (text (lines_of (xs ++ ys)))
wrote_events s t u xs ys p q = subst (λ zs. Wrote s u (text zs)) (sym (lines_of-append xs ys)) (wrote_more s t u (lines_of xs) (lines_of ys) p q)

-- a stop in the first events is a stop in all events
pub events_before : (s t : OutputState) (xs ys : List Event) (d k : ℕ) → StoppedAt s t xs d k → StoppedAt s t (xs ++ ys) d k
events_before s t xs ys d k h = record {
  earlier = h.earlier;
  failed = h.failed;
  later = h.later ++ ys;
  order = ap (λ zs. zs ++ ys) h.order ∙ append_assoc h.earlier (h.failed ∷ h.later) ys;
  front = h.front;
  rest = h.rest;
  parts = h.parts;
  proper = h.proper;
  appended = h.appended;
  risen = h.risen;
  done_then = h.done_then;
  ticks_then = h.ticks_then;
}

-- a stop in the last events is a stop in all events
pub events_after : (s t u : OutputState) (xs ys : List Event) (d k : ℕ) → Wrote s t (text (lines_of xs)) → StoppedAt t u ys d k → StoppedAt s u (xs ++ ys) d k
events_after s t u xs ys d k p h = record {
  earlier = xs ++ h.earlier;
  failed = h.failed;
  later = h.later;
  order = ap (λ zs. xs ++ zs) h.order ∙ sym (append_assoc xs h.earlier (h.failed ∷ h.later));
  front = h.front;
  rest = h.rest;
  parts = h.parts;
  proper = h.proper;
  appended = subst (Appends s.written u.written) (sym (append_assoc (text (lines_of xs)) (text (lines_of h.earlier)) h.front) ∙ ap (λ zs. zs ++ h.front) (sym (ap text (lines_of-append xs h.earlier) ∙ text-append (lines_of xs) (lines_of h.earlier)))) (Appends-join s.written t.written u.written (text (lines_of xs)) (text (lines_of h.earlier) ++ h.front) p.appended h.appended);
  risen = subst (λ f. HasRisen f u.faults) p.steady h.risen;
  done_then = h.done_then;
  ticks_then = h.ticks_then;
}
