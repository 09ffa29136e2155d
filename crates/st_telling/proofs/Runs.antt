-- The writing of the report of a run, event by event, with the lines so far and the remaining ones.
use Rattle.st_telling.proofs.Common.{◌≡◌, ℕ, ◌≤◌, false, length, List, [], ◌∷◌, ◌++◌, arith, refl, sym, ◌∙◌, ap, subst, map, Result, Ok, Err, IsErr, Asked, OutputState, Failed, WritesLines, EventsSoFar, events_none, events_more, events_stopped, events_whole, row_told, rows_then, AreLeftOut, report, lines_at, lines_told, WritesEvents, WritesNothing, moment_told, last_moment}
use Rattle.st_telling.specs.declared.moment.Moment.{Moment}
use Rattle.st_io.specs.Event.{Event, at_moment, StoppedAt}
use Rattle.st_io.proofs.Writing.{wrote_at_moment, stopped_at_moment, wrote_events, events_before, events_after}
use Rattle.st_run.specs.ReportedEvents.{TimedReportedEvent}
use Rattle.st_ahead.specs.declared.events.Row.{Row}

-- ---- events in order

-- the lines of the events so far are written, and the rest remains
pub record ToldSoFar (s t : OutputState) (asked : Asked) (m now : Moment) (all rest : List TimedReportedEvent) : Type 0 where
  pub so_far : EventsSoFar s t (report asked all) (report asked rest)
  pub last : last_moment now rest ≡ last_moment m all

pub told_begins : (s : OutputState) (asked : Asked) (m : Moment) (all : List TimedReportedEvent) → ToldSoFar s s asked m m all all
told_begins s asked m all = record { so_far = events_none s (report asked all); last = refl }

-- skipped events have no lines
pub told_skips : (s t : OutputState) (asked : Asked) (m now n : Moment) (all rest more : List TimedReportedEvent) → WritesNothing asked now rest n more
    → ToldSoFar s t asked m now all rest → ToldSoFar s t asked m n all more
told_skips s t asked m now n all rest more skips h = record {
  so_far = subst (λ xs. EventsSoFar s t (report asked all) xs) skips.lines h.so_far;
  last = sym skips.last ∙ h.last;
}

row-lines : (asked : Asked) (row : Row) → asked.trace ≡ false → asked.chart ≡ false → lines_at asked row.number row.c (row_told row).event ≡ []
row-lines asked row trace chart = rw (trace, chart) refl

row-report : (asked : Asked) (row : Row) (xs : List TimedReportedEvent) → asked.trace ≡ false → asked.chart ≡ false
    → report asked (row_told row ∷ xs) ≡ report asked xs
unfolding report
row-report asked row xs trace chart = ap (λ lines. at_moment row.number row.c lines ++ report asked xs) (row-lines asked row trace chart)

rows-report : (asked : Asked) (rows : List Row) (new : List TimedReportedEvent) → asked.trace ≡ false → asked.chart ≡ false
    → report asked (rows_then rows new) ≡ report asked new
rows-report asked [] new trace chart = refl
rows-report asked (x ∷ rows) new trace chart = row-report asked x (rows_then rows new) trace chart ∙ rows-report asked rows new trace chart

rows-moment : (m : Moment) (rows new : List TimedReportedEvent) (last : TimedReportedEvent) → last_moment m (rows ++ last ∷ new) ≡ last_moment (moment_told last) new
unfolding last_moment
rows-moment m [] new last = refl
rows-moment m (x ∷ rows) new last = rows-moment (moment_told x) rows new last

rows-fewer : (rows new : List TimedReportedEvent) (last : TimedReportedEvent) → length new ≤ length (rows ++ last ∷ new)
rows-fewer [] new last = omega arith
rows-fewer (x ∷ rows) new last = let fewer = rows-fewer rows new last in omega (arith, fewer)

-- completions that are only counted have no lines
pub counted_skips : (asked : Asked) (m n : Moment) (last : Row) (old new : List TimedReportedEvent) → asked.trace ≡ false → asked.chart ≡ false
    → AreLeftOut last old new → n ≡ moment_told (row_told last) → WritesNothing asked m old n new
counted_skips asked m n last old new trace chart is same = record {
  lines =
      ap (report asked) is.rest ∙ rows-report asked is.passed (row_told last ∷ new) trace chart ∙ row-report asked last new trace chart;
  last = ap (last_moment m) is.rest ∙ rows-moment m (map row_told is.passed) new (row_told last) ∙ ap (λ (k : Moment). last_moment k new) (sym same);
  fewer = subst (λ xs. length new ≤ length xs) (sym is.rest) (rows-fewer (map row_told is.passed) new (row_told last));
}

pub none_skips : (asked : Asked) (m : Moment) (old new : List TimedReportedEvent) → new ≡ old → WritesNothing asked m old m new
none_skips asked m old new same = record {
  lines = ap (report asked) (sym same);
  last = ap (last_moment m) (sym same);
  fewer = subst (λ xs. length xs ≤ length old) (sym same) (omega arith);
}

-- the lines of the next event are written
pub told_more : (s t u : OutputState) (asked : Asked) (m now n : Moment) (all rest more : List TimedReportedEvent) (x : TimedReportedEvent) (y : Unit {0})
    → rest ≡ x ∷ more → n ≡ moment_told x → ToldSoFar s t asked m now all rest → WritesLines t u (lines_at asked n.done n.tick x.event) (Ok y)
    → ToldSoFar s u asked m n all more
unfolding report last_moment
told_more s t u asked m now n all rest more x y is same h w =
    let lines : WritesLines t u (lines_told asked x) (Ok y) = subst (λ (k : Moment). WritesLines t u (lines_at asked k.done k.tick x.event) (Ok y)) same w in
    let next : ToldSoFar s u asked m (moment_told x) all more = record {
      so_far = events_more s t u (report asked all) (at_moment x.done x.tick (lines_told asked x)) (report asked more)
          (subst (λ r. EventsSoFar s t (report asked all) (report asked r)) is h.so_far)
          (wrote_at_moment t u x.done x.tick (lines_told asked x) lines.ok);
      last = ap (last_moment now) (sym is) ∙ h.last;
    } in
    subst (λ (k : Moment). ToldSoFar s u asked m k all more) (sym same) next

-- the writing stops in the lines of the next event
pub told_stops : (s t u : OutputState) (asked : Asked) (m now n : Moment) (all rest more : List TimedReportedEvent) (x : TimedReportedEvent) (e : Failed) (r : Result (Unit {0}) Failed)
    → IsErr r → rest ≡ x ∷ more → n ≡ moment_told x → ToldSoFar s t asked m now all rest → WritesLines t u (lines_at asked n.done n.tick x.event) (Err e)
    → WritesEvents s u (report asked all) (last_moment m all) n r
unfolding report
told_stops s t u asked m now n all rest more x e (Ok y) f is same h w = absurd (cc)
told_stops s t u asked m now n all rest more x e (Err y) f is same h w =
    let lines : WritesLines t u (lines_told asked x) (Err e) = subst (λ (k : Moment). WritesLines t u (lines_at asked k.done k.tick x.event) (Err e)) same w in
    let next : WritesEvents s u (report asked all) (last_moment m all) (moment_told x) (Err y) = record {
      whole = tt;
      ended = tt;
      stopped = events_stopped s t u (report asked all) (at_moment x.done x.tick (lines_told asked x)) (report asked more) x.done x.tick
          (subst (λ r. EventsSoFar s t (report asked all) (report asked r)) is h.so_far)
          (stopped_at_moment t u x.done x.tick (lines_told asked x) lines.err);
    } in
    subst (λ (k : Moment). WritesEvents s u (report asked all) (last_moment m all) k (Err y)) (sym same) next

-- the lines of the next row are written
pub row_more : (s t u : OutputState) (asked : Asked) (m now n : Moment) (all rest more : List TimedReportedEvent) (row : Row) (y : Unit {0})
    → rest ≡ row_told row ∷ more → n ≡ moment_told (row_told row) → ToldSoFar s t asked m now all rest
    → WritesLines t u (lines_at asked row.number row.c (row_told row).event) (Ok y) → ToldSoFar s u asked m n all more
row_more s t u asked m now n all rest more row y is same h w =
    told_more s t u asked m now n all rest more (row_told row) y is same h
    (subst (λ (k : Moment). WritesLines t u (lines_at asked k.done k.tick (row_told row).event) (Ok y)) (sym same) w)

pub row_stops : (s t u : OutputState) (asked : Asked) (m now n : Moment) (all rest more : List TimedReportedEvent) (row : Row) (e : Failed) (r : Result (Unit {0}) Failed)
    → IsErr r → rest ≡ row_told row ∷ more → n ≡ moment_told (row_told row) → ToldSoFar s t asked m now all rest
    → WritesLines t u (lines_at asked row.number row.c (row_told row).event) (Err e) → WritesEvents s u (report asked all) (last_moment m all) n r
row_stops s t u asked m now n all rest more row e r failed is same h w =
    told_stops s t u asked m now n all rest more (row_told row) e r failed is same h
    (subst (λ (k : Moment). WritesLines t u (lines_at asked k.done k.tick (row_told row).event) (Err e)) (sym same) w)

-- no event remains
pub told_all : (s t : OutputState) (asked : Asked) (m now : Moment) (all rest : List TimedReportedEvent) (y : Unit {0}) → rest ≡ []
    → ToldSoFar s t asked m now all rest → WritesEvents s t (report asked all) (last_moment m all) now (Ok y)
unfolding report last_moment
told_all s t asked m now all rest y none h = record {
  whole = events_whole s t (report asked all) (subst (λ r. EventsSoFar s t (report asked all) (report asked r)) none h.so_far);
  ended = ap (last_moment now) (sym none) ∙ h.last;
  stopped = tt;
}

-- ---- lines before events

pub lines_and_run : (s t u : OutputState) (lines : List (List ℕ)) (events : List Event) (last m : Moment) (x : Unit {0}) (r : Result (Unit {0}) Failed) → WritesLines s t lines (Ok x) → WritesEvents t u events last m r → WritesEvents s u (at_moment 0 0 lines ++ events) last m r
lines_and_run s t u lines events last m x (Ok y) h w = record {
  whole = wrote_events s t u (at_moment 0 0 lines) events (wrote_at_moment s t 0 0 lines h.ok) w.whole;
  ended = w.ended;
  stopped = tt;
}
lines_and_run s t u lines events last m x (Err y) h w = record {
  whole = tt;
  ended = tt;
  stopped = events_after s t u (at_moment 0 0 lines) events m.done m.tick (wrote_at_moment s t 0 0 lines h.ok) w.stopped;
}

pub lines_alone : (s t : OutputState) (lines : List (List ℕ)) (events : List Event) (last m : Moment) (e : Failed) (r : Result (Unit {0}) Failed) → m ≡ record { done = 0; tick = 0 } → IsErr r → WritesLines s t lines (Err e) → WritesEvents s t (at_moment 0 0 lines ++ events) last m r
lines_alone s t lines events last m e (Ok y) f g h = absurd (cc)
lines_alone s t lines events last m e (Err y) f g h = record {
  whole = tt;
  ended = tt;
  stopped = subst (λ (k : Moment). StoppedAt s t (at_moment 0 0 lines ++ events) k.done k.tick) (sym f)
      (events_before s t (at_moment 0 0 lines) events 0 0 (stopped_at_moment s t 0 0 lines h.err));
}

-- ---- lines after events

pub events_cut : (s t : OutputState) (events more : List Event) (last m : Moment) (e : Failed) (r : Result (Unit {0}) Failed) → IsErr r → WritesEvents s t events last m (Err e) → WritesEvents s t (events ++ more) last m r
events_cut s t events more last m e (Ok x) f h = absurd (cc)
events_cut s t events more last m e (Err x) f h = record {
  whole = tt;
  ended = tt;
  stopped = events_before s t events more m.done m.tick h.stopped;
}

pub events_then : (s t u : OutputState) (events : List Event) (lines : List (List ℕ)) (last m : Moment) (x : Unit {0}) (r : Result (Unit {0}) Failed) → WritesEvents s t events last m (Ok x) → WritesLines t u lines r → WritesEvents s u (events ++ at_moment last.done last.tick lines) last m r
events_then s t u events lines last m x (Ok y) h w = record {
  whole = wrote_events s t u events (at_moment last.done last.tick lines) h.whole (wrote_at_moment t u last.done last.tick lines w.ok);
  ended = h.ended;
  stopped = tt;
}
events_then s t u events lines last m x (Err y) h w = record {
  whole = tt;
  ended = tt;
  stopped = events_after s t u events (at_moment last.done last.tick lines) m.done m.tick h.whole
      (subst (λ (k : Moment). StoppedAt t u (at_moment last.done last.tick lines) k.done k.tick) (sym h.ended)
      (stopped_at_moment t u last.done last.tick lines w.err));
}
