-- Lemmas on the lines between two segments, and on the issue state after them.
use Rattle.st_account.proofs.Common.{Bool, if◌then◌else◌, nat_eq, ◌||◌, is_some, map, ◌≡◌, ◌≢◌, ℕ, zero, suc, ◌+◌, true, false, List, [], ◌∷◌, ◌++◌, length, Option, None, Some, refl, sym, ◌∙◌, ap, arith, length-map, words_of_storage, LastAnswers, Machine, rests, interrupt, opening_issue, IssueState, ic_line, done_line, ticks_line, Moment, next_state, has_card, has_waited, ends_segment, next_issue, settled-done, seen_ahead, Use, Account, Last, Why, RowTelling, Border, Origin, Origins, origin_at, Run, start_line, Crosses, Position, kept_lines, IsBehindMoment, end-same, segment_end_lines, taken_by, en_lines, prints_lines, words_lines, marks_lines, state_lines, why_after, dropped_at_end, begins_segment, run_ends, segment_ends, segment_end_at, begun_at, state_lines_at, words_behind, why_by, why, segment_lines, segment_after, words_before, last_lines}
use Rattle.st_report.specs.Line.{end_line as run_end_line}
use Rattle.st_plain.specs.declared.looking.Ahead.{Ahead}

choice-lines : (b : Bool) (xs ys : List (List ℕ)) → (b ≡ true → xs ≡ ys) → (if b then xs else []) ≡ (if b then ys else [])
choice-lines true xs ys same = same refl
choice-lines false xs ys same = refl

same-done : (m : Moment) (s : Machine) → next_state m ≡ s → s.done ≡ m.scene.machine.done
same-done m s is = ap (λ (t : Machine). t.done) (sym is) ∙ settled-done m.scene

-- the words before matter only after the first state
words-same : (k : ℕ) (xs ys : List ℕ) (s : Machine) → (k ≢ 0 → xs ≡ ys) → words_lines k xs s ≡ words_lines k ys s
unfolding words_lines
words-same zero xs ys s same = refl
words-same (suc k) xs ys s same = ap (λ (zs : List ℕ). words_lines (suc k) zs s) (same (λ none. omega (arith, none)))

marks-words : (ws : List (List ℕ)) (k : ℕ) (was : Bool) (xs ys : List ℕ) (s : Machine) → (k ≢ 0 → xs ≡ ys) → marks_lines ws k was xs s ≡ marks_lines ws k was ys s
unfolding marks_lines
marks-words ws k was xs ys s same =
    ap (λ (ls : List (List ℕ)). prints_lines ws ++ (ic_line s.ic ∷ en_lines k was s.enabled ++ ls)) (words-same k xs ys s same)

state-words : (ws : List (List ℕ)) (k : ℕ) (was : Bool) (xs ys : List ℕ) (s : Machine) (taken : Option ℕ) (done : ℕ) → (k ≢ 0 → xs ≡ ys)
    → state_lines ws k was xs s taken done ≡ state_lines ws k was ys s taken done
unfolding state_lines
state-words ws k was xs ys s taken done same = ap (λ (ls : List (List ℕ)). ls ++ taken_by (nat_eq k 0) taken done) (marks-words ws k was xs ys s same)

-- the facts after a border, where a segment ends or continues
pub record IsBorder (ds : List ℕ) (levels : ℕ) (m : Moment) (s : Machine) (l : Last) (found : List Ahead) (held : LastAnswers) (came rested : Bool) : Type 0 where
  pub tick : m.tick ≡ l.tick
  pub issue : m.issue ≡ l.issue
  pub mispredicted : m.mispredicted ≡ l.done.mispredicted
  pub dropped : ends_segment m ≡ true → found ≡ map (seen_ahead ds levels) m.dropped
  pub banks : ends_segment m ≡ true → held ≡ m.banks
  pub state : next_state m ≡ s
  pub card : came ≡ has_card m
  pub waited : rested ≡ has_waited m

either-ends : (a b : Bool) → b ≡ true → (a || b) ≡ true
either-ends true b on = refl
either-ends false b on = on

pub ends-by : (left : ℕ) (m : Moment) → ends_segment m ≡ true → segment_ends left m ≡ true
ends-by left m on = either-ends (run_ends left m) (ends_segment m) on

pub border-of : (p : Position) (a : Account)
    → IsBehindMoment p a → IsBorder p.delays p.levels p.moment a.state a.last a.behind.ahead.found.items a.behind.banks a.behind.card a.behind.waited
border-of p a h = record {
  tick = h.tick;
  issue = h.issue;
  mispredicted = h.mispredicted;
  dropped = λ on. h.dropped (ends-by p.left p.moment on);
  banks = λ on. h.banks (ends-by p.left p.moment on);
  state = h.state;
  card = h.card;
  waited = h.waited;
}

module _ (ds : List ℕ) (levels : ℕ) (m : Moment) (s : Machine) (l : Last) (found : List Ahead) (banks : LastAnswers) (card waited : Bool)
    (is : IsBorder ds levels m s l found banks card waited) where
  pub ends-is : (taken : Option ℕ) (ends : Bool) → taken ≡ interrupt s → ends ≡ (l.done.mispredicted || card || waited || is_some taken) → ends ≡ ends_segment m
  unfolding ends_segment
  ends-is taken ends is_taken is_ends =
      is_ends
      ∙ ap (λ b. b || card || waited || is_some taken) (sym is.mispredicted)
      ∙ ap (λ b. m.mispredicted || b || waited || is_some taken) is.card
      ∙ ap (λ b. m.mispredicted || has_card m || b || is_some taken) is.waited
      ∙ ap (λ o. m.mispredicted || has_card m || has_waited m || is_some o) (is_taken ∙ ap interrupt (sym is.state))

  module _ (taken : Option ℕ) (ends : Bool) (is_taken : taken ≡ interrupt s) (is_ends : ends ≡ (l.done.mispredicted || card || waited || is_some taken)) where
    e : ends ≡ ends_segment m
    e = ends-is taken ends is_taken is_ends

    pub issue-is : (f : IssueState) → f ≡ (if ends then opening_issue banks (l.tick + 1 + length found) else l.issue) → f ≡ next_issue m
    unfolding next_issue
    issue-is f is_issue =
        is_issue
        ∙ ap (λ b. if b then opening_issue banks (l.tick + 1 + length found) else l.issue) e
        ∙ choice (ends_segment m) (λ yes.
        ap (λ b. opening_issue b (l.tick + 1 + length found)) (is.banks yes)
        ∙ ap (λ xs. opening_issue m.banks (l.tick + 1 + length xs)) (is.dropped yes)
        ∙ ap (λ k. opening_issue m.banks (l.tick + 1 + k)) (length-map m.dropped (seen_ahead ds levels))
        ∙ ap (λ t. opening_issue m.banks (t + 1 + length m.dropped)) (sym is.tick)) (sym is.issue)
      where
        choice : {x y u v : IssueState} (b : Bool) → (b ≡ true → x ≡ u) → y ≡ v → (if b then x else y) ≡ (if b then u else v)
        choice true one two = one refl
        choice false one two = two

    pub after-is : (k : ℕ) (begins : Bool) → begins ≡ (nat_eq k 0 || ends) → (if begins then k + 1 else k) ≡ segment_after k m
    after-is k begins is_begins = ap (λ b. if b then k + 1 else k) (is_begins ∙ ap (λ b. nat_eq k 0 || b) e)

    pub border-lines : (o : Machine → ℕ → Option Origin) (b : Machine) (was : Bool) (old : List ℕ) (ws : List (List ℕ)) (begun : List Ahead) → b.enabled ≡ was → ws ≡ words_behind m
        → (k n start : ℕ) (begins : Bool) (y : Why) → (k ≢ 0 → old ≡ b.words) → (ends_segment m ≡ true → k ≢ 0 → begun ≡ begun_at ds levels b m) → begins ≡ (nat_eq k 0 || ends) → n ≡ s.done + 1 → start ≡ (next_issue m).c
        → y ≡ (if nat_eq k 0 then Run else why_by taken l.done.mispredicted)
        → (((if ends then segment_end_lines (o s) k l.tick n found begun else []) ++ state_lines ws k was old s taken s.done)
        ++ (if begins then start_line (k + 1) start waited y ∷ [] else [])) ≡ segment_lines o ds levels k b m
    unfolding segment_lines why
    border-lines o b was old ws begun is_was is_printed k n start begins y is_words is_begun is_begins is_n is_start is_why =
        let all = is_begins ∙ ap (λ b. nat_eq k 0 || b) e in
        let number : n ≡ m.scene.machine.done + 1 = is_n ∙ ap (λ d. d + 1) (same-done m s is.state) in
        let name : y ≡ (if nat_eq k 0 then Run else why_by (interrupt (next_state m)) m.mispredicted) =
        is_why
        ∙ ap (λ i. if nat_eq k 0 then Run else why_by i l.done.mispredicted) (is_taken ∙ ap interrupt (sym is.state))
        ∙ ap (λ b. if nat_eq k 0 then Run else why_by (interrupt (next_state m)) b) (sym is.mispredicted) in
        let state : state_lines ws k was old s taken s.done ≡ state_lines_at (words_behind m) k b (next_state m) =
        ap (λ xs. state_lines xs k was old s taken s.done) is_printed
        ∙ ap (λ w. state_lines (words_behind m) k w old s taken s.done) (sym is_was)
        ∙ state-words (words_behind m) k b.enabled old b.words s taken s.done is_words
        ∙ ap (λ i. state_lines (words_behind m) k b.enabled b.words s i s.done) is_taken
        ∙ ap (state_lines_at (words_behind m) k b) (sym is.state) in
        ap (λ b. ((if b then segment_end_lines (o s) k l.tick n found begun else []) ++ state_lines ws k was old s taken s.done)
        ++ (if begins then start_line (k + 1) start waited y ∷ [] else [])) e
        ∙ ap (λ xs. (xs ++ state_lines ws k was old s taken s.done) ++ (if begins then start_line (k + 1) start waited y ∷ [] else []))
        (choice-lines (ends_segment m) (segment_end_lines (o s) k l.tick n found begun) (segment_end_lines (o (next_state m)) k m.tick (m.scene.machine.done + 1) (map (seen_ahead ds levels) m.dropped) (begun_at ds levels b m)) (λ yes.
        end-same (o s) k l.tick n found begun (begun_at ds levels b m) (is_begun yes)
        ∙ ap (λ xs. segment_end_lines (o s) k l.tick n xs (begun_at ds levels b m)) (is.dropped yes)
        ∙ ap (λ t. segment_end_lines (o s) k t n (map (seen_ahead ds levels) m.dropped) (begun_at ds levels b m)) (sym is.tick)
        ∙ ap (λ j. segment_end_lines (o s) k m.tick j (map (seen_ahead ds levels) m.dropped) (begun_at ds levels b m)) number
        ∙ ap (λ u. segment_end_lines (o u) k m.tick (m.scene.machine.done + 1) (map (seen_ahead ds levels) m.dropped) (begun_at ds levels b m)) (sym is.state)))
        ∙ ap (λ xs. ((if ends_segment m then segment_end_lines (o (next_state m)) k m.tick (m.scene.machine.done + 1) (map (seen_ahead ds levels) m.dropped) (begun_at ds levels b m) else []) ++ xs)
        ++ (if begins then start_line (k + 1) start waited y ∷ [] else [])) state
        ∙ ap (λ q. ((if ends_segment m then segment_end_lines (o (next_state m)) k m.tick (m.scene.machine.done + 1) (map (seen_ahead ds levels) m.dropped) (begun_at ds levels b m) else []) ++ state_lines_at (words_behind m) k b (next_state m))
        ++ (if q then start_line (k + 1) start waited y ∷ [] else [])) all
        ∙ ap (λ t. ((if ends_segment m then segment_end_lines (o (next_state m)) k m.tick (m.scene.machine.done + 1) (map (seen_ahead ds levels) m.dropped) (begun_at ds levels b m) else []) ++ state_lines_at (words_behind m) k b (next_state m))
        ++ (if nat_eq k 0 || ends_segment m then start_line (k + 1) t waited y ∷ [] else [])) is_start
        ∙ ap (λ w. ((if ends_segment m then segment_end_lines (o (next_state m)) k m.tick (m.scene.machine.done + 1) (map (seen_ahead ds levels) m.dropped) (begun_at ds levels b m) else []) ++ state_lines_at (words_behind m) k b (next_state m))
        ++ (if nat_eq k 0 || ends_segment m then start_line (k + 1) (next_issue m).c w y ∷ [] else [])) is.waited
        ∙ ap (λ z. ((if ends_segment m then segment_end_lines (o (next_state m)) k m.tick (m.scene.machine.done + 1) (map (seen_ahead ds levels) m.dropped) (begun_at ds levels b m) else []) ++ state_lines_at (words_behind m) k b (next_state m))
        ++ (if nat_eq k 0 || ends_segment m then start_line (k + 1) (next_issue m).c (has_waited m) z ∷ [] else [])) name

-- ---- the border of an account

-- the lines of a border after an entry of segment k that completed at a tick
abbrev border_text : Origins → Border → ℕ → ℕ → ℕ → List (List ℕ) → Bool → List ℕ → Machine → List Ahead → List Ahead → List (List ℕ)
border_text table x k tick i printed was old s found begun =
    ((if x.ends then segment_end_lines (origin_at table s) k tick i found begun else []) ++ state_lines printed k was old s x.taken x.done)
    ++ (if x.begins then start_line (k + 1) x.start x.waited x.why ∷ [] else [])

module _ (p : Position) (a : Account) (is : IsBehindMoment p a) (o : Account) (x : Border) (crosses : Crosses a o x) where
  at : IsBorder p.delays p.levels p.moment a.state a.last a.behind.ahead.found.items a.behind.banks a.behind.card a.behind.waited
  at = border-of p a is

  here : x.ends ≡ ends_segment p.moment
  here = ends-is p.delays p.levels p.moment a.state a.last a.behind.ahead.found.items a.behind.banks a.behind.card a.behind.waited at (interrupt a.state) x.ends refl crosses.border.ends

  pub segment-is : o.k ≡ segment_after a.k p.moment
  segment-is =
      crosses.segment
      ∙ after-is p.delays p.levels p.moment a.state a.last a.behind.ahead.found.items a.behind.banks a.behind.card a.behind.waited at (interrupt a.state) x.ends refl crosses.border.ends a.k x.begins crosses.border.begins

  -- why the segment of the next entry begins
  pub why-is : (w y : Why) → y ≡ (if x.begins then x.why else w) → y ≡ why_after a.k w p.moment
  unfolding why
  why-is w y is_why =
      is_why
      ∙ ap (λ (z : Border). if x.begins then z.why else w) crosses.border.value
      ∙ ap (λ q. if q then (if nat_eq a.k 0 then Run else why_by (interrupt a.state) a.last.done.mispredicted) else w)
      (crosses.border.begins ∙ ap (λ q. nat_eq a.k 0 || q) here)
      ∙ ap (λ s. if begins_segment a.k p.moment then (if nat_eq a.k 0 then Run else why_by (interrupt s) a.last.done.mispredicted) else w) (sym at.state)
      ∙ ap (λ q. if begins_segment a.k p.moment then (if nat_eq a.k 0 then Run else why_by (interrupt (next_state p.moment)) q) else w) (sym at.mispredicted)

  -- the number of entries that are dropped, if a segment ends
  pub dropped-counted : (old new j : ℕ) → j ≡ length a.behind.ahead.found.items → new ≡ old + (if x.ends then j else 0) → new ≡ old + dropped_at_end p.moment
  dropped-counted old new j is_j is_new =
      is_new
      ∙ ap (λ q. old + (if q then j else 0)) here
      ∙ ap (λ v. old + v) (choice (ends_segment p.moment) (λ yes. is_j ∙ ap length (at.dropped yes) ∙ length-map p.moment.dropped (seen_ahead p.delays p.levels)))
    where
      choice : {x y : ℕ} (b : Bool) → (b ≡ true → x ≡ y) → (if b then x else 0) ≡ (if b then y else 0)
      choice true same = same refl
      choice false same = refl

  pub issue-after : o.last.issue ≡ next_issue p.moment
  issue-after =
      issue-is p.delays p.levels p.moment a.state a.last a.behind.ahead.found.items a.behind.banks a.behind.card a.behind.waited at (interrupt a.state) x.ends refl crosses.border.ends o.last.issue crosses.issue

  -- the words of the last entry; none if a segment ends
  pub words-left : (new : List Use) → new ≡ (if x.ends then [] else o.last.uses.items) → new ≡ words_before p.moment a.last.uses.items
  words-left new is_new =
      is_new
      ∙ ap (λ (l : Last). if x.ends then [] else l.uses.items) crosses.last
      ∙ ap (λ y. if y then [] else a.last.uses.items) here

  -- the lines of the last entry
  module _ (going : run_ends p.left p.moment ≡ false) (end : Option ℕ) (is_end : end ≡ (if x.ends then Some o.last.tick else None)) where
    pub until-same : end ≡ segment_end_at p.left p.moment
    unfolding segment_end_at
    until-same =
        is_end
        ∙ ap (λ t. if x.ends then Some t else None) (ap (λ (l : Last). l.tick) crosses.last ∙ sym is.tick)
        ∙ ap (λ (y : Bool). if y then Some p.moment.tick else None) (here ∙ ap (λ y. y || ends_segment p.moment) (sym going))

    pub row-same : kept_lines a.k o.last end ≡ kept_lines a.k a.last (segment_end_at p.left p.moment)
    unfolding kept_lines
    row-same =
        ap (λ (l : Last). kept_lines a.k l end) crosses.last
        ∙ ap (kept_lines a.k a.last) until-same

  -- the lines of the border
  pub crossed : length a.words.items ≡ words_of_storage → (i : ℕ) (found : List Ahead) (printed : List (List ℕ)) → i ≡ o.state.done + 1 → found ≡ o.behind.ahead.found.items → printed ≡ o.behind.printed.items
      → border_text o.origins x a.k o.last.tick i printed o.last.enabled o.words.items o.state found (o.behind.ahead.late ∷ []) ≡ segment_lines (origin_at a.origins) p.delays p.levels a.k p.before p.moment
  crossed size i found printed is_i is_found is_printed =
      let opening : Border = record {
        ends = x.ends;
        begins = x.begins;
        start = o.last.issue.c;
        waited = a.behind.waited;
        why = if nat_eq a.k 0 then Run else why_by (interrupt a.state) a.last.done.mispredicted;
        taken = interrupt a.state;
        done = a.state.done;
      } in
      ap (λ (y : Border). border_text o.origins y a.k o.last.tick i printed o.last.enabled o.words.items o.state found (o.behind.ahead.late ∷ [])) crosses.border.value
      ∙ ap (λ (fs : List Ahead). border_text o.origins opening a.k o.last.tick i printed o.last.enabled o.words.items o.state fs (o.behind.ahead.late ∷ [])) is_found
      ∙ ap (λ (l : Last). border_text o.origins opening a.k l.tick i printed l.enabled o.words.items o.state o.behind.ahead.found.items (o.behind.ahead.late ∷ [])) crosses.last
      ∙ ap (λ (y : Account). border_text y.origins opening a.k a.last.tick i printed a.last.enabled y.words.items y.state y.behind.ahead.found.items (y.behind.ahead.late ∷ [])) crosses.rest
      ∙ border-lines p.delays p.levels p.moment a.state a.last a.behind.ahead.found.items a.behind.banks a.behind.card a.behind.waited at (interrupt a.state) x.ends refl crosses.border.ends (origin_at a.origins) p.before a.last.enabled
      a.words.items printed (a.behind.ahead.late ∷ []) is.was (is_printed ∙ ap (λ (y : Account). y.behind.printed.items) crosses.rest ∙ is.printed) a.k i o.last.issue.c x.begins
      (if nat_eq a.k 0 then Run else why_by (interrupt a.state) a.last.done.mispredicted) (λ some. is.words some size) (λ on some. is.begun (ends-by p.left p.moment on) some) crosses.border.begins
      (is_i ∙ ap (λ (y : Account). y.state.done + 1) crosses.rest) (ap (λ (f : IssueState). f.c) issue-after) refl

-- ---- the end of the run

pub last-is : (o : Machine → ℕ → Option Origin) (ds : List ℕ) (levels : ℕ) (b : Machine) (was : Bool) → b.enabled ≡ was → (m : Moment) (ws : List (List ℕ)) → ws ≡ words_behind m → (s : Machine) (k tick n : ℕ) (found begun : List Ahead) → m.tick ≡ tick
    → next_state m ≡ s → found ≡ map (seen_ahead ds levels) m.dropped → (k ≢ 0 → begun ≡ begun_at ds levels b m) → n ≡ s.done + 1 → (old : List ℕ) → (k ≢ 0 → old ≡ b.words)
    → ((segment_end_lines (o s) k tick n found begun ++ marks_lines ws k was old s) ++ run_end_line (rests s) ∷ done_line s.done ∷ ticks_line tick ∷ []) ≡ last_lines o ds levels k b m
unfolding last_lines
last-is o ds levels b was is_was m ws is_printed s k tick n found begun is_tick state seen is_begun is_n old is_words =
    let number : n ≡ m.scene.machine.done + 1 = is_n ∙ ap (λ d. d + 1) (same-done m s state) in
    let rest : Machine → ℕ → List (List ℕ) = λ t i. run_end_line (rests t) ∷ done_line t.done ∷ ticks_line i ∷ [] in
    ap (λ xs. (segment_end_lines (o s) k tick n found begun ++ marks_lines xs k was old s) ++ rest s tick) is_printed
    ∙ ap (λ xs. (xs ++ marks_lines (words_behind m) k was old s) ++ rest s tick) (end-same (o s) k tick n found begun (begun_at ds levels b m) is_begun)
    ∙ ap (λ xs. (segment_end_lines (o s) k tick n xs (begun_at ds levels b m) ++ marks_lines (words_behind m) k was old s) ++ rest s tick) seen
    ∙ ap (λ j. (segment_end_lines (o s) k tick j (map (seen_ahead ds levels) m.dropped) (begun_at ds levels b m) ++ marks_lines (words_behind m) k was old s) ++ rest s tick) number
    ∙ ap (λ w. (segment_end_lines (o s) k tick (m.scene.machine.done + 1) (map (seen_ahead ds levels) m.dropped) (begun_at ds levels b m) ++ marks_lines (words_behind m) k w old s) ++ rest s tick) (sym is_was)
    ∙ ap (λ ls. (segment_end_lines (o s) k tick (m.scene.machine.done + 1) (map (seen_ahead ds levels) m.dropped) (begun_at ds levels b m) ++ ls) ++ rest s tick)
    (marks-words (words_behind m) k b.enabled old b.words s is_words)
    ∙ ap (λ t. (segment_end_lines (o t) k tick (m.scene.machine.done + 1) (map (seen_ahead ds levels) m.dropped) (begun_at ds levels b m) ++ marks_lines (words_behind m) k b.enabled b.words t) ++ rest t tick) (sym state)
    ∙ ap (λ i. (segment_end_lines (o (next_state m)) k i (m.scene.machine.done + 1) (map (seen_ahead ds levels) m.dropped) (begun_at ds levels b m) ++ marks_lines (words_behind m) k b.enabled b.words (next_state m))
    ++ rest (next_state m) i) (sym is_tick)

pub totals-is : (s : Machine) (resting : Bool) (done tick : ℕ) → resting ≡ rests s → done ≡ s.done
    → (run_end_line resting ∷ done_line done ∷ ticks_line tick ∷ []) ≡ (run_end_line (rests s) ∷ done_line s.done ∷ ticks_line tick ∷ [])
totals-is s resting done tick is_rest is_done =
    ap (λ b. run_end_line b ∷ done_line done ∷ ticks_line tick ∷ []) is_rest
    ∙ ap (λ d. run_end_line (rests s) ∷ done_line d ∷ ticks_line tick ∷ []) is_done

-- the account at the end of the run
module _ (p : Position) (a : Account) (is : IsBehindMoment p a) (over : run_ends p.left p.moment ≡ true) where
  ends-there : segment_ends p.left p.moment ≡ true
  ends-there = ap (λ y. y || ends_segment p.moment) over

  pub last-until : (end : Option ℕ) → end ≡ Some a.last.tick → end ≡ segment_end_at p.left p.moment
  unfolding segment_end_at
  last-until end is_end = is_end ∙ ap Some (sym is.tick) ∙ ap (λ (y : Bool). if y then Some p.moment.tick else None) (sym ends-there)

  pub last-dropped : length a.behind.ahead.found.items ≡ length p.moment.dropped
  last-dropped = ap length (is.dropped ends-there) ∙ length-map p.moment.dropped (seen_ahead p.delays p.levels)

  pub last-row : (end : Option ℕ) → end ≡ Some a.last.tick → kept_lines a.k a.last end ≡ kept_lines a.k a.last (segment_end_at p.left p.moment)
  unfolding segment_end_at
  last-row end is_end = ap (kept_lines a.k a.last) (last-until end is_end)

  pub last-lines : length a.words.items ≡ words_of_storage → (i : ℕ) (found : List Ahead) (printed : List (List ℕ)) → i ≡ a.state.done + 1 → found ≡ a.behind.ahead.found.items → printed ≡ a.behind.printed.items
      → ((segment_end_lines (origin_at a.origins a.state) a.k a.last.tick i found (a.behind.ahead.late ∷ []) ++ marks_lines printed a.k a.last.enabled a.words.items a.state)
      ++ run_end_line (rests a.state) ∷ done_line a.state.done ∷ ticks_line a.last.tick ∷ []) ≡ last_lines (origin_at a.origins) p.delays p.levels a.k p.before p.moment
  last-lines size i found printed number is_found is_printed =
      last-is (origin_at a.origins) p.delays p.levels p.before a.last.enabled is.was p.moment printed (is_printed ∙ is.printed) a.state a.k a.last.tick i found (a.behind.ahead.late ∷ []) is.tick
      is.state (is_found ∙ is.dropped ends-there) (is.begun ends-there) number a.words.items (λ some. is.words some size)

-- the totals of waits do not matter
pub behind-same : (p : Position) (a : Account) (w : RowTelling) → IsBehindMoment p a → IsBehindMoment p (record a { waiting = w })
behind-same p a w is = record {
  state = is.state;
  tick = is.tick;
  issue = is.issue;
  mispredicted = is.mispredicted;
  was = is.was;
  dropped = is.dropped;
  begun = is.begun;
  banks = is.banks;
  printed = is.printed;
  card = is.card;
  waited = is.waited;
  words = is.words;
  unchanged = is.unchanged;
}
