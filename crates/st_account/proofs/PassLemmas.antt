-- Lemmas on the events after a moment, and on the account after them.
use Rattle.st_account.proofs.Common.{slice_index, nat_lt, nat_eq, ◌||◌, not, Bool, map, All, ◌≡◌, ◌≢◌, ℕ, suc, ◌+◌, ◌^◌, ◌≤◌, ◌<◌, true, None, List, ◌++◌, length, sym, ◌∙◌, ap, subst, arith, words_of_storage, WORDS, LastAnswers, Machine, word, prediction, rests, interrupt, made_before, ahead, prepared_before, reads_before, PendingEvents, scene_at, Scene, interlude, with_due_signals, with_due_orders, IsCard, next_scene, next_state, has_card, has_waited, settled-done, RowTelling, IsUntouched, seen_ahead, first_late, Account, Last, words_printed, Position, predicting, still_by, IsOpen, IsWaiting, IsWithinRun, IsAt, words_behind, begun_at, segment_ends}
use Rattle.st_lines.specs.declared.changes.Changeable.{Changeable}
use Rattle.st_plain.specs.declared.looking.Ahead.{Ahead as SeenAhead}
use Rattle.st_account.proofs.LeftLemmas.{area, between-left}
use Rattle.st_account.proofs.RunLemmas.{end-looks}

pub may-is : (may : Changeable) (l k : Last) (s : Machine) → may ≡ record { writes = l.unit.prepared.writes; card = area s.reader } → l ≡ k
    → may ≡ record { writes = k.unit.prepared.writes; card = area s.reader }
may-is may l k s is same = subst (λ (l : Last). may ≡ record { writes = l.unit.prepared.writes; card = area s.reader }) same is

module _ (p : Position) (a : Account) (x : PendingEvents) (h : IsAt p a x) where
  -- the events have been applied; before them the entries that ran ahead were determined

  module _ (mid state : Machine) (y : PendingEvents) (same : mid ≡ a.state)
      (after : (interlude (scene_at mid x)).scene ≡ scene_at state y) where
    came : (interlude (scene_at a.state x)).scene ≡ scene_at state y
    came = ap (λ u. (interlude (scene_at u x)).scene) (sym same) ∙ after

    pub scene-is : next_scene p.moment ≡ scene_at state y
    scene-is = ap (λ c. (interlude c).scene) h.scene ∙ came

    pub printed-is : (ws : List (List ℕ)) → ws ≡ words_printed (interlude (scene_at mid x)).happened → ws ≡ words_behind p.moment
    printed-is ws is =
        is
        ∙ ap (λ u. words_printed (interlude (scene_at u x)).happened) same
        ∙ ap (λ c. words_printed (interlude c).happened) (sym h.scene)

    pub card-is : (card : Bool) → card ≡ nat_lt (length y.cards) (length x.cards) → card ≡ has_card p.moment
    card-is card is =
        is
        ∙ ap (λ (c : Scene). nat_lt (length c.cards) (length x.cards)) (sym scene-is)
        ∙ ap (λ (c : Scene). nat_lt (length (next_scene p.moment).cards) (length c.cards)) (sym h.scene)

    pub waited-is : (waited : Bool) → waited ≡ rests (with_due_orders (with_due_signals (scene_at mid x))).scene.machine → waited ≡ has_waited p.moment
    waited-is waited is =
        is
        ∙ ap (λ u. rests (with_due_orders (with_due_signals (scene_at u x))).scene.machine) same
        ∙ ap (λ (c : Scene). rests (with_due_orders (with_due_signals c)).scene.machine) (sym h.scene)

    -- a word that no event may have changed
    pub left-is : (may : Changeable) → may ≡ record { writes = a.last.unit.prepared.writes; card = area mid.reader } → a.k ≢ 0 → length a.words.items ≡ words_of_storage
        → (v : ℕ) → v < WORDS → IsUntouched v may
        → slice_index a.words.items v ≡ word state v
    left-is may is some long v inside left =
        let l : IsUntouched v (record { writes = a.last.unit.prepared.writes; card = area mid.reader }) = subst (IsUntouched v) is left in
        let each : All IsCard x.cards = subst (λ (c : Scene). All IsCard c.cards) h.scene h.each in
        ap (λ (ws : List ℕ). slice_index ws v) (h.words some long)
        ∙ sym (h.unwritten some v l.above l.unwritten)
        ∙ ap (λ (u : Machine). word u v) (sym same)
        ∙ sym (between-left (scene_at mid x) each v l.above l.beside)
        ∙ ap (λ (c : Scene). word c.machine v) after

  -- if a segment ends, the entries that ran ahead were determined
  module _ (still looks : Bool) (is_still : still ≡ still_by a.state a.last.done.mispredicted x.signals) (is_looks : looks ≡ (nat_eq p.left 0 || not still))
      (ends : segment_ends p.left p.moment ≡ true) where
    asked : looks ≡ true
    asked = end-looks p.left a.state x.signals x.cards p.moment a.last.done.mispredicted still looks h.scene h.hand.mispredicted is_still is_looks ends

    pub dropped-is : (found : List SeenAhead)
        → (looks ≡ true → found ≡ map (seen_ahead p.delays p.levels) (prepared_before a.last.tick (ahead p.delays p.levels p.levels None (predicting a.last.ic a.state) a.last.issue)))
        → found ≡ map (seen_ahead p.delays p.levels) p.moment.dropped
    dropped-is found seen =
        seen asked
        ∙ ap (λ (c : Scene). map (seen_ahead p.delays p.levels) (prepared_before a.last.tick (ahead p.delays p.levels p.levels None (predicting a.last.ic c.machine) a.last.issue))) (sym h.scene)
        ∙ ap (map (seen_ahead p.delays p.levels)) (sym h.hand.dropped)

    pub banks-is : (banks : LastAnswers) → (looks ≡ true → banks ≡ (made_before p.delays a.last.tick
        (h.hand.reads ++ reads_before p.delays p.levels a.last.tick (ahead p.delays p.levels (suc p.levels) None (predicting a.last.ic a.state) a.last.issue)) h.hand.bus).banks)
        → banks ≡ p.moment.banks
    banks-is banks held =
        held asked
        ∙ ap (λ (c : Scene). (made_before p.delays a.last.tick
        (h.hand.reads ++ reads_before p.delays p.levels a.last.tick (ahead p.delays p.levels (suc p.levels) None (predicting a.last.ic c.machine) a.last.issue)) h.hand.bus).banks) (sym h.scene)
        ∙ sym h.hand.banks

    -- the entry that had begun
    pub begun-is : (begun : List SeenAhead)
        → (looks ≡ true → begun ≡ map (seen_ahead p.delays p.levels) (first_late a.last.tick (ahead p.delays p.levels (suc p.levels) None (predicting a.last.ic a.state) a.last.issue)))
        → a.k ≢ 0 → begun ≡ begun_at p.delays p.levels p.before p.moment
    unfolding begun_at
    begun-is begun found some =
        found asked
        ∙ ap (λ (c : Scene). map (seen_ahead p.delays p.levels) (first_late a.last.tick (ahead p.delays p.levels (suc p.levels) None (predicting a.last.ic c.machine) a.last.issue))) (sym h.scene)
        ∙ ap (λ u. map (seen_ahead p.delays p.levels) (first_late a.last.tick (ahead p.delays p.levels (suc p.levels) None u a.last.issue))) (h.predicted some)
        ∙ ap (λ t. map (seen_ahead p.delays p.levels) (first_late t (ahead p.delays p.levels (suc p.levels) None (prediction (interrupt p.before) p.before) a.last.issue))) (sym h.hand.tick)
        ∙ ap (λ f. map (seen_ahead p.delays p.levels) (first_late p.moment.tick (ahead p.delays p.levels (suc p.levels) None (prediction (interrupt p.before) p.before) f))) (sym h.hand.issue)

  -- the events change neither a count nor the facts of the last entry
  pub run-same : (c : Account) → next_state p.moment ≡ c.state → c.k ≡ a.k → c.last ≡ a.last → c.waiting ≡ a.waiting → IsWithinRun p.left c
  run-same c state number last waiting =
      let done : c.state.done ≡ a.state.done =
      ap (λ (u : Machine). u.done) (sym state) ∙ settled-done p.moment.scene ∙ ap (λ (s : Scene). s.machine.done) h.scene in
      let tick = ap (λ (l : Last). l.tick) last in
      record {
        few = omega (arith, done, h.run.few);
        number = omega (arith, number, done, h.run.number);
        early = omega (arith, tick, h.run.early);
        opened = subst IsOpen (sym last) h.run.opened;
        meets = subst (λ (l : Last). l.issue.c ≡ l.tick) (sym last) h.run.meets;
        counter = subst (λ (l : Last). l.ic < 2 ^ 19) (sym last) h.run.counter;
        waiting = subst (λ (w : RowTelling). IsWaiting c.last w.totals) (sym waiting) (subst (λ (l : Last). IsWaiting l a.waiting.totals) (sym last) h.run.waiting);
      }

pub soon-same : (l k : Last) (ticks : List ℕ) → k ≡ l → All (λ t. t ≤ l.tick + 255) ticks → All (λ t. t ≤ k.tick + 255) ticks
soon-same l k ticks same soon = subst (λ (j : Last). All (λ t. t ≤ j.tick + 255) ticks) (sym same) soon
