use Rattle.st_ahead.proofs.Common.{◌≡◌, length, true, false, None, refl, sym, subst, ◌∙◌, ◌==◌, eq-eqb, ne_eqb, and_left, prediction, Place, issue_after_entry, entry, LookaheadView, IsOutlook}
use Rattle.st_ahead.proofs.DoneLookahead.{all-done, is_alone, ahead-through, alone-if}
use Rattle.st_ahead.proofs.lookahead.Lookahead.complete.Goals.{else-len-eq0-via-then-len-eq0+else-self, else-len-eq0-via-else-len-eq0}
use Rattle.st_ahead.proofs.lookahead.Lookahead.complete.Goals as goal

pub returns-then-self : goal.returns-then-self
returns-then-self g c = λ ds tick now t f are h due.
    let n = g.row.N in
    let s = c.args.state.now in
    let old = c.args.self.now in
    let inside : LookaheadView = record { levels = c.self.inside.levels; issue = c.self.inside.issue; log = c.self.inside.log; next = c.self.inside.next } in
    let all = c.complete-done.ensures ds n tick t s f inside.issue h.machine h.indicator
    (ahead-through ds n tick now t s f inside old c.self.view_is h) refl in
    let left = c.complete-done.new.self in
    let empty = eq-eqb (length left.ring) 0 (sym c.len.ensures.value ∙ c.if-len-eq0.true) in
    let behind = all-done ds n tick now t s c.complete-done.new.state f inside old left true c.self.view_is are h c.requires.some due all.2
    (alone-if (length left.ring == 0) inside.issue.serial empty ∙ c.if-self.true) all.0 in
    let P : Place → Type 0 = λ place. IsOutlook ds n tick now None (prediction t s) (issue_after_entry ds n f (entry t s))
    (record inside { levels = left; next = record inside.next { place = place } }) in
    (all.0, all.1, subst P (sym c.place_of-self-inside.ensures.value) behind.0, behind.1, behind.2)

pub returns-else-len-eq0 : goal.returns-else-len-eq0
returns-else-len-eq0 g c = λ ds tick now t f are h due.
    let n = g.row.N in
    let s = c.args.state.now in
    let old = c.args.self.now in
    let inside : LookaheadView = record { levels = c.self.inside.levels; issue = c.self.inside.issue; log = c.self.inside.log; next = c.self.inside.next } in
    let all = c.complete-done.ensures ds n tick t s f inside.issue h.machine h.indicator
    (ahead-through ds n tick now t s f inside old c.self.view_is h) refl in
    let left = c.complete-done.new.self in
    let P : LookaheadView → Type 0 = λ w. IsOutlook ds n tick now None (prediction t s) (issue_after_entry ds n f (entry t s)) w × (w.log ≡ old.log) × (w.next.words ≡ old.next.words) in
    let behind : is_alone inside left ≡ false → P (record inside { levels = left }) = λ e. all-done ds n tick now t s c.complete-done.new.state f inside old left false c.self.view_is are h c.requires.some due all.2 e all.0 in
    elim c.else-len-eq0.branch [
      | else-len-eq0-via-then-len-eq0+else-self w ↦
          let empty = eq-eqb (length left.ring) 0 (sym c.len.ensures.value ∙ w.if-len-eq0.true) in
          let rest = subst P (sym w.self-is) (behind (alone-if (length left.ring == 0) inside.issue.serial empty ∙ w.if-self.false)) in
          (all.0, all.1, rest.0, rest.1, rest.2)
      | else-len-eq0-via-else-len-eq0 w ↦
          let some = ne_eqb (length left.ring) 0 (λ none_left. w.if-len-eq0.false (c.len.ensures.value ∙ none_left)) in
          let rest = subst P (sym w.self-is) (behind (and_left (length left.ring == 0) inside.issue.serial some)) in
          (all.0, all.1, rest.0, rest.1, rest.2)
    ]
