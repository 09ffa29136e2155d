use Rattle.st_rows.proofs.Common.{◌≡◌, ◌+◌, ◌-◌, ◌%◌, List, ◌∷◌, take, set, ap, sym, ◌∙◌, arith, window, length-window, Made}
use Rattle.st_rows.proofs.NoteLemmas.{window-issue, window-full, take-few}
use Rattle.st_rows.proofs.log.Log.put.Goals as goal

pub returns-then-self-lt-KEPT : goal.returns-then-self-lt-KEPT
returns-then-self-lt-KEPT c =
    let q = c.self.inside in
    let notes = window q.head q.len q.notes in
    let counted = length-window 64 q.head q.len q.notes c.self.invariant.inside c.self.invariant.few c.self.invariant.whole in
    window-issue q.head q.len q.notes c.args.note c.self.invariant.inside (omega arith) c.self.invariant.whole
    ∙ ap (λ (rest : List Made). c.args.note ∷ rest) (sym (take-few 63 notes (omega (arith, counted))) ∙ ap (take 63) c.self.view_is)

pub returns-else-self-lt-KEPT : goal.returns-else-self-lt-KEPT
returns-else-self-lt-KEPT c =
    let q = c.self.inside in
    let full : q.len ≡ 64 = omega (arith, c.self.invariant.few) in
    ap (λ n. window ((q.head + 64 - 1) % 64) n (set q.notes ((q.head + 64 - 1) % 64) c.args.note)) full
    ∙ window-full q.head q.notes c.args.note c.self.invariant.inside c.self.invariant.whole
    ∙ ap (λ n. c.args.note ∷ take 63 (window q.head n q.notes)) (sym full)
    ∙ ap (λ (rest : List Made). c.args.note ∷ take 63 rest) c.self.view_is
