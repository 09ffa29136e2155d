use Rattle.st_ring.proofs.Common.{◌≡◌, ◌<◌, ◌+◌, ◌%◌, List, length, get_or, set, ap, sym, ◌∙◌, arith, rules, get_or_default, get_or_from_slice_get, length-window, window-set, get_or-window, Level, level_with_word}
use Rattle.st_ring.proofs.ring.SpecRing.fill.Goals as goal

pub returns-clause-levels : goal.returns-clause-levels
returns-clause-levels g c = λ level at.
    let q = c.self.inside in
    let k = c.args.k in
    let eight : length q.slots ≡ 8 = search rules in
    let counted = length-window 8 q.head q.len q.slots c.self.invariant.inside (omega arith) eight in
    let same = ap length c.self.view_is in
    let below : k < q.len = omega (arith, counted, same) in
    let written : (q.head + k) % 8 < length q.slots = omega arith in
    let here : get_or q.slots ((q.head + k) % 8) level ≡ level =
    sym (get_or-window 8 q.head q.len q.slots c.self.invariant.inside (omega arith) eight k level below)
    ∙ (ap (λ (s : List Level). get_or s k level) c.self.view_is ∙ get_or_from_slice_get c.args.self.now k level level at) in
    window-set 8 q.head q.len q.slots c.self.invariant.inside (omega arith) eight k c.put_word.new.level below
    ∙ (ap (λ (s : List Level). set s k c.put_word.new.level) c.self.view_is
    ∙ ap (λ (l : Level). set c.args.self.now k l)
    (c.put_word.ensures ∙ ap (λ (l : Level). level_with_word l c.args.slot c.args.word c.args.tick)
    (get_or_default q.slots ((q.head + k) % 8) _ level written ∙ here)))
