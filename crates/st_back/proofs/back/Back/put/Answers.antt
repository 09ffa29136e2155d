use Rattle.st_back.proofs.Common.{◌≤◌, sym, ◌∙◌, ap, subst, step_with_word, Steps, steps, newest_step, IsPut}
use Rattle.st_back.proofs.RingLemmas.{put-made, put-sound, room-of}
use Rattle.st_back.proofs.back.Back.put.Goals as goal

pub invariant_of-self : goal.invariant_of-self
invariant_of-self c =
    let k = c.in-Some.kept in
    let e = sym c.in-Some.ensures.value in
    let few : k.puts ≤ 7 =
    room-of (newest_step c.args.self.now.kept) k (ap (λ (b : Steps). newest_step b.kept) (sym c.self.view_is) ∙ e) c.requires.room in
    put-sound c.self.inside.ring c.pop_back.new.self c.push_back.new.self k c.noted.result c.args.w c.word.result
    c.self.invariant e few c.noted.ensures c.requires.above c.requires.inside c.in-Some.ensures.items
    c.push_back.ensures.items

pub returns : goal.returns
returns c =
    let k = c.in-Some.kept in
    let e = sym c.in-Some.ensures.value in
    let few : k.puts ≤ 7 =
    room-of (newest_step c.args.self.now.kept) k (ap (λ (b : Steps). newest_step b.kept) (sym c.self.view_is) ∙ e) c.requires.room in
    subst (λ (old : Steps). IsPut old (steps c.push_back.new.self) c.args.state.now c.store.new.self c.args.w c.args.word)
    c.self.view_is
    (put-made c.self.inside.ring c.pop_back.new.self c.push_back.new.self k c.noted.result c.args.state.now
    c.store.new.self c.args.w c.args.word c.self.invariant c.word.ensures.machine e few
    (c.noted.ensures ∙ ap (step_with_word k c.args.w) c.word.ensures.value) c.store.ensures c.in-Some.ensures.items
    c.push_back.ensures.items)
