-- Lemmas on the ticks that an entry lost.
use Rattle.st_tally.proofs.Common.{max, ◌≡◌, ℕ, ◌+◌, ◌-◌, ◌≤◌, false, List, [], ◌∷◌, inl, inr, refl, sym, ◌∙◌, ap, arith, charges_behind, is_stage, ticks_for, all_ticks, StagePart, Restart, Instruction, Address, Index, Preparing, Operand, Executing, reach-later, reach-end, lt-cases, charges_of_entry, EntryDone, lost_by}

-- a stage other than EXECUTING has no ticks of it
passed : (t u : ℕ) (x : StagePart) (xs : List StagePart) → is_stage Executing x.stage ≡ false → u ≡ max t x.end
    → ticks_for Executing (charges_behind t (x ∷ xs)) ≡ ticks_for Executing (charges_behind u xs)
unfolding charges_behind ticks_for
passed t u x xs other top = elim (lt-cases t x.end) [
  | inl y ↦
      let at : u ≡ x.end = omega (arith, top, y.1) in
      rw (y.0, other, at) (omega arith)
  | inr n ↦
      let at : u ≡ t = omega (arith, top, n.1) in
      rw (n.0, at) refl
]

executed : (t c : ℕ) → ticks_for Executing (charges_behind t (record { stage = Executing; end = c } ∷ [])) ≡ c - t
unfolding charges_behind ticks_for
executed t c = elim (lt-cases t c) [
  | inl y ↦ rw y.0 (omega arith)
  | inr n ↦ rw n.0 (omega (arith, n.1))
]

-- the ticks of EXECUTING come after the operands are available
executing : (d : EntryDone) → d.start ≤ d.row.ticks.p → d.row.ticks.a ≤ d.row.ticks.p → d.row.ticks.p ≤ d.row.ticks.r
    → ticks_for Executing (charges_of_entry d) ≡ d.row.ticks.c - max d.before d.row.ticks.r
executing d start address ready =
    let r = d.row.ticks in
    let t1 : ℕ = max d.before d.start in
    let t2 : ℕ = max t1 (r.a - 1) in
    let t3 : ℕ = max t2 r.a in
    let t4 : ℕ = max t3 (r.p - 1) in
    let t5 : ℕ = max t4 r.p in
    let t6 : ℕ = max t5 r.r in
    let last : t6 ≡ max d.before r.r = omega (arith, start, address, ready) in
    passed d.before t1 (record { stage = Restart; end = d.start }) _ refl refl
    ∙ passed t1 t2 (record { stage = Instruction; end = r.a - 1 }) _ refl refl
    ∙ passed t2 t3 (record { stage = Address; end = r.a }) _ refl refl
    ∙ passed t3 t4 (record { stage = Index; end = r.p - 1 }) _ refl refl
    ∙ passed t4 t5 (record { stage = Preparing; end = r.p }) _ refl refl
    ∙ passed t5 t6 (record { stage = Operand; end = r.r }) _ refl refl
    ∙ executed t6 r.c
    ∙ ap (λ t. r.c - t) last

-- all charges end with the last of its stages
reached : (d : EntryDone) → d.start ≤ d.row.ticks.p → d.row.ticks.a ≤ d.row.ticks.p → d.row.ticks.p ≤ d.row.ticks.r
    → d.before + all_ticks (charges_of_entry d) ≡ max (max d.before d.row.ticks.r) d.row.ticks.c
reached d start address ready =
    let r = d.row.ticks in
    let t1 : ℕ = max d.before d.start in
    let t2 : ℕ = max t1 (r.a - 1) in
    let t3 : ℕ = max t2 r.a in
    let t4 : ℕ = max t3 (r.p - 1) in
    let t5 : ℕ = max t4 r.p in
    let t6 : ℕ = max t5 r.r in
    let t7 : ℕ = max t6 r.c in
    let last : t6 ≡ max d.before r.r = omega (arith, start, address, ready) in
    sym (reach-later d.before t1 _ _ (record { stage = Restart; end = d.start }) refl refl)
    ∙ sym (reach-later t1 t2 _ _ (record { stage = Instruction; end = r.a - 1 }) refl refl)
    ∙ sym (reach-later t2 t3 _ _ (record { stage = Address; end = r.a }) refl refl)
    ∙ sym (reach-later t3 t4 _ _ (record { stage = Index; end = r.p - 1 }) refl refl)
    ∙ sym (reach-later t4 t5 _ _ (record { stage = Preparing; end = r.p }) refl refl)
    ∙ sym (reach-later t5 t6 _ _ (record { stage = Operand; end = r.r }) refl refl)
    ∙ sym (reach-later t6 t7 _ _ (record { stage = Executing; end = r.c }) refl refl)
    ∙ sym (reach-end t7 [] refl)
    ∙ ap (λ t. max t r.c) last

pub lost-others : (d : EntryDone) → d.start ≤ d.row.ticks.p → d.row.ticks.a ≤ d.row.ticks.p → d.row.ticks.p ≤ d.row.ticks.r
    → lost_by d + ticks_for Executing (charges_of_entry d) ≡ all_ticks (charges_of_entry d)
lost-others d start address ready =
    omega (arith, reached d start address ready, executing d start address ready)
