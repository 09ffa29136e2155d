use Rattle.st_ring.proofs.Common.{◌≡◌, ℕ, Option, Some, List, set, sym, ap, ap₂, ◌∙◌, slice_get, Level, level_with_slot, level_with_words, coming, came_at}
use Rattle.st_ring.proofs.Edits.{get-set, get-other, same-item}
use Rattle.st_ring.proofs.filling.fill_level.Goals as goal

pub coming-first-requires-clause-prepared : goal.coming-first-requires-clause-prepared
coming-first-requires-clause-prepared g c = c.requires.prepared c.level-read.result.now c.level-read.ensures.level

pub coming-second-requires-clause-prepared : goal.coming-second-requires-clause-prepared
coming-second-requires-clause-prepared g c = c.requires.prepared c.level-read.result.now c.level-read.ensures.level

pub came_at-once-requires-clause-prepared : goal.came_at-once-requires-clause-prepared
came_at-once-requires-clause-prepared g c = c.requires.prepared c.level-read.result.now c.level-read.ensures.level

pub came_at-twice-requires-clause-prepared : goal.came_at-twice-requires-clause-prepared
came_at-twice-requires-clause-prepared g c = c.requires.prepared c.level-read.result.now c.level-read.ensures.level

pub returns-then-are_none-clause-levels : goal.returns-then-are_none-clause-levels
returns-then-are_none-clause-levels g c = λ level at.
    let ticks = c.args.plan.now.fills in
    let read = c.level-read.result.now in
    let same = same-item (slice_get c.args.ring.now c.args.k) read level c.level-read.ensures.level at in
    let none = c.are_none.ensures c.if-are_none.true in
    let nothing : read ≡ level_with_words ticks c.args.state.now c.args.now read =
    ap₂ (λ (a b : Option ℕ). level_with_slot (level_with_slot read 0 a (came_at ticks read 0)) 1 b (came_at ticks read 1))
    (sym none.0 ∙ c.coming-first.ensures) (sym none.1 ∙ c.coming-second.ensures) in
    at ∙ ap (λ (x : Level). Some x) (sym same ∙ nothing ∙ ap (λ (x : Level). level_with_words ticks c.args.state.now c.args.now x) same)

pub returns-clause-levels : goal.returns-clause-levels
returns-clause-levels g c = λ level at.
    let k = c.args.k in
    let now = c.args.now in
    let ticks = c.args.plan.now.fills in
    let old = c.args.ring.now in
    let read = c.level-read.result.now in
    let once = level_with_slot read 0 c.coming-first.result c.came_at-once.result in
    let twice = level_with_slot once 1 c.coming-second.result c.came_at-twice.result in
    let same = same-item (slice_get old k) read level c.level-read.ensures.level at in
    let first : c.put.new.ring ≡ set old k once = c.put.ensures.levels read c.level-read.ensures.level in
    let here : slice_get c.put.new.ring k ≡ Some once =
    ap (λ (r : List Level). slice_get r k) first ∙ get-set old k once read c.level-read.ensures.level in
    let second : c.put-2.new.ring ≡ set c.put.new.ring k twice = c.put-2.ensures.levels once here in
    let words : twice ≡ level_with_words ticks c.args.state.now now read =
    ap₂ (λ (a b : Option ℕ). level_with_slot (level_with_slot read 0 a c.came_at-once.result) 1 b c.came_at-twice.result) c.coming-first.ensures c.coming-second.ensures
    ∙ ap₂ (λ i j. level_with_slot (level_with_slot read 0 (coming ticks read c.args.state.now now 0) i) 1 (coming ticks read c.args.state.now now 1) j) c.came_at-once.ensures c.came_at-twice.ensures in
    ap (λ (r : List Level). slice_get r k) second ∙ get-set c.put.new.ring k twice once here
    ∙ ap (λ (x : Level). Some x) (words ∙ ap (λ (x : Level). level_with_words ticks c.args.state.now now x) same)

pub returns-clause-others : goal.returns-clause-others
returns-clause-others g c = λ i other.
    let k = c.args.k in
    let old = c.args.ring.now in
    let read = c.level-read.result.now in
    let once = level_with_slot read 0 c.coming-first.result c.came_at-once.result in
    let twice = level_with_slot once 1 c.coming-second.result c.came_at-twice.result in
    let first : c.put.new.ring ≡ set old k once = c.put.ensures.levels read c.level-read.ensures.level in
    let here : slice_get c.put.new.ring k ≡ Some once =
    ap (λ (r : List Level). slice_get r k) first ∙ get-set old k once read c.level-read.ensures.level in
    let second : c.put-2.new.ring ≡ set c.put.new.ring k twice = c.put-2.ensures.levels once here in
    ap (λ (r : List Level). slice_get r i) second ∙ get-other c.put.new.ring k i twice other
    ∙ (ap (λ (r : List Level). slice_get r i) first ∙ get-other old k i once other)
