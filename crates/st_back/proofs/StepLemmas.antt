-- Undoing a step restores the state before it, for all puts since.
use Rattle.st_back.proofs.Common.{◌≡◌, ◌≢◌, ℕ, zero, suc, ◌+◌, ◌<◌, ◌≤◌, inl, inr, Bool, true, false, if◌then◌else◌, Option, None, Some, List, length, refl, sym, ◌∙◌, ap, subst, arith, get_or-set_other, IfSome, slice_index, slice_set, get_or-set_same, set-set, set-get_or, ext_get_or, register_word, words_of_storage, words_of_storage_is, Machine, IsMachine, word, state_with_store, is_pending, first_from, pending, Order, fixed-word, interrupt, step, TrailKeeps, IsTrail, CanBePutBack, Trail, IsBeside, completed-unwritten, KeptStep, state_with_words, restored_words, unput, with_rest, state_undone, step_with_word, IsStepSound}
use Rattle.st_state.proofs.Leftmost.{first_from-is}
use Rattle.st_prep.specs.Plan.{plan}
use Rattle.st_prep.specs.Ranges.{IsPrepared}
use Rattle.st_prep.proofs.PlanLemmas.{plan-prepared}
use Rattle.st_exec.specs.Ahead.{IsNotAmong}
use Rattle.st_exec.specs.Completion.{state_after_completion}
use Rattle.st_exec.proofs.MachineKept.{kept-completed}
use Rattle.st_prep.specs.declared.entries.Prepared.{Prepared}
use Rattle.st_back.proofs.UndoneLemmas.{unput-none, restored-size, restored-back}

-- ---- a step

abbrev of_parts : List ℕ → ℕ → Bool → Bool → ℕ → Option Order → Option Order → Machine
of_parts words ic enabled waiting done reader printer = record {
  words = words;
  ic = ic;
  enabled = enabled;
  waiting = waiting;
  done = done;
  reader = reader;
  printer = printer;
}

-- a state is determined by its words and the rest of the trail
same-machine : (s : Machine) (ws : List ℕ) (t : Trail) → ws ≡ s.words → t.ic ≡ s.ic → t.enabled ≡ s.enabled
    → t.waiting ≡ s.waiting → t.done ≡ s.done → t.reader ≡ s.reader → t.printer ≡ s.printer
    → ◌≡◌ {A = Machine} (record {
      words = ws;
      ic = t.ic;
      enabled = t.enabled;
      waiting = t.waiting;
      done = t.done;
      reader = t.reader;
      printer = t.printer;
    }) s
same-machine s ws t e1 e2 e3 e4 e5 e6 e7 =
    ap (λ y. of_parts y t.ic t.enabled t.waiting t.done t.reader t.printer) e1
    ∙ ap (λ y. of_parts s.words y t.enabled t.waiting t.done t.reader t.printer) e2
    ∙ ap (λ y. of_parts s.words s.ic y t.waiting t.done t.reader t.printer) e3
    ∙ ap (λ y. of_parts s.words s.ic s.enabled y t.done t.reader t.printer) e4
    ∙ ap (λ y. of_parts s.words s.ic s.enabled s.waiting y t.reader t.printer) e5
    ∙ ap (λ y. of_parts s.words s.ic s.enabled s.waiting s.done y t.printer) e6
    ∙ ap (λ y. of_parts s.words s.ic s.enabled s.waiting s.done s.reader y) e7

past_registers : (i : ℕ) → IsBeside i 0 32 → 32 ≤ i
past_registers i (inl before) = absurd (omega arith)
past_registers i (inr after) = omega arith

-- undoing restores state s from a state u that equals s in each word that the trail does not
-- contain
pub trail-undone : (s u : Machine) (k : KeptStep) → TrailKeeps s k.trail → CanBePutBack k.trail → k.puts ≡ 0
    → length u.words ≡ length s.words
    → ((w : ℕ) → 32 ≤ w → IsNotAmong w k.trail.writes → word u w ≡ word s w) → state_undone k u ≡ s
unfolding state_undone
trail-undone s u k t fits none size same =
    let m = t.machine in
    let q = k.trail.writes in
    let xs = k.trail.before in
    let a = unput k.puts k.places k.contents u in
    let is : a ≡ u = unput-none k.puts k.places k.contents u none in
    let b = state_with_words q.first q.len 0 xs a in
    let c = state_with_words q.first2 q.len2 q.len xs b in
    let d = state_with_words 0 32 0 k.trail.registers c in
    let size_a : length a.words ≡ words_of_storage = ap (λ (v : Machine). length v.words) is ∙ size ∙ m.size in
    let size_b : length b.words ≡ words_of_storage = restored-size q.first q.len 0 xs a ∙ size_a in
    let size_c : length c.words ≡ words_of_storage = restored-size q.first2 q.len2 q.len xs b ∙ size_b in
    let size_d : length d.words ≡ words_of_storage = restored-size 0 32 0 k.trail.registers c ∙ size_c in
    let written : (i : ℕ) → 32 ≤ i → word c i ≡ word s i =
    λ i above.
    restored-back q.first2 q.len2 q.len xs s b i m (λ some. rw size_b (fits.inside.inside2 some)) t.before.second
    (λ second.
    restored-back q.first q.len 0 xs s a i m (λ some. rw size_a (fits.inside.inside some))
    (λ j few. let from : 0 + j ≡ j = omega arith in ap (λ n. slice_index xs n) from ∙ t.before.first j few)
    (λ first.
    ap (λ (v : Machine). word v i) is ∙ same i above (record { first = first; second = second }))) in
    let registers : (i : ℕ) → word d i ≡ word s i =
    λ i.
    restored-back 0 32 0 k.trail.registers s c i m (λ some. omega (arith, words_of_storage_is))
    (λ j few.
    let from : 0 + j ≡ j = omega arith in
    ap (λ n. slice_index k.trail.registers n) from ∙ t.registers j few ∙ ap (λ n. word s n) (sym from))
    (λ beside. written i (past_registers i beside)) in
    same-machine s d.words k.trail (ext_get_or 0 d.words s.words (size_d ∙ sym m.size) (λ i h. registers i)) t.ic t.enabled
    t.waiting t.done t.reader t.printer

-- undoing restores the state before a completed entry, for all values of the program counter
pub entry-undone : (p : Prepared) (s : Machine) (ic : ℕ) (k : KeptStep) → IsPrepared p → TrailKeeps s k.trail → CanBePutBack k.trail
    → k.puts ≡ 0 → k.trail.writes ≡ p.writes → state_undone k (record (state_after_completion p s) { ic = ic }) ≡ s
entry-undone p s ic k h t fits none writes =
    let m = t.machine in
    let n = kept-completed p s h m in
    trail-undone s (record (state_after_completion p s) { ic = ic }) k t fits none (n.size ∙ sym m.size)
    (λ w above apart. completed-unwritten p s w h m above (subst (IsNotAmong w) writes apart))

-- the indicator of an interrupt is below 64
some-below : (p : ℕ → Bool) (r : Option ℕ) → first_from p 0 64 ≡ r → IfSome r (λ i. i < 64)
some-below p None e = tt
some-below p (Some i) e = let below : i < 0 + 64 = (first_from-is p 0 64 i e).2 in omega arith

interrupt-by : (b : Bool) (s : Machine) → IfSome (if b then pending s else None) (λ i. i < 64)
interrupt-by true s = some-below (is_pending (word s 11) (word s 12)) (pending s) refl
interrupt-by false s = tt

interrupt-below : (s : Machine) → IfSome (interrupt s) (λ i. i < 64)
interrupt-below s = interrupt-by s.enabled s

pub step-undone : (s : Machine) (k : KeptStep) → IsTrail s k.trail → CanBePutBack k.trail → k.puts ≡ 0
    → state_undone k (step s) ≡ s
unfolding step
step-undone s k t fits none =
    let m = t.keeps.machine in
    let p = plan s (interrupt s) in
    let h : IsPrepared p = plan-prepared s (interrupt s) m (interrupt-below s) in
    let n = kept-completed p s h m in
    trail-undone s (state_after_completion p s) k t.keeps fits none (n.size ∙ sym m.size)
    (λ w above apart. completed-unwritten p s w h m above (subst (IsNotAmong w) t.writes apart))

-- ---- words that were put since the step

-- recorded puts beyond the first n do not matter
unput-below : (n l w x : ℕ) (places contents : List ℕ) (s : Machine) → n ≤ l
    → unput n (slice_set places l w) (slice_set contents l x) s ≡ unput n places contents s
unfolding unput
unput-below zero l w x places contents s h = refl
unput-below (suc n) l w x places contents s h =
    let other : n ≢ l = λ e. omega arith in
    let place = get_or-set_other places l n w 0 other in
    let content = get_or-set_other contents l n x 0 other in
    let t = state_with_store s (slice_index places n) (slice_index contents n) in
    ap (λ a. unput n (slice_set places l w) (slice_set contents l x) (state_with_store s a (slice_index (slice_set contents l x) n))) place
    ∙ ap (λ y. unput n (slice_set places l w) (slice_set contents l x) (state_with_store s (slice_index places n) y)) content
    ∙ unput-below n l w x places contents t (omega arith)

-- a store that is followed by a store of the previous contents leaves the word unchanged
stored-back : (s : Machine) (w x : ℕ) → IsMachine s → state_with_store (state_with_store s w x) w (word s w) ≡ s
stored-back s w x m =
    ap (λ ws. record s { words = ws })
    (set-set s.words w (register_word w x) (register_word w (word s w))
    ∙ ap (λ y. slice_set s.words w y) (fixed-word s w m)
    ∙ set-get_or s.words w 0)

unput-put : (n w x : ℕ) (places contents : List ℕ) (s : Machine) → IsMachine s → n < length places → n < length contents
    → unput (suc n) (slice_set places n w) (slice_set contents n (word s w)) (state_with_store s w x) ≡ unput n places contents s
unfolding unput
unput-put n w x places contents s m room room' =
    let y : ℕ = word s w in
    let ps = slice_set places n w in
    let cs = slice_set contents n y in
    ap (λ a. unput n ps cs (state_with_store (state_with_store s w x) a (slice_index cs n))) (get_or-set_same places n w 0 room)
    ∙ ap (λ b. unput n ps cs (state_with_store (state_with_store s w x) w b)) (get_or-set_same contents n y 0 room')
    ∙ ap (unput n ps cs) (stored-back s w x m)
    ∙ unput-below n n w y places contents s (omega arith)

pub put-undone : (s : Machine) (k : KeptStep) (w x : ℕ) → IsMachine s → IsStepSound k → k.puts ≤ 7
    → state_undone (step_with_word k w (word s w)) (state_with_store s w x) ≡ state_undone k s
unfolding state_undone
put-undone s k w x m h few =
    let one : k.puts + 1 ≡ suc k.puts = omega arith in
    let ps = slice_set k.places k.puts w in
    let cs = slice_set k.contents k.puts (word s w) in
    let same : unput (k.puts + 1) ps cs (state_with_store s w x) ≡ unput k.puts k.places k.contents s =
    ap (λ n. unput n ps cs (state_with_store s w x)) one
    ∙ unput-put k.puts w x k.places k.contents s m (omega (arith, h.eight)) (omega (arith, h.eight_contents)) in
    ap
    (λ (v : Machine).
    with_rest k.trail (state_with_words 0 32 0 k.trail.registers (restored_words k.trail.writes k.trail.before v)))
    same
