-- The lines of the requested state before the end.
use Rattle.st_top.proofs.Common.{moment_at_start, last-same, LEVELS, ◌≡◌, ◌≤◌, ◌==◌, ℕ, zero, suc, ◌-◌, min, List, [], ◌∷◌, ◌++◌, true, false, length, take, drop, get_or, sym, ◌∙◌, ap, arith, if◌then◌else◌, length-drop, drop-append-le, nat_tests, Asked, Machine, Scene, run, states_before, back_line, Beside, IsBeside, HasMadeRun, states, block, states_of_run, block_before, lines_of_steps_back, last_state}
use Rattle.st_top.proofs.Rewinds.{states-same, length-states_before}

first_at : (xs : List Machine) (i : ℕ) (t d : Machine) → t ∷ [] ≡ take 1 (drop i xs) → get_or xs i d ≡ t
first_at [] zero t d e = absurd (cc)
first_at [] (suc i) t d e = absurd (cc)
first_at (x ∷ xs) zero t d e = cc
first_at (x ∷ xs) (suc i) t d e = first_at xs i t d e

asked_for : (asked : Asked) (lines : List (List ℕ)) → 1 ≤ asked.back → lines ≡ (if asked.back == 0 then [] else lines)
asked_for asked lines some =
    let test : (asked.back == 0) ≡ false = grind (arith, nat_tests) in sym (ap (λ b. if b then [] else lines) test)

pub lines_before : (asked : Asked) (j : ℕ) (start : Scene) (b : Beside) (t : Machine) → HasMadeRun asked.back asked.budget start b → j ≡ length b.1.kept → t ∷ [] ≡ take 1 (states_before b.1.kept b.0.machine ++ b.0.machine ∷ []) → back_line j ∷ block asked.dumps t ≡ lines_of_steps_back asked (states_of_run asked start) (last_state asked start)
lines_before asked j start b t h count oldest =
    let f : IsBeside asked.back b h.before = h.beside in
    let k = asked.back in
    let n = length h.before in
    let last = b.0.machine in
    let all = states asked.budget start in
    let issue = drop (n - k) h.before in
    let long : length b.1.kept ≡ length issue = sym (length-states_before b.1.kept last) ∙ ap length f.states in
    let size = length-drop (n - k) h.before in
    let done = h.counted in
    let steps : j ≡ min k last.done = omega (arith, count, long, size, done) in
    let place : n - k ≡ last.done - min k last.done = omega (arith, done) in
    let few : n - k ≤ n = omega arith in
    let rest : drop (n - k) all ≡ states_before b.1.kept last ++ last ∷ [] =
    ap (drop (n - k)) h.all ∙ (drop-append-le (n - k) h.before (last ∷ []) few
    ∙ ap (λ (ss : List Machine). ss ++ last ∷ []) (sym f.states)) in
    let first : get_or all (n - k) last ≡ t = first_at all (n - k) t last (oldest ∙ ap (take 1) (sym rest)) in
    let state : t ≡ get_or all (last.done - min k last.done) last = sym first ∙ ap (λ i. get_or all i last) place in
    ap (λ i. back_line i ∷ block asked.dumps t) steps
    ∙ (ap (λ (m : Machine). back_line (min k last.done) ∷ block asked.dumps m) state
    ∙ (asked_for asked (block_before asked.dumps (min k last.done) all last) f.some
    ∙ (ap (lines_of_steps_back asked all) h.last
    ∙ (ap (λ (ss : List Machine). lines_of_steps_back asked ss (run asked.budget start).scene.machine) (states-same asked.delays LEVELS asked.budget (moment_at_start start))
    ∙ ap (lines_of_steps_back asked (states_of_run asked start)) (last-same asked.delays LEVELS asked.budget (moment_at_start start))))))

pub no_lines : (asked : Asked) (start : Scene) → asked.back ≡ 0 → [] ≡ lines_of_steps_back asked (states_of_run asked start) (last_state asked start)
no_lines asked start none =
    let last = last_state asked start in
    let test : (asked.back == 0) ≡ true = grind (arith, nat_tests, none) in
    sym (ap (λ b. if b then [] else block_before asked.dumps (min asked.back last.done) (states_of_run asked start) last) test)
