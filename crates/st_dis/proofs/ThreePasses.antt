-- A job that passes the three passes is assembled.
use Rattle.st_dis.proofs.Common.{◌≡◌, ◌≤◌, ◌==◌, ℕ, Bool, false, List, [], ◌∷◌, length, Result, Ok, if◌then◌else◌, ap, ◌∙◌, arith, nat_tests, cards_of, Asked, Refusal, pass_then, table, Found, form_pass, Named, name_pass, Emitted, value_pass, Assembly, with_defaults, together, assembly}

-- the assembly is the combined result of the passes
pub assembled : (job : List ℕ) (found : Found) (named : Named) (emitted : Emitted) → form_pass job (cards_of job) ≡ Ok found →
    name_pass found.lines ≡ Ok named → value_pass (table named.symbols) found.lines named.places ≡ Ok emitted →
    assembly job ≡ Ok (together found named emitted)
unfolding assembly
assembled job found named emitted formed names values =
    let last : Found → Named → Result Emitted Refusal → Result Assembly Refusal = λ f n r. pass_then r (λ l. Ok (together f n l)) in
    let middle : Found → Result Named Refusal → Result Assembly Refusal =
    λ f r. pass_then r (λ n. last f n (value_pass (table n.symbols) f.lines n.places)) in
    ap (λ (r : Result Found Refusal). pass_then r (λ f. middle f (name_pass f.lines))) formed
    ∙ (ap (λ (r : Result Named Refusal). middle found r) names
    ∙ ap (λ (r : Result Emitted Refusal). last found named r) values)

-- the defaults leave requests with a budget and a delay unchanged
pub defaults-kept : (asked : Asked) → 1 ≤ asked.budget → 1 ≤ length asked.delays → with_defaults asked ≡ asked
unfolding with_defaults
defaults-kept asked some_budget some_delays =
    let budget : (asked.budget == 0) ≡ false = grind (arith, nat_tests, some_budget) in
    let delays : (length asked.delays == 0) ≡ false = grind (arith, nat_tests, some_delays) in
    ap (λ (b : Bool). record asked {
      budget = if b then 1000 else asked.budget;
      delays = if length asked.delays == 0 then 1 ∷ [] else asked.delays;
    }) budget
    ∙ ap (λ (b : Bool). record asked { budget = asked.budget; delays = if b then 1 ∷ [] else asked.delays }) delays
