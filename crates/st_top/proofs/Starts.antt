-- A prepared run starts from the scene of its job.
use Rattle.st_top.proofs.Common.{◌≡◌, ℕ, [], List, All, refl, ◌∙◌, ap, subst, Asked, Machine, IsMachine, opening_state, Signal, Scene, reader_cards, texts_in, behind_statements, IsCard, IsScene, timed_run, TimedReportedEvent, reported_events, events_of_run, scene_at_start, LEVELS}

pub scene_is : (c : Scene) (m n : Machine) (xs ys : List Signal) (cs ds : List (List ℕ)) → c ≡ record { machine = m; signals = xs; cards = cs } → m ≡ n → xs ≡ ys → cs ≡ ds → c ≡ record { machine = n; signals = ys; cards = ds }
scene_is c m n xs ys cs ds e p q r =
    let with_machine : Machine → Scene = λ k. record { machine = k; signals = xs; cards = cs } in
    let with_signals : List Signal → Scene = λ k. record { machine = n; signals = k; cards = cs } in
    let with_cards : List (List ℕ) → Scene = λ k. record { machine = n; signals = ys; cards = k } in
    e ∙ (ap with_machine p ∙ (ap with_signals q ∙ ap with_cards r))

-- the remaining events of a run, given its parameters
pub rest_is : (rest : List TimedReportedEvent) (asked : Asked) (ds snaps : List ℕ) (budget : ℕ) (c start : Scene)
    → rest ≡ reported_events (timed_run ds LEVELS budget c snaps) → ds ≡ asked.delays → budget ≡ asked.budget → c ≡ start → snaps ≡ asked.snaps
    → rest ≡ reported_events (events_of_run asked start)
rest_is rest asked ds snaps budget c start e delays many scene shots =
    e ∙ (ap (λ (xs : List ℕ). reported_events (timed_run xs LEVELS budget c snaps)) delays
    ∙ (ap (λ (n : ℕ). reported_events (timed_run asked.delays LEVELS n c snaps)) many
    ∙ (ap (λ (k : Scene). reported_events (timed_run asked.delays LEVELS asked.budget k snaps)) scene
    ∙ ap (λ (xs : List ℕ). reported_events (timed_run asked.delays LEVELS asked.budget start xs)) shots)))

pub is_scene : (image : List ℕ) (start : ℕ) (asked : Asked) (job : List ℕ) (m : Machine) (cards : List (List ℕ))
    → m ≡ opening_state image start → IsMachine m → cards ≡ reader_cards job → All IsCard cards → IsScene (scene_at_start image start asked job)
is_scene image start asked job m cards e is f all = record {
  machine = subst IsMachine e is;
  cards = subst (All IsCard) f all;
}

-- the reader of a job without cards
pub no_cards : reader_cards [] ≡ []
unfolding reader_cards texts_in behind_statements
no_cards = refl
