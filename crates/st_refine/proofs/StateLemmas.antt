-- Signals and orders keep the invariant of the state.
use Rattle.st_refine.proofs.Common.{All, IfSome, ℕ, ◌≡◌, ◌+◌, ◌<◌, ◌≤◌, ◌^◌, List, [], ◌∷◌, length, Option, None, Some, subst, arith, All-head, All-tail, Machine, IsMachine, HasArea, state_with_store, word, state_with_signal, indicator_word, Order, fixed-indicators, all_stored, read_in, printed_out, kept-stored, IsCard}
use Rattle.st_bits.specs.Storage.{words_of_storage, words_of_storage_is}
use Rattle.st_bits.proofs.RegisterLaws.{fixed_below}
use Rattle.st_bits.specs.Indicators.{indicator}
use Rattle.st_state.proofs.Kept.{is_machine-with_word}
use Rattle.st_state.proofs.TurnedLemmas.{turned_below}

pub signalled-machine : (s : Machine) (i : ℕ) → IsMachine s → IsMachine (state_with_signal s i)
signalled-machine s i m =
    let x = indicator_word 64 (indicator i) 0 (word s 11) in
    is_machine-with_word s 11 x m (omega (arith, words_of_storage_is)) (turned_below 64 (indicator i) 0 (word s 11)) (fixed-indicators x)

stored-machine : (s : Machine) (w : ℕ) (xs : List ℕ) → IsMachine s → w + length xs ≤ words_of_storage
    → All (λ x. x < 2 ^ 64) xs → IsMachine (all_stored s w xs)
unfolding all_stored
stored-machine s w [] m inside below = m
stored-machine s w (x ∷ xs) m inside below =
    stored-machine (state_with_store s w x) (w + 1) xs
    (kept-stored s w x m (omega arith) (fixed_below w x (All-head (λ y. y < 2 ^ 64) x xs below)))
    (omega arith) (All-tail (λ y. y < 2 ^ 64) x xs below)

without_reader : (s : Machine) → IsMachine s → IsMachine (record s { reader = None })
without_reader s m = assumption

without_printer : (s : Machine) → IsMachine s → IsMachine (record s { printer = None })
without_printer s m = assumption

pub read-machine : (s : Machine) (w : ℕ) (card : Option (List ℕ)) → IsMachine s → w + 8 ≤ words_of_storage → IfSome card IsCard
    → IsMachine (read_in s w card)
read-machine s w None m inside is = signalled-machine _ 11 (without_reader s m)
read-machine s w (Some card) m inside is =
    let room : w + length card ≤ words_of_storage = omega (arith, is.size) in
    signalled-machine _ 12 (stored-machine _ w card (without_reader s m) room is.below)

pub order-machine : (s : Machine) (order : Order) (card : Option (List ℕ)) → IsMachine s → s.reader ≡ Some order → IfSome card IsCard
    → IsMachine (read_in s order.word card)
order-machine s order card m given is =
    let area : HasArea (Some order) = subst HasArea given m.reader_area in
    read-machine s order.word card m area.1 is

pub printed-machine : (s : Machine) → IsMachine s → IsMachine (printed_out s)
printed-machine s m = signalled-machine _ 12 (without_printer s m)
