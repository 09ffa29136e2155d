-- Queued rows, and the events after them.
use Rattle.st_run.proofs.Common.{MatchOption, eqb-true, ◌≡◌, length, arith, List, [], ◌∷◌, Option, None, Some, refl, sym, ◌∙◌, ap, Queue, Row, TimedReportedEvent, row_told, rows_then, AreLeftOut}
use Rattle.std.specs.Prelude.{Bool, true, ◌==◌}

-- no row is queued
pub none-waits : (rows : List Row) (b : Bool) → b ≡ (length rows == 0) → b ≡ true → rows ≡ []
none-waits [] b is empty = refl
none-waits (row ∷ rows) b is empty =
    let none : length (row ∷ rows) ≡ 0 = eqb-true (length (row ∷ rows)) 0 (sym is ∙ empty) in
    let no : ⊥ = omega (arith, none) in absurd no

pub told-behind : {X : Type 0} (o : Option X) (rows new : List Row) (rest more : List TimedReportedEvent) (tell : X → TimedReportedEvent) → rows ≡ [] → new ≡ rows
    → MatchOption o (rest ≡ []) (λ x. rest ≡ tell x ∷ more)
    → MatchOption o (rows_then rows rest ≡ []) (λ x. rows_then rows rest ≡ tell x ∷ rows_then new more)
told-behind None [] [] rest more tell none same told = told
told-behind (Some x) [] [] rest more tell none same told = told
told-behind o [] (y ∷ ys) rest more tell none same told = absurd (cc same)
told-behind o (y ∷ ys) new rest more tell none same told = absurd (cc none)

pub passed-behind : (o : Option Row) (rows new : List Row) (rest more : List TimedReportedEvent) → rows ≡ [] → new ≡ rows
    → MatchOption o (more ≡ rest) (λ row. AreLeftOut row rest more)
    → MatchOption o (rows_then new more ≡ rows_then rows rest) (λ row. AreLeftOut row (rows_then rows rest) (rows_then new more))
passed-behind None [] [] rest more none same passed = passed
passed-behind (Some row) [] [] rest more none same passed = passed
passed-behind o [] (y ∷ ys) rest more none same passed = absurd (cc same)
passed-behind o (y ∷ ys) new rest more none same passed = absurd (cc none)

-- the first queued row is the next event
pub row-next : (o : Option Row) (mid new : Queue) (rest old : List TimedReportedEvent) → old ≡ rows_then mid.rows rest
    → MatchOption o (mid.rows ≡ []) (λ row. mid.rows ≡ row ∷ new.rows) → MatchOption o (new ≡ mid) (λ row. new.room ≡ mid.room)
    → MatchOption o (rows_then new.rows rest ≡ old) (λ row. old ≡ row_told row ∷ rows_then new.rows rest)
row-next None mid new rest old is none same = ap {A = Queue} (λ q. rows_then q.rows rest) same ∙ sym is
row-next (Some row) mid new rest old is first same = is ∙ ap {A = List Row} (λ xs. rows_then xs rest) first

pub row-room : (o : Option Row) (mid new : Queue) → MatchOption o (new ≡ mid) (λ row. new.room ≡ mid.room) → new.room ≡ mid.room
row-room None mid new same = ap {A = Queue} (λ q. q.room) same
row-room (Some row) mid new same = same
