-- Properties of a reading that follow from the properties of its steps.
use Rattle.st_strap.proofs.Common.{◌≡◌, Bool, true, false, cond, List, [], ◌∷◌, Option, Some, None, Result, Ok, Err, refl, ℕ, list_all, IfSome, option_map, option_and_then, option_or, ok_or, IfOk, is_same, row_of, Fault, both_of, reading_map, next_reading}
use Rattle.std.proofs.lemmas.Bool.{and_parts as both-true}

-- a property of the optional value leads to one of the next reading
pub some-judged : {A B : Type 0} (Q : A → Type 0) (P : B → Type 0) (fault : Fault) (o : Option A) (next : A → Result B Fault) →
    IfSome o Q → ((a : A) → o ≡ Some a → Q a → IfOk (next a) P) → IfOk (next_reading fault o next) P
some-judged Q P fault None next q h = tt
some-judged Q P fault (Some a) next q h = h a refl q

pub ok-mapped : {A B : Type 0} (Q : A → Type 0) (P : B → Type 0) (f : A → B) (r : Result A Fault) →
    IfOk r Q → ((a : A) → Q a → P (f a)) → IfOk (reading_map f r) P
ok-mapped Q P f (Ok a) q h = h a q
ok-mapped Q P f (Err e) q h = tt

pub ok-both : {A B : Type 0} (P : A → Type 0) (Q : B → Type 0) (a : Result A Fault) (b : Result B Fault) →
    IfOk a P → IfOk b Q → IfOk (both_of a b) (λ p. P p.0 × Q p.1)
ok-both P Q (Ok a) (Ok b) p q = (p, q)
ok-both P Q (Ok a) (Err f) p q = tt
ok-both P Q (Err e) (Ok b) p q = tt
ok-both P Q (Err e) (Err f) p q = tt

-- every good reading satisfies the trivial property
pub ok-any : {A : Type 0} (r : Result A Fault) → IfOk r (λ _. Unit {0})
ok-any (Ok a) = tt
ok-any (Err e) = tt

pub some-any : {A : Type 0} (o : Option A) → IfSome o (λ _. Unit {0})
some-any (Some a) = tt
some-any None = tt

pub some-map : {A B : Type 0} (Q : A → Type 0) (P : B → Type 0) (f : A → B) (o : Option A) →
    IfSome o Q → ((a : A) → Q a → P (f a)) → IfSome (option_map f o) P
some-map Q P f (Some a) q h = h a q
some-map Q P f None q h = tt

pub some-then : {A B : Type 0} (Q : A → Type 0) (P : B → Type 0) (f : A → Option B) (o : Option A) →
    IfSome o Q → ((a : A) → Q a → IfSome (f a) P) → IfSome (option_and_then f o) P
some-then Q P f (Some a) q h = h a q
some-then Q P f None q h = tt

pub some-or : {A : Type 0} (P : A → Type 0) (o p : Option A) → IfSome o P → IfSome p P → IfSome (option_or o p) P
some-or P (Some a) p x y = x
some-or P None p x y = y

pub some-ok : {A : Type 0} (P : A → Type 0) (o : Option A) (fault : Fault) → IfSome o P → IfOk (ok_or o fault) P
some-ok P (Some a) fault p = p
some-ok P None fault p = tt

-- a test that all rows of a table pass is passed by the row that is found
pub row-passes : {T : Type 0} (test : T → Bool) (word : List ℕ) (rows : List (List ℕ × T)) →
    list_all (λ row. test row.1) rows ≡ true → IfSome (row_of word rows) (λ x. test x ≡ true)
row-passes test word [] all = tt
row-passes test word (row ∷ rows) all =
    let parts = both-true (test row.1) (list_all (λ r. test r.1) rows) all in
    elim (is_same word row.0) as (λ v. IfSome (cond v (Some row.1) (row_of word rows)) (λ x. test x ≡ true)) [
      | true ↦ parts.0
      | false ↦ row-passes test word rows parts.1
    ]
