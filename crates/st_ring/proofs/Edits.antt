-- Reads and writes of levels in a list, by their places.
use Rattle.st_ring.proofs.Common.{◌≡◌, ◌≢◌, ℕ, zero, suc, List, [], ◌∷◌, set, Option, None, Some, refl, sym, ap, slice_get, Level, level_with_slot}

pub set-same : (xs : List Level) (k : ℕ) (x : Level) → slice_get xs k ≡ Some x → set xs k x ≡ xs
set-same [] k x at = refl
set-same (y ∷ xs) zero x at = let same : y ≡ x = cc at in ap (λ (z : Level). z ∷ xs) (sym same)
set-same (y ∷ xs) (suc k) x at = ap (λ (rest : List Level). y ∷ rest) (set-same xs k x at)

pub get-set : (xs : List Level) (k : ℕ) (x y : Level) → slice_get xs k ≡ Some y → slice_get (set xs k x) k ≡ Some x
get-set [] k x y at = absurd (cc at)
get-set (z ∷ xs) zero x y at = refl
get-set (z ∷ xs) (suc k) x y at = get-set xs k x y at

pub get-other : (xs : List Level) (k i : ℕ) (x : Level) → i ≢ k → slice_get (set xs k x) i ≡ slice_get xs i
get-other [] k i x other = refl
get-other (z ∷ xs) zero zero x other = absurd (other refl)
get-other (z ∷ xs) zero (suc i) x other = refl
get-other (z ∷ xs) (suc k) zero x other = refl
get-other (z ∷ xs) (suc k) (suc i) x other = get-other xs k i x (λ e. other (ap suc e))

pub same-item : {X : Type 0} (o : Option X) (x y : X) → o ≡ Some x → o ≡ Some y → x ≡ y
same-item o x y a b = cc (a, b)

pub no-word : (level : Level) (k : ℕ) (word : Option ℕ) (now : ℕ) → ((w : ℕ) → word ≡ Some w → ⊥) → level_with_slot level k word now ≡ level
no-word level k None now none = refl
no-word level k (Some w) now none = absurd (none w refl)
