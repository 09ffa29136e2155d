-- Lemmas on concatenated pieces of text.
use Rattle.std.proofs.Common.{◌≡◌, refl, ◌++◌, List, append_assoc, ℕ}

-- bytes after bytes
pub bytes_joined : (s mid a b : List ℕ) → mid ≡ s ++ a → mid ++ b ≡ s ++ (a ++ b)
bytes_joined s mid a b so_far = rw so_far (simp append_assoc refl)

-- five consecutive pieces
pub five_joined : (s t u v w a b c d e : List ℕ) → t ≡ s ++ a → u ≡ t ++ b → v ≡ u ++ c → w ≡ v ++ d
    → w ++ e ≡ s ++ (a ++ b ++ c ++ d ++ e)
five_joined s t u v w a b c d e first second third fourth = rw (fourth, third, second, first) (simp append_assoc refl)
