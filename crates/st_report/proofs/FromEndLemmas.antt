-- A line that is composed from its end, piece by piece.
use Rattle.st_report.proofs.Common.{◌≡◌, ℕ, List, [], ◌++◌, refl, append_assoc, append-nil}

-- a line of five pieces, the last one first
pub five_pieces : (a b c d e l0 l1 l2 l3 l4 l5 : List ℕ)
    → l0 ≡ [] → l1 ≡ e ++ l0 → l2 ≡ d ++ l1 → l3 ≡ c ++ l2 → l4 ≡ b ++ l3 → l5 ≡ a ++ l4 → l5 ≡ a ++ b ++ c ++ d ++ e
five_pieces a b c d e l0 l1 l2 l3 l4 l5 e0 e1 e2 e3 e4 e5 =
    rw (e5, e4, e3, e2, e1, e0) (simp (append_assoc, append-nil) refl)

-- a line of eleven pieces, the last one first
pub eleven_pieces : (a b c d e f g h i j k l0 l1 l2 l3 l4 l5 l6 l7 l8 l9 l10 l11 : List ℕ)
    → l0 ≡ [] → l1 ≡ k ++ l0 → l2 ≡ j ++ l1 → l3 ≡ i ++ l2 → l4 ≡ h ++ l3 → l5 ≡ g ++ l4
    → l6 ≡ f ++ l5 → l7 ≡ e ++ l6 → l8 ≡ d ++ l7 → l9 ≡ c ++ l8 → l10 ≡ b ++ l9 → l11 ≡ a ++ l10
    → l11 ≡ a ++ b ++ c ++ d ++ e ++ f ++ g ++ h ++ i ++ j ++ k
eleven_pieces a b c d e f g h i j k l0 l1 l2 l3 l4 l5 l6 l7 l8 l9 l10 l11 e0 e1 e2 e3 e4 e5 e6 e7 e8 e9 e10 e11 =
    rw (e11, e10, e9, e8, e7, e6, e5, e4, e3, e2, e1, e0) (simp (append_assoc, append-nil) refl)
