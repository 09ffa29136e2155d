use Rattle.st_report.proofs.Common.{◌≡◌, ◌++◌, ◌*◌, ℕ, List, refl, sym, ap, ◌∙◌, codes, decimal, arith, digits}
use Rattle.st_report.proofs.from_end.LineFromEnd.put_half.Goals as goal

first_half : codes ".0" ≡ codes "." ++ decimal (32 * 0)
unfolding digits
first_half = refl

second_half : codes ".32" ≡ codes "." ++ decimal (32 * 1)
unfolding digits
second_half = refl

-- the first bit of the half is put before the line
half_before : (line : List ℕ) (k half : ℕ) (bit : List ℕ) → bit ≡ codes "." ++ decimal (32 * k) → k ≡ half
    → bit ++ line ≡ (codes "." ++ decimal (32 * half)) ++ line
half_before line k half bit spelled same =
    ap (λ (t : List ℕ). t ++ line) (spelled ∙ ap (λ (j : ℕ). codes "." ++ decimal (32 * j)) same)

pub returns-then-half-eq0-clause-bytes : goal.returns-then-half-eq0-clause-bytes
returns-then-half-eq0-clause-bytes c =
    c.put_word.ensures ∙ half_before c.args.self.now 0 c.args.half (codes ".0") first_half (sym c.if-half-eq0.true)

pub returns-else-half-eq0-clause-bytes : goal.returns-else-half-eq0-clause-bytes
returns-else-half-eq0-clause-bytes c =
    let one : 1 ≡ c.args.half = omega (arith, c.if-half-eq0.false, c.requires.few) in
    c.put_word-else-half-eq0.ensures ∙ half_before c.args.self.now 1 c.args.half (codes ".32") second_half one
