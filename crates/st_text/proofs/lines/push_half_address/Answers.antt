use Rattle.st_text.proofs.Common.{◌≡◌, ◌++◌, ◌/◌, ◌%◌, ◌*◌, ℕ, List, refl, sym, ap, ◌∙◌, decimal, codes, arith, append_assoc, half_address}
use Rattle.std.specs.Fmt.{digits}
use Rattle.st_text.proofs.lines.push_half_address.Goals as goal

-- a word, and the first bit of one of its halves
word_and_half : (old : List ℕ) (h r : ℕ) (half : List ℕ) → half ≡ codes "." ++ decimal (32 * r) → h % 2 ≡ r
    → (old ++ decimal (h / 2)) ++ half ≡ old ++ half_address h
word_and_half old h r half spelled rest =
    ap (λ (text : List ℕ). (old ++ decimal (h / 2)) ++ text) (spelled ∙ ap (λ (k : ℕ). codes "." ++ decimal (32 * k)) (sym rest))
    ∙ (append_assoc old (decimal (h / 2)) (codes "." ++ decimal (32 * (h % 2)))
    ∙ ap (λ (text : List ℕ). old ++ text) (sym (append_assoc (decimal (h / 2)) (codes ".") (decimal (32 * (h % 2))))))

first_half : codes ".0" ≡ codes "." ++ decimal (32 * 0)
unfolding digits
first_half = refl

second_half : codes ".32" ≡ codes "." ++ decimal (32 * 1)
unfolding digits
second_half = refl

pub returns-then-address-eq0-clause-bytes : goal.returns-then-address-eq0-clause-bytes
returns-then-address-eq0-clause-bytes c =
    c.push_str.ensures.bytes
    ∙ (ap (λ (text : List ℕ). text ++ codes ".0") c.push_short_decimal.ensures.bytes
    ∙ word_and_half c.args.line.now.bytes c.args.address 0 (codes ".0") first_half c.if-address-eq0.true)

pub returns-else-address-eq0-clause-bytes : goal.returns-else-address-eq0-clause-bytes
returns-else-address-eq0-clause-bytes c =
    c.push_str-else-address-eq0.ensures.bytes
    ∙ (ap (λ (text : List ℕ). text ++ codes ".32") c.push_short_decimal.ensures.bytes
    ∙ word_and_half c.args.line.now.bytes c.args.address 1 (codes ".32") second_half (omega (arith, c.if-address-eq0.false)))
