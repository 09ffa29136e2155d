use Rattle.st_exch.proofs.Common.{◌≡◌, ◌%◌, ◌++◌, ℕ, List, [], ◌∷◌, map, ap, ◌∙◌, arith, take_all, character, characters_of}
use Rattle.st_bits.specs.Bits.{part}
use Rattle.st_exch.proofs.printer.push_word.Goals as goal

pub returns-clause-bytes : goal.returns-clause-bytes
unfolding characters_of
returns-clause-bytes c =
    let text = c.args.text.now.bytes in
    let x = c.args.word in
    let low : x % 256 ≡ part x 56 8 = omega arith in
    let whole = take_all c.loop-byte.byte-index c.to_be_bytes-byte-items.result (omega arith) in
    c.loop-byte.invariant
    ∙ (ap (λ (x : List ℕ). text ++ map character x) (whole ∙ c.to_be_bytes-byte-items.ensures)
    ∙ ap (λ b. text ++ map character (part x 0 8 ∷ part x 8 8 ∷ part x 16 8 ∷ part x 24 8 ∷ part x 32 8 ∷ part x 40 8
    ∷ part x 48 8 ∷ b ∷ [])) low)
