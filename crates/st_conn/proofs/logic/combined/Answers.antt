use Rattle.st_conn.proofs.Common.{◌≡◌, ℕ, ◌-◌, ◌*◌, min, max, refl, ◌∙◌, ap, bit_and, bit_or, bit_at, w64, bit_at-lt, bit_at_and, bit_at_or, bit_at_not}
use Rattle.st_conn.proofs.TableRows.{bit_at-times, one_row}
use Rattle.st_conn.proofs.logic.combined.Goals as goal

-- the result of one row of the table at one position
row_at : (table row x y s j a b : ℕ) → s ≡ bit_at table row * bit_and x y → bit_at x j ≡ a → bit_at y j ≡ b
    → bit_at s j ≡ min (bit_at table row) (min a b)
row_at table row x y s j a b e p q =
    ap (λ z. bit_at z j) e
    ∙ bit_at-times (bit_at table row) (bit_and x y) j (bit_at-lt table row)
    ∙ ap (λ z. min (bit_at table row) z) (bit_at_and x y j ∙ ap (λ z. min z (bit_at y j)) p ∙ ap (λ z. min a z) q)

-- the or of four numbers at one position
together : (p q r s j a b d e : ℕ) → bit_at p j ≡ a → bit_at q j ≡ b → bit_at r j ≡ d → bit_at s j ≡ e
    → bit_at (bit_or (bit_or (bit_or p q) r) s) j ≡ max (max (max a b) d) e
together p q r s j a b d e pa qb rd se =
    bit_at_or (bit_or (bit_or p q) r) s j
    ∙ ap (λ z. max z (bit_at s j)) (bit_at_or (bit_or p q) r j)
    ∙ ap (λ z. max (max z (bit_at r j)) (bit_at s j)) (bit_at_or p q j)
    ∙ ap (λ z. max (max (max z (bit_at q j)) (bit_at r j)) (bit_at s j)) pa
    ∙ ap (λ z. max (max (max a z) (bit_at r j)) (bit_at s j)) qb
    ∙ ap (λ z. max (max (max a b) z) (bit_at s j)) rd
    ∙ ap (λ z. max (max (max a b) d) z) se

pub returns : goal.returns
returns c = λ j h.
    let table = c.args.table in
    let field = c.args.field in
    let acc = c.args.acc in
    let f = bit_at field j in
    let a = bit_at acc j in
    let no_field : bit_at (18446744073709551615 - field) j ≡ 1 - f = bit_at_not w64 field j c.ranges.field.fits h in
    let no_acc : bit_at (18446744073709551615 - acc) j ≡ 1 - a = bit_at_not w64 acc j c.ranges.acc.fits h in
    together c.selected.result c.selected-2.result c.selected-3.result c.selected-4.result j _ _ _ _
    (row_at table 3 _ _ c.selected.result j (1 - f) (1 - a) c.selected.ensures no_field no_acc)
    (row_at table 2 _ _ c.selected-2.result j (1 - f) a c.selected-2.ensures no_field refl)
    (row_at table 1 _ _ c.selected-3.result j f (1 - a) c.selected-3.ensures refl no_acc)
    (row_at table 0 _ _ c.selected-4.result j f a c.selected-4.ensures refl refl)
    ∙ one_row table f a (bit_at-lt field j) (bit_at-lt acc j)
