use Rattle.st_bits.proofs.Common.{◌≡◌, ◌≢◌, ℕ, ◌+◌, ◌-◌, ◌/◌, ◌%◌, ◌<◌, ◌^◌, sym, ◌∙◌, ap, subst, arith, get_or, shr_below, get_or-set_other, set, all_bits, with_part}
use Rattle.st_bits.proofs.WordFields.{put-at_word, put-at_two, part-last}
use Rattle.st_bits.proofs.fields.put_field.Goals as goal

pub with_part-requires-else-count-here-clause-fits : goal.with_part-requires-else-count-here-clause-fits
with_part-requires-else-count-here-clause-fits c =
    let here = 64 - c.args.a % 64 in
    let size : c.args.n ≡ here + (c.args.n - here) = omega arith in
    let P : ℕ → Type 0 = λ k. c.args.bits < 2 ^ k in
    shr_below c.args.bits here (c.args.n - here) (subst P size c.requires.fits)

pub returns-then-count-here-clause-put : goal.returns-then-count-here-clause-put
returns-then-count-here-clause-put c =
    rw c.with_part.ensures.value
    (sym
    (put-at_word c.args.words.now c.args.a c.args.n c.args.bits c.requires.some (omega arith)
    c.requires.inside c.requires.fits))

pub returns-else-count-here-clause-put : goal.returns-else-count-here-clause-put
returns-else-count-here-clause-put c =
    let words = c.args.words.now in
    let w = c.args.a / 64 in
    let here = 64 - c.args.a % 64 in
    let rest = c.args.n - here in
    let first = with_part (get_or words w 0) (c.args.a % 64) here (c.args.bits / 2 ^ rest) in
    let apart : w + 1 ≢ w = λ e. omega (arith, e) in
    let last : c.part.result ≡ c.args.bits % 2 ^ rest =
    c.part.ensures.value ∙ part-last c.args.bits rest (omega arith) in
    let second : c.with_part-else-count-here-2.result ≡ with_part (get_or words (w + 1) 0) 0 rest (c.args.bits % 2 ^ rest) =
    c.with_part-else-count-here-2.ensures.value
    ∙ ap (λ x. with_part x 0 rest c.part.result)
    (get_or-set_other words w (w + 1) c.with_part-else-count-here.result 0 apart)
    ∙ ap (λ v. with_part (get_or words (w + 1) 0) 0 rest v) last in
    ap (λ y. all_bits (set (set words w y) (w + 1) c.with_part-else-count-here-2.result))
    c.with_part-else-count-here.ensures.value
    ∙ ap (λ z. all_bits (set (set words w first) (w + 1) z)) second
    ∙ sym (put-at_two words c.args.a c.args.n c.args.bits (omega arith) c.requires.few c.requires.inside c.requires.fits)
