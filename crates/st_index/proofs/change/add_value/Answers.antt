use Rattle.std.proofs.Common.{◌≡◌, ◌^◌, ◌<◌, ◌+ℤ◌, unsigned_abs, to_z, of_z, w32, ap, arith, rules, ◌∙◌}
use Rattle.std.proofs.lemmas.Int.{ints}
use Rattle.st_bits.specs.IndexWord.{index_word_with_value}
use Rattle.st_index.proofs.change.add_value.Goals as goal

pub returns-clause-word : goal.returns-clause-word
returns-clause-word c =
    let small : unsigned_abs c.value_of.result < 2 ^ 24 = search rules in
    let sum : to_z w32 (of_z w32 (to_z w32 (of_z w32 c.value_of.result) +ℤ to_z w32 (of_z w32 c.args.d))) ≡ c.value_of.result +ℤ c.args.d = omega (arith, ints) in
    c.with_value.ensures ∙ ap (index_word_with_value c.args.x) (sum ∙ ap (λ v. v +ℤ c.args.d) c.value_of.ensures)
