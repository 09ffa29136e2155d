use Rattle.st_mnemonic.proofs.Common.{◌∙◌, sym, ap, option_map, Half, index_operations}
use Rattle.std.specs.Prelude.{Option}
use Rattle.st_bits.specs.declared.operations.HalfOp.{HalfOp}
use Rattle.st_mnemonic.proofs.Apart.{other_or_field, other_or_index, index_or_field, found_last, found_second}
use Rattle.st_mnemonic.proofs.operations.listed_operation.Goals as goal

pub returns-in-Some : goal.returns-in-Some
returns-in-Some c =
    found_last _ _ _ _ (other_or_field c.args.word.now) (index_or_field c.args.word.now) c.in-Some.ensures

pub returns-in-Some-row_of : goal.returns-in-Some-row_of
unfolding index_operations
returns-in-Some-row_of c =
    found_second _ _ _ _ (other_or_index c.args.word.now)
    (ap (λ (o : Option HalfOp). option_map (λ op. Half op) o) c.in-Some-row_of.ensures)
    (sym c.field_operation.ensures ∙ c.in_default.is)
