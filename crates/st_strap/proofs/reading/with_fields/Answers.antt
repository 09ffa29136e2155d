use Rattle.st_strap.proofs.Common.{sym, ap, ◌∙◌, texts, with_fields}
use Rattle.st_strap.proofs.reading.with_fields.Goals as goal

pub returns-in-Half : goal.returns-in-Half
returns-in-Half c =
    c.parse_half.ensures c.args.form ∙ ap (λ op. with_fields op c.args.form (texts c.args.fields.now)) (sym c.in-Half.is)

pub returns-in-Sum : goal.returns-in-Sum
returns-in-Sum c =
    c.parse_sum.ensures c.args.form ∙ ap (λ op. with_fields op c.args.form (texts c.args.fields.now)) (sym c.in-Sum.is)

pub returns-in-Refill : goal.returns-in-Refill
returns-in-Refill c =
    c.parse_refill.ensures c.args.form ∙ ap (λ op. with_fields op c.args.form (texts c.args.fields.now)) (sym c.in-Refill.is)

pub returns-in-Execute : goal.returns-in-Execute
returns-in-Execute c =
    c.parse_execute.ensures c.args.form ∙ ap (λ op. with_fields op c.args.form (texts c.args.fields.now)) (sym c.in-Execute.is)

pub returns-in-Branch : goal.returns-in-Branch
returns-in-Branch c =
    c.parse_branch.ensures c.args.form ∙ ap (λ op. with_fields op c.args.form (texts c.args.fields.now)) (sym c.in-Branch.is)

pub returns-in-Bare : goal.returns-in-Bare
returns-in-Bare c =
    c.parse_bare.ensures c.args.form ∙ ap (λ op. with_fields op c.args.form (texts c.args.fields.now)) (sym c.in-Bare.is)

pub returns-in-Floating : goal.returns-in-Floating
returns-in-Floating c =
    c.parse_floating.ensures c.args.form ∙ ap (λ op. with_fields op c.args.form (texts c.args.fields.now)) (sym c.in-Floating.is)

pub returns-in-Move : goal.returns-in-Move
returns-in-Move c =
    c.parse_move.ensures c.args.form ∙ ap (λ op. with_fields op c.args.form (texts c.args.fields.now)) (sym c.in-Move.is)

pub returns-in-BitBranch : goal.returns-in-BitBranch
returns-in-BitBranch c =
    c.parse_bit_branch.ensures c.args.form ∙ ap (λ op. with_fields op c.args.form (texts c.args.fields.now)) (sym c.in-BitBranch.is)

pub returns-in-IndBranch : goal.returns-in-IndBranch
returns-in-IndBranch c =
    c.parse_ind_branch.ensures c.args.form ∙ ap (λ op. with_fields op c.args.form (texts c.args.fields.now)) (sym c.in-IndBranch.is)

pub returns-in-StoreCounter : goal.returns-in-StoreCounter
returns-in-StoreCounter c =
    c.parse_store_counter.ensures c.args.form ∙ ap (λ op. with_fields op c.args.form (texts c.args.fields.now)) (sym c.in-StoreCounter.is)

pub returns-in-Transfer : goal.returns-in-Transfer
returns-in-Transfer c =
    c.parse_transfer.ensures c.args.form ∙ ap (λ op. with_fields op c.args.form (texts c.args.fields.now)) (sym c.in-Transfer.is)

pub returns-in-IndexWord : goal.returns-in-IndexWord
returns-in-IndexWord c =
    c.parse_index_word.ensures c.args.form ∙ ap (λ op. with_fields op c.args.form (texts c.args.fields.now)) (sym c.in-IndexWord.is)

pub returns-in-Synonym : goal.returns-in-Synonym
returns-in-Synonym c =
    c.parse_synonym.ensures c.args.form ∙ ap (λ op. with_fields op c.args.form (texts c.args.fields.now)) (sym c.in-Synonym.is)

pub returns-in-SetLocation : goal.returns-in-SetLocation
returns-in-SetLocation c =
    c.parse_set_location.ensures c.args.form ∙ ap (λ op. with_fields op c.args.form (texts c.args.fields.now)) (sym c.in-SetLocation.is)

pub returns-in-Reserve : goal.returns-in-Reserve
returns-in-Reserve c =
    c.parse_reserve.ensures c.args.form ∙ ap (λ op. with_fields op c.args.form (texts c.args.fields.now)) (sym c.in-Reserve.is)

pub returns-in-End : goal.returns-in-End
returns-in-End c =
    c.parse_end.ensures c.args.form ∙ ap (λ op. with_fields op c.args.form (texts c.args.fields.now)) (sym c.in-End.is)
