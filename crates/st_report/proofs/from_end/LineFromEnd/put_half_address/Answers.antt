use Rattle.st_report.proofs.Common.{◌++◌, ◌/◌, ◌%◌, ◌*◌, ℕ, List, sym, ap, ◌∙◌, codes, decimal, append_assoc}
use Rattle.st_report.proofs.from_end.LineFromEnd.put_half_address.Goals as goal

pub returns-clause-bytes : goal.returns-clause-bytes
returns-clause-bytes c =
    let word = decimal (c.args.address / 2) in
    let bit = decimal (32 * (c.args.address % 2)) in
    c.put_word_number.ensures.bytes
    ∙ ap (λ (n : ℕ). decimal n ++ c.put_half.new.self) c.from.ensures
    ∙ ap (λ (t : List ℕ). word ++ t) c.put_half.ensures.bytes
    ∙ sym (append_assoc word (codes "." ++ bit) c.args.self.now)
    ∙ ap (λ (t : List ℕ). t ++ c.args.self.now) (sym (append_assoc word (codes ".") bit))
