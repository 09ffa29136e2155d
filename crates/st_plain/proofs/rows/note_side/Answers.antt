use Rattle.st_plain.proofs.Common.{◌∙◌, ◌++◌, ap, sym, List, arith, Use}
use Rattle.st_plain.proofs.UseLemmas.{put-one, side-low}
use Rattle.st_plain.proofs.rows.note_side.Goals as goal

pub returns-then-w-lt-FIRST_STORAGE_WORD-clause-items : goal.returns-then-w-lt-FIRST_STORAGE_WORD-clause-items
returns-then-w-lt-FIRST_STORAGE_WORD-clause-items c =
    (put-one _ c.args.uses.now c.register.new.self c.register.ensures (omega (arith, c.requires))).0
    ∙ ap (λ (us : List Use). c.args.uses.now.items ++ us) (sym (side-low c.args.side c.in-Some.w c.in-Some.is c.if-w-lt-FIRST_STORAGE_WORD.true))

pub returns-then-w-lt-FIRST_STORAGE_WORD-clause-room : goal.returns-then-w-lt-FIRST_STORAGE_WORD-clause-room
returns-then-w-lt-FIRST_STORAGE_WORD-clause-room c =
    omega (arith, (put-one _ c.args.uses.now c.register.new.self c.register.ensures (omega (arith, c.requires))).1)
