use Rattle.st_top.proofs.Common.{◌++◌, sym, ◌∙◌, ap, wrote_nothing, lines_then, lines_cut, assembly_parts, rows_lines, symbols_lines}
use Rattle.st_top.proofs.Listings.{listing_none, listing_some, lines_are}
use Rattle.st_top.proofs.listing.write_listing.Goals as goal

pub returns-then-not-is_listed : goal.returns-then-not-is_listed
returns-then-not-is_listed g c =
    lines_are _ _ _ _ _ (listing_none c.args.job.now.text.now (assembly_parts c.args.program.now) (sym c.is_listed.ensures ∙ c.if-not-is_listed.true))
    (record { ok = wrote_nothing _; err = tt })

pub returns-in_err-write_rows : goal.returns-in_err-write_rows
returns-in_err-write_rows g c =
    let job = c.args.job.now.text.now in
    let cards = c.args.job.now.cards.now in
    let symbols = symbols_lines c.args.program.now.symbols.items in
    let rows = ap (λ xs. rows_lines job xs cards ++ symbols) c.as_slice.ensures.value in
    lines_are _ _ _ _ _
    (rows ∙ listing_some job (assembly_parts c.args.program.now) cards (sym c.is_listed.ensures ∙ c.if-not-is_listed.false) c.requires.cards.cards_are)
    (lines_cut _ _ (rows_lines job c.as_slice.result.now cards) symbols _ c.from_residual.result c.from_residual.ensures.0 c.in_err-write_rows.ensures)

pub returns : goal.returns
returns g c =
    let job = c.args.job.now.text.now in
    let cards = c.args.job.now.cards.now in
    let rows = ap (λ xs. rows_lines job xs cards ++ symbols_lines c.as_slice-2.result.now) c.as_slice.ensures.value in
    let symbols = ap (λ xs. rows_lines job c.args.program.now.listing.items cards ++ symbols_lines xs) c.as_slice-2.ensures.value in
    lines_are _ _ _ _ _
    (rows ∙ (symbols ∙ listing_some job (assembly_parts c.args.program.now) cards (sym c.is_listed.ensures ∙ c.if-not-is_listed.false) c.requires.cards.cards_are))
    (lines_then _ _ _ (rows_lines job c.as_slice.result.now cards) (symbols_lines c.as_slice-2.result.now) _ _ c.in_ok-write_rows.ensures c.write_symbols.ensures)
