use Rattle.st_telling.proofs.Common.{ℕ, List, ◌∷◌, ◌++◌, refl, ap, ◌∙◌, lines_for, lines_then, lines_cut, ic_line, en_line, Machine, block, register_lines, dumps_lines}
use Rattle.st_telling.proofs.Snapshots.{levels_cut, levels_then}
use Rattle.st_telling.proofs.block.write_block.Goals as goal

-- the lines of the registers
abbrev registers : Machine → List (List ℕ)
registers s = lines_for (register_lines s) 30 2

pub returns-in_err-put : goal.returns-in_err-put
unfolding block
returns-in_err-put g c =
    let s = c.args.seen.now in
    let rest = en_line s.enabled ∷ (registers s ++ dumps_lines s c.args.dumps.now) in
    levels_cut _ _ (ic_line s.ic ∷ rest) (ic_line s.ic) _ rest _ c.from_residual.result c.from_residual.ensures.0 refl
    (c.line_ic.ensures ∙ ap ic_line c.ic.ensures.value) c.in_err-put.ensures

pub returns-in_err-put-2 : goal.returns-in_err-put-2
unfolding block
returns-in_err-put-2 g c =
    let s = c.args.seen.now in
    let more = registers s ++ dumps_lines s c.args.dumps.now in
    let rest = en_line s.enabled ∷ more in
    levels_then _ _ _ (ic_line s.ic ∷ rest) (ic_line s.ic) _ rest _ _ refl (c.line_ic.ensures ∙ ap ic_line c.ic.ensures.value) c.in_ok-put.ensures
    (levels_cut _ _ rest (en_line s.enabled) _ more _ c.from_residual-in_err-put-2.result c.from_residual-in_err-put-2.ensures.0 refl
    (c.line_en.ensures ∙ ap en_line c.enabled.ensures) c.in_err-put-2.ensures)

pub returns-in_err-write_registers : goal.returns-in_err-write_registers
unfolding block
returns-in_err-write_registers g c =
    let s = c.args.seen.now in
    let dumps = dumps_lines s c.args.dumps.now in
    let rest = en_line s.enabled ∷ (registers s ++ dumps) in
    levels_then _ _ _ (ic_line s.ic ∷ rest) (ic_line s.ic) _ rest _ _ refl (c.line_ic.ensures ∙ ap ic_line c.ic.ensures.value) c.in_ok-put.ensures
    (levels_then _ _ _ rest (en_line s.enabled) _ (registers s ++ dumps) _ _ refl (c.line_en.ensures ∙ ap en_line c.enabled.ensures) c.in_ok-put-2.ensures
    (lines_cut _ _ (registers s) dumps _ c.from_residual-in_err-write_registers.result c.from_residual-in_err-write_registers.ensures.0 c.in_err-write_registers.ensures))

pub returns : goal.returns
unfolding block
returns g c =
    let s = c.args.seen.now in
    let dumps = dumps_lines s c.args.dumps.now in
    let rest = en_line s.enabled ∷ (registers s ++ dumps) in
    levels_then _ _ _ (ic_line s.ic ∷ rest) (ic_line s.ic) _ rest _ _ refl (c.line_ic.ensures ∙ ap ic_line c.ic.ensures.value) c.in_ok-put.ensures
    (levels_then _ _ _ rest (en_line s.enabled) _ (registers s ++ dumps) _ _ refl (c.line_en.ensures ∙ ap en_line c.enabled.ensures) c.in_ok-put-2.ensures
    (lines_then _ _ _ (registers s) dumps _ _ c.in_ok-write_registers.ensures c.write_dumps.ensures))
