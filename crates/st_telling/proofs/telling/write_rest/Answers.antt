use Rattle.st_telling.proofs.Common.{refl}
use Rattle.st_telling.proofs.Runs.{told_begins, told_skips, none_skips, told_more, told_stops, told_all, row_more, row_stops}
use Rattle.st_telling.proofs.telling.write_rest.Goals as goal

pub telling-init : goal.telling-init
telling-init g c = told_begins _ c.args.controls.now c.args.moment.now c.args.run.now.rest

-- the next event is a row
pub telling-preserved-in-Some : goal.telling-preserved-in-Some
telling-preserved-in-Some g c =
    row_more _ _ _ c.args.controls.now _ _ _ _ _ _ c.in-Some.row c.in_ok-write_done.field-0 c.in-Some.ensures c.moment_at.ensures c.telling.invariant
    c.in_ok-write_done.ensures

pub returns-in_err-write_done : goal.returns-in_err-write_done
returns-in_err-write_done g c =
    row_stops _ _ _ c.args.controls.now _ _ _ _ _ _ c.in-Some.row c.in_err-write_done.field-0.0 _ c.from_residual.ensures.0 c.in-Some.ensures c.moment_at.ensures
    c.telling.invariant c.in_err-write_done.ensures

-- the next event is another one, whose tick is that of the moment
pub telling-preserved : goal.telling-preserved
telling-preserved g c =
    let run = c.next_told.new.run in
    let begun = told_skips _ _ c.args.controls.now _ _ _ _ _ _ (none_skips c.args.controls.now _ _ _ c.in_default.ensures) c.telling.invariant in
    let told = c.in-Some-next_told.told in
    told_more _ _ _ c.args.controls.now _ _ _ _ _ _ _ _ refl refl
    (told_skips _ _ c.args.controls.now _ _ _ _ _ _ c.in-Some-next_told.ensures begun) c.in_ok-write_told.ensures

pub returns-in_err-write_told : goal.returns-in_err-write_told
returns-in_err-write_told g c =
    let run = c.next_told.new.run in
    let begun = told_skips _ _ c.args.controls.now _ _ _ _ _ _ (none_skips c.args.controls.now _ _ _ c.in_default.ensures) c.telling.invariant in
    let told = c.in-Some-next_told.told in
    told_stops _ _ _ c.args.controls.now _ _ _ _ _ _ _ _ _ c.from_residual-in_err-write_told.ensures.0 refl refl
    (told_skips _ _ c.args.controls.now _ _ _ _ _ _ c.in-Some-next_told.ensures begun) c.in_err-write_told.ensures

pub returns-in_default-next_told : goal.returns-in_default-next_told
returns-in_default-next_told g c =
    let begun = told_skips _ _ c.args.controls.now _ _ _ _ _ _ (none_skips c.args.controls.now _ _ _ c.in_default.ensures) c.telling.invariant in
    told_all _ _ c.args.controls.now _ _ _ _ _ refl
    (told_skips _ _ c.args.controls.now _ _ _ _ _ _ c.in_default-next_told.ensures begun)
