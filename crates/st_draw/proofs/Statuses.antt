-- A chart that was written has the status of its rows.
use Rattle.std.proofs.Common.{◌≡◌, ◌∙◌, sym, refl, ℕ, List, Bool, true, false, nat_eq, if◌then◌else◌}
use Rattle.st_io.specs.Output.{OutputState, Wrote}
use Rattle.st_draw.specs.Answers.{Writes, picture, picture_status, rows_in, entries_asked}
use Rattle.st_draw.specs.declared.status.Status.{Status}
use Rattle.st_draw.specs.declared.status.Status.TheVariants.{Done, NoRows}
use Rattle.st_draw.specs.declared.words.Choice.{Choice}

-- the status of a written chart, by whether it has no rows
writes_by : (none : Bool) (choice : Choice) (status : Status) (before after : OutputState) (report : List ℕ)
    → picture_status choice report ≡ (if none then NoRows else Done) → status ≡ picture_status choice report
    → Wrote before after (picture choice report) → Writes choice status before after report
writes_by true choice status before after report e same wrote = let is : status ≡ NoRows = same ∙ e in rw is (wrote, e)
writes_by false choice status before after report e same wrote = let is : status ≡ Done = same ∙ e in rw is (wrote, e)

-- the chart was written, and the status is that of its rows
pub writes_picture : (choice : Choice) (status : Status) (before after : OutputState) (report : List ℕ)
    → status ≡ picture_status choice report → Wrote before after (picture choice report)
    → Writes choice status before after report
unfolding picture_status
writes_picture choice status before after report same wrote =
    writes_by (nat_eq (rows_in (entries_asked choice report)) 0) choice status before after report refl same wrote

-- writing equal bytes is the same output
pub wrote_same : (before after : OutputState) (a b : List ℕ) → a ≡ b → Wrote before after a → Wrote before after b
wrote_same before after a b same wrote = rw (sym same) wrote
