-- Proofs of the laws of the log.
use Rattle.std.proofs.Common.{◌≡◌, ℕ, ◌<◌, List, [], ◌∷◌, ◌++◌, take, sym, subst, ap, ◌∙◌, append_assoc, arith}
use Rattle.std.proofs.lemmas.List.{append-nil}
use Rattle.std.proofs.lemmas.List.Elements.{All-append, All-weaker}
use Rattle.st_rows.specs.Asked.{bus_after_reads}
use Rattle.st_rows.specs.BusTimes.{Read, after_one}
use Rattle.st_rows.specs.Notes.{note, notes_of_reads, log_after_reads, answers_left, IsLogged}
use Rattle.st_rows.specs.LogLaws.{AcceptsRise, UndoneIsMadeBefore, FewAreUndone, LogsGoOn}
use Rattle.st_rows.specs.declared.bus.Bus.{Bus}
use Rattle.st_rows.specs.declared.log.Made.{Made}
use Rattle.st_rows.proofs.Served.{served-append}
use Rattle.st_rows.proofs.NoteLemmas.{opened-log, logged-falls, logged-append, logged-more, logged-early, length-logged, undone-take, undone-made, drop-early, take-more}

pub accepts_rise : AcceptsRise
accepts_rise = logged-falls

pub undone_is_made_before : UndoneIsMadeBefore
undone_is_made_before = λ ds t reads b log is few.
    let notes = notes_of_reads ds reads b ++ is.older in
    ap (λ (l : List Made). answers_left t l (bus_after_reads ds reads b).banks.ticks) is.notes
    ∙ undone-take 64 t notes (bus_after_reads ds reads b).banks.ticks (few is.older is.early)
    ∙ undone-made ds t reads b is.older is.early

pub few_are_undone : FewAreUndone
few_are_undone = λ ds t first rest b older few free early.
    let young = notes_of_reads ds rest (bus_after_reads ds first b) in
    let old = notes_of_reads ds first b in
    rw (logged-append ds first rest b, append_assoc young old older)
    (drop-early 64 t young (old ++ older) (omega (arith, few, length-logged ds rest (bus_after_reads ds first b)))
    (All-append (λ (m : Made). m.tick < t) old older
    (All-weaker (λ (m : Made). m.tick < (bus_after_reads ds first b).free) (λ m. m.tick < t) (λ m early_one. omega (arith, early_one, free)) old (logged-early ds first b)) early))

pub logs_go_on : LogsGoOn
logs_go_on = record {
  opened = opened-log;
  made = λ ds now reads r b log is. record {
    older = is.older;
    early = is.early;
    notes =
        ap (λ (l : List Made). take 64 (note (bus_after_reads ds reads b) r ∷ l)) is.notes
        ∙ take-more 63 (note (bus_after_reads ds reads b) r) (notes_of_reads ds reads b ++ is.older)
        ∙ ap (λ (l : List Made). take 64 (l ++ is.older)) (sym (logged-more ds reads r b));
  };
  later = λ ds now later reads b log behind is. record {
    older = is.older;
    early = All-weaker (λ (m : Made). m.tick < now) (λ m. m.tick < later) (λ m early_one. omega (arith, early_one, behind)) is.older is.early;
    notes = is.notes;
  };
  left_behind = λ ds now first rest b log free is. record {
    older = notes_of_reads ds first b ++ is.older;
    early = All-append (λ (m : Made). m.tick < now) (notes_of_reads ds first b) is.older
        (All-weaker (λ (m : Made). m.tick < (bus_after_reads ds first b).free) (λ m. m.tick < now) (λ m early_one. omega (arith, early_one, free)) (notes_of_reads ds first b) (logged-early ds first b))
        is.early;
    notes = is.notes
        ∙ ap (λ (l : List Made). take 64 (l ++ is.older)) (logged-append ds first rest b)
        ∙ ap (take 64) (append_assoc (notes_of_reads ds rest (bus_after_reads ds first b)) (notes_of_reads ds first b) is.older);
  };
}

served-one : (ds : List ℕ) (reads : List Read) (r : Read) (b : Bus) → bus_after_reads ds (reads ++ r ∷ []) b ≡ after_one ds (bus_after_reads ds reads b) r
unfolding bus_after_reads
served-one ds reads r b = served-append ds reads (r ∷ []) b

-- the log remains valid after more reads
pub logged-noted : (ds : List ℕ) (now : ℕ) (reads added : List Read) (b : Bus) (log : List Made) → IsLogged ds now reads b log
    → IsLogged ds now (reads ++ added) b (log_after_reads ds added (bus_after_reads ds reads b) log)
unfolding log_after_reads
logged-noted ds now reads [] b log is = subst (λ (l : List Read). IsLogged ds now l b log) (sym (append-nil reads)) is
logged-noted ds now reads (r ∷ added) b log is =
    let one = logs_go_on.made ds now reads r b log is in
    let rest = logged-noted ds now (reads ++ r ∷ []) added b (take 64 (note (bus_after_reads ds reads b) r ∷ log)) one in
    let bus : bus_after_reads ds (reads ++ r ∷ []) b ≡ after_one ds (bus_after_reads ds reads b) r = served-one ds reads r b in
    rw (append_assoc reads (r ∷ []) added, bus) at rest
