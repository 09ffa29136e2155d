use Rattle.st_back.proofs.Common.{refl, ◌∙◌, ap, state_undone}
use Rattle.st_back.proofs.StepLemmas.{entry-undone}
use Rattle.st_back.proofs.RingLemmas.{fresh-sound}
use Rattle.st_back.proofs.undoing.keep.Goals as goal

pub returns-clause-sound : goal.returns-clause-sound
returns-clause-sound c = fresh-sound c.trail_of.result c.trail_of.ensures.fits

pub returns-clause-undone : goal.returns-clause-undone
returns-clause-undone c s ic is =
    ap (state_undone _) is
    ∙ entry-undone c.args.p.now c.args.state.now ic _ c.requires.prepared c.trail_of.ensures.keeps c.trail_of.ensures.fits refl
    c.trail_of.ensures.writes
