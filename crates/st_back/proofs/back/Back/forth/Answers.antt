use Rattle.st_back.proofs.RingLemmas.{forth-kept}
use Rattle.st_back.proofs.back.Back.forth.Goals as goal

pub returns-in-Plain : goal.returns-in-Plain
returns-in-Plain c =
    let q = c.one_kept-step.ensures in
    let e = c.in-Plain.is in
    record {
      step = q.step;
      kept = forth-kept _ _ _ _ _ _ _ q.step q.kept (λ same. cc) c.keep.ensures;
    }

pub returns-in-Interrupt : goal.returns-in-Interrupt
returns-in-Interrupt c =
    let q = c.one_kept-step.ensures in
    let e = c.in-Interrupt.is in
    record {
      step = q.step;
      kept = forth-kept _ _ _ _ _ _ _ q.step q.kept (λ same. cc) c.keep-in-Interrupt.ensures;
    }
