-- The deck of a program assembles to that program.
use Rattle.st_dis.proofs.Common.{◌≡◌, ◌≤◌, length, Ok, Assembly, together, assembly, Program, IsProgram, AreWords, control_cards, deck_text, card_count}
use Rattle.st_dis.proofs.FormPass.{found_in_job}
use Rattle.st_dis.proofs.DeckCards.{form-passes}
use Rattle.st_dis.proofs.PassesLead.{statements-give}
use Rattle.st_dis.proofs.ThreePasses.{assembled, defaults-kept}

pub deck-assembled : (p : Program) → IsProgram p → AreWords p.words → card_count p ≤ 20000 →
    (a : Assembly) × (assembly (deck_text p) ≡ Ok a) × (a.image ≡ p.words) × (a.start ≡ p.start) × (a.asked ≡ p.controls)
deck-assembled p is words few =
    let formed = form-passes p is words few in
    let count = length (control_cards p.controls) in
    let found = found_in_job formed.statements count p.controls in
    let gives = statements-give p formed.statements count is words formed.read in (
      together found gives.named gives.emitted,
      assembled (deck_text p) found gives.named gives.emitted formed.formed gives.names gives.values,
      gives.image,
      gives.begins,
      defaults-kept p.controls is.budget is.delays,
    )
