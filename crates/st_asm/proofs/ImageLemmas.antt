-- Lemmas on the image after a card's bits are written into it.
use Rattle.st_asm.proofs.Common.{◌≡◌, ◌≤◌, ◌<◌, ◌+◌, ◌*◌, ◌^◌, ◌==◌, ℕ, false, List, length, get_or, ap, sym, ◌∙◌, arith, if◌then◌else◌, image_with, IsImage}
use Rattle.st_bits.specs.Bits.{bits, all_bits, put, words_of}
use Rattle.st_bits.proofs.Windows.{words_of-all_bits}

-- words whose bits are the old ones with a number written into them
pub image-put : (old new : List ℕ) (place count number : ℕ) → (count ≡ 0 → ⊥) → length new ≡ length old →
    ((w : ℕ) → get_or new w 0 < 2 ^ 64) → all_bits new ≡ put (all_bits old) place (bits count number) →
    new ≡ image_with old place count number
unfolding image_with
image-put old new place count number some size below is =
    let counted : (count == 0) ≡ false = grind arith in
    sym (words_of-all_bits new below)
    ∙ (ap (λ n. words_of n (all_bits new)) size
    ∙ (ap (λ b. words_of (length old) b) is
    ∙ sym (ap (λ b. if b then old else words_of (length old) (put (all_bits old) place (bits count number))) counted)))

-- writing at a location after the registers does not change the registers
pub image-kept : (old new : List ℕ) (place : ℕ) → IsImage old → length new ≡ length old → 2048 ≤ place →
    ((w : ℕ) → 64 * w + 64 ≤ place → get_or new w 0 ≡ get_or old w 0) → IsImage new
image-kept old new place is size behind same = record {
  size = size ∙ is.size;
  registers = λ w below. same w (omega arith) ∙ is.registers w below;
}
