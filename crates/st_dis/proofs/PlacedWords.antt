-- Lemmas on writing a word of the image, as a whole or by its halves.
use Rattle.st_dis.proofs.Common.{◌≡◌, ℕ, zero, suc, ◌≤◌, ◌<◌, ◌+◌, ◌*◌, ◌/◌, ◌%◌, ◌^◌, List, [], ◌∷◌, ◌++◌, length, get_or, ap, sym, ◌∙◌, length-append, arith, get_or-append_seam, set-append_seam, All-append, All-cons, All-head, All-tail, AreWords, image_with}
use Rattle.std.proofs.Math.ListN.{set}
use Rattle.st_bits.specs.Bits.{bits, all_bits, put, with_part}
use Rattle.st_bits.proofs.WordFields.{put-part}
use Rattle.st_asm.proofs.ImageLemmas.{image-put}

abbrev IsWord : ℕ → Type 0
IsWord x = x < 2 ^ 64

-- each index of a list of words has a word below 2^64
each_word : (xs : List ℕ) (k : ℕ) → AreWords xs → get_or xs k 0 < 2 ^ 64
each_word [] k words = omega arith
each_word (x ∷ xs) zero words = All-head IsWord x xs words
each_word (x ∷ xs) (suc k) words = each_word xs k (All-tail IsWord x xs words)

-- bits that are written into the word after those already written
part-placed : (done zs : List ℕ) (y b n v z : ℕ) → AreWords done → AreWords zs → z < 2 ^ 64 → (n ≡ 0 → ⊥) → b + n ≤ 64 → v < 2 ^ n →
    with_part y b n v ≡ z → image_with (done ++ y ∷ zs) (64 * length done + b) n v ≡ done ++ z ∷ zs
part-placed done zs y b n v z words zeros small some fits low is =
    let w = length done in
    let old = done ++ y ∷ zs in
    let new = done ++ z ∷ zs in
    let long_old = length-append done (y ∷ zs) in
    let long_new = length-append done (z ∷ zs) in
    let there : set old w (with_part (get_or old w 0) b n v) ≡ new =
    ap (λ k. set old w (with_part k b n v)) (get_or-append_seam done y zs 0)
    ∙ (ap (λ k. set old w k) is ∙ set-append_seam done y zs z) in
    let same : all_bits new ≡ put (all_bits old) (64 * w + b) (bits n v) =
    sym (put-part old w b n v (omega (arith, long_old)) fits low ∙ ap all_bits there) in
    sym (image-put old new (64 * w + b) n v some (omega (arith, long_old, long_new))
    (λ k. each_word new k (All-append IsWord done (z ∷ zs) words (All-cons IsWord z zs small zeros))) same)

module _ (done zs : List ℕ) (x : ℕ) (words : AreWords done) (zeros : AreWords zs) (small : x < 2 ^ 64) where
  -- writing the whole word
  pub word-placed : image_with (done ++ 0 ∷ zs) (64 * length done) 64 x ≡ done ++ x ∷ zs
  word-placed =
      let place : 64 * length done ≡ 64 * length done + 0 = omega arith in
      ap (λ a. image_with (done ++ 0 ∷ zs) a 64 x) place
      ∙ part-placed done zs 0 0 64 x x words zeros small (λ h. omega arith) (omega arith) small (omega arith)

  -- writing the first half of the word, and then the second
  pub first-placed : image_with (done ++ 0 ∷ zs) (64 * length done) 32 (x / 2 ^ 32) ≡ done ++ (x / 2 ^ 32 * 2 ^ 32) ∷ zs
  first-placed =
      let place : 64 * length done ≡ 64 * length done + 0 = omega arith in
      ap (λ a. image_with (done ++ 0 ∷ zs) a 32 (x / 2 ^ 32)) place
      ∙ part-placed done zs 0 0 32 (x / 2 ^ 32) (x / 2 ^ 32 * 2 ^ 32) words zeros (omega arith) (λ h. omega arith) (omega arith) (omega arith)
      (omega arith)

  pub second-placed : image_with (done ++ (x / 2 ^ 32 * 2 ^ 32) ∷ zs) (64 * length done + 32) 32 (x % 2 ^ 32) ≡ done ++ x ∷ zs
  second-placed =
      part-placed done zs (x / 2 ^ 32 * 2 ^ 32) 32 32 (x % 2 ^ 32) x words zeros small (λ h. omega arith) (omega arith) (omega arith) (omega arith)
