-- The held words after reads.
use Rattle.st_refine.proofs.Common.{◌≡◌, ℕ, zero, suc, ◌≤◌, Bool, true, false, List, [], ◌∷◌, ◌++◌, length, take, refl, sym, ◌∙◌, ap, arith, append_assoc, AskedWord, bus_after_reads, bus_after_read, answer_at, Read, after_one, Bus}
use Rattle.std.proofs.Common.{if◌then◌else◌}
use Rattle.std.proofs.lemmas.Grind.{common_steps}
use Rattle.st_refine.specs.HeldReads.{held_by, held_of_reads}

-- the first n items of a list that is followed by the first m of another
issue-kept : (n m : ℕ) (xs ys : List AskedWord) → n ≤ m → take n (xs ++ take m ys) ≡ take n (xs ++ ys)
issue-kept zero m xs ys few = refl
issue-kept (suc n) zero xs ys few = absurd (omega (arith, few))
issue-kept (suc n) (suc m) [] [] few = refl
issue-kept (suc n) (suc m) [] (y ∷ ys) few = ap (λ rest. y ∷ rest) (issue-kept n m [] ys (omega (arith, few)))
issue-kept (suc n) (suc m) (x ∷ xs) ys few = ap (λ rest. x ∷ rest) (issue-kept n (suc m) xs ys (omega (arith, few)))

-- the first n items of a list of n items
whole : (xs : List AskedWord) (n : ℕ) → length xs ≡ n → take n xs ≡ xs
whole xs n same = grind (arith, common_steps, same)

four : (x : AskedWord) (xs : List AskedWord) → length xs ≡ 4 → length (x ∷ take 3 xs) ≡ 4
four x xs same = grind (arith, common_steps, same)

held-one : (ds : List ℕ) (b : Bus) (r : Read) → length b.held.words ≡ 4
    → (after_one ds b r).held.words ≡ take 4 (held_by ds b r ++ b.held.words)
unfolding bus_after_read
held-one ds b r same = by-fetch r.fetch where
  by-fetch : (fetch : Bool) → (after_one ds b (record r { fetch = fetch })).held.words
      ≡ take 4 (held_by ds b (record r { fetch = fetch }) ++ b.held.words)
  by-fetch true = refl
  by-fetch false = sym (whole b.held.words 4 same)

held-four : (ds : List ℕ) (b : Bus) (r : Read) → length b.held.words ≡ 4 → length (after_one ds b r).held.words ≡ 4
unfolding bus_after_read
held-four ds b r same = by-fetch r.fetch where
  by-fetch : (fetch : Bool) → length (after_one ds b (record r { fetch = fetch })).held.words ≡ 4
  by-fetch true = four (record { w = r.w; tick = answer_at ds b r.w r.want }) b.held.words same
  by-fetch false = same

pub held-words : (ds : List ℕ) (reads : List Read) (b : Bus) → length b.held.words ≡ 4
    → (bus_after_reads ds reads b).held.words ≡ take 4 (held_of_reads ds reads b ++ b.held.words)
unfolding bus_after_reads held_of_reads
held-words ds [] b same = sym (whole b.held.words 4 same)
held-words ds (r ∷ reads) b same =
    let next = after_one ds b r in
    let more = held_of_reads ds reads next in
    held-words ds reads next (held-four ds b r same)
    ∙ ap (λ words. take 4 (more ++ words)) (held-one ds b r same)
    ∙ issue-kept 4 4 more (held_by ds b r ++ b.held.words) (omega arith)
    ∙ ap (take 4) (sym (append_assoc more (held_by ds b r) b.held.words))
