use Rattle.st_prep.proofs.Common.{◌≡◌, ◌-◌, ◌≤◌, length, take, word, reading_at_place, left_after}
use Rattle.st_prep.proofs.ReadingLemmas.{IsLeft}
use Rattle.st_prep.proofs.fetching.fetch_all.Given as goal

-- the rest of the reading has the result of the whole, with at most four words
abbrev pub invariant-loop-word : goal.invariant-loop-word
invariant-loop-word l =
    let r = reading_at_place l.x (word l.state 3) l.state.enabled l.place in
    record {
      size : length l.contents ≡ 4;
      few : l.n ≤ 4;
      left : IsLeft (left_after r (take l.n l.contents)) r (word l.state) (4 - l.n);
    }

abbrev pub decreases-loop-word : goal.decreases-loop-word
decreases-loop-word l = 4 - l.n
