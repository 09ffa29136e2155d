-- The writing of dumps in order.
use Rattle.st_telling.proofs.Common.{ℕ, ◌+◌, ◌<◌, List, ◌++◌, length, get_or, drop, ap, subst, OutputState, LinesSoFar, Machine, dump_lines, dumps_lines}
use Rattle.std.proofs.lemmas.List.{drop_more}

-- if the dumps from the k-th remain, the k-th is next
pub dumps_next : (s t : OutputState) (all : List (List ℕ)) (m : Machine) (ps : List (ℕ × ℕ)) (k : ℕ) (d : ℕ × ℕ) → k < length ps → LinesSoFar s t all (dumps_lines m (drop k ps)) → LinesSoFar s t all (dump_lines m (get_or ps k d).0 (get_or ps k d).1 ++ dumps_lines m (drop (k + 1) ps))
dumps_next s t all m ps k d lt h = subst (LinesSoFar s t all) (ap (dumps_lines m) (drop_more ps k d lt)) h
