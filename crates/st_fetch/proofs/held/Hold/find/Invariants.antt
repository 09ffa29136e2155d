use Rattle.st_fetch.proofs.Common.{◌≡◌, found, oldest_first}
use Rattle.st_fetch.proofs.held.Hold.find.Given as goal

-- the result of the search among the newest words so far
abbrev pub invariant-loop-place : goal.invariant-loop-place
invariant-loop-place l = l.here ≡ found (oldest_first l.place l.self-inside.words.words l.self-inside.contents.of) l.w
