use Rattle.st_prep.proofs.Common.{◌≢◌, List, ℕ, length, take, drop, subst, ap, ◌∙◌, index_words, MatchResult}
use Rattle.std.specs.Borrow.{Bor}
use Rattle.std.specs.Array.{IsWholeChunk}
use Rattle.st_prep.proofs.fetching.index_words_in.Goals as goal

pub returns : goal.returns
unfolding index_words
returns c =
    let there = take 16 (drop 16 c.words-words.result.now) in
    (subst (λ r. MatchResult r (λ (x : Bor (List ℕ)). IsWholeChunk there x.now 16) (λ _. length there ≢ 16)) c.unwrap.ensures c.try_from.ensures.1).same
    ∙ ap (λ ws. take 16 (drop 16 ws)) c.words-words.ensures.words
