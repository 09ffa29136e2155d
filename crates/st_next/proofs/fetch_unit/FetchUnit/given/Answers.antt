use Rattle.st_next.proofs.Common.{List, ℕ, ◌+◌, ◌∙◌, ap, arith, word, reading_at_place, left_after}
use Rattle.st_prep.specs.Reading.{fetching_of as given_of}
use Rattle.st_next.proofs.Starts.{length-first, none-read, one-read}
use Rattle.st_next.proofs.fetch_unit.FetchUnit.given.Goals as goal

pub returns-then-so_far-eq0-clause-value : goal.returns-then-so_far-eq0-clause-value
returns-then-so_far-eq0-clause-value c =
    let own = c.args.self.now.entry.own in
    let target = c.args.self.now.entry.target in
    let s = c.args.state.now in
    c.fetch_on.ensures.value
    ∙ ap {A = List ℕ} (λ xs. given_of (left_after (reading_at_place c.args.x.now (word s 3) s.enabled c.args.self.now.place) xs))
    (none-read (word s) _ (own.len + target.len) (length-first own target) (omega (arith, c.if-so_far-eq0.true)))

pub returns-then-so_far-eq1-clause-value : goal.returns-then-so_far-eq1-clause-value
returns-then-so_far-eq1-clause-value c =
    let own = c.args.self.now.entry.own in
    let target = c.args.self.now.entry.target in
    let s = c.args.state.now in
    c.fetch_on-then-so_far-eq1.ensures.value
    ∙ ap {A = List ℕ} (λ xs. given_of (left_after (reading_at_place c.args.x.now (word s 3) s.enabled c.args.self.now.place) xs))
    (one-read (word s) _ (own.len + target.len) _ (length-first own target) (omega (arith, c.if-so_far-eq1.true))
    (c.word.ensures.value ∙ ap (word s) (c.word_at.ensures.value (omega (arith, c.if-so_far-eq1.true)))))
