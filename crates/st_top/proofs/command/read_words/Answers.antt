use Rattle.st_top.proofs.Common.{◌≡◌, ◌<◌, ℕ, List, length, map, ◌∙◌, sym, subst, length-map, eqb-true, string_bytes}
use Rattle.st_top.proofs.CommandLines.{means_nothing, none_means_nothing, many_mean_nothing}
use Rattle.st_top.proofs.command.read_words.Goals.{then-not-are_plain-via-then-not-are_plain, then-not-are_plain-via-else-not-are_plain+then-is_empty, then-not-are_plain-via-else-not-are_plain+else-is_empty+then-words-gt-MOST_WORDS}
use Rattle.st_top.proofs.command.read_words.Goals as goal

pub returns-then-not-are_plain-clause-ok : goal.returns-then-not-are_plain-clause-ok
returns-then-not-are_plain-clause-ok c =
    let ws : List (List ℕ) = map string_bytes c.args.words.now in
    let size : length ws ≡ length c.args.words.now = length-map c.args.words.now string_bytes in
    elim c.then-not-are_plain.branch [
      | then-not-are_plain-via-then-not-are_plain w ↦ means_nothing ws (sym (w.if-not-are_plain.ensures))
      | then-not-are_plain-via-else-not-are_plain+then-is_empty w ↦ none_means_nothing ws (size ∙ eqb-true (length c.args.words.now) 0 (sym (w.if-is_empty.ensures)))
      | then-not-are_plain-via-else-not-are_plain+else-is_empty+then-words-gt-MOST_WORDS w ↦
          many_mean_nothing ws (subst (λ n. 3 < n) (sym size) w.if-words-gt-MOST_WORDS.true)
    ]
