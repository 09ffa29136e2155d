use Rattle.st_top.proofs.Common.{◌≡◌, ◌≤◌, ℕ, List, codes, length, map, ◌∙◌, ap, sym, subst, length-map, string_bytes, first_of, found_of, is_simple, matches_of, takes}
use Rattle.clap.proofs.WalkLemmas.{first_value-rows}
use Rattle.st_top.proofs.CommandLines.{read_command, commands_agree, not_taken, never_both}
use Rattle.st_top.proofs.command.read_arguments.Goals as goal

pub returns-in-Ok-try_get_matches_from : goal.returns-in-Ok-try_get_matches_from
returns-in-Ok-try_get_matches_from c =
    let ws : List (List ℕ) = map string_bytes c.args.words.now in
    let size : length ws ≡ length c.args.words.now = length-map c.args.words.now string_bytes in
    let exact = c.in-Ok-try_get_matches_from.ensures.matches (ap is_simple c.in-Ok.ensures) in
    let rows = exact.0 ∙ ap (λ a. matches_of a ws) c.in-Ok.ensures in
    let found = λ (name : List ℕ). first_value-rows (found_of c.in-Ok-try_get_matches_from.matches) name ∙ ap (first_of name) rows in
    let command = c.get_str.ensures ∙ found (codes "command") in
    let number = c.get_str-in-Ok-try_get_matches_from.ensures ∙ found (codes "number") in
    let cards = c.get_str-in-Ok-try_get_matches_from-2.ensures ∙ found (codes "cards") in
    c.command_by.ensures ∙ (commands_agree command number cards
    ∙ read_command ws (subst (λ n. 1 ≤ n) (sym size) c.requires.some) (subst (λ n. n ≤ 3) (sym size) c.requires.few) c.requires.plain)

pub returns-in-Err-2 : goal.returns-in-Err-2
returns-in-Err-2 c =
    let ws : List (List ℕ) = map string_bytes c.args.words.now in
    let size : length ws ≡ length c.args.words.now = length-map c.args.words.now string_bytes in
    not_taken ws (subst (λ n. 1 ≤ n) (sym size) c.requires.some) (subst (λ n. n ≤ 3) (sym size) c.requires.few) c.requires.plain
    (λ taken.
    let memory = c.is_memory.ensures (c.in-Err.ensures.passes (ap (λ a. takes a ws) c.in-Ok.ensures ∙ taken)) in
    never_both _ memory c.if-is_memory.false)
