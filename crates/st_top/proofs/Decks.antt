-- The deck of a program, or the refusal of its first card over the limit.
use Rattle.st_top.proofs.Common.{◌≡◌, ◌≤◌, Bool, true, nat_le, if◌then◌else◌, sym, ap, arith, nat_tests, TooManyCards, Program, card_count, deck_lines, Output, lines_alone, refusal_output, deck_by, Done}

abbrev by_count : Program → Bool → Output
by_count p few = if few then lines_alone Done (deck_lines p) else refusal_output (record { card = 20001; fault = TooManyCards })

pub deck_few : (p : Program) → card_count p ≤ 20000 → lines_alone Done (deck_lines p) ≡ deck_by p
deck_few p few = let fits : nat_le (card_count p) 20000 ≡ true = grind (arith, nat_tests) in sym (ap (by_count p) fits)
