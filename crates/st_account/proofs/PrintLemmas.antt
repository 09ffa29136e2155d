-- Lemmas on the output that is printed between two entries.
use Rattle.st_account.proofs.Common.{◌≡◌, ℕ, List, [], ◌∷◌, None, Some, sym, ap, PlainEvent, ArePrinted, words_printed}

pub none-printed : (es : List PlainEvent) → ArePrinted None es → [] ≡ words_printed es
unfolding words_printed
none-printed es is = ap words_printed (sym is)

pub some-printed : (words : List ℕ) (es : List PlainEvent) → ArePrinted (Some words) es → words ∷ [] ≡ words_printed es
unfolding words_printed
some-printed words es is = ap words_printed (sym is.1)
