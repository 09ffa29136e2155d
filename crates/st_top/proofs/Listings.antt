-- The listing is written line by line.
use Rattle.st_top.proofs.Common.{◌≡◌, ℕ, ◌+◌, ◌<◌, List, [], ◌∷◌, ◌++◌, true, false, length, get_or, drop, sym, ◌∙◌, ap, subst, arith, if◌then◌else◌, drop_more, Result, Ok, Err, IsErr, cards_of, IsCardOf, Card, Assembly, Symbol, Listed, OutputState, Failed, WritesLines, symbol_line, LinesSoFar, lines_more, lines_failed, HasCards, listing_row_line, rows_lines, symbols_lines, listing}
use Rattle.std.specs.Prelude.{All, None}
use Rattle.st_asm.specs.Sound.{IsRow}

-- the cards of an assembled job
pub has_cards : (job : List ℕ) (rows : List Listed) (cards : List Card) → cards ≡ cards_of job → All (IsCardOf job) (cards_of job)
    → All (λ (card : Card). card.fault ≡ None) (cards_of job) → All IsRow rows → length rows ≡ length (cards_of job) → HasCards job rows cards
has_cards job rows cards are texts good fit same = record {
  cards_are = are;
  texts = subst (λ (cs : List Card). All (IsCardOf job) cs) (sym are) texts;
  good = subst (λ (cs : List Card). All (λ (card : Card). card.fault ≡ None) cs) (sym are) good;
  rows_fit = fit;
  same = same ∙ ap (λ (cs : List Card). length cs) (sym are);
}

-- if the rows from the k-th remain, the k-th comes next
rows_next : (s t : OutputState) (all : List (List ℕ)) (job : List ℕ) (rows : List Listed) (cards : List Card) (k : ℕ) (d : Listed) (e : Card) → k < length rows → length rows ≡ length cards → LinesSoFar s t all (rows_lines job (drop k rows) (drop k cards)) → LinesSoFar s t all ((listing_row_line job (get_or rows k d) (get_or cards k e) ∷ []) ++ rows_lines job (drop (k + 1) rows) (drop (k + 1) cards))
rows_next s t all job rows cards k d e lt same h =
    subst (λ xs. LinesSoFar s t all (rows_lines job (get_or rows k d ∷ drop (k + 1) rows) xs)) (drop_more cards k e (omega arith))
    (subst (λ xs. LinesSoFar s t all (rows_lines job xs (drop k cards))) (drop_more rows k d lt) h)

pub rows_more : (s t u : OutputState) (all : List (List ℕ)) (job : List ℕ) (rows : List Listed) (cards : List Card) (k : ℕ) (d : Listed) (e : Card) (x : Unit {0}) → k < length rows → length rows ≡ length cards → LinesSoFar s t all (rows_lines job (drop k rows) (drop k cards)) → WritesLines t u (listing_row_line job (get_or rows k d) (get_or cards k e) ∷ []) (Ok x) → LinesSoFar s u all (rows_lines job (drop (k + 1) rows) (drop (k + 1) cards))
rows_more s t u all job rows cards k d e x lt same h w =
    lines_more s t u all (listing_row_line job (get_or rows k d) (get_or cards k e) ∷ []) (rows_lines job (drop (k + 1) rows) (drop (k + 1) cards)) (rows_next s t all job rows cards k d e lt same h) w.ok

pub rows_failed : (s t u : OutputState) (all : List (List ℕ)) (job : List ℕ) (rows : List Listed) (cards : List Card) (k : ℕ) (d : Listed) (e : Card) (x : Failed) (r : Result (Unit {0}) Failed) → IsErr r → k < length rows → length rows ≡ length cards → LinesSoFar s t all (rows_lines job (drop k rows) (drop k cards)) → WritesLines t u (listing_row_line job (get_or rows k d) (get_or cards k e) ∷ []) (Err x) → WritesLines s u all r
rows_failed s t u all job rows cards k d e x r f lt same h w =
    lines_failed s t u all (listing_row_line job (get_or rows k d) (get_or cards k e) ∷ []) (rows_lines job (drop (k + 1) rows) (drop (k + 1) cards)) r f (rows_next s t all job rows cards k d e lt same h) w.err

symbols_next : (s t : OutputState) (all : List (List ℕ)) (ss : List Symbol) (k : ℕ) (d : Symbol) → k < length ss → LinesSoFar s t all (symbols_lines (drop k ss)) → LinesSoFar s t all (symbols_lines (get_or ss k d ∷ []) ++ symbols_lines (drop (k + 1) ss))
symbols_next s t all ss k d lt h = subst (λ xs. LinesSoFar s t all (symbols_lines xs)) (drop_more ss k d lt) h

pub symbols_more : (s t u : OutputState) (all : List (List ℕ)) (ss : List Symbol) (k : ℕ) (d : Symbol) (written : List ℕ) (x : Unit {0}) → k < length ss → LinesSoFar s t all (symbols_lines (drop k ss)) → written ≡ symbol_line (get_or ss k d).name (get_or ss k d).value → WritesLines t u (written ∷ []) (Ok x) → LinesSoFar s u all (symbols_lines (drop (k + 1) ss))
symbols_more s t u all ss k d written x lt h same w =
    lines_more s t u all (symbols_lines (get_or ss k d ∷ [])) (symbols_lines (drop (k + 1) ss)) (symbols_next s t all ss k d lt h)
    (subst (λ l. WritesLines t u (l ∷ []) (Ok x)) same w).ok

pub symbols_failed : (s t u : OutputState) (all : List (List ℕ)) (ss : List Symbol) (k : ℕ) (d : Symbol) (written : List ℕ) (x : Failed) (r : Result (Unit {0}) Failed) → IsErr r → k < length ss → LinesSoFar s t all (symbols_lines (drop k ss)) → written ≡ symbol_line (get_or ss k d).name (get_or ss k d).value → WritesLines t u (written ∷ []) (Err x) → WritesLines s u all r
symbols_failed s t u all ss k d written x r f lt h same w =
    lines_failed s t u all (symbols_lines (get_or ss k d ∷ [])) (symbols_lines (drop (k + 1) ss)) r f (symbols_next s t all ss k d lt h)
    (subst (λ l. WritesLines t u (l ∷ []) (Err x)) same w).err

-- the listing is empty if it is not requested, and otherwise has the rows and the symbols
pub listing_none : (job : List ℕ) (a : Assembly) → a.asked.list ≡ false → [] ≡ listing job a
unfolding listing
listing_none job a h = sym (ap (λ b. if b then rows_lines job a.rows (cards_of job) ++ symbols_lines a.symbols else []) h)

pub listing_some : (job : List ℕ) (a : Assembly) (cards : List Card) → a.asked.list ≡ true → cards ≡ cards_of job → rows_lines job a.rows cards ++ symbols_lines a.symbols ≡ listing job a
unfolding listing
listing_some job a cards h e =
    ap (λ cs. rows_lines job a.rows cs ++ symbols_lines a.symbols) e ∙ sym (ap (λ b. if b then rows_lines job a.rows (cards_of job) ++ symbols_lines a.symbols else []) h)

pub lines_are : (s t : OutputState) (xs ys : List (List ℕ)) (r : Result (Unit {0}) Failed) → xs ≡ ys → WritesLines s t xs r → WritesLines s t ys r
lines_are s t xs ys r e h = subst (λ zs. WritesLines s t zs r) e h
