-- A bound on the length of a generated deck.
use Rattle.std.proofs.Common.{◌≡◌, ◌≤◌, ◌<◌, ◌+◌, ◌*◌, ◌++◌, ◌^◌, ℕ, zero, suc, List, length, codes, decimal, length-append, arith, sym, subst}
use Rattle.std.proofs.lemmas.Fmt.{length-decimal-le}
use Rattle.std.specs.Prelude.{replicate}
use Rattle.st_text.specs.Bytes.{blank, lf}
use Rattle.st_gen.specs.Deck.{next_number, number_after, draw, below, index, word_text, bit_text, field_length, byte_field_length, field_operands, statement, form_after, card, control, drawn_card, after_cards, drawn_cards, delay_card, delay_cards, closing_cards, made_deck}
use Rattle.st_gen.specs.declared.form.StatementForm.{StatementForm}
use Rattle.st_gen.specs.declared.form.StatementForm.TheVariants.{LoadValue, AddValue, LoadWord, Add, Store, AddOne, Connect, Multiply}

-- the length of two concatenated texts
joined : (a b : List ℕ) (m n : ℕ) → length a ≤ m → length b ≤ n → length (a ++ b) ≤ m + n
joined a b m n p q =
    let whole = length-append a b in
    omega (arith, whole, p, q)

-- the length of a number of at most four digits
four : (n : ℕ) → n < 10000 → length (decimal n) ≤ 4
four n small = length-decimal-le 4 n (omega arith) (omega arith) (omega arith)

-- the length of a number between two words
held : (front behind : List ℕ) (m k n : ℕ) → length front ≤ m → length behind ≤ k → n < 10000 → length (front ++ decimal n ++ behind) ≤ m + 4 + k
held front behind m k n p q small = joined (front ++ decimal n) behind (m + 4) k (joined front (decimal n) m 4 p (four n small)) q

field_operands-short : (x : ℕ) → length (field_operands x) ≤ 24
field_operands-short x =
    let length_is = held (codes "(BU,") (codes "),") 4 2 (1 + draw 1 64 x) (omega arith) (omega arith) (omega arith) in
    let word_is = held (codes "(BU," ++ field_length 1 x ++ codes "),") (codes ".") 10 1 (4096 + draw 2 256 x) length_is (omega arith) (omega arith) in
    let bit_is = held (codes "(BU," ++ field_length 1 x ++ codes ")," ++ word_text 2 x ++ codes ".") (codes ",") 15 1 (draw 3 64 x) word_is (omega arith) (omega arith) in
    joined (codes "(BU," ++ field_length 1 x ++ codes ")," ++ word_text 2 x ++ codes "." ++ bit_text 3 x ++ codes ",") (bit_text 4 x) 20 4 bit_is (four (draw 4 64 x) (omega arith))

pub statement-short : (form : StatementForm) (x : ℕ) → length (statement form x) ≤ 30
statement-short LoadValue x =
    let index_is = held (codes "LVI,$X") (codes ",") 6 1 (1 + draw 1 7 x) (omega arith) (omega arith) (omega arith) in
    let all = held (codes "LVI,$X" ++ index 1 x ++ codes ",") (codes ".0") 11 2 (4096 + draw 2 256 x) index_is (omega arith) (omega arith) in
    omega (arith, all)
statement-short AddValue x =
    let index_is = held (codes "V+I,$X") (codes ",") 6 1 (1 + draw 1 7 x) (omega arith) (omega arith) (omega arith) in
    let all = held (codes "V+I,$X" ++ index 1 x ++ codes ",") (codes ".0") 11 2 (draw 2 4 x) index_is (omega arith) (omega arith) in
    omega (arith, all)
statement-short LoadWord x =
    let all = held (codes "L(BU,64),") (codes ".0") 9 2 (4096 + draw 1 256 x) (omega arith) (omega arith) (omega arith) in
    omega (arith, all)
statement-short Add x =
    let all = joined (codes "+") (field_operands x) 1 24 (omega arith) (field_operands-short x) in
    omega (arith, all)
statement-short Store x =
    let all = joined (codes "ST") (field_operands x) 2 24 (omega arith) (field_operands-short x) in
    omega (arith, all)
statement-short AddOne x =
    let length_is = held (codes "M+1(B,") (codes ",8),") 6 4 (8 + draw 1 57 x) (omega arith) (omega arith) (omega arith) in
    let word_is = held (codes "M+1(B," ++ byte_field_length 1 x ++ codes ",8),") (codes ".") 14 1 (4096 + draw 2 256 x) length_is (omega arith) (omega arith) in
    let all = joined (codes "M+1(B," ++ byte_field_length 1 x ++ codes ",8)," ++ word_text 2 x ++ codes ".") (bit_text 3 x) 19 4 word_is (four (draw 3 64 x) (omega arith)) in
    omega (arith, all)
statement-short Connect x =
    let all = joined (codes "C0110") (field_operands x) 5 24 (omega arith) (field_operands-short x) in
    omega (arith, all)
statement-short Multiply x =
    let length_is = held (codes "*(BU,") (codes ")(V+I),0.32($X") 5 14 (1 + draw 1 64 x) (omega arith) (omega arith) (omega arith) in
    let all = held (codes "*(BU," ++ field_length 1 x ++ codes ")(V+I),0.32($X") (codes ")") 23 1 (1 + draw 2 7 x) length_is (omega arith) (omega arith) in
    omega (arith, all)

card-short : (text : List ℕ) (n : ℕ) → length text ≤ n → length (card text) ≤ 9 + n + 1
unfolding card
card-short text n short = joined (replicate 9 blank ++ text) lf (9 + n) 1 (joined (replicate 9 blank) text 9 n (omega arith) short) (omega arith)

control-short : (text : List ℕ) (n : ℕ) → length text ≤ n → length (control text) ≤ n + 1
unfolding control
control-short text n short = joined text lf n 1 short (omega arith)

drawn_cards-short : (n x : ℕ) → length (drawn_cards n x) ≤ 40 * n
drawn_cards-short zero x = omega arith
drawn_cards-short (suc n) x =
    let y : ℕ = after_cards n x in
    let one = card-short (statement (form_after y) (next_number y)) 30 (statement-short (form_after y) (next_number y)) in
    let all = joined (drawn_cards n x) (drawn_card y) (40 * n) 40 (drawn_cards-short n x) one in
    omega (arith, all)

delay_cards-short : (n x : ℕ) → length (delay_cards n x) ≤ 13 * n
unfolding delay_cards
delay_cards-short zero x = omega arith
delay_cards-short (suc n) x =
    let y : ℕ = next_number (number_after n x) in
    let number = joined (codes "/DELAYS ") (decimal (1 + below 20 y)) 8 4 (omega arith) (four (1 + below 20 y) (omega arith)) in
    let one = control-short (codes "/DELAYS " ++ decimal (1 + below 20 y)) 12 number in
    let all = joined (delay_cards n x) (delay_card y) (13 * n) 13 (delay_cards-short n x) one in
    omega (arith, all)

closing_cards-short : (cards x : ℕ) → cards < 2 ^ 32 → length (closing_cards cards x) ≤ 300
closing_cards-short cards x few =
    let branch = card-short (codes "BEW") 3 (omega arith) in
    let end = joined (card (codes "BEW")) (card (codes "END,32.0")) 13 18 branch (card-short (codes "END,32.0") 8 (omega arith)) in
    let digits : length (decimal (cards + 2)) ≤ 20 = length-decimal-le 20 (cards + 2) (omega arith) (omega arith) (omega arith) in
    let budget = control-short (codes "/BUDGET " ++ decimal (cards + 2)) 28 (joined (codes "/BUDGET ") (decimal (cards + 2)) 8 20 (omega arith) digits) in
    let limit = joined (card (codes "BEW") ++ card (codes "END,32.0")) (control (codes "/BUDGET " ++ decimal (cards + 2))) 31 29 end budget in
    let delays = joined (card (codes "BEW") ++ card (codes "END,32.0") ++ control (codes "/BUDGET " ++ decimal (cards + 2))) (delay_cards 16 x) 60 208 limit (delay_cards-short 16 x) in
    let all = joined (card (codes "BEW") ++ card (codes "END,32.0") ++ control (codes "/BUDGET " ++ decimal (cards + 2)) ++ delay_cards 16 x) (control (codes "/TIME")) 268 6 delays (control-short (codes "/TIME") 5 (omega arith)) in
    omega (arith, all)

-- a generated deck has at most 40 bytes for each drawn card, and 300 more
pub made_deck-short : (number cards : ℕ) → cards < 2 ^ 32 → length (made_deck number cards) ≤ 40 * cards + 300
made_deck-short number cards few =
    joined (drawn_cards cards number) (closing_cards cards (after_cards cards number)) (40 * cards) 300
    (drawn_cards-short cards number) (closing_cards-short cards (after_cards cards number) few)

pub short-as : (items deck : List ℕ) (most : ℕ) → items ≡ deck → length deck ≤ most → length items ≤ most
short-as items deck most e h = subst (λ xs. length xs ≤ most) (sym e) h
