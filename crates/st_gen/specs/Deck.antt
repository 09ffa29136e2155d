-- The generated deck: the cards of a seed and a number of cards.
--
-- Proved: by their `ensures` clauses these calls do what definitions here say: `draw_statement`
-- (statement.rt), `push_drawn_cards` (deck.rt), `draw` (generator.rt), `add_one` (statement.rt),
-- and others.
-- Read by: definitions in Output of st_top.
-- Laws: MadeDecksAreNotRefused (specs/Laws.antt of st_laws).
-- Change: the meaning is fixed by docs/deck.md, since the contract of `st_top::stretch` unfolds to
-- a definition here. The form is free, with the proofs that unfold it.
use Rattle.std.specs.Prelude.{ℕ, suc, zero, ◌+◌, ◌*◌, ◌/◌, ◌%◌, ◌^◌, List, [], ◌∷◌, ◌++◌, replicate, slice_index_or, codes, decimal}
use Rattle.st_text.specs.Bytes.{blank, lf}
use Rattle.st_gen.specs.declared.statement.TheConstants.{FIRST_DRAWN_WORD, DRAWN_WORDS}
use Rattle.st_gen.specs.declared.form.StatementForm.{StatementForm}
use Rattle.st_gen.specs.declared.form.StatementForm.TheVariants.{LoadValue, AddValue, LoadWord, Add, Store, AddOne, Connect, Multiply}

-- the generator's next state
unfoldable pub next_number : ℕ → ℕ
next_number x = (x * 6364136223846793005 + 1442695040888963407) % 2 ^ 64

-- the generator's state after n steps
abbrev pub number_after : ℕ → ℕ → ℕ
number_after zero x = x
number_after (suc n) x = next_number (number_after n x)

-- the number below m that a state gives: its high bits, modulo m
abbrev pub below : ℕ → ℕ → ℕ
below m x = x / 2 ^ 33 % m

-- the n-th number below m that is drawn after state x
abbrev pub draw : ℕ → ℕ → ℕ → ℕ
draw n m x = below m (number_after n x)

-- the n-th draw after x as the number of an index word, in decimal
abbrev pub index : ℕ → ℕ → List ℕ
index n x = decimal (1 + draw n 7 x)

-- the n-th draw after x as a word address, in decimal
abbrev pub word_text : ℕ → ℕ → List ℕ
word_text n x = decimal (FIRST_DRAWN_WORD + draw n DRAWN_WORDS x)

-- the n-th draw after x as a bit number or as an offset, in decimal
abbrev pub bit_text : ℕ → ℕ → List ℕ
bit_text n x = decimal (draw n 64 x)

-- the n-th draw after x as a small value, in decimal
abbrev pub small_value : ℕ → ℕ → List ℕ
small_value n x = decimal (draw n 4 x)

-- the n-th draw after x as the length of a field, in decimal
abbrev pub field_length : ℕ → ℕ → List ℕ
field_length n x = decimal (1 + draw n 64 x)

-- the n-th draw after x as the length of a field of at least eight bits, in decimal
abbrev pub byte_field_length : ℕ → ℕ → List ℕ
byte_field_length n x = decimal (8 + draw n 57 x)

-- the operands of an operation on an unsigned binary field; its length is drawn first
abbrev pub field_operands : ℕ → List ℕ
field_operands x =
    codes "(BU," ++ field_length 1 x ++ codes ")," ++ word_text 2 x ++ codes "." ++ bit_text 3 x
    ++ codes "," ++ bit_text 4 x

-- the statement of a form, its operands drawn after state x
abbrev pub statement : StatementForm → ℕ → List ℕ
statement LoadValue x = codes "LVI,$X" ++ index 1 x ++ codes "," ++ word_text 2 x ++ codes ".0"
statement AddValue x = codes "V+I,$X" ++ index 1 x ++ codes "," ++ small_value 2 x ++ codes ".0"
statement LoadWord x = codes "L(BU,64)," ++ word_text 1 x ++ codes ".0"
statement Add x = codes "+" ++ field_operands x
statement Store x = codes "ST" ++ field_operands x
statement AddOne x =
    codes "M+1(B," ++ byte_field_length 1 x ++ codes ",8)," ++ word_text 2 x ++ codes "."
    ++ bit_text 3 x
statement Connect x = codes "C0110" ++ field_operands x
statement Multiply x =
    codes "*(BU," ++ field_length 1 x ++ codes ")(V+I),0.32($X" ++ index 2 x ++ codes ")"

-- the number of draws that a form's statement takes
abbrev pub letters : StatementForm → ℕ
letters LoadValue = 2
letters AddValue = 2
letters LoadWord = 1
letters Add = 4
letters Store = 4
letters AddOne = 3
letters Connect = 4
letters Multiply = 2

-- the form with this number
abbrev pub form_of : ℕ → StatementForm
form_of number = slice_index_or
    (LoadValue ∷ AddValue ∷ LoadWord ∷ Add ∷ Store ∷ AddOne ∷ Connect ∷ []) number Multiply

-- the form of the card drawn after state x: its first draw
abbrev pub form_after : ℕ → StatementForm
form_after x = form_of (draw 1 8 x)

-- a statement card: the statement begins in column 10
unfoldable pub card : List ℕ → List ℕ
card text = replicate 9 blank ++ text ++ lf

-- a control card: it begins in column 1
unfoldable pub control : List ℕ → List ℕ
control text = text ++ lf

-- the card drawn after state x
abbrev pub drawn_card : ℕ → List ℕ
drawn_card x = card (statement (form_after x) (next_number x))

-- the generator's state after the card drawn after state x
abbrev pub after_card : ℕ → ℕ
after_card x = number_after (letters (form_after x)) (next_number x)

-- the generator's state after n cards
abbrev pub after_cards : ℕ → ℕ → ℕ
after_cards zero x = x
after_cards (suc n) x = after_card (after_cards n x)

-- the text of n drawn cards
abbrev pub drawn_cards : ℕ → ℕ → List ℕ
drawn_cards zero x = []
drawn_cards (suc n) x = drawn_cards n x ++ drawn_card (after_cards n x)

-- a control card with the delay of 1 to 20 ticks that a state gives
abbrev pub delay_card : ℕ → List ℕ
delay_card x = control (codes "/DELAYS " ++ decimal (1 + below 20 x))

-- the text of n cards, each with a delay
unfoldable pub delay_cards : ℕ → ℕ → List ℕ
delay_cards zero x = []
delay_cards (suc n) x = delay_cards n x ++ delay_card (next_number (number_after n x))

-- the cards after the drawn ones: END and the control cards
abbrev pub closing_cards : ℕ → ℕ → List ℕ
closing_cards cards x = card (codes "BEW") ++ card (codes "END,32.0")
    ++ control (codes "/BUDGET " ++ decimal (cards + 2)) ++ delay_cards 16 x
    ++ control (codes "/TIME")

-- the deck of a seed and a number of drawn cards
abbrev pub made_deck : ℕ → ℕ → List ℕ
made_deck number cards = drawn_cards cards number ++ closing_cards cards (after_cards cards number)
