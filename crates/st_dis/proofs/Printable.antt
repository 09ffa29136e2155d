-- The cards of a deck have only blanks and visible ASCII characters.
use Rattle.st_dis.proofs.Common.{keyword_text, ◌≡◌, ◌+◌, ◌*◌, ◌/◌, ◌%◌, ◌^◌, ◌==◌, ◌&&◌, ◌++◌, ℕ, zero, suc, Bool, true, false, not, nat_le, Option, Some, None, List, [], ◌∷◌, map, codes, decimal, slice_index_or, if◌then◌else◌, refl, ap, ◌∙◌, append_assoc, arith, All, list_all, and_from, and_parts, nat_tests, All-nil, All-cons, All-head, All-tail, All-append, is_full, instruction_of, is_valid, Instr, pieces_of, lacks, is_column_1, first_column, is_printable, bit_address, half_address, flag, place, Program, Asked, word, control_line, requests, text_of_lines, Keyword, Control, Card, EmittedBits, index_field_text, index_part_text, half_field, bit_field, second_field, number_field, offset_field, has_index, listed_fields, half_text, branch_text, description, operand_text, instruction_text, says, spelling_of, word_spelling, half_spelling, number_text, statements_by, statements_of, statement_card, location_statement, location_cards, cards_of_word, word_cards, end_text, control_cards, deck_cards, deck_text}
use Rattle.std.specs.Fmt.{digits, digits_onto, digit_glyph}
use Rattle.std.proofs.lemmas.List.Folds.{list_all-append}
use Rattle.st_bits.specs.declared.operations.HalfOp.{HalfOp}
use Rattle.st_bits.specs.declared.operations.HalfOp.TheVariants.{Lx, Lv, Lc, Lr, Sx, Sv, Sc, Sr, Sva, VPlus, VPlusC, Kv, Lvs, Lvi, Lci, Lri, VPlusI, VMinusI, VPlusIC, VPlusICR, Kvi, Kc, Kci, Cb, Cbr, R, Ex}
use Rattle.st_bits.specs.declared.operations.BranchOp.{BranchOp}
use Rattle.st_bits.specs.declared.operations.BranchOp.TheVariants.{B, Br, Be, Bd, Bew, Nop}
use Rattle.st_bits.specs.declared.operations.VflOp.{VflOp}
use Rattle.st_bits.specs.declared.operations.VflOp.TheVariants.{L, Lwf, Ltrs, Lft, St, Add, AddMg, MAdd, MAddMg, MAdd1, K, Kf, Ke, Kfe, Kr, Kfr, Mul, MulAdd, Div, Lcv}
use Rattle.st_bits.specs.declared.operations.ConnKind.{ConnKind}
use Rattle.st_bits.specs.declared.operations.ConnKind.TheVariants.{C, Cm, Ct}
use Rattle.st_format.specs.declared.instruction.Instr.TheVariants.{Half, Branch, Floating, Vfl, Connect, Move, BitBranch, IndBranch, StoreCounter, Transfer, Invalid}
use Rattle.st_object.proofs.ReadBack.{parted_line}
use Rattle.st_format.specs.Operations.{half_row, branch_row, vfl_row, conn_row}
use Rattle.st_dis.specs.Names.{negation, truth_digits, move_name, change_name, turning, order_name, mode_name, form_name}
use Rattle.st_card.specs.declared.keywords.Keyword.TheVariants as keywords
use Rattle.st_card.specs.declared.keywords.Control.TheVariants as asks

-- a text of blanks and visible characters
abbrev pub IsPlain : List ℕ → Type 0
IsPlain text = is_printable text ≡ true

-- whether a byte is a blank or a visible character
abbrev pub is_plain : ℕ → Bool
is_plain c = nat_le 32 c && nat_le c 126

pub join : (a b : List ℕ) → IsPlain a → IsPlain b → IsPlain (a ++ b)
join a b p q = list_all-append is_plain a b ∙ and_from (list_all is_plain a) (list_all is_plain b) p q

pub joined : (a b c : List ℕ) → IsPlain a → IsPlain b → IsPlain c → IsPlain (a ++ b ++ c)
joined a b c p q r = join (a ++ b) c (join a b p q) r

chosen : (b : Bool) (x y : List ℕ) → IsPlain x → IsPlain y → IsPlain (if b then x else y)
chosen true x y p q = p
chosen false x y p q = q

-- ---- numbers

glyph : (n : ℕ) → is_plain (digit_glyph false (n % 10)) ≡ true
glyph n = grind (arith, nat_tests)

onto : (k n : ℕ) (acc : List ℕ) → IsPlain acc → IsPlain (digits_onto k 10 false n acc)
onto zero n acc p = p
onto (suc k) n acc p =
    let more : IsPlain (digit_glyph false (n % 10) ∷ acc) = and_from (is_plain (digit_glyph false (n % 10))) (list_all is_plain acc) (glyph n) p in
    chosen (n / 10 == 0) (digit_glyph false (n % 10) ∷ acc) (digits_onto k 10 false (n / 10) (digit_glyph false (n % 10) ∷ acc)) more
    (onto k (n / 10) (digit_glyph false (n % 10) ∷ acc) more)

pub number : (n : ℕ) → IsPlain (decimal n)
unfolding digits
number n = onto 64 n [] refl

placed_at : (w b : ℕ) → IsPlain (place w b)
placed_at w b = joined (decimal w) (codes ".") (decimal b) (number w) refl (number b)

-- ---- names

half_plain : (op : HalfOp) → IsPlain (half_row op).word
half_plain Lx = refl
half_plain Lv = refl
half_plain Lc = refl
half_plain Lr = refl
half_plain Sx = refl
half_plain Sv = refl
half_plain Sc = refl
half_plain Sr = refl
half_plain Sva = refl
half_plain VPlus = refl
half_plain VPlusC = refl
half_plain Kv = refl
half_plain Lvs = refl
half_plain Lvi = refl
half_plain Lci = refl
half_plain Lri = refl
half_plain VPlusI = refl
half_plain VMinusI = refl
half_plain VPlusIC = refl
half_plain VPlusICR = refl
half_plain Kvi = refl
half_plain Kc = refl
half_plain Kci = refl
half_plain Cb = refl
half_plain Cbr = refl
half_plain R = refl
half_plain Ex = refl

field_plain : (op : VflOp) → IsPlain (vfl_row op).word
field_plain L = refl
field_plain Lwf = refl
field_plain Ltrs = refl
field_plain Lft = refl
field_plain St = refl
field_plain Add = refl
field_plain AddMg = refl
field_plain MAdd = refl
field_plain MAddMg = refl
field_plain MAdd1 = refl
field_plain K = refl
field_plain Kf = refl
field_plain Ke = refl
field_plain Kfe = refl
field_plain Kr = refl
field_plain Kfr = refl
field_plain Mul = refl
field_plain MulAdd = refl
field_plain Div = refl
field_plain Lcv = refl

kind_plain : (kind : ConnKind) → IsPlain (conn_row kind).word
kind_plain C = refl
kind_plain Cm = refl
kind_plain Ct = refl

flag_plain : (b : Bool) → IsPlain (flag b)
flag_plain true = refl
flag_plain false = refl

truth_plain : (truth : ℕ) → IsPlain (truth_digits truth)
truth_plain truth =
    let a = flag (truth / 8 % 2 == 1) in
    let b = flag (truth / 4 % 2 == 1) in
    let c = flag (truth / 2 % 2 == 1) in
    let d = flag (truth % 2 == 1) in
    join (a ++ b ++ c) d (joined a b c (flag_plain (truth / 8 % 2 == 1)) (flag_plain (truth / 4 % 2 == 1)) (flag_plain (truth / 2 % 2 == 1)))
    (flag_plain (truth % 2 == 1))

mode_plain : (decimal_digits unsigned : Bool) → IsPlain (mode_name decimal_digits unsigned)
mode_plain true true = refl
mode_plain true false = refl
mode_plain false true = refl
mode_plain false false = refl

negation_plain : (b : Bool) → IsPlain (negation b)
negation_plain true = refl
negation_plain false = refl

move_plain : (b : Bool) → IsPlain (move_name b)
move_plain true = refl
move_plain false = refl

turning_plain : (b : Bool) → IsPlain (turning b)
turning_plain true = refl
turning_plain false = refl

order_plain : (b : Bool) → IsPlain (order_name b)
order_plain true = refl
order_plain false = refl

-- one of a list of texts
one_of : (texts : List (List ℕ)) (k : ℕ) → list_all is_printable texts ≡ true → IsPlain (slice_index_or texts k [])
one_of [] k p = refl
one_of (t ∷ ts) zero p = (and_parts (is_printable t) (list_all is_printable ts) p).0
one_of (t ∷ ts) (suc k) p = one_of ts k (and_parts (is_printable t) (list_all is_printable ts) p).1

change_plain : (change : ℕ) → IsPlain (change_name change)
change_plain change = one_of ([] ∷ codes "Z" ∷ codes "S" ∷ codes "V" ∷ []) change refl

form_plain : (p : ℕ) → IsPlain (form_name p)
form_plain p = one_of ([] ∷ codes "(IM)" ∷ codes "(V+I)" ∷ codes "(V+IC)" ∷ codes "(V+ICR)" ∷ codes "(V-I)" ∷ codes "(V-IC)" ∷ codes "(V-ICR)" ∷ []) p refl

-- ---- fields

index_plain : (j : ℕ) → IsPlain (index_field_text j)
index_plain j = join (codes ",$X") (decimal j) refl (number j)

part_plain : (i : ℕ) → IsPlain (index_part_text i)
part_plain i = chosen (i == 0) [] (codes "($X" ++ decimal i ++ codes ")") refl (joined (codes "($X") (decimal i) (codes ")") refl (number i) refl)

half_address_plain : (h : ℕ) → IsPlain (half_address h)
half_address_plain h = placed_at (h / 2) (32 * (h % 2))

half_field_plain : (address i : ℕ) → IsPlain (half_field address i)
half_field_plain address i = joined (codes ",") (half_address address) (index_part_text i) refl (half_address_plain address) (part_plain i)

bit_field_plain : (address i : ℕ) → IsPlain (bit_field address i)
bit_field_plain address i =
    joined (codes ",") (bit_address address) (index_part_text i) refl (placed_at (address / 64) (address % 64)) (part_plain i)

second_plain : (second : ℕ) → IsPlain (second_field second)
second_plain second = join (codes ",") (half_address second) refl (half_address_plain second)

number_field_plain : (n : ℕ) → IsPlain (number_field n)
number_field_plain n = join (codes ",") (decimal n) refl (number n)

offset_plain : (offset : ℕ) → IsPlain (offset_field offset)
offset_plain offset = chosen (offset == 0) [] (number_field offset) refl (number_field_plain offset)

listed_plain : (n address : ℕ) → IsPlain (listed_fields n address)
unfolding listed_fields
listed_plain zero address = refl
listed_plain (suc n) address =
    join (listed_fields n address) (if has_index address n then index_field_text n else []) (listed_plain n address)
    (chosen (has_index address n) (index_field_text n) [] (index_plain n) refl)

description_plain : (d u : Bool) (bits byte : ℕ) → IsPlain (description d u bits byte)
description_plain d u bits byte =
    let front : IsPlain (codes "(" ++ mode_name d u) = join (codes "(") (mode_name d u) refl (mode_plain d u) in
    let middle = joined (codes "(" ++ mode_name d u) (number_field bits) (number_field byte) front (number_field_plain bits) (number_field_plain byte) in
    join (codes "(" ++ mode_name d u ++ number_field bits ++ number_field byte) (codes ")") middle refl

operand_plain : (p address i offset : ℕ) → IsPlain (operand_text p address i offset)
operand_plain p address i offset =
    joined (form_name p) (bit_field address i) (offset_field offset) (form_plain p) (bit_field_plain address i) (offset_plain offset)

-- ---- instructions

with_fields : (op : HalfOp) (address j i : ℕ) → IsPlain ((half_row op).word ++ index_field_text j ++ half_field address i)
with_fields op address j i =
    joined (half_row op).word (index_field_text j) (half_field address i) (half_plain op) (index_plain j) (half_field_plain address i)

half_text_plain : (op : HalfOp) (address j i : ℕ) → IsPlain (half_text op address j i)
half_text_plain Ex address j i = join (half_row Ex).word (half_field address i) refl (half_field_plain address i)
half_text_plain R address j i = join (half_row R).word (index_field_text j) refl (index_plain j)
half_text_plain Lvs address j i = joined (half_row Lvs).word (index_field_text j) (listed_fields 16 address) refl (index_plain j) (listed_plain 16 address)
half_text_plain Lx address j i = with_fields Lx address j i
half_text_plain Lv address j i = with_fields Lv address j i
half_text_plain Lc address j i = with_fields Lc address j i
half_text_plain Lr address j i = with_fields Lr address j i
half_text_plain Sx address j i = with_fields Sx address j i
half_text_plain Sv address j i = with_fields Sv address j i
half_text_plain Sc address j i = with_fields Sc address j i
half_text_plain Sr address j i = with_fields Sr address j i
half_text_plain Sva address j i = with_fields Sva address j i
half_text_plain VPlus address j i = with_fields VPlus address j i
half_text_plain VPlusC address j i = with_fields VPlusC address j i
half_text_plain Kv address j i = with_fields Kv address j i
half_text_plain Lvi address j i = with_fields Lvi address j i
half_text_plain Lci address j i = with_fields Lci address j i
half_text_plain Lri address j i = with_fields Lri address j i
half_text_plain VPlusI address j i = with_fields VPlusI address j i
half_text_plain VMinusI address j i = with_fields VMinusI address j i
half_text_plain VPlusIC address j i = with_fields VPlusIC address j i
half_text_plain VPlusICR address j i = with_fields VPlusICR address j i
half_text_plain Kvi address j i = with_fields Kvi address j i
half_text_plain Kc address j i = with_fields Kc address j i
half_text_plain Kci address j i = with_fields Kci address j i
half_text_plain Cb address j i = with_fields Cb address j i
half_text_plain Cbr address j i = with_fields Cbr address j i

branch_text_plain : (op : BranchOp) (address i : ℕ) → IsPlain (branch_text op address i)
branch_text_plain Bew address i = refl
branch_text_plain Nop address i = refl
branch_text_plain B address i = join (branch_row B).word (half_field address i) refl (half_field_plain address i)
branch_text_plain Br address i = join (branch_row Br).word (half_field address i) refl (half_field_plain address i)
branch_text_plain Be address i = join (branch_row Be).word (half_field address i) refl (half_field_plain address i)
branch_text_plain Bd address i = join (branch_row Bd).word (half_field address i) refl (half_field_plain address i)

text_plain : (instr : Instr) → IsPlain (instruction_text instr)
unfolding instruction_text
text_plain (Half op address j i) = half_text_plain op address j i
text_plain (Branch op address i) = branch_text_plain op address i
text_plain (Floating number address i) = refl
text_plain (Vfl op d u negated p bits byte offset address i) =
    join ((vfl_row op).word ++ negation negated ++ description d u bits byte) (operand_text p address i offset)
    (joined (vfl_row op).word (negation negated) (description d u bits byte) (field_plain op) (negation_plain negated) (description_plain d u bits byte))
    (operand_plain p address i offset)
text_plain (Connect kind truth p bits byte offset address i) =
    join ((conn_row kind).word ++ truth_digits truth ++ description false true bits byte) (operand_text p address i offset)
    (joined (conn_row kind).word (truth_digits truth) (description false true bits byte) (kind_plain kind) (truth_plain truth) (description_plain false true bits byte))
    (operand_plain p address i offset)
text_plain (Move swap address i second count) =
    join (move_name swap ++ bit_field address i ++ second_field second) (number_field count)
    (joined (move_name swap) (bit_field address i) (second_field second) (move_plain swap) (bit_field_plain address i) (second_plain second))
    (number_field_plain count)
text_plain (BitBranch sense change address i second) =
    join (codes "BB" ++ flag sense ++ change_name change ++ bit_field address i) (second_field second)
    (join (codes "BB" ++ flag sense ++ change_name change) (bit_field address i)
    (joined (codes "BB") (flag sense) (change_name change) refl (flag_plain sense) (change_plain change)) (bit_field_plain address i))
    (second_plain second)
text_plain (IndBranch sense off address i second) =
    join (codes "BI" ++ flag sense ++ turning off ++ bit_field address i) (second_field second)
    (join (codes "BI" ++ flag sense ++ turning off) (bit_field address i)
    (joined (codes "BI") (flag sense) (turning off) refl (flag_plain sense) (turning_plain off)) (bit_field_plain address i))
    (second_plain second)
text_plain (StoreCounter address i second) =
    joined (codes "SIC") (bit_field address i) (second_field second) refl (bit_field_plain address i) (second_plain second)
text_plain (Transfer write address i count) =
    joined (order_name write) (bit_field address i) (number_field count) (order_plain write) (bit_field_plain address i) (number_field_plain count)
text_plain (Invalid first second full) = refl

-- ---- words

-- a spelling, if there is one, is printable
abbrev SpellsPlain : Option (List ℕ) → Type 0
SpellsPlain None = Unit {0}
SpellsPlain (Some text) = IsPlain text

where_it_is : (b : Bool) (text : List ℕ) → IsPlain text → SpellsPlain (if b then Some text else None)
where_it_is true text p = p
where_it_is false text p = tt

spelled : (instr : Instr) (wanted : EmittedBits) → SpellsPlain (spelling_of instr wanted)
unfolding spelling_of
spelled instr wanted = where_it_is (is_valid instr && says (instruction_text instr) wanted) (instruction_text instr) (text_plain instr)

word_spelled : (left right : ℕ) → SpellsPlain (word_spelling left right)
word_spelled left right =
    let wanted : EmittedBits = record { length = 64; bits = left * 2 ^ 32 + right } in
    elim (is_full left) as (λ b. SpellsPlain (if b then spelling_of (instruction_of left right) wanted else None)) [
      | true ↦ spelled (instruction_of left right) wanted
      | false ↦ tt
    ]

half_spelled : (half : ℕ) → SpellsPlain (half_spelling half)
half_spelled half =
    let wanted : EmittedBits = record { length = 32; bits = half } in
    elim (is_full half) as (λ b. SpellsPlain (if b then None else spelling_of (instruction_of half 0) wanted)) [
      | true ↦ tt
      | false ↦ spelled (instruction_of half 0) wanted
    ]

one : (t : List ℕ) → IsPlain t → All IsPlain (t ∷ [])
one t p = All-cons IsPlain t [] p (All-nil IsPlain)

number_plain : (word : ℕ) → IsPlain (number_text word)
number_plain word = join (codes "DD(BU,64),") (decimal word) refl (number word)

statements_by_plain : (word : ℕ) (whole left right : Option (List ℕ)) → SpellsPlain whole → SpellsPlain left → SpellsPlain right → All IsPlain (statements_by word whole left right)
statements_by_plain word (Some whole) left right p q r = one whole p
statements_by_plain word None (Some left) (Some right) p q r = All-cons IsPlain left (right ∷ []) q (one right r)
statements_by_plain word None (Some left) None p q r = one (number_text word) (number_plain word)
statements_by_plain word None None right p q r = one (number_text word) (number_plain word)

statements_plain : (word : ℕ) → All IsPlain (statements_of word)
unfolding statements_of
statements_plain word =
    let left = word / 2 ^ 32 in
    let right = word % 2 ^ 32 in
    statements_by_plain word (word_spelling left right) (half_spelling left) (half_spelling right)
    (word_spelled left right) (half_spelled left) (half_spelled right)

-- ---- cards

-- a printable card whose column 1 is blank or has the mark of a control card
pub record IsWritten (card : List ℕ) : Type 0 where
  pub plain : IsPlain card
  pub column : is_column_1 (first_column card) ≡ true

pub card_plain : (text : List ℕ) → IsPlain text → IsWritten (statement_card text)
card_plain text p = record { plain = p; column = refl }

pub control_plain : (text : List ℕ) → IsPlain text → IsWritten (47 ∷ text)
control_plain text p = record { plain = p; column = refl }

only : (card : List ℕ) → IsWritten card → All IsWritten (card ∷ [])
only card p = All-cons IsWritten card [] p (All-nil IsWritten)

pub cards_plain : (texts : List (List ℕ)) → All IsPlain texts → All IsWritten (map statement_card texts)
cards_plain [] p = All-nil IsWritten
cards_plain (t ∷ ts) p =
    All-cons IsWritten (statement_card t) (map statement_card ts) (card_plain t (All-head IsPlain t ts p)) (cards_plain ts (All-tail IsPlain t ts p))

if_first : (b : Bool) (cards : List (List ℕ)) → All IsWritten cards → All IsWritten (if b then cards else [])
if_first true cards p = p
if_first false cards p = All-nil IsWritten

where_not : (b : Bool) (cards : List (List ℕ)) → All IsWritten cards → All IsWritten (if b then [] else cards)
where_not true cards p = All-nil IsWritten
where_not false cards p = p

location_plain : (w before : ℕ) → All IsWritten (location_cards w before)
location_plain w before =
    let card = statement_card (location_statement w) in
    if_first (before == 0) (card ∷ []) (only card (card_plain (location_statement w) (joined (codes "SLC,") (decimal w) (codes ".0") refl (number w) refl)))

placed_plain : (w before word : ℕ) → All IsWritten (cards_of_word w before word)
unfolding cards_of_word
placed_plain w before word =
    where_not (word == 0) (location_cards w before ++ map statement_card (statements_of word))
    (All-append IsWritten (location_cards w before) (map statement_card (statements_of word)) (location_plain w before) (cards_plain (statements_of word) (statements_plain word)))

word_cards_plain : (w before : ℕ) (xs : List ℕ) → All IsWritten (word_cards w before xs)
word_cards_plain w before [] = All-nil IsWritten
word_cards_plain w before (x ∷ xs) =
    All-append IsWritten (cards_of_word w before x) (word_cards (w + 1) x xs) (placed_plain w before x) (word_cards_plain (w + 1) x xs)

two_numbers : (word : List ℕ) (a b : ℕ) → IsPlain word → IsPlain (word ++ decimal a ++ codes " " ++ decimal b)
two_numbers word a b p =
    join (word ++ decimal a ++ codes " ") (decimal b) (joined word (decimal a) (codes " ") p (number a) refl) (number b)

-- the word of a keyword is printable
word_plain : (keyword : Keyword) → IsPlain (word keyword Card)
word_plain keyword = grind arith

spaced_plain : (keyword : Keyword) → IsPlain (word keyword Card ++ codes " ")
spaced_plain keyword = join (word keyword Card) (codes " ") (word_plain keyword) refl

labelled_plain : (keyword : Keyword) (n : ℕ) → IsWritten (keyword_text Card keyword ++ codes " " ++ decimal n)
labelled_plain keyword n =
    let front = word keyword Card ++ codes " " in
    control_plain (front ++ decimal n) (join front (decimal n) (spaced_plain keyword) (number n))

-- each control card is printable
card_written : (c : Control) → IsWritten (control_line Card c)
unfolding control_line
card_written (asks.Mark mark) = control_plain (word (keywords.Mark mark) Card) (word_plain (keywords.Mark mark))
card_written (asks.Once once n) = labelled_plain (keywords.Once once) n
card_written (asks.Number keyword n) = labelled_plain (keywords.Number keyword) n
card_written (asks.Pair pair a b) =
    let front = word (keywords.Pair pair) Card ++ codes " " in
    control_plain (front ++ decimal a ++ codes " " ++ decimal b) (two_numbers front a b (spaced_plain (keywords.Pair pair)))

pub controls_plain : (a : Asked) → All IsWritten (control_cards a)
controls_plain a = mapped (requests a)
  where
    mapped : (cs : List Control) → All IsWritten (map (control_line Card) cs)
    mapped [] = All-nil IsWritten
    mapped (c ∷ cs) = All-cons IsWritten (control_line Card c) (map (control_line Card) cs) (card_written c) (mapped cs)

-- each card of a deck is printable
pub deck_written : (p : Program) → All IsWritten (deck_cards p)
deck_written p =
    let words = word_cards 0 0 p.words in
    let end : List (List ℕ) = statement_card (end_text p.start) ∷ [] in
    let a = p.controls in
    All-append IsWritten (words ++ end) (control_cards a)
    (All-append IsWritten words end (word_cards_plain 0 0 p.words)
    (only (statement_card (end_text p.start)) (card_plain (end_text p.start) (join (codes "END,") (half_address p.start) refl (half_address_plain p.start)))))
    (controls_plain a)

-- printable cards are texts of blanks and visible characters
plain_ones : (cards : List (List ℕ)) → All IsWritten cards → All IsPlain cards
plain_ones [] p = All-nil IsPlain
plain_ones (card ∷ cards) p =
    All-cons IsPlain card cards (All-head IsWritten card cards p).plain (plain_ones cards (All-tail IsWritten card cards p))

pub deck_plain : (p : Program) → All IsPlain (deck_cards p)
deck_plain p = plain_ones (deck_cards p) (deck_written p)

-- ---- lines

lacking : (text : List ℕ) → IsPlain text → lacks 10 text ≡ true
lacking [] p = refl
lacking (c ∷ cs) p =
    let parts = and_parts (is_plain c) (list_all is_plain cs) p in
    let other : not (c == 10) ≡ true = grind (arith, nat_tests, parts.0) in
    and_from (not (c == 10)) (lacks 10 cs) other (lacking cs parts.1)

pub pieces : (cards : List (List ℕ)) → All IsWritten cards → pieces_of 10 (text_of_lines cards) ≡ cards ++ [] ∷ []
pieces [] p = refl
pieces (card ∷ cards) p =
    ap (λ (s : List ℕ). pieces_of 10 s) (append_assoc card (10 ∷ []) (text_of_lines cards))
    ∙ (parted_line card (text_of_lines cards) (lacking card (All-head IsWritten card cards p).plain)
    ∙ ap (λ (more : List (List ℕ)). card ∷ more) (pieces cards (All-tail IsWritten card cards p)))

-- the pieces of a deck between its line ends are its cards
pub deck_pieces : (p : Program) → pieces_of 10 (deck_text p) ≡ deck_cards p ++ [] ∷ []
unfolding deck_text
deck_pieces p = pieces (deck_cards p) (deck_written p)
