-- The operations by their mnemonics.
--
-- Proved: by their `ensures` clauses these calls do what definitions here say: `listed_operation`
-- (operations.rt), `connective` (operations.rt), `field_operation` (operations.rt),
-- `negated_operation` (operations.rt), and others.
-- Read by: definitions in Faults of st_strap, Saying of st_strap.
-- Laws: none names a definition of this file itself.
-- Change: the meaning is fixed by docs/strap.md, since the contracts of `st_top::stretch` and
-- `st_account::ledger` unfold to a definition here. The form is free, with the proofs that unfold
-- it.
use Rattle.std.specs.Prelude.{ℕ, ◌-◌, nat_lt, Bool, true, false, List, [], ◌∷◌, length, take, drop, codes, Option, None, if◌then◌else◌, map}
use Rattle.std.specs.Option.{option_map, option_or, option_zip}
use Rattle.st_text.specs.Bytes.{letter_n}
use Rattle.st_bits.specs.declared.operations.HalfOp.{HalfOp}
use Rattle.st_bits.specs.declared.operations.HalfOp.TheVariants.{Lx, Lv, Lc, Lr, Sx, Sv, Sc, Sr, Sva, VPlus, VPlusC, Kv, Lvs, Lvi, Lci, Lri, VPlusI, VMinusI, VPlusIC, VPlusICR, Kvi, Kc, Kci, Cb, Cbr, R, Ex}
use Rattle.st_bits.specs.declared.operations.BranchOp.TheVariants.{B, Br, Be, Bd, Bew, Nop}
use Rattle.st_bits.specs.declared.operations.VflOp.{VflOp}
use Rattle.st_bits.specs.declared.operations.VflOp.TheVariants.{L, Lwf, Ltrs, Lft, St, Add, AddMg, MAdd, MAddMg, MAdd1, K, Kf, Ke, Kfe, Kr, Kfr, Mul, MulAdd, Div, Lcv}
use Rattle.st_bits.specs.declared.operations.ConnKind.{ConnKind}
use Rattle.st_bits.specs.declared.operations.ConnKind.TheVariants.{C, Cm, Ct}
use Rattle.st_format.specs.Operations.{Row, half_row, branch_row, vfl_row, conn_row}
use Rattle.st_text.specs.Tables.{row_of}
use Rattle.st_mnemonic.specs.Text.{ends_with}
use Rattle.st_mnemonic.specs.declared.operations.Operation.{Operation}
use Rattle.st_mnemonic.specs.declared.operations.Operation.TheVariants.{Half, Sum, Refill, Execute, Branch, Bare, Vfl, Connect, Move, BitBranch, IndBranch, StoreCounter, Transfer, Data, IndexWord, Synonym, SetLocation, Reserve, End}

-- operations, each with the mnemonic of its row
abbrev pub named : {X : Type 0} → (X → Row) → List X → List (List ℕ × X)
named row ops = map (λ op. ((row op).word, op)) ops

-- the operations on an index word and an address, by their mnemonics
unfoldable pub index_operations : List (List ℕ × HalfOp)
index_operations = named half_row (Lx ∷ Lv ∷ Lc ∷ Lr ∷ Sx ∷ Sv ∷ Sc ∷ Sr ∷ Sva ∷ VPlus ∷ VPlusC ∷ Kv
    ∷ Lvi ∷ Lci ∷ Lri ∷ VPlusI ∷ VMinusI ∷ VPlusIC ∷ VPlusICR ∷ Kvi ∷ Kc ∷ Kci ∷ Cb ∷ Cbr ∷ [])

-- the operations on a field, by their mnemonics
unfoldable pub field_operations : List (List ℕ × VflOp)
field_operations = named vfl_row (L ∷ Lwf ∷ Ltrs ∷ Lft ∷ St ∷ Add ∷ AddMg ∷ MAdd ∷ MAddMg ∷ MAdd1
    ∷ K ∷ Kf ∷ Ke ∷ Kfe ∷ Kr ∷ Kfr ∷ Mul ∷ MulAdd ∷ Div ∷ Lcv ∷ [])

-- the other operations except the connectives, by their mnemonics
unfoldable pub other_operations : List (List ℕ × Operation)
other_operations = ((half_row Lvs).word, Sum) ∷ ((half_row R).word, Refill)
    ∷ ((half_row Ex).word, Execute) ∷ ((branch_row B).word, Branch B)
    ∷ ((branch_row Br).word, Branch Br) ∷ ((branch_row Be).word, Branch Be)
    ∷ ((branch_row Bd).word, Branch Bd) ∷ ((branch_row Bew).word, Bare Bew)
    ∷ ((branch_row Nop).word, Bare Nop) ∷ (codes "T", Move false) ∷ (codes "SWAP", Move true)
    ∷ (codes "BB0", BitBranch false 0) ∷ (codes "BB0Z", BitBranch false 1)
    ∷ (codes "BB0S", BitBranch false 2) ∷ (codes "BB0V", BitBranch false 3)
    ∷ (codes "BB1", BitBranch true 0) ∷ (codes "BB1Z", BitBranch true 1)
    ∷ (codes "BB1S", BitBranch true 2) ∷ (codes "BB1V", BitBranch true 3)
    ∷ (codes "BI0", IndBranch false false) ∷ (codes "BI0Z", IndBranch false true)
    ∷ (codes "BI1", IndBranch true false) ∷ (codes "BI1Z", IndBranch true true)
    ∷ (codes "SIC", StoreCounter) ∷ (codes "RD", Transfer false) ∷ (codes "WR", Transfer true)
    ∷ (codes "DD", Data) ∷ (codes "XW", IndexWord) ∷ (codes "SYN", Synonym)
    ∷ (codes "SLC", SetLocation) ∷ (codes "DR", Reserve) ∷ (codes "END", End) ∷ []

-- the kinds of connectives, by the destination of their results
unfoldable pub connective_kinds : List (List ℕ × ConnKind)
connective_kinds = named conn_row (C ∷ Cm ∷ Ct ∷ [])

-- the truth tables, each as its four digits: the results for 00, 01, 10 and 11
unfoldable pub truth_tables : List (List ℕ × ℕ)
truth_tables = (codes "0000", 0) ∷ (codes "0001", 1) ∷ (codes "0010", 2) ∷ (codes "0011", 3)
    ∷ (codes "0100", 4) ∷ (codes "0101", 5) ∷ (codes "0110", 6) ∷ (codes "0111", 7)
    ∷ (codes "1000", 8) ∷ (codes "1001", 9) ∷ (codes "1010", 10) ∷ (codes "1011", 11)
    ∷ (codes "1100", 12) ∷ (codes "1101", 13) ∷ (codes "1110", 14) ∷ (codes "1111", 15) ∷ []

-- the operation on an index word that a mnemonic names
abbrev pub index_operation : List ℕ → Option Operation
index_operation word = option_map (λ op. Half op) (row_of word index_operations)

-- the operation on a field that a mnemonic names, negated or not
abbrev pub field_operation : Bool → List ℕ → Option Operation
field_operation negated word = option_map (λ op. Vfl op negated) (row_of word field_operations)

-- the operation of a mnemonic that ends with N, for negated
unfoldable pub negated_operation : List ℕ → Option Operation
negated_operation word =
    if ends_with letter_n word then field_operation true (take (length word - 1) word) else None

-- the connective of a word: its kind, and from `place` on the digits of its truth table
abbrev pub connective_at : ℕ → List ℕ → Option Operation
connective_at place word =
    option_map (λ p. Connect p.0 p.1) (option_zip (row_of (take place word) connective_kinds)
    (row_of (drop place word) truth_tables))

-- the connective of a word whose last four characters are the digits of its truth table
unfoldable pub connective : List ℕ → Option Operation
connective word = if nat_lt (length word) 4 then None else connective_at (length word - 4) word

-- the operation that a mnemonic names
unfoldable pub operation_of_word : List ℕ → Option Operation
operation_of_word word = option_or (option_or (option_or (option_or (row_of word other_operations)
    (index_operation word)) (field_operation false word)) (negated_operation word))
    (connective word)
