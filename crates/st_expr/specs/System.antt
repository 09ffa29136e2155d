-- The system symbols: words that begin with `$` and have fixed values.
--
-- Proved: by their `ensures` clauses these calls do what definitions here say: `system_value`
-- (system.rt).
-- Read by: definitions in Term.
-- Laws: SymbolsAgree (specs/Laws.antt of st_laws).
-- Change: the meaning is fixed by docs/strap.md, since the contracts of `st_top::stretch` and
-- `st_account::ledger` unfold to a definition here. The form is free, with the proofs that unfold
-- it.
use Rattle.std.specs.Prelude.{ℕ, ◌+◌, ◌*◌, List, [], ◌∷◌, ◌++◌, codes}
use Rattle.st_bits.specs.declared.register.TheConstants.{ZERO, INTERRUPT_ADDRESS, BOUNDS, COUNTS, LEFT_HALF, RIGHT_HALF, SIGN_BYTE, INDICATORS, MASK, REMAINDER, FACTOR, TRANSIT, FIRST_INDEX_WORD}

-- the bit address of bit b of word w
abbrev pub bit : ℕ → ℕ → ℕ
bit w b = 64 * w + b

-- the symbols of consecutive numbers from n on, each with the bit address of its number
abbrev pub symbols_from : (ℕ → ℕ) → ℕ → List (List ℕ) → List (List ℕ × ℕ)
symbols_from place n [] = []
symbols_from place n (name ∷ names) = (name, place n) ∷ symbols_from place (n + 1) names

-- the system symbols of parts of register words, each with its bit address
abbrev pub registers : List (List ℕ × ℕ)
registers =
    (codes "$Z", bit ZERO 0) ∷ (codes "$IA", bit INTERRUPT_ADDRESS 0) ∷ (codes "$UB", bit BOUNDS 0)
    ∷ (codes "$LB", bit BOUNDS 32) ∷ (codes "$BC", bit BOUNDS 57) ∷ (codes "$LZC", bit COUNTS 17)
    ∷ (codes "$AOC", bit COUNTS 44) ∷ (codes "$L", bit LEFT_HALF 0) ∷ (codes "$R", bit RIGHT_HALF 0)
    ∷ (codes "$SB", bit SIGN_BYTE 0) ∷ (codes "$IND", bit INDICATORS 0)
    ∷ (codes "$MASK", bit MASK 0) ∷ (codes "$RM", bit REMAINDER 0) ∷ (codes "$FT", bit FACTOR 0)
    ∷ (codes "$TR", bit TRANSIT 0) ∷ []

-- the system symbols of the index words, each with its bit address
abbrev pub index_word_names : List (List ℕ × ℕ)
index_word_names =
    symbols_from (λ j. bit (FIRST_INDEX_WORD + j) 0) 0 (codes "$X0" ∷ codes "$X1" ∷ codes "$X2"
    ∷ codes "$X3" ∷ codes "$X4" ∷ codes "$X5" ∷ codes "$X6" ∷ codes "$X7" ∷ codes "$X8"
    ∷ codes "$X9" ∷ codes "$X10" ∷ codes "$X11" ∷ codes "$X12" ∷ codes "$X13" ∷ codes "$X14"
    ∷ codes "$X15" ∷ [])

-- the system symbols of the indicators, each with its bit address
abbrev pub indicator_symbols : List (List ℕ × ℕ)
indicator_symbols =
    symbols_from (bit INDICATORS) 0 (codes "$MK" ∷ codes "$IK" ∷ codes "$IJ" ∷ codes "$EK"
    ∷ codes "$TS" ∷ codes "$CPUS" ∷ codes "$EKJ" ∷ codes "$UNRJ" ∷ codes "$CBJ" ∷ codes "$EPGK"
    ∷ codes "$UK" ∷ codes "$EE" ∷ codes "$EOP" ∷ codes "$CS" ∷ [])
    ++ symbols_from (bit INDICATORS) 15 (codes "$OP" ∷ codes "$AD" ∷ codes "$USA" ∷ codes "$EXE"
    ∷ codes "$DS" ∷ codes "$DF" ∷ codes "$IF" ∷ codes "$LC" ∷ codes "$PF" ∷ codes "$ZD" ∷ [])
    ++ symbols_from (bit INDICATORS) 35 (codes "$TF" ∷ codes "$UF" ∷ codes "$VF" ∷ codes "$XF"
    ∷ codes "$BTR" ∷ codes "$DTR" ∷ codes "$PG0" ∷ codes "$PG1" ∷ codes "$PG2" ∷ codes "$PG3"
    ∷ codes "$PG4" ∷ codes "$PG5" ∷ codes "$PG6" ∷ codes "$XCZ" ∷ codes "$XVLZ" ∷ codes "$XVZ"
    ∷ codes "$XVGZ" ∷ codes "$XL" ∷ codes "$XE" ∷ codes "$XH" ∷ codes "$MOP" ∷ codes "$RLZ"
    ∷ codes "$RZ" ∷ codes "$RGZ" ∷ codes "$RN" ∷ codes "$AL" ∷ codes "$AE" ∷ codes "$AH" ∷ [])

-- all system symbols, each with its value, a bit address
unfoldable pub system_symbols : List (List ℕ × ℕ)
system_symbols = registers ++ index_word_names ++ indicator_symbols
