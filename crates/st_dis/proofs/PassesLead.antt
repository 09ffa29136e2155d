-- The name pass and the value pass over statements that lead from one state to another.
use Rattle.st_dis.proofs.Common.{◌≡◌, ℕ, zero, suc, ◌+◌, Bool, true, false, not, List, [], ◌∷◌, ◌++◌, length, Option, None, Some, Ok, if◌then◌else◌, refl, ap, sym, ◌∙◌, append_assoc, append-nil, subst, replicate, zip, first_fault, NameTwice, UndefinedSymbol, SymbolNotEarlier, TooManyNames, words_of_storage, Statement, Program, IsProgram, AreWords, pass, onward, unless_faulty, silent_line, saying, table, accepts_all, has_name, is_defined, names_of, values_of, placing_of, length_in, needs_earlier, Named, naming_at_start, is_earlier, name_fault, name_step, name_card, name_pass, is_end, half_word_bits, bits_of, Emitted, with_emitted, value_statement, value_card, value_pass}
use Rattle.st_asm.specs.declared.valuing.Listed.{Listed}
use Rattle.st_dis.proofs.Said.{ReadCard, deck_statements, AreRead, spoken_lines, silent_lines}
use Rattle.st_dis.proofs.StatementSteps.{Stand, stand, Steps, place_at}
use Rattle.st_dis.proofs.WordsLead.{Leads, deck-leads}

-- the result of the name pass at a state if no names are defined
abbrev pub named_at : Stand → List (Option ℕ) → Named
named_at here places = record { location = here.location; symbols = []; places = places }

abbrev pub emitted_at : Stand → List Listed → Emitted
emitted_at here rows = record { image = here.image; start = here.start; rows = rows }

-- both passes lead from one state to another over lines
pub record Passed (lines : List ReadCard) (here there : Stand) : Type 0 where
  pub places : List (Option ℕ)
  pub names : (before : List (Option ℕ)) → pass (name_card (has_name [])) (λ line. line.card) (named_at here before) lines
      ≡ Ok (named_at there (before ++ places))
  pub rows : List Listed
  pub values : (before : List Listed) → pass (value_card []) (λ p. p.0.card) (emitted_at here before) (zip lines places)
      ≡ Ok (emitted_at there (before ++ rows))

-- the names of a card without a name are defined earlier, as there are none
earlier : (s : Statement) → accepts_all (is_defined []) s ≡ true → is_earlier [] (Some s) ≡ true
earlier s known = by_role (needs_earlier (placing_of s))
  where
    by_role : (b : Bool) → (if b then accepts_all (is_defined []) s else true) ≡ true
    by_role true = known
    by_role false = refl

no_fault : (a b : Bool) → a ≡ true → b ≡ true →
    first_fault ((false, NameTwice) ∷ (not a, UndefinedSymbol) ∷ (not b, SymbolNotEarlier) ∷ (false, TooManyNames) ∷ []) ≡ None
no_fault a b first second = rw (first, second)

no-name_fault : (here : Stand) (places : List (Option ℕ)) (n : ℕ) (s : Statement) → accepts_all (is_defined []) s ≡ true →
    name_fault (has_name []) (named_at here places) (saying n None s) ≡ None
unfolding name_fault
no-name_fault here places n s known =
    no_fault (accepts_all (has_name []) s) (is_earlier [] (Some s)) known (earlier s known)

step-named : (here there : Stand) (places : List (Option ℕ)) (n : ℕ) (s : Statement) → Steps s here there →
    name_step (named_at here places) (saying n None s) ≡ named_at there (places ++ place_at here s ∷ [])
unfolding name_step
step-named here there places n s steps =
    ap (λ a. record { location = a; symbols = []; places = places ++ place_at here s ∷ [] }) steps.location

spoken-named : (here there : Stand) (places : List (Option ℕ)) (n : ℕ) (s : Statement) → Steps s here there →
    name_card (has_name []) (named_at here places) (saying n None s) ≡ Ok (named_at there (places ++ place_at here s ∷ []))
unfolding name_card
spoken-named here there places n s steps =
    ap (λ o. unless_faulty o (Ok (name_step (named_at here places) (saying n None s)))) (no-name_fault here places n s steps.known)
    ∙ ap (λ k. Ok k) (step-named here there places n s steps)

-- the listing's row of a card
abbrev row_at : Stand → ℕ → Statement → Listed
row_at here n s = record {
  card = n;
  location = place_at here s;
  bits = bits_of s (values_of [] s);
  length = length_in (placing_of s);
}

spoken-emitted : (here there : Stand) (rows : List Listed) (n : ℕ) (s : Statement) → Steps s here there →
    value_card [] (emitted_at here rows) (saying n None s, place_at here s) ≡ Ok (emitted_at there (rows ++ row_at here n s ∷ []))
unfolding value_card value_statement
spoken-emitted here there rows n s steps =
    let all = rows ++ row_at here n s ∷ [] in
    ap (λ o. unless_faulty o (Ok (with_emitted (emitted_at here rows) n s (values_of [] s) (place_at here s)))) steps.faultless
    ∙ (ap (λ k. Ok (record { image = k; start = if is_end s then half_word_bits (values_of [] s).first else here.start; rows = all })) steps.image
    ∙ ap (λ k. Ok (record { image = there.image; start = k; rows = all })) steps.start)

-- the name pass over a card without a statement
silent-named : (here : Stand) (places : List (Option ℕ)) (n : ℕ) →
    name_card (has_name []) (named_at here places) (silent_line n) ≡ Ok (named_at here (places ++ None ∷ []))
unfolding name_card name_fault name_step
silent-named here places n = refl

silent-emitted : (here : Stand) (rows : List Listed) (n : ℕ) →
    value_card [] (emitted_at here rows) (silent_line n, None)
    ≡ Ok (emitted_at here (rows ++ record { card = n; location = None; bits = 0; length = 0 } ∷ []))
unfolding value_card
silent-emitted here rows n = refl

-- the passes over no cards, and over one more
none-passed : (here : Stand) → Passed [] here here
none-passed here = record {
  places = [];
  names = λ before. ap (λ k. Ok (named_at here k)) (sym (append-nil before));
  rows = [];
  values = λ before. ap (λ k. Ok (emitted_at here k)) (sym (append-nil before));
}

more-passed : (line : ReadCard) (lines : List ReadCard) (here next there : Stand) (place : Option ℕ) (row : Listed) →
    ((before : List (Option ℕ)) → name_card (has_name []) (named_at here before) line ≡ Ok (named_at next (before ++ place ∷ []))) →
    ((before : List Listed) → value_card [] (emitted_at here before) (line, place) ≡ Ok (emitted_at next (before ++ row ∷ []))) →
    Passed lines next there → Passed (line ∷ lines) here there
more-passed line lines here next there place row named emitted rest = record {
  places = place ∷ rest.places;
  names = λ before.
      ap (λ r. onward (λ s. pass (name_card (has_name [])) (λ l. l.card) s lines) line.card r) (named before)
      ∙ (rest.names (before ++ place ∷ []) ∙ ap (λ k. Ok (named_at there k)) (append_assoc before (place ∷ []) rest.places));
  rows = row ∷ rest.rows;
  values = λ before.
      ap (λ r. onward (λ s. pass (value_card []) (λ p. p.0.card) s (zip lines rest.places)) line.card r) (emitted before)
      ∙ (rest.values (before ++ row ∷ []) ∙ ap (λ k. Ok (emitted_at there k)) (append_assoc before (row ∷ []) rest.rows));
}

silent-passed : (n k : ℕ) (here : Stand) → Passed (silent_lines n k) here here
silent-passed n zero here = none-passed here
silent-passed n (suc k) here =
    more-passed (silent_line n) (silent_lines (n + 1) k) here here here None (record { card = n; location = None; bits = 0; length = 0 })
    (λ before. silent-named here before n) (λ before. silent-emitted here before n) (silent-passed (n + 1) k here)

spoken-passed : (n : ℕ) (ss : List Statement) (rest : List ReadCard) (here next there : Stand) → Leads ss here next →
    Passed rest next there → Passed (spoken_lines n ss ++ rest) here there
spoken-passed n [] rest here next there same passed = subst (λ k. Passed rest k there) (sym same) passed
spoken-passed n (s ∷ ss) rest here next there lead passed =
    more-passed (saying n None s) (spoken_lines (n + 1) ss ++ rest) here lead.0 there (place_at here s) (row_at here n s)
    (λ before. spoken-named here lead.0 before n s lead.1) (λ before. spoken-emitted here lead.0 before n s lead.1)
    (spoken-passed (n + 1) ss rest lead.0 next there lead.2 passed)

-- none of the cards has a name
silent-nameless : (n k : ℕ) → names_of (silent_lines n k) ≡ []
unfolding names_of
silent-nameless n zero = refl
silent-nameless n (suc k) = silent-nameless (n + 1) k

nameless : (n : ℕ) (ss : List Statement) (rest : List ReadCard) → names_of rest ≡ [] → names_of (spoken_lines n ss ++ rest) ≡ []
unfolding names_of
nameless n [] rest none = none
nameless n (s ∷ ss) rest none = nameless (n + 1) ss rest none

-- lines that pass the name pass and the value pass, with these words and this start as the result
pub record GivesProgram (lines : List ReadCard) (words : List ℕ) (start : ℕ) : Type 0 where
  pub named : Named
  pub names : name_pass lines ≡ Ok named
  pub no_symbols : named.symbols ≡ []
  pub emitted : Emitted
  pub values : value_pass (table named.symbols) lines named.places ≡ Ok emitted
  pub image : emitted.image ≡ words
  pub begins : emitted.start ≡ start

passed-gives : (lines : List ReadCard) (words : List ℕ) (start behind : ℕ) → names_of lines ≡ [] →
    Passed lines (stand 2048 (replicate words_of_storage 0) 0) (stand behind words start) → GivesProgram lines words start
unfolding name_pass value_pass
passed-gives lines words start behind none passed =
    let there = stand behind words start in
    record {
      named = named_at there passed.places;
      names = ap (λ (ns : List (List ℕ)). pass (name_card (has_name ns)) (λ line. line.card) naming_at_start lines) none ∙ passed.names [];
      no_symbols = refl;
      emitted = emitted_at there passed.rows;
      values = passed.values [];
      image = refl;
      begins = refl;
    }

-- statements that lead from an empty image to words and a start, followed by cards without
-- statements, have these as the result
pub leads-give : (ss : List Statement) (k : ℕ) (words : List ℕ) (start behind : ℕ) →
    Leads ss (stand 2048 (replicate words_of_storage 0) 0) (stand behind words start) →
    GivesProgram (spoken_lines 1 ss ++ silent_lines (length ss + 1) k) words start
leads-give ss k words start behind lead =
    let there = stand behind words start in
    let silents = silent_lines (length ss + 1) k in
    passed-gives (spoken_lines 1 ss ++ silents) words start behind
    (nameless 1 ss silents (silent-nameless (length ss + 1) k))
    (spoken-passed 1 ss silents (stand 2048 (replicate words_of_storage 0) 0) there there lead (silent-passed (length ss + 1) k there))

-- the statements of a deck result in its program
pub statements-give : (p : Program) (ss : List Statement) (k : ℕ) → IsProgram p → AreWords p.words → AreRead (deck_statements p) ss →
    GivesProgram (spoken_lines 1 ss ++ silent_lines (length ss + 1) k) p.words p.start
statements-give p ss k is words read =
    let lead = deck-leads p ss 2048 is words read in leads-give ss k p.words p.start lead.0 lead.1
