-- The results of the later passes of the assembler on the cards up to END, and on those after it, which have no effect.
use Rattle.st_top.proofs.Common.{◌≡◌, ℕ, Bool, List, [], ◌∷◌, ◌++◌, length, map, refl, sym, ◌∙◌, ap, append_assoc, append-nil, arith, Option, None, zip, filter_map, length-map, filter_map-append, Fault, Refusal, onward, pass, pass_then, silent_line, table, has_name, names_of, Named, naming_at_start, name_fault, name_step, name_card, name_pass, Emitted, emitting_at_start, value_card, value_pass, Symbol, Listed, name_pass-counts, value_pass-numbers}
use Rattle.std.proofs.Common.{Result, Ok, Err}

-- the type of a value
abbrev type_of : {X : Type 0} → X → Type 0
type_of {X} x = X

-- a card as the form pass reads it
abbrev pub ReadCard : Type 0
ReadCard = type_of (silent_line 0)

-- ---- passes

-- two results in sequence, both of them good
pub record ComesNext {A B : Type 0} (next : A → Result B Refusal) (r : Result A Refusal) (b : B) : Type 0 where
  pub first : A
  pub is : r ≡ Ok first
  pub last : next first ≡ Ok b

pub and_then-ok : {A B : Type 0} (next : A → Result B Refusal) (r : Result A Refusal) (b : B) → pass_then r next ≡ Ok b → ComesNext next r b
and_then-ok next (Ok a) b h = record { first = a; is = refl; last = h }
and_then-ok next (Err e) b h = let no : ⊥ = cc in absurd no

-- a good card, after which the pass continues
pub record GoesOn {S T : Type 0} (rest : S → Result T Refusal) (r : Result S Fault) (t : T) : Type 0 where
  pub state : S
  pub good : r ≡ Ok state
  pub next : rest state ≡ Ok t

pub onward-ok : {S T : Type 0} (rest : S → Result T Refusal) (card : ℕ) (r : Result S Fault) (t : T) → onward rest card r ≡ Ok t → GoesOn rest r t
onward-ok rest card (Ok s) t h = record { state = s; good = refl; next = h }
onward-ok rest card (Err f) t h = let no : ⊥ = cc in absurd no

pub onward-same : {S T : Type 0} (f g : S → Result T Refusal) (n : ℕ) (r : Result S Fault) → ((s : S) → f s ≡ g s) → onward f n r ≡ onward g n r
onward-same f g n (Ok s) same = same s
onward-same f g n (Err e) same = refl

onward-then : {S T U : Type 0} (f : S → Result U Refusal) (g : S → Result T Refusal) (k : T → Result U Refusal) (n : ℕ) (r : Result S Fault)
    → ((s : S) → f s ≡ pass_then (g s) k) → onward f n r ≡ pass_then (onward g n r) k
onward-then f g k n (Ok s) same = same s
onward-then f g k n (Err e) same = refl

-- a pass over a list followed by another list
pub pass-append : {S X : Type 0} (next : S → X → Result S Fault) (number : X → ℕ) (from : S) (xs ys : List X)
    → pass next number from (xs ++ ys) ≡ pass_then (pass next number from xs) (λ s. pass next number s ys)
pass-append next number from [] ys = refl
pass-append next number from (x ∷ xs) ys =
    onward-then (λ s. pass next number s (xs ++ ys)) (λ s. pass next number s xs) (λ s. pass next number s ys) (number x) (next from x)
    (λ s. pass-append next number s xs ys)

-- ---- cards without statements

-- the lines of cards without statements, given their numbers
abbrev pub quiet : List ℕ → List ReadCard
quiet ns = map silent_line ns

no-names : (ns : List ℕ) → names_of (quiet ns) ≡ []
unfolding names_of
no-names [] = refl
no-names (n ∷ ns) = no-names ns

names-same : (lines : List ReadCard) (ns : List ℕ) → names_of (lines ++ quiet ns) ≡ names_of lines
unfolding names_of
names-same lines ns =
    filter_map-append (λ (line : ReadCard). line.name) lines (quiet ns)
    ∙ ap (λ names. filter_map (λ (line : ReadCard). line.name) lines ++ names) (no-names ns)
    ∙ append-nil (filter_map (λ (line : ReadCard). line.name) lines)

-- no place for each of these cards
abbrev pub no_places : List ℕ → List (Option ℕ)
no_places ns = map (λ n. None) ns

-- the result of the name pass with more places
abbrev pub with_places : Named → List (Option ℕ) → Named
with_places named places = record { location = named.location; symbols = named.symbols; places = named.places ++ places }

name-silent : (on_cards : List ℕ → Bool) (named : Named) (n : ℕ) → name_card on_cards named (silent_line n) ≡ Ok (with_places named (None ∷ []))
unfolding name_card name_fault name_step
name-silent on_cards named n = ap (λ (ss : List Symbol). Ok (record { location = named.location; symbols = ss; places = named.places ++ None ∷ [] })) (append-nil named.symbols)

name-quiet : (on_cards : List ℕ → Bool) (named : Named) (ns : List ℕ)
    → pass (name_card on_cards) (λ line. line.card) named (quiet ns) ≡ Ok (with_places named (no_places ns))
name-quiet on_cards named [] = ap (λ ps. Ok (record { location = named.location; symbols = named.symbols; places = ps })) (sym (append-nil named.places))
name-quiet on_cards named (n ∷ ns) =
    ap (λ r. onward (λ s. pass (name_card on_cards) (λ line. line.card) s (quiet ns)) n r) (name-silent on_cards named n)
    ∙ name-quiet on_cards (with_places named (None ∷ [])) ns
    ∙ ap (λ ps. Ok (record { location = named.location; symbols = named.symbols; places = ps })) (append_assoc named.places (None ∷ []) (no_places ns))

pub names-parted : (lines : List ReadCard) (ns : List ℕ)
    → name_pass (lines ++ quiet ns) ≡ pass_then (name_pass lines) (λ named. Ok (with_places named (no_places ns)))
unfolding name_pass
names-parted lines ns =
    ap (λ names. pass (name_card (has_name names)) (λ line. line.card) naming_at_start (lines ++ quiet ns)) (names-same lines ns)
    ∙ pass-append (name_card (has_name (names_of lines))) (λ line. line.card) naming_at_start lines (quiet ns)
    ∙ then-same (pass (name_card (has_name (names_of lines))) (λ line. line.card) naming_at_start lines) where
      then-same : (r : Result Named Refusal) → pass_then r (λ s. pass (name_card (has_name (names_of lines))) (λ line. line.card) s (quiet ns))
          ≡ pass_then r (λ named. Ok (with_places named (no_places ns)))
      then-same (Ok named) = name-quiet (has_name (names_of lines)) named ns
      then-same (Err e) = refl

-- the row of a card without a statement
abbrev pub quiet_row : ℕ → Listed
quiet_row n = record { card = n; location = None; bits = 0; length = 0 }

abbrev pub quiet_rows : List ℕ → List Listed
quiet_rows ns = map quiet_row ns

-- the result of the value pass with more rows
abbrev pub with_rows : Emitted → List Listed → Emitted
with_rows emitted rows = record { image = emitted.image; start = emitted.start; rows = emitted.rows ++ rows }

-- cards without statements, each with its place
abbrev quiet_pairs : List ℕ → List (ReadCard × Option ℕ)
quiet_pairs ns = map (λ n. (silent_line n, None)) ns

value-silent : (symbols : List (List ℕ × ℕ)) (emitted : Emitted) (n : ℕ) → value_card symbols emitted (silent_line n, None) ≡ Ok (with_rows emitted (quiet_row n ∷ []))
unfolding value_card
value-silent symbols emitted n = refl

value-quiet : (symbols : List (List ℕ × ℕ)) (emitted : Emitted) (ns : List ℕ)
    → pass (value_card symbols) (λ p. p.0.card) emitted (quiet_pairs ns) ≡ Ok (with_rows emitted (quiet_rows ns))
value-quiet symbols emitted [] = ap (λ rows. Ok (record { image = emitted.image; start = emitted.start; rows = rows })) (sym (append-nil emitted.rows))
value-quiet symbols emitted (n ∷ ns) =
    ap (λ r. onward (λ s. pass (value_card symbols) (λ p. p.0.card) s (quiet_pairs ns)) n r) (value-silent symbols emitted n)
    ∙ value-quiet symbols (with_rows emitted (quiet_row n ∷ [])) ns
    ∙ ap (λ rows. Ok (record { image = emitted.image; start = emitted.start; rows = rows })) (append_assoc emitted.rows (quiet_row n ∷ []) (quiet_rows ns))

quiet-zipped : (ns : List ℕ) → zip (quiet ns) (no_places ns) ≡ quiet_pairs ns
quiet-zipped [] = refl
quiet-zipped (n ∷ ns) = ap (λ rest. (silent_line n, None) ∷ rest) (quiet-zipped ns)

zipped-apart : (lines : List ReadCard) (places : List (Option ℕ)) (ns : List ℕ) → length places ≡ length lines
    → zip (lines ++ quiet ns) (places ++ no_places ns) ≡ zip lines places ++ quiet_pairs ns
zipped-apart [] [] ns same = quiet-zipped ns
zipped-apart [] (p ∷ ps) ns same = let no : ⊥ = omega arith in absurd no
zipped-apart (l ∷ ls) [] ns same = let no : ⊥ = omega arith in absurd no
zipped-apart (l ∷ ls) (p ∷ ps) ns same = ap (λ rest. (l, p) ∷ rest) (zipped-apart ls ps ns (omega arith))

pub values-parted : (symbols : List (List ℕ × ℕ)) (lines : List ReadCard) (places : List (Option ℕ)) (ns : List ℕ) → length places ≡ length lines
    → value_pass symbols (lines ++ quiet ns) (places ++ no_places ns)
    ≡ pass_then (value_pass symbols lines places) (λ emitted. Ok (with_rows emitted (quiet_rows ns)))
unfolding value_pass
values-parted symbols lines places ns same =
    ap (λ ps. pass (value_card symbols) (λ p. p.0.card) emitting_at_start ps) (zipped-apart lines places ns same)
    ∙ pass-append (value_card symbols) (λ p. p.0.card) emitting_at_start (zip lines places) (quiet_pairs ns)
    ∙ then-same (pass (value_card symbols) (λ p. p.0.card) emitting_at_start (zip lines places)) where
      then-same : (r : Result Emitted Refusal) → pass_then r (λ s. pass (value_card symbols) (λ p. p.0.card) s (quiet_pairs ns))
          ≡ pass_then r (λ emitted. Ok (with_rows emitted (quiet_rows ns)))
      then-same (Ok emitted) = value-quiet symbols emitted ns
      then-same (Err e) = refl

-- ---- both later passes

-- the results of the name and value passes on some lines, and with cards without statements after them
pub record Parts (lines : List ReadCard) (ns : List ℕ) (all : Named) (whole : Emitted) : Type 0 where
  pub named : Named
  pub emitted : Emitted
  pub names : name_pass lines ≡ Ok named
  pub values : value_pass (table named.symbols) lines named.places ≡ Ok emitted
  pub symbols : all.symbols ≡ named.symbols
  pub image : whole.image ≡ emitted.image
  pub start : whole.start ≡ emitted.start
  pub rows : whole.rows ≡ emitted.rows ++ quiet_rows ns
  pub count : length emitted.rows ≡ length lines

pub passes-parted : (lines : List ReadCard) (ns : List ℕ) (all : Named) (whole : Emitted) → name_pass (lines ++ quiet ns) ≡ Ok all
    → value_pass (table all.symbols) (lines ++ quiet ns) all.places ≡ Ok whole → Parts lines ns all whole
passes-parted lines ns all whole has_names has_values =
    let n = and_then-ok (λ named. Ok (with_places named (no_places ns))) (name_pass lines) all (sym (names-parted lines ns) ∙ has_names) in
    let is : with_places n.first (no_places ns) ≡ all = cc in
    let counted = name_pass-counts lines n.first n.is in
    let at : value_pass (table n.first.symbols) (lines ++ quiet ns) (n.first.places ++ no_places ns) ≡ Ok whole =
    ap (λ (m : Named). value_pass (table m.symbols) (lines ++ quiet ns) m.places) is ∙ has_values in
    let v = and_then-ok (λ emitted. Ok (with_rows emitted (quiet_rows ns))) (value_pass (table n.first.symbols) lines n.first.places) whole
    (sym (values-parted (table n.first.symbols) lines n.first.places ns counted) ∙ at) in
    let so : with_rows v.first (quiet_rows ns) ≡ whole = cc in
    record {
      named = n.first;
      emitted = v.first;
      names = n.is;
      values = v.is;
      symbols = ap (λ (m : Named). m.symbols) (sym is);
      image = ap (λ (l : Emitted). l.image) (sym so);
      start = ap (λ (l : Emitted). l.start) (sym so);
      rows = ap (λ (l : Emitted). l.rows) (sym so);
      count = sym (length-map v.first.rows (λ (row : Listed). row.card))
          ∙ ap length (value_pass-numbers (table n.first.symbols) lines n.first.places v.first v.is counted)
          ∙ length-map lines (λ (line : ReadCard). line.card);
    }
