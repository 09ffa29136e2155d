-- Lemmas on lines that are written in sequence.
use Rattle.st_lines.proofs.Common.{Option, Bool, not, if◌then◌else◌, nat_eq, Result, Ok, Err, IsErr, IsOk, ◌≡◌, ◌≢◌, ℕ, zero, suc, ◌+◌, ◌/◌, ◌≤◌, true, false, List, [], ◌∷◌, ◌++◌, length, take, drop, refl, sym, ◌∙◌, ap, subst, append_assoc, arith, nat_tests, append-nil, length-drop, OutputState, Failed, WritesLines, lines_then, lines_cut, wrote_nothing, numbers_text, delays_line, tens_of, delays_lines, dropped_line, begun_line, segment_end_line, prt_line, en_line, facts_lines, Origin, drop_lines, begun_entry_lines, segment_end_lines, differs, en_lines, prints_lines}
use Rattle.std.specs.Prelude.{Some, codes, decimal}
use Rattle.std.proofs.Math.Bool.{beq}
use Rattle.st_plain.specs.declared.looking.Ahead.{Ahead}
use Rattle.st_exch.specs.Printer.{line_of_words}

pub no_lines : (s : OutputState) (o : Unit {0}) → WritesLines s s [] (Ok o)
no_lines s o = record { ok = wrote_nothing s; err = tt }

-- ---- entries that are dropped

drops-first : (by : ℕ → Option Origin) (n tick : ℕ) (found xs : List Ahead) (x : Ahead) → found ≡ x ∷ xs
    → drop_lines by n tick found ≡ (dropped_line n x.plan.place.address x.row ∷ facts_lines n (Some tick) x.plan x.known (by x.plan.place.address) x.uses.items) ++ drop_lines by (n + 1) tick xs
unfolding drop_lines
drops-first by n tick found xs x is = rw is refl

-- the lines of a dropped entry, with the origin of its half-words
abbrev drop_text : ℕ → ℕ → Ahead → Option Origin → List (List ℕ)
drop_text n tick x origin = dropped_line n x.plan.place.address x.row ∷ facts_lines n (Some tick) x.plan x.known origin x.uses.items

pub drops_cut : (by : ℕ → Option Origin) (s u : OutputState) (n tick : ℕ) (found xs : List Ahead) (x : Ahead) (origin : Option Origin) (e : Failed) (r : Result (Unit {0}) Failed)
    → IsErr r → found ≡ x ∷ xs → origin ≡ by x.plan.place.address → WritesLines s u (drop_text n tick x origin) (Err e) → WritesLines s u (drop_lines by n tick found) r
drops_cut by s u n tick found xs x origin e r f is same h =
    subst (λ ls. WritesLines s u ls r) (sym (drops-first by n tick found xs x is))
    (lines_cut s u (drop_text n tick x (by x.plan.place.address)) (drop_lines by (n + 1) tick xs) e r f
    (subst (λ g. WritesLines s u (drop_text n tick x g) (Err e)) same h))

pub drops_then : (by : ℕ → Option Origin) (s v u : OutputState) (n tick : ℕ) (found xs : List Ahead) (x : Ahead) (origin : Option Origin) (o : Unit {0}) (r : Result (Unit {0}) Failed)
    → found ≡ x ∷ xs → origin ≡ by x.plan.place.address → WritesLines s v (drop_text n tick x origin) (Ok o)
    → WritesLines v u (drop_lines by (n + 1) tick xs) r → WritesLines s u (drop_lines by n tick found) r
drops_then by s v u n tick found xs x origin o r is same h k =
    subst (λ ls. WritesLines s u ls r) (sym (drops-first by n tick found xs x is))
    (lines_then s v u (drop_text n tick x (by x.plan.place.address)) (drop_lines by (n + 1) tick xs) o r
    (subst (λ g. WritesLines s v (drop_text n tick x g) (Ok o)) same h) k)

pub drops_none : (by : ℕ → Option Origin) (s : OutputState) (n tick : ℕ) (found : List Ahead) (o : Unit {0}) → found ≡ [] → WritesLines s s (drop_lines by n tick found) (Ok o)
unfolding drop_lines
drops_none by s n tick found o is = rw is (no_lines s o)

-- ---- the end of a segment

pub begun-one : (by : ℕ → Option Origin) (n tick : ℕ) (x : Ahead) → begun_entry_lines by n tick (x ∷ []) ≡ (begun_line n x.plan.place.address x.row ∷ []) ++ facts_lines n (Some tick) x.plan x.known (by x.plan.place.address) x.uses.items
unfolding begun_entry_lines
begun-one by n tick x = refl

pub end-none : (by : ℕ → Option Origin) (k tick n : ℕ) (found begun : List Ahead) → k ≡ 0 → segment_end_lines by k tick n found begun ≡ []
unfolding segment_end_lines
end-none by k tick n found begun none = rw none refl

pub end-same : (by : ℕ → Option Origin) (k tick n : ℕ) (found xs ys : List Ahead) → (k ≢ 0 → xs ≡ ys) → segment_end_lines by k tick n found xs ≡ segment_end_lines by k tick n found ys
end-same by zero tick n found xs ys same = end-none by zero tick n found xs refl ∙ sym (end-none by zero tick n found ys refl)
end-same by (suc k) tick n found xs ys same = ap (segment_end_lines by (suc k) tick n found) (same (λ none. omega (arith, none)))

pub end-some : (by : ℕ → Option Origin) (k tick n : ℕ) (found begun : List Ahead) → k ≢ 0
    → segment_end_lines by k tick n found begun ≡ (segment_end_line k tick ∷ []) ++ (drop_lines by n tick found ++ begun_entry_lines by (n + length found) tick begun)
unfolding segment_end_lines
end-some by zero tick n found begun some = absurd (some refl)
end-some by (suc k) tick n found begun some = rw (not-zero k) refl
  where
    not-zero : (k : ℕ) → nat_eq (suc k) 0 ≡ false
    not-zero k = grind (arith, nat_tests)

-- ---- delays

pub delays-none : (ds : List ℕ) → length ds ≡ 0 → delays_lines ds ≡ []
unfolding tens_of
delays-none ds none = ap (λ n. tens_of ((n + 9) / 10) ds) none

pub delays-some : (ds : List ℕ) → 1 ≤ length ds
    → delays_lines ds ≡ (delays_line (take 10 ds) ∷ []) ++ delays_lines (drop 10 ds)
unfolding tens_of
delays-some ds some =
    let more : (length ds + 9) / 10 ≡ suc ((length (drop 10 ds) + 9) / 10) = omega (arith, length-drop 10 ds) in
    ap (λ n. tens_of n ds) more

-- ---- numbers

pub numbers-first : (old mid behind new : List ℕ) (ns more : List ℕ) (n m : ℕ) → ns ≡ n ∷ more → mid ≡ old ++ codes " "
    → behind ≡ mid ++ decimal m → m ≡ n → new ≡ behind ++ numbers_text more → new ≡ old ++ numbers_text ns
unfolding numbers_text
numbers-first old mid behind new ns more n m is blank number same later =
    later
    ∙ ap (λ xs. xs ++ numbers_text more) (number ∙ ap (λ xs. xs ++ decimal m) blank ∙ append_assoc old (codes " ") (decimal m) ∙ ap (λ k. old ++ (codes " " ++ decimal k)) same)
    ∙ append_assoc old (codes " " ++ decimal n) (numbers_text more)
    ∙ ap (λ xs. old ++ numbers_text xs) (sym is)

pub numbers-none : (old ns : List ℕ) → ns ≡ [] → old ≡ old ++ numbers_text ns
unfolding numbers_text
numbers-none old ns none = rw none (sym (append-nil old))

-- ---- lines that are written or not

pub none_if : (s : OutputState) (b : Bool) (xs : List (List ℕ)) (o : Unit {0}) → b ≡ false → WritesLines s s (if b then xs else []) (Ok o)
none_if s b xs o off = rw off (no_lines s o)

pub some_if : (s u : OutputState) (b : Bool) (xs ys : List (List ℕ)) (r : Result (Unit {0}) Failed) → b ≡ true → xs ≡ ys
    → WritesLines s u xs r → WritesLines s u (if b then ys else []) r
some_if s u b xs ys r on same h = rw (on, sym same) h

pub same_lines : (s u : OutputState) (xs ys : List (List ℕ)) (r : Result (Unit {0}) Failed) → xs ≡ ys → WritesLines s u xs r → WritesLines s u ys r
same_lines s u xs ys r same h = subst (λ ls. WritesLines s u ls r) same h

-- ---- lines of delays

pub delays_all : (s u : OutputState) (ds : List ℕ) (r : Result (Unit {0}) Failed) → length ds ≡ 0 → WritesLines s u [] r → WritesLines s u (delays_lines ds) r
delays_all s u ds r none h = subst (λ ls. WritesLines s u ls r) (sym (delays-none ds none)) h

pub delays_cut : (s u : OutputState) (ds line : List ℕ) (e : Failed) (r : Result (Unit {0}) Failed) → IsErr r → length ds ≢ 0
    → line ≡ delays_line (take 10 ds) → WritesLines s u (line ∷ []) (Err e) → WritesLines s u (delays_lines ds) r
delays_cut s u ds line e r f some is h =
    subst (λ ls. WritesLines s u ls r) (sym (delays-some ds (omega (arith, some))))
    (lines_cut s u (delays_line (take 10 ds) ∷ []) (delays_lines (drop 10 ds)) e r f
    (subst (λ l. WritesLines s u (l ∷ []) (Err e)) is h))

pub delays_then : (s v u : OutputState) (ds line more : List ℕ) (o : Unit {0}) (r : Result (Unit {0}) Failed) → length ds ≢ 0
    → line ≡ delays_line (take 10 ds) → more ≡ drop 10 ds → WritesLines s v (line ∷ []) (Ok o)
    → WritesLines v u (delays_lines more) r → WritesLines s u (delays_lines ds) r
delays_then s v u ds line more o r some is rest h later =
    subst (λ ls. WritesLines s u ls r) (sym (delays-some ds (omega (arith, some))))
    (lines_then s v u (delays_line (take 10 ds) ∷ []) (delays_lines (drop 10 ds)) o r
    (subst (λ l. WritesLines s v (l ∷ []) (Ok o)) is h)
    (subst (λ xs. WritesLines v u (delays_lines xs) r) rest later))

-- ---- three lines

pub three_then : (s v u : OutputState) (x : List ℕ) (xs : List (List ℕ)) (o : Unit {0}) (r : Result (Unit {0}) Failed)
    → WritesLines s v (x ∷ []) (Ok o) → WritesLines v u xs r → WritesLines s u (x ∷ xs) r
three_then s v u x xs o r h k = lines_then s v u (x ∷ []) xs o r h k

pub three_cut : (s u : OutputState) (x : List ℕ) (xs : List (List ℕ)) (e : Failed) (r : Result (Unit {0}) Failed) → IsErr r
    → WritesLines s u (x ∷ []) (Err e) → WritesLines s u (x ∷ xs) r
three_cut s u x xs e r f h = lines_cut s u (x ∷ []) xs e r f h

not_both-by : {A : Type 0} (r : Result (Unit {0}) Failed) → IsErr r → IsOk r → A
not_both-by (Ok x) f g = absurd (cc)
not_both-by (Err x) f g = absurd (cc)

-- no result is both an error and good
pub not_both : {A : Type 0} (r : Result (Unit {0}) Failed) → IsErr r → IsOk r → A
not_both r f g = not_both-by r f g

-- lines followed by the remaining lines, in two forms
pub both_then : (s v u : OutputState) (ws xs ys zs : List (List ℕ)) (o : Unit {0}) (r : Result (Unit {0}) Failed) → ws ≡ xs → ys ≡ zs
    → WritesLines s v ws (Ok o) → WritesLines v u ys r → WritesLines s u (xs ++ zs) r
both_then s v u ws xs ys zs o r one two h k = lines_then s v u xs zs o r (same_lines s v ws xs (Ok o) one h) (same_lines v u ys zs r two k)

pub both_cut : (s u : OutputState) (ws xs zs : List (List ℕ)) (e : Failed) (r : Result (Unit {0}) Failed) → IsErr r → ws ≡ xs
    → WritesLines s u ws (Err e) → WritesLines s u (xs ++ zs) r
both_cut s u ws xs zs e r f one h = lines_cut s u xs zs e r f (same_lines s u ws xs (Err e) one h)

-- a line, and a line followed by the remaining lines, in two forms
pub put_one : (s u : OutputState) (l x : List ℕ) (r : Result (Unit {0}) Failed) → l ≡ x → WritesLines s u (l ∷ []) r → WritesLines s u (x ∷ []) r
put_one s u l x r one h = subst (λ k. WritesLines s u (k ∷ []) r) one h

pub put_then : (s v u : OutputState) (l x : List ℕ) (xs ys : List (List ℕ)) (o : Unit {0}) (r : Result (Unit {0}) Failed) → l ≡ x → xs ≡ ys
    → WritesLines s v (l ∷ []) (Ok o) → WritesLines v u xs r → WritesLines s u (x ∷ ys) r
put_then s v u l x xs ys o r one two h k = lines_then s v u (x ∷ []) ys o r (put_one s v l x (Ok o) one h) (same_lines v u xs ys r two k)

pub put_cut : (s u : OutputState) (l x : List ℕ) (xs : List (List ℕ)) (e : Failed) (r : Result (Unit {0}) Failed) → IsErr r → l ≡ x
    → WritesLines s u (l ∷ []) (Err e) → WritesLines s u (x ∷ xs) r
put_cut s u l x xs e r f one h = lines_cut s u (x ∷ []) xs e r f (put_one s u l x (Err e) one h)

-- an error in the first of three parts
pub first_cut : (s u : OutputState) (xs ys zs : List (List ℕ)) (e : Failed) (r : Result (Unit {0}) Failed) → IsErr r → WritesLines s u xs (Err e)
    → WritesLines s u ((xs ++ ys) ++ zs) r
first_cut s u xs ys zs e r f h = lines_cut s u (xs ++ ys) zs e r f (lines_cut s u xs ys e (Err e) refl h)

pub second_cut : (s v u : OutputState) (xs ys zs : List (List ℕ)) (o : Unit {0}) (e : Failed) (r : Result (Unit {0}) Failed) → IsErr r
    → WritesLines s v xs (Ok o) → WritesLines v u ys (Err e) → WritesLines s u ((xs ++ ys) ++ zs) r
second_cut s v u xs ys zs o e r f h k = lines_cut s u (xs ++ ys) zs e r f (lines_then s v u xs ys o (Err e) h k)

-- ---- whether interrupts are enabled

later : (k : ℕ) → k ≢ 0 → nat_eq k 0 ≡ false
later k some = grind (arith, nat_tests)

pub en-none : (k : ℕ) (was now : Bool) → k ≢ 0 → beq was now ≡ true → [] ≡ en_lines k was now
unfolding en_lines
en-none k true true some same = rw (later k some) refl
en-none k false false some same = rw (later k some) refl
en-none k true false some same = absurd (cc)
en-none k false true some same = absurd (cc)

pub en-first : (k : ℕ) (was now : Bool) → k ≡ 0 → en_line now ∷ [] ≡ en_lines k was now
unfolding en_lines
en-first k was now none = rw none refl

pub en-changed : (k : ℕ) (was now : Bool) → k ≢ 0 → beq was now ≡ false → en_line now ∷ [] ≡ en_lines k was now
unfolding en_lines
en-changed k true true some differ = absurd (cc)
en-changed k false false some differ = absurd (cc)
en-changed k true false some differ = rw (later k some) refl
en-changed k false true some differ = rw (later k some) refl

-- ---- what is printed

prints-first : (all more : List (List ℕ)) (x : List ℕ) → all ≡ x ∷ more → prints_lines all ≡ (prt_line (line_of_words x) ∷ []) ++ prints_lines more
unfolding prints_lines
prints-first all more x is = rw is refl

pub prints_cut : (s u : OutputState) (all more : List (List ℕ)) (x : List ℕ) (e : Failed) (r : Result (Unit {0}) Failed) → IsErr r → all ≡ x ∷ more
    → WritesLines s u (prt_line (line_of_words x) ∷ []) (Err e) → WritesLines s u (prints_lines all) r
prints_cut s u all more x e r f is h =
    subst (λ ls. WritesLines s u ls r) (sym (prints-first all more x is)) (lines_cut s u (prt_line (line_of_words x) ∷ []) (prints_lines more) e r f h)

pub prints_then : (s v u : OutputState) (all more : List (List ℕ)) (x : List ℕ) (o : Unit {0}) (r : Result (Unit {0}) Failed) → all ≡ x ∷ more
    → WritesLines s v (prt_line (line_of_words x) ∷ []) (Ok o) → WritesLines v u (prints_lines more) r → WritesLines s u (prints_lines all) r
prints_then s v u all more x o r is h k =
    subst (λ ls. WritesLines s u ls r) (sym (prints-first all more x is)) (lines_then s v u (prt_line (line_of_words x) ∷ []) (prints_lines more) o r h k)

pub prints_none : (s : OutputState) (all : List (List ℕ)) (o : Unit {0}) → all ≡ [] → WritesLines s s (prints_lines all) (Ok o)
unfolding prints_lines
prints_none s all o is = rw is (no_lines s o)
