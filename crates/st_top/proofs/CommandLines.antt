-- The result of the parser for one to three plain words.
use Rattle.st_top.proofs.Common.{◌≡◌, ◌≤◌, ◌==◌, ◌&&◌, ◌^◌, ◌-◌, ◌<◌, inl, inr, if◌then◌else◌, nat_eq, nat_le, sym, subst, ℕ, List, [], ◌∷◌, Bool, true, false, not, Some, None, codes, length, Option, refl, ap, ◌∙◌, arith, and_cases, and_right, and_parts, leb-true, eqb-true, not-false, true≢false, MatchOption, list_all, matches_of, takes, first_of, is_plain, three_words, command_by, Command}
use Rattle.std.specs.Cmp.Lexicographic.{pointwise}
use Rattle.clap.proofs.OnLiterals.{clap_on_literals}
use Rattle.std.specs.Char.{is_ascii_digit}
use Rattle.st_text.specs.Number.{is_filled, is_number, digits_value}
use Rattle.st_top.specs.Command.{command_named, command_with, command_of, number_between, soak_of, IsWithinCards}

-- a single word is the command, without a number
pub one_command : (c : ℕ) (cs : List ℕ) → (c == 45) ≡ false → first_of (codes "command") (matches_of three_words ((c ∷ cs) ∷ [])) ≡ Some (c ∷ cs)
unfolding clap_on_literals
one_command c cs h = simp (h) refl

pub one_number : (c : ℕ) (cs : List ℕ) → (c == 45) ≡ false → first_of (codes "number") (matches_of three_words ((c ∷ cs) ∷ [])) ≡ None
unfolding clap_on_literals
one_number c cs h = simp (h) refl

pub one_cards : (c : ℕ) (cs : List ℕ) → (c == 45) ≡ false → first_of (codes "cards") (matches_of three_words ((c ∷ cs) ∷ [])) ≡ None
unfolding clap_on_literals
one_cards c cs h = simp (h) refl

-- a second word is the number
pub two_command : (c d : ℕ) (cs ds : List ℕ) → (c == 45) ≡ false → (d == 45) ≡ false → first_of (codes "command") (matches_of three_words ((c ∷ cs) ∷ (d ∷ ds) ∷ [])) ≡ Some (c ∷ cs)
unfolding clap_on_literals
two_command c d cs ds h k = simp (h, k) refl

pub two_number : (c d : ℕ) (cs ds : List ℕ) → (c == 45) ≡ false → (d == 45) ≡ false → first_of (codes "number") (matches_of three_words ((c ∷ cs) ∷ (d ∷ ds) ∷ [])) ≡ Some (d ∷ ds)
unfolding clap_on_literals
two_number c d cs ds h k = simp (h, k) refl

pub two_cards : (c d : ℕ) (cs ds : List ℕ) → (c == 45) ≡ false → (d == 45) ≡ false → first_of (codes "cards") (matches_of three_words ((c ∷ cs) ∷ (d ∷ ds) ∷ [])) ≡ None
unfolding clap_on_literals
two_cards c d cs ds h k = simp (h, k) refl

-- a third word is the number of cards
pub three_command : (c d e : ℕ) (cs ds es : List ℕ) → (c == 45) ≡ false → (d == 45) ≡ false → (e == 45) ≡ false → first_of (codes "command") (matches_of three_words ((c ∷ cs) ∷ (d ∷ ds) ∷ (e ∷ es) ∷ [])) ≡ Some (c ∷ cs)
unfolding clap_on_literals
three_command c d e cs ds es h k l = simp (h, k, l) refl

pub three_number : (c d e : ℕ) (cs ds es : List ℕ) → (c == 45) ≡ false → (d == 45) ≡ false → (e == 45) ≡ false → first_of (codes "number") (matches_of three_words ((c ∷ cs) ∷ (d ∷ ds) ∷ (e ∷ es) ∷ [])) ≡ Some (d ∷ ds)
unfolding clap_on_literals
three_number c d e cs ds es h k l = simp (h, k, l) refl

pub three_cards : (c d e : ℕ) (cs ds es : List ℕ) → (c == 45) ≡ false → (d == 45) ≡ false → (e == 45) ≡ false → first_of (codes "cards") (matches_of three_words ((c ∷ cs) ∷ (d ∷ ds) ∷ (e ∷ es) ∷ [])) ≡ Some (e ∷ es)
unfolding clap_on_literals
three_cards c d e cs ds es h k l = simp (h, k, l) refl

-- plain words are accepted
pub one_taken : (c : ℕ) (cs : List ℕ) → (c == 45) ≡ false → takes three_words ((c ∷ cs) ∷ []) ≡ true
unfolding clap_on_literals
one_taken c cs h = simp (h) refl

pub three_taken : (c d e : ℕ) (cs ds es : List ℕ) → (c == 45) ≡ false → (d == 45) ≡ false → (e == 45) ≡ false → takes three_words ((c ∷ cs) ∷ (d ∷ ds) ∷ (e ∷ es) ∷ []) ≡ true
unfolding clap_on_literals
three_taken c d e cs ds es h k l = simp (h, k, l) refl

plain_first : (b rest : Bool) → (not b && rest) ≡ true → (b ≡ false) × (rest ≡ true)
plain_first true rest h = absurd (cc)
plain_first false rest h = (refl, h)

never_plain : (rest : Bool) → (false && rest) ≡ true → ⊥
never_plain rest h = absurd (cc)

-- the command of the arguments that a parser found in the words
abbrev pub found_command : List (List ℕ) → Option Command
found_command ws =
    let found : List ℕ → Option (List ℕ) = λ name. first_of name (matches_of three_words ws) in
    command_by (found (codes "command")) (found (codes "number")) (found (codes "cards"))

-- arguments that are equal are one command
pub commands_agree : {x y z u v w : Option (List ℕ)} → x ≡ u → y ≡ v → z ≡ w → command_by x y z ≡ command_by u v w
commands_agree {x} {y} {z} {u} {v} {w} p q r =
    ap (λ k. command_by k y z) p ∙ (ap (λ k. command_by u k z) q ∙ ap (λ k. command_by u v k) r)

-- the parser finds the command of the words
pub read_command : (ws : List (List ℕ)) → 1 ≤ length ws → length ws ≤ 3 → list_all is_plain ws ≡ true → found_command ws ≡ command_of ws
read_command [] some few plain = absurd (omega arith)
read_command ([] ∷ ws) some few plain = absurd (never_plain (list_all is_plain ws) plain)
read_command ((c ∷ cs) ∷ []) some few plain =
    let p = plain_first (c == 45) true plain in
    commands_agree (one_command c cs p.0) (one_number c cs p.0) (one_cards c cs p.0)
read_command ((c ∷ cs) ∷ [] ∷ ws) some few plain =
    absurd (never_plain (list_all is_plain ws) (plain_first (c == 45) (list_all is_plain ([] ∷ ws)) plain).1)
read_command ((c ∷ cs) ∷ (d ∷ ds) ∷ []) some few plain =
    let p = plain_first (c == 45) (list_all is_plain ((d ∷ ds) ∷ [])) plain in
    let q = plain_first (d == 45) true p.1 in
    commands_agree (two_command c d cs ds p.0 q.0) (two_number c d cs ds p.0 q.0) (two_cards c d cs ds p.0 q.0)
read_command ((c ∷ cs) ∷ (d ∷ ds) ∷ [] ∷ ws) some few plain =
    let p = plain_first (c == 45) (list_all is_plain ((d ∷ ds) ∷ [] ∷ ws)) plain in
    absurd (never_plain (list_all is_plain ws) (plain_first (d == 45) (list_all is_plain ([] ∷ ws)) p.1).1)
read_command ((c ∷ cs) ∷ (d ∷ ds) ∷ (e ∷ es) ∷ []) some few plain =
    let p = plain_first (c == 45) (list_all is_plain ((d ∷ ds) ∷ (e ∷ es) ∷ [])) plain in
    let q = plain_first (d == 45) (list_all is_plain ((e ∷ es) ∷ [])) p.1 in
    let r = plain_first (e == 45) true q.1 in
    commands_agree (three_command c d e cs ds es p.0 q.0 r.0) (three_number c d e cs ds es p.0 q.0 r.0) (three_cards c d e cs ds es p.0 q.0 r.0)
read_command ((c ∷ cs) ∷ (d ∷ ds) ∷ (e ∷ es) ∷ w ∷ ws) some few plain = absurd (omega arith)

-- words that the parser does not accept have no command
pub not_taken : (ws : List (List ℕ)) → 1 ≤ length ws → length ws ≤ 3 → list_all is_plain ws ≡ true → (takes three_words ws ≡ true → ⊥) → None ≡ command_of ws
not_taken [] some few plain refused = absurd (omega arith)
not_taken ([] ∷ ws) some few plain refused = absurd (never_plain (list_all is_plain ws) plain)
not_taken ((c ∷ cs) ∷ []) some few plain refused = absurd (refused (one_taken c cs (plain_first (c == 45) true plain).0))
not_taken ((c ∷ cs) ∷ w ∷ []) some few plain refused = refl
not_taken ((c ∷ cs) ∷ [] ∷ ws) some few plain refused =
    absurd (never_plain (list_all is_plain ws) (plain_first (c == 45) (list_all is_plain ([] ∷ ws)) plain).1)
not_taken ((c ∷ cs) ∷ (d ∷ ds) ∷ [] ∷ ws) some few plain refused =
    let p = plain_first (c == 45) (list_all is_plain ((d ∷ ds) ∷ [] ∷ ws)) plain in
    absurd (never_plain (list_all is_plain ws) (plain_first (d == 45) (list_all is_plain ([] ∷ ws)) p.1).1)
not_taken ((c ∷ cs) ∷ (d ∷ ds) ∷ (e ∷ es) ∷ []) some few plain refused =
    let p = plain_first (c == 45) (list_all is_plain ((d ∷ ds) ∷ (e ∷ es) ∷ [])) plain in
    let q = plain_first (d == 45) (list_all is_plain ((e ∷ es) ∷ [])) p.1 in
    let r = plain_first (e == 45) true q.1 in
    absurd (refused (three_taken c d e cs ds es p.0 q.0 r.0))
not_taken ((c ∷ cs) ∷ (d ∷ ds) ∷ (e ∷ es) ∷ w ∷ ws) some few plain refused = absurd (omega arith)

-- the first byte of a nonempty word that is not plain is `-`
is_minus : (c : ℕ) → not (c == 45) ≡ false → c ≡ 45
is_minus c h = eqb-true c 45 (not-false (c == 45) h)

-- a word that is not plain is not a command, alone or with numbers, and not a number
not_named : (w : List ℕ) → is_plain w ≡ false → command_named w ≡ None
not_named [] h = refl
not_named (c ∷ cs) h = ap (λ b. command_named (b ∷ cs)) (is_minus c h)

not_with : (w number cards : List ℕ) → is_plain w ≡ false → command_with w number cards ≡ None
not_with [] number cards h = refl
not_with (c ∷ cs) number cards h = ap (λ b. command_with (b ∷ cs) number cards) (is_minus c h)

not_digits : (w : List ℕ) → is_plain w ≡ false → is_number w ≡ false
not_digits [] h = refl
not_digits (c ∷ cs) h = and_right (is_filled (c ∷ cs)) (list_all is_ascii_digit (c ∷ cs)) (ap (λ b. list_all is_ascii_digit (b ∷ cs)) (is_minus c h))

none_unless : (is x y z : Bool) (n : Option ℕ) → is ≡ false → (if is && x && y && z then n else None) ≡ None
none_unless true x y z n h = absurd (true≢false h)
none_unless false x y z n h = refl

not_number : (least most : ℕ) (w : List ℕ) → is_plain w ≡ false → number_between least most w ≡ None
unfolding number_between
not_number least most w h = none_unless (is_number w) (nat_le (length w) 20) (nat_le least (digits_value w)) (nat_le (digits_value w) most) (Some (digits_value w)) (not_digits w h)

none_by : (b : Bool) (x : Option Command) → x ≡ None → (if b then x else None) ≡ None
none_by true x e = e
none_by false x e = refl

no_cards : (number : Option ℕ) → soak_of number None ≡ None
no_cards None = refl
no_cards (Some n) = refl

not_seed : (w number cards : List ℕ) → is_plain number ≡ false → command_with w number cards ≡ None
not_seed w number cards h =
    none_by (pointwise nat_eq w (codes "soak")) _ (ap (λ n. soak_of n (number_between 1 4000 cards)) (not_number 0 (2 ^ 64 - 1) number h))

not_cards : (w number cards : List ℕ) → is_plain cards ≡ false → command_with w number cards ≡ None
not_cards w number cards h =
    let seed : Option ℕ = number_between 0 (2 ^ 64 - 1) number in
    none_by (pointwise nat_eq w (codes "soak")) _ (ap (soak_of seed) (not_number 1 4000 cards h) ∙ no_cards seed)

-- words, one of which is not plain, have no command
pub means_nothing : (ws : List (List ℕ)) → list_all is_plain ws ≡ false → None ≡ command_of ws
means_nothing [] h = absurd (true≢false h)
means_nothing (w ∷ []) h =
    elim (and_cases (is_plain w) true h) [
      | inl odd ↦ sym (not_named w odd)
      | inr odd ↦ absurd (true≢false odd)
    ]
means_nothing (w ∷ n ∷ []) h = refl
means_nothing (w ∷ n ∷ k ∷ []) h =
    elim (and_cases (is_plain w) (list_all is_plain (n ∷ k ∷ [])) h) [
      | inl odd ↦ sym (not_with w n k odd)
      | inr more ↦
          elim (and_cases (is_plain n) (list_all is_plain (k ∷ [])) more) [
            | inl odd ↦ sym (not_seed w n k odd)
            | inr last ↦
                elim (and_cases (is_plain k) true last) [
                  | inl odd ↦ sym (not_cards w n k odd)
                  | inr odd ↦ absurd (true≢false odd)
                ]
          ]
    ]
means_nothing (w ∷ n ∷ k ∷ v ∷ ws) h = refl

-- no words, and more than three, have no command
pub none_means_nothing : (ws : List (List ℕ)) → length ws ≡ 0 → None ≡ command_of ws
none_means_nothing [] h = refl
none_means_nothing (w ∷ ws) h = absurd (omega arith)

pub many_mean_nothing : (ws : List (List ℕ)) → 3 < length ws → None ≡ command_of ws
many_mean_nothing [] h = absurd (omega arith)
many_mean_nothing (w ∷ []) h = absurd (omega arith)
many_mean_nothing (w ∷ n ∷ []) h = absurd (omega arith)
many_mean_nothing (w ∷ n ∷ k ∷ []) h = absurd (omega arith)
many_mean_nothing (w ∷ n ∷ k ∷ v ∷ ws) h = refl

-- a command of the words requests at most 4000 cards
abbrev pub AllowsCards : Option Command → Type 0
AllowsCards command = MatchOption command (Unit {0}) IsWithinCards

of_test : (t : Bool) (x y : Option Command) → AllowsCards x → AllowsCards y → AllowsCards (if t then x else y)
of_test true x y p q = p
of_test false x y p q = q

number_test : (t : Bool) (n most : ℕ) → (t ≡ true → n ≤ most) → MatchOption (if t then Some n else None) (Unit {0}) (λ k. k ≤ most)
number_test true n most h = h refl
number_test false n most h = tt

number_within : (least most : ℕ) (w : List ℕ) → MatchOption (number_between least most w) (Unit {0}) (λ n. n ≤ most)
unfolding number_between
number_within least most w =
    number_test _ (digits_value w) most (λ is. leb-true (digits_value w) most (and_parts (is_number w && nat_le (length w) 20 && nat_le least (digits_value w)) (nat_le (digits_value w) most) is).1)

soak_within : (number cards : Option ℕ) → MatchOption cards (Unit {0}) (λ n. n ≤ 4000) → AllowsCards (soak_of number cards)
soak_within None cards h = tt
soak_within (Some n) None h = tt
soak_within (Some n) (Some k) h = h

named_within : (w : List ℕ) → AllowsCards (command_named w)
named_within w =
    of_test (pointwise nat_eq w (codes "run")) _ _ tt (of_test (pointwise nat_eq w (codes "assemble")) _ _ tt
    (of_test (pointwise nat_eq w (codes "load")) _ _ tt (of_test (pointwise nat_eq w (codes "disassemble")) _ _ tt
    (of_test (pointwise nat_eq w (codes "sweep")) _ _ tt tt))))

pub commands_are_within : (ws : List (List ℕ)) → AllowsCards (command_of ws)
commands_are_within [] = tt
commands_are_within (w ∷ []) = named_within w
commands_are_within (w ∷ n ∷ []) = tt
commands_are_within (w ∷ n ∷ k ∷ []) =
    of_test (pointwise nat_eq w (codes "soak")) _ _ (soak_within (number_between 0 (2 ^ 64 - 1) n) (number_between 1 4000 k) (number_within 1 4000 k)) tt
commands_are_within (w ∷ n ∷ k ∷ v ∷ ws) = tt

pub command_within : (command : Command) (ws : List (List ℕ)) → Some command ≡ command_of ws → IsWithinCards command
command_within command ws e = subst AllowsCards (sym e) (commands_are_within ws)

pub never_both : (b : Bool) → b ≡ true → b ≡ false → ⊥
never_both true p q = absurd (cc)
never_both false p q = absurd (cc)
