-- The results of reading a text; a text that is read is the object text of its program.
use Rattle.st_object.proofs.Common.{◌≡◌, ◌≤◌, ◌<◌, ◌+◌, ◌==◌, ℕ, suc, Bool, true, false, List, [], ◌∷◌, ◌++◌, length, take, Option, Some, None, is_some, Result, Ok, Err, if◌then◌else◌, refl, ap, sym, subst, ◌∙◌, append_assoc, append-nil, arith, rules, flat_map, option_map_or, eqb-true, nat_tests, lf, pieces_of, lacks, object_text_of, Draft, draft_at_start, IsDraft, is_empty, lines_read, is_whole, Program, IsProgram, AreWords, object_text, program_of, draft_with_line, read_from, read_text, lines_in, text_lines, Item}
use Rattle.st_object.proofs.LineByLine.{read_step, IsGood, good_line}
use Rattle.st_object.proofs.WholeDrafts.{whole_program, whole_words, whole_lines_of}
use Rattle.st_object.proofs.Completions.{IsOrderly, blank_orderly}

-- the text of lines, each with its line end
abbrev pub closed : List (List ℕ) → List ℕ
closed lines = flat_map (λ line. line ++ lf) lines

-- lines without line ends
abbrev pub AreLines : List (List ℕ) → Type 0
AreLines [] = Unit {0}
AreLines (line ∷ more) = (lacks 10 line ≡ true) × AreLines more

-- a text split at its line ends: its lines, and the text after the last line end
pub record Cut (text : List ℕ) : Type 0 where
  pub lines : List (List ℕ)
  pub rest : List ℕ
  pub lacking : AreLines (lines ++ rest ∷ [])
  pub pieces : pieces_of 10 text ≡ lines ++ rest ∷ []
  pub whole : text ≡ closed lines ++ rest

cut_more : (c : ℕ) (cs : List ℕ) (lines : List (List ℕ)) (rest : List ℕ) → (c == 10) ≡ false → AreLines (lines ++ rest ∷ []) →
    pieces_of 10 cs ≡ lines ++ rest ∷ [] → cs ≡ closed lines ++ rest → Cut (c ∷ cs)
cut_more c cs [] rest other lacking pieces whole =
    record { lines = []; rest = c ∷ rest; lacking = (rw other lacking.0, tt); pieces = rw (other, pieces); whole = rw whole }
cut_more c cs (line ∷ lines) rest other lacking pieces whole =
    record { lines = (c ∷ line) ∷ lines; rest = rest; lacking = (rw other lacking.0, lacking.1); pieces = rw (other, pieces); whole = rw whole }

pub cut : (text : List ℕ) → Cut text
cut [] = record { lines = []; rest = []; lacking = (refl, tt); pieces = refl; whole = refl }
cut (c ∷ cs) = go (c == 10) refl (cut cs)
  where
    go : (b : Bool) → (c == 10) ≡ b → Cut cs → Cut (c ∷ cs)
    go true here later =
        let same : c ≡ 10 = eqb-true c 10 here in
        let whole : c ∷ cs ≡ closed ([] ∷ later.lines) ++ later.rest = cc (same, later.whole) in
        record { lines = [] ∷ later.lines; rest = later.rest; lacking = (refl, later.lacking); pieces = rw (here, later.pieces); whole = whole }
    go false other later = cut_more c cs later.lines later.rest other later.lacking later.pieces later.whole

-- the text after the last line end is a line too if it is not empty
abbrev pub last_line : List ℕ → List (List ℕ)
last_line rest = if is_empty rest then [] else rest ∷ []

pub lines_in_all : (lines : List (List ℕ)) (rest : List ℕ) → lines_in (lines ++ rest ∷ []) ≡ lines ++ last_line rest
lines_in_all [] rest = refl
lines_in_all (line ∷ []) rest = refl
lines_in_all (line ∷ next ∷ more) rest = ap (λ (s : List (List ℕ)). line ∷ s) (lines_in_all (next ∷ more) rest)

-- good lines lead from one draft to another
pub record ReadsOn (d : Draft) (front : List (List ℕ)) : Type 0 where
  pub last : Draft
  pub draft : IsDraft last
  pub orderly : IsOrderly last
  pub before : object_text_of (lines_read last) ≡ object_text_of (lines_read d) ++ closed front

abbrev no_line_on : (d : Draft) → IsDraft d → IsOrderly d → ReadsOn d []
no_line_on d draft orderly = record { last = d; draft = draft; orderly = orderly; before = sym (append-nil (object_text_of (lines_read d))) }

abbrev line_on : (d e : Draft) (line : List ℕ) (front : List (List ℕ)) → IsGood d e line → ReadsOn e front → ReadsOn d (line ∷ front)
line_on d e line front good on =
    let regrouped : (a l b : List ℕ) → (a ++ l ++ 10 ∷ []) ++ b ≡ a ++ ((l ++ 10 ∷ []) ++ b) = λ a l b. simp append_assoc in
    let before = on.before ∙ (ap (λ (s : List ℕ). s ++ closed front) good.behind ∙ regrouped (object_text_of (lines_read d)) line (closed front)) in
    record { last = on.last; draft = on.draft; orderly = on.orderly; before = before }

-- lines that are read as a program
pub record Accepts (d : Draft) (lines : List (List ℕ)) (rest : List ℕ) (p : Program) : Type 0 where
  pub on : ReadsOn d lines
  pub none : rest ≡ []
  pub ended : is_whole on.last ≡ true
  pub program : program_of on.last ≡ p

-- the m-th line is bad, counted from n, regardless of the text after it
pub record Refuses (d : Draft) (n : ℕ) (all : List (List ℕ)) (m : ℕ) : Type 0 where
  pub good : ℕ
  pub counted : m ≡ n + good
  pub within : good ≤ length all
  pub on : ReadsOn d (take good all)
  pub bad : good < length all → (next : List ℕ) (more : List (List ℕ)) → read_from d n (take (suc good) all ++ next ∷ more) ≡ Err m

abbrev pub Outcome : Draft → ℕ → List (List ℕ) → List ℕ → List (List ℕ) → Result Program ℕ → Type 0
Outcome d n lines rest all (Ok p) = Accepts d lines rest p
Outcome d n lines rest all (Err m) = Refuses d n all m

bad_at_once : (d : Draft) (n : ℕ) (line : List ℕ) (more : List (List ℕ)) → IsDraft d → IsOrderly d → draft_with_line d line ≡ None → Refuses d n (line ∷ more) n
bad_at_once d n line more draft orderly bad =
    record { good = 0; counted = omega arith; within = omega arith; on = no_line_on d draft orderly; bad = λ inside next rest. rw bad }

bad_at_end : (d : Draft) (n : ℕ) → IsDraft d → IsOrderly d → Refuses d n [] n
bad_at_end d n draft orderly =
    let none : 0 < 0 → ⊥ = λ inside. omega arith in
    record { good = 0; counted = omega arith; within = omega arith; on = no_line_on d draft orderly; bad = λ inside. absurd (none inside) }

-- the result of reading a good line and then others
line_before : (d e : Draft) (n : ℕ) (line : List ℕ) (lines : List (List ℕ)) (rest : List ℕ) (all : List (List ℕ)) (r : Result Program ℕ) →
    draft_with_line d line ≡ Some e → Outcome e (n + 1) lines rest all r → Outcome d n (line ∷ lines) rest (line ∷ all) r
line_before d e n line lines rest all (Ok p) good later =
    record { on = line_on d e line lines (good_line d e line good) later.on; none = later.none; ended = later.ended; program = later.program }
line_before d e n line lines rest all (Err m) good later = record {
  good = suc later.good;
  counted = omega (arith, later.counted);
  within = omega (arith, later.within);
  on = line_on d e line (take later.good all) (good_line d e line good) later.on;
  bad = λ inside next more. rw (read_step d n line next (take (suc later.good) all) more, good) (later.bad (omega (arith, inside)) next more);
}

not_empty : (c : ℕ) (cs : List ℕ) → is_empty (c ∷ cs) ≡ false
not_empty c cs = grind (arith, nat_tests)

read_on : (lines : List (List ℕ)) (d : Draft) (n : ℕ) (rest : List ℕ) → IsDraft d → IsOrderly d →
    Outcome d n lines rest (lines ++ last_line rest) (read_from d n (lines ++ rest ∷ []))
read_on [] d n [] draft orderly = go (is_whole d) refl
  where
    go : (b : Bool) → is_whole d ≡ b → Outcome d n [] [] [] (if b then Ok (program_of d) else Err n)
    go true ended = record { on = no_line_on d draft orderly; none = refl; ended = ended; program = refl }
    go false lacking = bad_at_end d n draft orderly
read_on [] d n (c ∷ cs) draft orderly = rw (not_empty c cs) (go (draft_with_line d (c ∷ cs)) refl)
  where
    go : (o : Option Draft) → draft_with_line d (c ∷ cs) ≡ o → Outcome d n [] (c ∷ cs) ((c ∷ cs) ∷ []) (if is_some o then Err (n + 1) else Err n)
    go None bad = bad_at_once d n (c ∷ cs) [] draft orderly bad
    go (Some e) good =
        let is = good_line d e (c ∷ cs) good in
        line_before d e n (c ∷ cs) [] [] [] (Err (n + 1)) good (bad_at_end e (n + 1) (is.kept draft) is.orderly)
read_on (line ∷ lines) d n rest draft orderly =
    rw (read_step d n line rest lines []) (go (draft_with_line d line) refl (λ e later_draft later_orderly. read_on lines e (n + 1) rest later_draft later_orderly))
  where
    go : (o : Option Draft) → draft_with_line d line ≡ o →
        ((e : Draft) → IsDraft e → IsOrderly e → Outcome e (n + 1) lines rest (lines ++ last_line rest) (read_from e (n + 1) (lines ++ rest ∷ []))) →
        Outcome d n (line ∷ lines) rest (line ∷ lines ++ last_line rest) (option_map_or (λ e. read_from e (n + 1) (lines ++ rest ∷ [])) o (Err n))
    go None bad on = bad_at_once d n line (lines ++ last_line rest) draft orderly bad
    go (Some e) good on =
        let is = good_line d e line good in
        line_before d e n line lines rest (lines ++ last_line rest) (read_from e (n + 1) (lines ++ rest ∷ [])) good (on e (is.kept draft) is.orderly)

blank_draft : IsDraft draft_at_start
blank_draft = search (rules, arith)

-- the result of reading a whole text
pub outcome : (text : List ℕ) (r : Result Program ℕ) → read_text text ≡ r → Outcome draft_at_start 1 (cut text).lines (cut text).rest (text_lines text) r
unfolding read_text
outcome text r read =
    let c = cut text in rw (← read, c.pieces, lines_in_all c.lines c.rest) (read_on c.lines draft_at_start 1 c.rest blank_draft blank_orderly)

-- a text that is read is the object text of a program
pub record IsRead (text : List ℕ) (p : Program) : Type 0 where
  pub program : IsProgram p
  pub words : AreWords p.words
  pub same : text ≡ object_text p

pub accepted : (text : List ℕ) (p : Program) → read_text text ≡ Ok p → IsRead text p
accepted text p read =
    let c = cut text in
    let is : Accepts draft_at_start c.lines c.rest p = outcome text (Ok p) read in
    let lines = ap (λ (s : List Item). object_text_of s) (sym (whole_lines_of is.on.last is.ended)) ∙ ap (λ (q : Program). object_text q) is.program in
    record {
      program = rw is.program at (whole_program is.on.last is.on.draft is.ended);
      words = subst (λ (q : Program). AreWords q.words) is.program (whole_words is.on.last is.on.draft);
      same = c.whole ∙ rw (is.none, append-nil (closed c.lines)) (sym is.on.before ∙ lines);
    }
