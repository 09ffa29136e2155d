-- A text that is refused has a bad line, and the number in the refusal is that of the first.
use Rattle.st_object.proofs.Common.{◌≡◌, ◌<◌, ◌-◌, ℕ, suc, zero, List, [], ◌∷◌, ◌++◌, take, drop, Result, Ok, Err, IfOk, IfErr, refl, ap, sym, ◌∙◌, append_assoc, arith, cond_both, take-append-drop, take-take, flat_map-append, lf, pieces_of, first_piece, draft_at_start, is_empty, Program, IsProgram, object_text, read_from, read_text, text_lines, BeginsObjectText, IsBadLine, Gives, NamesBadLine, ObjectError}
use Rattle.st_object.specs.declared.reading.ObjectError.TheVariants.{Refused, NoMemory}
use Rattle.st_object.proofs.AcceptedTexts.{closed, AreLines, cut, last_line, lines_in_all, Refuses, outcome, accepted}
use Rattle.st_object.proofs.ReadBack.{parted_line, read_back}
use Rattle.st_object.proofs.Completions.{begins}

-- the lines of a text contain no line ends
all_lines : (lines : List (List ℕ)) (rest : List ℕ) → AreLines (lines ++ rest ∷ []) → AreLines (lines ++ last_line rest)
all_lines [] rest are = cond_both (is_empty rest) [] (rest ∷ []) AreLines (λ none. tt) (λ some. are)
all_lines (line ∷ more) rest are = (are.0, all_lines more rest are.1)

taken_lines : (n : ℕ) (lines : List (List ℕ)) → AreLines lines → AreLines (take n lines)
taken_lines zero lines are = tt
taken_lines (suc n) [] are = tt
taken_lines (suc n) (line ∷ more) are = (are.0, taken_lines n more are.1)

-- the lines at the beginning of a text
parted-closed : (lines : List (List ℕ)) (rest : List ℕ) → AreLines lines → pieces_of 10 (closed lines ++ rest) ≡ lines ++ pieces_of 10 rest
parted-closed [] rest are = refl
parted-closed (line ∷ more) rest are =
    let here = parted_line line (closed more ++ rest) are.0 in
    rw (append_assoc (line ++ 10 ∷ []) (closed more) rest, append_assoc line (10 ∷ []) (closed more ++ rest), here, parted-closed more rest are.1)

not_both : (p : Program) (n : ℕ) (r : Result Program ℕ) → r ≡ Ok p → r ≡ Err n → ⊥
not_both p n r read refused = cc

-- no object text begins with lines that are refused regardless of the text after them
not_front : (lines : List (List ℕ)) (n : ℕ) → AreLines lines →
    ((next : List ℕ) (more : List (List ℕ)) → read_from draft_at_start 1 (lines ++ next ∷ more) ≡ Err n) → BeginsObjectText (closed lines) → ⊥
unfolding read_text
not_front lines n are bad front =
    let first = first_piece 10 front.3 in
    not_both front.0 n (read_text (object_text front.0)) (read_back front.0 front.1 front.2)
    (ap (λ (s : List ℕ). read_from draft_at_start 1 (pieces_of 10 s)) front.4 ∙ rw (parted-closed lines front.3 are, first.1.1) (bad first.0 first.1.0))

-- the number in the refusal is that of the first bad line
pub bad_line : (text : List ℕ) (n : ℕ) → read_text text ≡ Err n → IsBadLine text n
bad_line text n read =
    let is : Refuses draft_at_start 1 (text_lines text) n = outcome text (Err n) read in
    let c = cut text in
    let are : AreLines (text_lines text) = rw (c.pieces, lines_in_all c.lines c.rest) (all_lines c.lines c.rest c.lacking) in
    let before : n - 1 ≡ is.good = omega (arith, is.counted) in
    let next : suc is.good ≡ n = omega (arith, is.counted) in
    record {
      none = λ object. not_both object.0 n (read_text text) (ap (λ (s : List ℕ). read_text s) object.3 ∙ read_back object.0 object.1 object.2) read;
      counted = (omega (arith, is.counted), omega (arith, is.counted, is.within));
      good_before = rw before (begins is.on.last (closed (take is.good (text_lines text))) is.on.draft is.on.orderly is.on.before);
      bad = λ inside front. not_front (take n (text_lines text)) n (taken_lines n (text_lines text) are)
          (rw next at (is.bad (omega (arith, inside, next)))) front;
    }

-- no line before the bad line is bad: if an object text begins with a text, it begins with each
-- prefix of it
none_earlier : (text : List ℕ) (n m : ℕ) → IsBadLine text n → IsBadLine text m → n < m → ⊥
none_earlier text n m bad later before =
    let lines : List (List ℕ) = text_lines text in
    let front = later.good_before in
    let behind : List ℕ = closed (drop n (take (m - 1) lines)) in
    let parts : closed (take (m - 1) lines) ≡ closed (take n lines) ++ behind =
    ap (λ (s : List (List ℕ)). closed s) (sym (take-append-drop n (take (m - 1) lines)))
    ∙ rw (flat_map-append (λ line. line ++ lf) (take n (take (m - 1) lines)) (drop n (take (m - 1) lines)), take-take n (m - 1) lines (omega arith)) in
    bad.bad (omega (arith, before, later.counted.1))
    (front.0, front.1, front.2, behind ++ front.3, front.4 ∙ rw (parts, append_assoc (closed (take n lines)) behind front.3))

one_bad_line : (text : List ℕ) (n m : ℕ) → IsBadLine text n → IsBadLine text m → m ≡ n
one_bad_line text n m first second =
    let not_before : n < m → ⊥ = none_earlier text n m first second in
    let not_behind : m < n → ⊥ = none_earlier text m n second first in
    grind (arith, not_before, not_behind)

-- a text that has a bad line is refused at that line
pub refused_there : (text : List ℕ) (n : ℕ) → IsBadLine text n → read_text text ≡ Err n
refused_there text n bad = go (read_text text) refl
  where
    go : (r : Result Program ℕ) → read_text text ≡ r → r ≡ Err n
    go (Ok p) read = let is = accepted text p read in absurd (bad.none (p, is.program, is.words, is.same))
    go (Err m) read = ap (λ (k : ℕ). Err k) (one_bad_line text n m bad (bad_line text m read))

-- the result of reading agrees with the text
pub read_program : (text : List ℕ) (r : Result Program ObjectError) → Gives (read_text text) r → IfOk r (λ p. IsProgram p)
read_program text (Ok p) gives = (accepted text p gives).program
read_program text (Err e) gives = tt

pub read_same : (text : List ℕ) (r : Result Program ObjectError) → Gives (read_text text) r → IfOk r (λ p. text ≡ object_text p)
read_same text (Ok p) gives = (accepted text p gives).same
read_same text (Err e) gives = tt

pub refused_first : (text : List ℕ) (r : Result Program ObjectError) → Gives (read_text text) r → IfErr r (λ e. NamesBadLine text e)
refused_first text (Ok p) gives = tt
refused_first text (Err (Refused card fault)) gives = bad_line text card gives.0
refused_first text (Err NoMemory) gives = tt
