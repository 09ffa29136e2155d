-- The object text of a program is read as that program.
use Rattle.st_object.proofs.Common.{◌≡◌, ◌+◌, ◌==◌, ℕ, true, not, List, [], ◌∷◌, ◌++◌, map, decimal, Some, Ok, refl, ap, append_assoc, arith, common_steps, pieces_of, lacks, IsShort, control_line, line_text, object_text_of, Draft, draft_at_start, with_item, is_whole, IsItem, Program, IsProgram, AreWords, object_lines, object_text, program_of, draft_with_line, read_from, read_text, Item}
use Rattle.st_object.proofs.Spellings.{short_small, lacks-decimal, lacks-hex, parted_once, spelled_again}
use Rattle.st_object.proofs.LineByLine.{read_step}
use Rattle.st_object.proofs.ProgramLines.{Leads, made_again}

-- digits contain no line end
lacks_number : (n : ℕ) → IsShort n → lacks 10 (decimal n) ≡ true
lacks_number n short = lacks-decimal 10 n (omega arith) (short_small n short)

lacks_behind : (n c : ℕ) (back : List ℕ) → IsShort n → not (c == 10) ≡ true → lacks 10 back ≡ true → lacks 10 (decimal n ++ c ∷ [] ++ back) ≡ true
lacks_behind n c back short other lacking = grind (arith, common_steps, lacks_number)

-- a line contains no line end
lacks-spelled : (item : Item) → IsItem item → lacks 10 (line_text item) ≡ true
unfolding line_text control_line
lacks-spelled item short = grind (arith, lacks_number, lacks_behind, lacks-hex)

-- the first line of a text
pub parted_line : (line rest : List ℕ) → lacks 10 line ≡ true → pieces_of 10 (line ++ 10 ∷ rest) ≡ line ∷ pieces_of 10 rest
parted_line line rest lacking = parted_once 10 line rest lacking

-- the lines of the text of items
pub parted-text_of : (items : List Item) (d e : Draft) → Leads d items e → pieces_of 10 (object_text_of items) ≡ map line_text items ++ [] ∷ []
parted-text_of [] d e leads = refl
parted-text_of (item ∷ more) d e leads =
    rw (append_assoc (line_text item) (10 ∷ []) (object_text_of more), parted_line (line_text item) (object_text_of more) (lacks-spelled item leads.2))
    (ap (λ (pieces : List (List ℕ)). line_text item ∷ pieces) (parted-text_of more leads.0 e leads.3))

-- the line of an item that may come next is read
pub with_spelled : (d e : Draft) (item : Item) → with_item d item ≡ Some e → IsItem item → draft_with_line d (line_text item) ≡ Some e
with_spelled d e item added readable = cc (spelled_again item readable)

read_lines : (items : List Item) (d e : Draft) (n : ℕ) → Leads d items e → is_whole e ≡ true →
    read_from d n (map line_text items ++ [] ∷ []) ≡ Ok (program_of e)
read_lines [] d e n leads whole = rw (leads, whole)
read_lines (item ∷ more) d e n leads whole =
    rw (read_step d n (line_text item) [] (map line_text more) [], with_spelled d leads.0 item leads.1 leads.2) (read_lines more leads.0 e (n + 1) leads.3 whole)

-- the text of a program is read as that program
pub read_back : (p : Program) → IsProgram p → AreWords p.words → read_text (object_text p) ≡ Ok p
unfolding read_text
read_back p is each =
    let makes = made_again p is each in
    rw (parted-text_of (object_lines p) draft_at_start makes.last makes.steps, read_lines (object_lines p) draft_at_start makes.last 1 makes.steps makes.ended, makes.program)
