-- Laws of object texts, regardless of single calls.
--
-- Proved: each law has its lemma in proofs/Laws.antt, with its name in small letters.
-- Claimed: docs/CLAIMS.md names AcceptedTextsAreWritten, LinesAreReadBack,
-- RefusedTextsHaveABadLine, TextsAreReadAsOne, and others.
-- Change: docs/promises.txt lists each law, and the gate compares the list with the laws.
use Rattle.std.specs.Prelude.{◌≡◌, ℕ, List, [], ◌∷◌, ◌++◌, Some, Result, Ok, Err}
use Rattle.st_object.specs.Lines.{line_text}
use Rattle.st_object.specs.Draft.{Draft, with_item, lines_read}
use Rattle.st_object.specs.Meaning.{item_in, IsItem}
use Rattle.st_object.specs.Object.{Program, IsProgram, AreWords, IsBadLine, IsReading, object_text, read_text}
use Rattle.st_object.specs.declared.items.Item.{Item}

-- Reading the line of an item gives that item, and a line is read as an item only if it is the line
-- of that item.
pub record LinesAreReadBack : Type 0 where
  pub again : (item : Item) → IsItem item → item_in (line_text item) ≡ Some item
  pub same : (line : List ℕ) (item : Item) → item_in line ≡ Some item → line_text item ≡ line

-- A text that is read is the object text of the program that it contains, and an object text can
-- contain that program.
pub record AcceptedTextsAreWritten : Type 0 where
  pub program : (text : List ℕ) (p : Program) → read_text text ≡ Ok p → IsProgram p
  pub words : (text : List ℕ) (p : Program) → read_text text ≡ Ok p → AreWords p.words
  pub same : (text : List ℕ) (p : Program) → read_text text ≡ Ok p → text ≡ object_text p

-- A line that may come next is added after the lines already read.
abbrev pub LinesAreKept : Type 0
LinesAreKept = (d e : Draft) (item : Item) → with_item d item ≡ Some e →
    lines_read e ≡ lines_read d ++ item ∷ []

-- The object text of a program is read as that program, so different programs have different object
-- texts.
abbrev pub WrittenTextsAreReadBack : Type 0
WrittenTextsAreReadBack = (p : Program) → IsProgram p → AreWords p.words → read_text (object_text p)
    ≡ Ok p

-- A text is refused if and only if it is not an object text, and then with its bad line: the first
-- such that no object text begins with the lines up to it, or, if the text ends too early, the
-- number after that of the last line.
pub record RefusedTextsHaveABadLine : Type 0 where
  pub named : (text : List ℕ) (n : ℕ) → read_text text ≡ Err n → IsBadLine text n
  pub only : (text : List ℕ) (n : ℕ) → IsBadLine text n → read_text text ≡ Err n

-- Each text has exactly one reading: the program of which it is the object text, or else its bad
-- line.
pub record TextsAreReadAsOne : Type 0 where
  pub is : (text : List ℕ) → IsReading text (read_text text)
  pub one : (text : List ℕ) (r : Result Program ℕ) → IsReading text r → read_text text ≡ r
