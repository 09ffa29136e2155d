-- Each text has its specified reading.
use Rattle.st_object.proofs.Common.{◌≡◌, ℕ, List, refl, ap, ◌∙◌, Program, IsReading, read_text}
use Rattle.std.specs.Prelude.{Result, Ok, Err}
use Rattle.st_object.proofs.AcceptedTexts.{accepted}
use Rattle.st_object.proofs.ReadBack.{read_back}
use Rattle.st_object.proofs.BadLines.{bad_line, refused_there}

as_read : (text : List ℕ) (r : Result Program ℕ) → read_text text ≡ r → IsReading text r
as_read text (Ok p) read = let h = accepted text p read in (h.program, h.words, h.same)
as_read text (Err n) read = bad_line text n read

pub reading-is : (text : List ℕ) → IsReading text (read_text text)
reading-is text = as_read text (read_text text) refl

pub reading-only : (text : List ℕ) (r : Result Program ℕ) → IsReading text r → read_text text ≡ r
reading-only text (Ok p) h = ap read_text h.2 ∙ read_back p h.0 h.1
reading-only text (Err n) h = refused_there text n h
