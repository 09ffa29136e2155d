-- Proofs of the laws of object texts.
use Rattle.st_object.proofs.Spellings.{spelled_again}
use Rattle.st_object.proofs.LineMeanings.{told}
use Rattle.st_object.proofs.AcceptedTexts.{accepted}
use Rattle.st_object.proofs.FurtherLines.{grown}
use Rattle.st_object.proofs.ReadBack.{read_back}
use Rattle.st_object.proofs.BadLines.{bad_line, refused_there}
use Rattle.st_object.proofs.ReadingLemmas.{reading-is, reading-only}
use Rattle.st_object.specs.Laws.{LinesAreReadBack, AcceptedTextsAreWritten, LinesAreKept, WrittenTextsAreReadBack, RefusedTextsHaveABadLine, TextsAreReadAsOne}

pub lines_are_read_back : LinesAreReadBack
lines_are_read_back = record {
  again = spelled_again;
  same = λ line item read. (told line item read).0;
}

pub accepted_texts_are_written : AcceptedTextsAreWritten
accepted_texts_are_written = record {
  program = λ text p read. (accepted text p read).program;
  words = λ text p read. (accepted text p read).words;
  same = λ text p read. (accepted text p read).same;
}

pub lines_are_kept : LinesAreKept
lines_are_kept = grown

pub written_texts_are_read_back : WrittenTextsAreReadBack
written_texts_are_read_back = read_back

pub refused_texts_have_a_bad_line : RefusedTextsHaveABadLine
refused_texts_have_a_bad_line = record {
  named = bad_line;
  only = refused_there;
}

pub texts_are_read_as_one : TextsAreReadAsOne
texts_are_read_as_one = record { is = reading-is; one = reading-only }
