-- Laws of marked lines, and of jobs and object texts that differ only in their
-- delays.
--
-- Proved: each law has its lemma in proofs/DelayLaws.antt, with its name in small letters.
-- Claimed: docs/CLAIMS.md names ObjectTextsThatDifferInDelaysAlone.
-- Change: docs/promises.txt lists each law, and the gate compares the list with the laws.
use Rattle.std.specs.Prelude.{◌≡◌, ℕ, ◌≤◌, Bool, List, take, Result, Ok}
use Rattle.st_bits.specs.declared.limits.TheConstants.{MOST_CARDS}
use Rattle.st_card.specs.Controls.{Asked}
use Rattle.st_asm.specs.Assembly.{Assembly, assembly}
use Rattle.st_exch.specs.Reader.{reader_cards}
use Rattle.st_run.specs.Run.{Scene}
use Rattle.st_io.specs.Event.{lines_of}
use Rattle.st_object.specs.DelayLines.{DifferInDelayLines, HasDelayLines}
use Rattle.st_object.specs.Object.{Program, read_text}
use Rattle.st_dis.specs.Deck.{card_count}
use Rattle.st_telling.specs.Report.{joined}
use Rattle.st_top.specs.Marks.{lines_unmarked, marked_run, marked_output, texts_up_to_end, end_card}
use Rattle.st_top.specs.Delays.{DifferInDelaysCards}
use Rattle.st_top.specs.StepsBack.{run_report}
use Rattle.st_top.specs.declared.command.Command.TheVariants.{Run, Assemble, Load, Disassemble}

-- two jobs have equal assemblies apart from the delays: the cards up to END have equal texts and
-- rows, and the readers have equal cards
pub record AreAlikeBesideDelays (job other : List ℕ) (a b : Assembly) : Type 0 where
  pub texts : texts_up_to_end job ≡ texts_up_to_end other
  pub rows : take (end_card job) a.rows ≡ take (end_card other) b.rows
  pub image : a.image ≡ b.image
  pub start : a.start ≡ b.start
  pub symbols : a.symbols ≡ b.symbols
  pub asked : record a.asked { delays = b.asked.delays } ≡ b.asked
  pub reader : reader_cards job ≡ reader_cards other

-- The lines with their marks are the lines of the report of a run, in order.
abbrev pub MarksAreTheReport : Type 0
MarksAreTheReport = (asked : Asked) (start : Scene) → joined (marked_run asked start)
    ≡ lines_of (run_report asked start)

-- The unmarked lines of a run do not depend on the delays, nor on the cards `/SNAP`, `/TIME` and
-- `/CHART`.
abbrev pub DelaysChangeNothingButTheTimetable : Type 0
DelaysChangeNothingButTheTimetable = (asked : Asked) (ds snaps : List ℕ) (time chart : Bool)
    (start : Scene) →
    lines_unmarked (marked_run (record asked {
      delays = ds;
      snaps = snaps;
      time = time;
      chart = chart;
    }) start)
    ≡ lines_unmarked (marked_run asked start)

-- Jobs with equal assemblies apart from the delays write equal unmarked lines, both when they are
-- run and when they are assembled. So do programs that differ only in their delays when they are
-- loaded, and when they are disassembled to decks without too many cards.
pub record JobsThatDifferInDelaysAlone : Type 0 where
  pub run : (job other : List ℕ) (read also : Result Program ℕ) (a b : Assembly)
      → assembly job ≡ Ok a → assembly other ≡ Ok b → AreAlikeBesideDelays job other a b
      → lines_unmarked (marked_output Run job read) ≡ lines_unmarked (marked_output Run other also)
  pub assembled : (job other : List ℕ) (read also : Result Program ℕ) (a b : Assembly)
      → assembly job ≡ Ok a → assembly other ≡ Ok b → AreAlikeBesideDelays job other a b
      → lines_unmarked (marked_output Assemble job read)
      ≡ lines_unmarked (marked_output Assemble other also)
  pub load : (text other : List ℕ) (p q : Program)
      → record p { controls = record p.controls { delays = q.controls.delays } } ≡ q
      → lines_unmarked (marked_output Load text (Ok p))
      ≡ lines_unmarked (marked_output Load other (Ok q))
  pub disassemble : (text other : List ℕ) (p q : Program)
      → record p { controls = record p.controls { delays = q.controls.delays } } ≡ q
      → card_count p ≤ MOST_CARDS → card_count q ≤ MOST_CARDS
      → lines_unmarked (marked_output Disassemble text (Ok p))
      ≡ lines_unmarked (marked_output Disassemble other (Ok q))

-- Jobs that are not refused and differ only in their delay cards have equal assemblies apart from
-- the delays.
abbrev pub CardsOfDelaysChangeDelaysAlone : Type 0
CardsOfDelaysChangeDelaysAlone = (job other : List ℕ) (a b : Assembly) → assembly job ≡ Ok a →
    assembly other ≡ Ok b → DifferInDelaysCards job other → AreAlikeBesideDelays job other a b

-- If a text is an object text, then a text that differs from it only in its delay lines, which are
-- those of valid delays, is the object text of the program with these delays. The delay lines of
-- each object text are those of its program's delays.
pub record ObjectTextsThatDifferInDelaysAlone : Type 0 where
  pub accepted : (text other delays : List ℕ) (p : Program) → read_text text ≡ Ok p →
      DifferInDelayLines text other
      → HasDelayLines other delays → read_text other ≡ Ok
      (record p { controls = record p.controls { delays = delays } })
  pub good : (text : List ℕ) (p : Program) → read_text text ≡ Ok p →
      HasDelayLines text p.controls.delays
