-- Invariants of the assembler's result.
--
-- Proved: by their `ensures` clauses these calls do what definitions here say: `assemble`
-- (assembling.rt), `assemble_cards` (assembling.rt).
-- Read by: definitions in Kept, Listing of st_top.
-- Laws: RowsComeFromTheCards (specs/CardLaws.antt of st_causes).
-- Change: no page fixes these definitions, since no contract of a program unfolds to them; they
-- change together with the clauses, definitions and laws that name them. docs/strap.md describes
-- the subject.
use Rattle.std.specs.Prelude.{◌≡◌, ℕ, ◌+◌, ◌<◌, ◌≤◌, ◌^◌, length, slice_index_or, All, IsAscii, Option, IfSome}
use Rattle.st_bits.specs.Storage.{IsImage}
use Rattle.st_card.specs.Limits.{IsWithinLimits}
use Rattle.st_asm.specs.Assembly.{Assembly}
use Rattle.st_asm.specs.declared.naming.Symbol.{Symbol}
use Rattle.st_asm.specs.declared.valuing.Listed.{Listed}

-- a location, if there is one, is a bit address below 2^24
abbrev pub IsLocation : Option ℕ → Type 0
IsLocation location = IfSome location (λ a. a < 2 ^ 24)

-- a row of the listing has at most 64 bits, and its location is a bit address
pub record IsRow (row : Listed) : Type 0 where
  pub few : row.length ≤ 64
  pub fits : row.bits < 2 ^ row.length
  pub location : IsLocation row.location

-- a symbol has a printable name, and its value is a bit address
pub record IsSymbol (symbol : Symbol) : Type 0 where
  pub ascii : IsAscii symbol.name
  pub value : symbol.value < 2 ^ 24

-- the result for a job with this number of cards: an image, a start, one row for each card in
-- order, symbols, and controls within their limits with a budget and at least one delay
pub record IsAssemblySound (cards : ℕ) (a : Assembly) : Type 0 where
  pub image : IsImage a.image
  pub start : a.start < 2 ^ 19
  pub rows : All IsRow a.rows
  pub row_count : length a.rows ≡ cards
  pub numbers : (k : ℕ) (d : Listed) → k < cards → (slice_index_or a.rows k d).card ≡ k + 1
  pub symbols : All IsSymbol a.symbols
  pub limits : IsWithinLimits a.asked
  pub budget : 1 ≤ a.asked.budget
  pub delays : 1 ≤ length a.asked.delays
