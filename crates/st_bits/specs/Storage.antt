-- The size of storage and its initial contents.
--
-- Proved: by their `ensures` clauses these calls do what definitions here say: `number_of_words`
-- (storage.rt), `may` (lib.rt of st_state), `word_at` (fetch_unit.rt of st_next), `put_bits`
-- (valuing.rt of st_asm), and others.
-- Read by: definitions in Object of st_object, Boundary of st_state, Machine of st_state, Ranges of
-- st_prep, and others.
-- Laws: InstructionWordsComeOneByOne (specs/Laws.antt of st_prep), SizesOfStorageAgree
-- (specs/Laws.antt of st_laws).
-- Change: the meaning is fixed by docs/machine.md, since the contracts of `st_top::stretch` and
-- `st_account::ledger` unfold to a definition here. The form is free, with the proofs that unfold
-- it.
use Rattle.std.specs.Prelude.{ℕ, ◌≡◌, ◌<◌, refl, List, length, slice_index}
use Rattle.st_bits.specs.declared.limits.TheConstants.{WORDS}
use Rattle.st_bits.specs.declared.register.TheConstants.{FIRST_STORAGE_WORD}

-- the number of words of storage
unfoldable pub words_of_storage : ℕ
words_of_storage = WORDS

-- the number of words of storage in figures
pub words_of_storage_is : words_of_storage ≡ 98304
unfolding words_of_storage
words_of_storage_is = refl

-- an image contains all words of storage, and its register words are 0
pub record IsImage (image : List ℕ) : Type 0 where
  pub size : length image ≡ words_of_storage
  pub registers : (w : ℕ) → w < FIRST_STORAGE_WORD → slice_index image w ≡ 0
