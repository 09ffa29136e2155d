-- The names that proofs of this crate use, passed on from one place. Declares nothing.
pub use Rattle.std.specs.Prelude.{◌==◌, option_and_then, if◌then◌else◌, min, zip, slice_set, slice_index_or}
pub use Rattle.std.specs.Option.{option_map, is_some}
pub use Rattle.std.proofs.Common.{◌≡◌, ◌≢◌, ℕ, true, false, List, [], ◌∷◌, map, Option, None, Some, refl, sym, ◌∙◌, inl, inr, zero, suc, ◌+◌, ◌<◌, ◌≤◌, length, get_or, take, ap, add-one, arith, ◌-◌, ◌%◌, ◌⊎◌, ◌++◌, drop, set, mod-eq_of_lt, length-append, length-drop, length-set, length-take-le, get_or-drop, get_or-take, rules}
pub use Rattle.std.proofs.lemmas.Bool.{cases_Bool, cases_lt}
pub use Rattle.st_fetch.specs.HeldWords.{is_held, found, changed_at, with_content, answer_of, words_after_answer, words_after_store, words_after_request, with_answer}
pub use Rattle.st_fetch.specs.declared.held.Held.{Held}
pub use Rattle.st_fetch.specs.Planned.{no_word, word_with_answer, asked_for, content_answered, content_patched, with_its_content}
unfoldable pub use Rattle.st_fetch.specs.Planned.{oldest_first}
pub use Rattle.st_fetch.specs.declared.fetched.AskedWord.{AskedWord}
