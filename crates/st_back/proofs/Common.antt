-- The names that proofs of this crate use, passed on from one place. Declares nothing.
pub use Rattle.std.proofs.Common.{◌≡◌, ◌≢◌, ℕ, zero, suc, ◌+◌, ◌-◌, ◌<◌, ◌≤◌, inl, inr, true, false, List, [], ◌∷◌, ◌++◌, length, drop, Option, None, Some, refl, sym, ◌∙◌, ap, subst, arith, get_or-set_other, length-append, take, get_or, Bool, if◌then◌else◌}
pub use Rattle.std.specs.Prelude.{slice_index, All, slice_set, replicate, IfSome}
pub use Rattle.std.proofs.lemmas.Bool.Decides.{leb_tells, eqb_tells}
pub use Rattle.std.proofs.lemmas.List.{length-set, ext_get_or, drop-append-le, take_more, take_all, get_or-set_same, length-take, length-drop, length-replicate, get_or-append_right, set-set, set-get_or}
pub use Rattle.circular_buffer.specs.Buffer.{keep_last, Buffer, buffer, last_item}
pub use Rattle.st_bits.specs.Registers.{register_word}
pub use Rattle.st_bits.specs.Storage.{words_of_storage_is, words_of_storage}
pub use Rattle.st_state.specs.Machine.{Machine, IsMachine, word, with_word, state_with_store}
pub use Rattle.st_state.specs.Interrupts.{state_with_signal, is_pending, first_from, pending}
pub use Rattle.st_state.specs.declared.devices.Order.{Order}
pub use Rattle.st_exec.specs.Step.{IsStep, interrupt}
unfoldable pub use Rattle.st_exec.specs.Step.{step}
pub use Rattle.st_exec.specs.declared.step.Step.{Step}
pub use Rattle.st_exec.specs.declared.step.Step.TheVariants.{Plain, Interrupt, Waits}
pub use Rattle.st_back.specs.declared.kept.KeptStep.{KeptStep}
pub use Rattle.st_back.specs.Between.{AreAlikeAbove}
pub use Rattle.st_back.specs.Steps.{Steps, IsStepKept, IsForth, IsUndone, IsPut, steps, IsStepSound, AreStepsSound, step_at, steps_with, has_room, newest_step}
unfoldable pub use Rattle.st_back.specs.Steps.{all_undone, states_before}
pub use Rattle.st_back.specs.Undone.{restored_words, with_rest, step_with_word}
unfoldable pub use Rattle.st_back.specs.Undone.{state_with_words, unput, state_undone}
pub use Rattle.st_exec.specs.Trails.{IsTrail, CanBePutBack, IsKeptStep, TrailKeeps}
pub use Rattle.st_exec.specs.declared.kept.Trail.{Trail}
pub use Rattle.st_state.proofs.Placed.{fixed-word}
pub use Rattle.st_exec.proofs.UnwrittenLemmas.{IsBeside, completed-unwritten, beside-rest, beside-first}
