-- Laws of delays and banks, which hold for all reads.
--
-- Proved: each law has its lemma in proofs/Laws.antt, with its name in small letters.
-- Claimed: docs/CLAIMS.md names DelaysAreBounded, ReadsAreAcceptedAtTheirTick,
-- ReadsKeepTheirBankBusy.
-- Change: docs/promises.txt lists each law, and the gate compares the list with the laws.
use Rattle.std.specs.Prelude.{◌≡◌, ◌≢◌, ◌<◌, ◌≤◌, ℕ, List, length, All, Some, None}
use Rattle.st_banks.specs.Bank.{BankTimes, bank_of, last_answer, accept_tick, answer_if_accepted, after_read}
use Rattle.st_banks.specs.Delay.{delay, answer_tick}
use Rattle.st_banks.specs.declared.answers.TheConstants.{BANKS}

-- The delay of a read is at most the longest delay of the list.
abbrev pub DelaysAreBounded : Type 0
DelaysAreBounded = (list : List ℕ) (most tick : ℕ) → 1 ≤ length list → All (λ d. d ≤ most) list →
    delay list tick ≤ most

-- Each word lies in a bank.
abbrev pub WordsLieInBanks : Type 0
WordsLieInBanks = (w : ℕ) → bank_of w < BANKS

-- A read keeps its own bank busy until its answer, and does not affect other banks.
pub record ReadsKeepTheirBankBusy : Type 0 where
  pub own : (m : BankTimes) (v w answer : ℕ) → length m.answers ≡ BANKS → bank_of v ≡ bank_of w →
      last_answer (after_read m w (Some answer)) v ≡ answer
  pub others : (m : BankTimes) (v w answer : ℕ) → bank_of v ≢ bank_of w →
      last_answer (after_read m w (Some answer)) v ≡ last_answer m v

-- A read that is possible from a tick and wanted from a want is accepted at its accept tick, and
-- not earlier.
pub record ReadsAreAcceptedAtTheirTick : Type 0 where
  pub then : (m : BankTimes) (w tick want : ℕ) →
      answer_if_accepted m w (accept_tick m.answers w tick want)
      ≡ Some (answer_tick m.delays (accept_tick m.answers w tick want))
  pub not_before : (m : BankTimes) (w tick want t : ℕ) → tick ≤ t → want ≤ t →
      t < accept_tick m.answers w tick want → answer_if_accepted m w t ≡ None
