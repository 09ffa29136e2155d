-- Proofs of the laws of delays and banks.
use Rattle.std.proofs.Common.{◌<◌, length, get_or-set_same, arith, rules}
use Rattle.st_banks.specs.Bank.{bank_of}
use Rattle.st_banks.proofs.BankLemmas.{bank_of-below}
use Rattle.st_banks.specs.Laws.{DelaysAreBounded, WordsLieInBanks, ReadsKeepTheirBankBusy, ReadsAreAcceptedAtTheirTick}

pub delays_are_bounded : DelaysAreBounded
delays_are_bounded = search rules

pub words_lie_in_banks : WordsLieInBanks
unfolding bank_of
words_lie_in_banks = search rules

pub reads_keep_their_bank_busy : ReadsKeepTheirBankBusy
reads_keep_their_bank_busy = record {
  own = λ m v w answer is same.
      let inside : bank_of w < length m.answers = omega (arith, bank_of-below w, is) in
      rw same (get_or-set_same m.answers (bank_of w) answer 0 inside);
  others = search rules;
}

pub reads_are_accepted_at_their_tick : ReadsAreAcceptedAtTheirTick
reads_are_accepted_at_their_tick = record {
  «then» = search rules;
  not_before = search rules;
}
