-- Proofs of the laws of preparation.
use Rattle.st_prep.proofs.PlanLemmas.{plan-prepared, target-serial}
use Rattle.st_prep.proofs.PreparedLemmas.{same_serial, prepared-read}
use Rattle.st_prep.proofs.ReadingLemmas.{fetched-outcome, reading-few, reading-own, next-same, outcome-same}
use Rattle.st_prep.proofs.AlikeLemmas.{plan-read, plan-alike, plan-alike_ahead}
use Rattle.st_prep.proofs.CountLemmas.{few-plan}
use Rattle.st_prep.proofs.FewLemmas.{prepared-read_few, prepared-written_few, prepared-most}
use Rattle.st_prep.proofs.BesideLemmas.{plan-beside, plan-beside_ahead}
use Rattle.st_prep.specs.Laws.{PlansAreInRange, LooksAgree, IndexSideWordsChangeIndexWordsAlone, EntriesWithATargetAreAlone, InstructionWordsComeOneByOne, PlansDependOnWhatIsRead, IndicatorsAreNotSeen, EntriesRead36WordsAtMost, OperandsAreFew, OrdersAreNotSeen}

pub plans_are_in_range : PlansAreInRange
plans_are_in_range = plan-prepared

pub looks_agree : LooksAgree
looks_agree = same_serial

pub index_side_words_change_index_words_alone : IndexSideWordsChangeIndexWordsAlone
index_side_words_change_index_words_alone = prepared-read

pub entries_with_a_target_are_alone : EntriesWithATargetAreAlone
entries_with_a_target_are_alone = target-serial

pub instruction_words_come_one_by_one : InstructionWordsComeOneByOne
instruction_words_come_one_by_one = record {
  found = fetched-outcome;
  few = λ x b on p e. (reading-few x b on p e).few;
  own = reading-own;
  above = λ x b on p e. (reading-few x b on p e).above;
  inside = λ x b on p e. (reading-few x b on p e).inside;
  next = λ r n e d h. next-same n r e d h;
  same = outcome-same;
}

pub plans_depend_on_what_is_read : PlansDependOnWhatIsRead
plans_depend_on_what_is_read = plan-read

pub indicators_are_not_seen : IndicatorsAreNotSeen
indicators_are_not_seen = record { plan = plan-alike; ahead = plan-alike_ahead }

pub entries_read_36_words_at_most : EntriesRead36WordsAtMost
entries_read_36_words_at_most = few-plan

pub operands_are_few : OperandsAreFew
operands_are_few = record {
  read = prepared-read_few;
  written = prepared-written_few;
  most_read = λ p h. (prepared-most p h).0;
  most_written = λ p h. (prepared-most p h).1;
}

pub orders_are_not_seen : OrdersAreNotSeen
orders_are_not_seen = record { plan = plan-beside; ahead = plan-beside_ahead }
