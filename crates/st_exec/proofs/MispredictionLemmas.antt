-- When an entry is mispredicted, by its instruction and the indicators.
use Rattle.st_exec.proofs.Common.{◌≡◌, ℕ, Bool, false, not, ◌&&◌, ◌==◌, ◌%◌, refl, ◌∙◌, ap, arith, part, words_of_storage_is, bit_of, Instr, BitBranch, IndBranch, indicator_word, Machine, IsMachine, word, Prepared, is_serial_operation, state_at_entry, IsPrepared, is_indicator_branch, with_change, state_with_speculative_changes, is_taken, is_mispredicted}
use Rattle.std.proofs.Common.{get_or-set_same}
use Rattle.st_exec.proofs.AheadLemmas.{change-low, change-marks}

-- the indicator register after the speculative change
early-indicators : (p : Prepared) (s : Machine) → IsMachine s → word (state_with_speculative_changes p s) 11 ≡ indicator_word 64 p.ind.on p.ind.off (word s 11)
unfolding state_with_speculative_changes
early-indicators p s m =
    let u = with_change p.index s in
    get_or-set_same u.words 11 _ 0 (omega (arith, (change-marks p.index s).size, m.size, words_of_storage_is))
    ∙ ap (λ x. indicator_word 64 p.ind.on p.ind.off x) (change-low p.index s 11 (omega arith))

-- a non-serializing entry that is not suppressed is mispredicted if and only if it is taken
mispredicted-taken : (p : Prepared) (s : Machine) → IsPrepared p → p.serial ≡ false → p.suppressed ≡ false
    → is_mispredicted p s ≡ is_taken p.instr p.e (state_with_speculative_changes p s)
unfolding is_mispredicted
mispredicted-taken p s h free whole =
    ap (λ b. not b && not p.suppressed && is_taken p.instr p.e (state_with_speculative_changes p (state_at_entry p.place.table s))) free
    ∙ ap (λ b. not b && is_taken p.instr p.e (state_with_speculative_changes p (state_at_entry p.place.table s))) whole
    ∙ ap (λ k. is_taken p.instr p.e (state_with_speculative_changes p (state_at_entry k s))) (h.ahead free).table

pub mispredicted-branch : (p : Prepared) (s : Machine) (sense off : Bool) (address i second : ℕ) → IsPrepared p → IsMachine s
    → p.serial ≡ false → p.suppressed ≡ false → p.instr ≡ IndBranch sense off address i second
    → is_mispredicted p s ≡ (part (indicator_word 64 p.ind.on p.ind.off (word s 11)) (p.e % 64) 1 == bit_of sense)
unfolding is_taken
mispredicted-branch p s sense off address i second h m free whole is =
    mispredicted-taken p s h free whole
    ∙ ap (λ (instr : Instr). is_taken instr p.e (state_with_speculative_changes p s)) is
    ∙ ap (λ x. part x (p.e % 64) 1 == bit_of sense) (early-indicators p s m)

-- a non-serializing entry other than BI is not a taken branch
not-taken : (instr : Instr) (e : ℕ) (t : Machine) → is_serial_operation instr ≡ false → is_indicator_branch instr ≡ false
    → is_taken instr e t ≡ false
unfolding is_taken is_serial_operation
not-taken (BitBranch sense change address i second) e t free other = cc
not-taken (IndBranch sense off address i second) e t free other = cc
not-taken _ e t free other = refl

pub mispredicted-not : (p : Prepared) (s : Machine) → IsPrepared p → p.serial ≡ false → p.suppressed ≡ false
    → is_indicator_branch p.instr ≡ false → is_mispredicted p s ≡ false
mispredicted-not p s h free whole other =
    mispredicted-taken p s h free whole ∙ not-taken p.instr p.e (state_with_speculative_changes p s) ((h.ahead free).operation whole) other

pub no-branch : (instr : Instr)
    → ((sense off : Bool) (address i second : ℕ) → instr ≡ IndBranch sense off address i second → ⊥)
    → is_indicator_branch instr ≡ false
no-branch (IndBranch sense off address i second) other = absurd (other sense off address i second refl)
no-branch _ other = refl
