-- Lemmas on adding up all slots.
use Rattle.st_tally.proofs.Common.{length, ◌≡◌, ℕ, suc, ◌+◌, ◌≤◌, ◌<◌, ◌^◌, true, ◌∙◌, ap, refl, arith, sum_at, share_at, waited_at, is_parted, Stage, Restart, Instruction, Address, Index, Preparing, Operand, Executing, Shares, WaitTotals, Totals, Stall, Turn, Bank, Storage, sum_below, AreTablesWithin, CanAddTotals, CanAddShares, CanAddWaits, both_totals, both_waits, card_sum, Tables}
use Rattle.st_tally.proofs.SlotLemmas.{below-part}
use Rattle.st_tally.proofs.WaitSums.{both-at}

both-ticks : (s : Stage) (a b : Totals) → sum_at s (both_totals a b) ≡ sum_at s a + sum_at s b
both-ticks Restart a b = refl
both-ticks Instruction a b = refl
both-ticks Address a b = refl
both-ticks Index a b = refl
both-ticks Preparing a b = refl
both-ticks Operand a b = refl
both-ticks Executing a b = refl

-- no slot is added yet
pub below-zero : (g : ℕ → ℕ) (n : ℕ) → n ≡ n + sum_below g 0
unfolding sum_below
below-zero g n = omega arith

-- all slots are added
pub below-all : (g : ℕ → ℕ) (a k n : ℕ) → k ≤ n → n ≤ k → a + sum_below g k ≡ a + sum_below g n
below-all g a k n few many = let same : k ≡ n = omega (arith, few, many) in ap (λ j. a + sum_below g j) same

below-next : (g : ℕ → ℕ) (k : ℕ) → sum_below g (k + 1) ≡ sum_below g k + g k
unfolding sum_below
below-next g k = let one : k + 1 ≡ suc k = omega arith in ap (sum_below g) one

-- there is room for one slot more
below-room : (g : ℕ → ℕ) (k n a : ℕ) → k < n → a + sum_below g n ≤ 2 ^ 63 → (a + sum_below g k) + g k < 2 ^ 64
below-room g k n a less few = omega (arith, few, below-next g k, below-part g (k + 1) n (omega (arith, less)))

module _ (t : Tables) (within : AreTablesWithin (2 ^ 63) t) (k : ℕ) (less : k < length t.cards.items) where
  -- the ticks by stage
  module _ (sums more : Totals) (so_far : (s : Stage) → sum_at s sums ≡ sum_at s t.others.sums + sum_below (λ j. sum_at s (card_sum t j).sums) k)
      (is : more ≡ (card_sum t k).sums) where
    fits : (s : Stage) → sum_at s sums + sum_at s more < 2 ^ 64
    fits s =
        let room = below-room (λ j. sum_at s (card_sum t j).sums) k (length t.cards.items) (sum_at s t.others.sums) less (within.stages s) in
        omega (arith, room, so_far s, ap (sum_at s) is)

    pub totals-fit : CanAddTotals sums more
    totals-fit = record {
      restart = fits Restart;
      instruction = fits Instruction;
      address = fits Address;
      index = fits Index;
      preparing = fits Preparing;
      operand = fits Operand;
      executing = fits Executing;
    }

    pub totals-next : (new : Totals) → new ≡ both_totals sums more → (s : Stage)
        → sum_at s new ≡ sum_at s t.others.sums + sum_below (λ j. sum_at s (card_sum t j).sums) (k + 1)
    totals-next new added s =
        let now : sum_at s new ≡ sum_at s sums + sum_at s more = ap (sum_at s) added ∙ both-ticks s sums more in
        omega (arith, now, so_far s, ap (sum_at s) is, below-next (λ j. sum_at s (card_sum t j).sums) k)

  -- the ticks of waits
  module _ (sums more : WaitTotals)
      (so_far : (r : Stage) (s : Stall) → is_parted r ≡ true
      → waited_at r s sums ≡ waited_at r s t.others.waits + sum_below (λ j. waited_at r s (card_sum t j).waits) k)
      (is : more ≡ (card_sum t k).waits) where
    waits-room : (r : Stage) (s : Stall) → is_parted r ≡ true → waited_at r s sums + waited_at r s more < 2 ^ 64
    waits-room r s parted =
        let room = below-room (λ j. waited_at r s (card_sum t j).waits) k (length t.cards.items) (waited_at r s t.others.waits) less (within.waits r s parted) in
        omega (arith, room, so_far r s parted, ap (waited_at r s) is)

    shares-room : (a b : Shares) → ((s : Stall) → share_at s a + share_at s b < 2 ^ 64) → CanAddShares a b
    shares-room a b each = record { turn = each Turn; bank = each Bank; storage = each Storage }

    pub waits-fit : CanAddWaits sums more
    waits-fit = record {
      instruction = shares-room sums.instruction more.instruction (λ s. waits-room Instruction s refl);
      index = shares-room sums.index more.index (λ s. waits-room Index s refl);
      operand = shares-room sums.operand more.operand (λ s. waits-room Operand s refl);
    }

    pub waits-next : (new : WaitTotals) → new ≡ both_waits sums more → (r : Stage) (s : Stall) → is_parted r ≡ true
        → waited_at r s new ≡ waited_at r s t.others.waits + sum_below (λ j. waited_at r s (card_sum t j).waits) (k + 1)
    waits-next new added r s parted =
        let now : waited_at r s new ≡ waited_at r s sums + waited_at r s more = ap (waited_at r s) added ∙ both-at r s sums more in
        omega (arith, now, so_far r s parted, ap (waited_at r s) is, below-next (λ j. waited_at r s (card_sum t j).waits) k)
