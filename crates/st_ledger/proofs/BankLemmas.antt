-- Each read finds its bank busy as long as the previous read in it determines.
use Rattle.st_ledger.proofs.Common.{nat_eq, All, reverse, ◌≡◌, ℕ, true, false, List, [], ◌∷◌, ◌++◌, inl, inr, refl, sym, ◌∙◌, ap, subst, cases_Bool, eqb-true, eq-eqb, length-set, All-head, All-tail, LastAnswers, bus_after_reads, reads_of_entry, answer_at, bus_after_read, after_one, Bus, read_ticks, Use, Told, IsTold, issue_of, uses_behind, all_uses, Served, served, reads_told, busy_until, AreBankedBehind, is_read, read_of}
use Rattle.std.specs.Prelude.{length}
use Rattle.st_banks.specs.Bank.{BankTimes, bank_of, last_of, answered_at}
use Rattle.st_banks.specs.declared.answers.TheConstants.{BANKS}
use Rattle.st_banks.proofs.Laws.{reads_keep_their_bank_busy}
use Rattle.st_rows.specs.BusTimes.{Read}
use Rattle.st_rows.proofs.Laws.{rows_make_their_reads}
use Rattle.st_rows.specs.declared.uses.ReadTicks.{ReadTicks}
use Rattle.st_ledger.proofs.BusLemmas.{told-of-entry}
use Rattle.st_ledger.proofs.Chains.{pour-cons}

-- ---- the invariant of the words so far and the bus b after them

pub record AreBanked (banks : LastAnswers) (b : Bus) (us : List Use) : Type 0 where
  pub each : AreBankedBehind banks us
  pub until : (w : ℕ) → last_of b.banks.ticks w ≡ busy_until banks us w
  pub whole : length b.banks.ticks ≡ BANKS

module _ (banks : LastAnswers) where
  until-other : (u : Use) (us : List Use) (w : ℕ) → is_read u.supply ≡ false → busy_until banks (u ∷ us) w ≡ busy_until banks us w
  unfolding busy_until
  until-other u us w none = rw none refl

  until-same : (u : Use) (us : List Use) (w : ℕ) → is_read u.supply ≡ true → nat_eq (bank_of u.word) (bank_of w) ≡ true
      → busy_until banks (u ∷ us) w ≡ (read_of u.supply).answer
  unfolding busy_until
  until-same u us w is same = rw (is, same) refl

  until-apart : (u : Use) (us : List Use) (w : ℕ) → is_read u.supply ≡ true → nat_eq (bank_of u.word) (bank_of w) ≡ false
      → busy_until banks (u ∷ us) w ≡ busy_until banks us w
  unfolding busy_until
  until-apart u us w is apart = rw (is, apart) refl

  one-passed : (b : Bus) (u : Use) (us : List Use) → is_read u.supply ≡ false → AreBanked banks b us → AreBanked banks b (u ∷ us)
  unfolding AreBankedBehind
  one-passed b u us none are = record {
    each = ((λ is. absurd (cc)), are.each);
    until = λ w. are.until w ∙ sym (until-other u us w none);
    whole = are.whole;
  }

  module _ (ds : List ℕ) where
    pub left-by : (b : Bus) (r : Read) → (after_one ds b r).banks.ticks ≡ answered_at b.banks.ticks r.w (answer_at ds b r.w r.want)
    unfolding bus_after_read
    left-by b r = elim (cases_Bool r.fetch) [ inl y ↦ rw y refl | inr m ↦ rw m refl ]

    one-served : (b : Bus) (r : Read) (u : Use) (us : List Use) → is_read u.supply ≡ true → u.word ≡ r.w → read_of u.supply ≡ read_ticks ds b r.w r.want
        → AreBanked banks b us → AreBanked banks (after_one ds b r) (u ∷ us)
    unfolding AreBankedBehind
    one-served b r u us is same at are =
        let m : BankTimes = record { delays = ds; answers = b.banks.ticks } in
        let answer = answer_at ds b r.w r.want in
        let free : (read_of u.supply).free ≡ last_of b.banks.ticks u.word = ap (λ (t : ReadTicks). t.free) at ∙ ap (last_of b.banks.ticks) (sym same) in
        record {
          each = ((λ read. free ∙ are.until u.word), are.each);
          until = λ w. ap (λ ticks. last_of ticks w) (left-by b r) ∙ elim (cases_Bool (nat_eq (bank_of u.word) (bank_of w))) [
            | inl y ↦
                let banked : bank_of w ≡ bank_of r.w = sym (eqb-true _ _ y) ∙ ap bank_of same in
                reads_keep_their_bank_busy.own m w r.w answer are.whole banked
                ∙ sym (ap (λ (t : ReadTicks). t.answer) at) ∙ sym (until-same u us w is y)
            | inr n ↦
                reads_keep_their_bank_busy.others m w r.w answer (λ e. let y = eq-eqb (bank_of u.word) (bank_of w) (ap bank_of same ∙ sym e) in absurd (cc))
                ∙ are.until w ∙ sym (until-apart u us w is n)
          ];
          whole = ap (λ ticks. length ticks) (left-by b r) ∙ length-set b.banks.ticks (bank_of r.w) answer ∙ are.whole;
        }

    -- ---- several reads

    first-read : (u : Use) (vs : List Use) (reads : List Read) (b : Bus) (us : List Use)
        → ((rest : List Read) (c : Bus) → reads_told vs ≡ served ds rest c → AreBanked banks c (u ∷ us)
        → AreBanked banks (bus_after_reads ds rest c) (reverse vs ++ (u ∷ us)))
        → is_read u.supply ≡ true
        → record { w = u.word; ticks = read_of u.supply } ∷ reads_told vs ≡ served ds reads b → AreBanked banks b us
        → AreBanked banks (bus_after_reads ds reads b) (reverse (u ∷ vs) ++ us)
    unfolding served bus_after_reads
    first-read u vs [] b us further is same are = absurd (cc)
    first-read u vs (r ∷ reads) b us further is same are =
        let one : Served = record { w = u.word; ticks = read_of u.supply } in
        let two : Served = record { w = r.w; ticks = read_ticks ds b r.w r.want } in
        let head : one ≡ two = cc in
        let tail : reads_told vs ≡ served ds reads (after_one ds b r) = cc in
        subst (AreBanked banks (bus_after_reads ds reads (after_one ds b r))) (sym (pour-cons u vs us))
        (further reads (after_one ds b r) tail
        (one-served b r u us is (ap (λ (s : Served). s.w) head) (ap (λ (s : Served). s.ticks) head) are))

    pub banked : (vs : List Use) (reads : List Read) (b : Bus) (us : List Use) → reads_told vs ≡ served ds reads b → AreBanked banks b us
        → AreBanked banks (bus_after_reads ds reads b) (reverse vs ++ us)
    unfolding reads_told served bus_after_reads
    banked [] [] b us same are = are
    banked [] (r ∷ reads) b us same are = absurd (cc)
    banked (u ∷ vs) reads b us same are = elim (cases_Bool (is_read u.supply)) [
      | inl y ↦
          let one : Served = record { w = u.word; ticks = read_of u.supply } in
          let here : reads_told (u ∷ vs) ≡ one ∷ reads_told vs = rw y refl in
          first-read u vs reads b us (λ rest c told. banked vs rest c (u ∷ us) told) y (sym here ∙ same) are
      | inr m ↦
          let here : reads_told (u ∷ vs) ≡ reads_told vs = rw m refl in
          subst (AreBanked banks (bus_after_reads ds reads b)) (sym (pour-cons u vs us))
          (banked vs reads b (u ∷ us) (sym here ∙ same) (one-passed b u us m are))
    ]

-- ---- the segment

module _ (ds : List ℕ) (n : ℕ) (banks : LastAnswers) (start : ℕ) (whole : length banks.ticks ≡ BANKS) where
  segment-banked : (rows : List Told) → All IsTold rows → AreBanked banks (issue_of ds n banks start rows).bus (all_uses ds n banks start rows)
  unfolding issue_of all_uses uses_behind AreBankedBehind busy_until
  segment-banked [] all = record { each = tt; until = λ w. refl; whole = whole }
  segment-banked (x ∷ rows) all =
      let f = issue_of ds n banks start rows in
      let e = x.entry in
      let is = segment-banked rows (All-tail IsTold x rows all) in
      subst (λ b. AreBanked banks b (reverse (uses_behind ds n banks start rows x) ++ all_uses ds n banks start rows)) (rows_make_their_reads.bus ds n f e)
      (banked banks ds (uses_behind ds n banks start rows x) (reads_of_entry ds n f e) f.bus (all_uses ds n banks start rows)
      (told-of-entry ds n f e x.side x.reads (All-head IsTold x rows all).side) is)

pub segment-held : (ds : List ℕ) (n : ℕ) (banks : LastAnswers) (start : ℕ) (rows : List Told) → length banks.ticks ≡ BANKS → All IsTold rows
    → AreBankedBehind banks (all_uses ds n banks start rows)
segment-held ds n banks start rows whole all = (segment-banked ds n banks start whole rows all).each
