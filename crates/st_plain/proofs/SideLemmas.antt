-- The arrival tick of the index-side word, by the last answers of the banks.
use Rattle.st_plain.proofs.Common.{nat_lt, ◌≡◌, ℕ, ◌<◌, ◌≤◌, false, List, length, length-set, Option, Some, refl, sym, ap, ◌∙◌, arith, le-ltb, get_or-set_same, answer_at, bus_after_read, latest_done, bus_after_index_read, side_there, Bus, Past, behind, behind_use, uses}
use Rattle.st_banks.specs.Bank.{bank_of, last_of}
use Rattle.st_banks.specs.declared.answers.TheConstants.{BANKS}
use Rattle.st_banks.proofs.BankLemmas.{bank_of-below}

-- the answer of the read is the last one of its bank
last-answer : (ds : List ℕ) (b : Bus) (w a : ℕ) → length (bus_after_read ds b w a).banks.ticks ≡ BANKS
    → last_of (bus_after_read ds b w a).banks.ticks w ≡ answer_at ds b w a
unfolding bus_after_read
last-answer ds b w a all =
    let x = answer_at ds b w a in
    let few : bank_of w < length b.banks.ticks = omega (arith, bank_of-below w, all, length-set b.banks.ticks (bank_of w) x) in
    get_or-set_same b.banks.ticks (bank_of w) x 0 few

pub there-read : (ds : List ℕ) (past : List Past) (b d : Bus) (w a done x : ℕ) → done ≡ latest_done past w → done ≤ a
    → length d.banks.ticks ≡ BANKS → x ≡ last_of d.banks.ticks w → d ≡ bus_after_index_read ds past b (Some w) a → x ≡ side_there ds past b (Some w) a
unfolding bus_after_index_read side_there behind uses behind_use
there-read ds past b d w a done x is early all last behind =
    let test : nat_lt a (latest_done past w) ≡ false = le-ltb a (latest_done past w) (omega (arith, is, early)) in
    let read : d ≡ bus_after_read ds b w a = rw test at behind in
    last
    ∙ ap (λ (d : Bus). last_of d.banks.ticks w) read
    ∙ last-answer ds b w a (ap (λ (d : Bus). length d.banks.ticks) (sym read) ∙ all)
    ∙ rw test refl

pub there-read_by : (ds : List ℕ) (past : List Past) (b d : Bus) (side : Option ℕ) (w a done x : ℕ) → side ≡ Some w → done ≡ latest_done past w
    → done ≤ a → length d.banks.ticks ≡ BANKS → x ≡ last_of d.banks.ticks w → d ≡ bus_after_index_read ds past b side a → x ≡ side_there ds past b side a
there-read_by ds past b d side w a done x is_some is early all last behind =
    rw is_some (there-read ds past b d w a done x is early all last (rw is_some at behind))
