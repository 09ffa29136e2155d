-- Each word that an entry reads is accepted no earlier than it is wanted, and answered no earlier
-- than it is accepted.
use Rattle.st_ledger.proofs.Common.{Option, None, Some, All, ℕ, List, sym, subst, arith, cond_both, All-append, tick_of, Words, latest_done, tick_a, tick_p, is_forwarded, Bus, Entry, IssueState, Past, Role, Instruction, Index, Operand, Following, Read, Forwarded, Register, fetch_uses, uses_of_entry, read_ticks, fetch_supply, storage_supply, writer_back, IsReadInTime, read_of}
use Rattle.st_ledger.proofs.EachUse.{other_uses, two-parts, each-fetch, each-other}

-- ---- a word

fetched : (o : Option ℕ) (role : Role) (ds : List ℕ) (b : Bus) (w want : ℕ)
    → IsReadInTime (record { role = role; word = w; supply = fetch_supply o ds b w want })
unfolding read_of
fetched None role ds b w want = record { wanted = omega arith; answered = omega arith }
fetched (Some tick) role ds b w want = record { wanted = omega arith; answered = omega arith }

stored : (role : Role) (ds : List ℕ) (past : List Past) (b : Bus) (w tick : ℕ)
    → IsReadInTime (record { role = role; word = w; supply = storage_supply ds past b w tick })
unfolding read_of
stored role ds past b w tick =
    cond_both (is_forwarded past w tick) (Forwarded (record { back = writer_back past w; done = latest_done past w })) (Read (read_ticks ds b w tick))
    (λ s. IsReadInTime (record { role = role; word = w; supply = s }))
    (λ yes_forwarded. record { wanted = omega arith; answered = omega arith })
    (λ no_writer. record { wanted = omega arith; answered = omega arith })

register : (role : Role) (w : ℕ) → IsReadInTime (record { role = role; word = w; supply = Register })
unfolding read_of
register role w = record { wanted = omega arith; answered = omega arith }

-- ---- all words

others-in-time : (ds : List ℕ) (n : ℕ) (f : IssueState) (e : Entry) (o : Option ℕ) (reads : Words) → All IsReadInTime (other_uses ds n f e o reads)
unfolding other_uses
others-in-time ds n f e o reads =
    each-other IsReadInTime ds n f e (λ w. register Operand w) (λ b w. stored Operand ds f.past b w (tick_p ds n f e))
    (λ b w. fetched (tick_of b.held.words w) Following ds b w (tick_p ds n f e))
    (λ w. register Index w) (λ b w. stored Index ds f.past b w (tick_a ds f e)) o reads

pub uses-in-time : (ds : List ℕ) (n : ℕ) (f : IssueState) (e : Entry) (o : Option ℕ) (reads : Words) → All IsReadInTime (uses_of_entry ds n f e o reads)
uses-in-time ds n f e o reads =
    subst (All IsReadInTime) (sym (two-parts ds n f e o reads))
    (All-append IsReadInTime (fetch_uses ds f e) (other_uses ds n f e o reads)
    (each-fetch IsReadInTime ds f e (λ v least most o b want. fetched o Instruction ds b v want) (λ v least most o b want. fetched o Instruction ds b v want))
    (others-in-time ds n f e o reads))
