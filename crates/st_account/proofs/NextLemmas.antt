-- Lemmas on the account behind a border, before the next entry.
use Rattle.st_account.proofs.Common.{if◌then◌else◌, ◌≡◌, false, [], sym, ◌∙◌, ap, subst, arith, Machine, rests, IsTight, IssueState, next_state, AreWaitsWithin, Border, Account, Last, Crosses, IsNext, Position, IsOpen, CanPass, run_ends}
use Rattle.st_account.proofs.BorderLemmas.{segment-is, issue-after, words-left}
use Rattle.st_account.proofs.LoopLemmas.{left-some}
use Rattle.st_account.proofs.StallLemmas.{words-read}

pub open-same : (l k : Last) → k.issue ≡ l.issue → k.past ≡ l.past → k.tick ≡ l.tick → IsOpen l → IsOpen k
open-same l k issue past tick is =
    let c = ap (λ (f : IssueState). f.c) issue in
    record {
      past = past ∙ is.past ∙ ap (λ (f : IssueState). f.past) (sym issue);
      tight = subst (IsTight 255) (sym issue) is.tight;
      order = omega (arith, is.order, c, tick);
      soon = omega (arith, is.soon, c, tick);
    }

-- the account c is that behind the border except for its words, its buffers and the end of the last entry's segment
pub next-is : (p : Position) (a : Account) → CanPass p a → (o : Account) (x : Border) → Crosses a o x → run_ends p.left p.moment ≡ false
    → (c : Account) → c.k ≡ o.k → c.state ≡ o.state → c.origins ≡ o.origins → c.sums ≡ o.sums
    → c.last.issue ≡ o.last.issue → c.last.past ≡ o.last.past → c.last.tick ≡ o.last.tick → c.last.uses.items ≡ (if x.ends then [] else o.last.uses.items)
    → AreWaitsWithin a.last.tick c.waiting.totals → IsNext p a c
next-is p a can o x crosses going c number state table sums issue past tick uses waits =
    let same_tick : c.last.tick ≡ a.last.tick = tick ∙ ap (λ (l : Last). l.tick) crosses.last in
    let same_state : c.state ≡ a.state = state ∙ ap (λ (y : Account). y.state) crosses.rest in
    record {
      number = number ∙ segment-is p a can.is o x crosses;
      issue = issue ∙ issue-after p a can.is o x crosses;
      tick = same_tick;
      state = same_state;
      origins = table ∙ ap (λ (y : Account). y.origins) crosses.rest;
      sums = sums ∙ ap (λ (y : Account). y.sums) crosses.rest;
      uses = words-left p a can.is o x crosses c.last.uses.items uses;
      ready = record {
        few = omega (arith, can.run.few, left-some p.left (rests (next_state p.moment)) going, ap (λ (s : Machine). s.done) same_state);
        early = omega (arith, same_tick, can.run.early);
        opened = open-same o.last c.last issue past tick crosses.opened;
        read = words-read x.ends a.last.uses.items o.last.uses.items c.last.uses.items (ap (λ (l : Last). l.uses.items) crosses.last) uses can.run.waiting.uses;
        waits = subst (λ t. AreWaitsWithin t c.waiting.totals) (sym same_tick) waits;
      };
    }
