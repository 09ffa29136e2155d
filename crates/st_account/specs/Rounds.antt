-- What one round of the loop over entries does to the account: it takes the events after an entry,
-- crosses the border to the next entry, and completes that one. The machine has the delays ds and n
-- levels.
--
-- Proved: by their `ensures` clauses these calls do what definitions here say: `look_if`
-- (account.rt), `skip_to_next` (account.rt), `step` (account.rt), `look_behind` (behind.rt), and
-- others.
-- Laws: none names a definition of this file itself.
-- Change: no page fixes these definitions, since no contract of a program unfolds to them; they
-- change together with the clauses, definitions and laws that name them. docs/ledger.md describes
-- the subject.
use Rattle.std.specs.Prelude.{ℕ, suc, ◌+◌, ◌≡◌, ◌≢◌, ◌<◌, ◌≤◌, ◌^◌, ◌||◌, length, false, nat_eq, if◌then◌else◌, is_some, List, [], ◌∷◌, ◌++◌, map, All, Option, None}
use Rattle.st_bits.specs.declared.limits.TheConstants.{MOST_DELAY, MOST_INSTRUCTIONS}
use Rattle.st_banks.specs.Bank.{idle_banks}
use Rattle.st_state.specs.Machine.{Machine, IsMachine, word}
use Rattle.st_exec.specs.Ahead.{IsNotAmong}
use Rattle.st_exec.specs.Completion.{prediction}
use Rattle.st_exec.specs.Step.{interrupt, step}
use Rattle.st_rows.specs.Asked.{made_before}
use Rattle.st_rows.specs.BusTimes.{Read}
use Rattle.st_prep.specs.Plan.{plan as plan_of}
use Rattle.st_prep.specs.Ranges.{IsPrepared}
use Rattle.st_rows.specs.Rows.{opening_issue, row_of_entry, issue_after_entry}
use Rattle.st_segment.specs.Entries.{entry}
use Rattle.st_rows.specs.declared.bus.Bus.{Bus}
use Rattle.st_rows.specs.declared.log.Made.{Made}
use Rattle.st_segment.specs.Ahead.{ahead, prepared_before, reads_before}
use Rattle.st_run.specs.ExternalEvents.{PendingEvents, scene_at}
use Rattle.st_run.specs.Moments.{Moment, Standing, next_scene, next_issue, next_moment}
use Rattle.st_ledger.specs.Ledger.{charges_at}
use Rattle.st_ledger.specs.Totals.{AreWithin}
use Rattle.st_ledger.specs.Sums.{AreWaitsWithin, row_stalled}
use Rattle.st_ledger.specs.Words.{IsReadInTime}
use Rattle.st_ledger.specs.declared.charges.Stage.{Stage}
use Rattle.st_ledger.specs.declared.waits.Stall.{Stall}
use Rattle.st_lines.specs.Origins.{origin_at}
use Rattle.st_lines.specs.declared.lines.Why.{Why}
use Rattle.st_lines.specs.declared.lines.Why.TheVariants.{Run}
use Rattle.st_lines.specs.declared.writing.Border.{Border}
use Rattle.st_ledger.specs.Reasons.{because}
use Rattle.st_plain.specs.Looking.{seen_ahead, first_late, level_wait, side_at}
use Rattle.st_plain.specs.Uses.{formed_uses, uses_of_entry}
use Rattle.st_account.specs.declared.account.Account.{Account}
use Rattle.st_account.specs.declared.behind.Behind.{Behind}
use Rattle.st_account.specs.declared.last.Last.{Last}
use Rattle.st_account.specs.LedgerTables.{row_at}
use Rattle.st_account.specs.Standing.{Position, position, predicting, HasReads, IsLast, IsOpen, IsWaiting, charges_kept, kept_stalled, IsAt, CanPass}
use Rattle.st_account.specs.Tallying.{CountAs, kept_rows, IsOrdered}
use Rattle.st_account.specs.Text.{why_by, segment_after, uses_at, words_before}

-- The account before the first entry of a machine in its initial state: no tick has passed, and no
-- row has been added.
pub record IsAtStart (s : Machine) (a : Account) : Type 0 where
  pub state : a.state ≡ s
  pub machine : IsMachine s
  pub number : a.k ≡ 0
  pub tick : a.last.tick ≡ 0
  pub issue : a.last.issue ≡ opening_issue idle_banks 0
  pub opened : IsOpen a.last
  pub mispredicted : a.last.done.mispredicted ≡ false
  pub counter : a.last.ic ≡ s.ic
  pub below : a.last.ic < 2 ^ 19
  pub enabled : a.last.enabled ≡ s.enabled
  pub unused : a.last.uses.items ≡ []
  pub before : a.last.done.before ≡ 0
  pub log : a.log ≡ []
  pub none : AreWithin 0 a.sums
  pub waiting : IsWaiting a.last a.waiting.totals
  pub unwaited : AreWaitsWithin 0 a.waiting.totals

-- ---- the events after an entry

-- the account agrees with a moment of a run in which so many entries may still complete
pub record IsUnderWay (ds : List ℕ) (n left : ℕ) (a : Account) (x : PendingEvents) : Type 0 where
  pub before : Machine
  pub moment : Moment
  pub at : IsAt (position ds n left before moment) a x

-- the entries that ran ahead of the last entry, which left the state s, the next one after them,
-- and the banks as of its completion
pub record HasFound (ds : List ℕ) (n : ℕ) (s : Machine) (l : Last) (log : List Made) (b : Behind) :
    Type 0 where
  pub found : b.ahead.found.items ≡ map (seen_ahead ds n) (prepared_before l.tick
      (ahead ds n n None (predicting l.ic s) l.issue))
  pub begun : b.ahead.late ∷ [] ≡ map (seen_ahead ds n) (first_late l.tick
      (ahead ds n (suc n) None (predicting l.ic s) l.issue))
  pub banks : (reads : List Read) (bus : Bus) → HasReads ds l.tick reads bus l.issue.bus log →
      b.banks ≡ (made_before ds l.tick
      (reads ++ reads_before ds n l.tick
      (ahead ds n (suc n) None (predicting l.ic s) l.issue)) bus).banks

-- if the log has the reads of the last entry, the banks answer soon after it
abbrev pub AnswerSoon : List ℕ → Last → List Made → Behind → Type 0
AnswerSoon ds l log b = (reads : List Read) (bus : Bus) →
    HasReads ds l.tick reads bus l.issue.bus log → All (λ t. t ≤ l.tick + MOST_DELAY) b.banks.ticks

-- the events after a moment have been taken; these are still to come
pub record HasTakenEvents (p : Position) (a : Account) (x : PendingEvents) : Type 0 where
  pub behind : CanPass p a
  pub scene : next_scene p.moment ≡ scene_at a.state x

-- ---- the border to the next entry

-- the border x between the last entry of an account and the next one, whose segment, if one begins
-- there, begins at the tick `start`
pub record IsBorderOf (a : Account) (start : ℕ) (x : Border) : Type 0 where
  pub value : x ≡ record {
    ends = x.ends;
    begins = x.begins;
    start = start;
    waited = a.behind.waited;
    why = if nat_eq a.k 0 then Run else why_by (interrupt a.state) a.last.done.mispredicted;
    taken = interrupt a.state;
    done = a.state.done;
  }
  pub ends : x.ends ≡ (a.last.done.mispredicted || a.behind.card || a.behind.waited
      || is_some (interrupt a.state))
  pub begins : x.begins ≡ (nat_eq a.k 0 || x.ends)

-- The account c is the account a with the issue state and the segment of the next entry, behind the
-- border x.
pub record Crosses (a c : Account) (x : Border) : Type 0 where
  pub border : IsBorderOf a c.last.issue.c x
  pub issue : c.last.issue ≡ (if x.ends then opening_issue a.behind.banks
      (a.last.tick + 1 + length a.behind.ahead.found.items) else a.last.issue)
  pub segment : c.k ≡ (if x.begins then a.k + 1 else a.k)
  pub last : c.last ≡ record a.last { issue = c.last.issue; past = c.last.past }
  pub rest : c ≡ record a { last = c.last; k = c.k }
  pub opened : IsOpen c.last

-- the next entry can be completed: no number is beyond its limit, and the waits so far are within
-- the ticks so far
pub record CanStep (c : Account) : Type 0 where
  pub few : c.state.done < MOST_INSTRUCTIONS
  pub early : c.last.tick ≤ 2 ^ 62
  pub opened : IsOpen c.last
  pub read : All IsReadInTime c.last.uses.items
  pub waits : AreWaitsWithin c.last.tick c.waiting.totals

-- The account c is the account a, which is behind a moment, before the next entry: the issue state,
-- the segment and the words that its lines compare with are those of the next entry.
pub record IsNext (p : Position) (a c : Account) : Type 0 where
  pub number : c.k ≡ segment_after a.k p.moment
  pub issue : c.last.issue ≡ next_issue p.moment
  pub tick : c.last.tick ≡ a.last.tick
  pub state : c.state ≡ a.state
  pub origins : c.origins ≡ a.origins
  pub sums : c.sums ≡ a.sums
  pub uses : c.last.uses.items ≡ words_before p.moment a.last.uses.items
  pub ready : CanStep c

-- ---- the next entry

-- The facts l become the facts j of the next entry of the state s: the entry is prepared, and its row,
-- its words and the issue state after it are computed from the issue state of l.
pub record HasRow (ds : List ℕ) (n : ℕ) (taken : Option ℕ) (s : Machine) (l j : Last) : Type 0 where
  pub plan : j.unit.prepared ≡ plan_of s taken
  pub prepared : IsPrepared j.unit.prepared
  pub ticks : j.done.row.ticks ≡ row_of_entry ds n l.issue (entry taken s)
  pub wait : j.done.row.level_wait ≡ level_wait ds n l.issue (entry taken s)
  pub uses : j.uses.items
      ≡ uses_of_entry ds n l.issue (entry taken s) (side_at taken s) (plan_of s taken).reads
  pub earlier : j.uses.before ≡ l.uses.items
  pub issue : j.issue ≡ issue_after_entry ds n l.issue (entry taken s)
  pub past : j.past ≡ j.issue.past
  pub tick : j.tick ≡ j.done.row.ticks.c
  pub rest : j.done ≡ record l.done { row = j.done.row; because = j.done.because }

-- the cause that delayed that entry is the one that its row shows
abbrev pub HasCause : List ℕ → Option ℕ → Machine → Last → Last → Type 0
HasCause ds taken s l j =
    j.done.because ≡ because l.issue (entry taken s) j.done.row.ticks.a j.done.row.ticks.p
    j.done.row.level_wait (formed_uses ds l.issue (entry taken s) (side_at taken s)) l.uses.items

-- The account d is the account c after the execution of the next entry, whose row has been computed;
-- its charges may have been added.
pub record IsStepped (c d : Account) : Type 0 where
  pub state : d.state ≡ step c.state
  pub enabled : d.last.enabled ≡ c.state.enabled
  pub prediction : predicting d.last.ic d.state ≡ prediction (interrupt c.state) c.state
  pub left : (w : ℕ) → 32 ≤ w → IsNotAmong w d.last.unit.prepared.writes →
      word d.state w ≡ word c.state w
  pub past : d.last.past ≡ d.last.issue.past
  pub counter : d.last.ic < 2 ^ 19
  pub ordered : IsOrdered d.last
  pub before : d.last.done.before ≡ c.last.tick
  pub waiting : IsWaiting d.last d.waiting.totals
  pub rest : d ≡ record c { state = d.state; last = d.last; log = d.log; sums = d.sums }

-- The last entry of the account d, which has been c, is the one that stood at p: its row, its words,
-- its charges and its waits are those of p.
pub record Completes (ds : List ℕ) (n : ℕ) (p : Standing) (c d : Account) : Type 0 where
  pub last : IsLast ds n (next_moment ds n p) d.last d.log
  pub uses : d.last.uses.items ≡ uses_at ds n p
  pub charges : charges_kept d.last ≡ charges_at ds n p
  pub stalled : (r : Stage) (s : Stall) → c.k ≢ 0 → kept_stalled r s d.k d.last
      ≡ row_stalled r s (uses_at ds n p) c.last.uses.items (charges_at ds n p)
  pub row : (end : Option ℕ) (w : Why) → c.k ≢ 0 → CountAs (kept_rows d.k d.last end w)
      (row_at (origin_at c.origins) ds n end w c.last.uses.items p ∷ [])
