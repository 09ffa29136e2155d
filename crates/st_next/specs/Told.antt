-- The words of the entry that is prepared next, as an observer is notified of them.
--
-- Proved: by their `ensures` clauses these calls do what definitions here say: `advance`
-- (fetch_unit.rt), `begin` (fetch_unit.rt), `plan` (fetch_unit.rt), `plan_before` (fetch_unit.rt),
-- and others.
-- Laws: none names a definition of this file itself.
-- Change: no page fixes these definitions, since no contract of a program unfolds to them; they
-- change together with the clauses, definitions and laws that name them. docs/inside.md describes
-- the subject.
use Rattle.std.specs.Prelude.{ℕ, ◌≡◌, if◌then◌else◌, List, [], ◌++◌}
use Rattle.st_rows.specs.Rows.{own_uses, target_uses, index_uses, words_tick}
use Rattle.st_rows.specs.Supplies.{told}
use Rattle.st_rows.specs.Uses.{uses, unused, wish_of}
use Rattle.st_rows.specs.declared.entry.Entry.{Entry}
use Rattle.st_rows.specs.declared.entry.WordRun.{WordRun}
use Rattle.st_rows.specs.declared.issue.IssueState.{IssueState}
use Rattle.st_rows.specs.declared.uses.Use.{Use}
use Rattle.st_next.specs.Words.{words_alone}
use Rattle.st_next.specs.declared.fetch_unit.FetchUnit.{FetchUnit}

-- the instruction words of the entry e after the issue state f, its own before those of the target of
-- EX
abbrev pub fetches_told : List ℕ → IssueState → Entry → List Use
fetches_told ds f e = told ds f.past (own_uses ds f e) ++ told ds f.past (target_uses ds f e)

-- these and its index-side word: all words that are requested until A
abbrev pub formed_told : List ℕ → IssueState → Entry → List Use
formed_told ds f e = fetches_told ds f e ++ told ds f.past (index_uses ds f e)

-- the instruction words so far
unfoldable pub words_told : List ℕ → IssueState → WordRun → WordRun → List Use
words_told ds f own target = fetches_told ds f (words_alone own target)

-- all words that are requested for it so far
abbrev pub told_so_far : List ℕ → IssueState → FetchUnit → List Use
told_so_far ds f next =
    let bus = (words_tick ds f (words_alone next.entry.own next.entry.target)).bus in
    words_told ds f next.entry.own next.entry.target
    ++ (if next.planned
    then told ds f.past (uses ds f.past (unused bus 0) (wish_of next.entry.side next.formed.a))
    else [])

-- more words are requested for it, in this order, and the observer is notified of them
pub record IsToldFurther {W : Type 0} (noted : List Use → W → W) (ds : List ℕ) (f : IssueState)
    (before after : FetchUnit) (watch new : W) : Type 0 where
  pub used : List Use
  pub so_far : told_so_far ds f after ≡ told_so_far ds f before ++ used
  pub told : new ≡ noted used watch
