-- The indicator of an entry that is suppressed, and the facts about an entry in sequence.
use Rattle.st_lines.proofs.Common.{◌==◌, if◌then◌else◌, Result, Ok, Err, IsErr, ◌≡◌, ◌≢◌, ℕ, suc, ◌+◌, ◌-◌, ◌≤◌, None, Some, true, false, List, [], ◌++◌, refl, sym, ◌∙◌, subst, append_assoc, arith, nat_tests, OutputState, Failed, WritesLines, LinesSoFar, lines_more, lines_failed, wrote_nothing, Use, alone_by, alone_lines, suppressed_by, suppressed_lines, emitted_lines, code_lines, run_lines, index_lines, facts_lines, use_lines, Origin}
use Rattle.std.proofs.Common.{Option, Bool}
use Rattle.st_bits.specs.Indicators.{indicator}
use Rattle.st_state.specs.Interrupts.{first_from}
use Rattle.st_prep.specs.declared.entries.Prepared.{Prepared}
use Rattle.st_plain.specs.declared.known.Known.{Known}
use Rattle.st_lines.specs.declared.lines.Alone.{Alone}

first-step : (p : ℕ → Bool) (i n m : ℕ) → n ≡ suc m → first_from p i n ≡ (if p i then Some i else first_from p (i + 1) m)
unfolding first_from
first-step p i n m is = rw is refl

pub number-none : (on i : ℕ) → i ≡ 64 → None ≡ first_from (λ n. indicator n == on) i (64 - i)
unfolding first_from
number-none on i is = rw is refl

same : (a b : ℕ) → a ≡ b → (a == b) ≡ true
same a b h = grind (arith, nat_tests, h)

differs : (a b : ℕ) → a ≢ b → (a == b) ≡ false
differs a b h = grind (arith, nat_tests, h)

module _ (on i : ℕ) (few : i ≤ 64) (some : i ≢ 64) where
  step : first_from (λ n. indicator n == on) i (64 - i)
      ≡ (if indicator i == on then Some i else first_from (λ n. indicator n == on) (i + 1) (64 - (i + 1)))
  step = first-step (λ n. indicator n == on) i (64 - i) (64 - (i + 1)) (omega (arith, few, some))

  pub number-here : (x : ℕ) → x ≡ indicator i → x ≡ on → Some i ≡ first_from (λ n. indicator n == on) i (64 - i)
  number-here x is h = sym (step ∙ rw (same (indicator i) on (sym is ∙ h)) refl)

  pub number-later : (x : ℕ) (r : Option ℕ) → x ≡ indicator i → x ≢ on → r ≡ first_from (λ n. indicator n == on) (i + 1) (64 - (i + 1))
      → r ≡ first_from (λ n. indicator n == on) i (64 - i)
  number-later x r is h later = later ∙ sym (step ∙ rw (differs (indicator i) on (λ e. h (is ∙ e))) refl)

-- ---- the facts about an entry, written in the order of their lines

module _ (s : OutputState) (n : ℕ) (end : Option ℕ) (p : Prepared) (k : Known) (origin : Option Origin) (uses : List Use) where
  abbrev all : List (List ℕ)
  all = facts_lines n end p k origin uses

  -- the lines of the words that the entry changes
  abbrev changed : List (List ℕ)
  changed = run_lines p.writes.first p.writes.len ++ (run_lines p.writes.first2 p.writes.len2 ++ index_lines p.index)

  -- the lines of the half-words, and of the words that the entry uses and changes
  abbrev rest : List (List ℕ)
  rest = emitted_lines origin ++ (code_lines k.code ++ (use_lines n end uses ++ changed))

  start : LinesSoFar s s all (alone_lines (alone_by p k.side k.execute) ++ (suppressed_lines (suppressed_by p) ++ rest))
  unfolding facts_lines alone_lines emitted_lines
  start = record { front = []; wrote = wrote_nothing s; order = simp append_assoc refl }

  pub alone_cut : (u : OutputState) (why : Option Alone) (e : Failed) (r : Result (Unit {0}) Failed) → IsErr r → why ≡ alone_by p k.side k.execute
      → WritesLines s u (alone_lines why) (Err e) → WritesLines s u all r
  alone_cut u why e r f is h = lines_failed s s u all _ _ r f start (subst (λ w. WritesLines s u (alone_lines w) (Err e)) is h).err

  module _ (v : OutputState) (why : Option Alone) (o : Unit {0}) (is : why ≡ alone_by p k.side k.execute) (h : WritesLines s v (alone_lines why) (Ok o)) where
    alone : LinesSoFar s v all (suppressed_lines (suppressed_by p) ++ rest)
    alone = lines_more s s v all _ _ start (subst (λ w. WritesLines s v (alone_lines w) (Ok o)) is h).ok

    pub suppressed_cut : (u : OutputState) (by : Option ℕ) (e : Failed) (r : Result (Unit {0}) Failed) → IsErr r → by ≡ suppressed_by p
        → WritesLines v u (suppressed_lines by) (Err e) → WritesLines s u all r
    suppressed_cut u by e r f same g = lines_failed s v u all _ _ r f alone (subst (λ b. WritesLines v u (suppressed_lines b) (Err e)) same g).err

    pub suppressed_then : (u : OutputState) (by : Option ℕ) (x : Unit {0}) → by ≡ suppressed_by p
        → WritesLines v u (suppressed_lines by) (Ok x) → LinesSoFar s u all rest
    suppressed_then u by x same g = lines_more s v u all _ _ alone (subst (λ b. WritesLines v u (suppressed_lines b) (Ok x)) same g).ok

  -- the half-words and the used words are written
  pub uses_then : (t u v w : OutputState) (x y z : Unit {0}) → LinesSoFar s t all rest → WritesLines t u (emitted_lines origin) (Ok x)
      → WritesLines u v (code_lines k.code) (Ok y) → WritesLines v w (use_lines n end uses) (Ok z) → LinesSoFar s w all changed
  uses_then t u v w x y z h a b c =
      lines_more s v w all (use_lines n end uses) changed
      (lines_more s u v all (code_lines k.code) (use_lines n end uses ++ changed)
      (lines_more s t u all (emitted_lines origin) (code_lines k.code ++ (use_lines n end uses ++ changed)) h a.ok) b.ok) c.ok
