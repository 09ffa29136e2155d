-- Properties of each entry prepared from a decode context.
use Rattle.st_prep.proofs.Common.{◌≡◌, ℕ, ◌^◌, ◌<◌, ◌≤◌, Bool, true, false, ◌||◌, List, get_or, if◌then◌else◌, Option, None, Some, is_some, refl, sym, subst, ◌∙◌, ap, arith, IfSome, unwrap_or, ltb-false, words_of_storage, Instr, Decoded, is_valid, Read, Write, Place, Fetched, Prepared, effective, change, reads, words_written, counter_behind, is_serial_operation, has_register, is_register, is_execute, effective_instr, forbidden_side, forbidden_words, forbidden_area, operation_invalid, execute_exception, fault, DecodeContext, is_alone, resolved_at, resolved, is_serial, needs_by, needs, asks, suppressed_entry, entry_at, prepared_by, prepared_entry, HasFields, IsPlace, IsFetched, IsPrepared, IsNeeds, or-left, or-right}
use Rattle.st_prep.specs.declared.entries.ResolvedEntry.{ResolvedEntry}
use Rattle.st_prep.specs.declared.entries.Needs.{Needs}
use Rattle.st_prep.proofs.Choices.{none-left, none-right}
use Rattle.st_prep.proofs.AddressBounds.{effective-below}
use Rattle.st_prep.proofs.RunLemmas.{is_runs-none, is_runs-reads, is_runs-writes, allowed-inside, words-inside, none-inside, area-inside, words-above, none-above}
use Rattle.st_prep.proofs.ChangeLemmas.{change-fits}
use Rattle.st_prep.proofs.OutcomeLemmas.{next-below, after-below, value-fits, zero-fits, cost-fits}

-- a decode context in its ranges
pub record IsDecodeContext (s : DecodeContext) : Type 0 where
  pub place : IsPlace s.place
  pub fetched : IsFetched s.fetched
  pub words : (j : ℕ) → get_or s.x j 0 < 2 ^ 64

of_target : (t : Option Decoded) (own : Decoded) → HasFields own.instr → IfSome t (λ d. HasFields d.instr)
    → HasFields (unwrap_or t own).instr
of_target None own h some = h
of_target (Some d) own h some = some

pub executed-shape : (f : Fetched) → IsFetched f → HasFields (effective_instr f)
unfolding effective_instr
executed-shape f h = of_target f.target f.instr h.own h.target

-- an entry that passes all checks
record Passes (a : ResolvedEntry) (b : ℕ) (en : Bool) : Type 0 where
  operation : operation_invalid a.instr ≡ None
  side : forbidden_side b en a.side ≡ None
  reads : forbidden_words b en Read a.reads ≡ None
  writes : forbidden_words b en Write a.writes ≡ None
  area : forbidden_area b en a.instr a.e ≡ None

passes : (a : ResolvedEntry) (b : ℕ) (en : Bool) → fault a b en ≡ None → Passes a b en
unfolding fault
passes a b en h =
    let past_fetch = none-right a.fault _ h in
    let past_operation = none-right (operation_invalid a.instr) _ past_fetch in
    let past_execute = none-right (execute_exception a.instr) _ past_operation in
    let past_side = none-right (forbidden_side b en a.side) _ past_execute in
    let past_reads = none-right (forbidden_words b en Read a.reads) _ past_side in
    record {
      operation = none-left _ _ past_fetch;
      side = none-left _ _ past_execute;
      reads = none-left _ _ past_side;
      writes = none-left _ _ past_reads;
      area = none-right (forbidden_words b en Write a.writes) _ past_reads;
    }

of_test : (is : Bool) (i : ℕ) → (if is then None else Some i) ≡ None → is ≡ true
of_test true i h = refl
of_test false i h = cc

valid : (instr : Instr) → operation_invalid instr ≡ None → is_valid instr ≡ true
unfolding operation_invalid
valid instr h = of_test (is_valid instr) _ h

-- ---- entries that are not serializing

pub none-there : (t : Option ℕ) → is_some t ≡ false → t ≡ None
none-there None h = refl
none-there (Some i) h = cc

above_side : (w : Option ℕ) → is_register w ≡ false → IfSome w (λ n. 32 ≤ n)
above_side None h = tt
above_side (Some n) h = ltb-false n 32 h

record Runs (a : ResolvedEntry) : Type 0 where
  alone : a.alone ≡ false
  operation : is_serial_operation a.instr ≡ false
  side : is_register a.side ≡ false
  reads : has_register a.reads ≡ false
  writes : has_register a.writes ≡ false

runs : (a : ResolvedEntry) → is_serial a ≡ false → Runs a
unfolding is_serial
runs a h =
    let before_writes = or-left _ (has_register a.writes) h in
    let before_reads = or-left _ (has_register a.reads) before_writes in
    let before_side = or-left _ (is_register a.side) before_reads in
    record {
      alone = or-left a.alone (is_serial_operation a.instr) before_side;
      operation = or-right a.alone (is_serial_operation a.instr) before_side;
      side = or-right _ (is_register a.side) before_reads;
      reads = or-right _ (has_register a.reads) before_writes;
      writes = or-right _ (has_register a.writes) h;
    }

not_table : (place : Place) (f : Fetched) → is_alone place f ≡ false → place.table ≡ None
not_table place f h = none-there place.table (or-left (is_some place.table) (is_execute f.instr.instr) h)

-- ---- all entries

entry-prepared : (s : DecodeContext) (r : Option ℕ) → IsDecodeContext s → IfSome r (λ w. w < 2 ^ 64)
    → Passes (resolved_at s.place s.fetched s.x) s.bounds s.enabled → IsPrepared (entry_at s.place (resolved s) s.x r)
unfolding entry_at resolved resolved_at
entry-prepared s r k some p =
    let instr = effective_instr s.fetched in
    let e = effective s.x instr in
    let f : ℕ = counter_behind s.place s.fetched.instr.halves in
    let shape : HasFields instr = executed-shape s.fetched k.fetched in
    let address : e < 2 ^ 24 = effective-below s.x instr in
    let after_it : f < 2 ^ 19 = next-below s.place s.fetched.instr.halves k.place.counter in
    let cost = cost-fits instr shape in
    record {
      place = k.place;
      shape = shape;
      address = address;
      following = after-below instr s.x e s.place.counter f shape address after_it;
      change = change-fits s.x instr e r k.words shape address some;
      reads = is_runs-reads instr e shape address;
      reads_inside = words-inside s.bounds s.enabled Read (reads instr e) p.reads;
      writes = is_runs-writes instr e shape address;
      writes_inside = words-inside s.bounds s.enabled Write (words_written instr e) p.writes;
      stored = value-fits instr s.x f k.words after_it;
      some_cost = cost.0;
      cost = cost.1;
      entry = λ _. record {
        valid = valid instr p.operation;
        reads = refl;
        writes = refl;
        area = area-inside s.bounds s.enabled instr e p.area;
      };
      suppressed = λ h. cc;
      ahead = λ h. let q = runs (resolved s) h in record {
        table = not_table s.place s.fetched q.alone;
        operation = λ _. q.operation;
        reads = words-above (reads instr e) q.reads;
        writes = words-above (words_written instr e) q.writes;
      };
    }

suppressed-prepared : (s : DecodeContext) (i : ℕ) → IsDecodeContext s → IsPrepared (suppressed_entry s.place (resolved s) i)
unfolding suppressed_entry resolved resolved_at
suppressed-prepared s i k = record {
  place = k.place;
  shape = executed-shape s.fetched k.fetched;
  address = omega arith;
  following = next-below s.place s.fetched.instr.halves k.place.counter;
  change = tt;
  reads = is_runs-none;
  reads_inside = none-inside;
  writes = is_runs-none;
  writes_inside = none-inside;
  stored = zero-fits (effective_instr s.fetched);
  some_cost = omega arith;
  cost = omega arith;
  entry = λ h. cc;
  suppressed = λ _. record { index = refl; indicator = refl; reads = refl; writes = refl; cost = refl };
  ahead = λ h. record {
    table = not_table s.place s.fetched h;
    operation = λ e. cc;
    reads = none-above;
    writes = none-above;
  };
}

passes_by : (s : DecodeContext) → (resolved s).fault ≡ None → Passes (resolved_at s.place s.fetched s.x) s.bounds s.enabled
unfolding resolved
passes_by s h = passes (resolved_at s.place s.fetched s.x) s.bounds s.enabled h

by_fault : (f : Option ℕ) (s : DecodeContext) (r : Option ℕ) → (resolved s).fault ≡ f → IsDecodeContext s → IfSome r (λ w. w < 2 ^ 64)
    → IsPrepared (prepared_by f s.place (resolved s) s.x r)
by_fault None s r e k some = entry-prepared s r k some (passes_by s e)
by_fault (Some i) s r e k some = suppressed-prepared s i k

-- each prepared entry is in its ranges
pub is_prepared : (s : DecodeContext) (r : Option ℕ) → IsDecodeContext s → IfSome r (λ w. w < 2 ^ 64) → IsPrepared (prepared_entry s r)
unfolding prepared_entry resolved
is_prepared s r k some = by_fault (resolved s).fault s r refl k some

-- ---- needs

allowed_side : (b : ℕ) (en : Bool) (w : Option ℕ) → forbidden_side b en w ≡ None → IfSome w (λ n. n < words_of_storage)
unfolding forbidden_side
allowed_side b en None h = tt
allowed_side b en (Some n) h = allowed-inside b en Read n h

needs_by_fault : (f : Option ℕ) (s : DecodeContext) → (resolved s).fault ≡ f → IsNeeds (needs_by f (resolved s))
unfolding resolved resolved_at
needs_by_fault None s e = record {
  inside = allowed_side s.bounds s.enabled _ (passes_by s e).side;
  above = λ h. above_side _ (runs (resolved s) h).side;
}
needs_by_fault (Some i) s e = record { inside = tt; above = λ _. tt }

-- the word that an entry needs is a word of storage
pub is_needs : (s : DecodeContext) → IsNeeds (needs s)
unfolding needs resolved
is_needs s = needs_by_fault (resolved s).fault s refl

same_by_fault : (f : Option ℕ) (p : Place) (a : ResolvedEntry) (x : List ℕ) (r : Option ℕ)
    → (prepared_by f p a x r).serial ≡ (needs_by f a).serial
unfolding entry_at suppressed_entry
same_by_fault None p a x r = refl
same_by_fault (Some i) p a x r = refl

-- an entry is prepared as serializing if and only if its needs say that it is
pub same_serial : (s : DecodeContext) (r : Option ℕ) → (prepared_entry s r).serial ≡ (needs s).serial
unfolding prepared_entry needs
same_serial s r = same_by_fault _ s.place (resolved s) s.x r

-- ---- the index-side word

read-by_fault : (f : Option ℕ) (p : Place) (a : ResolvedEntry) (x : List ℕ) (r q : Option ℕ)
    → prepared_by f p a x r
    ≡ record (prepared_by f p a x q) { index = (prepared_by f p a x r).index; ind = (prepared_by f p a x r).ind }
unfolding entry_at
read-by_fault None p a x r q = refl
read-by_fault (Some i) p a x r q = refl

-- the index-side word affects only the index change and its indicators
pub prepared-read : (s : DecodeContext) (r q : Option ℕ)
    → prepared_entry s r ≡ record (prepared_entry s q) { index = (prepared_entry s r).index; ind = (prepared_entry s r).ind }
unfolding prepared_entry
prepared-read s r q = read-by_fault _ s.place (resolved s) s.x r q

changed_by_fault : (f : Option ℕ) (p : Place) (a : ResolvedEntry) (x : List ℕ) (r q : Option ℕ) → is_some (needs_by f a).index_read ≡ true
    → let e = prepared_by f p a x q in record e { index = (change x e.instr e.e r).index; ind = (change x e.instr e.e r).ind } ≡ prepared_by f p a x r
unfolding entry_at
changed_by_fault None p a x r q some = refl
changed_by_fault (Some i) p a x r q some = absurd (cc)

-- an entry with one index-side word becomes the entry with another one by a repeated speculative change
pub changed-read : (s : DecodeContext) (r q : Option ℕ) (p : Prepared) → asks s ≡ true → p ≡ prepared_entry s q
    → record p { index = (change s.x p.instr p.e r).index; ind = (change s.x p.instr p.e r).ind } ≡ prepared_entry s r
unfolding needs prepared_entry
changed-read s r q p some is = rw is (changed_by_fault _ s.place (resolved s) s.x r q some)

entered_by_fault : (f : Option ℕ) (p : Place) (a : ResolvedEntry) (x : List ℕ) (q : Option ℕ) → is_some (needs_by f a).index_read ≡ true
    → (prepared_by f p a x q).suppressed ≡ false
unfolding entry_at
entered_by_fault None p a x q some = refl
entered_by_fault (Some i) p a x q some = absurd (cc)

pub asks-entered : (s : DecodeContext) (q : Option ℕ) (p : Prepared) → asks s ≡ true → p ≡ prepared_entry s q → p.suppressed ≡ false
unfolding needs prepared_entry
asks-entered s q p some is = rw is (entered_by_fault _ s.place (resolved s) s.x q some)

-- the repeated change keeps the entry in its ranges
pub changed-fits : (p : Prepared) (x : List ℕ) (r : Option ℕ) → IsPrepared p → p.suppressed ≡ false
    → ((j : ℕ) → get_or x j 0 < 2 ^ 64) → IfSome r (λ w. w < 2 ^ 64)
    → IsPrepared (record p { index = (change x p.instr p.e r).index; ind = (change x p.instr p.e r).ind })
changed-fits p x r is entered words some = record {
  place = is.place;
  shape = is.shape;
  address = is.address;
  following = is.following;
  change = change-fits x p.instr p.e r words is.shape is.address some;
  reads = is.reads;
  reads_inside = is.reads_inside;
  writes = is.writes;
  writes_inside = is.writes_inside;
  stored = is.stored;
  some_cost = is.some_cost;
  cost = is.cost;
  entry = λ h. let e = is.entry h in record { valid = e.valid; reads = e.reads; writes = e.writes; area = e.area };
  suppressed = λ h. absurd (cc);
  ahead = λ h. let e = is.ahead h in record { table = e.table; operation = e.operation; reads = e.reads; writes = e.writes };
}

-- ---- EX

alone-left : (a b c d e : Bool) → a ≡ true → (a || b || c || d || e) ≡ true
alone-left true b c d e h = refl
alone-left false b c d e h = cc

alone-by_fault : (f : Option ℕ) (a : ResolvedEntry) → a.alone ≡ true → (needs_by f a).serial ≡ true
unfolding is_serial
alone-by_fault None a h = alone-left a.alone _ _ _ _ h
alone-by_fault (Some i) a h = h

-- an entry that is serializing even if suppressed is serializing
pub alone-serial : (s : DecodeContext) (r : Option ℕ) → is_alone s.place s.fetched ≡ true → (prepared_entry s r).serial ≡ true
unfolding needs resolved resolved_at
alone-serial s r h = same_serial s r ∙ alone-by_fault _ (resolved s) h

-- ---- resolved entries

pub look-needs : (a : ResolvedEntry) (v : DecodeContext) (n : Needs) → n ≡ needs_by a.fault a → a ≡ resolved v → n ≡ needs v
unfolding needs
look-needs a v n e h = e ∙ ap (λ b. needs_by b.fault b) h

pub side-inside : (a : ResolvedEntry) (v : DecodeContext) (n : Needs) → n ≡ needs_by a.fault a → a ≡ resolved v
    → IfSome n.index_read (λ w. w < words_of_storage)
side-inside a v n e h = (subst IsNeeds (sym (look-needs a v n e h)) (is_needs v)).inside

pub fill-prepared : (a : ResolvedEntry) (v : DecodeContext) (p : Prepared) (r : Option ℕ) → p ≡ prepared_by a.fault v.place a v.x r → a ≡ resolved v
    → p ≡ prepared_entry v r
unfolding prepared_entry
fill-prepared a v p r e h = e ∙ ap (λ b. prepared_by b.fault v.place b v.x r) h

pub filled-fits : (v : DecodeContext) (p : Prepared) (r : Option ℕ) → p ≡ prepared_entry v r → IsDecodeContext v → IfSome r (λ w. w < 2 ^ 64)
    → IsPrepared p
filled-fits v p r e k some = subst IsPrepared (sym e) (is_prepared v r k some)

-- filling in an entry keeps its place
pub filled-place : (f : Option ℕ) (place : Place) (a : ResolvedEntry) (x : List ℕ) (r : Option ℕ)
    → (prepared_by f place a x r).place ≡ place
unfolding entry_at suppressed_entry
filled-place None place a x r = refl
filled-place (Some i) place a x r = refl
