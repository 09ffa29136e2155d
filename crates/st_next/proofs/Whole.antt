-- The reads so far are the first ones of the entry.
use Rattle.st_next.proofs.Common.{All, ◌≡◌, ℕ, ◌≤◌, ◌<◌, Bool, true, false, List, ◌++◌, append_assoc, Option, refl, sym, ◌∙◌, ap, arith, All-append, Machine, bus_after_reads, side_asked, runs_asked, following_asked, fetches_asked, prepared_asked, data_of, words_asked, Read, words_tick, tick_a, bus_a, tick_p, operands, reads_of_entry, Entry, Fetching, IssueState, served-append, served-fetches, served-side, entry, words_alone, asked_so_far, IsPlanned, IsNext, Rests, reads_so_far, AreLeft, FetchUnit, bus_after_index_read, fetch_words}
use Rattle.st_rows.proofs.Each.{each-operand, each-following, each-of-data}
use Rattle.st_rows.proofs.Parts.{asked-parts, a-p}
use Rattle.st_next.proofs.Late.{IsLate}
use Rattle.st_next.proofs.Resting.{address-late, rest-left}
use Rattle.st_next.proofs.Asking.{reads-none, reads-planned, side-late}

-- all data are requested when the address is formed or later
data-late : (ds : List ℕ) (n m : ℕ) (f : IssueState) (e : Entry) → m ≤ tick_a ds f e → All (IsLate m) (data_of ds n f e)
data-late ds n m f e late =
    let p : m ≤ tick_p ds n f e = omega (arith, late, a-p ds n f e) in
    each-of-data (IsLate m) ds n f e (side-late f.past e.side m (tick_a ds f e) late)
    (each-operand (IsLate m) f.past e.reads (tick_p ds n f e) (λ v least most. p) (λ v least most. p))
    (each-following (IsLate m) ds (operands ds n f e).bus e (tick_p ds n f e) (λ follows v least most. p))

-- the reads of the words so far, if they are all words of the entry
fetches-same : (ds : List ℕ) (f : IssueState) (seen e : Entry) → seen ≡ e → asked_so_far ds f seen.own seen.target ≡ fetches_asked ds f e
unfolding fetches_asked words_asked fetch_words
fetches-same ds f seen e same = rw same refl

-- ---- of an entry that is not planned

pub left-resting : (ds : List ℕ) (n now : ℕ) (t : Option ℕ) (u : Machine) (f : IssueState) (next : FetchUnit) → IsNext ds n t u f next → next.planned ≡ false
    → Rests now t u f next → AreLeft ds n now t u f next
left-resting ds n now t u f next is un rests =
    let e = entry t u in
    let left = rest-left ds now t u f next is.read_on un rests in
    let late : now < tick_a ds f e = address-late ds now t u f next is.read_on un rests in
    record {
      rest = left.rest ++ data_of ds n f e;
      reads =
          asked-parts ds n f e ∙ ap (λ reads. reads ++ data_of ds n f e) left.reads
          ∙ append_assoc (asked_so_far ds f next.entry.own next.entry.target) left.rest (data_of ds n f e)
          ∙ ap (λ reads. reads ++ (left.rest ++ data_of ds n f e)) (sym (reads-none ds f next un));
      late = All-append (IsLate now) left.rest (data_of ds n f e) left.late (data-late ds n now f e (omega arith));
    }

-- ---- of a planned entry

module _ (ds : List ℕ) (n : ℕ) (t : Option ℕ) (u : Machine) (f : IssueState) (next : FetchUnit) (is : IsNext ds n t u f next) (done : next.planned ≡ true) where
  abbrev e : Entry
  e = entry t u

  planned : IsPlanned ds n t u f next
  planned = is.planned done

  pub planned-reads : reads_so_far ds f next ≡ fetches_asked ds f e ++ side_asked f.past e.side (tick_a ds f e)
  planned-reads =
      reads-planned ds f next done
      ∙ ap (λ reads. reads ++ side_asked f.past next.entry.side next.formed.a) (fetches-same ds f next.entry e planned.entry)
      ∙ ap (λ (g : Entry). fetches_asked ds f e ++ side_asked f.past g.side next.formed.a) planned.entry
      ∙ ap (λ a. fetches_asked ds f e ++ side_asked f.past e.side a) planned.address

  abbrev behind : List Read
  behind = runs_asked f.past e.reads (tick_p ds n f e) ++ following_asked ds (operands ds n f e).bus e (tick_p ds n f e)

  whole : reads_of_entry ds n f e ≡ reads_so_far ds f next ++ behind
  whole =
      asked-parts ds n f e ∙ sym (append_assoc (fetches_asked ds f e) (side_asked f.past e.side (tick_a ds f e)) behind)
      ∙ ap (λ reads. reads ++ behind) (sym planned-reads)

  pub asked-planned : reads_of_entry ds n f e ≡ reads_so_far ds f next ++ prepared_asked ds n f e
  asked-planned = whole

  pub left-planned : AreLeft ds n next.formed.p t u f next
  left-planned =
      let p : next.formed.p ≤ tick_p ds n f e = omega (arith, planned.tick) in
      record {
        rest = behind;
        reads = whole;
        late =
            All-append (IsLate next.formed.p) (runs_asked f.past e.reads (tick_p ds n f e)) (following_asked ds (operands ds n f e).bus e (tick_p ds n f e))
            (each-operand (IsLate next.formed.p) f.past e.reads (tick_p ds n f e) (λ v least most. p) (λ v least most. p))
            (each-following (IsLate next.formed.p) ds (operands ds n f e).bus e (tick_p ds n f e) (λ follows v least most. p));
      }

  served-planned : bus_after_reads ds (reads_so_far ds f next) f.bus ≡ next.words.bus
  unfolding bus_a bus_after_index_read
  served-planned =
      let side = side_asked f.past e.side (tick_a ds f e) in
      ap (λ reads. bus_after_reads ds reads f.bus) planned-reads ∙ served-append ds (fetches_asked ds f e) side f.bus
      ∙ ap (bus_after_reads ds side) (served-fetches ds f e) ∙ served-side ds f.past e.side (tick_a ds f e) (words_tick ds f e).bus ∙ sym planned.bus

-- ---- the bus

served-resting : (ds : List ℕ) (n : ℕ) (t : Option ℕ) (u : Machine) (f : IssueState) (next : FetchUnit) → IsNext ds n t u f next → next.planned ≡ false
    → bus_after_reads ds (reads_so_far ds f next) f.bus ≡ next.words.bus
served-resting ds n t u f next is un =
    ap (λ reads. bus_after_reads ds reads f.bus) (reads-none ds f next un) ∙ served-fetches ds f (words_alone next.entry.own next.entry.target)
    ∙ ap (λ (s : Fetching). s.bus) (sym (is.read_on.words un))

served-by : (b : Bool) (ds : List ℕ) (n : ℕ) (t : Option ℕ) (u : Machine) (f : IssueState) (next : FetchUnit) → next.planned ≡ b → IsNext ds n t u f next
    → bus_after_reads ds (reads_so_far ds f next) f.bus ≡ next.words.bus
served-by true ds n t u f next e is = served-planned ds n t u f next is e
served-by false ds n t u f next e is = served-resting ds n t u f next is e

pub served-so-far : (ds : List ℕ) (n : ℕ) (t : Option ℕ) (u : Machine) (f : IssueState) (next : FetchUnit) → IsNext ds n t u f next
    → bus_after_reads ds (reads_so_far ds f next) f.bus ≡ next.words.bus
served-so-far ds n t u f next is = served-by next.planned ds n t u f next refl is
