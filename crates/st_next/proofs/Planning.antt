-- The next entry of a state is planned from nothing.
use Rattle.st_next.proofs.Common.{◌≡◌, ℕ, ◌+◌, ◌≤◌, Bool, true, false, List, [], ◌++◌, Option, refl, sym, ◌∙◌, ap, arith, Machine, IsMachine, index_words, place_of, needs, decode_context, formed_asked, log_after_reads, AreDelaysUpTo, tick_a, index_uses, told, uses, wishes, Entry, WordRun, Fetching, IssueState, Made, Past, Use, a-within, entry, side_to_read, entry-ranges, IsStateBefore, IsUnread, IsNext, Rests, IsPlanned, IsKnown, IsNextReady, reads_so_far, GoesOnTo, IsReadFurther, IsIssueInTime, words_told, told_so_far, formed_told, IsToldFurther, FetchUnit}
use Rattle.st_bits.specs.Indicators.{IsIndicatorIfAny}
use Rattle.st_next.proofs.Resting.{address-late}
use Rattle.st_next.proofs.Starting.{new-next, new-reads}
use Rattle.st_next.proofs.Telling.{told-fetches, told-planned}
use Rattle.st_next.proofs.Whole.{planned-reads}

-- the index-side word of an entry
pub side-read : (t : Option ℕ) (s : Machine) → (entry t s).side ≡ side_to_read (needs (decode_context s (place_of s t))).index_read
unfolding entry
side-read t s = refl

-- a state is the one before its own next entry
pub self-before : (now : ℕ) (past : List Past) (x : List ℕ) (s : Machine) → IsMachine s → x ≡ index_words s → IsStateBefore now past x s s
self-before now past x s machine index = record {
  machine = machine;
  index = sym index;
  origin = refl;
  bounds = refl;
  enabled = refl;
  storage = λ w above done. refl;
}

abbrev nothing : WordRun
nothing = record { first = 0; len = 0 }

nothing-told : (ds : List ℕ) (f : IssueState) → words_told ds f nothing nothing ≡ []
unfolding words_told uses wishes
nothing-told ds f = refl

-- a fresh fetch unit for s and t has advanced by the facts known before the tick `later`, late enough to plan the entry
pub record IsAdvanced (ds : List ℕ) (n : ℕ) (f : IssueState) (x : List ℕ) (s : Machine) (t : Option ℕ) (fresh : FetchUnit) (now later : ℕ) (after : FetchUnit) : Type 0 where
  pub place : fresh.place ≡ place_of s t
  pub unread : IsUnread f.bus fresh
  pub machine : IsMachine s
  pub index : x ≡ index_words s
  pub table : IsIndicatorIfAny t
  pub goes : GoesOnTo ds n now f x s fresh after later
  pub are : AreDelaysUpTo 255 ds
  pub issue : IsIssueInTime f
  pub late : f.c + 1792 ≤ later

fresh-next : (ds : List ℕ) (n : ℕ) (f : IssueState) (s : Machine) (t : Option ℕ) (fresh : FetchUnit) → fresh.place ≡ place_of s t → IsUnread f.bus fresh → IsNext ds n t s f fresh
fresh-next ds n f s t fresh place unread = new-next ds n t s f fresh place unread.1 unread.2 unread.3 unread.0

pub fresh-known : (ds : List ℕ) (n : ℕ) (f : IssueState) (x : List ℕ) (s : Machine) (t : Option ℕ) (fresh : FetchUnit) → fresh.place ≡ place_of s t
    → IsUnread f.bus fresh → IsMachine s → x ≡ index_words s → IsIndicatorIfAny t → (now : ℕ) → IsKnown ds n now f x s fresh
fresh-known ds n f x s t fresh place unread machine index table now =
    record { table = t; state = s; indicator = table; before = self-before now f.past x s machine index; is_next = fresh-next ds n f s t fresh place unread }

module _ {ds : List ℕ} {n : ℕ} {f : IssueState} {x : List ℕ} {s : Machine} {t : Option ℕ} {fresh : FetchUnit} {now later : ℕ} {after : FetchUnit}
    (has : IsAdvanced ds n f x s t fresh now later after) where
  abbrev e : Entry
  e = entry t s

  before : IsStateBefore now f.past x s s
  before = self-before now f.past x s has.machine has.index

  each : IsNext ds n t s f after × Rests later t s f after
  each = has.goes.each t s has.table before (fresh-next ds n f s t fresh has.place has.unread)

  pub after-next : IsNext ds n t s f after
  after-next = each.0

  planned-by : (b : Bool) → after.planned ≡ b → after.planned ≡ true
  planned-by true is = is
  planned-by false un =
      let soon = a-within 255 ds has.are f e (entry-ranges t s has.machine has.table) has.issue.tight in
      absurd (omega (arith, has.late, soon, address-late ds later t s f after after-next.read_on un each.1))

  pub after-planned : after.planned ≡ true
  after-planned = planned-by after.planned refl

  pub after-known : IsPlanned ds n t s f after
  after-known = after-next.planned after-planned

  pub after-ready : IsNextReady x s after
  after-ready =
      record { delays = ds; levels = n; tick = now; issue = f; known = record { table = t; state = s; indicator = has.table; before = before; is_next = after-next } }

  pub after-log : (log new : List Made) → IsReadFurther ds f fresh after log new → new ≡ log_after_reads ds (formed_asked ds f e) f.bus log
  after-log log new is =
      let none : reads_so_far ds f fresh ≡ [] = new-reads ds f fresh has.unread.1 has.unread.2 has.unread.0 in
      let added : is.added ≡ formed_asked ds f e =
      ap (λ reads. reads ++ is.added) (sym none) ∙ sym is.so_far ∙ planned-reads ds n t s f after after-next after-planned in
      is.kept ∙ ap (λ reads. log_after_reads ds reads fresh.words.bus log) added
      ∙ ap (λ (w : Fetching). log_after_reads ds (formed_asked ds f e) w.bus log) has.unread.3

  whole-told : told_so_far ds f after ≡ formed_told ds f e
  unfolding words_told
  whole-told =
      told-planned ds f after after-planned (after-known.address ∙ ap (tick_a ds f) (sym after-known.entry))
      ∙ ap (λ (g : Entry). words_told ds f g.own g.target ++ told ds f.past (index_uses ds f g)) after-known.entry

  pub after-told : {A : Type 0} (noted : List Use → A → A) (m o : A) → IsToldFurther noted ds f fresh after m o → o ≡ noted (formed_told ds f e) m
  after-told noted m o is =
      let none : told_so_far ds f fresh ≡ [] =
      told-fetches ds f fresh has.unread.0
      ∙ ap (λ run. words_told ds f run fresh.entry.target) has.unread.1
      ∙ ap (words_told ds f nothing) has.unread.2
      ∙ nothing-told ds f in
      let used : is.used ≡ formed_told ds f e = ap (λ us. us ++ is.used) (sym none) ∙ sym is.so_far ∙ whole-told in
      is.told ∙ ap (λ us. noted us m) used
