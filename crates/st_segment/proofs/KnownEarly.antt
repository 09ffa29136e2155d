-- The parts of an entry that are known without its index-side word.
use Rattle.st_segment.proofs.Common.{◌≡◌, ℕ, Option, refl, ap, Machine, Prepared, place_of, needs, decode_context, side_word, prepared_entry, plan, prepared-read, words_to_read, words_to_write, entry_with, entry}
use Rattle.st_segment.specs.Laws.{EntriesAreKnownEarly}

-- with any index-side word the plan differs only in the index change and its indicators
plan-by_any : (t : Option ℕ) (s : Machine) (q : Option ℕ)
    → plan s t
    ≡ record (prepared_entry (decode_context s (place_of s t)) q) { index = (plan s t).index; ind = (plan s t).ind }
unfolding plan
plan-by_any t s q =
    let v = decode_context s (place_of s t) in prepared-read v (side_word t s (needs v).index_read) q

pub known-early : EntriesAreKnownEarly
unfolding entry
known-early t s q =
    let same = plan-by_any t s q in (
      ap (λ (p : Prepared). words_to_read p.reads) same,
      ap (λ (p : Prepared). words_to_write p.writes) same,
      ap (λ (p : Prepared). p.cost) same,
      ap (λ (p : Prepared). p.serial) same,
      refl,
      ap (λ (p : Prepared). p.following) same,
      ap (λ (p : Prepared). p.reads) same,
      ap (λ (p : Prepared). p.instr) same,
    )

-- the entry follows from its instruction words and its decode context
pub entry-seen : (t : Option ℕ) (s : Machine) (q : Option ℕ)
    → let e = entry t s in let v = decode_context s (place_of s t) in
    e ≡ entry_with e.own e.target (needs v) (prepared_entry v q) v.place.table v.fetched.fault
unfolding entry decode_context place_of
entry-seen t s q =
    let v = decode_context s (place_of s t) in
    ap (λ p. entry_with (entry t s).own (entry t s).target (needs v) p t v.fetched.fault) (plan-by_any t s q)
