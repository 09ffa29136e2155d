-- An entry with no word requested.
use Rattle.st_next.proofs.Common.{◌≡◌, ℕ, ◌≤◌, false, List, [], inl, Option, refl, sym, ◌∙◌, ap, arith, Machine, place_of, words_tick, wanted_from, fetch_words, fetch_word, words_asked, fetches_asked, WordRun, Fetching, IssueState, entry, IsStart, words_so_far, asked_so_far, IsNext, Rests, reads_so_far, FetchUnit, behind, reads_of, uses, wishes}
use Rattle.st_next.proofs.Steps.{planned-none}
use Rattle.st_next.proofs.Asking.{reads-none}

abbrev nothing : WordRun
nothing = record { first = 0; len = 0 }

nothing-start : (run : WordRun) → IsStart nothing run
nothing-start run = record { few = omega arith; first = λ some. absurd (omega arith); none = λ none. refl }

nothing-fetched : (ds : List ℕ) (f : IssueState) → words_so_far ds f nothing nothing ≡ record { bus = f.bus; answered = 0; awaited = 0 }
unfolding words_tick fetch_words behind uses wishes fetch_word
nothing-fetched ds f = refl

nothing-asked : (ds : List ℕ) (f : IssueState) → asked_so_far ds f nothing nothing ≡ []
unfolding fetches_asked words_asked fetch_words reads_of uses wishes fetch_word
nothing-asked ds f = refl

-- an entry with no word requested is the next entry of the state
pub new-next : (ds : List ℕ) (n : ℕ) (t : Option ℕ) (u : Machine) (f : IssueState) (next : FetchUnit) → next.place ≡ place_of u t → next.entry.own ≡ nothing → next.entry.target ≡ nothing
    → next.words ≡ record { bus = f.bus; answered = 0; awaited = 0 } → next.planned ≡ false → IsNext ds n t u f next
new-next ds n t u f next place own target words un = record {
  read_on = record {
    place = place;
    first = record {
      own_start = rw own (nothing-start (entry t u).own);
      target_start = rw target (nothing-start (entry t u).target);
      all_own = λ some. absurd (omega (arith, some, ap (λ (r : WordRun). r.len) target));
    };
    words = λ none. begun;
    awaited = ap (λ (s : Fetching). s.awaited) begun;
  };
  planned = planned-none next.planned ds n t u f next un;
}
  where
    begun : next.words ≡ words_so_far ds f next.entry.own next.entry.target
    begun = rw (own, target) (words ∙ sym (nothing-fetched ds f))

pub new-reads : (ds : List ℕ) (f : IssueState) (next : FetchUnit) → next.entry.own ≡ nothing → next.entry.target ≡ nothing → next.planned ≡ false → reads_so_far ds f next ≡ []
new-reads ds f next own target un = reads-none ds f next un ∙ rw (own, target) (nothing-asked ds f)

-- before the first request tick nothing is known
pub new-rests : (now : ℕ) (t : Option ℕ) (u : Machine) (f : IssueState) (next : FetchUnit) → next.planned ≡ false → now ≤ wanted_from f
    → Rests now t u f next
new-rests now t u f next un early = λ none. inl (omega arith)
