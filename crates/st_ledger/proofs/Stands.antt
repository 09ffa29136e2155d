-- Waits that are filled in from the youngest word backwards.
use Rattle.st_ledger.proofs.Common.{Bool, if◌then◌else◌, ◌≡◌, ℕ, ◌+◌, ◌≤◌, ◌<◌, List, [], ◌∷◌, ◌++◌, refl, sym, ◌∙◌, ap, append_assoc, and_parts, leb-true, ltb-true, append-nil, Use, Accepted, Turn, Bank, Wait, wait_piece, acceptance_of, is_accepted_between, turns}
use Rattle.std.specs.Prelude.{true, false}

pub is_between-parts : (from before : ℕ) (u : Use) → is_accepted_between from before u.supply ≡ true
    → (from ≤ (acceptance_of u).tick) × ((acceptance_of u).tick < before)
unfolding is_accepted_between acceptance_of
is_between-parts from before u is =
    let both = and_parts _ _ is in
    let ends = and_parts _ _ both.1 in
    (leb-true _ _ ends.0, ltb-true _ _ ends.1)

-- the waits with the next word, by whether its read precedes the acceptance
by_word : ℕ → ℕ → Accepted → Use → List Use → Bool → List Wait
by_word from w next u older b =
    if b
    then wait_piece ((acceptance_of u).tick + 1) next.tick Bank w next.word
    ++ (wait_piece (acceptance_of u).tick ((acceptance_of u).tick + 1) Turn w u.word
    ++ turns from w (acceptance_of u) older)
    else turns from w next older

word_first : (from w : ℕ) (next : Accepted) (u : Use) (all rest older : List Use) (b : Bool) → all ≡ u ∷ rest
    → is_accepted_between from next.tick u.supply ≡ b → turns from w next (all ++ older) ≡ by_word from w next u (rest ++ older) b
unfolding turns by_word
word_first from w next u all rest older b is same =
    ap (λ us. turns from w next (us ++ older)) is ∙ ap (λ c. by_word from w next u (rest ++ older) c) same

pub turns_past : (from w : ℕ) (next behind : Accepted) (u : Use) (all rest older : List Use) (ws now : List Wait) → all ≡ u ∷ rest
    → is_accepted_between from next.tick u.supply ≡ false
    → now ++ turns from w behind older ≡ ws ++ turns from w next (rest ++ older)
    → now ++ turns from w behind older ≡ ws ++ turns from w next (all ++ older)
unfolding by_word
turns_past from w next behind u all rest older ws now is no_one h =
    h ∙ ap (λ xs. ws ++ xs) (sym (word_first from w next u all rest older false is no_one))

one_here : (from w : ℕ) (next behind : Accepted) (u : Use) (all rest older : List Use) (ws one two now : List Wait) → all ≡ u ∷ rest
    → is_accepted_between from next.tick u.supply ≡ true
    → one ≡ ws ++ wait_piece ((acceptance_of u).tick + 1) next.tick Bank w next.word
    → two ≡ one ++ wait_piece (acceptance_of u).tick ((acceptance_of u).tick + 1) Turn w u.word
    → now ++ turns from w behind older ≡ two ++ turns from w (acceptance_of u) (rest ++ older)
    → now ++ turns from w behind older ≡ ws ++ turns from w next (all ++ older)
unfolding by_word
one_here from w next behind u all rest older ws one two now is is_one h k l =
    let here = word_first from w next u all rest older true is is_one in
    l ∙ rw (k, h) (simp append_assoc refl) ∙ ap (λ xs. ws ++ xs) (sym here)

pub turns_one : (from w : ℕ) (next behind read : Accepted) (u : Use) (all rest older : List Use) (ws one two now : List Wait) → all ≡ u ∷ rest
    → is_accepted_between from next.tick u.supply ≡ true → read ≡ acceptance_of u
    → one ≡ ws ++ wait_piece (read.tick + 1) next.tick Bank w next.word
    → two ≡ one ++ wait_piece read.tick (read.tick + 1) Turn w u.word
    → now ++ turns from w behind older ≡ two ++ turns from w read (rest ++ older)
    → now ++ turns from w behind older ≡ ws ++ turns from w next (all ++ older)
turns_one from w next behind read u all rest older ws one two now is is_one same h k l =
    one_here from w next behind u all rest older ws one two now is is_one
    (h ∙ ap (λ r. ws ++ wait_piece (r.tick + 1) next.tick Bank w next.word) same)
    (k ∙ ap (λ r. one ++ wait_piece r.tick (r.tick + 1) Turn w u.word) same)
    (l ∙ ap (λ r. two ++ turns from w r (rest ++ older)) same)

-- the waits of the words of the row, and then of those of the row before
pub turns_all : (from w : ℕ) (next here there : Accepted) (earlier before : List Use) (ws one two now : List Wait)
    → one ++ turns from w here (before ++ []) ≡ ws ++ turns from w next (earlier ++ (before ++ []))
    → two ++ turns from w there [] ≡ one ++ turns from w here (before ++ [])
    → now ≡ two ++ wait_piece from there.tick Bank w there.word
    → now ≡ ws ++ turns from w next (earlier ++ before)
unfolding turns
turns_all from w next here there earlier before ws one two now h k l =
    l ∙ k ∙ h ∙ ap (λ us. ws ++ turns from w next (earlier ++ us)) (append-nil before)
