-- Lemmas on tables of names and on the names in them.
use Rattle.st_asm.proofs.Common.{◌≡◌, ◌||◌, ℕ, Bool, true, false, cond, List, [], ◌∷◌, ◌++◌, Some, None, is_some, refl, ap, sym, ◌∙◌, cons_option, Defines, has_name, is_defined, names_of, ReadCard}
use Rattle.st_text.specs.Tables.{is_same, row_of}
use Rattle.st_mnemonic.proofs.Apart.{same_words}

-- looking up a name after another one was appended to a table
pub defined-behind : (table : List (List ℕ × ℕ)) (name query : List ℕ) (value : ℕ) →
    is_defined (table ++ (name, value) ∷ []) query ≡ (is_defined table query || is_same query name)
defined-behind [] name query value =
    elim (is_same query name) as (λ b. is_some (cond b (Some value) None) ≡ b) [ true ↦ refl | false ↦ refl ]
defined-behind (row ∷ rows) name query value =
    elim (is_same query row.0) as (λ b. is_some (cond b (Some row.1) (row_of query (rows ++ (name, value) ∷ [])))
    ≡ (is_some (cond b (Some row.1) (row_of query rows)) || is_same query name)) [
      | true ↦ refl
      | false ↦ defined-behind rows name query value
    ]

or-same : (d s : Bool) → (s ≡ true → d ≡ true) → d ≡ (d || s)
or-same true s h = refl
or-same false true h = h refl
or-same false false h = refl

-- a name is in the table after its definition
pub defined-now : (old new : List (List ℕ × ℕ)) (name : List ℕ) (value : ℕ) (fresh : Bool) → Defines old new name value fresh →
    (query : List ℕ) → is_defined new query ≡ (is_defined old query || is_same query name)
defined-now old new name value true (absent, added) query =
    ap (λ t. is_defined t query) added ∙ defined-behind old name query value
defined-now old new name value false (there, unchanged) query =
    ap (λ t. is_defined t query) unchanged
    ∙ or-same (is_defined old query) (is_same query name)
    (λ e. ap (λ q. is_defined old q) (same_words query name e) ∙ there)

or-assoc : (a b c : Bool) → ((a || b) || c) ≡ (a || (b || c))
or-assoc true b c = refl
or-assoc false b c = refl

-- the remaining names after a card with or without a name
pub names-named : (old new : List (List ℕ × ℕ)) (name : List ℕ) (line : ReadCard) (lines all : List ReadCard) →
    all ≡ line ∷ lines → line.name ≡ Some name →
    ((query : List ℕ) → is_defined new query ≡ (is_defined old query || is_same query name)) →
    (query : List ℕ) → (is_defined new query || has_name (names_of lines) query)
    ≡ (is_defined old query || has_name (names_of all) query)
unfolding names_of
names-named old new name line lines all parts is_name now query =
    ap (λ b. b || has_name (names_of lines) query) (now query)
    ∙ (or-assoc (is_defined old query) (is_same query name) (has_name (names_of lines) query)
    ∙ ap (λ ns. is_defined old query || has_name ns query)
    (sym (ap (λ ls. names_of ls) parts ∙ ap (λ o. cons_option o (names_of lines)) is_name)))

pub names-unnamed : (table : List (List ℕ × ℕ)) (line : ReadCard) (lines all : List ReadCard) → all ≡ line ∷ lines →
    line.name ≡ None → (query : List ℕ) → (is_defined table query || has_name (names_of lines) query)
    ≡ (is_defined table query || has_name (names_of all) query)
unfolding names_of
names-unnamed table line lines all parts is_none query =
    ap (λ ns. is_defined table query || has_name ns query)
    (sym (ap (λ ls. names_of ls) parts ∙ ap (λ o. cons_option o (names_of lines)) is_none))

or-false : (b : Bool) → b ≡ (b || false)
or-false true = refl
or-false false = refl

-- all names are in the table if no card remains
pub names-none : (table : List (List ℕ × ℕ)) (lines : List ReadCard) → lines ≡ [] → (query : List ℕ) →
    is_defined table query ≡ (is_defined table query || has_name (names_of lines) query)
unfolding names_of
names-none table lines empty query =
    or-false (is_defined table query) ∙ ap (λ ls. is_defined table query || has_name (names_of ls) query) (sym empty)
