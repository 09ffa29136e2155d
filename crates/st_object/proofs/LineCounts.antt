-- A bound on the number of lines of a draft.
use Rattle.st_object.proofs.Common.{◌≤◌, ◌+◌, ◌*◌, ℕ, Bool, List, [], ◌∷◌, ◌++◌, length, map, Option, length-append, arith, flat_map, length-map, words_of_storage_is, keyword_order, where_asked, Keyword, few-asked, word_lines, Draft, IsDraft, start_lines, kind_lines, lines_read, Item, Object, Fin}
use Rattle.st_object.specs.declared.items.Kind.TheVariants as kinds

few_marked : (b : Bool) (item : Item) → length (where_asked b item) ≤ 1
few_marked b item = grind arith

few_start : (o : Option ℕ) → length (start_lines o) ≤ 1
few_start o = grind arith

few_words : (w : ℕ) (xs : List ℕ) → length (word_lines w xs) ≤ length xs
few_words w [] = omega arith
few_words w (x ∷ xs) = grind (arith, few_words (w + 1) xs)

few_asks : (d : Draft) (keywords : List Keyword) → IsDraft d →
    length (flat_map (λ kind. kind_lines d kind) (map (λ k. kinds.Ask k) keywords ++ kinds.Fin ∷ [])) ≤ 4096 * length keywords + 1
few_asks d [] is = let last = few_marked d.ended Fin in simp length-append (omega (arith, last))
few_asks d (k ∷ more) is =
    let here = few-asked d.asked is.limits k in
    let later = few_asks d more is in
    simp (length-append, length-map) (omega (arith, here, later))

-- a draft has at most 200,000 lines
pub few_lines : (d : Draft) → IsDraft d → length (lines_read d) ≤ 200000
few_lines d is =
    let first = few_marked d.begun Object in
    let start = few_start d.start in
    let words = few_words 0 d.words in
    let asks = few_asks d keyword_order is in
    let whole = length-append (where_asked d.begun Object) (start_lines d.start ++ (word_lines 0 d.words
    ++ flat_map (λ kind. kind_lines d kind) (map (λ k. kinds.Ask k) keyword_order ++ kinds.Fin ∷ []))) in
    let behind = length-append (start_lines d.start) (word_lines 0 d.words
    ++ flat_map (λ kind. kind_lines d kind) (map (λ k. kinds.Ask k) keyword_order ++ kinds.Fin ∷ [])) in
    let last = length-append (word_lines 0 d.words) (flat_map (λ kind. kind_lines d kind) (map (λ k. kinds.Ask k) keyword_order ++ kinds.Fin ∷ [])) in
    omega (arith, first, start, words, asks, whole, behind, last, is.few, words_of_storage_is)
