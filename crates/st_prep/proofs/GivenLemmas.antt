-- The progress of a reading given the contents so far, one instruction at a time.
use Rattle.st_prep.proofs.Common.{◌≡◌, ◌≢◌, ℕ, zero, suc, ◌+◌, ◌/◌, ◌≤◌, Bool, true, false, ◌==◌, if◌then◌else◌, List, [], ◌∷◌, length, get_or, drop, Option, None, Some, refl, sym, ◌∙◌, ap, arith, eqb-true, nat_tests, Decoded, decoded_entry, instruction_of, Place, Fetched, Next, Found, FoundInstruction, Has, Reading, Finds, Reads, left_after, fetching_of, given_by, forbidden_by, Fetch, half_of, Continuation, with_second, with_first, read_after, with_target, instruction_at, is_execute, own_use, reading_at_place, fetched_plain, allowed_found}
use Rattle.st_prep.specs.declared.entries.Fetching.{Fetching}

abbrev pub of : Reading → List ℕ → Fetching
of r contents = fetching_of (left_after r contents)

-- a nonempty list of contents starts with one
one_more : (cs : List ℕ) → 1 ≤ length cs → cs ≡ get_or cs 0 0 ∷ drop 1 cs
one_more [] some = absurd (omega arith)
one_more (c ∷ cs) some = refl

-- a word that is read, followed by the rest of the contents
reads_next : (t : Bool) (w : ℕ) (r : ℕ → Reading) (cs : List ℕ) → 1 ≤ length cs
    → of (Reads t w r) cs ≡ of (r (get_or cs 0 0)) (drop 1 cs)
unfolding left_after
reads_next t w r [] some = absurd (omega arith)
reads_next t w r (c ∷ cs) some = refl

reads_none : (t : Bool) (w : ℕ) (r : ℕ → Reading) (cs : List ℕ) → length cs ≡ 0 → of (Reads t w r) cs ≡ Next w t
unfolding left_after fetching_of
reads_none t w r [] none = refl
reads_none t w r (c ∷ cs) none = absurd (omega arith)

pub at-wants : (f : Option ℕ) (t : Bool) (b : ℕ) (en : Bool) (h : ℕ) (k : Continuation) (cs : List ℕ) → f ≡ None → length cs ≡ 0
    → of (read_after f t b en h k) cs ≡ Next (h / 2) t
at-wants None t b en h k cs e none = reads_none t (h / 2) _ cs none
at-wants (Some j) t b en h k cs e none = cc

pub at-first : (f : Option ℕ) (t : Bool) (b : ℕ) (en : Bool) (h : ℕ) (k : Continuation) (cs : List ℕ) → f ≡ None → 1 ≤ length cs
    → of (read_after f t b en h k) cs ≡ of (with_first t b en h (get_or cs 0 0) k) (drop 1 cs)
at-first None t b en h k cs e some = reads_next t (h / 2) _ cs some
at-first (Some j) t b en h k cs e some = cc

-- ---- a second half-word

-- the cases of whether it is in the word of the first one
second-here : (same : Bool) (t : Bool) (w : ℕ) (here : Reading) (r : ℕ → Reading) (cs : List ℕ) → same ≡ true
    → of (if same then here else Reads t w r) cs ≡ of here cs
second-here true t w here r cs e = refl
second-here false t w here r cs e = cc

second-there : (same : Bool) (t : Bool) (w : ℕ) (here : Reading) (r : ℕ → Reading) (cs : List ℕ) → same ≡ false
    → of (if same then here else Reads t w r) cs ≡ of (Reads t w r) cs
second-there true t w here r cs e = cc
second-there false t w here r cs e = refl

pub second-same : (f : Option ℕ) (t : Bool) (first h v content : ℕ) (k : Continuation) (cs : List ℕ) → f ≡ None
    → (h / 2 == v) ≡ true
    → of (with_second f t first h v content k) (drop 1 cs)
    ≡ given_by t (Has (record { decoded = decoded_entry first (half_of content h); fault = None }) 1) cs k
second-same None t first h v content k cs e same = second-here (h / 2 == v) t (h / 2) _ _ (drop 1 cs) same
second-same (Some j) t first h v content k cs e same = cc

pub second-wants : (f : Option ℕ) (t : Bool) (first h v content : ℕ) (k : Continuation) (cs : List ℕ) → f ≡ None
    → (h / 2 == v) ≡ false → length (drop 1 cs) ≡ 0
    → of (with_second f t first h v content k) (drop 1 cs) ≡ Next (h / 2) t
second-wants None t first h v content k cs e other none =
    second-there (h / 2 == v) t (h / 2) _ _ (drop 1 cs) other ∙ reads_none t (h / 2) _ (drop 1 cs) none
second-wants (Some j) t first h v content k cs e other none = cc

-- the second content is the first of the rest
second_content : (cs : List ℕ) → get_or (drop 1 cs) 0 0 ≡ get_or cs 1 0
second_content [] = refl
second_content (c ∷ cs) = refl

rest-rest : (cs : List ℕ) → drop 1 (drop 1 cs) ≡ drop 2 cs
rest-rest [] = refl
rest-rest (c ∷ []) = refl
rest-rest (c ∷ d ∷ cs) = refl

pub second-has : (f : Option ℕ) (t : Bool) (first h v content : ℕ) (k : Continuation) (cs : List ℕ) → f ≡ None
    → (h / 2 == v) ≡ false → 1 ≤ length (drop 1 cs)
    → of (with_second f t first h v content k) (drop 1 cs)
    ≡ given_by t (Has (record { decoded = decoded_entry first (half_of (get_or cs 1 0) h); fault = None }) 2) cs k
second-has None t first h v content k cs e other some =
    second-there (h / 2 == v) t (h / 2) _ _ (drop 1 cs) other
    ∙ reads_next t (h / 2) _ (drop 1 cs) some
    ∙ ap (λ c. of (k (record { decoded = decoded_entry first (half_of c h); fault = None })) (drop 1 (drop 1 cs))) (second_content cs)
    ∙ ap (of (k (record { decoded = decoded_entry first (half_of (get_or cs 1 0) h); fault = None }))) (rest-rest cs)
second-has (Some j) t first h v content k cs e other some = cc

-- a result that is found already ignores the rest of the contents
pub found-of : (r : Reading) (f : Fetched) (cs : List ℕ) → r ≡ Finds f → of r cs ≡ Found f
unfolding left_after fetching_of
found-of r f cs e = ap (λ r. fetching_of (left_after r cs)) e

-- a result that is found with the second half-word ignores the rest of the contents
pub found-second : (r : Fetching) (first made second : ℕ) (k : Continuation) (f : Fetched) (cs : List ℕ)
    → r ≡ of (k (record { decoded = decoded_entry first made; fault = None })) cs → second ≡ made
    → k (record { decoded = decoded_entry first second; fault = None }) ≡ Finds f → r ≡ Found f
found-second r first made second k f cs is same found =
    is
    ∙ ap (λ x. of (k (record { decoded = decoded_entry first x; fault = None })) cs) (sym same)
    ∙ found-of (k (record { decoded = decoded_entry first second; fault = None })) f cs found

found-first : (two : Bool) (r q : Reading) (f : Fetched) (cs : List ℕ) → two ≡ false → q ≡ Finds f → of (if two then r else q) cs ≡ Found f
found-first true r q f cs h found = cc
found-first false r q f cs h found = found-of q f cs found

-- an instruction of one half-word
pub found-short : (b : ℕ) (en : Bool) (h content first : ℕ) (k : Continuation) (f : Fetched) (cs : List ℕ) → first ≡ half_of content h
    → ((decoded_entry first 0).halves == 2) ≡ false → k (record { decoded = decoded_entry first 0; fault = None }) ≡ Finds f
    → of (with_first false b en h content k) cs ≡ Found f
unfolding with_first
found-short b en h content first k f cs same short found =
    found-first ((decoded_entry (half_of content h) 0).halves == 2) _ _ f cs
    (ap (λ x. (decoded_entry x 0).halves == 2) (sym same) ∙ short)
    (ap (λ x. k (record { decoded = decoded_entry x 0; fault = None })) (sym same) ∙ found)

taken : (two : Bool) (r q : Reading) (cs : List ℕ) → two ≡ true → of (if two then r else q) cs ≡ of r cs
taken true r q cs h = refl
taken false r q cs h = cc

-- an instruction of two half-words
pub found-long : (b : ℕ) (en : Bool) (h content first : ℕ) (k : Continuation) (cs : List ℕ) → first ≡ half_of content h
    → ((decoded_entry first 0).halves == 2) ≡ true
    → of (with_first false b en h content k) cs
    ≡ of (with_second (forbidden_by b en Fetch ((h + 1) / 2)) false first (h + 1) (h / 2) content k) cs
unfolding with_first
found-long b en h content first k cs same long =
    taken _ _ _ cs (ap (λ x. (decoded_entry x 0).halves == 2) (sym same) ∙ long)
    ∙ ap (λ x. of (with_second (forbidden_by b en Fetch ((h + 1) / 2)) false x (h + 1) (h / 2) content k) cs) (sym same)

-- ---- the target of EX

pub other-found : (e : Bool) (r : Reading) (f : Fetched) (cs : List ℕ) → e ≡ false
    → of (if e then r else Finds f) cs ≡ Found f
unfolding left_after fetching_of
other-found true r f cs h = cc
other-found false r f cs h = refl

chosen-found : (e : Bool) (r : Reading) (f : Fetched) → e ≡ false → (if e then r else Finds f) ≡ Finds f
chosen-found true r f h = cc
chosen-found false r f h = refl

-- an instruction other than EX that may be fetched is the whole result, if the contents have all of it
pub known-found : (x : List ℕ) (b : ℕ) (en : Bool) (place : Place) (cs : List ℕ) (first second : ℕ)
    → ((k : Continuation) (f : Fetched) → k (allowed_found first second) ≡ Finds f → of (instruction_at false b en place.address k) cs ≡ Found f)
    → is_execute (instruction_of first second) ≡ false
    → of (reading_at_place x b en place) cs ≡ Found (fetched_plain (decoded_entry first second))
unfolding reading_at_place own_use
known-found x b en place cs first second found h =
    found (own_use x b en) (fetched_plain (decoded_entry first second)) (chosen-found (is_execute (instruction_of first second)) _ _ h)

pub target-given : (e : Bool) (r : Reading) (f : Fetched) (cs : List ℕ) → e ≡ true
    → of (if e then r else Finds f) cs ≡ of r cs
target-given true r f cs h = refl
target-given false r f cs h = cc

pub target-found : (ex : Decoded) (found : FoundInstruction) (n : ℕ) (cs : List ℕ)
    → given_by true (Has found n) cs (λ target. Finds (with_target ex target)) ≡ Found (with_target ex found)
unfolding left_after fetching_of
target-found ex found n cs = refl

pub is_none : (n : ℕ) → (n == 0) ≡ true → n ≡ 0
is_none n h = eqb-true n 0 h

pub is_some : (n : ℕ) → (n == 0) ≡ false → 1 ≤ n
is_some zero h = cc
is_some (suc n) h = omega arith

pub same_test : (a b : ℕ) → a ≡ b → (a == b) ≡ true
same_test a b h = grind (arith, nat_tests, h)

pub differs : (a b : ℕ) → a ≢ b → (a == b) ≡ false
differs a b h = grind (arith, nat_tests, h)
