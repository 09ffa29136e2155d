-- A complete draft describes a program, and its lines are the program's object text.
use Rattle.st_object.proofs.Common.{◌≡◌, ◌≤◌, ◌<◌, ◌-◌, ◌^◌, ℕ, true, List, ◌++◌, length, get_or, replicate, Option, Some, IfSome, unwrap_or, ap, sym, ◌∙◌, append-nil, length-append, arith, lit<, nat_tests, common_steps, length-map, length-replicate, All-append, All-replicate, words_of_storage, word_lines, Draft, IsDraft, lines_read, is_whole, IsProgram, AreWords, object_lines, filled_up, program_of}
use Rattle.st_object.proofs.FurtherLines.{word_lines-append, word_lines-zeros}
use Rattle.st_object.proofs.WrittenLines.{whole_lines}

-- a complete draft has all required lines
has_all : (d : Draft) → is_whole d ≡ true →
    (record d { begun = true; start = Some (unwrap_or d.start 0); ended = true } ≡ d) × ((1 ≤ d.asked.budget) × (1 ≤ length d.asked.delays))
unfolding is_whole
has_all d whole = grind (arith, nat_tests, length-map)

-- zeros after words do not change a word that is zero
zero_kept : (xs : List ℕ) (n k : ℕ) → get_or xs k 0 ≡ 0 → get_or (xs ++ replicate n 0) k 0 ≡ 0
zero_kept xs n k zero_here = grind (arith, common_steps)

pub start_small : (o : Option ℕ) → IfSome o (λ h. h < 2 ^ 19) → unwrap_or o 0 < 2 ^ 19
start_small o small = grind arith

-- a complete draft describes a program
pub whole_program : (d : Draft) → IsDraft d → is_whole d ≡ true → IsProgram (program_of d)
whole_program d draft whole =
    let all = has_all d whole in
    let zeros : ℕ = words_of_storage - length d.words in
    record {
      image = record {
        size = omega (arith, draft.few, length-append d.words (replicate zeros 0), length-replicate {A = ℕ} zeros 0);
        registers = λ w low. zero_kept d.words zeros w (draft.registers w low);
      };
      start = start_small d.start draft.start;
      limits = draft.limits;
      budget = all.1.0;
      delays = all.1.1;
      unlisted = draft.unlisted;
    }

-- the program of a complete draft has words of 64 bits
pub whole_words : (d : Draft) → IsDraft d → AreWords (program_of d).words
whole_words d draft =
    let zeros : ℕ = words_of_storage - length d.words in
    All-append (λ x. x < 2 ^ 64) d.words (replicate zeros 0) draft.each (All-replicate (λ x. x < 2 ^ 64) zeros 0 (lit< tt))

-- trailing zeros have no lines
filled_lines : (xs : List ℕ) → word_lines 0 (filled_up xs) ≡ word_lines 0 xs
filled_lines xs = rw (word_lines-append 0 xs (replicate (words_of_storage - length xs) 0), word_lines-zeros, append-nil)

-- the lines of a complete draft are those of its program
pub whole_lines_of : (d : Draft) → is_whole d ≡ true → object_lines (program_of d) ≡ lines_read d
whole_lines_of d whole =
    sym (whole_lines (program_of d)) ∙ rw (filled_lines d.words) (ap (λ (x : Draft). lines_read x) (has_all d whole).0)
