-- The result of a read from bytes in memory.
use Rattle.st_io.proofs.Common.{◌≡◌, ℕ, ◌+◌, ◌-◌, ◌^◌, ◌<◌, ◌≤◌, min, List, ◌++◌, length, take, drop, refl, sym, ap, ◌∙◌, arith, length-append, length-drop, take_at, drop-drop, take-append-drop, take_all, length-take-le, Gave}
use Rattle.std.proofs.Math.ListN.{drop_of_length-le}
use Rattle.st_io.specs.Memory.{sure_input}

-- the first remaining bytes, as many as the buffer has room for
pub gave_front : (bytes rest buffer : List ℕ) (taken n : ℕ) → taken ≤ length bytes → length bytes < 2 ^ 64 → rest ≡ take (length bytes - taken) (drop taken bytes) → n ≡ min (length buffer) (length rest)
    → Gave (sure_input (record { left = drop taken bytes; taken = taken })) (sure_input (record { left = drop (taken + n) bytes; taken = taken + n }))
    (take n rest ++ drop n buffer) n
gave_front bytes rest buffer taken n within small whole count =
    let all : rest ≡ drop taken bytes = whole ∙ take_all (length bytes - taken) (drop taken bytes) (omega (arith, length-drop taken bytes)) in
    let size : length (take n rest) ≡ n = length-take-le n rest (omega arith) in
    let front : take n (take n rest ++ drop n buffer) ≡ take n rest = take_at (take n rest) (drop n buffer) n size in
    let left : length rest ≡ length bytes - taken = ap length all ∙ length-drop taken bytes in
    record {
      came = record {
        consumed = rw (front, ← drop-drop n taken bytes, ← all) (sym (take-append-drop n rest));
        counts = rw front (omega (arith, size, left));
      };
      steady = refl;
      ends = λ none some. drop_of_length-le bytes (omega (arith, length-append (take n rest) (drop n buffer), size, length-drop n buffer, left));
    }
