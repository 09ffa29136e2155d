-- A line that was read is the spelling of its item.
use Rattle.st_object.proofs.Common.{◌≡◌, ◌<◌, ◌%◌, ◌^◌, ℕ, List, [], Option, Some, None, refl, subst, arith, AllPass, option_map, option_and_then, same_text, words, columns, numbers_of, control_of, card_numbers, control_in, is_tick, Keyword, Control, numbers-short, control-parts, line_text, hex_number, kind_of_word, item_behind, item_loosely, item_in, Item, Word, Ask, Kind}
use Rattle.st_object.specs.declared.items.Kind.TheVariants as kinds

-- the property of an item that the rest of a program needs: a word has 64 bits, and the numbers of a
-- request have at most 12 digits
abbrev pub IsNarrow : Item → Type 0
IsNarrow (Word w x) = x < 2 ^ 64
IsNarrow (Ask c) = AllPass is_tick (numbers_of c)
IsNarrow _ = Unit {0}

narrow_hex : (cs : List ℕ) → hex_number cs % 2 ^ 64 < 2 ^ 64
narrow_hex cs = omega arith

control_narrow : (keyword : Keyword) (words : List (List ℕ)) (numbers : Option (List ℕ)) (c : Control) → card_numbers words ≡ numbers →
    option_and_then (control_of keyword) numbers ≡ Some c → AllPass is_tick (numbers_of c)
control_narrow keyword words None c read same = cc
control_narrow keyword words (Some numbers) c read same =
    rw (control-parts keyword numbers c same).1 (numbers-short words numbers read)

ask_narrow : (o : Option Control) (item : Item) → option_map (λ c. Ask c) o ≡ Some item → ((c : Control) → o ≡ Some c → IsNarrow (Ask c)) → IsNarrow item
ask_narrow None item same narrow = cc
ask_narrow (Some c) item same narrow = let is : Ask c ≡ item = cc in subst (λ i. IsNarrow i) is (narrow c refl)

behind_narrow : (kind : Kind) (text : List ℕ) (item : Item) → item_behind kind text ≡ Some item → IsNarrow item
behind_narrow kinds.Object text item same = grind arith
behind_narrow kinds.Start text item same = grind arith
behind_narrow kinds.Word text item same = grind (arith, narrow_hex)
behind_narrow (kinds.Ask keyword) text item same =
    ask_narrow (control_in keyword text) item same
    (λ c is. control_narrow keyword (words (columns text)) (card_numbers (words (columns text))) c refl is)
behind_narrow kinds.Fin text item same = grind arith

item_narrow : (kind : Option Kind) (text : List ℕ) (item : Item) → option_and_then (λ k. item_behind k text) kind ≡ Some item → IsNarrow item
item_narrow None text item same = cc
item_narrow (Some kind) text item same = behind_narrow kind text item same

loosely_narrow : (parts : Option (List ℕ × List ℕ)) (line : List ℕ) (item : Item) → item_loosely parts line ≡ Some item → IsNarrow item
loosely_narrow None line item same = item_narrow (kind_of_word line) [] item same
loosely_narrow (Some p) line item same = item_narrow (kind_of_word p.0) p.1 item same

-- the item that was read spells the line
pub told : (line : List ℕ) (item : Item) → item_in line ≡ Some item → (line_text item ≡ line) × IsNarrow item
told line item same = grind (arith, same_text, loosely_narrow)
