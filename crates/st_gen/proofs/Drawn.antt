-- A property of each form of statement holds of all drawn statements.
use Rattle.std.proofs.Common.{◌++◌, ℕ, List, codes}
use Rattle.st_gen.specs.Deck.{index, word_text, bit_text, small_value, field_length, byte_field_length, field_operands, statement, form_after}
use Rattle.st_gen.specs.declared.form.StatementForm.{StatementForm}
use Rattle.st_gen.specs.declared.form.StatementForm.TheVariants.{LoadValue, AddValue, LoadWord, Add, Store, AddOne, Connect, Multiply}

-- the property holds of the eight forms of statement, regardless of the generator's state
pub record HoldsOfEach (P : List ℕ → Type 0) : Type 0 where
  pub load_value : (x : ℕ) → P (codes "LVI,$X" ++ index 1 x ++ codes "," ++ word_text 2 x ++ codes ".0")
  pub add_value : (x : ℕ) → P (codes "V+I,$X" ++ index 1 x ++ codes "," ++ small_value 2 x ++ codes ".0")
  pub load_word : (x : ℕ) → P (codes "L(BU,64)," ++ word_text 1 x ++ codes ".0")
  pub add : (x : ℕ) → P (codes "+" ++ field_operands x)
  pub store : (x : ℕ) → P (codes "ST" ++ field_operands x)
  pub add_one : (x : ℕ) → P (codes "M+1(B," ++ byte_field_length 1 x ++ codes ",8)," ++ word_text 2 x ++ codes "." ++ bit_text 3 x)
  pub connect : (x : ℕ) → P (codes "C0110" ++ field_operands x)
  pub multiply : (x : ℕ) → P (codes "*(BU," ++ field_length 1 x ++ codes ")(V+I),0.32($X" ++ index 2 x ++ codes ")")

by_form : (P : List ℕ → Type 0) → HoldsOfEach P → (form : StatementForm) (x : ℕ) → P (statement form x)
by_form P each LoadValue x = each.load_value x
by_form P each AddValue x = each.add_value x
by_form P each LoadWord x = each.load_word x
by_form P each Add x = each.add x
by_form P each Store x = each.store x
by_form P each AddOne x = each.add_one x
by_form P each Connect x = each.connect x
by_form P each Multiply x = each.multiply x

pub drawn-cases : (P : List ℕ → Type 0) → HoldsOfEach P → (y x : ℕ) → P (statement (form_after y) x)
drawn-cases P each y x = by_form P each (form_after y) x
