-- What a JSON value is read as: a whole number in its range, or a list. Of the faults of what stands together the one
-- counts whose kind is tried first, wherever it is.
use Rattle.std.specs.Prelude.{ℕ, ◌++◌, ℤ, unsigned_abs, ◌&&◌, nat_le, nat_lt, List, [], ◌∷◌, Option, Some, None, option_and_then, Result, Ok, Err, if◌then◌else◌}
use Rattle.std.specs.List.{fold}
use Rattle.run_model.specs.declared.status.LoadKind.{LoadKind}
use Rattle.run_model.specs.declared.status.LoadKind.TheVariants.{NotJson, Shape, Range, Twice, LoansOver, Same, Unordered}
use Rattle.serde_json.specs.Data.{Data, Items, no_items, item}
use Rattle.serde_json.specs.Find.{as_number, as_array, as_u64, as_i64}

-- what is read, or a fault
abbrev pub Reading : Type 0 → Type 0
Reading A = Result A LoadKind

infixl 10 ◌>>=◌
abbrev pub ◌>>=◌ : {A B E : Type 0} → Result A E → (A → Result B E) → Result B E
(Ok x) >>= f = f x
(Err kind) >>= f = Err kind

-- the order in which the kinds are tried
abbrev pub rank : LoadKind → ℕ
rank NotJson = 0
rank Shape = 1
rank Range = 2
rank Twice = 3
rank LoansOver = 4
rank Same = 5
rank Unordered = 6

-- of two kinds the one that is tried first
abbrev pub earlier : LoadKind → LoadKind → LoadKind
earlier first second = if nat_lt (rank second) (rank first) then second else first

-- two things that stand together
abbrev pub both : {A B : Type 0} → Reading A → Reading B → Reading (A × B)
both (Ok x) (Ok y) = Ok (x, y)
both (Ok x) (Err kind) = Err kind
both (Err kind) (Ok y) = Err kind
both (Err first) (Err second) = Err (earlier first second)

-- a list with one more item that stands together with it
abbrev pub with_last : {A : Type 0} → Reading (List A) → Reading A → Reading (List A)
with_last found last = do
  pair ← both found last
  Ok (pair.0 ++ pair.1 ∷ [])

-- all items of a list, which stand together
abbrev pub all_of : {A : Type 0} → (Data → Reading A) → List Data → Reading (List A)
all_of read values = fold (λ found value. with_last found (read value)) (Ok []) values

-- A whole number of 64 bits from `least` to `most`. Anything else has another shape.
abbrev pub natural_from : ℕ → ℕ → Option ℕ → Option ℤ → Reading ℕ
natural_from least most (Some number) signed = if nat_le least number && nat_le number most then Ok number else Err Range
natural_from least most None (Some number) = Err Range
natural_from least most None None = Err Shape

unfoldable pub natural : ℕ → ℕ → Data → Reading ℕ
natural least most value = natural_from least most (option_and_then as_u64 (as_number value)) (option_and_then as_i64 (as_number value))

-- a whole number of 64 bits from -size to size
abbrev pub signed_from : ℕ → Option ℤ → Option ℕ → Reading ℤ
signed_from size (Some number) natural = if nat_le (unsigned_abs number) size then Ok number else Err Range
signed_from size None (Some number) = Err Range
signed_from size None None = Err Shape

unfoldable pub signed : ℕ → Data → Reading ℤ
signed size value = signed_from size (option_and_then as_i64 (as_number value)) (option_and_then as_u64 (as_number value))

-- the items of a list
abbrev pub list_of : Items → List Data
list_of no_items = []
list_of (item value rest) = value ∷ list_of rest

abbrev pub listed_from : Option Items → Reading (List Data)
listed_from (Some items) = Ok (list_of items)
listed_from None = Err Shape

unfoldable pub listed : Data → Reading (List Data)
listed value = listed_from (as_array value)
