-- Weights, needs and operations as bytes: how each is spelled, and how the fields of a spelling are read.
use Rattle.std.specs.Prelude.{◌≡◌, ℕ, zero, suc, ◌+◌, ◌^◌, ◌<◌, ℤ, Bool, not, ◌&&◌, ◌==◌, nat_le, nat_lt, List, [], ◌∷◌, ◌++◌, length, take, drop, slice_index, All, Result, Ok, Err, if◌then◌else◌}
use Rattle.std.specs.Int.{w64, to_be_bytes, from_be_bytes, cast_unsigned, cast_signed}
use Rattle.std.specs.Int.RustNames.{unsigned_abs}
use Rattle.std.specs.List.{flat_map}
use Rattle.tact_base.specs.ConitList.{IsConitList}
use Rattle.tact_base.specs.declared.limits.TheConstants.{AMOUNT_MAX, KEY_MAX, MOMENT_MAX, VALUE_MAX, WEIGHT_MAX, LIST_MAX}
use Rattle.tact_base.specs.declared.conit_list.Weight.{Weight}
use Rattle.tact_base.specs.declared.conit_list.Need.{Need}
use Rattle.tact_base.specs.declared.write.Op.{Op}
use Rattle.tact_base.specs.declared.write.Op.TheVariants.{Put, Add, Shift}
use Rattle.run_model.specs.declared.fields.FieldFault.{FieldFault}
use Rattle.run_model.specs.declared.fields.FieldFault.TheVariants.{Short, BadField}

-- ---- spelling

-- a number in eight bytes, the highest first
unfoldable pub number_bytes : ℕ → List ℕ
number_bytes number = to_be_bytes w64 number

-- a signed one as two's complement
unfoldable pub signed_bytes : ℤ → List ℕ
signed_bytes number = number_bytes (cast_unsigned w64 number)

-- a weight: its conit in one byte, and its numbers
abbrev pub weight_bytes : Weight → List ℕ
weight_bytes weight = weight.conit ∷ signed_bytes weight.nweight ++ number_bytes weight.oweight

-- a need: its conit in one byte, and its numbers
abbrev pub need_bytes : Need → List ℕ
need_bytes need = need.conit ∷ number_bytes need.num ++ (number_bytes need.order ++ number_bytes need.stale)

-- weights, and needs: how many in one byte, then each
abbrev pub weights_bytes : List Weight → List ℕ
weights_bytes weights = length weights ∷ flat_map weight_bytes weights

abbrev pub needs_bytes : List Need → List ℕ
needs_bytes needs = length needs ∷ flat_map need_bytes needs

-- an operation: its tag in one byte, and its fields
abbrev pub op_bytes : Op → List ℕ
op_bytes (Put key value) = 1 ∷ number_bytes key ++ signed_bytes value
op_bytes (Add key delta) = 2 ∷ number_bytes key ++ signed_bytes delta
op_bytes (Shift from to amount) = 3 ∷ number_bytes from ++ (number_bytes to ++ number_bytes amount)

-- a spelling stands in bytes from a place on
abbrev pub StandsAt : List ℕ → List ℕ → ℕ → Type 0
StandsAt spelling bytes place = take (length spelling) (drop place bytes) ≡ spelling

-- ---- reading, field by field from the left

-- a value and the place after it, or the first fault
abbrev pub Field : Type 0 → Type 0
Field A = Result (A × ℕ) FieldFault

infixl 10 ◌>>=◌
abbrev pub ◌>>=◌ : {A B : Type 0} → Result A FieldFault → (A → Result B FieldFault) → Result B FieldFault
(Ok x) >>= f = f x
(Err fault) >>= f = Err fault

-- The rule of reading: a field of some width is judged when all its bytes are there, and at fault where its value
-- breaks its rule.
abbrev pub field_at : {A : Type 0} → ℕ → (List ℕ → A) → (A → Bool) → List ℕ → ℕ → Field A
field_at width value rule bytes place =
    if nat_lt (length bytes) (place + width) then Err Short
    else if rule (value (take width (drop place bytes))) then Ok (value (take width (drop place bytes)), place + width)
    else Err (BadField place)

-- a number is at least one number and below another
abbrev pub is_from_to : ℕ → ℕ → ℕ → Bool
is_from_to least bound number = nat_le least number && nat_lt number bound

-- a number of one byte, and one of eight, at least `least` and below `bound`; a signed one of at most a size
unfoldable pub byte_at : ℕ → ℕ → List ℕ → ℕ → Field ℕ
byte_at least bound = field_at 1 (λ field. slice_index field 0) (is_from_to least bound)

unfoldable pub number_at : ℕ → ℕ → List ℕ → ℕ → Field ℕ
number_at least bound = field_at 8 (from_be_bytes w64) (is_from_to least bound)

unfoldable pub signed_at : ℕ → List ℕ → ℕ → Field ℤ
signed_at size = field_at 8 (λ field. cast_signed w64 (from_be_bytes w64 field)) (λ number. nat_le (unsigned_abs number) size)

-- a replica other than one, of so many, in one byte
abbrev pub is_other : ℕ → ℕ → ℕ → Bool
is_other other replicas replica = nat_lt replica replicas && not (replica == other)

unfoldable pub other_at : ℕ → ℕ → List ℕ → ℕ → Field ℕ
other_at other replicas = field_at 1 (λ field. slice_index field 0) (is_other other replicas)

-- any number of eight bytes, and any signed one
abbrev pub any_number_at : List ℕ → ℕ → Field ℕ
any_number_at = number_at 0 (2 ^ 64)

abbrev pub any_signed_at : List ℕ → ℕ → Field ℤ
any_signed_at = signed_at (2 ^ 63)

-- So many items one after the other. Each is read with the least number that it may begin with, which follows from the
-- one before.
unfoldable pub list_at : {A : Type 0} → (ℕ → List ℕ → ℕ → Field A) → (A → ℕ) → ℕ → ℕ → List ℕ → ℕ → Field (List A)
list_at item after zero least bytes place = Ok ([], place)
list_at item after (suc count) least bytes place = do
  first ← item least bytes place
  others ← list_at item after count (after first.0) bytes first.1
  Ok (first.0 ∷ others.0, others.1)

-- so many numbers of eight bytes, each below a bound
abbrev pub numbers_at : ℕ → ℕ → List ℕ → ℕ → Field (List ℕ)
numbers_at bound count = list_at (λ least. number_at 0 bound) (λ number. 0) count 0

-- a weight with a conit of at least `least`, which the one before doesn't reach
unfoldable pub weight_at : ℕ → ℕ → List ℕ → ℕ → Field Weight
weight_at conits least bytes place = do
  conit ← byte_at least conits bytes place
  nweight ← signed_at WEIGHT_MAX bytes conit.1
  oweight ← number_at 0 (suc WEIGHT_MAX) bytes nweight.1
  Ok (record { conit = conit.0; nweight = nweight.0; oweight = oweight.0 }, oweight.1)

-- a need, alike
unfoldable pub need_at : ℕ → ℕ → List ℕ → ℕ → Field Need
need_at conits least bytes place = do
  conit ← byte_at least conits bytes place
  num ← number_at 0 (suc AMOUNT_MAX) bytes conit.1
  order ← number_at 0 (suc AMOUNT_MAX) bytes num.1
  stale ← number_at 0 (suc MOMENT_MAX) bytes order.1
  Ok (record { conit = conit.0; num = num.0; order = order.0; stale = stale.0 }, stale.1)

-- weights, and needs, with rising conits
unfoldable pub weights_at : ℕ → List ℕ → ℕ → Field (List Weight)
weights_at conits bytes place = do
  count ← byte_at 0 (suc LIST_MAX) bytes place
  list_at (weight_at conits) (λ weight. suc weight.conit) count.0 0 bytes count.1

unfoldable pub needs_at : ℕ → List ℕ → ℕ → Field (List Need)
needs_at conits bytes place = do
  count ← byte_at 0 (suc LIST_MAX) bytes place
  list_at (need_at conits) (λ need. suc need.conit) count.0 0 bytes count.1

-- an operation, by its tag
unfoldable pub put_at : List ℕ → ℕ → Field Op
put_at bytes place = do
  key ← number_at 0 (suc KEY_MAX) bytes place
  value ← signed_at VALUE_MAX bytes key.1
  Ok (Put key.0 value.0, value.1)

unfoldable pub add_at : List ℕ → ℕ → Field Op
add_at bytes place = do
  key ← number_at 0 (suc KEY_MAX) bytes place
  delta ← signed_at VALUE_MAX bytes key.1
  Ok (Add key.0 delta.0, delta.1)

unfoldable pub shift_at : List ℕ → ℕ → Field Op
shift_at bytes place = do
  from ← number_at 0 (suc KEY_MAX) bytes place
  to ← number_at 0 (suc KEY_MAX) bytes from.1
  amount ← number_at 0 (suc VALUE_MAX) bytes to.1
  Ok (Shift from.0 to.0 amount.0, amount.1)

unfoldable pub op_at : List ℕ → ℕ → Field Op
op_at bytes place = do
  tag ← byte_at 1 4 bytes place
  if tag.0 == 1 then put_at bytes tag.1 else if tag.0 == 2 then add_at bytes tag.1 else shift_at bytes tag.1

-- what a reader answers and where it leaves the place: the value and the place after it, or the fault and the place as
-- it was
abbrev pub Reads : {A : Type 0} → Result A FieldFault → ℕ → ℕ → Field A → Type 0
Reads (Ok x) old new read = read ≡ Ok (x, new)
Reads (Err fault) old new read = (read ≡ Err fault) × (new ≡ old)

-- weights as their type has them, of a setup with so many conits
abbrev pub AreWeightsOf : ℕ → List Weight → Type 0
AreWeightsOf conits weights =
    IsConitList (λ (weight : Weight). weight.conit) (λ (weight : Weight). nat_le (unsigned_abs weight.nweight) WEIGHT_MAX && nat_le weight.oweight WEIGHT_MAX) weights
    × All (λ (weight : Weight). weight.conit < conits) weights

-- needs alike
abbrev pub AreNeedsOf : ℕ → List Need → Type 0
AreNeedsOf conits needs =
    IsConitList (λ (need : Need). need.conit) (λ (need : Need). nat_le need.num AMOUNT_MAX && nat_le need.order AMOUNT_MAX && nat_le need.stale MOMENT_MAX) needs
    × All (λ (need : Need). need.conit < conits) needs
