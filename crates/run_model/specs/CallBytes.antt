-- Requests and replies as bytes: how each is spelled, and how a spelling is read.
use Rattle.std.specs.Prelude.{ℕ, suc, ◌^◌, ◌<◌, ◌≤◌, ℤ, ◌==◌, List, [], ◌∷◌, ◌++◌, length, All, Ok, if◌then◌else◌}
use Rattle.std.specs.Int.{w64}
use Rattle.std.specs.Int.RustNames.{unsigned_abs, FitsSigned}
use Rattle.std.specs.List.{flat_map}
use Rattle.tact_base.specs.declared.limits.TheConstants.{AMOUNT_MAX, KEY_MAX, WEIGHT_MAX, LIST_MAX}
use Rattle.tact_base.specs.declared.conit_list.Weight.{Weight}
use Rattle.tact_base.specs.declared.conit_list.Need.{Need}
use Rattle.run_model.specs.declared.call.Request.{Request}
use Rattle.run_model.specs.declared.call.Request.TheVariants.{Write, Held, Reserve, Release, Read}
use Rattle.run_model.specs.declared.call.Reply.{Reply}
use Rattle.run_model.specs.declared.call.Reply.TheVariants.{Done, Granted, Released, Value, TooHeavy, WaitHeld, WaitShare, WaitLent, WaitOrder, WaitStale, NotHeld}
use Rattle.run_model.specs.Ranges.{IsOpInRange}
use Rattle.run_model.specs.Bytes.{◌>>=◌, Field, AreWeightsOf, AreNeedsOf, number_bytes, signed_bytes, weight_bytes, weights_bytes, needs_bytes, op_bytes, byte_at, number_at, any_number_at, any_signed_at, list_at, weight_at, weights_at, needs_at, op_at}

-- ---- requests

-- a request of a setup with so many conits, its numbers within their limits
abbrev pub IsRequestOf : ℕ → Request → Type 0
IsRequestOf conits (Write weights op) = AreWeightsOf conits weights × IsOpInRange op
IsRequestOf conits (Held weight op) =
    (weight.conit < conits) × (unsigned_abs weight.nweight ≤ WEIGHT_MAX) × (weight.oweight ≤ WEIGHT_MAX) × IsOpInRange op
IsRequestOf conits (Reserve conit amount) = (conit < conits) × (amount ≤ AMOUNT_MAX)
IsRequestOf conits (Release conit amount) = (conit < conits) × (amount ≤ AMOUNT_MAX)
IsRequestOf conits (Read key needs) = (key ≤ KEY_MAX) × AreNeedsOf conits needs

-- the conits that a request names are below a number
abbrev pub HasConitsBelow : ℕ → Request → Type 0
HasConitsBelow conits (Write weights op) = All (λ (weight : Weight). weight.conit < conits) weights
HasConitsBelow conits (Held weight op) = weight.conit < conits
HasConitsBelow conits (Reserve conit amount) = conit < conits
HasConitsBelow conits (Release conit amount) = conit < conits
HasConitsBelow conits (Read key needs) = All (λ (need : Need). need.conit < conits) needs

-- a request: its tag in one byte, and its fields
abbrev pub request_bytes : Request → List ℕ
request_bytes (Write weights op) = 1 ∷ weights_bytes weights ++ op_bytes op
request_bytes (Held weight op) = 2 ∷ weight_bytes weight ++ op_bytes op
request_bytes (Reserve conit amount) = 3 ∷ conit ∷ number_bytes amount
request_bytes (Release conit amount) = 4 ∷ conit ∷ number_bytes amount
request_bytes (Read key needs) = 5 ∷ number_bytes key ++ needs_bytes needs

-- the fields of each kind of request, and a request by its tag
unfoldable pub write_at : ℕ → List ℕ → ℕ → Field Request
write_at conits bytes place = do
  weights ← weights_at conits bytes place
  op ← op_at bytes weights.1
  Ok (Write weights.0 op.0, op.1)

unfoldable pub held_at : ℕ → List ℕ → ℕ → Field Request
held_at conits bytes place = do
  weight ← weight_at conits 0 bytes place
  op ← op_at bytes weight.1
  Ok (Held weight.0 op.0, op.1)

unfoldable pub reserve_at : ℕ → List ℕ → ℕ → Field Request
reserve_at conits bytes place = do
  conit ← byte_at 0 conits bytes place
  amount ← number_at 0 (suc AMOUNT_MAX) bytes conit.1
  Ok (Reserve conit.0 amount.0, amount.1)

unfoldable pub release_at : ℕ → List ℕ → ℕ → Field Request
release_at conits bytes place = do
  conit ← byte_at 0 conits bytes place
  amount ← number_at 0 (suc AMOUNT_MAX) bytes conit.1
  Ok (Release conit.0 amount.0, amount.1)

unfoldable pub read_at : ℕ → List ℕ → ℕ → Field Request
read_at conits bytes place = do
  key ← number_at 0 (suc KEY_MAX) bytes place
  needs ← needs_at conits bytes key.1
  Ok (Read key.0 needs.0, needs.1)

unfoldable pub request_fields_at : ℕ → ℕ → List ℕ → ℕ → Field Request
request_fields_at conits tag bytes place =
    if tag == 1 then write_at conits bytes place
    else if tag == 2 then held_at conits bytes place
    else if tag == 3 then reserve_at conits bytes place
    else if tag == 4 then release_at conits bytes place
    else read_at conits bytes place

unfoldable pub request_at : ℕ → List ℕ → ℕ → Field Request
request_at conits bytes place = do
  tag ← byte_at 1 6 bytes place
  request_fields_at conits tag.0 bytes tag.1

-- ---- replies

-- The conits and replicas that a reply names have one byte each.
abbrev pub HasSmallNames : Reply → Type 0
HasSmallNames (TooHeavy conit peer weight share) = (conit < 256) × (peer < 256)
HasSmallNames (WaitHeld conit peer reserved weight share) = (conit < 256) × (peer < 256)
HasSmallNames (WaitShare conit peer missing reserved weight share) = (conit < 256) × (peer < 256)
HasSmallNames (WaitLent conit holder out total num) = (conit < 256) × (holder < 256)
HasSmallNames (WaitOrder conit replica tentative order) = (conit < 256) × (replica < 256)
HasSmallNames (WaitStale conit replica moment wanted) = (conit < 256) × (replica < 256)
HasSmallNames (NotHeld conit held amount) = conit < 256
HasSmallNames _ = Unit {0}

-- All its other numbers have eight, and there are at most four sums.
abbrev pub HasWideNumbers : Reply → Type 0
HasWideNumbers (Done index stamp) = (index < 2 ^ 64) × (stamp < 2 ^ 64)
HasWideNumbers Granted = Unit {0}
HasWideNumbers Released = Unit {0}
HasWideNumbers (Value value sums) = FitsSigned w64 value × (length sums ≤ LIST_MAX) × All (λ sum. FitsSigned w64 sum) sums
HasWideNumbers (TooHeavy conit peer weight share) = (weight < 2 ^ 64) × (share < 2 ^ 64)
HasWideNumbers (WaitHeld conit peer reserved weight share) = (reserved < 2 ^ 64) × (weight < 2 ^ 64) × (share < 2 ^ 64)
HasWideNumbers (WaitShare conit peer missing reserved weight share) =
    (missing < 2 ^ 64) × (reserved < 2 ^ 64) × (weight < 2 ^ 64) × (share < 2 ^ 64)
HasWideNumbers (WaitLent conit holder out total num) = (out < 2 ^ 64) × (total < 2 ^ 64) × (num < 2 ^ 64)
HasWideNumbers (WaitOrder conit replica tentative order) = (tentative < 2 ^ 64) × (order < 2 ^ 64)
HasWideNumbers (WaitStale conit replica moment wanted) = (moment < 2 ^ 64) × (wanted < 2 ^ 64)
HasWideNumbers (NotHeld conit held amount) = (held < 2 ^ 64) × (amount < 2 ^ 64)

-- a reply: its tag in one byte, and its fields
abbrev pub reply_bytes : Reply → List ℕ
reply_bytes (Done index stamp) = 1 ∷ flat_map number_bytes (index ∷ stamp ∷ [])
reply_bytes Granted = 2 ∷ []
reply_bytes Released = 3 ∷ []
reply_bytes (Value value sums) = 4 ∷ signed_bytes value ++ length sums ∷ flat_map signed_bytes sums
reply_bytes (TooHeavy conit peer weight share) = 5 ∷ conit ∷ peer ∷ flat_map number_bytes (weight ∷ share ∷ [])
reply_bytes (WaitHeld conit peer reserved weight share) = 6 ∷ conit ∷ peer ∷ flat_map number_bytes (reserved ∷ weight ∷ share ∷ [])
reply_bytes (WaitShare conit peer missing reserved weight share) =
    7 ∷ conit ∷ peer ∷ flat_map number_bytes (missing ∷ reserved ∷ weight ∷ share ∷ [])
reply_bytes (WaitLent conit holder out total num) = 8 ∷ conit ∷ holder ∷ flat_map number_bytes (out ∷ total ∷ num ∷ [])
reply_bytes (WaitOrder conit replica tentative order) = 9 ∷ conit ∷ replica ∷ flat_map number_bytes (tentative ∷ order ∷ [])
reply_bytes (WaitStale conit replica moment wanted) = 10 ∷ conit ∷ replica ∷ flat_map number_bytes (moment ∷ wanted ∷ [])
reply_bytes (NotHeld conit held amount) = 11 ∷ conit ∷ flat_map number_bytes (held ∷ amount ∷ [])

-- the fields of each kind of reply, and a reply by its tag
unfoldable pub done_at : List ℕ → ℕ → Field Reply
done_at bytes place = do
  index ← any_number_at bytes place
  stamp ← any_number_at bytes index.1
  Ok (Done index.0 stamp.0, stamp.1)

unfoldable pub sums_at : List ℕ → ℕ → Field (List ℤ)
sums_at bytes place = do
  count ← byte_at 0 (suc LIST_MAX) bytes place
  list_at (λ least. any_signed_at) (λ sum. 0) count.0 0 bytes count.1

unfoldable pub value_at : List ℕ → ℕ → Field Reply
value_at bytes place = do
  value ← any_signed_at bytes place
  sums ← sums_at bytes value.1
  Ok (Value value.0 sums.0, sums.1)

unfoldable pub too_heavy_at : List ℕ → ℕ → Field Reply
too_heavy_at bytes place = do
  conit ← byte_at 0 256 bytes place
  peer ← byte_at 0 256 bytes conit.1
  weight ← any_number_at bytes peer.1
  share ← any_number_at bytes weight.1
  Ok (TooHeavy conit.0 peer.0 weight.0 share.0, share.1)

unfoldable pub wait_held_at : List ℕ → ℕ → Field Reply
wait_held_at bytes place = do
  conit ← byte_at 0 256 bytes place
  peer ← byte_at 0 256 bytes conit.1
  reserved ← any_number_at bytes peer.1
  weight ← any_number_at bytes reserved.1
  share ← any_number_at bytes weight.1
  Ok (WaitHeld conit.0 peer.0 reserved.0 weight.0 share.0, share.1)

unfoldable pub wait_share_at : List ℕ → ℕ → Field Reply
wait_share_at bytes place = do
  conit ← byte_at 0 256 bytes place
  peer ← byte_at 0 256 bytes conit.1
  missing ← any_number_at bytes peer.1
  reserved ← any_number_at bytes missing.1
  weight ← any_number_at bytes reserved.1
  share ← any_number_at bytes weight.1
  Ok (WaitShare conit.0 peer.0 missing.0 reserved.0 weight.0 share.0, share.1)

unfoldable pub wait_lent_at : List ℕ → ℕ → Field Reply
wait_lent_at bytes place = do
  conit ← byte_at 0 256 bytes place
  holder ← byte_at 0 256 bytes conit.1
  out ← any_number_at bytes holder.1
  total ← any_number_at bytes out.1
  num ← any_number_at bytes total.1
  Ok (WaitLent conit.0 holder.0 out.0 total.0 num.0, num.1)

unfoldable pub wait_order_at : List ℕ → ℕ → Field Reply
wait_order_at bytes place = do
  conit ← byte_at 0 256 bytes place
  replica ← byte_at 0 256 bytes conit.1
  tentative ← any_number_at bytes replica.1
  order ← any_number_at bytes tentative.1
  Ok (WaitOrder conit.0 replica.0 tentative.0 order.0, order.1)

unfoldable pub wait_stale_at : List ℕ → ℕ → Field Reply
wait_stale_at bytes place = do
  conit ← byte_at 0 256 bytes place
  replica ← byte_at 0 256 bytes conit.1
  moment ← any_number_at bytes replica.1
  wanted ← any_number_at bytes moment.1
  Ok (WaitStale conit.0 replica.0 moment.0 wanted.0, wanted.1)

unfoldable pub not_held_at : List ℕ → ℕ → Field Reply
not_held_at bytes place = do
  conit ← byte_at 0 256 bytes place
  held ← any_number_at bytes conit.1
  amount ← any_number_at bytes held.1
  Ok (NotHeld conit.0 held.0 amount.0, amount.1)

-- of the replies that wait
unfoldable pub waiting_at : ℕ → List ℕ → ℕ → Field Reply
waiting_at tag bytes place =
    if tag == 6 then wait_held_at bytes place
    else if tag == 7 then wait_share_at bytes place
    else if tag == 8 then wait_lent_at bytes place
    else if tag == 9 then wait_order_at bytes place
    else wait_stale_at bytes place

unfoldable pub reply_fields_at : ℕ → List ℕ → ℕ → Field Reply
reply_fields_at tag bytes place =
    if tag == 1 then done_at bytes place
    else if tag == 2 then Ok (Granted, place)
    else if tag == 3 then Ok (Released, place)
    else if tag == 4 then value_at bytes place
    else if tag == 5 then too_heavy_at bytes place
    else if tag == 11 then not_held_at bytes place
    else waiting_at tag bytes place

unfoldable pub reply_at : List ℕ → ℕ → Field Reply
reply_at bytes place = do
  tag ← byte_at 1 12 bytes place
  reply_fields_at tag.0 bytes tag.1
