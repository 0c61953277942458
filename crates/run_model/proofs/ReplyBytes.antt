-- A reply that is read stands where it was read, and one that stands there is read.
use Rattle.std.proofs.Common.{◌≡◌, ℕ, zero, suc, ◌+◌, ◌^◌, ◌<◌, ◌≤◌, ℤ, pos, negsuc, List, [], ◌∷◌, ◌++◌, length, Ok, refl, sym, ap, ◌∙◌, subst, arith}
use Rattle.std.specs.Prelude.{All, unsigned_abs}
use Rattle.std.specs.Int.{w64}
use Rattle.std.specs.Int.RustNames.{FitsSigned}
use Rattle.std.specs.List.{flat_map}
use Rattle.std.proofs.lemmas.List.{append-nil}
use Rattle.std.proofs.lemmas.List.Concat.{flat_map-cons}
use Rattle.tact_base.specs.declared.limits.TheConstants.{LIST_MAX}
use Rattle.run_model.specs.declared.call.Reply.{Reply}
use Rattle.run_model.specs.declared.call.Reply.TheVariants.{Done, Granted, Released, Value, TooHeavy, WaitHeld, WaitShare, WaitLent, WaitOrder, WaitStale, NotHeld}
use Rattle.run_model.specs.Bytes.{StandsAt, number_bytes, signed_bytes, byte_at, any_signed_at}
use Rattle.run_model.specs.CallBytes.{HasSmallNames, HasWideNumbers, reply_bytes, done_at, sums_at, value_at}
use Rattle.run_model.specs.CallBytes.{too_heavy_at, wait_held_at, wait_share_at, wait_lent_at, wait_order_at}
use Rattle.run_model.specs.CallBytes.{wait_stale_at, not_held_at, waiting_at, reply_fields_at, reply_at}
use Rattle.run_model.proofs.ByteLemmas.{AreBytes, Spelled}
use Rattle.run_model.proofs.Readers.{Reader, Then, Made, IsByte, IsNumber, IsSigned, SpelledAs, byte_field, any_number, any_signed, given, and_then, making, said, tagged_taken, tagged_again}
use Rattle.run_model.proofs.ListBytes.{Listed, Counted, list_reader}

abbrev Good : Reply → Type 0
Good reply = HasSmallNames reply × HasWideNumbers reply

abbrev Says : Reply → List ℕ → Type 0
Says = SpelledAs Good reply_bytes

-- ---- rows of numbers

two : (a b : ℕ) → flat_map number_bytes (a ∷ b ∷ []) ≡ number_bytes a ++ number_bytes b
two a b = simp append-nil refl

three : (a b c : ℕ) → flat_map number_bytes (a ∷ b ∷ c ∷ []) ≡ number_bytes a ++ (number_bytes b ++ number_bytes c)
three a b c = simp append-nil refl

four : (a b c d : ℕ)
    → flat_map number_bytes (a ∷ b ∷ c ∷ d ∷ []) ≡ number_bytes a ++ (number_bytes b ++ (number_bytes c ++ number_bytes d))
four a b c d = simp append-nil refl

-- ---- sums

size_of_signed : (z : ℤ) → FitsSigned w64 z → unsigned_abs z ≤ 2 ^ 63
size_of_signed (pos n) f = omega (arith, f.sfits)
size_of_signed (negsuc n) f = omega (arith, f.sfits)

abbrev AreSums : List ℤ → Type 0
AreSums sums = All (λ sum. FitsSigned w64 sum) sums

one_more : (x : ℤ) (xs : List ℤ) → FitsSigned w64 x → AreSums xs → AreSums (x ∷ xs)
one_more x xs first others zero d within = first
one_more x xs first others (suc k) d within = others k d (omega arith)

listed_sums : (sums : List ℤ) (text : List ℕ)
    → Listed (λ least. IsSigned (2 ^ 63)) (λ sum. 0) 0 sums text
    → AreSums sums × (text ≡ flat_map signed_bytes sums)
listed_sums [] text s = (λ k d within. absurd (omega arith), s)
listed_sums (x ∷ xs) text s =
    let rest = listed_sums xs s.1 s.3 in
    (one_more x xs s.2.1 rest.0, rw (flat_map-cons, s.4, s.2.2, rest.1) refl)

sums_listed : (sums : List ℤ)
    → AreSums sums
    → Listed (λ least. IsSigned (2 ^ 63)) (λ sum. 0) 0 sums (flat_map signed_bytes sums)
sums_listed [] all = refl
sums_listed (x ∷ xs) all = (
  signed_bytes x,
  flat_map signed_bytes xs,
  (size_of_signed x (all 0 x (omega arith)), all 0 x (omega arith), refl),
  sums_listed xs (λ k d within. all (suc k) d (omega arith)),
  rw flat_map-cons refl,
)

abbrev IsSums : List ℤ → List ℕ → Type 0
IsSums = SpelledAs (λ sums. (length sums ≤ LIST_MAX) × AreSums sums) (λ sums. length sums ∷ flat_map signed_bytes sums)

abbrev SumFields : List ℤ → List ℕ → Type 0
SumFields = Then (IsByte 0 (suc LIST_MAX)) (λ count. Counted (λ least. IsSigned (2 ^ 63)) (λ sum. 0) count 0)

sums_reader : Reader IsSums sums_at
unfolding sums_at
sums_reader =
    said (and_then (byte_field 0 (suc LIST_MAX)) (λ count. list_reader (λ least. any_signed_at) (λ sum. 0) (λ least. IsSigned (2 ^ 63)) (λ least. any_signed) count 0)) to from
  where
    to : (sums : List ℤ) (text : List ℕ) → SumFields sums text → IsSums sums text
    to sums text s =
        let list = listed_sums sums s.2 s.4.1 in
        ((omega (arith, s.3.1, s.4.0), list.0), rw (s.5, s.3.2, list.1, s.4.0) refl)

    from : (sums : List ℤ) (text : List ℕ) → IsSums sums text → SumFields sums text
    from sums text s =
        (length sums, length sums ∷ [], flat_map signed_bytes sums, (omega arith, omega (arith, s.0.0), refl), (refl, sums_listed sums s.0.1), s.1)

-- ---- the fields of each kind

-- a name of one byte, and a number
abbrev IsName : ℕ → List ℕ → Type 0
IsName = IsByte 0 256

abbrev IsAny : ℕ → List ℕ → Type 0
IsAny = IsNumber 0 (2 ^ 64)

name : Reader IsName (byte_at 0 256)
name = byte_field 0 256

value_reader : Reader (Then (IsSigned (2 ^ 63)) (λ value. Made IsSums (λ sums. Value value sums))) value_at
unfolding value_at
value_reader = and_then any_signed (λ value. making sums_reader (λ sums. Value value sums))

done_reader : Reader (Then IsAny (λ index. Made IsAny (λ stamp. Done index stamp))) done_at
unfolding done_at
done_reader = and_then any_number (λ index. making any_number (λ stamp. Done index stamp))

too_heavy_reader : Reader (Then IsName (λ conit. Then IsName (λ peer. Then IsAny (λ weight. Made IsAny (λ share. TooHeavy conit peer weight share))))) too_heavy_at
unfolding too_heavy_at
too_heavy_reader = and_then name (λ conit. and_then name (λ peer. and_then any_number (λ weight. making any_number (λ share. TooHeavy conit peer weight share))))

wait_held_reader : Reader (Then IsName (λ conit. Then IsName (λ peer. Then IsAny (λ reserved. Then IsAny (λ weight. Made IsAny (λ share. WaitHeld conit peer reserved weight share)))))) wait_held_at
unfolding wait_held_at
wait_held_reader = and_then name (λ conit. and_then name
    (λ peer. and_then any_number (λ reserved. and_then any_number (λ weight. making any_number (λ share. WaitHeld conit peer reserved weight share)))))

wait_share_reader : Reader (Then IsName (λ conit. Then IsName
    (λ peer. Then IsAny (λ missing. Then IsAny (λ reserved. Then IsAny (λ weight. Made IsAny (λ share. WaitShare conit peer missing reserved weight share))))))) wait_share_at
unfolding wait_share_at
wait_share_reader = and_then name (λ conit. and_then name
    (λ peer. and_then any_number (λ missing. and_then any_number
    (λ reserved. and_then any_number (λ weight. making any_number (λ share. WaitShare conit peer missing reserved weight share))))))

wait_lent_reader : Reader (Then IsName (λ conit. Then IsName (λ holder. Then IsAny (λ out. Then IsAny (λ total. Made IsAny (λ num. WaitLent conit holder out total num)))))) wait_lent_at
unfolding wait_lent_at
wait_lent_reader = and_then name (λ conit. and_then name (λ holder. and_then any_number (λ out. and_then any_number (λ total. making any_number (λ num. WaitLent conit holder out total num)))))

wait_order_reader : Reader (Then IsName (λ conit. Then IsName (λ replica. Then IsAny (λ tentative. Made IsAny (λ order. WaitOrder conit replica tentative order))))) wait_order_at
unfolding wait_order_at
wait_order_reader = and_then name (λ conit. and_then name (λ replica. and_then any_number (λ tentative. making any_number (λ order. WaitOrder conit replica tentative order))))

wait_stale_reader : Reader (Then IsName (λ conit. Then IsName (λ replica. Then IsAny (λ moment. Made IsAny (λ wanted. WaitStale conit replica moment wanted))))) wait_stale_at
unfolding wait_stale_at
wait_stale_reader = and_then name (λ conit. and_then name (λ replica. and_then any_number (λ moment. making any_number (λ wanted. WaitStale conit replica moment wanted))))

not_held_reader : Reader (Then IsName (λ conit. Then IsAny (λ held. Made IsAny (λ amount. NotHeld conit held amount)))) not_held_at
unfolding not_held_at
not_held_reader = and_then name (λ conit. and_then any_number (λ held. making any_number (λ amount. NotHeld conit held amount)))

-- ---- by its tag

by_tag : (tag : ℕ) (bytes : List ℕ) (place : ℕ) (reply : Reply) (next : ℕ)
    → 1 ≤ tag
    → tag < 12
    → AreBytes bytes
    → reply_fields_at tag bytes place ≡ Ok (reply, next)
    → (text : List ℕ) × Says reply (tag ∷ text) × Spelled bytes place text next
unfolding reply_fields_at waiting_at
by_tag zero bytes place reply next low high fits e = absurd (omega arith)
by_tag (suc zero) bytes place reply next low high fits e =
    let t = done_reader.taken bytes place reply next fits e in
    let s = t.1 in
    let spells : 1 ∷ t.0 ≡ reply_bytes (Done s.0 s.4.0) =
    rw (s.5, s.3.2, s.4.1.2) (ap (λ text. 1 ∷ text) (sym (two s.0 s.4.0))) in
    (t.0, subst (λ r. Says r (1 ∷ t.0)) (sym s.4.2) ((tt, (s.3.1, s.4.1.1)), spells), t.2)
by_tag (suc (suc zero)) bytes place reply next low high fits e =
    let t = (given Granted).taken bytes place reply next fits e in
    (t.0, subst (λ r. Says r (2 ∷ t.0)) (sym t.1.0) ((tt, tt), ap (λ text. 2 ∷ text) t.1.1), t.2)
by_tag (suc (suc (suc zero))) bytes place reply next low high fits e =
    let t = (given Released).taken bytes place reply next fits e in
    (t.0, subst (λ r. Says r (3 ∷ t.0)) (sym t.1.0) ((tt, tt), ap (λ text. 3 ∷ text) t.1.1), t.2)
by_tag (suc (suc (suc (suc zero)))) bytes place reply next low high fits e =
    let t = value_reader.taken bytes place reply next fits e in
    let s = t.1 in
    let spells : 4 ∷ t.0 ≡ reply_bytes (Value s.0 s.4.0) = rw (s.5, s.3.2, s.4.1.1) refl in
    (t.0, subst (λ r. Says r (4 ∷ t.0)) (sym s.4.2) ((tt, (s.3.1, s.4.1.0.0, s.4.1.0.1)), spells), t.2)
by_tag (suc (suc (suc (suc (suc zero))))) bytes place reply next low high fits e =
    let t = too_heavy_reader.taken bytes place reply next fits e in
    let s = t.1 in
    let spells : 5 ∷ t.0 ≡ reply_bytes (TooHeavy s.0 s.4.0 s.4.4.0 s.4.4.4.0) =
    rw (s.5, s.3.2, s.4.5, s.4.3.2, s.4.4.5, s.4.4.3.2, s.4.4.4.1.2) (ap (λ text. 5 ∷ s.0 ∷ s.4.0 ∷ text) (sym (two s.4.4.0 s.4.4.4.0))) in
    (t.0, subst (λ r. Says r (5 ∷ t.0)) (sym s.4.4.4.2) (((s.3.1, s.4.3.1), (s.4.4.3.1, s.4.4.4.1.1)), spells), t.2)
by_tag (suc (suc (suc (suc (suc (suc zero)))))) bytes place reply next low high fits e =
    let t = wait_held_reader.taken bytes place reply next fits e in
    let s = t.1 in
    let spells : 6 ∷ t.0 ≡ reply_bytes (WaitHeld s.0 s.4.0 s.4.4.0 s.4.4.4.0 s.4.4.4.4.0) =
    rw (s.5, s.3.2, s.4.5, s.4.3.2, s.4.4.5, s.4.4.3.2, s.4.4.4.5, s.4.4.4.3.2, s.4.4.4.4.1.2) (ap (λ text. 6 ∷ s.0 ∷ s.4.0 ∷ text) (sym (three s.4.4.0 s.4.4.4.0 s.4.4.4.4.0))) in
    (t.0, subst (λ r. Says r (6 ∷ t.0)) (sym s.4.4.4.4.2) (((s.3.1, s.4.3.1), (s.4.4.3.1, s.4.4.4.3.1, s.4.4.4.4.1.1)), spells), t.2)
by_tag (suc (suc (suc (suc (suc (suc (suc zero))))))) bytes place reply next low high fits e =
    let t = wait_share_reader.taken bytes place reply next fits e in
    let s = t.1 in
    let spells : 7 ∷ t.0 ≡ reply_bytes (WaitShare s.0 s.4.0 s.4.4.0 s.4.4.4.0 s.4.4.4.4.0 s.4.4.4.4.4.0) =
    rw (s.5, s.3.2, s.4.5, s.4.3.2, s.4.4.5, s.4.4.3.2, s.4.4.4.5, s.4.4.4.3.2, s.4.4.4.4.5, s.4.4.4.4.3.2, s.4.4.4.4.4.1.2)
    (ap (λ text. 7 ∷ s.0 ∷ s.4.0 ∷ text) (sym (four s.4.4.0 s.4.4.4.0 s.4.4.4.4.0 s.4.4.4.4.4.0))) in
    (t.0, subst (λ r. Says r (7 ∷ t.0)) (sym s.4.4.4.4.4.2) (((s.3.1, s.4.3.1), (s.4.4.3.1, s.4.4.4.3.1, s.4.4.4.4.3.1, s.4.4.4.4.4.1.1)), spells), t.2)
by_tag (suc (suc (suc (suc (suc (suc (suc (suc zero)))))))) bytes place reply next low high fits e =
    let t = wait_lent_reader.taken bytes place reply next fits e in
    let s = t.1 in
    let spells : 8 ∷ t.0 ≡ reply_bytes (WaitLent s.0 s.4.0 s.4.4.0 s.4.4.4.0 s.4.4.4.4.0) =
    rw (s.5, s.3.2, s.4.5, s.4.3.2, s.4.4.5, s.4.4.3.2, s.4.4.4.5, s.4.4.4.3.2, s.4.4.4.4.1.2) (ap (λ text. 8 ∷ s.0 ∷ s.4.0 ∷ text) (sym (three s.4.4.0 s.4.4.4.0 s.4.4.4.4.0))) in
    (t.0, subst (λ r. Says r (8 ∷ t.0)) (sym s.4.4.4.4.2) (((s.3.1, s.4.3.1), (s.4.4.3.1, s.4.4.4.3.1, s.4.4.4.4.1.1)), spells), t.2)
by_tag (suc (suc (suc (suc (suc (suc (suc (suc (suc zero))))))))) bytes place reply next low high fits e =
    let t = wait_order_reader.taken bytes place reply next fits e in
    let s = t.1 in
    let spells : 9 ∷ t.0 ≡ reply_bytes (WaitOrder s.0 s.4.0 s.4.4.0 s.4.4.4.0) =
    rw (s.5, s.3.2, s.4.5, s.4.3.2, s.4.4.5, s.4.4.3.2, s.4.4.4.1.2) (ap (λ text. 9 ∷ s.0 ∷ s.4.0 ∷ text) (sym (two s.4.4.0 s.4.4.4.0))) in
    (t.0, subst (λ r. Says r (9 ∷ t.0)) (sym s.4.4.4.2) (((s.3.1, s.4.3.1), (s.4.4.3.1, s.4.4.4.1.1)), spells), t.2)
by_tag (suc (suc (suc (suc (suc (suc (suc (suc (suc (suc zero)))))))))) bytes place reply next low high fits e =
    let t = wait_stale_reader.taken bytes place reply next fits e in
    let s = t.1 in
    let spells : 10 ∷ t.0 ≡ reply_bytes (WaitStale s.0 s.4.0 s.4.4.0 s.4.4.4.0) =
    rw (s.5, s.3.2, s.4.5, s.4.3.2, s.4.4.5, s.4.4.3.2, s.4.4.4.1.2) (ap (λ text. 10 ∷ s.0 ∷ s.4.0 ∷ text) (sym (two s.4.4.0 s.4.4.4.0))) in
    (t.0, subst (λ r. Says r (10 ∷ t.0)) (sym s.4.4.4.2) (((s.3.1, s.4.3.1), (s.4.4.3.1, s.4.4.4.1.1)), spells), t.2)
by_tag (suc (suc (suc (suc (suc (suc (suc (suc (suc (suc (suc zero))))))))))) bytes place reply next low high fits e =
    let t = not_held_reader.taken bytes place reply next fits e in
    let s = t.1 in
    let spells : 11 ∷ t.0 ≡ reply_bytes (NotHeld s.0 s.4.0 s.4.4.0) =
    rw (s.5, s.3.2, s.4.5, s.4.3.2, s.4.4.1.2) (ap (λ text. 11 ∷ s.0 ∷ text) (sym (two s.4.0 s.4.4.0))) in
    (t.0, subst (λ r. Says r (11 ∷ t.0)) (sym s.4.4.2) ((s.3.1, (s.4.3.1, s.4.4.1.1)), spells), t.2)
by_tag (suc (suc (suc (suc (suc (suc (suc (suc (suc (suc (suc (suc n)))))))))))) bytes place reply next low high fits e = absurd (omega arith)

again : (bytes : List ℕ) (place : ℕ) (reply : Reply) (text : List ℕ)
    → AreBytes bytes
    → place ≤ length bytes
    → Says reply text
    → StandsAt text bytes place
    → reply_at bytes place ≡ Ok (reply, place + length text)
unfolding reply_at reply_fields_at waiting_at
again bytes place (Done index stamp) text fits within s stands =
    let is : text ≡ 1 ∷ (number_bytes index ++ (number_bytes stamp)) = s.1 ∙ ap (λ t. 1 ∷ t) (two index stamp) in
    let there = subst (λ t. StandsAt t bytes place) is stands in
    rw is (tagged_again 1 12 reply_fields_at 1 done_reader (omega arith) (omega arith) bytes place (Done index stamp) (number_bytes index ++ (number_bytes stamp)) fits within
    (index, number_bytes index, number_bytes stamp, (omega arith, s.0.1.0, refl), (stamp, (omega arith, s.0.1.1, refl), refl), refl) there)
again bytes place Granted text fits within s stands =
    let there = subst (λ t. StandsAt t bytes place) s.1 stands in
    rw s.1 (tagged_again 1 12 reply_fields_at 2 (given Granted) (omega arith) (omega arith) bytes place Granted [] fits within (refl, refl) there)
again bytes place Released text fits within s stands =
    let there = subst (λ t. StandsAt t bytes place) s.1 stands in
    rw s.1 (tagged_again 1 12 reply_fields_at 3 (given Released) (omega arith) (omega arith) bytes place Released [] fits within (refl, refl) there)
again bytes place (Value value sums) text fits within s stands =
    let there = subst (λ t. StandsAt t bytes place) s.1 stands in
    rw s.1 (tagged_again 1 12 reply_fields_at 4 value_reader (omega arith) (omega arith) bytes place (Value value sums) (signed_bytes value ++ length sums ∷ flat_map signed_bytes sums) fits within
    (value, signed_bytes value, length sums ∷ flat_map signed_bytes sums, (size_of_signed value s.0.1.0, s.0.1.0, refl), (sums, ((s.0.1.1, s.0.1.2), refl), refl), refl) there)
again bytes place (TooHeavy conit peer weight share) text fits within s stands =
    let is : text ≡ 5 ∷ (conit ∷ (peer ∷ (number_bytes weight ++ (number_bytes share)))) = s.1 ∙ ap (λ t. 5 ∷ conit ∷ peer ∷ t) (two weight share) in
    let there = subst (λ t. StandsAt t bytes place) is stands in
    rw is (tagged_again 1 12 reply_fields_at 5 too_heavy_reader (omega arith) (omega arith) bytes place (TooHeavy conit peer weight share)
    (conit ∷ (peer ∷ (number_bytes weight ++ (number_bytes share)))) fits within (
      conit,
      conit ∷ [],
      peer ∷ (number_bytes weight ++ (number_bytes share)),
      (omega arith, s.0.0.0, refl),
      (
        peer,
        peer ∷ [],
        number_bytes weight ++ (number_bytes share),
        (omega arith, s.0.0.1, refl),
        (weight, number_bytes weight, number_bytes share, (omega arith, s.0.1.0, refl), (share, (omega arith, s.0.1.1, refl), refl), refl),
        refl,
      ),
      refl,
    ) there)
again bytes place (WaitHeld conit peer reserved weight share) text fits within s stands =
    let is : text ≡ 6 ∷ (conit ∷ (peer ∷ (number_bytes reserved ++ (number_bytes weight ++ (number_bytes share))))) = s.1 ∙ ap (λ t. 6 ∷ conit ∷ peer ∷ t) (three reserved weight share) in
    let there = subst (λ t. StandsAt t bytes place) is stands in
    rw is (tagged_again 1 12 reply_fields_at 6 wait_held_reader (omega arith) (omega arith) bytes place (WaitHeld conit peer reserved weight share)
    (conit ∷ (peer ∷ (number_bytes reserved ++ (number_bytes weight ++ (number_bytes share))))) fits within (
      conit,
      conit ∷ [],
      peer ∷ (number_bytes reserved ++ (number_bytes weight ++ (number_bytes share))),
      (omega arith, s.0.0.0, refl),
      (
        peer,
        peer ∷ [],
        number_bytes reserved ++ (number_bytes weight ++ (number_bytes share)),
        (omega arith, s.0.0.1, refl),
        (
          reserved,
          number_bytes reserved,
          number_bytes weight ++ (number_bytes share),
          (omega arith, s.0.1.0, refl),
          (weight, number_bytes weight, number_bytes share, (omega arith, s.0.1.1, refl), (share, (omega arith, s.0.1.2, refl), refl), refl),
          refl,
        ),
        refl,
      ),
      refl,
    ) there)
again bytes place (WaitShare conit peer missing reserved weight share) text fits within s stands =
    let is : text ≡ 7 ∷ (conit ∷ (peer ∷ (number_bytes missing ++ (number_bytes reserved ++ (number_bytes weight ++ (number_bytes share)))))) = s.1
    ∙ ap (λ t. 7 ∷ conit ∷ peer ∷ t) (four missing reserved weight share) in
    let there = subst (λ t. StandsAt t bytes place) is stands in
    rw is (tagged_again 1 12 reply_fields_at 7 wait_share_reader (omega arith) (omega arith) bytes place (WaitShare conit peer missing reserved weight share)
    (conit ∷ (peer ∷ (number_bytes missing ++ (number_bytes reserved ++ (number_bytes weight ++ (number_bytes share)))))) fits within (
      conit,
      conit ∷ [],
      peer ∷ (number_bytes missing ++ (number_bytes reserved ++ (number_bytes weight ++ (number_bytes share)))),
      (omega arith, s.0.0.0, refl),
      (
        peer,
        peer ∷ [],
        number_bytes missing ++ (number_bytes reserved ++ (number_bytes weight ++ (number_bytes share))),
        (omega arith, s.0.0.1, refl),
        (
          missing,
          number_bytes missing,
          number_bytes reserved ++ (number_bytes weight ++ (number_bytes share)),
          (omega arith, s.0.1.0, refl),
          (
            reserved,
            number_bytes reserved,
            number_bytes weight ++ (number_bytes share),
            (omega arith, s.0.1.1, refl),
            (weight, number_bytes weight, number_bytes share, (omega arith, s.0.1.2, refl), (share, (omega arith, s.0.1.3, refl), refl), refl),
            refl,
          ),
          refl,
        ),
        refl,
      ),
      refl,
    ) there)
again bytes place (WaitLent conit holder out total num) text fits within s stands =
    let is : text ≡ 8 ∷ (conit ∷ (holder ∷ (number_bytes out ++ (number_bytes total ++ (number_bytes num))))) = s.1 ∙ ap (λ t. 8 ∷ conit ∷ holder ∷ t) (three out total num) in
    let there = subst (λ t. StandsAt t bytes place) is stands in
    rw is (tagged_again 1 12 reply_fields_at 8 wait_lent_reader (omega arith) (omega arith) bytes place (WaitLent conit holder out total num)
    (conit ∷ (holder ∷ (number_bytes out ++ (number_bytes total ++ (number_bytes num))))) fits within (
      conit,
      conit ∷ [],
      holder ∷ (number_bytes out ++ (number_bytes total ++ (number_bytes num))),
      (omega arith, s.0.0.0, refl),
      (
        holder,
        holder ∷ [],
        number_bytes out ++ (number_bytes total ++ (number_bytes num)),
        (omega arith, s.0.0.1, refl),
        (
          out,
          number_bytes out,
          number_bytes total ++ (number_bytes num),
          (omega arith, s.0.1.0, refl),
          (total, number_bytes total, number_bytes num, (omega arith, s.0.1.1, refl), (num, (omega arith, s.0.1.2, refl), refl), refl),
          refl,
        ),
        refl,
      ),
      refl,
    ) there)
again bytes place (WaitOrder conit replica tentative order) text fits within s stands =
    let is : text ≡ 9 ∷ (conit ∷ (replica ∷ (number_bytes tentative ++ (number_bytes order)))) = s.1 ∙ ap (λ t. 9 ∷ conit ∷ replica ∷ t) (two tentative order) in
    let there = subst (λ t. StandsAt t bytes place) is stands in
    rw is (tagged_again 1 12 reply_fields_at 9 wait_order_reader (omega arith) (omega arith) bytes place (WaitOrder conit replica tentative order)
    (conit ∷ (replica ∷ (number_bytes tentative ++ (number_bytes order)))) fits within (
      conit,
      conit ∷ [],
      replica ∷ (number_bytes tentative ++ (number_bytes order)),
      (omega arith, s.0.0.0, refl),
      (
        replica,
        replica ∷ [],
        number_bytes tentative ++ (number_bytes order),
        (omega arith, s.0.0.1, refl),
        (tentative, number_bytes tentative, number_bytes order, (omega arith, s.0.1.0, refl), (order, (omega arith, s.0.1.1, refl), refl), refl),
        refl,
      ),
      refl,
    ) there)
again bytes place (WaitStale conit replica moment wanted) text fits within s stands =
    let is : text ≡ 10 ∷ (conit ∷ (replica ∷ (number_bytes moment ++ (number_bytes wanted)))) = s.1 ∙ ap (λ t. 10 ∷ conit ∷ replica ∷ t) (two moment wanted) in
    let there = subst (λ t. StandsAt t bytes place) is stands in
    rw is (tagged_again 1 12 reply_fields_at 10 wait_stale_reader (omega arith) (omega arith) bytes place (WaitStale conit replica moment wanted)
    (conit ∷ (replica ∷ (number_bytes moment ++ (number_bytes wanted)))) fits within (
      conit,
      conit ∷ [],
      replica ∷ (number_bytes moment ++ (number_bytes wanted)),
      (omega arith, s.0.0.0, refl),
      (
        replica,
        replica ∷ [],
        number_bytes moment ++ (number_bytes wanted),
        (omega arith, s.0.0.1, refl),
        (moment, number_bytes moment, number_bytes wanted, (omega arith, s.0.1.0, refl), (wanted, (omega arith, s.0.1.1, refl), refl), refl),
        refl,
      ),
      refl,
    ) there)
again bytes place (NotHeld conit held amount) text fits within s stands =
    let is : text ≡ 11 ∷ (conit ∷ (number_bytes held ++ (number_bytes amount))) = s.1 ∙ ap (λ t. 11 ∷ conit ∷ t) (two held amount) in
    let there = subst (λ t. StandsAt t bytes place) is stands in
    rw is (tagged_again 1 12 reply_fields_at 11 not_held_reader (omega arith) (omega arith) bytes place (NotHeld conit held amount) (conit ∷ (number_bytes held ++ (number_bytes amount))) fits within (
      conit,
      conit ∷ [],
      number_bytes held ++ (number_bytes amount),
      (omega arith, s.0.0, refl),
      (held, number_bytes held, number_bytes amount, (omega arith, s.0.1.0, refl), (amount, (omega arith, s.0.1.1, refl), refl), refl),
      refl,
    ) there)

pub reply_reader : Reader (SpelledAs (λ reply. HasSmallNames reply × HasWideNumbers reply) reply_bytes) reply_at
unfolding reply_at
reply_reader = record { taken = tagged_taken 1 12 reply_fields_at Says by_tag; again = again }
