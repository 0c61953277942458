-- Readers of the writes of a message.
use Rattle.std.proofs.Common.{◌≡◌, ℕ, suc, ◌+◌, ◌≤◌, List, [], ◌∷◌, ◌++◌, length, map, All, refl, sym, subst, arith}
use Rattle.std.specs.List.{flat_map, range_with_len}
use Rattle.std.proofs.lemmas.List.Concat.{flat_map-cons}
use Rattle.std.proofs.lemmas.List.Elements.{All-cons, All-nil, All-head, All-tail}
use Rattle.tact_base.specs.declared.limits.TheConstants.{MOMENT_MAX, STAMP_MAX}
use Rattle.tact_base.specs.declared.write.Write.{Write}
use Rattle.tact_base.specs.declared.write.Op.{Op}
use Rattle.tact_base.specs.declared.conit_list.Weight.{Weight}
use Rattle.run_model.specs.Ranges.{IsOpInRange}
use Rattle.run_model.specs.Bytes.{AreWeightsOf, number_bytes, weights_bytes, op_bytes}
use Rattle.run_model.proofs.Readers.{Reader, Then, Made, IsNumber, SpelledAs, number_field, and_then, making, given, said}
use Rattle.run_model.proofs.ListBytes.{Listed, Counted, list_reader}
use Rattle.run_model.proofs.OpBytes.{op_reader}
use Rattle.run_model.proofs.WeightBytes.{weights_reader}
use Rattle.tact_msg.specs.declared.parts.Told.{Told}
use Rattle.tact_msg.specs.MessageBytes.{write_at, write_bytes, writes_of_at, writes_at}

-- the numbers of a write, within their limits
pub record IsWriteOf (conits : ℕ) (write : Write) : Type 0 where
  pub stamp_least : 1 ≤ write.stamp
  pub stamp_most : write.stamp ≤ STAMP_MAX
  pub moment : write.moment ≤ MOMENT_MAX
  pub weights : AreWeightsOf conits write.weights
  pub op : IsOpInRange write.op

-- ---- one write

abbrev pub IsWrite : ℕ → ℕ → ℕ → Write → List ℕ → Type 0
IsWrite conits origin index write text =
    (write.origin ≡ origin) × (write.index ≡ index) × IsWriteOf conits write × (text ≡ write_bytes write)

write_from : ℕ → ℕ → ℕ → ℕ → List Weight → Op → Write
write_from origin index stamp moment weights op =
    record { origin = origin; index = index; stamp = stamp; moment = moment; weights = weights; op = op }

abbrev WriteFields : ℕ → ℕ → ℕ → Write → List ℕ → Type 0
WriteFields conits origin index =
    Then (IsNumber 1 (suc STAMP_MAX)) (λ stamp. Then (IsNumber 0 (suc MOMENT_MAX)) (λ moment. Then (SpelledAs (AreWeightsOf conits) weights_bytes) (λ weights.
    Made (SpelledAs IsOpInRange op_bytes) (λ op. record { origin = origin; index = index; stamp = stamp; moment = moment; weights = weights; op = op }))))

pub write_reader : (conits origin index : ℕ) → Reader (IsWrite conits origin index) (write_at conits origin index)
unfolding write_at write_from
write_reader conits origin index =
    said (and_then (number_field 1 (suc STAMP_MAX) (omega arith)) (λ stamp. and_then (number_field 0 (suc MOMENT_MAX) (omega arith)) (λ moment. and_then (weights_reader conits) (λ weights.
    making op_reader (write_from origin index stamp moment weights))))) to from
  where
    to : (write : Write) (text : List ℕ) → WriteFields conits origin index write text → IsWrite conits origin index write text
    to write text s =
        let m = s.4 in
        let v = m.4 in
        let o = v.4 in
        let is : Write = write_from origin index s.0 m.0 v.0 o.0 in
        let spells : text ≡ write_bytes is = rw (s.5, s.3.2, m.5, m.3.2, v.5, v.3.1, o.1.1) refl in
        let good : IsWriteOf conits is = record { stamp_least = s.3.0; stamp_most = omega (arith, s.3.1); moment = omega (arith, m.3.1); weights = v.3.0; op = o.1.0 } in
        subst (λ (x : Write). IsWrite conits origin index x text) (sym o.2) (refl, refl, good, spells)

    from : (write : Write) (text : List ℕ) → IsWrite conits origin index write text → WriteFields conits origin index write text
    from write text s =
        let b2 = weights_bytes write.weights ++ op_bytes write.op in
        let b1 = number_bytes write.moment ++ b2 in
        let is : write ≡ write_from origin index write.stamp write.moment write.weights write.op =
        subst (λ i. write ≡ write_from origin i write.stamp write.moment write.weights write.op) s.1
        (subst (λ o. write ≡ write_from o write.index write.stamp write.moment write.weights write.op) s.0 refl) in (
          write.stamp,
          number_bytes write.stamp,
          b1,
          (s.2.stamp_least, omega (arith, s.2.stamp_most), refl),
          (
            write.moment,
            number_bytes write.moment,
            b2,
            (omega arith, omega (arith, s.2.moment), refl),
            (
              write.weights,
              weights_bytes write.weights,
              op_bytes write.op,
              (s.2.weights, refl),
              (write.op, (s.2.op, refl), is),
              refl,
            ),
            refl,
          ),
          s.3,
        )

-- ---- the writes of one origin

-- writes of an origin with the indices from a first one on
pub record AreFrom (conits origin first : ℕ) (writes : List Write) : Type 0 where
  pub origins : All (λ (write : Write). write.origin ≡ origin) writes
  pub indices : map (λ (write : Write). write.index) writes ≡ range_with_len first (length writes)
  pub each : All (IsWriteOf conits) writes

abbrev pub IsChunk : ℕ → Told → List Write → List ℕ → Type 0
IsChunk conits told writes text =
    (length writes ≡ told.count) × AreFrom conits told.origin told.first writes × (text ≡ flat_map write_bytes writes)

abbrev index_of : Write → ℕ
index_of write = write.index

abbrev IsFrom : ℕ → Write → Type 0
IsFrom origin write = write.origin ≡ origin

abbrev next_index : Write → ℕ
next_index write = suc write.index

listed_chunk : (conits origin first : ℕ) (writes : List Write) (text : List ℕ)
    → Listed (IsWrite conits origin) next_index first writes text
    → AreFrom conits origin first writes × (text ≡ flat_map write_bytes writes)
listed_chunk conits origin first [] text s = (record { origins = All-nil (IsFrom origin); indices = refl; each = All-nil (IsWriteOf conits) }, s)
listed_chunk conits origin first (x ∷ xs) text s =
    let rest = listed_chunk conits origin (suc x.index) xs s.1 s.3 in
    let on : suc x.index ≡ first + 1 = omega (arith, s.2.1) in
    let others : map index_of xs ≡ range_with_len (first + 1) (length xs) = rw on at rest.0.indices in (
      record {
        origins = All-cons (IsFrom origin) x xs s.2.0 rest.0.origins;
        indices = rw (s.2.1, others) refl;
        each = All-cons (IsWriteOf conits) x xs s.2.2 rest.0.each;
      },
      rw (flat_map-cons, s.4, s.2.3, rest.1) refl,
    )

first_of : (x y : ℕ) (xs ys : List ℕ) → x ∷ xs ≡ y ∷ ys → x ≡ y
first_of x y xs ys e = cc

rest_of : (x y : ℕ) (xs ys : List ℕ) → x ∷ xs ≡ y ∷ ys → xs ≡ ys
rest_of x y xs ys e = cc

chunk_listed : (conits origin first : ℕ) (writes : List Write)
    → AreFrom conits origin first writes
    → Listed (IsWrite conits origin) next_index first writes (flat_map write_bytes writes)
chunk_listed conits origin first [] are = refl
chunk_listed conits origin first (x ∷ xs) are =
    let here : x.index ≡ first = first_of x.index first (map index_of xs) (range_with_len (first + 1) (length xs)) are.indices in
    let others : map index_of xs ≡ range_with_len (first + 1) (length xs) = rest_of x.index first (map index_of xs) (range_with_len (first + 1) (length xs)) are.indices in
    let on : first + 1 ≡ suc x.index = omega (arith, here) in
    let rest : AreFrom conits origin (suc x.index) xs = record {
      origins = All-tail (IsFrom origin) x xs are.origins;
      indices = rw on at others;
      each = All-tail (IsWriteOf conits) x xs are.each;
    } in (
      write_bytes x,
      flat_map write_bytes xs,
      (All-head (IsFrom origin) x xs are.origins, here, All-head (IsWriteOf conits) x xs are.each, refl),
      chunk_listed conits origin (suc x.index) xs rest,
      rw flat_map-cons refl,
    )

pub chunk_reader : (conits : ℕ) (told : Told) → Reader (IsChunk conits told) (writes_of_at conits told)
chunk_reader conits told =
    said (list_reader (write_at conits told.origin) next_index (IsWrite conits told.origin) (write_reader conits told.origin) told.count told.first) to from
  where
    to : (writes : List Write) (text : List ℕ) → Counted (IsWrite conits told.origin) next_index told.count told.first writes text → IsChunk conits told writes text
    to writes text s =
        let chunk = listed_chunk conits told.origin told.first writes text s.1 in
        (s.0, chunk.0, chunk.1)

    from : (writes : List Write) (text : List ℕ) → IsChunk conits told writes text → Counted (IsWrite conits told.origin) next_index told.count told.first writes text
    from writes text s = (s.0, subst (λ t. Listed (IsWrite conits told.origin) next_index told.first writes t) (sym s.2) (chunk_listed conits told.origin told.first writes s.1))

-- ---- those of all origins

abbrev pub AllWrites : ℕ → List Told → List Write → List ℕ → Type 0
AllWrites conits [] writes text = (writes ≡ []) × (text ≡ [])
AllWrites conits (told ∷ tolds) writes text =
    (ours : List Write) × (others : List Write) × (a : List ℕ) × (b : List ℕ)
    × IsChunk conits told ours a × AllWrites conits tolds others b × (writes ≡ ours ++ others) × (text ≡ a ++ b)

pub writes_reader : (conits : ℕ) (tolds : List Told) → Reader (AllWrites conits tolds) (writes_at conits tolds)
unfolding writes_at
writes_reader conits [] = given []
writes_reader conits (told ∷ tolds) =
    said (and_then (chunk_reader conits told) (λ ours. making (writes_reader conits tolds) (λ others. ours ++ others))) to from
  where
    to : (writes : List Write) (text : List ℕ)
        → Then (IsChunk conits told) (λ ours. Made (AllWrites conits tolds) (λ others. ours ++ others)) writes text
        → AllWrites conits (told ∷ tolds) writes text
    to writes text s = (s.0, s.4.0, s.1, s.2, s.3, s.4.1, s.4.2, s.5)

    from : (writes : List Write) (text : List ℕ)
        → AllWrites conits (told ∷ tolds) writes text
        → Then (IsChunk conits told) (λ ours. Made (AllWrites conits tolds) (λ others. ours ++ others)) writes text
    from writes text s = (s.0, s.2, s.3, s.4, (s.1, s.5, s.6), s.7)
