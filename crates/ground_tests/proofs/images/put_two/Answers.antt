use Rattle.std.proofs.Common.{◌≡◌, ℕ, ◌+◌, ◌-◌, List, [], ◌∷◌, ◌++◌, length, take, drop, ap, ◌∙◌, arith}
use Rattle.std.specs.List.{sum_by}
use Rattle.std.proofs.lemmas.List.Sums.{sum_by-append, sum_by-cons, sum_by-take-drop}
use Rattle.std.proofs.lemmas.List.{length-drop, take_all}
use Rattle.tact_base.specs.Images.{ops_of}
use Rattle.tact_base.specs.declared.write.Op.{Op}
use Rattle.rollback_apply.specs.Image.{AreJoined}
use Rattle.ground_tests.proofs.images.put_two.Goals as goal

-- Operations from a place on, with one before them and one behind.
joined : (ops late rest : List Op) (count place : ℕ) (first last : Op)
    → ops ≡ late
    → count ≡ place
    → rest ≡ first ∷ drop place late ++ last ∷ []
    → AreJoined ops (first ∷ last ∷ []) (take count ops ++ rest)
joined ops late rest count place first last same at is amount =
    rw (same, at, is)
    (omega (
      arith,
      sum_by-append amount (take place late) (first ∷ drop place late ++ last ∷ []),
      sum_by-cons amount first (drop place late ++ last ∷ []),
      sum_by-append amount (drop place late) (last ∷ []),
      sum_by-cons amount first (last ∷ []),
      sum_by-take-drop amount late place,
    ))

pub insert_all-requires-clause-joined : goal.insert_all-requires-clause-joined
insert_all-requires-clause-joined g c =
    let late = c.args.late.now.items in
    let rest : ops_of c.deref-2.result.now ≡ c.args.first.op ∷ drop c.args.place late ++ c.args.last.op ∷ [] =
    ap ops_of c.deref-2.ensures.value ∙ c.with_two-rest.ensures
    ∙ ap (λ (ops : List Op). c.args.first.op ∷ ops ++ c.args.last.op ∷ [])
    (take_all (length c.deref.result.now - c.args.place) (drop c.args.place c.deref.result.now) (omega (arith, length-drop c.args.place c.deref.result.now))
    ∙ ap (drop c.args.place) c.deref.ensures.value) in
    joined c.args.image.now.ops late (ops_of c.deref-2.result.now) _ c.args.place c.args.first.op c.args.last.op c.requires.same
    (omega (arith, c.requires.committed)) rest
