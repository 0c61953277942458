use Rattle.std.specs.Int.{w64}
use Rattle.std.proofs.lemmas.Int.{to_z-of_z}
use Rattle.std.proofs.Common.{[], length, ◌≡◌, ◌++◌, ◌-◌, ℕ, List, take, rules, FitsSigned, ap, ap₂, ◌∙◌, arith}
use Rattle.std.specs.List.{sum_by}
use Rattle.std.proofs.lemmas.List.{take_all}
use Rattle.tact_base.specs.Images.{Image, image_of, image_from, empty_image, ops_of}
use Rattle.tact_base.specs.WriteOrder.{in_order}
use Rattle.tact_base.specs.declared.write.Op.{Op}
use Rattle.tact_base.specs.declared.write.Write.{Write}
use Rattle.rollback_apply.specs.Image.{ImageState, base_of, value_in, AreJoined}
use Rattle.rollback_apply.proofs.ImageLemmas.{same_image}
use Rattle.reference_book.specs.Books.{writes_in}
use Rattle.reference_book.proofs.Histories.{writes_in-is}
use Rattle.reference_book.proofs.book.Book.image_value.Goals as goal

-- Operations alone are what they are among none.
alone : (none ops : List Op) (count : ℕ) → none ≡ [] → AreJoined none ops (take count none ++ ops)
alone none ops count empty amount =
    let front : take count none ≡ [] = take_all count none (omega (arith, ap length empty)) ∙ empty in
    rw front (omega (arith, ap (sum_by amount) empty))

pub insert_all-requires-clause-joined : goal.insert_all-requires-clause-joined
insert_all-requires-clause-joined c =
    alone c.reserve.new.self.ops (ops_of c.items-all.result.now) (0 - c.reserve.new.self.committed) (c.in_ok-reserve.ensures.ops ∙ c.new-image.ensures.ops)

pub returns-clause-value : goal.returns-clause-value
returns-clause-value c =
    let fits : FitsSigned w64 c.get.result = search rules in
    let image = c.insert_all.new.self in
    let base : base_of image ≡ empty_image =
    same_image (base_of image) empty_image (λ key. c.insert_all.ensures.base key ∙ c.in_ok-reserve.ensures.base key ∙ c.new-image.ensures.base key) in
    let none : 0 - c.reserve.new.self.committed ≡ 0 = omega arith in
    let sorted : c.items-all.result.now ≡ in_order (writes_in c.args.self.now) = c.items-all.ensures ∙ c.in_ok-writes.ensures in
    let ops : image.ops ≡ ops_of (in_order (writes_in c.args.self.now)) =
    c.insert_all.ensures.ops
    ∙ ap₂ (λ (n : ℕ) (ws : List Write). take n c.reserve.new.self.ops ++ ops_of ws) none sorted in
    to_z-of_z w64 c.get.result fits ∙ c.get.ensures
    ∙ ap (λ (image : ImageState). value_in image c.args.key) c.catch_up.ensures
    ∙ ap₂ (λ (from : Image) (done : List Op). image_from from done c.args.key) base ops

pub returns-clause-of_history : goal.returns-clause-of_history
returns-clause-of_history c = λ setup history is.
    returns-clause-value c ∙ ap (λ (ws : List Write). image_of (ops_of (in_order ws)) c.args.key) (writes_in-is setup history c.args.self.now is)
