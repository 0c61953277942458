use Rattle.std.proofs.Common.{◌≡◌, ℕ, ◌+◌, ◌-◌, ◌≤◌, List, ◌++◌, length, take, drop, ap, ◌∙◌, append_assoc, arith, length-append}
use Rattle.std.proofs.lemmas.List.{take_at, length-take-le}
use Rattle.tact_base.specs.Roomy.{Roomy}
use Rattle.run_model.specs.Bytes.{number_bytes}
use Rattle.run_model.proofs.short_bytes.ShortBytes.put_number.Goals as goal
use borrow.Rule.Slice.PartMut.{put_mid, mid_of, post_of}

-- what is written once more was put behind it, whatever stands there
grown : (bytes new more : List ℕ) (len room : ℕ)
    → len ≤ length bytes
    → take (len + length new) (put_mid len room bytes (new ++ more)) ≡ take len bytes ++ new
grown bytes new more len room within =
    let front : List ℕ = take len bytes in
    let behind : List ℕ = post_of len room bytes in
    let regroup : front ++ ((new ++ more) ++ behind) ≡ (front ++ new) ++ (more ++ behind) = simp append_assoc in
    let width : length (front ++ new) ≡ len + length new = omega (arith, length-append front new, length-take-le len bytes within) in
    ap (take (len + length new)) regroup ∙ take_at (front ++ new) (more ++ behind) (len + length new) width

pub returns-clause-items : goal.returns-clause-items
unfolding number_bytes
returns-clause-items c =
    let len = c.self.inside.len in
    let bytes = c.self.inside.bytes in
    let new = number_bytes c.args.number in
    ap (λ (part : List ℕ). take (len + 8) (put_mid len (256 - len) bytes part)) c.write_u64.ensures
    ∙ grown bytes new (drop 8 (mid_of len (256 - len) bytes)) len (256 - len) (omega (arith, c.self.invariant.0, c.self.invariant.1))
    ∙ ap (λ (short : Roomy ℕ). short.items ++ new) c.self.view_is
