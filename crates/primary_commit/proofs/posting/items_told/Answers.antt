use Rattle.std.proofs.Common.{◌≡◌, ℕ, List, [], ◌++◌, ◌-◌, get_or, take, drop, ap, ◌∙◌, flat_map, length, arith}
use Rattle.std.proofs.lemmas.List.{length-take}
use Rattle.std.specs.List.{range_with_len}
use Rattle.primary_commit.specs.declared.items.Item.{Item}
use Rattle.primary_commit.proofs.PostLemmas.{few_more}
use Rattle.primary_commit.proofs.posting.items_told.Goals as goal

pub overflow_sub-room : goal.overflow_sub-room
overflow_sub-room c =
    let told : List Item = flat_map (λ origin. drop (get_or c.args.firsts.now origin 0) (get_or c.args.logs.now.logs origin [])) (range_with_len 0 c.loop-origin.origin) in
    let is : c.loop-origin.items ≡ take 64 told = c.loop-origin.invariant in
    omega (arith, c.len-room.ensures, ap length is, length-take 64 told)

pub loop-origin-preserved : goal.loop-origin-preserved
loop-origin-preserved c =
    let told = λ (origin : ℕ). drop (get_or c.args.firsts.now origin 0) (get_or c.args.logs.now.logs origin []) in
    let room : ℕ = 64 - c.len-room.result in
    let left : room ≡ 64 - length c.loop-origin.items = ap (λ (n : ℕ). 64 - n) c.len-room.ensures in
    few_more told c.loop-origin.origin room c.loop-origin.items c.append.new.self c.loop-origin.invariant left
    (c.in_ok-append.ensures.ok ∙ ap (λ (items : List Item). c.loop-origin.items ++ items)
    (c.from_first.ensures ∙ ap (λ (log : List Item). take room (drop (get_or c.args.firsts.now c.loop-origin.origin 0) log)) c.log.ensures))
