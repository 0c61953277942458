use Rattle.std.proofs.Common.{◌≡◌, ◌==◌, ◌-◌, ◌∙◌, Bool, length, take, drop, arith}
use Rattle.std.proofs.lemmas.List.{length-drop, take_all}
use Rattle.tact_base.specs.declared.write.Write.{Write}
use Rattle.replica_core.proofs.FrontCounts.{parted, count_is_all}
use Rattle.replica_core.proofs.replica.taking.told_of.Goals as goal
use Rattle.replica_core.proofs.replica.taking.told_of.Goals.{After-items}

-- the rest of the told writes
rest_is : (c : After-items) → take (length c.items.result.now - c.args.start) (drop c.args.start c.items.result.now) ≡ drop c.args.start c.args.message.now.writes
rest_is c =
    let writes = c.args.message.now.writes in
    let start = c.args.start in
    rw c.items.ensures (take_all (length writes - start) (drop start writes) (omega (arith, length-drop start writes)))

pub count_of-requires : goal.count_of-requires
count_of-requires c =
    let of_origin : Write → Bool = λ write. write.origin == c.args.origin in
    rw (rest_is (goal.at.count_of-requires c).After-items) (parted of_origin c.args.message.now.writes c.args.start c.requires.placed)

pub returns : goal.returns
returns c =
    let of_origin : Write → Bool = λ write. write.origin == c.args.origin in
    let is = rest_is (goal.at.returns c).After-items in
    let count = rw is at c.count_of.ensures in
    rw (is, count ∙ count_is_all of_origin c.args.message.now.writes c.args.start c.requires.placed) c.requires.placed
