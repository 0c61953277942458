use Rattle.std.proofs.Common.{ap, subst}
use Rattle.run_history.specs.Steps.{IsLooked}
use Rattle.run_history.proofs.Meeting.{meets, parts_after, clerk_after, clerk_among}
use Rattle.run_history.proofs.steps.learn_as.Goals as goal

pub returns-clause-clerk : goal.returns-clause-clerk
returns-clause-clerk g c replica clerk =
    let setup = g.T.Told.setup in
    let after = c.look_as.new.seat.me.0 in
    let looked = subst (λ before. IsLooked setup before c.look_as.result after) (ap (λ me. me.0) c.join_as.ensures.seat.1) c.look_as.ensures.looked in
    clerk_after setup c.args.seat.now.me.0 c.args.note.me.0 c.look_as.result after c.requires.note looked replica clerk

pub returns-clause-parts : goal.returns-clause-parts
returns-clause-parts g c =
    let setup = g.T.Told.setup in
    let after = c.look_as.new.seat.me.0 in
    let looked = subst (λ before. IsLooked setup before c.look_as.result after) (ap (λ me. me.0) c.join_as.ensures.seat.1) c.look_as.ensures.looked in
    parts_after setup c.args.seat.now.me.0 c.args.note.me.0 c.look_as.result after c.requires.note looked

pub returns-clause-seen : goal.returns-clause-seen
returns-clause-seen g c =
    let setup = g.T.Told.setup in
    let after = c.look_as.new.seat.me.0 in
    let looked = subst (λ before. IsLooked setup before c.look_as.result after) (ap (λ me. me.0) c.join_as.ensures.seat.1) c.look_as.ensures.looked in
    meets setup c.args.seat.now.me.0 c.args.note.me.0 c.look_as.result after looked

pub returns-clause-among : goal.returns-clause-among
returns-clause-among g c replica clerk =
    let setup = g.T.Told.setup in
    let after = c.look_as.new.seat.me.0 in
    let looked = subst (λ before. IsLooked setup before c.look_as.result after) (ap (λ me. me.0) c.join_as.ensures.seat.1) c.look_as.ensures.looked in
    clerk_among setup c.args.seat.now.me.0 c.args.note.me.0 c.look_as.result after c.requires.note looked replica clerk
