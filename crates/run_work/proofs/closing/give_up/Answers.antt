use Rattle.std.proofs.Common.{◌≡◌, ◌+◌, ◌<◌, ◌++◌, [], ◌∷◌, ℕ, List, drop, get_or, length, ap, sym, ◌∙◌, subst, arith}
use Rattle.std.proofs.lemmas.List.{append_assoc, length_push}
use Rattle.replica_lock.specs.Rosters.{IsRosterOf}
use Rattle.replica_lock.specs.Sessions.{NodeView}
use Rattle.run_work.specs.declared.seat.End.{End}
use Rattle.run_work.proofs.Ended.{first_dropped, rest_dropped, stands_at, count_at}
use Rattle.run_work.proofs.closing.give_up.Goals as goal

pub end-clerk-requires : goal.end-clerk-requires
end-clerk-requires g c =
    let nodes : List NodeView = c.args.nodes.items in
    let ends : List End = c.args.ends.items in
    let before : List NodeView = c.loop-node.yielded in
    let node : NodeView = c.in-Some.node in
    let end : End = c.in-Some-next.field-0 in
    let whole : before ++ node ∷ c.next.new.self.rest.items ≡ nodes = ap (λ (items : List NodeView). before ++ items) (sym c.in-Some.ensures.steps.0) ∙ c.loop-node.invariant.all in
    let dropped : end ∷ c.next-in-loop-node.new.self.rest.items ≡ drop (length before) ends = sym c.in-Some-next.ensures.items ∙ c.loop-node.invariant.ends in
    let inside : length before < length ends = omega (arith, c.requires.ends.count, count_at before node c.next.new.self.rest.items nodes whole) in
    record {
      roster = subst (λ (n : NodeView). IsRosterOf n end.roster) (stands_at before node c.next.new.self.rest.items nodes node whole)
          (subst (λ (e : End). IsRosterOf (get_or nodes (length before) node) e.roster) (first_dropped ends (length before) end c.next-in-loop-node.new.self.rest.items end dropped)
          (c.requires.ends.each (length before) node end inside));
    }

pub loop-node-preserved : goal.loop-node-preserved
loop-node-preserved g c =
    let nodes : List NodeView = c.args.nodes.items in
    let ends : List End = c.args.ends.items in
    let before : List NodeView = c.loop-node.yielded in
    let node : NodeView = c.in-Some.node in
    let end : End = c.in-Some-next.field-0 in
    let whole : before ++ node ∷ c.next.new.self.rest.items ≡ nodes = ap (λ (items : List NodeView). before ++ items) (sym c.in-Some.ensures.steps.0) ∙ c.loop-node.invariant.all in
    let dropped : end ∷ c.next-in-loop-node.new.self.rest.items ≡ drop (length before) ends = sym c.in-Some-next.ensures.items ∙ c.loop-node.invariant.ends in
    record {
      all = append_assoc before (node ∷ []) c.next.new.self.rest.items ∙ whole;
      ends = rest_dropped ends (length before) end c.next-in-loop-node.new.self.rest.items dropped ∙ ap (λ (k : ℕ). drop k ends) (sym (length_push before node));
      low = omega (arith, c.loop-node.invariant.low, c.put_back.ensures.never_falls);
    }
