use Rattle.std.proofs.Common.{◌≡◌, ℕ, ◌+◌, ◌<◌, ◌≤◌, List, [], ◌∷◌, ◌++◌, drop, length, get_or, map, ap, sym, ◌∙◌, subst, Some, arith}
use Rattle.std.proofs.lemmas.List.{append_assoc, length-drop, length_push, map_push}
use Rattle.tact_base.specs.Roomy.{Roomy}
use Rattle.run_model.specs.declared.entry.Entry.{Entry}
use Rattle.run_history.specs.Seats.{ClerkView, NoteView}
use Rattle.run_history.specs.Ticks.{entries_of}
use Rattle.replica_lock.specs.Rosters.{AreAllSessions}
use Rattle.replica_lock.specs.Sessions.{NodeView}
use Rattle.work_load.specs.declared.plan.Client.{Client}
use Rattle.run_work.specs.Ends.{AreWhole, IsWhole}
use Rattle.run_work.specs.declared.seat.End.{End}
use Rattle.run_work.proofs.Ended.{AreAll-of, AreDrawn-left, AreLeft, AreLeft-more, HaveDrawn-left, IsLeft, all_there, count_at, first_dropped, number_at, numbered_left, rest_dropped, stands_at}
use Rattle.run_work.proofs.Reach.{AreFew-left}
use Rattle.run_work.proofs.Shelving.{AreBack, AreBack-more, HasHeld-of, HaveHeld-of}
use Rattle.run_work.proofs.closing.finish_all.Goals as goal

-- there is an end for each node
ends_left : (nodes : List NodeView) (ends rest : List End) (before after : List NodeView) (node : NodeView)
    → length ends ≡ length nodes
    → before ++ node ∷ after ≡ nodes
    → rest ≡ drop (length before) ends
    → 0 < length rest
ends_left nodes ends rest before after node size whole is =
    omega (arith, size, count_at before node after nodes whole, ap length is, length-drop (length before) ends)

-- the end of a node, where all are whole
whole_at : (clients : List Client) (notes : List NoteView) (nodes before after : List NodeView) (node : NodeView) (ends rest : List End) (end : End)
    → AreWhole clients notes nodes ends
    → before ++ node ∷ after ≡ nodes
    → end ∷ rest ≡ drop (length before) ends
    → IsWhole clients notes (length before) node end
whole_at clients notes nodes before after node ends rest end are whole is =
    let inside : length before < length ends = omega (arith, are.count, count_at before node after nodes whole) in
    subst (λ (n : NodeView). IsWhole clients notes (length before) n end) (stands_at before node after nodes node whole)
    (subst (λ (e : End). IsWhole clients notes (length before) (get_or nodes (length before) node) e) (first_dropped ends (length before) end rest end is)
    (are.each (length before) node end inside))

pub unreachable-requires : goal.unreachable-requires
unreachable-requires g c =
    let whole : c.loop-node.yielded ++ c.in-Some.node ∷ c.next.new.self.rest.items ≡ c.args.nodes.items =
    ap (λ (items : List NodeView). c.loop-node.yielded ++ items) (sym c.in-Some.ensures.steps.0) ∙ c.loop-node.invariant.all in
    let some : 0 < length c.loop-node.ends.rest.items =
    ends_left c.args.nodes.items c.args.ends.items c.loop-node.ends.rest.items c.loop-node.yielded c.next.new.self.rest.items c.in-Some.node c.requires.ends.2.count whole c.loop-node.invariant.ends in
    absurd (omega (arith, some, c.in_default-next.ensures.cases.0))

pub finish-clerk-requires-clause-roster : goal.finish-clerk-requires-clause-roster
finish-clerk-requires-clause-roster g c =
    let whole : c.loop-node.yielded ++ c.in-Some.node ∷ c.next.new.self.rest.items ≡ c.args.nodes.items =
    ap (λ (items : List NodeView). c.loop-node.yielded ++ items) (sym c.in-Some.ensures.steps.0) ∙ c.loop-node.invariant.all in
    (whole_at c.requires.ends.0 c.requires.ends.1 c.args.nodes.items c.loop-node.yielded c.next.new.self.rest.items c.in-Some.node c.args.ends.items
    c.next-in-loop-node.new.self.rest.items c.in-Some-next.field-0 c.requires.ends.2 whole (sym c.in-Some-next.ensures.items ∙ c.loop-node.invariant.ends)).roster

pub finish-clerk-requires-clause-sessions : goal.finish-clerk-requires-clause-sessions
finish-clerk-requires-clause-sessions g c =
    let whole : c.loop-node.yielded ++ c.in-Some.node ∷ c.next.new.self.rest.items ≡ c.args.nodes.items =
    ap (λ (items : List NodeView). c.loop-node.yielded ++ items) (sym c.in-Some.ensures.steps.0) ∙ c.loop-node.invariant.all in
    let is =
    whole_at c.requires.ends.0 c.requires.ends.1 c.args.nodes.items c.loop-node.yielded c.next.new.self.rest.items c.in-Some.node c.args.ends.items
    c.next-in-loop-node.new.self.rest.items c.in-Some-next.field-0 c.requires.ends.2 whole (sym c.in-Some-next.ensures.items ∙ c.loop-node.invariant.ends) in
    is.sessions

pub finish-clerk-requires-clause-whole : goal.finish-clerk-requires-clause-whole
finish-clerk-requires-clause-whole g c =
    let whole : c.loop-node.yielded ++ c.in-Some.node ∷ c.next.new.self.rest.items ≡ c.args.nodes.items =
    ap (λ (items : List NodeView). c.loop-node.yielded ++ items) (sym c.in-Some.ensures.steps.0) ∙ c.loop-node.invariant.all in
    (whole_at c.requires.ends.0 c.requires.ends.1 c.args.nodes.items c.loop-node.yielded c.next.new.self.rest.items c.in-Some.node c.args.ends.items
    c.next-in-loop-node.new.self.rest.items c.in-Some-next.field-0 c.requires.ends.2 whole (sym c.in-Some-next.ensures.items ∙ c.loop-node.invariant.ends)).whole

pub loop-node-preserved : goal.loop-node-preserved
loop-node-preserved g c =
    let tells = g.B.J.Journal.tells in
    let nodes : List NodeView = c.args.nodes.items in
    let before : List NodeView = c.loop-node.yielded in
    let after : List NodeView = c.next.new.self.rest.items in
    let node : NodeView = c.in-Some.node in
    let end : End = c.in-Some-next.field-0 in
    let ends : List End = c.args.ends.items in
    let clerks : List ClerkView = c.loop-node.drawn.clerks.items in
    let clerk : ClerkView = c.finish-clerk.result.clerk in
    let invariant = c.loop-node.invariant in
    let whole : before ++ node ∷ after ≡ nodes = ap (λ (items : List NodeView). before ++ items) (sym c.in-Some.ensures.steps.0) ∙ invariant.all in
    let dropped : end ∷ c.next-in-loop-node.new.self.rest.items ≡ drop (length before) ends = sym c.in-Some-next.ensures.items ∙ invariant.ends in
    let parts = λ (part : Roomy (ℕ × Entry)). part.items in
    let pairs = λ (one : ClerkView). one.pairs in
    let stands : (none : End) → get_or ends (length before) none ≡ end = λ d. first_dropped ends (length before) end c.next-in-loop-node.new.self.rest.items d dropped in
    let number = number_at nodes before after node whole c.requires.nodes in
    let enough : length before ≤ length ends = omega (arith, count_at before node after nodes whole, c.requires.ends.2.count) in
    let is : IsLeft node end clerk = record {
      table = c.finish-clerk.ensures.clerk.0;
      replica = c.finish-clerk.ensures.clerk.1;
      sessions = AreAll-of end.roster.clients end.sessions.items (entries_of clerk.pairs) tells (g.B.J.Journal.faults c.finish-clerk.result.journal)
          (subst (λ (stored : List (ℕ × Entry)). AreAllSessions end.roster.clients end.sessions.items (entries_of stored) tells (g.B.J.Journal.faults c.finish-clerk.result.journal))
          c.finish-clerk.ensures.stored c.finish-clerk.ensures.sessions);
    } in
    let at : clerk.replica ≡ length clerks = is.replica ∙ number.0 ∙ sym invariant.count in
    record {
      all = append_assoc before (node ∷ []) after ∙ whole;
      ends = rest_dropped ends (length before) end c.next-in-loop-node.new.self.rest.items dropped ∙ ap (λ (k : ℕ). drop k ends) (sym (length_push before node));
      count = ap length c.put.ensures.items ∙ length_push clerks clerk ∙ ap (λ (k : ℕ). k + 1) invariant.count ∙ sym (length_push before node);
      parts_count = ap length c.put-in-loop-node.ensures.items ∙ length_push c.loop-node.drawn.parts.items c.into_pairs.result ∙ ap (λ (k : ℕ). k + 1) invariant.parts_count ∙ sym (length_push before node);
      clerk_room = omega (arith, invariant.clerk_room, c.put.ensures.capacity);
      part_room = omega (arith, invariant.part_room, c.put-in-loop-node.ensures.capacity);
      parts = ap (map parts) c.put-in-loop-node.ensures.items
          ∙ map_push parts c.loop-node.drawn.parts.items c.into_pairs.result
          ∙ ap (λ (all : List (List (ℕ × Entry))). all ++ c.into_pairs.result.items ∷ []) invariant.parts
          ∙ ap (λ (one : List (ℕ × Entry)). map pairs clerks ++ one ∷ []) (c.into_pairs.ensures ∙ c.finish-clerk.ensures.stored)
          ∙ sym (ap (map pairs) c.put.ensures.items ∙ map_push pairs clerks clerk);
      left = subst (AreLeft (before ++ node ∷ []) ends) (sym c.put.ensures.items)
          (AreLeft-more before ends clerks node end clerk invariant.count stands is invariant.left);
      low = omega (arith, invariant.low, c.put_back.ensures.never_falls);
      back = subst (AreBack tells (g.B.Shelf.faults c.args.shelf.now) (g.B.Shelf.faults c.put_back.new.self) (g.B.Shelf.stored c.put_back.new.self) ends) (sym c.put.ensures.items)
          (AreBack-more tells (g.B.Shelf.faults c.args.shelf.now) (g.B.Shelf.faults c.loop-node.shelf) (g.B.Shelf.faults c.put_back.new.self)
          (g.B.Shelf.stored c.loop-node.shelf) (g.B.Shelf.stored c.put_back.new.self) ends clerks end clerk
          (numbered_left nodes before (node ∷ after) ends clerks whole c.requires.nodes invariant.count invariant.left enough) at
          (λ d. ap (λ (k : ℕ). get_or ends k d) invariant.count ∙ stands d)
          (λ of told other. c.put_back.ensures.others of told (λ same. other (same ∙ c.replica.ensures.replica)))
          (g.B.J.Journal.faults c.finish-clerk.result.journal) invariant.low c.put_back.ensures.never_falls c.put_back.ensures.sound c.put_back.ensures.failed
          (λ none. HasHeld-of tells (g.B.Shelf.stored c.put_back.new.self) end clerk (entries_of c.finish-clerk.result.stored) (g.B.J.Journal.pieces c.finish-clerk.result.journal)
          (g.B.J.Journal.faults c.finish-clerk.result.journal) none (ap entries_of (sym c.finish-clerk.ensures.stored)) c.finish-clerk.ensures.sessions c.finish-clerk.ensures.journal
          (λ told. subst (λ (r : ℕ). g.B.Shelf.stored c.put_back.new.self r ≡ Some (g.B.J.Journal.pieces c.finish-clerk.result.journal)) c.replica.ensures.replica (c.put_back.ensures.put told)))
          invariant.back);
    }

pub returns-clause-drawn : goal.returns-clause-drawn
returns-clause-drawn g c =
    λ desk clients notes size at whole.
    let nodes : List NodeView = c.args.nodes.items in
    let ends : List End = c.args.ends.items in
    let clerks : List ClerkView = c.loop-node.drawn.clerks.items in
    let all : c.loop-node.yielded ≡ nodes =
    all_there c.loop-node.yielded c.loop-node.node-iterator.rest.items nodes c.loop-node.invariant.all (omega (arith, c.in-None.ensures.steps.0)) in
    let count : length clerks ≡ length nodes = c.loop-node.invariant.count ∙ ap length all in
    let left : AreLeft nodes ends clerks = subst (λ (before : List NodeView). AreLeft before ends clerks) all c.loop-node.invariant.left in (
      AreDrawn-left desk nodes ends c.loop-node.drawn count whole.count size at c.loop-node.invariant.parts left,
      HaveDrawn-left clients notes nodes ends c.loop-node.drawn count whole left,
    )

pub returns-clause-few : goal.returns-clause-few
returns-clause-few g c =
    λ clients extra unmarked certain busy apart.
    let nodes : List NodeView = c.args.nodes.items in
    let ends : List End = c.args.ends.items in
    let clerks : List ClerkView = c.loop-node.drawn.clerks.items in
    let all : c.loop-node.yielded ≡ nodes =
    all_there c.loop-node.yielded c.loop-node.node-iterator.rest.items nodes c.loop-node.invariant.all (omega (arith, c.in-None.ensures.steps.0)) in
    AreFew-left clients extra nodes ends clerks (c.loop-node.invariant.count ∙ ap length all) c.requires.ends.2.count
    (subst (λ (before : List NodeView). AreLeft before ends clerks) all c.loop-node.invariant.left) unmarked certain busy apart

pub returns-clause-sure : goal.returns-clause-sure
returns-clause-sure g c =
    let nodes : List NodeView = c.args.nodes.items in
    let ends : List End = c.args.ends.items in
    let clerks : List ClerkView = c.loop-node.drawn.clerks.items in
    let all : c.loop-node.yielded ≡ nodes =
    all_there c.loop-node.yielded c.loop-node.node-iterator.rest.items nodes c.loop-node.invariant.all (omega (arith, c.in-None.ensures.steps.0)) in
    let count : length clerks ≡ length nodes = c.loop-node.invariant.count ∙ ap length all in
    HaveHeld-of g.B.J.Journal.tells (g.B.Shelf.faults c.args.shelf.now) (g.B.Shelf.faults c.loop-node.shelf) (g.B.Shelf.stored c.loop-node.shelf) ends clerks
    (c.requires.ends.2.count ∙ sym count)
    (numbered_left nodes c.loop-node.yielded c.loop-node.node-iterator.rest.items ends clerks c.loop-node.invariant.all c.requires.nodes c.loop-node.invariant.count c.loop-node.invariant.left
    (omega (arith, ap length all, c.requires.ends.2.count)))
    c.loop-node.invariant.back
