use Rattle.std.proofs.Common.{◌+◌, ◌<◌, ◌≤◌, List, length, map, sym, subst, arith, ℕ}
use Rattle.std.proofs.lemmas.Grind.{common_steps}
use Rattle.std.proofs.lemmas.List.{length-map}
use Rattle.replica_lock.specs.Sessions.{SessionView}
use Rattle.run_work.proofs.LeadLoop.{IsLead-all, IsLeadBelow, IsLeadBelow-less, IsLeadBelow-more, client_at}
use Rattle.run_work.proofs.seat.End.lead.Goals as goal
use Rattle.run_work.proofs.seat.End.lead.Goals.{then-client, else-client}

pub loop-place-preserved : goal.loop-place-preserved
loop-place-preserved c =
    let sessions = c.args.self.now.sessions.items in
    let numbers : List ℕ = map (λ (s : SessionView). s.client) sessions in
    let lead = c.loop-place.invariant in
    let place = c.loop-place.place in
    let least = c.loop-place.least in
    let size = length-map sessions (λ (s : SessionView). s.client) in
    let within : place < length sessions = grind (arith, common_steps) in
    let here = client_at sessions place c.index.result.now within c.index.ensures in
    let there = client_at sessions least c.index-in-loop-place.result.now (omega (arith, lead.below, lead.within, size)) c.index-in-loop-place.ensures in
    elim c.if-client.branch [
      | then-client w ↦ subst (IsLeadBelow (place + 1) numbers) (sym w.least-is)
          (IsLeadBelow-less place numbers least (omega (arith, within, size)) (omega (arith, here, there, w.if-client, c.client.ensures, c.client-in-loop-place.ensures)) lead)
      | else-client w ↦ subst (IsLeadBelow (place + 1) numbers) (sym w.least-is)
          (IsLeadBelow-more place numbers least (omega (arith, within, size)) (omega (arith, here, there, w.if-client, c.client.ensures, c.client-in-loop-place.ensures)) lead)
    ]

pub returns : goal.returns
returns c =
    let sessions = c.args.self.now.sessions.items in
    let size = length-map sessions (λ (s : SessionView). s.client) in
    let over : length sessions ≤ c.loop-place.place = grind (arith, common_steps) in
    IsLead-all c.loop-place.place (map (λ (s : SessionView). s.client) sessions) c.loop-place.least (omega (arith, over, size)) c.loop-place.invariant
