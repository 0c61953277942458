-- A line is in range of each setup with the same counts.
use Rattle.std.proofs.Common.{ℕ, ◌<◌, subst, ◌∙◌}
use Rattle.std.proofs.lemmas.List.Elements.{All-weaker}
use Rattle.tact_base.specs.Setup.{Setup}
use Rattle.tact_base.specs.declared.conit_list.Need.{Need}
use Rattle.tact_base.specs.declared.conit_list.Weight.{Weight}
use Rattle.run_model.specs.Ranges.{IsWeightInRange, IsNeedInRange, IsRequestInRange}
use Rattle.run_model.specs.declared.call.Request.{Request}
use Rattle.run_model.specs.declared.call.Request.TheVariants as request
use Rattle.run_model.specs.declared.script_line.Line.{Line}
use Rattle.run_model.specs.declared.script_line.Line.TheVariants as line
use Rattle.script_text.specs.LineRanges.{IsCallInRange, AreTwoInRange, IsAmountInRange, IsLineInRange}
use Rattle.script_text.proofs.SetupGrowth.{SameCounts}

module _ (s t : Setup) (same : SameCounts s t) where
  replica_kept : (replica : ℕ) → replica < s.replicas → replica < t.replicas
  replica_kept replica within = subst (λ (n : ℕ). replica < n) same.replicas within

  conit_kept : (conit : ℕ) → conit < s.conits → conit < t.conits
  conit_kept conit within = subst (λ (n : ℕ). conit < n) same.conits within

  weight_kept : (weight : Weight) → IsWeightInRange s weight → IsWeightInRange t weight
  weight_kept weight is = record { conit = conit_kept weight.conit is.conit; nweight = is.nweight; oweight = is.oweight }

  need_kept : (need : Need) → IsNeedInRange s need → IsNeedInRange t need
  need_kept need is = record { conit = conit_kept need.conit is.conit; num = is.num; order = is.order; stale = is.stale }

  request_kept : (asked : Request) → IsRequestInRange s asked → IsRequestInRange t asked
  request_kept (request.Write weights op) is =
      (record { each = All-weaker (IsWeightInRange s) (IsWeightInRange t) weight_kept weights is.0.each; listed = is.0.listed }, is.1)
  request_kept (request.Held weight op) is = (weight_kept weight is.0, is.1)
  request_kept (request.Reserve conit amount) is = (conit_kept conit is.0, is.1)
  request_kept (request.Release conit amount) is = (conit_kept conit is.0, is.1)
  request_kept (request.Read key needs) is =
      (is.0, record { each = All-weaker (IsNeedInRange s) (IsNeedInRange t) need_kept needs is.1.each; listed = is.1.listed })

  call_kept : (replica client : ℕ) (asked : Request)
      → IsCallInRange s replica client asked
      → IsCallInRange t replica client asked
  call_kept replica client asked is =
      record { replica_in = replica_kept replica is.replica_in; client_in = is.client_in; request_in = request_kept asked is.request_in }

  two_kept : (first second : ℕ) → AreTwoInRange s first second → AreTwoInRange t first second
  two_kept first second is = record { first_in = replica_kept first is.first_in; second_in = replica_kept second is.second_in; others = is.others }

  amount_kept : (conit amount : ℕ) → IsAmountInRange s conit amount → IsAmountInRange t conit amount
  amount_kept conit amount is = record { conit_in = conit_kept conit is.conit_in; amount_in = is.amount_in }

  pub line_kept : (l : Line) → IsLineInRange s l → IsLineInRange t l
  line_kept (line.Start n m a k) is = absurd is
  line_kept (line.Bound o c a k) is = record { owner_in = replica_kept o is.owner_in; conit_in = conit_kept c is.conit_in; alpha_in = is.alpha_in; loan_in = is.loan_in }
  line_kept (line.At moment) is = is
  line_kept (line.Write replica client op weights) is = call_kept replica client (request.Write weights op) is
  line_kept (line.Held replica client op weight) is = call_kept replica client (request.Held weight op) is
  line_kept (line.Reserve replica client conit amount) is = call_kept replica client (request.Reserve conit amount) is
  line_kept (line.Release replica client conit amount) is = call_kept replica client (request.Release conit amount) is
  line_kept (line.Read replica client key needs) is = call_kept replica client (request.Read key needs) is
  line_kept (line.Send from to firsts) is =
      (two_kept from to is.0, record { size = is.1.size ∙ same.replicas; each = is.1.each })
  line_kept (line.Take replica from number) is = two_kept replica from is
  line_kept (line.Sync first second) is = two_kept first second is
  line_kept (line.Lend owner holder conit amount) is = (two_kept owner holder is.0, amount_kept conit amount is.1)
  line_kept (line.Back holder owner conit amount) is = (two_kept holder owner is.0, amount_kept conit amount is.1)
  line_kept (line.Restart replica) is = replica_kept replica is
  line_kept (line.Show replica) is = replica_kept replica is
  line_kept (line.Ref conit) is = conit_kept conit is
