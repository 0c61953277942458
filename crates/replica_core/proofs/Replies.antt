-- The reply that a replica gives by what it keeps is the one that is due.
use Rattle.std.proofs.Common.{◌≡◌, ℕ, ◌<◌, nat_lt, max, cond, List, unsigned_abs, All, Option, unwrap_or, sym, ap, ap₂, ◌∙◌}
use Rattle.std.proofs.lemmas.List.Elements.{All-weaker}
use Rattle.tact_base.specs.declared.conit_list.Weight.{Weight}
use Rattle.run_model.specs.Histories.{moment_at}
use Rattle.run_model.specs.Ranges.{IsRequestInRange, IsWeightInRange}
use Rattle.run_model.specs.Replies.{done, reply_of}
use Rattle.run_model.specs.declared.call.Reply.{Reply}
use Rattle.run_model.specs.declared.call.Reply.TheVariants as reply
use Rattle.run_model.specs.declared.call.Request.{Request}
use Rattle.run_model.specs.declared.call.Request.TheVariants as request
use Rattle.run_model.specs.declared.entry.Entry.{Entry}
use Rattle.run_promises.proofs.PartSound.{PartSound-part}
use Rattle.replica_core.specs.Replying.{accepting_reply, reply_in}
use Rattle.replica_core.specs.Stands.{Stands}
use Rattle.replica_core.specs.States.{Core, IsKept}
use Rattle.replica_core.proofs.Accepting.{accepts_as-part}
use Rattle.replica_core.proofs.Reading.{read_reply-part}
use Rattle.replica_core.proofs.Refusals.{weights_refusal-part, reserve_refusal-part}

module _ (core : Core) (kept : IsKept core) (part : List Entry) (stands : Stands part core) where
  accepting : accepting_reply core ≡ done core.replica part
  accepting = accepts_as-part part core stands kept.places

  conits_in : (weights : List Weight)
      → All (IsWeightInRange core.setup) weights
      → All (λ (weight : Weight). weight.conit < core.setup.conits) weights
  conits_in weights = All-weaker (IsWeightInRange core.setup) (λ (weight : Weight). weight.conit < core.setup.conits) (λ weight in_range. in_range.conit) weights

  pub reply_in-part : (handed : ℕ) (asked : Request)
      → IsRequestInRange core.setup asked
      → reply_in core (max handed core.counts.last) asked ≡ reply_of core.setup core.replica part (moment_at part handed) asked
  reply_in-part handed (request.Write weights op) in_range =
      ap₂ (λ (first : Option Reply) (accepted : Reply). unwrap_or first accepted)
      (weights_refusal-part core.setup core.replica part core.budgets stands.budgets kept.budgets.setup kept.budgets.replica
      (PartSound-part core.setup core.replica part stands.is_part).in_order weights (conits_in weights in_range.0.each))
      accepting
  reply_in-part handed (request.Held weight op) in_range =
      ap₂ (λ (held : ℕ) (accepted : Reply). cond (nat_lt held (unsigned_abs weight.nweight)) (reply.NotHeld weight.conit held (unsigned_abs weight.nweight)) accepted)
      (stands.budgets.reserved weight.conit in_range.0.conit) accepting
  reply_in-part handed (request.Reserve conit amount) in_range =
      ap (λ (first : Option Reply). unwrap_or first reply.Granted)
      (reserve_refusal-part core.setup core.replica part core.budgets stands.budgets kept.budgets.setup kept.budgets.replica
      (PartSound-part core.setup core.replica part stands.is_part).in_order conit amount in_range.0)
  reply_in-part handed (request.Release conit amount) in_range =
      ap (λ (held : ℕ). cond (nat_lt held amount) (reply.NotHeld conit held amount) reply.Released) (stands.budgets.reserved conit in_range.0)
  reply_in-part handed (request.Read key needs) in_range =
      ap (λ (last : ℕ). reply_in core (max handed last) (request.Read key needs)) stands.counts.last
      ∙ read_reply-part part core stands kept.budgets (moment_at part handed) key needs in_range.1.each

-- a reply that is given to what a request is
pub due_reply : (core : Core)
    → IsKept core
    → (handed : ℕ) (request asked : Request)
    → request ≡ asked
    → IsRequestInRange core.setup request
    → (given : Reply)
    → given ≡ reply_in core (max handed core.counts.last) asked
    → (part : List Entry)
    → Stands part core
    → given ≡ reply_of core.setup core.replica part (moment_at part handed) request
due_reply core kept handed request asked is in_range given gives part stands =
    gives ∙ ap (reply_in core (max handed core.counts.last)) (sym is) ∙ reply_in-part core kept part stands handed request in_range
