-- What a client is answered to a reserve, a release and a held write.
use Rattle.std.proofs.Common.{◌≡◌, ℕ, ◌≤◌, Bool, cond, List, Option, None, Some, unwrap_or, unsigned_abs, refl, sym, ap, ◌∙◌, subst}
use Rattle.std.proofs.lemmas.Bool.{le-ltb}
use Rattle.std.proofs.lemmas.Option.{same_Some}
use Rattle.tact_base.specs.Setup.{Setup, peers_of}
use Rattle.tact_base.specs.Shares.{fit_of}
use Rattle.tact_base.specs.declared.conit_list.Weight.{Weight}
use Rattle.tact_base.specs.declared.fit.Fit.{Fit}
use Rattle.tact_base.specs.declared.fit.Fit.TheVariants as fit
use Rattle.tact_base.specs.declared.write.Op.{Op}
use Rattle.run_model.specs.Loans.{share}
use Rattle.run_model.specs.Missing.{greater_missing, reserved}
use Rattle.run_model.specs.Replies.{done, first_some, refusal, refused_as, reply_of}
use Rattle.run_model.specs.declared.call.Reply.{Reply}
use Rattle.run_model.specs.declared.call.Reply.TheVariants as reply
use Rattle.run_model.specs.declared.call.Request.TheVariants as request
use Rattle.run_model.specs.declared.entry.Entry.{Entry}
use Rattle.run_model.proofs.Accepted.{first_some-each}
use Rattle.replica_lock.specs.Answering.{IsReserveWait}

-- what a share refuses says why
refused_as-waits : (conit : ℕ) (answer : Fit) (given : Reply)
    → refused_as conit answer ≡ Some given
    → IsReserveWait given
refused_as-waits conit fit.Fits given is = cc
refused_as-waits conit (fit.TooHeavy peer weight share) given is = subst IsReserveWait (same_Some _ given is) tt
refused_as-waits conit (fit.WaitHeld peer held weight share) given is = subst IsReserveWait (same_Some _ given is) tt
refused_as-waits conit (fit.WaitShare peer missing held weight share) given is = subst IsReserveWait (same_Some _ given is) tt

module _ (setup : Setup) (replica : ℕ) (part : List Entry) (moment : ℕ) (given : Reply) where
  -- a reserve that isn't granted
  pub reserve-waits : (conit amount : ℕ)
      → given ≡ reply_of setup replica part moment (request.Reserve conit amount)
      → (given ≡ reply.Granted → ⊥)
      → IsReserveWait given
  reserve-waits conit amount is other =
      go (first_some gets (peers_of setup replica)) (first_some-each gets IsReserveWait each (peers_of setup replica)) is
    where
      gets : ℕ → Option Reply
      gets peer = refusal setup replica part conit peer amount (greater_missing replica part peer conit)

      each : (peer : ℕ) (answer : Reply) → gets peer ≡ Some answer → IsReserveWait answer
      each peer = refused_as-waits conit (fit_of peer (share setup replica part peer conit) (reserved part conit) (greater_missing replica part peer conit) amount)

      go : (first : Option Reply)
          → ((answer : Reply) → first ≡ Some answer → IsReserveWait answer)
          → given ≡ unwrap_or first reply.Granted
          → IsReserveWait given
      go None waits is = absurd (other is)
      go (Some answer) waits is = subst IsReserveWait (sym is) (waits answer refl)

  -- a release of no more than is reserved is answered so, and a held write of no more is done
  pub release-released : (conit amount : ℕ)
      → given ≡ reply_of setup replica part moment (request.Release conit amount)
      → amount ≤ reserved part conit
      → given ≡ reply.Released
  release-released conit amount is enough =
      is ∙ ap (λ (b : Bool). cond b (reply.NotHeld conit (reserved part conit) amount) reply.Released) (le-ltb (reserved part conit) amount enough)

  pub held-done : (weight : Weight) (op : Op)
      → given ≡ reply_of setup replica part moment (request.Held weight op)
      → unsigned_abs weight.nweight ≤ reserved part weight.conit
      → given ≡ done replica part
  held-done weight op is enough =
      is ∙ ap (λ (b : Bool). cond b (reply.NotHeld weight.conit (reserved part weight.conit) (unsigned_abs weight.nweight)) (done replica part))
      (le-ltb (reserved part weight.conit) (unsigned_abs weight.nweight) enough)
