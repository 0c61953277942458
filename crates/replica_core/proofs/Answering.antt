-- What a replica answers to each request, and what it then stands for.
use Rattle.std.proofs.Common.{◌≡◌, ℕ, ◌+◌, ◌-◌, ◌<◌, ◌≤◌, nat_lt, max, Bool, true, false, cond, List, [], ◌∷◌, length}
use Rattle.std.proofs.Common.{get_or, set, unsigned_abs, All, Option, None, Some, unwrap_or, refl, sym, ap, ◌∙◌, subst}
use Rattle.std.proofs.Common.{arith}
use Rattle.std.proofs.lemmas.Bool.{lt-ltb, le-ltb}
use Rattle.std.proofs.lemmas.List.Elements.{All-weaker}
use Rattle.tact_base.specs.Setup.{peers_of}
use Rattle.tact_base.specs.declared.conit_list.Weight.{Weight}
use Rattle.tact_base.specs.declared.conit_list.Need.{Need}
use Rattle.tact_base.specs.declared.write.Op.{Op}
use Rattle.run_model.specs.Histories.{moment_at}
use Rattle.run_model.specs.Missing.{greater_missing, reserved}
use Rattle.run_model.specs.OwnWrites.{accepted_as}
use Rattle.run_model.specs.Ranges.{IsWeightInRange}
use Rattle.run_model.specs.Replies.{first_some, refusal, weight_refusal, done, reply_of}
use Rattle.run_model.specs.declared.call.Reply.{Reply}
use Rattle.run_model.specs.declared.call.Reply.TheVariants as reply
use Rattle.run_model.specs.declared.call.Request.{Request}
use Rattle.run_model.specs.declared.call.Request.TheVariants as request
use Rattle.run_model.specs.declared.entry.Entry.{Entry}
use Rattle.run_promises.proofs.PartSound.{PartSound-part}
use Rattle.run_promises.proofs.SharesWrites.{peers_refuse, weights_refuse}
use Rattle.replica_core.specs.Calling.{MayAsk, Answers, refusal_of, reserve_refusal, accepted}
use Rattle.replica_core.specs.States.{Core, IsKept, with_call, next_write, entered}
use Rattle.replica_core.specs.Reading.{read_reply}
use Rattle.replica_core.specs.Stands.{Stands}
use Rattle.replica_core.proofs.Accepting.{accepts_as, accepts_as-part, Stands-accepted}
use Rattle.replica_core.proofs.QuietEntries.{reserved-same}
use Rattle.replica_core.proofs.Called.{IsRefusal, entry, Stands-refused, Stands-reserved, reserved-more, reserved-less}
use Rattle.replica_core.proofs.Reading.{read_reply-part}
use Rattle.replica_core.proofs.Refusals.{weights_refusal-part, reserve_refusal-part}

-- an answer, by what it is and what it leaves
pub Answers-is : (old new left : Core) (handed client : ℕ) (asked : Request) (given said : Reply)
    → left ≡ new
    → said ≡ given
    → Answers old new handed client asked given
    → Answers old left handed client asked said
Answers-is old new left handed client asked given said leaves says answers =
    subst (λ (core : Core). Answers old core handed client asked said) (sym leaves)
    (subst (λ (reply : Reply). Answers old new handed client asked reply) (sym says) answers)

module _ (core : Core) (kept : IsKept core) (handed client : ℕ) where
  -- a refusal that is due
  refused : (asked : Request)
      → MayAsk core handed client asked
      → (given : Reply)
      → ((part : List Entry) → Stands part core → given ≡ reply_of core.setup core.replica part (moment_at part handed) asked)
      → ((part : List Entry) → Stands part core → IsRefusal asked given)
      → Answers core (entered (with_call core client) handed) handed client asked given
  refused asked may given due refuses part stands =
      (due part stands, Stands-refused part core stands kept.places handed client asked may given (due part stands) (refuses part stands))

  -- a read, whatever is answered
  pub read_answered : (key : ℕ) (needs : List Need)
      → MayAsk core handed client (request.Read key needs)
      → Answers core (entered (with_call core client) handed) handed client (request.Read key needs) (read_reply core (max handed core.counts.last) key needs)
  read_answered key needs may = refused (request.Read key needs) may (read_reply core (max handed core.counts.last) key needs)
      (λ part stands.
      ap (λ (last : ℕ). read_reply core (max handed last) key needs) stands.counts.last
      ∙ read_reply-part part core stands kept.budgets (moment_at part handed) key needs may.in_range.1.each)
      (λ part stands. record { accepts = λ replica moment. refl; grants = λ conit. refl; uses = λ conit. refl })

  -- Of a write.
  module _ (weights : List Weight) (op : Op) (may : MayAsk core handed client (request.Write weights op)) where
    conits_in : All (λ (weight : Weight). weight.conit < core.setup.conits) weights
    conits_in = All-weaker (IsWeightInRange core.setup) (λ (weight : Weight). weight.conit < core.setup.conits) (λ weight in_range. in_range.conit) weights may.in_range.0.each

    refusals : (part : List Entry)
        → Stands part core
        → first_some (refusal_of core.budgets) weights ≡ first_some (weight_refusal core.setup core.replica part) weights
    refusals part stands =
        weights_refusal-part core.setup core.replica part core.budgets stands.budgets kept.budgets.setup kept.budgets.replica
        (PartSound-part core.setup core.replica part stands.is_part).in_order weights conits_in

    pub write_refused : (given : Reply)
        → first_some (refusal_of core.budgets) weights ≡ Some given
        → Answers core (entered (with_call core client) handed) handed client (request.Write weights op) given
    write_refused given is = refused (request.Write weights op) may given
        (λ part stands. sym (ap (λ (first : Option Reply). unwrap_or first (done core.replica part)) (sym (refusals part stands) ∙ is)))
        (λ part stands.
        let refuses = weights_refuse core.setup core.replica part weights given (sym (refusals part stands) ∙ is) in
        record {
          accepts = λ replica moment. ap (accepted_as replica moment (Some (weights, op))) refuses.accepts;
          grants = λ conit. refl;
          uses = λ conit. refl;
        })

    pub write_accepted : first_some (refusal_of core.budgets) weights ≡ None
        → Answers core (entered (accepted core client (next_write core handed weights op) None) handed) handed client (request.Write weights op)
        (reply.Done (length (get_or core.writes.logs core.replica [])) (core.writes.clock + 1))
    write_accepted none part stands =
        let due : accepts_as part core stands kept.places ≡ reply_of core.setup core.replica part (moment_at part handed) (request.Write weights op) =
        accepts_as-part part core stands kept.places ∙ sym (ap (λ (first : Option Reply). unwrap_or first (done core.replica part)) (sym (refusals part stands) ∙ none)) in (
          due,
          Stands-accepted part core stands kept.places handed client (request.Write weights op) may due weights op refl None
              (reserved-same core.setup core.replica part (entry part core stands kept.places handed client (request.Write weights op) may _ due) core.budgets
              stands.budgets refl (λ conit. refl) (λ conit. refl)),
        )

  -- Of an amount on a conit that is asked for.
  module _ (conit amount : ℕ) (sized : length core.budgets.reserved ≡ core.setup.conits) where
    abbrev held : ℕ
    held = get_or core.budgets.reserved conit 0

    -- where less is reserved, and where so much is
    less : (part : List Entry)
        → Stands part core
        → conit < core.setup.conits
        → held < amount
        → nat_lt (reserved part conit) amount ≡ true
    less part stands within below = lt-ltb _ _ (omega (arith, below, stands.budgets.reserved conit within))

    enough : (part : List Entry)
        → Stands part core
        → conit < core.setup.conits
        → amount ≤ held
        → nat_lt (reserved part conit) amount ≡ false
    enough part stands within covered = le-ltb _ _ (omega (arith, covered, stands.budgets.reserved conit within))

    pub release_refused : MayAsk core handed client (request.Release conit amount)
        → held < amount
        → Answers core (entered (with_call core client) handed) handed client (request.Release conit amount) (reply.NotHeld conit held amount)
    release_refused may below = refused (request.Release conit amount) may (reply.NotHeld conit held amount)
        (λ part stands.
        ap (λ (n : ℕ). reply.NotHeld conit n amount) (stands.budgets.reserved conit may.in_range.0)
        ∙ sym (ap (λ (yes : Bool). cond yes (reply.NotHeld conit (reserved part conit) amount) reply.Released) (less part stands may.in_range.0 below)))
        (λ part stands. record { accepts = λ replica moment. refl; grants = λ conit. refl; uses = λ conit. refl })

    pub released : MayAsk core handed client (request.Release conit amount)
        → amount ≤ held
        → Answers core (entered (record (with_call core client) { budgets = record core.budgets { reserved = set core.budgets.reserved conit (held - amount) } }) handed) handed client
        (request.Release conit amount) reply.Released
    released may covered part stands =
        let due : reply.Released ≡ reply_of core.setup core.replica part (moment_at part handed) (request.Release conit amount) =
        sym (ap (λ (yes : Bool). cond yes (reply.NotHeld conit (reserved part conit) amount) reply.Released) (enough part stands may.in_range.0 covered)) in (
          due,
          Stands-reserved part core stands kept.places handed client (request.Release conit amount) may reply.Released due refl (set core.budgets.reserved conit (held - amount))
              (reserved-less part core stands kept.places handed client (request.Release conit amount) may reply.Released due conit amount may.in_range.0 sized (λ at. refl) (λ at. refl)),
        )

    -- of one to be reserved
    module _ (may : MayAsk core handed client (request.Reserve conit amount)) where
      abbrev refusal_in : List Entry → Option Reply
      refusal_in part = first_some (λ peer. refusal core.setup core.replica part conit peer amount (greater_missing core.replica part peer conit)) (peers_of core.setup core.replica)

      refusal_is : (part : List Entry)
          → Stands part core
          → reserve_refusal core.budgets conit amount ≡ refusal_in part
      refusal_is part stands =
          reserve_refusal-part core.setup core.replica part core.budgets stands.budgets kept.budgets.setup kept.budgets.replica
          (PartSound-part core.setup core.replica part stands.is_part).in_order conit amount may.in_range.0

      pub reserve_refused : (given : Reply)
          → reserve_refusal core.budgets conit amount ≡ Some given
          → Answers core (entered (with_call core client) handed) handed client (request.Reserve conit amount) given
      reserve_refused given is = refused (request.Reserve conit amount) may given
          (λ part stands. sym (ap (λ (first : Option Reply). unwrap_or first reply.Granted) (sym (refusal_is part stands) ∙ is)))
          (λ part stands.
          let refuses = peers_refuse core.setup core.replica part conit amount (λ peer. greater_missing core.replica part peer conit) given (sym (refusal_is part stands) ∙ is) in
          record { accepts = λ replica moment. refl; grants = λ at. refuses.grants at conit amount; uses = λ at. refl })

      pub granted : reserve_refusal core.budgets conit amount ≡ None
          → Answers core (entered (record (with_call core client) { budgets = record core.budgets { reserved = set core.budgets.reserved conit (held + amount) } }) handed) handed client
          (request.Reserve conit amount) reply.Granted
      granted none part stands =
          let due : reply.Granted ≡ reply_of core.setup core.replica part (moment_at part handed) (request.Reserve conit amount) =
          sym (ap (λ (first : Option Reply). unwrap_or first reply.Granted) (sym (refusal_is part stands) ∙ none)) in (
            due,
            Stands-reserved part core stands kept.places handed client (request.Reserve conit amount) may reply.Granted due refl (set core.budgets.reserved conit (held + amount))
                (reserved-more part core stands kept.places handed client (request.Reserve conit amount) may reply.Granted due conit amount may.in_range.0 sized (λ at. refl) (λ at. refl)),
          )

  -- Of a held write.
  module _ (weight : Weight) (op : Op) (may : MayAsk core handed client (request.Held weight op)) (sized : length core.budgets.reserved ≡ core.setup.conits) where
    abbrev size : ℕ
    size = unsigned_abs weight.nweight

    abbrev held_there : ℕ
    held_there = get_or core.budgets.reserved weight.conit 0

    pub held_refused : held_there < size
        → Answers core (entered (with_call core client) handed) handed client (request.Held weight op) (reply.NotHeld weight.conit held_there size)
    held_refused below = refused (request.Held weight op) may (reply.NotHeld weight.conit held_there size)
        (λ part stands.
        ap (λ (n : ℕ). reply.NotHeld weight.conit n size) (stands.budgets.reserved weight.conit may.in_range.0.conit)
        ∙ sym (ap (λ (yes : Bool). cond yes (reply.NotHeld weight.conit (reserved part weight.conit) size) (done core.replica part))
        (less weight.conit size sized part stands may.in_range.0.conit below)))
        (λ part stands. record { accepts = λ replica moment. refl; grants = λ conit. refl; uses = λ conit. refl })

    pub held_accepted : size ≤ held_there
        → Answers core (entered (accepted core client (next_write core handed (weight ∷ []) op) (Some weight)) handed) handed client (request.Held weight op)
        (reply.Done (length (get_or core.writes.logs core.replica [])) (core.writes.clock + 1))
    held_accepted covered part stands =
        let due : accepts_as part core stands kept.places ≡ reply_of core.setup core.replica part (moment_at part handed) (request.Held weight op) =
        accepts_as-part part core stands kept.places
        ∙ sym (ap (λ (yes : Bool). cond yes (reply.NotHeld weight.conit (reserved part weight.conit) size) (done core.replica part))
        (enough weight.conit size sized part stands may.in_range.0.conit covered)) in (
          due,
          Stands-accepted part core stands kept.places handed client (request.Held weight op) may due (weight ∷ []) op refl (Some weight)
              (reserved-less part core stands kept.places handed client (request.Held weight op) may _ due weight.conit size may.in_range.0.conit sized (λ at. refl) (λ at. refl)),
        )
