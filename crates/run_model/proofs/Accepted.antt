-- A write that a part accepts has the next index and the next stamp.
use Rattle.std.proofs.Common.{◌≡◌, ℕ, ◌+◌, Bool, true, false, cond, nat_lt, List, [], ◌∷◌, length, Option, None, Some, unwrap_or, unsigned_abs, refl, sym, ap, ◌∙◌, subst}
use Rattle.std.specs.List.{slice_get, filter_map, cons_option}
use Rattle.std.proofs.lemmas.Bool.{eq-eqb, ne_eqb}
use Rattle.std.proofs.lemmas.Option.{same_Some, some_pair_parts}
use Rattle.tact_base.specs.Shares.{fit_of}
use Rattle.tact_base.specs.declared.conit_list.Weight.{Weight}
use Rattle.tact_base.specs.declared.fit.Fit.{Fit}
use Rattle.tact_base.specs.declared.fit.Fit.TheVariants as fit
use Rattle.tact_base.specs.declared.write.Op.{Op}
use Rattle.tact_base.specs.declared.write.Write.{Write}
use Rattle.tact_base.specs.Setup.{Setup, peers_of}
use Rattle.run_model.specs.OwnWrites.{own, asked_write, done_as, accepted_as, accepted_by}
use Rattle.run_model.specs.Taking.{origin_state, log_of, have, clock}
use Rattle.run_model.specs.Missing.{reserved}
use Rattle.run_model.specs.Loans.{share}
use Rattle.run_model.specs.Replies.{first_some, refused_as, refusal, weight_refusal, missing_of_sign, done, reply_of}
use Rattle.run_model.specs.Runs.{IsDue, IsActDue}
use Rattle.run_model.specs.declared.call.Request.{Request}
use Rattle.run_model.specs.declared.call.Request.TheVariants as request
use Rattle.run_model.specs.declared.call.Reply.{Reply}
use Rattle.run_model.specs.declared.call.Reply.TheVariants as reply
use Rattle.run_model.specs.declared.entry.Act.{Act}
use Rattle.run_model.specs.declared.entry.Act.TheVariants as act
use Rattle.run_model.specs.declared.entry.Entry.{Entry}
use Rattle.run_model.proofs.PartLemmas.{accepted_in}

-- the write that a part of a replica accepts next, at a moment
pub record IsNext (replica : ℕ) (part : List Entry) (at : ℕ) (write : Write) : Type 0 where
  pub origin : write.origin ≡ replica
  pub index : write.index ≡ length (own part)
  pub stamp : write.stamp ≡ clock part + 1
  pub moment : write.moment ≡ at

-- the log of a replica itself, and of another
pub log_of-same : (replica : ℕ) (part : List Entry) → log_of replica part replica ≡ own part
log_of-same replica part = ap (λ yes. cond yes (own part) (origin_state part replica).log) (eq-eqb replica replica refl)

pub log_of-other : (replica : ℕ) (part : List Entry) (origin : ℕ)
    → (origin ≡ replica → ⊥)
    → log_of replica part origin ≡ (origin_state part origin).log
log_of-other replica part origin other = ap (λ yes. cond yes (own part) (origin_state part origin).log) (ne_eqb origin replica other)

-- what holds of each reply that a place may give holds of the first
pub first_some-each : {A : Type 0} (f : A → Option Reply) (P : Reply → Type 0)
    → ((item : A) (given : Reply) → f item ≡ Some given → P given)
    → (items : List A) (given : Reply)
    → first_some f items ≡ Some given
    → P given
first_some-each f P each [] given is = cc
first_some-each f P each (item ∷ items) given is = go (f item) refl (first_some-each f P each items given) is
  where
    go : (here : Option Reply)
        → f item ≡ here
        → (first_some f items ≡ Some given → P given)
        → slice_get (cons_option here (filter_map f items)) 0 ≡ Some given
        → P given
    go None is_here rest is = rest is
    go (Some found) is_here rest is = each item given (is_here ∙ is)

-- a refusal accepts nothing
refused_as-accepts_none : (conit : ℕ) (answer : Fit) (given : Reply)
    → refused_as conit answer ≡ Some given
    → done_as given ≡ None
refused_as-accepts_none conit fit.Fits given is = cc
refused_as-accepts_none conit (fit.TooHeavy peer weight share) given is = cc
refused_as-accepts_none conit (fit.WaitHeld peer reserved weight share) given is = cc
refused_as-accepts_none conit (fit.WaitShare peer missing reserved weight share) given is = cc

weight_refusal-accepts_none : (setup : Setup) (replica : ℕ) (part : List Entry) (weight : Weight) (given : Reply)
    → weight_refusal setup replica part weight ≡ Some given
    → done_as given ≡ None
weight_refusal-accepts_none setup replica part weight =
    first_some-each (λ peer. refusal setup replica part weight.conit peer (unsigned_abs weight.nweight) (missing_of_sign replica part peer weight.conit weight.nweight)) (λ given. done_as given ≡ None)
    (λ peer given. refused_as-accepts_none weight.conit
    (fit_of peer (share setup replica part peer weight.conit) (reserved part weight.conit) (missing_of_sign replica part peer weight.conit weight.nweight) (unsigned_abs weight.nweight)) given)
    (peers_of setup replica)

-- a reply that accepts nothing, or accepts with the next index and stamp
abbrev pub AcceptsNext : ℕ → List Entry → Reply → Type 0
AcceptsNext replica part given = (index stamp : ℕ) → done_as given ≡ Some (index, stamp) → (index ≡ length (own part)) × (stamp ≡ clock part + 1)

AcceptsNext-none : (replica : ℕ) (part : List Entry) (given : Reply)
    → done_as given ≡ None
    → AcceptsNext replica part given
AcceptsNext-none replica part given none index stamp some = cc

AcceptsNext-done : (replica : ℕ) (part : List Entry) → AcceptsNext replica part (done replica part)
AcceptsNext-done replica part index stamp some =
    let parts = some_pair_parts (have replica part replica) index (clock part + 1) stamp some in
    (sym parts.0 ∙ ap length (log_of-same replica part), sym parts.1)

AcceptsNext-write : (setup : Setup) (replica : ℕ) (part : List Entry) (weights : List Weight)
    → AcceptsNext replica part (unwrap_or (first_some (weight_refusal setup replica part) weights) (done replica part))
AcceptsNext-write setup replica part weights =
    go (first_some (weight_refusal setup replica part) weights)
    (first_some-each (weight_refusal setup replica part) (λ given. done_as given ≡ None) (weight_refusal-accepts_none setup replica part) weights)
  where
    go : (first : Option Reply)
        → ((given : Reply) → first ≡ Some given → done_as given ≡ None)
        → AcceptsNext replica part (unwrap_or first (done replica part))
    go None none = AcceptsNext-done replica part
    go (Some given) none = AcceptsNext-none replica part given (none given refl)

AcceptsNext-held : (replica : ℕ) (part : List Entry) (refused : Bool) (conit holds amount : ℕ)
    → AcceptsNext replica part (cond refused (reply.NotHeld conit holds amount) (done replica part))
AcceptsNext-held replica part true conit holds amount = AcceptsNext-none replica part (reply.NotHeld conit holds amount) refl
AcceptsNext-held replica part false conit holds amount = AcceptsNext-done replica part

-- an accepted write is the next one
accepted_as-next : (replica : ℕ) (part : List Entry) (at : ℕ) (asked : List Weight × Op) (given : Reply) (write : Write)
    → AcceptsNext replica part given
    → accepted_as replica at (Some asked) (done_as given) ≡ Some write
    → IsNext replica part at write
accepted_as-next replica part at asked given write next some = go (done_as given) next some
  where
    go : (numbers : Option (ℕ × ℕ))
        → ((index stamp : ℕ) → numbers ≡ Some (index, stamp) → (index ≡ length (own part)) × (stamp ≡ clock part + 1))
        → accepted_as replica at (Some asked) numbers ≡ Some write
        → IsNext replica part at write
    go None next some = cc
    go (Some numbers) next some =
        let is : record { origin = replica; index = numbers.0; stamp = numbers.1; moment = at; weights = asked.0; op = asked.1 } ≡ write = same_Some _ write some in
        let both = next numbers.0 numbers.1 refl in
        record {
          origin = sym (ap (λ (w : Write). w.origin) is);
          index = sym (ap (λ (w : Write). w.index) is) ∙ both.0;
          stamp = sym (ap (λ (w : Write). w.stamp) is)
              ∙ both.1;
          moment = sym (ap (λ (w : Write). w.moment) is);
        }

called_is_next : (setup : Setup) (replica : ℕ) (part : List Entry) (at : ℕ) (asked : Request) (given : Reply) (write : Write)
    → given ≡ reply_of setup replica part at asked
    → accepted_as replica at (asked_write asked) (done_as given) ≡ Some write
    → IsNext replica part at write
called_is_next setup replica part at (request.Write weights op) given write is some =
    accepted_as-next replica part at (weights, op) given write (subst (AcceptsNext replica part) (sym is) (AcceptsNext-write setup replica part weights)) some
called_is_next setup replica part at (request.Held weight op) given write is some =
    accepted_as-next replica part at (weight ∷ [], op) given write
    (subst (AcceptsNext replica part) (sym is)
    (AcceptsNext-held replica part (nat_lt (reserved part weight.conit) (unsigned_abs weight.nweight)) weight.conit (reserved part weight.conit) (unsigned_abs weight.nweight))) some
called_is_next setup replica part at (request.Reserve conit amount) given write is some = cc
called_is_next setup replica part at (request.Release conit amount) given write is some = cc
called_is_next setup replica part at (request.Read key needs) given write is some = cc

acted_is_next : (setup : Setup) (replica : ℕ) (part : List Entry) (at : ℕ) (done : Act) (write : Write)
    → IsActDue setup replica part at done
    → accepted_by replica at done ≡ Some write
    → IsNext replica part at write
acted_is_next setup replica part at (act.Call client number asked given) write (counted, is) some = called_is_next setup replica part at asked given write is some
acted_is_next setup replica part at (act.Send message) write due some = cc
acted_is_next setup replica part at (act.Take message) write due some = cc
acted_is_next setup replica part at (act.Lend to conit amount) write due some = cc
acted_is_next setup replica part at (act.Back owner conit amount) write due some = cc
acted_is_next setup replica part at act.Restart write due some = cc

pub accepted_is_next : (setup : Setup) (part : List Entry) (entry : Entry) (write : Write)
    → IsDue setup part entry
    → accepted_in entry ≡ Some write
    → IsNext entry.replica part entry.moment write
accepted_is_next setup part entry write due some = acted_is_next setup entry.replica part entry.moment entry.act write due.act some
