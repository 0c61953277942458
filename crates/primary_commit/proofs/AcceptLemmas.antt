-- What a peer keeps where it accepts.
use Rattle.std.proofs.Common.{◌≡◌, ◌==◌, ℕ, zero, suc, ◌<◌, List, [], ◌∷◌, ◌++◌, length, get_or, set, if◌then◌else◌, refl, sym, ap, ap₂, ◌∙◌, subst, ⊎_elim, arith}
use Rattle.std.proofs.lemmas.Bool.{cases_eq}
use Rattle.std.proofs.lemmas.Bool.Decides.{eqb_tells}
use Rattle.std.proofs.lemmas.List.{append-nil, length-set, get_or-set_same, get_or-set_other}
use Rattle.tact_base.specs.declared.write.Op.{Op}
use Rattle.primary_commit.specs.Peers.{PeerState, accepted_item, after_accept, have, log_of, numbered, pick_of, primary}
use Rattle.primary_commit.specs.declared.items.Item.{Item}
use Rattle.primary_commit.specs.declared.items.Pick.{Pick}
use Rattle.primary_commit.proofs.SettledLemmas.{AreAt, Grows}

pub none_at : (origin first : ℕ) → AreAt origin first []
none_at origin first index none within = absurd (omega (arith, within))

pub one_at : (origin : ℕ) (item : Item) → item.origin ≡ origin → AreAt origin item.index (item ∷ [])
one_at origin item of zero none within = (of, omega arith)
one_at origin item of (suc index) none within = absurd (omega (arith, within))

-- The own log gets the item, and the others stay.
module _ (peer : PeerState) (op : Op) (among : peer.replica < length peer.logs) where
  grown_log : (origin : ℕ) → (rest : List Item) × (log_of (after_accept peer op) origin ≡ log_of peer origin ++ rest) × AreAt origin (have peer origin) rest
  grown_log origin =
      let item = accepted_item peer op in
      ⊎_elim
      (λ own. (
        item ∷ [],
        ap (log_of (after_accept peer op)) own ∙ get_or-set_same peer.logs peer.replica (log_of peer peer.replica ++ item ∷ []) [] among
            ∙ ap (λ (o : ℕ). log_of peer o ++ item ∷ []) (sym own),
        subst (λ (o : ℕ). AreAt o (have peer o) (item ∷ [])) (sym own) (one_at peer.replica item refl),
      ))
      (λ other. (
        [],
        get_or-set_other peer.logs peer.replica origin (log_of peer peer.replica ++ item ∷ []) [] other ∙ sym (append-nil (log_of peer origin)),
        none_at origin (have peer origin),
      ))
      (cases_eq origin peer.replica)

  grown_told : (rest : List Pick) × (numbered peer (accepted_item peer op ∷ []) ≡ peer.told ++ rest)
  grown_told =
      ⊎_elim (λ own. (pick_of (accepted_item peer op) ∷ [], rw own.0 refl))
      (λ other. ([], rw other.0 (sym (append-nil peer.told))))
      (eqb_tells peer.replica primary)

  pub accept_grows : Grows peer (after_accept peer op)
  accept_grows = record {
    replica = refl;
    sized = length-set peer.logs peer.replica (log_of peer peer.replica ++ accepted_item peer op ∷ []);
    logs = grown_log;
    told = grown_told;
  }

-- what is put there is the item
module _ (peer : PeerState) (op : Op) (index : ℕ) (is : index ≡ have peer peer.replica) where
  pub accepted_logs : (before after : List (List Item))
      → before ≡ peer.logs
      → after ≡ set before peer.replica (get_or before peer.replica [] ++ record { origin = peer.replica; index = index; op = op } ∷ [])
      → after ≡ (after_accept peer op).logs
  accepted_logs before after same grew =
      grew ∙ ap₂ (λ (logs : List (List Item)) (i : ℕ). set logs peer.replica (get_or logs peer.replica [] ++ record { origin = peer.replica; index = i; op = op } ∷ [])) same is

  pub accepted_told : (before after : List Pick)
      → before ≡ peer.told
      → after ≡ (if peer.replica == primary then before ++ record { origin = peer.replica; index = index } ∷ [] else before)
      → after ≡ (after_accept peer op).told
  accepted_told before after same grew =
      grew ∙ ap₂ (λ (told : List Pick) (i : ℕ). if peer.replica == primary then told ++ record { origin = peer.replica; index = i } ∷ [] else told) same is
