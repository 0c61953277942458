-- What one more entry does to what is lent and returned, and to what is known of either.
use Rattle.std.proofs.Common.{◌≡◌, ℕ, ◌+◌, ◌≤◌, ◌==◌, max, List, [], ◌∷◌, ◌++◌, map, filter, Option, None, Some, refl, ap, ◌∙◌, arith, ⊎_elim}
use Rattle.std.proofs.lemmas.Bool.{cases_eq, eq-eqb, ne_eqb}
use Rattle.std.proofs.lemmas.List.{map-append}
use Rattle.std.proofs.lemmas.List.Elements.{filter-append}
use Rattle.std.proofs.lemmas.List.Sums.{sum_by_push}
use Rattle.tact_base.specs.Setup.{Setup}
use Rattle.run_model.specs.Histories.{part_of, taken_in, taken_from, greatest}
use Rattle.run_model.specs.Loans.{lent, returned, lent_by_act, returned_by_act}
use Rattle.run_model.specs.declared.entry.Entry.{Entry}
use Rattle.run_model.specs.declared.entry.Message.{Message}
use Rattle.run_model.proofs.PartLemmas.{taken_by, taken_in-push_none, taken_in-push_some, greatest-append, part_of-push_cases}

-- the greatest number that a peer told
abbrev pub most_told : (Message → ℕ) → List Entry → ℕ → ℕ
most_told tells part peer = greatest (map tells (taken_from part peer))

-- One more entry of a part.
module _ (part : List Entry) (entry : Entry) where
  pub lent-push : (setup : Setup) (replica holder conit : ℕ)
      → lent setup replica (part ++ entry ∷ []) holder conit ≡ lent setup replica part holder conit + lent_by_act holder conit entry.act
  lent-push setup replica holder conit = omega (arith, sum_by_push (λ (e : Entry). lent_by_act holder conit e.act) part entry)

  pub returned-push : (owner conit : ℕ)
      → returned (part ++ entry ∷ []) owner conit ≡ returned part owner conit + returned_by_act owner conit entry.act
  returned-push owner conit = sum_by_push (λ (e : Entry). returned_by_act owner conit e.act) part entry

  -- what a peer told: nothing more where nothing is taken, or is taken of another
  module _ (tells : Message → ℕ) (peer : ℕ) where
    pub most_told-push_none : taken_by entry ≡ None
        → most_told tells (part ++ entry ∷ []) peer ≡ most_told tells part peer
    most_told-push_none none =
        ap (λ messages. greatest (map tells (filter (λ (m : Message). m.from == peer) messages))) (taken_in-push_none part entry none)

    taken_from-push : (message : Message)
        → taken_by entry ≡ Some message
        → taken_from (part ++ entry ∷ []) peer ≡ taken_from part peer ++ filter (λ (m : Message). m.from == peer) (message ∷ [])
    taken_from-push message some =
        ap (filter (λ (m : Message). m.from == peer)) (taken_in-push_some part entry message some)
        ∙ filter-append (λ (m : Message). m.from == peer) (taken_in part) (message ∷ [])

    pub most_told-push_some : (message : Message)
        → taken_by entry ≡ Some message
        → most_told tells (part ++ entry ∷ []) peer ≡ max (most_told tells part peer) (greatest (map tells (filter (λ (m : Message). m.from == peer) (message ∷ []))))
    most_told-push_some message some =
        ap (λ messages. greatest (map tells messages)) (taken_from-push message some)
        ∙ ap greatest (map-append tells (taken_from part peer) (filter (λ (m : Message). m.from == peer) (message ∷ [])))
        ∙ greatest-append (map tells (taken_from part peer)) (map tells (filter (λ (m : Message). m.from == peer) (message ∷ [])))

    -- it doesn't fall
    pub most_told-rises : most_told tells part peer ≤ most_told tells (part ++ entry ∷ []) peer
    most_told-rises = go (taken_by entry) refl
      where
        go : (taken : Option Message)
            → taken_by entry ≡ taken
            → most_told tells part peer ≤ most_told tells (part ++ entry ∷ []) peer
        go None none = omega (arith, most_told-push_none none)
        go (Some message) some = omega (arith, most_told-push_some message some)

    -- and is at most what it was at most before, where the message that is taken tells no more
    pub most_told-within : (most : ℕ)
        → most_told tells part peer ≤ most
        → ((message : Message) → taken_by entry ≡ Some message → message.from ≡ peer → tells message ≤ most)
        → most_told tells (part ++ entry ∷ []) peer ≤ most
    most_told-within most before each = go (taken_by entry) refl
      where
        told-within : (message : Message)
            → (message.from ≡ peer → tells message ≤ most)
            → greatest (map tells (filter (λ (m : Message). m.from == peer) (message ∷ []))) ≤ most
        told-within message within = ⊎_elim
            (λ (same : message.from ≡ peer). rw (eq-eqb message.from peer same) (omega (arith, within same)))
            (λ (other : message.from ≡ peer → ⊥). rw (ne_eqb message.from peer other) (omega arith))
            (cases_eq message.from peer)

        go : (taken : Option Message)
            → taken_by entry ≡ taken
            → most_told tells (part ++ entry ∷ []) peer ≤ most
        go None none = omega (arith, most_told-push_none none, before)
        go (Some message) some = omega (arith, most_told-push_some message some, before, told-within message (each message some))

-- One more entry of a history: what is lent and returned doesn't fall.
module _ (history : List Entry) (entry : Entry) where
  pub lent-rises : (setup : Setup) (owner holder conit : ℕ)
      → lent setup owner (part_of history owner) holder conit ≤ lent setup owner (part_of (history ++ entry ∷ []) owner) holder conit
  lent-rises setup owner holder conit =
      part_of-push_cases history entry (λ r part. lent setup r (part_of history r) holder conit ≤ lent setup r part holder conit)
      (omega (arith, lent-push (part_of history entry.replica) entry setup entry.replica holder conit)) (λ r. omega arith) owner

  pub returned-rises : (holder owner conit : ℕ)
      → returned (part_of history holder) owner conit ≤ returned (part_of (history ++ entry ∷ []) holder) owner conit
  returned-rises holder owner conit =
      part_of-push_cases history entry (λ r part. returned (part_of history r) owner conit ≤ returned part owner conit)
      (omega (arith, returned-push (part_of history entry.replica) entry owner conit)) (λ r. omega arith) holder
