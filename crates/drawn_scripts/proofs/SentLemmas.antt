-- The messages of drawn lines, and the receivers by sender that a script keeps of them.
use Rattle.std.proofs.Common.{◌≡◌, ◌≢◌, ℕ, ◌+◌, ◌<◌, ◌≤◌, ◌==◌, ◌⊎◌, inl, inr, Bool, true, false, not, cond, List, [], ◌∷◌, ◌++◌, length, get_or, Option, Some, append-nil, refl, sym, ap, ◌∙◌, subst, arith, get_or-set_same}
use Rattle.std.specs.List.{All}
use Rattle.std.specs.Option.{option_map_or}
use Rattle.std.proofs.lemmas.Bool.{cases_eq, eq-eqb, ne_eqb}
use Rattle.std.proofs.lemmas.List.{get_or_push, get_or_append_left, get_or-set_other, length-set, length_push}
use Rattle.std.proofs.lemmas.List.Elements.{All-push, All-weaker, filter-append}
use Rattle.std.proofs.lemmas.List.Filters.{length-filter_both}
use Rattle.std.proofs.lemmas.Option.{slice_get-get_or}
use Rattle.script_text.specs.Sending.{with_sent, is_sent}
use Rattle.drawn_scripts.specs.Counting.{sent_from, IsAmongFour}
use Rattle.drawn_scripts.specs.DrawnScripts.{with_message}
use Rattle.drawn_scripts.specs.declared.sent.SentOne.{SentOne}

-- a message that the receivers by sender have
pub record IsThere (by : List (List ℕ)) (one : SentOne) : Type 0 where
  pub among : IsAmongFour one
  pub counted : one.number < length (get_or by one.from [])
  pub receiver : get_or (get_or by one.from []) one.number 0 ≡ one.to

-- receivers by sender that have all of these messages, and no more
pub record HasAll (sent : List SentOne) (by : List (List ℕ)) : Type 0 where
  pub size : length by ≡ 4
  pub counts : (from : ℕ) → from < 4 → length (get_or by from []) ≡ length (sent_from sent from)
  pub there : All (IsThere by) sent

-- a message that is there was sent
pub there_is_sent : (by : List (List ℕ)) (one : SentOne)
    → IsThere by one
    → is_sent by one.from one.number one.to ≡ true
there_is_sent by one is =
    ap (λ (found : Option ℕ). option_map_or (λ receiver. receiver == one.to) found false)
    (slice_get-get_or (get_or by one.from []) one.number 0 is.counted ∙ ap Some is.receiver)
    ∙ eq-eqb one.to one.to refl

-- no more messages of a sender than of all
pub sent_from-le : (sent : List SentOne) (from : ℕ) → length (sent_from sent from) ≤ length sent
sent_from-le sent from =
    omega (arith, length-filter_both (λ (one : SentOne). one.from == from) (λ one. not (one.from == from)) (λ one. refl) sent)

-- the messages of a sender, with one more message
pub sent_from-own : (sent : List SentOne) (from to : ℕ)
    → length (sent_from (with_message sent from to) from) ≡ length (sent_from sent from) + 1
sent_from-own sent from to =
    let more : SentOne = record { from = from; to = to; number = length (sent_from sent from) } in
    let same : sent_from (more ∷ []) from ≡ more ∷ [] = ap (λ (yes : Bool). cond yes (more ∷ []) []) (eq-eqb from from refl) in
    ap length (filter-append (λ (one : SentOne). one.from == from) sent (more ∷ []))
    ∙ ap (λ (list : List SentOne). length (sent_from sent from ++ list)) same
    ∙ length_push (sent_from sent from) more

pub sent_from-other : (sent : List SentOne) (from to sender : ℕ)
    → from ≢ sender
    → length (sent_from (with_message sent from to) sender) ≡ length (sent_from sent sender)
sent_from-other sent from to sender other =
    let more : SentOne = record { from = from; to = to; number = length (sent_from sent from) } in
    let none : sent_from (more ∷ []) sender ≡ [] = ap (λ (yes : Bool). cond yes (more ∷ []) []) (ne_eqb from sender other) in
    ap length (filter-append (λ (one : SentOne). one.from == sender) sent (more ∷ []))
    ∙ ap (λ (list : List SentOne). length (sent_from sent sender ++ list)) none
    ∙ ap length (append-nil (sent_from sent sender))

-- the receivers of a sender, with one more message
module _ (by : List (List ℕ)) (from to : ℕ) (from_in : from < length by) where
  own_receivers : get_or (with_sent by from to) from [] ≡ get_or by from [] ++ to ∷ []
  own_receivers = get_or-set_same by from (get_or by from [] ++ to ∷ []) [] from_in

  other_receivers : (sender : ℕ) → sender ≢ from → get_or (with_sent by from to) sender [] ≡ get_or by sender []
  other_receivers sender other = get_or-set_other by from sender (get_or by from [] ++ to ∷ []) [] other

  -- a message that is there stays
  stays_there : (one : SentOne) → IsThere by one → IsThere (with_sent by from to) one
  stays_there one is = go (cases_eq one.from from)
    where
      go : (one.from ≡ from) ⊎ (one.from ≢ from) → IsThere (with_sent by from to) one
      go (inl same) =
          let here : get_or (with_sent by from to) one.from [] ≡ get_or by one.from [] ++ to ∷ [] = rw same own_receivers in
          record {
            among = is.among;
            counted = subst (λ (list : List ℕ). one.number < length list) (sym here)
                (omega (arith, is.counted, length_push (get_or by one.from []) to));
            receiver = ap (λ (list : List ℕ). get_or list one.number 0) here
                ∙ get_or_append_left (get_or by one.from []) (to ∷ []) 0 one.number is.counted ∙ is.receiver;
          }
      go (inr other) =
          let here = other_receivers one.from other in
          record {
            among = is.among;
            counted = subst (λ (list : List ℕ). one.number < length list) (sym here) is.counted;
            receiver = ap (λ (list : List ℕ). get_or list one.number 0) here ∙ is.receiver;
          }

-- with one more message that there are receivers for
pub has_one_more : (sent : List SentOne) (by : List (List ℕ)) (from to : ℕ)
    → HasAll sent by
    → from < 4
    → to < 4
    → from ≢ to
    → HasAll (with_message sent from to) (with_sent by from to)
has_one_more sent by from to has from_in to_in others = record {
  size = length-set by from (get_or by from [] ++ to ∷ []) ∙ has.size;
  counts = counts;
  there = All-push (IsThere by') sent more (All-weaker (IsThere by) (IsThere by') (stays_there by from to within) sent has.there) more_there;
}
  where
    by' : List (List ℕ)
    by' = with_sent by from to

    more : SentOne
    more = record { from = from; to = to; number = length (sent_from sent from) }

    within : from < length by
    within = omega (arith, from_in, has.size)

    own : get_or by' from [] ≡ get_or by from [] ++ to ∷ []
    own = own_receivers by from to within

    counts : (sender : ℕ) → sender < 4 → length (get_or by' sender []) ≡ length (sent_from (with_message sent from to) sender)
    counts sender sender_in = go (cases_eq sender from)
      where
        go : (sender ≡ from) ⊎ (sender ≢ from)
            → length (get_or by' sender []) ≡ length (sent_from (with_message sent from to) sender)
        go (inl same) =
            rw same (ap length own ∙ length_push (get_or by from []) to ∙ ap (λ (n : ℕ). n + 1) (has.counts from from_in) ∙ sym (sent_from-own sent from to))
        go (inr other) =
            ap length (other_receivers by from to within sender other) ∙ has.counts sender sender_in
            ∙ sym (sent_from-other sent from to sender (λ same. other (sym same)))

    more_there : IsThere by' more
    more_there = record {
      among = record { from_in = from_in; to_in = to_in; others = others };
      counted = subst (λ (list : List ℕ). length (sent_from sent from) < length list) (sym own)
          (omega (arith, has.counts from from_in, length_push (get_or by from []) to));
      receiver = ap (λ (list : List ℕ). get_or list (length (sent_from sent from)) 0) own
          ∙ get_or_push (get_or by from []) to 0 (length (sent_from sent from)) (has.counts from from_in);
    }
