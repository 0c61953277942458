-- The messages that each replica sent, while the history grows, and while one of them is taken.
use Rattle.std.proofs.Common.{◌≡◌, ℕ, ◌<◌, List, [], ◌∷◌, ◌++◌, length, get_or, set, map, Contains, None, Some, refl, sym, ap, ◌∙◌, ⊎_elim, get_or-set_same, get_or-set_other, subst, arith}
use Rattle.std.specs.List.{slice_get}
use Rattle.std.specs.Option.{option_map}
use Rattle.std.proofs.lemmas.Bool.{cases_eq}
use Rattle.std.proofs.lemmas.List.{length_push, length-map, length-set, map_push, map-set, get_or_push, set-get_or}
use Rattle.std.proofs.lemmas.Option.{same_Some, slice_get-map, slice_get-get_or, slice_get_within, get_or_from_slice_get}
use Rattle.tact_base.specs.Setup.{Setup}
use Rattle.run_model.specs.Histories.{part_of, sent_in}
use Rattle.run_model.specs.declared.entry.Act.{Act}
use Rattle.run_model.specs.declared.entry.Act.TheVariants as act
use Rattle.run_model.specs.declared.entry.Entry.{Entry}
use Rattle.run_model.specs.declared.entry.Message.{Message}
use Rattle.run_model.proofs.PartLemmas.{sent_by, part_of-push_same, part_of-push_other, sent_in-push_none, sent_in-push_some}
use Rattle.script_run.specs.Stages.{AreSent, acts_of}

-- One more entry of a history.
module _ (history : List Entry) (entry : Entry) (setup : Setup) (sent : List (List Entry)) (are : AreSent setup history sent) where
  abbrev longer : List Entry
  longer = history ++ entry ∷ []

  -- of another replica
  other_stays : (from : ℕ)
      → from < setup.replicas
      → (entry.replica ≡ from → ⊥)
      → acts_of (get_or sent from []) ≡ map act.Take (sent_in (part_of longer from))
  other_stays from within other =
      are from within ∙ ap (λ (part : List Entry). map act.Take (sent_in part)) (sym (part_of-push_other history entry from other))

  -- an entry that sends nothing
  pub sent_stay : sent_by entry ≡ None
      → AreSent setup longer sent
  sent_stay none from within = ⊎_elim
      (λ (same : entry.replica ≡ from).
      are from within
      ∙ ap (map act.Take) (sym (sent_in-push_none (part_of history from) entry none))
      ∙ ap (λ (part : List Entry). map act.Take (sent_in part)) (sym (part_of-push_same history entry from same)))
      (λ (other : entry.replica ≡ from → ⊥). other_stays from within other)
      (cases_eq entry.replica from)

  -- and one that sends a message, of which the taking is kept
  pub sent_more : (message : Message) (taking : Entry)
      → taking.act ≡ act.Take message
      → sent_by entry ≡ Some message
      → entry.replica < setup.replicas
      → entry.replica < length sent
      → AreSent setup longer (set sent entry.replica (get_or sent entry.replica [] ++ taking ∷ []))
  sent_more message taking takes some known inside from within = ⊎_elim
      (λ (same : entry.replica ≡ from). subst (λ r. acts_of (get_or grown r []) ≡ map act.Take (sent_in (part_of longer r))) same here)
      (λ (other : entry.replica ≡ from → ⊥).
      ap acts_of (get_or-set_other sent entry.replica from more [] (λ same. other (sym same))) ∙ other_stays from within other)
      (cases_eq entry.replica from)
    where
      more : List Entry
      more = get_or sent entry.replica [] ++ taking ∷ []

      grown : List (List Entry)
      grown = set sent entry.replica more

      messages : List Message
      messages = sent_in (part_of history entry.replica)

      here : acts_of (get_or grown entry.replica []) ≡ map act.Take (sent_in (part_of longer entry.replica))
      here =
          ap acts_of (get_or-set_same sent entry.replica more [] inside)
          ∙ map_push (λ (e : Entry). e.act) (get_or sent entry.replica []) taking
          ∙ ap (λ (a : Act). acts_of (get_or sent entry.replica []) ++ a ∷ []) takes
          ∙ ap (λ (acts : List Act). acts ++ act.Take message ∷ []) (are entry.replica known)
          ∙ sym (map_push act.Take messages message)
          ∙ ap (map act.Take) (sym (sent_in-push_some (part_of history entry.replica) entry message some))
          ∙ ap (λ (part : List Entry). map act.Take (sent_in part)) (sym (part_of-push_same history entry entry.replica refl))

-- as many takings as messages
pub as_many_sent : (box : List Entry) (messages : List Message)
    → acts_of box ≡ map act.Take messages
    → length box ≡ length messages
as_many_sent box messages are = sym (length-map box (λ (e : Entry). e.act)) ∙ ap length are ∙ length-map messages act.Take

-- A message is in its place.
module _ (box : List Entry) (messages : List Message) (number : ℕ) (message : Message) (are : acts_of box ≡ map act.Take messages)
    (named : slice_get messages number ≡ Some message) where
  pub is_within : number < length box
  is_within = omega (arith, slice_get_within messages number message named, as_many_sent box messages are)

  -- within the entry of its taking
  pub taking_of : (taking : Entry)
      → slice_get box number ≡ Some taking
      → taking.act ≡ act.Take message
  taking_of taking found =
      same_Some taking.act (act.Take message)
      (sym (ap (option_map (λ (e : Entry). e.act)) found)
      ∙ sym (slice_get-map (λ (e : Entry). e.act) box number)
      ∙ ap (λ (acts : List Act). slice_get acts number) are
      ∙ slice_get-map act.Take messages number
      ∙ ap (option_map act.Take) named)

-- A taking is dated: all messages are as before.
module _ (sent : List (List Entry)) (from number replica moment : ℕ) (taking : Entry) (inside : from < length sent)
    (there : slice_get (get_or sent from []) number ≡ Some taking) where
  abbrev dated : Entry
  dated = record taking { replica = replica; moment = moment }

  abbrev box : List Entry
  box = get_or sent from []

  abbrev dated_box : List Entry
  dated_box = set box number dated

  abbrev all_dated : List (List Entry)
  all_dated = set sent from dated_box

  same_acts : acts_of dated_box ≡ acts_of box
  same_acts =
      map-set (λ (e : Entry). e.act) box number dated
      ∙ ap (set (acts_of box) number)
      (sym (get_or_from_slice_get (acts_of box) number taking.act act.Restart (slice_get-map (λ (e : Entry). e.act) box number ∙ ap (option_map (λ (e : Entry). e.act)) there)))
      ∙ set-get_or (acts_of box) number act.Restart

  pub as_many_boxes : length all_dated ≡ length sent
  as_many_boxes = length-set sent from dated_box

  pub as_many_takings : length (get_or all_dated from []) ≡ length box
  as_many_takings = ap length (get_or-set_same sent from dated_box [] inside) ∙ length-set box number dated

  pub still_sent : (setup : Setup) (history : List Entry)
      → AreSent setup history sent
      → AreSent setup history all_dated
  still_sent setup history are at within = ⊎_elim
      (λ (same : from ≡ at). subst (λ r. acts_of (get_or all_dated r []) ≡ map act.Take (sent_in (part_of history r))) same
      (ap acts_of (get_or-set_same sent from dated_box [] inside) ∙ same_acts ∙ are from (subst (λ r. r < setup.replicas) (sym same) within)))
      (λ (other : from ≡ at → ⊥). ap acts_of (get_or-set_other sent from at dated_box [] (λ same. other (sym same))) ∙ are at within)
      (cases_eq from at)

  -- and this one is dated
  pub is_dated : (found : Entry)
      → slice_get (get_or all_dated from []) number ≡ Some found
      → found ≡ dated
  is_dated found found_is =
      same_Some found dated
      (sym found_is
      ∙ ap (λ (b : List Entry). slice_get b number) (get_or-set_same sent from dated_box [] inside)
      ∙ slice_get-get_or dated_box number dated within_dated
      ∙ ap Some (get_or-set_same box number dated dated within))
    where
      within : number < length box
      within = slice_get_within box number taking there

      within_dated : number < length dated_box
      within_dated = omega (arith, within, length-set box number dated)

-- the last of a list that grew at its end
pub last_is : {A : Type 0} (xs : List A) (x : A)
    → slice_get (xs ++ x ∷ []) (length xs) ≡ Some x
last_is xs x =
    slice_get-get_or (xs ++ x ∷ []) (length xs) x (omega (arith, length_push xs x))
    ∙ ap Some (get_or_push xs x x (length xs) refl)

pub last_in : (messages : List Message) (message : Message)
    → Contains (messages ++ message ∷ []) message
last_in messages message = (
  length messages,
  omega (arith, length_push messages message),
  get_or_push messages message message (length messages) refl,
)
