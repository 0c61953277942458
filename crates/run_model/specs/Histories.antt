-- Histories and parts: what happened, in order, and what one replica did of it.
use Rattle.std.specs.Prelude.{◌≡◌, ℕ, ◌==◌, Bool, false, max, List, ◌∷◌, ◌++◌, filter, fold, length, Option, None, Some}
use Rattle.std.specs.List.{filter_map}
use Rattle.run_model.specs.declared.entry.Act.{Act}
use Rattle.run_model.specs.declared.entry.Act.TheVariants.{Call, Send, Take}
use Rattle.run_model.specs.declared.entry.Entry.{Entry}
use Rattle.run_model.specs.declared.entry.Message.{Message}

-- the part of a replica in a history: its entries, in order
abbrev pub part_of : List Entry → ℕ → List Entry
part_of history replica = filter (λ entry. entry.replica == replica) history

-- the moment of the last entry of a part, 0 where it has none
abbrev pub last_moment : List Entry → ℕ
last_moment part = fold (λ before entry. entry.moment) 0 part

-- the moment of the entry that follows a part, where t is handed
abbrev pub moment_at : List Entry → ℕ → ℕ
moment_at part t = max t (last_moment part)

-- the message that an entry sends, and the one that it takes
abbrev pub sent_by_act : Act → Option Message
sent_by_act (Send message) = Some message
sent_by_act other = None

abbrev pub taken_by_act : Act → Option Message
taken_by_act (Take message) = Some message
taken_by_act other = None

-- the messages that a part sends, in order of their numbers
abbrev pub sent_in : List Entry → List Message
sent_in part = filter_map (λ entry. sent_by_act entry.act) part

-- the messages that a part takes, in order
abbrev pub taken_in : List Entry → List Message
taken_in part = filter_map (λ entry. taken_by_act entry.act) part

-- of these, the ones from one sender
abbrev pub taken_from : List Entry → ℕ → List Message
taken_from part sender = filter (λ message. message.from == sender) (taken_in part)

-- whether an act is a call of a client
abbrev pub is_call_of : ℕ → Act → Bool
is_call_of client (Call caller number request reply) = caller == client
is_call_of client other = false

-- the calls of a client that a history has at a replica
abbrev pub calls_of : List Entry → ℕ → ℕ → List Entry
calls_of history replica client = filter (λ entry. is_call_of client entry.act) (part_of history replica)

-- how many calls of a client a part has
abbrev pub calls_in : List Entry → ℕ → ℕ
calls_in part client = length (filter (λ entry. is_call_of client entry.act) part)

-- the greatest of numbers, 0 where there is none
abbrev pub greatest : List ℕ → ℕ
greatest numbers = fold max 0 numbers

-- a list is the beginning of another
abbrev pub IsPrefix : {A : Type 0} → List A → List A → Type 0
IsPrefix {A} front whole = (rest : List A) × (whole ≡ front ++ rest)

-- R holds of each item and those before it
abbrev pub EachAfter : {A : Type 0} → (List A → A → Type 0) → List A → Type 0
EachAfter {A} R items = (before after : List A) (item : A) → items ≡ before ++ item ∷ after → R before item
