-- The clock is the greatest of the stamps of own writes and of those of the covers in taken messages.
use Rattle.std.proofs.Common.{◌≡◌, ℕ, ◌<◌, ◌≤◌, max, List, [], ◌∷◌, ◌++◌, length, map, flat_map, All, None, Some, ap, ap₂, ◌∙◌, subst, ⊎_elim, arith}
use Rattle.std.specs.List.{cons_option}
use Rattle.std.proofs.lemmas.Bool.{cases_lt}
use Rattle.std.proofs.lemmas.List.{map-append, append-nil, get_or_past}
use Rattle.std.proofs.lemmas.List.Concat.{flat_map-append}
use Rattle.std.proofs.lemmas.List.Elements.{All-head, All-weaker}
use Rattle.tact_base.proofs.ListLemmas.{All-append_right, All-from_map, All-from_flat_map}
use Rattle.tact_base.specs.declared.write.Cover.{Cover}
use Rattle.tact_base.specs.declared.write.Write.{Write}
use Rattle.run_model.specs.Histories.{taken_in, greatest}
use Rattle.run_model.specs.OwnWrites.{own}
use Rattle.tact_base.specs.Covers.{no_cover}
use Rattle.run_model.specs.Taking.{clock, told_cover}
use Rattle.run_model.specs.declared.entry.Entry.{Entry}
use Rattle.run_model.specs.declared.entry.Message.{Message}
use Rattle.run_model.proofs.PartLemmas.{accepted_in, taken_by, greatest-append, greatest-is_most, own-push, own-push_none, own-push_some, taken_in-push, taken_in-push_none, taken_in-push_some}

-- the stamps of own writes, and of the covers in taken messages
abbrev pub own_stamps : List Entry → List ℕ
own_stamps part = map (λ (write : Write). write.stamp) (own part)

abbrev pub taken_stamps : List Entry → List ℕ
taken_stamps part = map (λ (cover : Cover). cover.stamp) (flat_map (λ (message : Message). message.covers) (taken_in part))

-- the clock is at least both
pub own-le-clock : (part : List Entry)
    → All (λ (write : Write). write.stamp ≤ clock part) (own part)
own-le-clock part =
    All-weaker (λ (write : Write). write.stamp ≤ greatest (own_stamps part)) (λ (write : Write). write.stamp ≤ clock part) (λ write below. omega (arith, below)) (own part)
    (All-from_map (λ n. n ≤ greatest (own_stamps part)) (λ (write : Write). write.stamp) (own part) (greatest-is_most (own_stamps part)))

-- a told cover stands in its message, or is the empty one
told_cover-le : (message : Message) (origin most : ℕ)
    → All (λ (cover : Cover). cover.stamp ≤ most) message.covers
    → (told_cover message origin).stamp ≤ most
told_cover-le message origin most all = ⊎_elim
    (λ (within : origin < length message.covers). all origin no_cover within)
    (λ (past : length message.covers ≤ origin). rw (get_or_past message.covers origin no_cover past) (omega arith))
    (cases_lt origin (length message.covers))

pub taken-le-clock : (part : List Entry)
    → All (λ (message : Message). (origin : ℕ) → (told_cover message origin).stamp ≤ clock part) (taken_in part)
taken-le-clock part =
    let P = λ (cover : Cover). cover.stamp ≤ greatest (taken_stamps part) in
    let covers = λ (message : Message). message.covers in
    All-weaker (λ (message : Message). All P message.covers) (λ (message : Message). (origin : ℕ) → (told_cover message origin).stamp ≤ clock part)
    (λ message all origin. omega (arith, told_cover-le message origin (greatest (taken_stamps part)) all)) (taken_in part)
    (All-from_flat_map P covers (taken_in part)
    (All-from_map (λ n. n ≤ greatest (taken_stamps part)) (λ (cover : Cover). cover.stamp) (flat_map covers (taken_in part)) (greatest-is_most (taken_stamps part))))

-- One more entry.
module _ (part : List Entry) (entry : Entry) where
  own_stamps-push : own_stamps (part ++ entry ∷ []) ≡ own_stamps part ++ map (λ (write : Write). write.stamp) (cons_option (accepted_in entry) [])
  own_stamps-push =
      let stamp = λ (write : Write). write.stamp in
      ap (map stamp) (own-push part entry) ∙ map-append stamp (own part) (cons_option (accepted_in entry) [])

  taken_stamps-push : taken_stamps (part ++ entry ∷ []) ≡ taken_stamps part ++ map (λ (cover : Cover). cover.stamp) (flat_map (λ (message : Message). message.covers) (cons_option (taken_by entry) []))
  taken_stamps-push =
      let stamp = λ (cover : Cover). cover.stamp in
      let covers = λ (message : Message). message.covers in
      ap (λ messages. map stamp (flat_map covers messages)) (taken_in-push part entry)
      ∙ ap (map stamp) (flat_map-append covers (taken_in part) (cons_option (taken_by entry) []))
      ∙ map-append stamp (flat_map covers (taken_in part)) (flat_map covers (cons_option (taken_by entry) []))

  pub clock-le-push : clock part ≤ clock (part ++ entry ∷ [])
  clock-le-push =
      let own_more = ap greatest own_stamps-push ∙ greatest-append (own_stamps part) (map (λ (write : Write). write.stamp) (cons_option (accepted_in entry) [])) in
      let taken_more = ap greatest taken_stamps-push
      ∙ greatest-append (taken_stamps part) (map (λ (cover : Cover). cover.stamp) (flat_map (λ (message : Message). message.covers) (cons_option (taken_by entry) []))) in
      omega (arith, own_more, taken_more)

  -- an entry that accepts and takes nothing leaves it as it was
  pub clock-push_none : accepted_in entry ≡ None
      → taken_by entry ≡ None
      → clock (part ++ entry ∷ []) ≡ clock part
  clock-push_none no_write no_message =
      ap₂ (λ writes messages. max (greatest (map (λ (write : Write). write.stamp) writes))
      (greatest (map (λ (cover : Cover). cover.stamp) (flat_map (λ (message : Message). message.covers) messages))))
      (own-push_none part entry no_write) (taken_in-push_none part entry no_message)

  -- a taken message tells nothing above it
  pub told-le-clock : (message : Message)
      → taken_by entry ≡ Some message
      → (origin : ℕ)
      → (told_cover message origin).stamp ≤ clock (part ++ entry ∷ [])
  told-le-clock message some =
      let P = λ (message : Message). (origin : ℕ) → (told_cover message origin).stamp ≤ clock (part ++ entry ∷ []) in
      All-head P message [] (All-append_right P (taken_in part) (message ∷ []) (subst (All P) (taken_in-push_some part entry message some) (taken-le-clock (part ++ entry ∷ []))))

-- The clock after a write, and after a message.
module _ (part : List Entry) (entry : Entry) where
  pub clock-accepted : (write : Write)
      → accepted_in entry ≡ Some write
      → taken_by entry ≡ None
      → clock (part ++ entry ∷ []) ≡ max (clock part) write.stamp
  clock-accepted write some none =
      let stamp = λ (w : Write). w.stamp in
      let writes : greatest (own_stamps (part ++ entry ∷ [])) ≡ max (greatest (own_stamps part)) (greatest (write.stamp ∷ [])) =
      ap (λ (ws : List Write). greatest (map stamp ws)) (own-push_some part entry write some)
      ∙ ap greatest (map-append stamp (own part) (write ∷ []))
      ∙ greatest-append (own_stamps part) (write.stamp ∷ []) in
      let told : greatest (taken_stamps (part ++ entry ∷ [])) ≡ greatest (taken_stamps part) =
      ap (λ (ms : List Message). greatest (map (λ (c : Cover). c.stamp) (flat_map (λ (m : Message). m.covers) ms))) (taken_in-push_none part entry none) in
      omega (arith, writes, told)

  pub clock-taken : (message : Message)
      → accepted_in entry ≡ None
      → taken_by entry ≡ Some message
      → clock (part ++ entry ∷ []) ≡ max (clock part) (greatest (map (λ (cover : Cover). cover.stamp) message.covers))
  clock-taken message none some =
      let stamp = λ (cover : Cover). cover.stamp in
      let covers = λ (message : Message). message.covers in
      let writes : greatest (own_stamps (part ++ entry ∷ [])) ≡ greatest (own_stamps part) =
      ap (λ (ws : List Write). greatest (map (λ (w : Write). w.stamp) ws)) (own-push_none part entry none) in
      let told : greatest (taken_stamps (part ++ entry ∷ [])) ≡ max (greatest (taken_stamps part)) (greatest (map stamp message.covers)) =
      ap (λ (ms : List Message). greatest (map stamp (flat_map covers ms))) (taken_in-push_some part entry message some)
      ∙ ap (λ (cs : List Cover). greatest (map stamp cs))
      (flat_map-append covers (taken_in part) (message ∷ []) ∙ ap (λ (cs : List Cover). flat_map covers (taken_in part) ++ cs) (append-nil message.covers))
      ∙ ap greatest (map-append stamp (flat_map covers (taken_in part)) message.covers)
      ∙ greatest-append (taken_stamps part) (map stamp message.covers) in
      omega (arith, writes, told)
