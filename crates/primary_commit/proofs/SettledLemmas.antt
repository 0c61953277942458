-- What is committed, as the order and the logs go on.
use Rattle.std.proofs.Common.{◌≡◌, ℕ, zero, suc, ◌+◌, ◌-◌, ◌<◌, Bool, true, false, List, [], ◌∷◌, ◌++◌, All, None, Some, if◌then◌else◌, length, get_or, map, take, refl, sym, ap, ap₂, ◌∙◌, subst, ⊎_elim, arith}
use Rattle.std.proofs.lemmas.Bool.{cases_lt}
use Rattle.std.proofs.lemmas.Option.{none-some}
use Rattle.std.proofs.lemmas.List.{get_or-append-add, take_more, take-append-le, length-append, get_or_append_left, map-append}
use Rattle.std.proofs.lemmas.List.Elements.{All-append, All-head, All-tail}
use Rattle.std.proofs.lemmas.List.Sums.{take_while-cons}
use Rattle.std.proofs.Math.Seq.{take-nil}
use Rattle.std.specs.List.{take_while}
use Rattle.tact_base.proofs.ListLemmas.{All-one, map_agree, fold-push}
use Rattle.tact_base.specs.Images.{Image, after_op, empty_image, image_of}
use Rattle.rollback_apply.specs.Image.{ImageState, base_of}
use Rattle.rollback_apply.proofs.ImageLemmas.{same_image}
use Rattle.tact_base.specs.declared.write.Op.{Op}
use Rattle.tact_base.specs.declared.limits.TheConstants.{HISTORY_MAX}
use Rattle.primary_commit.specs.Kept.{IsSettled, KeepsPeer, peer_with}
use Rattle.primary_commit.specs.Peers.{PeerState, committed, has, have, log_of, no_item, op_of, IsPeer}
use Rattle.primary_commit.specs.declared.items.Item.{Item}
use Rattle.primary_commit.specs.declared.items.Pick.{Pick}

-- the elements up to the first that doesn't pass are those before it
pub take_while-to : {X : Type 0} (p : X → Bool) (xs : List X) (k : ℕ) (d : X)
    → All (λ x. p x ≡ true) (take k xs)
    → (k < length xs → p (get_or xs k d) ≡ false)
    → take k xs ≡ take_while p xs
take_while-to p [] k d passed stops = take-nil k
take_while-to p (x ∷ xs) zero d passed stops =
    let here : p x ≡ false = stops (omega arith) in
    rw (take_while-cons p x xs, here) refl
take_while-to p (x ∷ xs) (suc k) d passed stops =
    let here : p x ≡ true = All-head (λ x. p x ≡ true) x (take k xs) passed in
    rw (take_while-cons p x xs, here)
    (ap (λ rest. x ∷ rest) (take_while-to p xs k d (All-tail (λ x. p x ≡ true) x (take k xs) passed) (λ within. stops (omega (arith, within)))))

-- whether an operation was found tells whether its item is there
pub stopped : {X : Type 0} (found : Bool) (x : X) → None ≡ (if found then Some x else None) → found ≡ false
stopped false x none = refl
stopped true x none = absurd (none-some x none)

abbrev pub no_pick : Pick
no_pick = record { origin = 0; index = 0 }

pub settled_at : (peer : PeerState) (count other : ℕ) (image : ImageState) → count ≡ other → IsSettled peer count image → IsSettled peer other image
settled_at peer count other image is settled = subst (λ (n : ℕ). IsSettled peer n image) is settled

-- One more is committed, and its operation is put into the image.
pub settled_more : (peer : PeerState) (count : ℕ) (image after : ImageState) (d : Pick) (op : Op)
    → IsSettled peer count image
    → count < length peer.told
    → (has peer (get_or peer.told count d) ≡ true) × (op_of peer (get_or peer.told count d) ≡ op)
    → after.committed ≡ count + 1
    → after.ops ≡ []
    → ((key : ℕ) → base_of after key ≡ after_op (base_of image) op key)
    → IsSettled peer (count + 1) after
settled_more peer count image after d op settled within found counted none values =
    let front = take count peer.told in
    let pick = get_or peer.told count d in
    let longer : take (count + 1) peer.told ≡ front ++ pick ∷ [] = take_more peer.told count d within in
    record {
      within = omega (arith, within);
      had = subst (All (λ p. has peer p ≡ true)) (sym longer) (All-append (λ p. has peer p ≡ true) front (pick ∷ []) settled.had (All-one (λ p. has peer p ≡ true) pick found.0));
      counted = counted;
      none = none;
      values = λ key.
          values key
          ∙ ap₂ (λ (i : Image) (o : Op). after_op i o key) (same_image (base_of image) (image_of (map (op_of peer) front)) settled.values) (sym found.1)
          ∙ ap (λ (i : Image). i key) (sym (fold-push after_op empty_image (map (op_of peer) front) (op_of peer pick)))
          ∙ ap (λ (ops : List Op). image_of ops key) (sym (map-append (op_of peer) front (pick ∷ [])) ∙ ap (map (op_of peer)) (sym longer));
    }

-- items stand at their indices from a first one on
abbrev pub AreAt : ℕ → ℕ → List Item → Type 0
AreAt origin first items = (index : ℕ) (none : Item) → index < length items
    → ((get_or items index none).origin ≡ origin) × ((get_or items index none).index ≡ first + index)

-- A peer that has what it had, and was told what it was told.
pub record Grows (old new : PeerState) : Type 0 where
  pub replica : new.replica ≡ old.replica
  pub sized : length new.logs ≡ length old.logs
  pub logs : (origin : ℕ) → (rest : List Item) × (log_of new origin ≡ log_of old origin ++ rest) × AreAt origin (have old origin) rest
  pub told : (rest : List Pick) × (new.told ≡ old.told ++ rest)

module _ (old new : PeerState) (grows : Grows old new) where
  placed_still : IsPeer old → (origin index : ℕ) (none : Item) → index < have new origin
      → ((get_or (log_of new origin) index none).origin ≡ origin) × ((get_or (log_of new origin) index none).index ≡ index)
  placed_still kept origin index none within =
      let log = log_of old origin in
      let rest = (grows.logs origin).0 in
      let is : log_of new origin ≡ log ++ rest = (grows.logs origin).1 in
      let at : (items : List Item) → log_of new origin ≡ items → (((get_or items index none).origin ≡ origin) × ((get_or items index none).index ≡ index))
      → ((get_or (log_of new origin) index none).origin ≡ origin) × ((get_or (log_of new origin) index none).index ≡ index) =
      λ items same found. rw same found in
      at (log ++ rest) is
      (⊎_elim
      (λ low. rw (get_or_append_left log rest none index low) (kept.placed origin index none low))
      (λ high.
      let past : index ≡ length log + (index - length log) = omega (arith, high) in
      let found = (grows.logs origin).2 (index - length log) none (omega (arith, high, within, ap length is, length-append log rest)) in
      let here : get_or (log ++ rest) index none ≡ get_or rest (index - length log) none =
      ap (λ (n : ℕ). get_or (log ++ rest) n none) past ∙ get_or-append-add log rest (index - length log) none in
      rw here (found.0, omega (arith, found.1, high)))
      (cases_lt index (length log)))

  pub is_peer_grown : IsPeer old → IsPeer new
  is_peer_grown kept = record {
    among = omega (arith, kept.among, grows.replica, grows.sized);
    placed = placed_still kept;
  }

  has_still : (pick : Pick) → has old pick ≡ true → has new pick ≡ true
  has_still pick had = grind (arith, had, ap length (grows.logs pick.origin).1, length-append (log_of old pick.origin) (grows.logs pick.origin).0)

  same_op : (pick : Pick) → has old pick ≡ true → op_of new pick ≡ op_of old pick
  same_op pick had =
      let inside : pick.index < have old pick.origin = grind (arith, had) in
      ap (λ (item : Item). item.op)
      (ap (λ (log : List Item). get_or log pick.index no_item) (grows.logs pick.origin).1
      ∙ get_or_append_left (log_of old pick.origin) (grows.logs pick.origin).0 no_item pick.index inside)

  pub settled_grown : (count : ℕ) (image : ImageState) → IsSettled old count image → IsSettled new count image
  settled_grown count image settled =
      let front = take count old.told in
      let same : take count new.told ≡ front = ap (take count) grows.told.1 ∙ take-append-le count old.told grows.told.0 settled.within in
      record {
        within = omega (arith, settled.within, ap length grows.told.1, length-append old.told grows.told.0);
        had = subst (All (λ p. has new p ≡ true)) (sym same) (λ k d within. has_still (get_or front k d) (settled.had k d within));
        counted = settled.counted;
        none = settled.none;
        values = λ key.
            settled.values key
            ∙ ap (λ (ops : List Op). image_of ops key)
            (sym (ap (map (op_of new)) same ∙ map_agree (op_of new) (op_of old) front (λ k d within. same_op (get_or front k d) (settled.had k d within))));
      }

-- The items and the order are what matters.
pub settled_parts : (peer : PeerState) (count : ℕ) (image : ImageState) → IsSettled peer count image → IsSettled (peer_with peer.logs peer.told) count image
settled_parts peer count image settled =
    record { within = settled.within; had = settled.had; counted = settled.counted; none = settled.none; values = settled.values }

settled_whole : (peer : PeerState) (count : ℕ) (image : ImageState) → IsSettled (peer_with peer.logs peer.told) count image → IsSettled peer count image
settled_whole peer count image settled =
    record { within = settled.within; had = settled.had; counted = settled.counted; none = settled.none; values = settled.values }

-- A peer before an event and after it.
module _ (peer next : PeerState) (grows : Grows peer next) where
  -- what was committed is
  pub starts : (count : ℕ) (image : ImageState) (logs : List (List Item)) (told : List Pick)
      → IsSettled peer count image
      → logs ≡ next.logs
      → told ≡ next.told
      → IsSettled (peer_with logs told) count image
  starts count image logs told settled same_logs same_told =
      rw (same_logs, same_told) (settled_parts next count image (settled_grown peer next grows count image settled))

  -- and all that is committed is known
  pub ends : (before count : ℕ) (first image : ImageState) (seen : PeerState)
      → KeepsPeer peer before first
      → seen ≡ next
      → peer.events < HISTORY_MAX
      → next.events ≡ peer.events + 1
      → next.posts ≡ peer.posts
      → IsSettled (peer_with seen.logs seen.told) count image
      → take count seen.told ≡ committed (peer_with seen.logs seen.told)
      → KeepsPeer seen count image
  ends before count first image seen kept is free events posts settled all = record {
    is_peer = subst IsPeer (sym is) (is_peer_grown peer next grows kept.is_peer);
    settled = settled_whole seen count image settled;
    all = all;
    few = omega (arith, kept.few, grows.sized, ap (λ (p : PeerState). length p.logs) is);
    events = omega (arith, free, events, ap (λ (p : PeerState). p.events) is);
    posts = omega (arith, kept.posts, events, posts, ap (λ (p : PeerState). p.events) is, ap (λ (p : PeerState). p.posts) is);
  }

-- room that is made changes nothing of it
pub settled_room : (peer : PeerState) (before count : ℕ) (first image : ImageState) (seen : PeerState)
    → KeepsPeer peer before first
    → IsSettled peer before image
    → seen ≡ peer
    → KeepsPeer seen before image
settled_room peer before count first image seen kept settled is =
    subst (λ (p : PeerState). KeepsPeer p before image) (sym is)
    (record { is_peer = kept.is_peer; settled = settled; all = kept.all; few = kept.few; events = kept.events; posts = kept.posts })

-- what is as it stands in the parts of a peer
pub same_parts : (peer : PeerState) (logs : List (List Item)) (told : List Pick)
    → logs ≡ peer.logs
    → told ≡ peer.told
    → record peer { logs = logs; told = told } ≡ peer
same_parts peer logs told same_logs same_told = ap₂ (λ (l : List (List Item)) (t : List Pick). record peer { logs = l; told = t }) same_logs same_told
