-- What a peer tells.
use Rattle.std.proofs.Common.{◌≡◌, ℕ, ◌+◌, ◌-◌, List, ◌++◌, drop, flat_map, get_or, length, map, min, take, sym, ap, ap₂, ◌∙◌, arith}
use Rattle.std.proofs.lemmas.List.FromFn.{get_or-map-range_with_len}
use Rattle.std.specs.List.{range_with_len}
use Rattle.tact_base.proofs.ListLemmas.{All-range, flat_map_agree, take-append-taken}
use Rattle.tact_base.proofs.RangeLists.{flat_map_range_more}
use Rattle.primary_commit.specs.Peers.{PeerState, first_told, log_of, notice_of, origins}
use Rattle.primary_commit.specs.declared.items.Item.{Item}
use Rattle.primary_commit.specs.declared.items.Pick.{Pick}

-- the first few of what one more number gives
pub few_more : {X : Type 0} (f : ℕ → List X) (n room : ℕ) (before after : List X)
    → before ≡ take 64 (flat_map f (range_with_len 0 n))
    → room ≡ 64 - length before
    → after ≡ before ++ take room (f n)
    → after ≡ take 64 (flat_map f (range_with_len 0 (n + 1)))
few_more {X} f n room before after was left grew =
    grew
    ∙ ap (λ (k : ℕ). before ++ take k (f n)) left
    ∙ ap (λ (xs : List X). xs ++ take (64 - length xs) (f n)) was
    ∙ sym (take-append-taken 64 (flat_map f (range_with_len 0 n)) (f n))
    ∙ ap (take 64) (sym (flat_map_range_more f n))

-- the items from the told firsts on
pub items_are : (peer : PeerState) (given firsts : List ℕ)
    → firsts ≡ map (first_told peer given) (origins peer)
    → flat_map (λ (origin : ℕ). drop (get_or firsts origin 0) (log_of peer origin)) (origins peer)
    ≡ flat_map (λ (origin : ℕ). drop (first_told peer given origin) (log_of peer origin)) (origins peer)
items_are peer given firsts are =
    let by_firsts = λ (origin : ℕ). drop (get_or firsts origin 0) (log_of peer origin) in
    let by_told = λ (origin : ℕ). drop (first_told peer given origin) (log_of peer origin) in
    flat_map_agree by_firsts by_told (origins peer)
    (All-range (λ (origin : ℕ). by_firsts origin ≡ by_told origin) 0 (length peer.logs)
    (λ origin low high.
    ap (λ (n : ℕ). drop n (log_of peer origin))
    (ap (λ (fs : List ℕ). get_or fs origin 0) are
    ∙ get_or-map-range_with_len (first_told peer given) 0 (length peer.logs) origin origin 0 (omega (arith, high)) (omega arith))))

-- what is told is the notice
pub notice_is : (peer : PeerState) (to : ℕ) (given : List ℕ) (place : ℕ) (firsts named : List ℕ) (items : List Item) (at : ℕ) (picks : List Pick)
    → firsts ≡ map (first_told peer given) (origins peer)
    → named ≡ firsts
    → items ≡ take 64 (flat_map (λ (origin : ℕ). drop (get_or named origin 0) (log_of peer origin)) (origins peer))
    → at ≡ min place (length peer.told)
    → picks ≡ take 256 (drop at peer.told)
    → record { from = peer.replica; to = to; number = peer.posts; firsts = firsts; items = items; place = at; picks = picks } ≡ notice_of peer to given place
notice_is peer to given place firsts named items at picks are same told at_is picked =
    let at_told : at ≡ min (length peer.told) place = at_is ∙ omega arith in
    let items_told : items ≡ take 64 (flat_map (λ (origin : ℕ). drop (first_told peer given origin) (log_of peer origin)) (origins peer)) =
    told ∙ ap (take 64) (items_are peer given named (same ∙ are)) in
    let picks_told : picks ≡ take 256 (drop (min (length peer.told) place) peer.told) = picked ∙ ap (λ (n : ℕ). take 256 (drop n peer.told)) at_told in
    ap₂ (λ (fs : List ℕ) (is : List Item). record { from = peer.replica; to = to; number = peer.posts; firsts = fs; items = is; place = at; picks = picks }) are items_told
    ∙ ap₂ (λ (a : ℕ) (ps : List Pick). record (notice_of peer to given place) { place = a; picks = ps }) at_told picks_told
