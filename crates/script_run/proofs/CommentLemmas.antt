-- The comment that shows a replica: its tokens as they are put one after another, and the part that it stands for.
use Rattle.std.proofs.Common.{◌≡◌, ℕ, ◌+◌, ◌-◌, ◌<◌, List, [], ◌∷◌, ◌++◌, length, get_or, take, flat_map, map, codes, decimal, Option, None, Some, append_assoc, refl, sym, ap, ap₂, ◌∙◌, arith}
use Rattle.std.specs.List.{range_with_len, last_or}
use Rattle.std.specs.Option.{option_map}
use Rattle.std.specs.Prelude.{slice_get}
use Rattle.std.proofs.lemmas.Grind.{flat_map-append}
use Rattle.std.proofs.lemmas.List.{append-nil, take_more}
use Rattle.tact_base.proofs.ListLemmas.{get_or-map_range, map_range_agree}
use Rattle.tact_base.proofs.RangeLists.{map_more}
use Rattle.tact_base.specs.Setup.{Setup, replicas_of}
use Rattle.tact_base.specs.WriteOrder.{committed_to, tentative_past}
use Rattle.tact_base.specs.declared.conit_list.Need.{Need}
use Rattle.tact_base.specs.declared.write.Write.{Write}
use Rattle.run_model.specs.Histories.{part_of}
use Rattle.run_model.specs.ScriptRuns.{comment, place_token, show_text, need_text}
use Rattle.run_model.specs.Order.{point, seen}
use Rattle.run_model.specs.Taking.{have, log_of, clock}
use Rattle.run_model.specs.Text.{spaced}
use Rattle.run_model.specs.declared.entry.Entry.{Entry}
use Rattle.replica_core.specs.Seen.{last_one}
use Rattle.replica_core.specs.Stands.{Stands}
use Rattle.replica_core.specs.States.{Core, log_at}
use Rattle.replica_core.specs.declared.last_one.LastOne.{LastOne}
use Rattle.reference_book.specs.Books.{errors_of}
use Rattle.script_run.specs.Comments.{have_tokens, last_token, writes_tokens, state_tokens, shown_core, need_comment}

-- one more token
pub spaced_map_more : (f : ℕ → List ℕ) (n : ℕ)
    → spaced (map f (range_with_len 0 (n + 1))) ≡ spaced (map f (range_with_len 0 n)) ++ 32 ∷ f n
spaced_map_more f n =
    let front = map f (range_with_len 0 n) in
    ap spaced (map_more f n)
    ∙ flat_map-append (λ token. 32 ∷ token) front (f n ∷ [])
    ∙ ap (λ (rest : List ℕ). spaced front ++ 32 ∷ rest) (append-nil (f n))

-- a text that grew by tokens, and by more
pub grown_twice : (old mid new : List ℕ) (first second : List (List ℕ))
    → mid ≡ old ++ spaced first
    → new ≡ mid ++ spaced second
    → new ≡ old ++ spaced (first ++ second)
grown_twice old mid new first second at_mid at_new =
    at_new
    ∙ ap (λ (text : List ℕ). text ++ spaced second) at_mid
    ∙ append_assoc old (spaced first) (spaced second)
    ∙ ap (λ (text : List ℕ). old ++ text) (sym (flat_map-append (λ token. 32 ∷ token) first second))

-- a text that grew by what of writes in order is committed up to a point, and what is tentative
pub grown_by_writes : (point : ℕ) (seen : List Write) (committed tentative : ℕ) (last : Option LastOne) (old a b c d : List ℕ)
    → committed ≡ length (committed_to point seen)
    → last ≡ last_one (committed_to point seen)
    → tentative ≡ length (tentative_past point seen)
    → a ≡ old ++ spaced (codes "committed" ∷ decimal committed ∷ [])
    → b ≡ a ++ spaced (codes "last" ∷ [])
    → c ≡ b ++ spaced (last_token last ∷ [])
    → d ≡ c ++ spaced (codes "tentative" ∷ decimal tentative ∷ [])
    → d ≡ old ++ spaced (writes_tokens point seen)
grown_by_writes point seen committed tentative last old a b c d committed_is last_is tentative_is at_a at_b at_c at_d =
    let tokens = λ (n : ℕ) (one : Option LastOne) (m : ℕ).
    codes "committed" ∷ decimal n ∷ codes "last" ∷ last_token one ∷ codes "tentative" ∷ decimal m ∷ [] in
    let front = grown_twice old a b (codes "committed" ∷ decimal committed ∷ []) (codes "last" ∷ []) at_a at_b in
    let middle = grown_twice old b c (codes "committed" ∷ decimal committed ∷ codes "last" ∷ []) (last_token last ∷ []) front at_c in
    grown_twice old c d (codes "committed" ∷ decimal committed ∷ codes "last" ∷ last_token last ∷ []) (codes "tentative" ∷ decimal tentative ∷ []) middle at_d
    ∙ ap₂ (λ (n m : ℕ). old ++ spaced (tokens n last m)) committed_is tentative_is
    ∙ ap (λ (one : Option LastOne). old ++ spaced (tokens (length (committed_to point seen)) one (length (tentative_past point seen)))) last_is

-- the last of writes
last_read : (write : Write) (writes : List Write) (before : Option Write)
    → slice_get (write ∷ writes) (length writes) ≡ last_or before (write ∷ writes)
last_read write [] before = refl
last_read write (next ∷ writes) before = last_read next writes (Some write)

last_is : (writes : List Write) → slice_get writes (length writes - 1) ≡ last_or None writes
last_is [] = refl
last_is (write ∷ writes) =
    let at : length (write ∷ writes) - 1 ≡ length writes = omega arith in
    ap (slice_get (write ∷ writes)) at ∙ last_read write writes None

one_token : (write : Option Write)
    → last_token (option_map (λ (w : Write). record { origin = w.origin; index = w.index }) write) ≡ place_token write
one_token None = refl
one_token (Some write) = refl

last_token-is : (writes : List Write) → last_token (last_one writes) ≡ place_token (last_or None writes)
last_token-is writes = one_token (slice_get writes (length writes - 1)) ∙ ap place_token (last_is writes)

-- A replica that stands for its part is shown as the script's meaning says.
module _ (history : List Entry) (core : Core) (stands : Stands (part_of history core.replica) core) where
  haves_are : have_tokens core
      ≡ map (λ origin. decimal (have core.replica (part_of history core.replica) origin)) (replicas_of core.setup)
  haves_are =
      let logs = log_of core.replica (part_of history core.replica) in
      map_range_agree (λ origin. decimal (length (log_at core origin))) (λ origin. decimal (length (logs origin))) core.setup.replicas
      (λ origin within.
      ap (λ (ws : List Write). decimal (length ws))
      (ap (λ (ls : List (List Write)). get_or ls origin []) stands.writes.logs ∙ get_or-map_range logs core.setup.replicas origin [] within))

  pub shown_core-is : shown_core core ≡ show_text core.setup history core.replica
  shown_core-is =
      let part = part_of history core.replica in
      let text = λ (haves state : List (List ℕ)). comment ((codes "show" ∷ decimal core.replica ∷ codes "have" ∷ haves) ++ state) in
      let state = λ (time at : ℕ) (writes : List (List ℕ)). codes "clock" ∷ decimal time ∷ codes "point" ∷ decimal at ∷ writes in
      let tokens = λ (at : ℕ) (writes : List Write) (last : List ℕ).
      codes "committed" ∷ decimal (length (committed_to at writes)) ∷ codes "last" ∷ last ∷ codes "tentative" ∷ decimal (length (tentative_past at writes)) ∷ [] in
      let upto = point core.setup core.replica part in
      let all = seen core.setup core.replica part in
      let haves = map (λ (origin : ℕ). decimal (have core.replica part origin)) (replicas_of core.setup) in
      ap (λ (hs : List (List ℕ)). text hs (state_tokens core)) haves_are
      ∙ ap (λ (time : ℕ). text haves (state time core.writes.point (writes_tokens core.writes.point core.writes.seen))) stands.writes.clock
      ∙ ap₂ (λ (at : ℕ) (writes : List Write). text haves (state (clock part) at (writes_tokens at writes))) stands.writes.point stands.writes.seen
      ∙ ap (λ (last : List ℕ). text haves (state (clock part) upto (tokens upto all last))) (last_token-is (committed_to upto all))

-- The comment on a need is that of the script's meaning.
pub need_comment-is : (setup : Setup) (history : List Entry) (replica moment : ℕ) (need : Need)
    → need_comment (errors_of setup history replica moment need.conit) need ≡ need_text setup history replica moment need
need_comment-is setup history replica moment need = refl

-- one more of them
pub needs_more : (text : Need → List ℕ) (needs : List Need) (at : ℕ) (d : Need) (old out : List ℕ)
    → at < length needs
    → out ≡ old ++ flat_map text (take at needs)
    → out ++ text (get_or needs at d) ≡ old ++ flat_map text (take (at + 1) needs)
needs_more text needs at d old out within grown =
    let need = get_or needs at d in
    ap (λ (front : List ℕ). front ++ text need) grown
    ∙ append_assoc old (flat_map text (take at needs)) (text need)
    ∙ ap (λ (more : List ℕ). old ++ more)
    (ap (λ (last : List ℕ). flat_map text (take at needs) ++ last) (sym (append-nil (text need)))
    ∙ sym (flat_map-append text (take at needs) (need ∷ []))
    ∙ ap (flat_map text) (sym (take_more needs at d within)))
