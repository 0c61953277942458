-- A piece more among bytes that grow at their end.
use Rattle.std.proofs.Common.{◌≡◌, ◌∙◌, refl, sym, ap, ap₂, ℕ, ◌+◌, List, [], ◌∷◌, ◌++◌, length, map, drop, arith}
use Rattle.std.specs.List.{All}
use Rattle.std.proofs.lemmas.List.{map-append, length-append, take-append-le}
use Rattle.std.proofs.Math.Seq.{drop-append_seam}
use Rattle.std.proofs.lemmas.List.Elements.{All-head, All-tail, All-weaker, All-push}
use Rattle.std.proofs.lemmas.Slice.{between_is, between_to_end}
use Rattle.tact_io.specs.declared.piece_list.Reach.{Reach}
use Rattle.tact_io.specs.Journals.{with_piece}
use Rattle.tact_io.specs.Reaches.{piece_of, IsIn}

-- a piece among the bytes stays
piece_stays : (bytes more : List ℕ) (reach : Reach) → IsIn (length bytes) reach → piece_of (bytes ++ more) reach ≡ piece_of bytes reach
piece_stays bytes more reach is =
    between_is (bytes ++ more) reach.start reach.end
    ∙ ap (drop reach.start) (take-append-le reach.end bytes more is.end)
    ∙ sym (between_is bytes reach.start reach.end)

pieces_stay : (bytes more : List ℕ) (reaches : List Reach)
    → All (IsIn (length bytes)) reaches
    → map (piece_of (bytes ++ more)) reaches ≡ map (piece_of bytes) reaches
pieces_stay bytes more [] all = refl
pieces_stay bytes more (reach ∷ reaches) all =
    ap₂ (λ (one : List ℕ) (rest : List (List ℕ)). one ∷ rest)
    (piece_stays bytes more reach (All-head (IsIn (length bytes)) reach reaches all))
    (pieces_stay bytes more reaches (All-tail (IsIn (length bytes)) reach reaches all))

-- the piece that was put last
abbrev last_reach : List ℕ → List ℕ → Reach
last_reach bytes piece = record { start = length bytes; end = length (bytes ++ piece) }

last_piece : (bytes piece : List ℕ) → piece_of (bytes ++ piece) (last_reach bytes piece) ≡ piece
last_piece bytes piece =
    between_to_end (bytes ++ piece) (length bytes) (length (bytes ++ piece)) (omega arith) ∙ drop-append_seam bytes piece

pub one_piece_more : (bytes piece : List ℕ) (reaches : List Reach)
    → All (IsIn (length bytes)) reaches
    → map (piece_of (bytes ++ piece)) (reaches ++ last_reach bytes piece ∷ [])
    ≡ with_piece (map (piece_of bytes) reaches) piece
one_piece_more bytes piece reaches all =
    map-append (piece_of (bytes ++ piece)) reaches (last_reach bytes piece ∷ [])
    ∙ ap₂ (λ (front last : List (List ℕ)). front ++ last)
    (pieces_stay bytes piece reaches all)
    (ap (λ one. one ∷ []) (last_piece bytes piece))

pub all_in_more : (bytes piece : List ℕ) (reaches : List Reach)
    → All (IsIn (length bytes)) reaches
    → All (IsIn (length (bytes ++ piece))) (reaches ++ last_reach bytes piece ∷ [])
all_in_more bytes piece reaches all =
    let longer : length (bytes ++ piece) ≡ length bytes + length piece = length-append bytes piece in
    All-push (IsIn (length (bytes ++ piece))) reaches (last_reach bytes piece)
    (All-weaker (IsIn (length bytes)) (IsIn (length (bytes ++ piece)))
    (λ reach is. record { order = is.order; end = omega (arith, is.end, longer) })
    reaches all)
    (record { order = omega (arith, longer); end = omega arith })
