-- Requests, replies, acts and entries that were printed are read again.
use Rattle.std.proofs.Common.{◌≡◌, ℕ, ◌-◌, ◌^◌, ◌<◌, ◌≤◌, List, [], ◌∷◌, ◌++◌, length, map, Ok, true, ◌==◌, refl, sym, ap, ◌∙◌, append_assoc, arith}
use Rattle.std.specs.Prelude.{All, decimal, codes}
use Rattle.std.specs.Fmt.{signed_decimal}
use Rattle.std.proofs.lemmas.Bool.Decides.{nat_tests}
use Rattle.std.proofs.lemmas.List.{append-nil}
use Rattle.tact_base.specs.Setup.{Setup}
use Rattle.tact_base.specs.declared.limits.TheConstants.{AMOUNT_MAX, CLIENTS, HISTORY_MAX, KEY_MAX, MOMENT_MAX}
use Rattle.run_model.specs.CallBytes.{IsRequestOf, HasSmallNames, HasWideNumbers}
use Rattle.run_model.specs.Text.{need_token, op_tokens, reply_tokens, request_tokens, weight_token}
use Rattle.run_model.specs.declared.call.Request.{Request}
use Rattle.run_model.specs.declared.call.Request.TheVariants as request
use Rattle.run_model.specs.declared.call.Reply.{Reply}
use Rattle.run_model.specs.declared.call.Reply.TheVariants as reply
use Rattle.run_model.proofs.WeightBytes.{limits_of}
use Rattle.run_record.specs.declared.body_lines.BodyLine.TheVariants as body
use Rattle.run_record.specs.declared.short.Short.{Short}
use Rattle.run_record.specs.declared.short.ShortAct.{ShortAct}
use Rattle.run_record.specs.declared.short.ShortAct.TheVariants.{Call, Send, Take, Lend, Back, Restart}
use Rattle.run_record.specs.Records.{IsActOf, IsShortOf}
use Rattle.run_record.specs.RecordText.{short_act_tokens}
use Rattle.run_record.specs.Fields.{Tokens, token_at, end_at}
use Rattle.run_record.specs.Lists.{numbers_at}
use Rattle.run_record.specs.CallTokens.{any_number_at, done_at, held_at, name_at, not_held_at, read_at, release_at, reply_at, request_at, reserve_at, too_heavy_at, value_at, wait_held_at, wait_lent_at, wait_order_at, wait_share_at, wait_stale_at, word_due, write_at}
use Rattle.run_record.specs.ActTokens.{act_at, back_at, call_at, entry_line, lend_at, send_at, take_at}
use Rattle.run_record.specs.RecordLines.{body_line, end_line}
use Rattle.run_record.proofs.PrintedFields.{firsts_again, needs_again, number_again, op_again, other_again, sums_again, weight_again, weights_again, wide_again}

-- ---- requests

-- of a setup with so many conits, and what follows `=`
module _ (conits : ℕ) (few : conits ≤ 16) (rest : Tokens) where
  request_again : (r : Request) → IsRequestOf conits r → request_at conits (request_tokens r ++ codes "=" ∷ rest) ≡ Ok (r, codes "=" ∷ rest)
  unfolding request_at token_at write_at held_at reserve_at release_at read_at
  request_again (request.Write weights op) is =
      rw (append_assoc (op_tokens op) (map weight_token weights) (codes "=" ∷ rest), op_again op (map weight_token weights ++ codes "=" ∷ rest) is.1, weights_again conits weights rest few is.0) refl
  request_again (request.Held weight op) is =
      rw (
        append_assoc (op_tokens op) (weight_token weight ∷ []) (codes "=" ∷ rest),
        op_again op (weight_token weight ∷ codes "=" ∷ rest) is.3,
        weight_again conits few 0 weight (codes "=" ∷ rest) (omega arith) is.0 (limits_of _ _ is.1 is.2),
      ) refl
  request_again (request.Reserve conit amount) is =
      rw (number_again conit (conits - 1) (decimal amount ∷ codes "=" ∷ rest) (omega (arith, is.0, few)) (omega (arith, is.0)), number_again amount AMOUNT_MAX (codes "=" ∷ rest) (omega (arith, is.1)) is.1) refl
  request_again (request.Release conit amount) is =
      rw (number_again conit (conits - 1) (decimal amount ∷ codes "=" ∷ rest) (omega (arith, is.0, few)) (omega (arith, is.0)), number_again amount AMOUNT_MAX (codes "=" ∷ rest) (omega (arith, is.1)) is.1) refl
  request_again (request.Read key needs) is =
      rw (number_again key KEY_MAX (map need_token needs ++ codes "=" ∷ rest) (omega (arith, is.0)) is.0, needs_again conits needs rest few is.1) refl

-- ---- replies

any_again : (n : ℕ) (rest : Tokens) → n < 2 ^ 64 → any_number_at (decimal n ∷ rest) ≡ Ok (n, rest)
any_again n rest fits = number_again n (2 ^ 64 - 1) rest fits (omega (arith, fits))

name_again : (n : ℕ) (rest : Tokens) → n < 256 → name_at (decimal n ∷ rest) ≡ Ok (n, rest)
name_again n rest small = number_again n 255 rest (omega (arith, small)) (omega (arith, small))

pub reply_again : (r : Reply) → HasSmallNames r → HasWideNumbers r → reply_at (reply_tokens r) ≡ Ok (r, [])
unfolding reply_at token_at done_at value_at too_heavy_at wait_held_at wait_share_at wait_lent_at wait_order_at wait_stale_at not_held_at
reply_again (reply.Done index stamp) s w = rw (any_again index (decimal stamp ∷ []) w.0, any_again stamp [] w.1) refl
reply_again reply.Granted s w = refl
reply_again reply.Released s w = refl
reply_again (reply.Value value sums) s w = rw (wide_again value (map signed_decimal sums) w.0, sums_again sums w.1 w.2) refl
reply_again (reply.TooHeavy conit peer weight share) s w =
    rw (name_again conit (decimal peer ∷ decimal weight ∷ decimal share ∷ []) s.0, name_again peer (decimal weight ∷ decimal share ∷ []) s.1, any_again weight (decimal share ∷ []) w.0, any_again share [] w.1) refl
reply_again (reply.WaitHeld conit peer reserved weight share) s w =
    rw (
      name_again conit (decimal peer ∷ decimal reserved ∷ decimal weight ∷ decimal share ∷ []) s.0,
      name_again peer (decimal reserved ∷ decimal weight ∷ decimal share ∷ []) s.1,
      any_again reserved (decimal weight ∷ decimal share ∷ []) w.0,
      any_again weight (decimal share ∷ []) w.1,
      any_again share [] w.2,
    ) refl
reply_again (reply.WaitShare conit peer missing reserved weight share) s w =
    rw (
      name_again conit (decimal peer ∷ decimal missing ∷ decimal reserved ∷ decimal weight ∷ decimal share ∷ []) s.0,
      name_again peer (decimal missing ∷ decimal reserved ∷ decimal weight ∷ decimal share ∷ []) s.1,
      any_again missing (decimal reserved ∷ decimal weight ∷ decimal share ∷ []) w.0,
      any_again reserved (decimal weight ∷ decimal share ∷ []) w.1,
      any_again weight (decimal share ∷ []) w.2,
      any_again share [] w.3,
    ) refl
reply_again (reply.WaitLent conit holder out total num) s w =
    rw (
      name_again conit (decimal holder ∷ decimal out ∷ decimal total ∷ decimal num ∷ []) s.0,
      name_again holder (decimal out ∷ decimal total ∷ decimal num ∷ []) s.1,
      any_again out (decimal total ∷ decimal num ∷ []) w.0,
      any_again total (decimal num ∷ []) w.1,
      any_again num [] w.2,
    ) refl
reply_again (reply.WaitOrder conit replica tentative order) s w =
    rw (name_again conit (decimal replica ∷ decimal tentative ∷ decimal order ∷ []) s.0, name_again replica (decimal tentative ∷ decimal order ∷ []) s.1, any_again tentative (decimal order ∷ []) w.0, any_again order [] w.1) refl
reply_again (reply.WaitStale conit replica moment wanted) s w =
    rw (name_again conit (decimal replica ∷ decimal moment ∷ decimal wanted ∷ []) s.0, name_again replica (decimal moment ∷ decimal wanted ∷ []) s.1, any_again moment (decimal wanted ∷ []) w.0, any_again wanted [] w.1) refl
reply_again (reply.NotHeld conit held amount) s w =
    rw (name_again conit (decimal held ∷ decimal amount ∷ []) s, any_again held (decimal amount ∷ []) w.0, any_again amount [] w.1) refl

-- ---- acts

module _ (s : Setup) (n : s.replicas ≤ 8) (m : s.conits ≤ 16) where
  call_again : (client number : ℕ) (r : Request) (told : Reply)
      → IsActOf s 0 (Call client number r told)
      → call_at s.conits (decimal client ∷ decimal number ∷ (request_tokens r ++ codes "=" ∷ reply_tokens told)) ≡ Ok (Call client number r told, [])
  unfolding call_at word_due token_at
  call_again client number r told is =
      rw (
        number_again client (CLIENTS - 1) (decimal number ∷ (request_tokens r ++ codes "=" ∷ reply_tokens told)) (omega (arith, is.0)) (omega (arith, is.0)),
        any_again number (request_tokens r ++ codes "=" ∷ reply_tokens told) is.1,
        request_again s.conits m (reply_tokens told) r is.2,
        reply_again told is.3 is.4,
      ) refl

  all_firsts : (firsts : List ℕ) → length firsts ≡ s.replicas → All (λ first. first ≤ HISTORY_MAX) firsts → numbers_at HISTORY_MAX s.replicas (map decimal firsts) ≡ Ok (firsts, [])
  all_firsts firsts long small = ap (numbers_at HISTORY_MAX s.replicas) (sym (append-nil (map decimal firsts))) ∙ firsts_again s.replicas firsts [] long small

  pub act_again : (replica : ℕ) (act : ShortAct)
      → IsActOf s replica act
      → act_at s.replicas s.conits replica (short_act_tokens act) ≡ Ok (act, [])
  unfolding act_at token_at send_at take_at lend_at back_at
  act_again replica (Call client number r told) is = call_again client number r told is
  act_again replica (Send to number firsts) is =
      rw (other_again to replica s.replicas (decimal number ∷ map decimal firsts) (omega (arith, is.0, n)) is.0 is.1, any_again number (map decimal firsts) is.2, all_firsts firsts is.3 is.4) refl
  act_again replica (Take from number) is =
      rw (other_again from replica s.replicas (decimal number ∷ []) (omega (arith, is.0, n)) is.0 is.1, any_again number [] is.2) refl
  act_again replica (Lend to conit amount) is =
      rw (other_again to replica s.replicas (decimal conit ∷ decimal amount ∷ []) (omega (arith, is.0, n)) is.0 is.1, number_again conit (s.conits - 1) (decimal amount ∷ []) (omega (arith, is.2, m)) (omega (arith, is.2)), number_again amount AMOUNT_MAX [] (omega (arith, is.3)) is.3) refl
  act_again replica (Back owner conit amount) is =
      rw (other_again owner replica s.replicas (decimal conit ∷ decimal amount ∷ []) (omega (arith, is.0, n)) is.0 is.1, number_again conit (s.conits - 1) (decimal amount ∷ []) (omega (arith, is.2, m)) (omega (arith, is.2)), number_again amount AMOUNT_MAX [] (omega (arith, is.3)) is.3) refl
  act_again replica Restart is = refl

  abbrev pub entry_tokens : Short → List (List ℕ)
  entry_tokens short = codes "e" ∷ decimal short.replica ∷ decimal short.moment ∷ short_act_tokens short.act

  pub entry_again : (short : Short) (count : ℕ) → IsShortOf s short → body_line s.replicas s.conits count (entry_tokens short) ≡ Ok (body.Entry short)
  unfolding body_line entry_line token_at end_at
  entry_again short count is =
      rw (
        number_again short.replica (s.replicas - 1) (decimal short.moment ∷ short_act_tokens short.act) (omega (arith, is.replica, n)) (omega (arith, is.replica)),
        number_again short.moment MOMENT_MAX (short_act_tokens short.act) (omega (arith, is.moment)) is.moment,
        act_again short.replica short.act is.act,
      ) refl

  pub end_again : (count : ℕ) → count < 2 ^ 64 → body_line s.replicas s.conits count (codes "end" ∷ decimal count ∷ []) ≡ Ok body.End
  unfolding body_line end_line token_at end_at
  end_again count fits = rw (any_again count [] fits, same count) refl
    where
      same : (k : ℕ) → (k == k) ≡ true
      same k = grind (arith, nat_tests)
