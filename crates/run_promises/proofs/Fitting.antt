-- In a run each taken message fits where it is taken, and so each part is one that can be.
use Rattle.std.proofs.Common.{◌≡◌, ℕ, ◌+◌, ◌-◌, ◌<◌, ◌≤◌, ◌==◌, List, length, get_or, drop, slice_index, All, Some, refl, sym, ap, ◌∙◌, subst, lt_of_le_of_lt, arith}
use Rattle.std.proofs.lemmas.List.{length-drop, get_or-drop, get_or-map}
use Rattle.std.proofs.lemmas.List.Elements.{All-filter, All-drop, All-contains}
use Rattle.std.proofs.lemmas.List.FromFn.{get_or-range_with_len}
use Rattle.std.proofs.lemmas.Option.{same_Some}
use Rattle.tact_base.specs.declared.write.Write.{Write}
use Rattle.tact_base.specs.Setup.{Setup}
use Rattle.run_model.specs.Histories.{part_of, sent_in, taken_by_act}
use Rattle.run_model.specs.OwnWrites.{own}
use Rattle.run_model.specs.Taking.{told_have, told_cover, told_first, told_writes, have, cover_of}
use Rattle.run_model.specs.Loans.{lent, returned as returned_to}
use Rattle.run_model.specs.Order.{point}
use Rattle.run_model.specs.Ranges.{IsMessageInRange, IsActInRange}
use Rattle.run_model.specs.Runs.{IsLawful, IsRun, added, Fits, FitsIfTaken, MayFollow, IsPart}
use Rattle.run_model.specs.declared.entry.Act.{Act}
use Rattle.run_model.specs.declared.entry.Act.TheVariants as act
use Rattle.run_model.specs.declared.entry.Entry.{Entry}
use Rattle.run_model.specs.declared.entry.Message.{Message}
use Rattle.run_model.proofs.PrefixLemmas.{IsPrefix-All, EachAfter-nil, EachAfter-push}
use Rattle.run_model.proofs.PartLemmas.{taken_by, part_of-push_cases}
use Rattle.run_model.proofs.Accepted.{log_of-same}
use Rattle.run_model.proofs.Agreement.{point-le}
use Rattle.run_model.proofs.Sound.{Sound, IsSoundMessage}
use Rattle.run_model.proofs.SoundStep.{taken_was_sent}
use Rattle.run_model.proofs.RunInduction.{over_runs}
use Rattle.run_model.proofs.SoundRuns.{Sound-run}
use Rattle.run_model.proofs.SoundViews.{Sound-have, Sound-count, Sound-cover}
use Rattle.run_promises.proofs.LoansAgree.{TellsOfLoans, LoansAgree, LoansAgree-run, taken_is_addressed}
use Rattle.run_promises.proofs.KeepsShares.{KeepsShares}

-- a taken message is in range
pub taken_in_range : (setup : Setup) (replica : ℕ) (done : Act) (message : Message)
    → IsActInRange setup replica done
    → taken_by_act done ≡ Some message
    → IsMessageInRange setup message
taken_in_range setup replica (act.Take taken) message within some = subst (IsMessageInRange setup) (same_Some taken message some) within.0
taken_in_range setup replica (act.Call client number asked given) message within some = cc
taken_in_range setup replica (act.Send sent) message within some = cc
taken_in_range setup replica (act.Lend to conit amount) message within some = cc
taken_in_range setup replica (act.Back owner conit amount) message within some = cc
taken_in_range setup replica act.Restart message within some = cc

-- A message that an entry takes after a history of a run.
module _ (setup : Setup) (history : List Entry) (entry : Entry) (message : Message) (sound : Sound setup history) (agree : LoansAgree setup history)
    (shares : (replica : ℕ) → KeepsShares setup replica (part_of history replica)) (lawful : IsLawful setup history entry) (takes : taken_by entry ≡ Some message) where
  abbrev taker : ℕ
  taker = entry.replica

  abbrev its_part : List Entry
  its_part = part_of history entry.replica

  was_sent : (P : Message → Type 0) → All P (sent_in (part_of history message.from)) → P message
  was_sent P all = All-contains P (sent_in (part_of history message.from)) message all (taken_was_sent history entry.act message lawful.sent takes)

  sent : IsSoundMessage history message.from message
  sent = was_sent (IsSoundMessage history message.from) (sound.sent message.from)

  in_range : IsMessageInRange setup message
  in_range = taken_in_range setup taker entry.act message lawful.due.in_range.act takes

  addressed : message.to ≡ taker
  addressed = taken_is_addressed setup taker its_part entry.moment entry.act message lawful.due.act takes

  other_sender : taker ≡ message.from → ⊥
  other_sender same = in_range.others (sym (addressed ∙ same))

  own_have : told_have message taker ≤ have taker its_part taker
  own_have =
      let here : have taker its_part taker ≡ length (own its_part) = ap length (log_of-same taker its_part) in
      omega (arith, here, (sent.told taker).have, Sound-have setup history sound message.from taker)

  returned : (conit : ℕ)
      → slice_index message.returned conit ≤ lent setup taker its_part message.from conit
  returned conit =
      let tells = (was_sent (TellsOfLoans setup history message.from) (agree.sent message.from)).returned conit in
      let told : slice_index message.returned conit ≤ _ = subst (λ to. slice_index message.returned conit ≤ returned_to (part_of history message.from) to conit) addressed tells in
      omega (arith, told, ((shares message.from).each taker conit lawful.due.in_range.replica other_sender).covered, agree.lent message.from taker conit)

  -- The writes that it adds of an origin.
  module _ (origin : ℕ) (within : origin < setup.replicas) (reaches : told_first message origin ≤ have taker its_part origin) where
    abbrev told : List Write
    told = told_writes message origin

    abbrev lacked : ℕ
    lacked = have taker its_part origin - told_first message origin

    -- they have indices past the log
    past_log : All (λ (write : Write). have taker its_part origin ≤ write.index) (drop lacked told)
    past_log k d inside =
        let few : lacked + k < length told = omega (arith, inside, length-drop lacked told) in
        let index = λ (write : Write). write.index in
        let same : (get_or told (lacked + k) d).index ≡ told_first message origin + (lacked + k) =
        sym (get_or-map index told (lacked + k) d 0 few)
        ∙ ap (λ places. get_or places (lacked + k) 0) (in_range.told origin within).indices
        ∙ get_or-range_with_len (told_first message origin) (length told) (lacked + k) 0 few in
        let at : get_or (drop lacked told) k d ≡ get_or told (lacked + k) d = get_or-drop lacked told k d in
        omega (arith, same, ap index at)

    -- so they are later than the cover, which vouches for all before them
    past_point : All (λ (write : Write). point setup taker its_part < write.stamp) (drop lacked told)
    past_point k d inside =
        let cover = cover_of taker its_part 0 origin in
        let vouches = Sound-cover setup history sound taker origin 0 (omega arith) in
        let IsAfter = λ (write : Write). cover.count ≤ write.index → (cover.stamp < write.stamp) × (cover.moment ≤ write.moment) in
        let of_told : All IsAfter told = IsPrefix-All IsAfter told (drop (told_first message origin) (own (part_of history origin))) (sent.told origin).writes
        (All-drop IsAfter (told_first message origin) (own (part_of history origin)) vouches.later) in
        let after = (All-drop IsAfter lacked told of_told k d inside) (omega (arith, Sound-count setup history sound taker origin 0, past_log k d inside)) in
        lt_of_le_of_lt (point-le setup taker its_part origin within) after.0

    within_stamp : All (λ (write : Write). write.stamp ≤ (told_cover message message.from).stamp) (drop lacked told)
    within_stamp =
        let IsBelow = λ (write : Write). write.stamp ≤ (told_cover message message.from).stamp in
        All-drop IsBelow lacked told (All-filter (λ (write : Write). write.origin == origin) IsBelow message.writes sent.stamps)

    stamps : All (λ (write : Write). (point setup taker its_part < write.stamp) × (write.stamp ≤ (told_cover message message.from).stamp)) (added taker its_part message origin)
    stamps k d inside = (past_point k d inside, within_stamp k d inside)

  pub Fits-taken : Fits setup taker its_part message
  Fits-taken = record {
    in_range = in_range;
    addressed = addressed;
    own_have = own_have;
    returned = λ conit within. returned conit;
    stamps = stamps;
  }

-- what follows fits, whatever its act is
FitsIfTaken-from : (setup : Setup) (replica : ℕ) (part : List Entry) (done : Act)
    → ((message : Message) → taken_by_act done ≡ Some message → Fits setup replica part message)
    → FitsIfTaken setup replica part done
FitsIfTaken-from setup replica part (act.Take message) fits = fits message refl
FitsIfTaken-from setup replica part (act.Call client number asked given) fits = tt
FitsIfTaken-from setup replica part (act.Send message) fits = tt
FitsIfTaken-from setup replica part (act.Lend to conit amount) fits = tt
FitsIfTaken-from setup replica part (act.Back owner conit amount) fits = tt
FitsIfTaken-from setup replica part act.Restart fits = tt

-- Each part of a run is one that can be.
pub IsPart-from : (setup : Setup)
    → ((history : List Entry) → IsRun setup history → (replica : ℕ) → KeepsShares setup replica (part_of history replica))
    → (history : List Entry)
    → IsRun setup history
    → (replica : ℕ)
    → IsPart setup replica (part_of history replica)
IsPart-from setup shares =
    over_runs setup (λ history. (replica : ℕ) → IsPart setup replica (part_of history replica)) (λ replica. EachAfter-nil (MayFollow setup replica))
    (λ before entry run lawful parts.
    part_of-push_cases before entry (IsPart setup)
    (EachAfter-push (MayFollow setup entry.replica) (part_of before entry.replica) entry (parts entry.replica) (
      refl,
      lawful.due,
      FitsIfTaken-from setup entry.replica (part_of before entry.replica) entry.act (λ message takes.
          Fits-taken setup before entry message (Sound-run setup before run) (LoansAgree-run setup before run) (shares before run) lawful takes),
    ))
    parts)
