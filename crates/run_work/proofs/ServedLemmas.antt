-- That a plan is served by a whole history, from what its clients' notes have seen.
use Rattle.std.proofs.Common.{◌≡◌, ◌≢◌, ℕ, ◌<◌, ◌≤◌, suc, Bool, true, false, List, [], ◌∷◌, ◌++◌, All, Some, None, get_or, length, refl, sym, ap, ◌∙◌, subst, subst₂, inl, inr, ⊎_elim, arith}
use Rattle.std.specs.List.{AllZip, list_any}
use Rattle.std.proofs.lemmas.Bool.{and_parts, eq-eqb, eqb-true, false_from_ne_true}
use Rattle.std.proofs.lemmas.List.{append_assoc, length-append, nil_from_length}
use Rattle.std.proofs.lemmas.List.Elements.{All-cons, All-nil, Contains-append_left}
use Rattle.tact_base.specs.Setup.{Setup}
use Rattle.link_faults.specs.Plans.{no_faults}
use Rattle.run_model.specs.Histories.{IsPrefix, calls_of, is_call_of}
use Rattle.run_model.specs.declared.entry.Act.{Act}
use Rattle.run_model.specs.declared.entry.Act.TheVariants as act
use Rattle.run_model.specs.declared.entry.Entry.{Entry}
use Rattle.run_model.proofs.PrefixLemmas.{IsPrefix-trans}
use Rattle.run_history.specs.Seats.{NoteView}
use Rattle.work_load.specs.Attempts.{is_call}
use Rattle.work_load.specs.Clients.{is_of}
use Rattle.work_load.specs.Workloads.{Workload}
use Rattle.work_load.specs.declared.plan.Client.{Client}
use Rattle.work_load.specs.declared.plan.Item.{Item}
use Rattle.run_work.specs.Served.{AreObeyed, IsHeeded, IsSending, IsServed, IsSettled, wish_in}
use Rattle.run_work.specs.Serving.{IsClientServed}
use Rattle.run_work.specs.Settling.{HasMet}
use Rattle.run_work.proofs.Heeding.{AreHeeded-on, IsSending-on, calls_of-append, has_call, none_behind}
use Rattle.run_work.proofs.Obeying.{AreObeyed-on}
use Rattle.run_work.proofs.Zips.{AllZip-at}

-- the client of an act whose reply names another replica
caller : (done : Act) (wish : ℕ) → wish_in done ≡ Some wish → (client : ℕ) × (is_call_of client done ≡ true)
caller (act.Call client number request reply) wish is = (client, eq-eqb client client refl)
caller (act.Send message) wish is = absurd cc
caller (act.Take message) wish is = absurd cc
caller (act.Lend to conit amount) wish is = absurd cc
caller (act.Back owner conit amount) wish is = absurd cc
caller act.Restart wish is = absurd cc

-- a client that is among clients stands at a place
client_at : (clients : List Client) (replica number : ℕ)
    → list_any (is_of replica number) clients ≡ true
    → (at : ℕ) × (at < length clients) × ((none : Client) → ((get_or clients at none).replica ≡ replica) × ((get_or clients at none).client ≡ number))
client_at [] replica number among = absurd cc
client_at (client ∷ clients) replica number among = go (is_of replica number client) refl (client_at clients replica number)
  where
    go : (is : Bool)
        → is_of replica number client ≡ is
        → (list_any (is_of replica number) clients ≡ true → (at : ℕ) × (at < length clients) × ((none : Client) → ((get_or clients at none).replica ≡ replica) × ((get_or clients at none).client ≡ number)))
        → (at : ℕ) × (at < length (client ∷ clients)) × ((none : Client) → ((get_or (client ∷ clients) at none).replica ≡ replica) × ((get_or (client ∷ clients) at none).client ≡ number))
    go true is later =
        let parts = and_parts _ _ is in
        (0, omega arith, λ none. (eqb-true client.replica replica parts.0, eqb-true client.client number parts.1))
    go false is later =
        let rest = later (rw (is) at among) in
        (suc rest.0, omega (arith, rest.1), rest.2)

-- what holds no call of any client holds no call
call_of : (done : Act) → is_call done ≡ true → (client : ℕ) × (is_call_of client done ≡ true)
call_of (act.Call client number request reply) is = (client, eq-eqb client client refl)
call_of (act.Send message) is = absurd cc
call_of (act.Take message) is = absurd cc
call_of (act.Lend to conit amount) is = absurd cc
call_of (act.Back owner conit amount) is = absurd cc
call_of act.Restart is = absurd cc

none_after : (first rest : List Entry) (replica client : ℕ)
    → calls_of (first ++ rest) replica client ≡ []
    → calls_of rest replica client ≡ []
none_after first rest replica client none =
    nil_from_length (calls_of rest replica client)
    (omega (arith, ap length (sym (calls_of-append first rest replica client) ∙ none), length-append (calls_of first replica client) (calls_of rest replica client)))

no_call_in : (rest : List Entry)
    → ((replica client : ℕ) → calls_of rest replica client ≡ [])
    → All (λ (entry : Entry). is_call entry.act ≡ false) rest
no_call_in [] none = All-nil (λ (entry : Entry). is_call entry.act ≡ false)
no_call_in (entry ∷ rest) none =
    All-cons (λ (entry : Entry). is_call entry.act ≡ false) entry rest
    (false_from_ne_true (is_call entry.act)
    (λ is. let called = call_of entry.act is in has_call [] rest entry entry.replica called.0 refl called.1 (none entry.replica called.0)))
    (no_call_in rest (λ replica client. none_after (entry ∷ []) rest replica client (none replica client)))

module _ (plan : Workload) (history : List Entry) (notes : List NoteView) (no_note : NoteView)
    (noted : (at : ℕ) (no_client : Client) (no_note : NoteView) → at < length plan.clients → at < length notes
    → (let client = get_or plan.clients at no_client in calls_of history client.replica client.client ≡ calls_of (get_or notes at no_note).seen client.replica client.client))
    (no_calls : (replica number : ℕ) → list_any (is_of replica number) plan.clients ≡ false → calls_of history replica number ≡ [])
    (heard : All (λ (note : NoteView). IsPrefix note.seen history) notes)
    (served : AllZip (λ (client : Client) (note : NoteView). IsClientServed plan.setup client note.seen) plan.clients notes) where
  abbrev Served : Client → NoteView → Type 0
  Served client note = IsClientServed plan.setup client note.seen

  -- all calls of the clients are heeded, and there are no others
  heeded_all : (replica : ℕ) → IsHeeded history replica
  heeded_all replica front rest call wish is at names =
      let called = caller call.act wish names in
      go called.0 called.1 (list_any (is_of replica called.0) plan.clients) refl
    where
      go : (number : ℕ)
          → is_call_of number call.act ≡ true
          → (among : Bool)
          → list_any (is_of replica number) plan.clients ≡ among
          → IsSending rest replica wish
      go number own false none =
          absurd (has_call front rest call replica number at own (ap (λ (list : List Entry). calls_of list replica number) (sym is) ∙ no_calls replica number none))
      go number own true among =
          let no_client : Client = record { replica = 0; client = 0; items = [] } in
          let place = client_at plan.clients replica number among in
          let zip = AllZip-at Served plan.clients notes place.0 no_client no_note served place.1 in
          let client : Client = get_or plan.clients place.0 no_client in
          let note : NoteView = get_or notes place.0 no_note in
          let same = place.2 no_client in
          let told : IsPrefix note.seen history = heard place.0 no_note zip.0 in
          let here : calls_of history client.replica client.client ≡ calls_of note.seen client.replica client.client = noted place.0 no_client no_note place.1 zip.0 in
          let none : calls_of told.0 client.replica client.client ≡ [] =
          none_behind note.seen told.0 client.replica client.client (ap (λ (list : List Entry). calls_of list client.replica client.client) (sym told.1) ∙ here) in
          ⊎_elim
          (λ (sending : IsSending rest client.replica wish). subst (λ (r : ℕ). IsSending rest r wish) same.0 sending)
          (λ (owed : None ≡ Some wish). absurd cc)
          (AreHeeded-on None client.replica client.client note.seen told.0 none zip.1.heeded front rest call wish (sym told.1 ∙ is) (at ∙ sym same.0)
          (subst (λ (k : ℕ). is_call_of k call.act ≡ true) (sym same.1) own) names)

  -- the loans and restarts of each client's items are made
  obeyed_all : All (λ (client : Client). AreObeyed plan.setup client.replica client.items history) plan.clients
  obeyed_all at no_client within =
      let zip = AllZip-at Served plan.clients notes at no_client no_note served within in
      let client : Client = get_or plan.clients at no_client in
      AreObeyed-on plan.setup client.replica client.items (get_or notes at no_note).seen history (heard at no_note zip.0) zip.1.obeyed

  -- behind what all notes have seen there is no call
  module _ (front : List Entry) (noted_front : All (λ (note : NoteView). IsPrefix note.seen front) notes) where
    none_of : (before rest : List Entry)
        → IsPrefix front before
        → history ≡ before ++ rest
        → (replica number : ℕ) → calls_of rest replica number ≡ []
    none_of before rest behind is replica number = go (list_any (is_of replica number) plan.clients) refl
      where
        go : (among : Bool) → list_any (is_of replica number) plan.clients ≡ among → calls_of rest replica number ≡ []
        go false none =
            none_after before rest replica number (ap (λ (list : List Entry). calls_of list replica number) (sym is) ∙ no_calls replica number none)
        go true among =
            let no_client : Client = record { replica = 0; client = 0; items = [] } in
            let place = client_at plan.clients replica number among in
            let zip = AllZip-at Served plan.clients notes place.0 no_client no_note served place.1 in
            let note : NoteView = get_or notes place.0 no_note in
            let same = place.2 no_client in
            let told : IsPrefix note.seen before = IsPrefix-trans note.seen front before (noted_front place.0 no_note zip.0) behind in
            let here : calls_of history replica number ≡ calls_of note.seen replica number =
            subst₂ (λ (r k : ℕ). calls_of history r k ≡ calls_of note.seen r k) same.0 same.1 (noted place.0 no_client no_note place.1 zip.0) in
            let whole : history ≡ note.seen ++ (told.0 ++ rest) = is ∙ ap (λ (list : List Entry). list ++ rest) told.1 ∙ append_assoc note.seen told.0 rest in
            none_after told.0 rest replica number
            (none_behind note.seen (told.0 ++ rest) replica number (ap (λ (list : List Entry). calls_of list replica number) (sym whole) ∙ here))

    IsSettled-met : (lose : ℕ) (seen : List Entry) (from to : ℕ)
        → IsPrefix seen history
        → HasMet lose front seen from to
        → IsSettled lose history from to
    unfolding IsSending-on
    IsSettled-met lose seen from to (more, is) met =
        subst (λ (whole : List Entry). IsSettled lose whole from to) (sym is)
        (record {
          sending = sending;
          last = no_call_in sending.after
              (λ replica number.
              none_after (sending.sent ∷ []) sending.after replica number
              (none_of sending.before (sending.sent ∷ sending.after) met.behind (is ∙ sending.all) replica number));
          taken = λ none.
              let taken = met.taken none in
              (taken.0, Contains-append_left met.sending.after more taken.0 taken.1, taken.2, taken.3);
        })
      where
        sending : IsSending (seen ++ more) from to
        sending = IsSending-on seen more from to met.sending

  -- the plan is served
  pub IsServed-noted : (plan.settle ≢ 0 → (front seen : List Entry) × All (λ (note : NoteView). IsPrefix note.seen front) notes × IsPrefix seen history
      × ((from to : ℕ) → from < plan.setup.replicas → to < plan.setup.replicas → from ≢ to → HasMet (get_or plan.links to no_faults).lose front seen from to))
      → IsServed plan history
  IsServed-noted met = record {
    heeded = heeded_all;
    obeyed = obeyed_all;
    settled = λ some from to from_is to_is apart.
        let (front, seen, noted_front, told, each) = met some in
        IsSettled-met front noted_front (get_or plan.links to no_faults).lose seen from to told (each from to from_is to_is apart);
  }
