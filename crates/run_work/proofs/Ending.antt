-- What ends the nodes of a run, as clients are seated and as their sessions come back one by one.
use Rattle.std.proofs.Common.{◌≡◌, ℕ, ◌<◌, true, false, List, [], ◌∷◌, ◌++◌, All, Contains, get_or, set, take, length, map, append-nil, append_assoc, zero, suc}
use Rattle.std.proofs.Common.{refl, sym, ap, ◌∙◌, subst, ⊎_elim, arith}
use Rattle.std.specs.List.{list_any}
use Rattle.std.proofs.lemmas.Bool.{cases_eq, false≢true}
use Rattle.std.proofs.lemmas.List.{get_or-map, get_or-set_other, get_or-set_same, length-map, length-set, map_push}
use Rattle.std.proofs.lemmas.List.Elements.{All-push}
use Rattle.tact_base.proofs.ElementLemmas.{Contains-first, Contains-later}
use Rattle.run_model.specs.Histories.{calls_of}
use Rattle.run_history.specs.Seats.{NoteView}
use Rattle.replica_lock.specs.Rosters.{IsRosterOf, RosterView}
use Rattle.replica_lock.specs.Sessions.{IsAtNode, NodeView, SessionView, own_calls}
use Rattle.run_model.specs.declared.entry.Entry.{Entry}
use Rattle.work_load.specs.Clients.{is_of}
use Rattle.work_load.specs.Entries.{EachAfter}
use Rattle.work_load.specs.Ranges.{IsClientAfter}
use Rattle.work_load.specs.declared.plan.Client.{Client}
use Rattle.run_work.specs.Ends.{AreEnds, AreWhole, HasCome, HaveRosters, IsEnd, clients_at, noted_calls}
use Rattle.run_work.specs.Sites.{SitesView}
use Rattle.run_work.specs.declared.seat.End.{End}
use Rattle.run_work.proofs.Noted.{clients_at-here, clients_at-elsewhere, is_of-among, is_of-itself, noted_calls-before, noted_calls-new}

-- when all clients' sessions are back, the ends are whole
pub AreWhole-back : (clients : List Client) (notes : List NoteView) (sites : SitesView) (ends : List End)
    → AreEnds clients clients notes sites ends
    → AreWhole clients notes sites.nodes ends
AreWhole-back clients notes sites ends are = record {
  count = are.count;
  each = λ replica no_node no_end within.
      let is = are.each replica no_node no_end within in
      record {
        roster = is.roster;
        sessions = is.sessions;
        whole = is.back_are ∙ sym is.seated_are;
        among = λ number. subst (λ (numbers : List ℕ). Contains numbers number) (sym is.seated_are);
        calls = is.calls;
      };
}

-- each entry of a list fits after those before it
pub each_at : {A : Type 0} (fits : List A → A → Type 0) (before list : List A) (at : ℕ) (d : A)
    → EachAfter fits before list
    → at < length list
    → fits (before ++ take at list) (get_or list at d)
each_at fits before [] at d each within = absurd (omega arith)
each_at fits before (first ∷ rest) zero d each within = subst (λ (front : List _). fits front first) (sym (append-nil before)) each.0
each_at fits before (first ∷ rest) (suc at) d each within =
    subst (λ (front : List _). fits front (get_or rest at d)) (append_assoc before (first ∷ []) (take at rest))
    (each_at fits (before ++ first ∷ []) rest at d each.1 (omega arith))

pub each_mid : {A : Type 0} (fits : List A → A → Type 0) (front before : List A) (one : A) (after : List A)
    → EachAfter fits front (before ++ one ∷ after)
    → fits (front ++ before) one
each_mid fits front [] one after each = subst (λ (all : List _). fits all one) (sym (append-nil front)) each.0
each_mid fits front (first ∷ before) one after each =
    subst (λ (all : List _). fits all one) (append_assoc front (first ∷ []) before) (each_mid fits (front ++ first ∷ []) before one after each.1)

-- a client of a plan is none of those before it
pub client_at : (replicas conits : ℕ) (clients : List Client) (at : ℕ) (client : Client)
    → EachAfter (IsClientAfter replicas conits) [] clients
    → at < length clients
    → client ≡ get_or clients at client
    → IsClientAfter replicas conits (take at clients) client
client_at replicas conits clients at client each within stands =
    subst (IsClientAfter replicas conits (take at clients)) (sym stands) (each_at (IsClientAfter replicas conits) [] clients at client each within)

-- a client that is none of those seated is in no roster
pub is_free : (seated : List Client) (replica number : ℕ) (numbers : List ℕ)
    → numbers ≡ clients_at seated replica
    → list_any (is_of replica number) seated ≡ false
    → Contains numbers number
    → ⊥
is_free seated replica number numbers are other within =
    false≢true (sym other ∙ is_of-among seated replica number (subst (λ (ns : List ℕ). Contains ns number) are within))

-- one more client is seated at an end, and at another replica's
IsEnd-seated : (clients : List Client) (client : Client) (node : NodeView) (end : End) (roster : RosterView)
    → IsEnd clients [] [] client.replica node end
    → roster ≡ record end.roster { clients = end.roster.clients ++ client.client ∷ [] }
    → IsEnd (clients ++ client ∷ []) [] [] client.replica node (record end { roster = roster })
IsEnd-seated clients client node end roster is now =
    let seats : RosterView = record end.roster { clients = end.roster.clients ++ client.client ∷ [] } in
    let of : IsRosterOf node seats = record { cell = is.roster.cell; desk = is.roster.desk; conits = is.roster.conits; replica = is.roster.replica } in
    record {
      roster = subst (IsRosterOf node) (sym now) of;
      seated_are = ap (λ (r : RosterView). r.clients) now ∙ ap (λ (numbers : List ℕ). numbers ++ client.client ∷ []) is.seated_are ∙ sym (clients_at-here clients client client.replica refl);
      sessions = is.sessions;
      back_are = is.back_are;
      calls = is.calls;
    }

IsEnd-elsewhere : (clients : List Client) (client : Client) (replica : ℕ) (node : NodeView) (end : End)
    → (client.replica ≡ replica → ⊥)
    → IsEnd clients [] [] replica node end
    → IsEnd (clients ++ client ∷ []) [] [] replica node end
IsEnd-elsewhere clients client replica node end elsewhere is = record {
  roster = is.roster;
  seated_are = is.seated_are ∙ sym (clients_at-elsewhere clients client replica elsewhere);
  sessions = is.sessions;
  back_are = is.back_are;
  calls = is.calls;
}

-- one more client is seated
pub AreEnds-seated : (clients : List Client) (sites : SitesView) (ends : List End) (client : Client) (d : End) (roster : RosterView)
    → client.replica < length ends
    → AreEnds clients [] [] sites ends
    → roster ≡ record (get_or ends client.replica d).roster { clients = (get_or ends client.replica d).roster.clients ++ client.client ∷ [] }
    → AreEnds (clients ++ client ∷ []) [] [] sites (set ends client.replica (record (get_or ends client.replica d) { roster = roster }))
AreEnds-seated clients sites ends client d roster there are now =
    let end : End = get_or ends client.replica d in
    let new : End = record end { roster = roster } in
    let size : length (set ends client.replica new) ≡ length ends = length-set ends client.replica new in
    record {
      count = size ∙ are.count;
      each = λ replica no_node no_end within.
          let inside : replica < length ends = omega (arith, size, within) in
          ⊎_elim
          (λ (here : replica ≡ client.replica).
          subst (λ (r : ℕ). IsEnd (clients ++ client ∷ []) [] [] r (get_or sites.nodes r no_node) (get_or (set ends client.replica new) r no_end)) (sym here)
          (subst (IsEnd (clients ++ client ∷ []) [] [] client.replica (get_or sites.nodes client.replica no_node)) (sym (get_or-set_same ends client.replica new no_end there))
          (IsEnd-seated clients client (get_or sites.nodes client.replica no_node) end roster (are.each client.replica no_node d there) now)))
          (λ (other : replica ≡ client.replica → ⊥).
          subst (IsEnd (clients ++ client ∷ []) [] [] replica (get_or sites.nodes replica no_node)) (sym (get_or-set_other ends client.replica replica new no_end other))
          (IsEnd-elsewhere clients client replica (get_or sites.nodes replica no_node) (get_or ends replica no_end) (λ same. other (sym same))
          (are.each replica no_node no_end inside)))
          (cases_eq replica client.replica);
    }

-- a client's session at an end has the number of a client that came back
mapped_at : (sessions : List SessionView) (at : ℕ) (d : SessionView)
    → at < length sessions
    → Contains (map (λ (session : SessionView). session.client) sessions) (get_or sessions at d).client
mapped_at [] at d within = absurd (omega arith)
mapped_at (session ∷ sessions) zero d within = Contains-first session.client session.client (map (λ (s : SessionView). s.client) sessions) refl
mapped_at (session ∷ sessions) (suc at) d within =
    Contains-later session.client (get_or sessions at d).client (map (λ (s : SessionView). s.client) sessions) (mapped_at sessions at d (omega arith))

back_there : (seated back : List Client) (notes : List NoteView) (replica : ℕ) (node : NodeView) (end : End) (at : ℕ) (d : SessionView)
    → IsEnd seated back notes replica node end
    → at < length end.sessions.items
    → list_any (is_of replica (get_or end.sessions.items at d).client) back ≡ true
back_there seated back notes replica node end at d is within =
    let sessions : List SessionView = end.sessions.items in
    is_of-among back replica (get_or sessions at d).client
    (subst (λ (numbers : List ℕ). Contains numbers (get_or sessions at d).client) is.back_are (mapped_at sessions at d within))

-- the calls of those that came back are noted as before
calls_before : (seated back : List Client) (notes : List NoteView) (client : Client) (note : NoteView) (replica : ℕ) (node : NodeView) (end : End)
    → length notes ≡ length back
    → IsEnd seated back notes replica node end
    → All (λ (session : SessionView). own_calls session ≡ noted_calls (back ++ client ∷ []) (notes ++ note ∷ []) replica session.client) end.sessions.items
calls_before seated back notes client note replica node end size is =
    λ at d within.
    is.calls at d within
    ∙ sym (noted_calls-before back notes client note replica (get_or end.sessions.items at d).client size (back_there seated back notes replica node end at d is within))

-- a session has seen the calls of its client that its note has
noted_calls-own : (back : List Client) (notes : List NoteView) (client : Client) (note : NoteView) (session : SessionView)
    → note.seen ≡ session.seen
    → session.replica ≡ client.replica
    → session.client ≡ client.client
    → length notes ≡ length back
    → list_any (is_of client.replica client.client) back ≡ false
    → own_calls session ≡ noted_calls (back ++ client ∷ []) (notes ++ note ∷ []) client.replica session.client
noted_calls-own back notes client note session seen at number size new =
    let calls : own_calls session ≡ calls_of note.seen client.replica client.client =
    ap (λ (front : List Entry). calls_of front session.replica session.client) (sym seen)
    ∙ ap (λ (replica : ℕ). calls_of note.seen replica session.client) at
    ∙ ap (λ (n : ℕ). calls_of note.seen client.replica n) number in
    calls ∙ sym (noted_calls-new back notes client note client.replica client.client size new (is_of-itself client))
    ∙ ap (λ (n : ℕ). noted_calls (back ++ client ∷ []) (notes ++ note ∷ []) client.replica n) (sym number)

-- a session comes back to its end, and to another replica's
module _ (seated back : List Client) (notes : List NoteView) (client : Client) (note : NoteView) (session : SessionView)
    (seen : note.seen ≡ session.seen) (at : session.replica ≡ client.replica) (number : session.client ≡ client.client)
    (size : length notes ≡ length back) (new : list_any (is_of client.replica client.client) back ≡ false) where
  IsEnd-come : (node : NodeView) (before after : End)
      → IsAtNode node session
      → after.roster ≡ before.roster
      → after.sessions.items ≡ before.sessions.items ++ session ∷ []
      → IsEnd seated back notes client.replica node before
      → IsEnd seated (back ++ client ∷ []) (notes ++ note ∷ []) client.replica node after
  IsEnd-come node before after of same items is =
      let IsNoted : SessionView → Type 0 = λ (s : SessionView). own_calls s ≡ noted_calls (back ++ client ∷ []) (notes ++ note ∷ []) client.replica s.client in
      record {
        roster = subst (IsRosterOf node) (sym same) is.roster;
        seated_are = ap (λ (r : RosterView). r.clients) same ∙ is.seated_are;
        sessions = subst (All (IsAtNode node)) (sym items) (All-push (IsAtNode node) before.sessions.items session is.sessions of);
        back_are = ap (map (λ (s : SessionView). s.client)) items
            ∙ map_push (λ (s : SessionView). s.client) before.sessions.items session
            ∙ ap (λ (numbers : List ℕ). numbers ++ session.client ∷ []) is.back_are
            ∙ ap (λ (n : ℕ). clients_at back client.replica ++ n ∷ []) number
            ∙ sym (clients_at-here back client client.replica refl);
        calls = subst (All IsNoted) (sym items)
            (All-push IsNoted before.sessions.items session (calls_before seated back notes client note client.replica node before size is)
            (noted_calls-own back notes client note session seen at number size new));
      }

  IsEnd-kept : (replica : ℕ) (node : NodeView) (end : End)
      → (client.replica ≡ replica → ⊥)
      → IsEnd seated back notes replica node end
      → IsEnd seated (back ++ client ∷ []) (notes ++ note ∷ []) replica node end
  IsEnd-kept replica node end elsewhere is = record {
    roster = is.roster;
    seated_are = is.seated_are;
    sessions = is.sessions;
    back_are = is.back_are ∙ sym (clients_at-elsewhere back client replica elsewhere);
    calls = calls_before seated back notes client note replica node end size is;
  }

  -- so one more session is back
  pub AreEnds-come : (sites : SitesView) (before after : List End)
      → client.replica < length before
      → ((none : NodeView) → IsAtNode (get_or sites.nodes client.replica none) session)
      → AreEnds seated back notes sites before
      → HasCome session client.replica before after
      → AreEnds seated (back ++ client ∷ []) (notes ++ note ∷ []) sites after
  AreEnds-come sites before after there of are come = record {
    count = come.count ∙ are.count;
    each = λ replica no_node no_end within.
        let inside : replica < length before = omega (arith, come.count, within) in
        ⊎_elim
        (λ (here : replica ≡ client.replica).
        subst (λ (r : ℕ). IsEnd seated (back ++ client ∷ []) (notes ++ note ∷ []) r (get_or sites.nodes r no_node) (get_or after r no_end)) (sym here)
        (IsEnd-come (get_or sites.nodes client.replica no_node) (get_or before client.replica no_end) (get_or after client.replica no_end)
        (of no_node) (come.roster no_end) (come.sessions no_end) (are.each client.replica no_node no_end there)))
        (λ (other : replica ≡ client.replica → ⊥).
        subst (IsEnd seated (back ++ client ∷ []) (notes ++ note ∷ []) replica (get_or sites.nodes replica no_node)) (sym (come.others replica no_end other))
        (IsEnd-kept replica (get_or sites.nodes replica no_node) (get_or before replica no_end) (λ same. other (sym same)) (are.each replica no_node no_end inside)))
        (cases_eq replica client.replica);
  }

-- the roster of each node is in its end, while sessions come back and when all have
pub HaveRosters-ends : (seated back : List Client) (notes : List NoteView) (sites : SitesView) (ends : List End)
    → AreEnds seated back notes sites ends
    → HaveRosters sites.nodes ends
HaveRosters-ends seated back notes sites ends are =
    record { count = are.count; each = λ replica no_node no_end within. (are.each replica no_node no_end within).roster }

pub HaveRosters-whole : (clients : List Client) (notes : List NoteView) (nodes : List NodeView) (ends : List End)
    → AreWhole clients notes nodes ends
    → HaveRosters nodes ends
HaveRosters-whole clients notes nodes ends are =
    record { count = are.count; each = λ replica no_node no_end within. (are.each replica no_node no_end within).roster }

-- and where rosters stay
pub HaveRosters-kept : (nodes : List NodeView) (before after : List End)
    → map (λ (end : End). end.roster) after ≡ map (λ (end : End). end.roster) before
    → HaveRosters nodes before
    → HaveRosters nodes after
HaveRosters-kept nodes before after same have =
    let size : length after ≡ length before = sym (length-map after (λ (end : End). end.roster)) ∙ ap length same ∙ length-map before (λ (end : End). end.roster) in
    record {
      count = size ∙ have.count;
      each = λ replica no_node no_end within.
          let inside : replica < length before = omega (arith, within, size) in
          let roster : (get_or after replica no_end).roster ≡ (get_or before replica no_end).roster =
          sym (get_or-map (λ (end : End). end.roster) after replica no_end no_end.roster within)
          ∙ ap (λ (all : List RosterView). get_or all replica no_end.roster) same
          ∙ get_or-map (λ (end : End). end.roster) before replica no_end no_end.roster inside in
          subst (IsRosterOf (get_or nodes replica no_node)) (sym roster) (have.each replica no_node no_end inside);
    }

-- one roster has other clients
pub HaveRosters-set : (nodes : List NodeView) (ends : List End) (at : ℕ) (d : End) (roster : RosterView)
    → at < length ends
    → roster ≡ record (get_or ends at d).roster { clients = roster.clients }
    → HaveRosters nodes ends
    → HaveRosters nodes (set ends at (record (get_or ends at d) { roster = roster }))
HaveRosters-set nodes ends at d roster there same have =
    let new : End = record (get_or ends at d) { roster = roster } in
    let size : length (set ends at new) ≡ length ends = length-set ends at new in
    record {
      count = size ∙ have.count;
      each = λ replica no_node no_end within.
          let inside : replica < length ends = omega (arith, size, within) in
          ⊎_elim
          (λ (here : replica ≡ at).
          let node : NodeView = get_or nodes at no_node in
          let was = have.each at no_node d there in
          let other : RosterView = record (get_or ends at d).roster { clients = roster.clients } in
          let is : IsRosterOf node other = record { cell = was.cell; desk = was.desk; conits = was.conits; replica = was.replica } in
          subst (λ (r : ℕ). IsRosterOf (get_or nodes r no_node) (get_or (set ends at new) r no_end).roster) (sym here)
          (subst (λ (end : End). IsRosterOf node end.roster) (sym (get_or-set_same ends at new no_end there)) (subst (IsRosterOf node) (sym same) is)))
          (λ (other : replica ≡ at → ⊥).
          subst (λ (end : End). IsRosterOf (get_or nodes replica no_node) end.roster) (sym (get_or-set_other ends at replica new no_end other)) (have.each replica no_node no_end inside))
          (cases_eq replica at);
    }
