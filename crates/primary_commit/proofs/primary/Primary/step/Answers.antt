use Rattle.std.proofs.Common.{◌≡◌, ℕ, ◌<◌, ◌∷◌, [], ◌++◌, List, ap, length, subst, subst₂, sym, ◌∙◌}
use Rattle.primary_commit.specs.Happenings.{Happened, HasLeft, MayHappen}
use Rattle.primary_commit.specs.Networks.{MayFollow, Network, after_event}
use Rattle.primary_commit.specs.declared.items.Notice.{Notice}
use Rattle.primary_commit.specs.declared.primary.Event.{Event}
use Rattle.primary_commit.specs.declared.primary.TheConstants.{EVENTS_MAX}
use Rattle.primary_commit.proofs.Stepping.{HasLeft-more, IsAgreed-left, MayHappen-left, count-more}
use Rattle.primary_commit.proofs.primary.Primary.step.Goals as goal
use Rattle.primary_commit.proofs.primary.Primary.step.Goals.{After-push}

pub returns-in_err-kept-clause-agreed : goal.returns-in_err-kept-clause-agreed
returns-in_err-kept-clause-agreed c = rw (← c.self.view_is) (IsAgreed-left _ _ c.self.invariant)

pub returns-in_err-reserve-clause-agreed : goal.returns-in_err-reserve-clause-agreed
returns-in_err-reserve-clause-agreed c = rw (c.reserve.ensures.items) (IsAgreed-left _ _ c.self.invariant)

pub returns-in_err-reserve-2-clause-agreed : goal.returns-in_err-reserve-2-clause-agreed
returns-in_err-reserve-2-clause-agreed c = rw (c.reserve.ensures.items) (IsAgreed-left _ _ c.self.invariant)

pub happen-requires-clause-may : goal.happen-requires-clause-may
happen-requires-clause-may c =
    subst (λ (notices : List Notice). MayHappen c.self.inside.peers.items notices c.args.event.now) (sym c.in_ok-reserve-2.ensures.items)
    (MayHappen-left _ _ c.self.invariant c.args.event.now
    (subst (λ (h : Happened). MayFollow h.n h.events c.args.event.now) (sym c.self.view_is) c.requires.may)
    (subst (λ (h : Happened). length h.events < EVENTS_MAX) (sym c.self.view_is) c.requires.few))

pub returns-in_err-happen-clause-agreed : goal.returns-in_err-happen-clause-agreed
returns-in_err-happen-clause-agreed c = rw (c.in_err-happen.ensures.err.0, c.reserve.ensures.items) (IsAgreed-left _ _ c.self.invariant)

-- what is left once it has happened
left_now : (c : After-push)
    → HasLeft (let now : Happened = record { n = length c.happen.new.peers.items; events = c.push.new.self.items } in now)
    (let network : Network = record { peers = c.happen.new.peers.items; notices = c.happen.new.notices.items } in network)
left_now c =
    let after : Network = record { peers = c.happen.new.peers.items; notices = c.happen.new.notices.items } in
    let may = subst (λ (h : Happened). MayFollow h.n h.events c.args.event.now) (sym c.self.view_is) c.requires.may in
    let few = subst (λ (h : Happened). length h.events < EVENTS_MAX) (sym c.self.view_is) c.requires.few in
    let is = c.in_ok-happen.ensures.happened
    ∙ ap (λ (notices : List Notice). let network : Network = record { peers = c.self.inside.peers.items; notices = notices } in after_event network c.args.event.now) c.in_ok-reserve-2.ensures.items in
    let events : c.push.new.self.items ≡ c.self.inside.events.items ++ c.args.event.now ∷ [] =
    c.push.ensures.items ∙ ap (λ (all : List Event). all ++ c.in_ok-kept.kept ∷ []) c.in_ok-reserve.ensures.items
    ∙ ap (λ (event : Event). c.self.inside.events.items ++ event ∷ []) c.in_ok-kept.ensures in
    subst₂ (λ (n : ℕ) (all : List Event). HasLeft (record { n = n; events = all }) after)
    (sym (count-more _ _ c.self.invariant c.args.event.now may few after is)) (sym events)
    (HasLeft-more _ _ c.self.invariant c.args.event.now may few after is)

pub invariant_of-self-2 : goal.invariant_of-self-2
invariant_of-self-2 c = left_now c

pub returns-clause-agreed : goal.returns-clause-agreed
returns-clause-agreed c = IsAgreed-left _ _ (left_now c)
