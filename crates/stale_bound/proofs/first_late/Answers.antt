use Rattle.std.proofs.Common.{rules, tests, ◌≡◌, ℕ, Bool, ◌&&◌, ◌==◌, not, nat_lt, Option, Some, None, ap, refl, ◌∙◌}
use Rattle.std.specs.Borrow.{Bor}
use Rattle.std.specs.List.{enumerate_from, find}
use Rattle.std.specs.Option.{option_map}
use Rattle.std.proofs.lemmas.Iterator.{YieldsList-from_slice}
use Rattle.std.proofs.lemmas.Iterator.Consumers.{YieldsList-from_enumerate, YieldsList-at}
use Rattle.std.proofs.lemmas.Iterator.Search.{find_from_yields_List}
use Rattle.tact_base.specs.declared.write.Cover.{Cover}
use Rattle.tact_base.specs.declared.write.Late.{Late}
use Rattle.stale_bound.proofs.first_late.Goals as goal

-- what is answered of a late peer
abbrev late_of : ℕ × Cover → Late
late_of peer = record { replica = peer.0; moment = peer.1.moment }

late_of-shown : (r : Option (ℕ × Bor Cover))
    → option_map (λ (p : ℕ × Bor Cover). late_of (p.0, p.1.now)) r ≡ option_map late_of (option_map (λ (p : ℕ × Bor Cover). (p.0, p.1.now)) r)
late_of-shown None = refl
late_of-shown (Some p) = refl

pub returns : goal.returns
returns c =
    let covers = c.args.covers.now in
    let is_late : ℕ × Cover → Bool = λ peer. not (peer.0 == c.args.replica) && nat_lt peer.1.moment c.args.wanted in
    let found : option_map (λ (p : ℕ × Bor Cover). (p.0, p.1.now)) c.find.result ≡ find is_late (enumerate_from 0 covers) =
    find_from_yields_List is_late _ _ c.find.result c.find.ensures.ran
    (YieldsList-from_enumerate (YieldsList-at c.enumerate.ensures.source (YieldsList-from_slice covers cc)) c.enumerate.ensures.count)
    (λ x b q k. search (rules, tests)) in
    let mapped : c.map.result ≡ option_map (λ (p : ℕ × Bor Cover). late_of (p.0, p.1.now)) c.find.result = search rules in
    mapped ∙ late_of-shown c.find.result ∙ ap (option_map late_of) found
