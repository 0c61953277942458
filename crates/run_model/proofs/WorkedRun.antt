-- A run that is worked out: a write is accepted, sent and taken, and is committed at the replica that took it. So there
-- are runs, and what is said of them says something.
use Rattle.std.proofs.Common.{◌≡◌, ℕ, zero, suc, ◌<◌, ◌≤◌, pos, List, [], ◌∷◌, refl, lit<, lit≤, arith}
use Rattle.std.proofs.lemmas.List.Elements.{All-nil, All-cons}
use Rattle.tact_base.specs.declared.limits.TheConstants.{LENT_MAX}
use Rattle.tact_base.specs.declared.conit_list.Weight.{Weight}
use Rattle.tact_base.specs.declared.write.Op.TheVariants as op
use Rattle.tact_base.specs.declared.write.Write.{Write}
use Rattle.tact_base.specs.Setup.{Setup, setup, config_fault, IsSetup}
use Rattle.run_model.specs.Histories.{part_of}
use Rattle.run_model.specs.Messages.{message_of}
use Rattle.run_model.specs.Order.{committed, value}
use Rattle.run_model.specs.Ranges.{IsToldInRange, IsMessageInRange, IsWriteInRange, IsWeightInRange, AreWeightsInRange}
use Rattle.run_model.specs.Runs.{IsLawful, IsRun}
use Rattle.run_model.specs.declared.call.Request.TheVariants as request
use Rattle.run_model.specs.declared.call.Reply.TheVariants as reply
use Rattle.run_model.specs.declared.entry.Act.TheVariants as act
use Rattle.run_model.specs.declared.entry.Entry.{Entry}
use Rattle.run_model.specs.declared.entry.Message.{Message}
use Rattle.run_model.proofs.PrefixLemmas.{EachAfter-nil, EachAfter-push}

-- two replicas and one conit, of which each lends the other 5 of its 10
abbrev two_replicas : Setup
two_replicas = setup 2 1 (10 ∷ 10 ∷ []) (0 ∷ 5 ∷ 5 ∷ 0 ∷ [])

is_setup : IsSetup two_replicas
unfolding config_fault
is_setup = refl

abbrev weight : Weight
weight = record { conit = 0; nweight = pos 5; oweight = 1 }

-- replica 0 accepts a write of all that is lent to it
abbrev accepts : Entry
accepts = record { replica = 0; moment = 3; act = act.Call 0 0 (request.Write (weight ∷ []) (op.Add 7 (pos 1))) (reply.Done 0 1) }

abbrev write : Write
write = record { origin = 0; index = 0; stamp = 1; moment = 3; weights = weight ∷ []; op = op.Add 7 (pos 1) }

-- it sends what it has to replica 1, which takes it; the moments of the two aren't compared
abbrev message : Message
message = message_of two_replicas 0 (accepts ∷ []) 4 1 (0 ∷ 0 ∷ [])

abbrev sends : Entry
sends = record { replica = 0; moment = 4; act = act.Send message }

abbrev takes : Entry
takes = record { replica = 1; moment = 2; act = act.Take message }

abbrev history : List Entry
history = accepts ∷ sends ∷ takes ∷ []

-- the write is committed there, and counts
is_committed : committed two_replicas 1 (part_of history 1) ≡ write ∷ []
is_committed = refl

is_counted : value two_replicas 1 (part_of history 1) 0 ≡ pos 5
is_counted = refl

weights_in_range : AreWeightsInRange two_replicas (weight ∷ [])
weights_in_range = record {
  each = All-cons (IsWeightInRange two_replicas) weight [] (record { conit = lit< tt; nweight = lit≤ tt; oweight = lit≤ tt }) (All-nil (IsWeightInRange two_replicas));
  listed = refl;
}

told_in_range : (origin : ℕ) → origin < 2 → IsToldInRange message origin
told_in_range zero within = record {
  have = lit≤ tt;
  count = lit≤ tt;
  stamp = lit≤ tt;
  moment = lit≤ tt;
  first = lit≤ tt;
  told = lit≤ tt;
  receiver = λ same. absurd (omega arith);
  indices = refl;
}
told_in_range (suc zero) within = record {
  have = lit≤ tt;
  count = lit≤ tt;
  stamp = lit≤ tt;
  moment = lit≤ tt;
  first = lit≤ tt;
  told = lit≤ tt;
  receiver = λ same. refl;
  indices = refl;
}
told_in_range (suc (suc origin)) within = absurd (omega arith)

message_in_range : IsMessageInRange two_replicas message
message_in_range = record {
  from = lit< tt;
  to = lit< tt;
  others = omega arith;
  number = lit< tt;
  haves = refl;
  covers = refl;
  firsts = refl;
  lent = refl;
  returned = refl;
  told = told_in_range;
  lent_most = All-cons (λ number. number ≤ LENT_MAX) 5 [] (lit≤ tt) (All-nil (λ number. number ≤ LENT_MAX));
  returned_most = All-cons (λ number. number ≤ LENT_MAX) 0 [] (lit≤ tt) (All-nil (λ number. number ≤ LENT_MAX));
  few = lit≤ tt;
  placed = refl;
  writes = All-cons (IsWriteInRange two_replicas) write []
      (record { stamp_least = lit≤ tt; stamp_most = lit≤ tt; moment = lit≤ tt; weights = weights_in_range; op = (lit≤ tt, lit≤ tt) }) (All-nil (IsWriteInRange two_replicas));
}

accepts_lawfully : IsLawful two_replicas [] accepts
accepts_lawfully = record {
  due = record {
    room = lit< tt;
    moment = lit≤ tt;
    clock_below = lit< tt;
    in_range = record { replica = lit< tt; moment = lit≤ tt; act = (lit< tt, (weights_in_range, (lit≤ tt, lit≤ tt))) };
    act = (refl, refl);
  };
  sent = tt;
}

sends_lawfully : IsLawful two_replicas (accepts ∷ []) sends
sends_lawfully = record {
  due = record {
    room = lit< tt;
    moment = lit≤ tt;
    clock_below = lit< tt;
    in_range = record { replica = lit< tt; moment = lit≤ tt; act = (message_in_range, refl) };
    act = refl;
  };
  sent = tt;
}

takes_lawfully : IsLawful two_replicas (accepts ∷ sends ∷ []) takes
takes_lawfully = record {
  due = record {
    room = lit< tt;
    moment = lit≤ tt;
    clock_below = lit< tt;
    in_range = record { replica = lit< tt; moment = lit≤ tt; act = (message_in_range, refl) };
    act = refl;
  };
  sent = (0, lit< tt, refl);
}

is_run : IsRun two_replicas history
is_run =
    EachAfter-push (IsLawful two_replicas) (accepts ∷ sends ∷ []) takes
    (EachAfter-push (IsLawful two_replicas) (accepts ∷ []) sends
    (EachAfter-push (IsLawful two_replicas) [] accepts (EachAfter-nil (IsLawful two_replicas)) accepts_lawfully) sends_lawfully) takes_lawfully
