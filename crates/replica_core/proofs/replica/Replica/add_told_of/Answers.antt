use Rattle.std.proofs.Common.{◌≡◌, ◌<◌, ◌≤◌, ◌-◌, All, length, drop, sym, ap, ◌∙◌, subst, arith}
use Rattle.tact_base.specs.declared.limits.TheConstants.{HISTORY_MAX}
use Rattle.tact_base.specs.declared.write.Write.{Write}
use Rattle.replica_core.specs.States.{ReplicaState, AreNext, log_at}
use Rattle.replica_core.proofs.AddingNext.{AreNext-lacking}
use Rattle.replica_core.proofs.replica.Replica.add_told_of.Goals as goal

pub add_next-requires-clause-next : goal.add_next-requires-clause-next
add_next-requires-clause-next c =
    let conits = c.args.self.now.core.setup.conits in
    let have = length (log_at c.args.self.now.core c.args.origin) in
    let count : c.count-have.result ≡ have = c.count-have.ensures ∙ ap (λ (s : ReplicaState). length (log_at s.core c.args.origin)) c.self.view_is in
    let short : have ≤ HISTORY_MAX = subst (λ (s : ReplicaState). length (log_at s.core c.args.origin) ≤ HISTORY_MAX) c.self.view_is (c.self.invariant.0.few.each c.args.origin) in
    subst (AreNext conits c.args.origin have) (sym (c.lacking.ensures ∙ ap (λ n. drop (n - c.args.first) c.args.told.now) count))
    (AreNext-lacking conits c.args.origin c.args.first have c.args.told.now c.requires.told (omega (arith, c.if-first-have.true, count)) short)

pub add_next-requires-clause-past : goal.add_next-requires-clause-past
add_next-requires-clause-past c =
    let have = length (log_at c.args.self.now.core c.args.origin) in
    let count : c.count-have.result ≡ have = c.count-have.ensures ∙ ap (λ (s : ReplicaState). length (log_at s.core c.args.origin)) c.self.view_is in
    subst (All (λ (write : Write). c.args.self.now.core.writes.point < write.stamp)) (sym (c.lacking.ensures ∙ ap (λ n. drop (n - c.args.first) c.args.told.now) count))
    (c.requires.past (omega (arith, c.if-first-have.true, count)))
