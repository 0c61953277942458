-- What a peer may miss of a replica's writes, and what is reserved (this project's own rules).
use Rattle.std.specs.Prelude.{ℕ, ◌-◌, ◌==◌, max, nat_le, unsigned_abs, List, filter, sum_by, if◌then◌else◌}
use Rattle.tact_base.specs.Sums.{plus_sum, minus_sum}
use Rattle.tact_base.specs.declared.write.Write.{Write}
use Rattle.run_model.specs.OwnWrites.{own}
use Rattle.run_model.specs.Taking.{known}
use Rattle.run_model.specs.declared.call.Request.{Request}
use Rattle.run_model.specs.declared.call.Request.TheVariants as request
use Rattle.run_model.specs.declared.call.Reply.{Reply}
use Rattle.run_model.specs.declared.call.Reply.TheVariants as reply
use Rattle.run_model.specs.declared.entry.Act.{Act}
use Rattle.run_model.specs.declared.entry.Act.TheVariants as act
use Rattle.run_model.specs.declared.entry.Entry.{Entry}

-- the own writes that a peer isn't known to have
abbrev pub maybe_missed : ℕ → List Entry → ℕ → List Write
maybe_missed replica part peer = filter (λ write. nat_le (known part peer replica) write.index) (own part)

-- the sum of their positive nweights on a conit, and that of the sizes of their negative ones
abbrev pub missing_plus : ℕ → List Entry → ℕ → ℕ → ℕ
missing_plus replica part peer conit = plus_sum (maybe_missed replica part peer) conit

abbrev pub missing_minus : ℕ → List Entry → ℕ → ℕ → ℕ
missing_minus replica part peer conit = minus_sum (maybe_missed replica part peer) conit

abbrev pub greater_missing : ℕ → List Entry → ℕ → ℕ → ℕ
greater_missing replica part peer conit = max (missing_plus replica part peer conit) (missing_minus replica part peer conit)

-- what an answered request reserves on a conit
abbrev pub granted_on : ℕ → Request → Reply → ℕ
granted_on conit (request.Reserve at amount) reply.Granted = if at == conit then amount else 0
granted_on conit _ _ = 0

-- what an answered request takes out of what is reserved on a conit
abbrev pub used_on : ℕ → Request → Reply → ℕ
used_on conit (request.Release at amount) reply.Released = if at == conit then amount else 0
used_on conit (request.Held weight op) (reply.Done index stamp) = if weight.conit == conit then unsigned_abs weight.nweight else 0
used_on conit _ _ = 0

abbrev pub granted_by : ℕ → Act → ℕ
granted_by conit (act.Call client number request reply) = granted_on conit request reply
granted_by conit _ = 0

abbrev pub used_by : ℕ → Act → ℕ
used_by conit (act.Call client number request reply) = used_on conit request reply
used_by conit _ = 0

-- what is reserved on a conit
abbrev pub reserved : List Entry → ℕ → ℕ
reserved part conit = sum_by (λ entry. granted_by conit entry.act) part - sum_by (λ entry. used_by conit entry.act) part
