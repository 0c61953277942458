-- Loans: an owner's alpha on a conit is at home or lent out, and both sides count what they ever gave (this project's
-- own rule).
use Rattle.std.specs.Prelude.{ℕ, ◌+◌, ◌-◌, ◌==◌, ◌&&◌, max, List, map, sum, sum_by, slice_index, if◌then◌else◌}
use Rattle.tact_base.specs.Setup.{Setup, alpha_of, loan_of, peers_of}
use Rattle.run_model.specs.Histories.{taken_from, greatest}
use Rattle.run_model.specs.Missing.{greater_missing, reserved}
use Rattle.run_model.specs.declared.entry.Act.{Act}
use Rattle.run_model.specs.declared.entry.Act.TheVariants as act
use Rattle.run_model.specs.declared.entry.Entry.{Entry}

-- what an act lends to a holder on a conit, and what it gives back to an owner
abbrev pub lent_by_act : ℕ → ℕ → Act → ℕ
lent_by_act holder conit (act.Lend to at amount) = if to == holder && at == conit then amount else 0
lent_by_act holder conit _ = 0

abbrev pub returned_by_act : ℕ → ℕ → Act → ℕ
returned_by_act owner conit (act.Back to at amount) = if to == owner && at == conit then amount else 0
returned_by_act owner conit _ = 0

-- all that a replica ever lent to a holder, the opening loan included
abbrev pub lent : Setup → ℕ → List Entry → ℕ → ℕ → ℕ
lent setup replica part holder conit = loan_of setup replica conit holder + sum_by (λ entry. lent_by_act holder conit entry.act) part

-- all that it ever gave back to an owner
abbrev pub returned : List Entry → ℕ → ℕ → ℕ
returned part owner conit = sum_by (λ entry. returned_by_act owner conit entry.act) part

-- what it knows that an owner lent it, and what it knows that a holder gave back
abbrev pub lent_known : Setup → ℕ → List Entry → ℕ → ℕ → ℕ
lent_known setup replica part owner conit =
    max (loan_of setup owner conit replica) (greatest (map (λ message. slice_index message.lent conit) (taken_from part owner)))

abbrev pub returned_known : List Entry → ℕ → ℕ → ℕ
returned_known part holder conit = greatest (map (λ message. slice_index message.returned conit) (taken_from part holder))

-- its share of an owner's bound
abbrev pub share : Setup → ℕ → List Entry → ℕ → ℕ → ℕ
share setup replica part owner conit = lent_known setup replica part owner conit - returned part owner conit

-- what it has out at a holder
abbrev pub out : Setup → ℕ → List Entry → ℕ → ℕ → ℕ
out setup replica part holder conit = lent setup replica part holder conit - returned_known part holder conit

-- what of its own alpha is at home
abbrev pub home : Setup → ℕ → List Entry → ℕ → ℕ
home setup replica part conit = alpha_of setup replica conit - sum (map (λ peer. out setup replica part peer conit) (peers_of setup replica))

-- what of its share of an owner's bound covers nothing
abbrev pub free : Setup → ℕ → List Entry → ℕ → ℕ → ℕ
free setup replica part owner conit =
    share setup replica part owner conit - greater_missing replica part owner conit - reserved part conit
