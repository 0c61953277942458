-- The order of the writes that a replica has seen, what of it is committed, and what is read of it (commitment after
-- Golding).
use Rattle.std.specs.Prelude.{ℕ, ℤ, List}
use Rattle.std.specs.List.{flat_map}
use Rattle.tact_base.specs.Covers.{least_stamp}
use Rattle.tact_base.specs.Images.{Image, image_of, ops_of}
use Rattle.tact_base.specs.Sums.{net_sum}
use Rattle.tact_base.specs.WriteOrder.{in_order, committed_to, tentative_past}
use Rattle.tact_base.specs.declared.write.Write.{Write}
use Rattle.tact_base.specs.Setup.{Setup, replicas_of}
use Rattle.run_model.specs.Taking.{log_of, covers_of}
use Rattle.run_model.specs.declared.entry.Entry.{Entry}

-- the writes of all logs, in order
abbrev pub seen : Setup → ℕ → List Entry → List Write
seen setup replica part = in_order (flat_map (log_of replica part) (replicas_of setup))

-- the least stamp over the covers of all replicas
abbrev pub point : Setup → ℕ → List Entry → ℕ
point setup replica part = least_stamp (covers_of setup replica part 0)

-- the seen writes up to the point, and the others
abbrev pub committed : Setup → ℕ → List Entry → List Write
committed setup replica part = committed_to (point setup replica part) (seen setup replica part)

abbrev pub tentative : Setup → ℕ → List Entry → List Write
tentative setup replica part = tentative_past (point setup replica part) (seen setup replica part)

-- the value of a conit, and the image of the keys
abbrev pub value : Setup → ℕ → List Entry → ℕ → ℤ
value setup replica part conit = net_sum (seen setup replica part) conit

abbrev pub image : Setup → ℕ → List Entry → Image
image setup replica part = image_of (ops_of (seen setup replica part))
