-- The setup of a script: what its `start` line makes, and what its `bound` lines change.
use Rattle.std.specs.Prelude.{ℕ, ◌+◌, ◌*◌, ◌==◌, not, Bool, true, false, is_some, List, [], ◌∷◌, ◌++◌, fold, length, map, replicate, take, drop, if◌then◌else◌}
use Rattle.std.specs.List.{flat_map, list_any, range_with_len}
use Rattle.tact_base.specs.Setup.{Setup, setup, place_of, config_fault}
use Rattle.run_model.specs.declared.script_line.Line.{Line}
use Rattle.run_model.specs.declared.script_line.Line.TheVariants as line

-- one alpha for every owner and conit
abbrev pub opening_alphas : ℕ → ℕ → ℕ → List ℕ
opening_alphas replicas conits alpha = replicate (replicas * conits) alpha

-- what an owner lends to each holder: nothing to itself
abbrev pub opening_row : ℕ → ℕ → ℕ → List ℕ
opening_row replicas loan owner = map (λ holder. if holder == owner then 0 else loan) (range_with_len 0 replicas)

-- one loan from every owner to every other replica, on every conit
abbrev pub opening_loans : ℕ → ℕ → ℕ → List ℕ
opening_loans replicas conits loan =
    flat_map (λ owner. flat_map (λ conit. opening_row replicas loan owner) (range_with_len 0 conits)) (range_with_len 0 replicas)

-- the setup that a `start` line makes
abbrev pub opening : ℕ → ℕ → ℕ → ℕ → Setup
opening replicas conits alpha loan = setup replicas conits (opening_alphas replicas conits alpha) (opening_loans replicas conits loan)

-- numbers, where those from a place on are replaced by a row
abbrev pub replaced : List ℕ → ℕ → List ℕ → List ℕ
replaced numbers start row = take start numbers ++ row ++ drop (start + length row) numbers

-- the setup where a `bound` line sets the alpha and all loans of an owner on a conit
unfoldable pub bounded : Setup → ℕ → ℕ → ℕ → ℕ → Setup
bounded s owner conit alpha loan =
    let place = place_of s owner conit in
    setup s.replicas s.conits (replaced s.alphas place (alpha ∷ [])) (replaced s.loans (place * s.replicas) (opening_row s.replicas loan owner))

-- Whether a setup is refused. Of one that a line with numbers in their ranges makes, just where the loans of the line
-- pass its alpha.
abbrev pub is_over : Setup → Bool
is_over s = is_some (config_fault s.replicas s.conits s.alphas s.loans)

-- the setup after one more line
abbrev pub setup_after : Setup → Line → Setup
setup_after s (line.Start replicas conits alpha loan) = opening replicas conits alpha loan
setup_after s (line.Bound owner conit alpha loan) = bounded s owner conit alpha loan
setup_after s other = s

-- the setup of a script
abbrev pub setup_of : List Line → Setup
setup_of lines = fold setup_after (opening 0 0 0 0) lines

-- whether a line sets up a script: its `start` line and its `bound` lines do
abbrev pub sets_up : Line → Bool
sets_up (line.Start replicas conits alpha loan) = true
sets_up (line.Bound owner conit alpha loan) = true
sets_up other = false

-- whether a script is past its setup: it has another line
abbrev pub is_past_setup : List Line → Bool
is_past_setup lines = list_any (λ line. not (sets_up line)) lines
