-- Numbers and items at the front of what is left of a line.
use Rattle.std.specs.Prelude.{◌≡◌, ◌==◌, false, ◌<◌, ◌⊎◌, ℕ, List, [], ◌∷◌, ◌++◌, length, Result, Ok}
use Rattle.tact_base.specs.declared.tokens.TokenFault.{TokenFault}
use Rattle.run_model.specs.declared.status.LineKind.{LineKind}
use Rattle.run_record.specs.Splitting.{tokens}

-- bytes without a separator
abbrev pub Lacks : ℕ → List ℕ → Type 0
Lacks separator [] = Unit {0}
Lacks separator (first ∷ rest) = ((first == separator) ≡ false) × Lacks separator rest

-- Bytes begin with a part, without a space or a colon, that is read as a value, and these follow.
pub record Begins {N : Type 0} (read : List ℕ → Result N TokenFault) (bytes : List ℕ) (value : N) (after : List ℕ) : Type 0 where
  pub part : List ℕ
  pub whole : bytes ≡ part ++ after
  pub some : 0 < length part
  pub no_space : Lacks 32 part
  pub no_colon : Lacks 58 part
  pub says : read part ≡ Ok value

-- what follows a token, and what is left past its space
abbrev pub IsPast : List ℕ → List ℕ → Type 0
IsPast after rest = ((after ≡ []) × (rest ≡ [])) ⊎ (after ≡ 32 ∷ rest)

-- the next token of a line is read as a value, and these tokens follow
pub record IsNext {A : Type 0} (read : List ℕ → Result A LineKind) (bytes : List ℕ) (value : A) (after : List ℕ) : Type 0 where
  pub token : List ℕ
  pub is : tokens bytes ≡ token ∷ tokens after
  pub says : read token ≡ Ok value
