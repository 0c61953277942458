-- The words of `run`, as the kit's `clap` reads them: one command with the option `--tries`.
use Rattle.std.specs.Prelude.{◌≡◌, ℕ, Bool, true, List, [], ◌∷◌, codes, Some}
use Rattle.std.specs.Option.{option_map_or}
use Rattle.std.specs.Str.Parse.{digits_value, without_leading_plus}
use Rattle.clap.specs.Faults.{fault_of}
use Rattle.clap.specs.Matches.{one_text}
use Rattle.clap.specs.Simple.{App, matches_of, new_app, new_rule, on_top, with_rule}
use Rattle.clap.specs.Values.{IsUnsignedIn}
use Rattle.clap.specs.Walk.{Rule, is_empty, one_of}
use Rattle.clap.specs.declared.builder.action.ArgAction.TheVariants.{Set}
use Rattle.clap.specs.declared.builder.value_parser.ValueParser.TheVariants.{Unsigned}
use Rattle.clap.specs.declared.parser.matches.Found.{Found}

-- the option: one value, a number from 1 to 100, and 20 where it isn't given
abbrev pub tries_rule : Rule
tries_rule = record (new_rule (codes "tries")) {
  long = Some (codes "tries");
  action = Some Set;
  defaults = codes "20" ∷ [];
  parser = Some (Unsigned 1 100);
}

-- the command, without flags for help and the version
abbrev pub run_app : App
run_app = with_rule (on_top (λ top. record top { disable_help_flag = true; disable_version_flag = true }) (new_app (codes "run"))) tries_rule

-- words, the command's name first, in which the command finds no fault
unfoldable pub are_run_words : List (List ℕ) → Bool
are_run_words words = is_empty (fault_of run_app words)

-- the number that they give for the option
unfoldable pub tries_in : List (List ℕ) → ℕ
tries_in words = option_map_or (λ text. digits_value 10 (without_leading_plus text)) (one_of (codes "tries") (matches_of run_app words)) 0

-- what a parse found: the number's text, which is one from 1 to 100
pub record HasTries (words : List (List ℕ)) (found : Found) : Type 0 where
  pub fits : are_run_words words ≡ true
  pub text : List ℕ
  pub found_is : one_text found (codes "tries") ≡ Some text
  pub within : IsUnsignedIn 1 100 text
  pub tries_are : tries_in words ≡ digits_value 10 (without_leading_plus text)
