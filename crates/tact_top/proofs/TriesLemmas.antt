-- What a parse of the words of `run` tells.
use Rattle.std.proofs.Common.{◌≡◌, ◌⊎◌, ◌∙◌, ap, ℕ, true, false, List, [], ◌∷◌, Option, Some, Result, Ok, Err, codes, refl, subst, sym, inl, inr, arith}
use Rattle.std.specs.Option.{option_map_or}
use Rattle.std.specs.Prelude.{IfErr, IfOk}
use Rattle.std.specs.Str.Parse.{digits_value, without_leading_plus}
use Rattle.std.proofs.lemmas.Bool.{ne_eqb}
use Rattle.clap.specs.Built.{IsParsedFrom}
use Rattle.clap.specs.Faults.{fault_of, is_simple_and_free}
use Rattle.clap.specs.Kinds.{FailsBy, IsAmong, Kinds}
use Rattle.clap.specs.Matches.{found_of, one_text}
use Rattle.clap.specs.Simple.{App, HasMatchesOf, app_of, app_of_fields, is_simple, matches_of, new_app, on_top}
use Rattle.clap.specs.Values.{IsUnsignedIn, kind_of}
use Rattle.clap.specs.Walk.{Row, is_empty, one_of, rows_of, rule_of}
use Rattle.clap.specs.declared.builder.arg.Arg.{Arg}
use Rattle.clap.specs.declared.builder.command.Command.{Command}
use Rattle.clap.specs.declared.builder.command.Command.TheViews.{out-Command}
use Rattle.clap.specs.declared.builder.value_parser.ValueParser.{ValueParser}
use Rattle.clap.specs.declared.error.Error.{Error}
use Rattle.clap.specs.declared.error.kind.ErrorKind.{ErrorKind}
use Rattle.clap.specs.declared.error.kind.ErrorKind.TheVariants.{OutOfMemory}
use Rattle.clap.specs.declared.parser.matches.ArgMatches.{ArgMatches}
use Rattle.clap.specs.declared.parser.matches.Found.{Found}
use Rattle.clap.proofs.OnLiterals.{clap_on_literals}
use Rattle.clap.proofs.WalkLemmas.{one_text-rows}
use Rattle.tact_top.specs.RunWords.{HasTries, are_run_words, run_app, tries_in}

-- an argument with a parser, and a command without both flags
pub rule_with : (before after : Arg) (parser : ValueParser) → after ≡ record before { value_parser = after.value_parser }
    → after.value_parser ≡ Some parser → rule_of after ≡ record (rule_of before) { parser = Some parser }
rule_with before after parser same is = ap rule_of same ∙ ap (λ (o : Option ValueParser). record (rule_of before) { parser = o }) is

pub flags_off : (first second third : Command) (name : List ℕ) → app_of first ≡ new_app name
    → out-Command second ≡ record (out-Command first) { disable_help_flag = true }
    → out-Command third ≡ record (out-Command second) { disable_version_flag = true }
    → app_of third ≡ on_top (λ top. record top { disable_help_flag = true; disable_version_flag = true }) (new_app name)
flags_off first second third name is no_help no_version =
    ap app_of_fields no_version ∙ ap (λ (app : App). on_top (λ top. record top { disable_version_flag = true }) app)
    (ap app_of_fields no_help ∙ ap (λ (app : App). on_top (λ top. record top { disable_help_flag = true }) app) is)

is_free : is_simple_and_free run_app ≡ true
unfolding clap_on_literals
is_free = refl

is_plain : is_simple run_app ≡ true
unfolding clap_on_literals
is_plain = refl

some_fault : (kind : ErrorKind) (kinds : Kinds) → IsAmong kind kinds → is_empty kinds ≡ false
some_fault kind [] among = absurd among
some_fault kind (first ∷ rest) among = ne_eqb _ _ (λ none. omega (arith, none))

no_fault : (words : List (List ℕ)) → fault_of run_app words ≡ [] → are_run_words words ≡ true
unfolding are_run_words
no_fault words none = ap is_empty none

is_fault : (words : List (List ℕ)) (kind : ErrorKind) → IsAmong kind (fault_of run_app words) → are_run_words words ≡ false
unfolding are_run_words
is_fault words kind among = some_fault kind (fault_of run_app words) among

tries_at : (words : List (List ℕ)) (found : Found) (text : List ℕ) → one_text found (codes "tries") ≡ Some text
    → rows_of found ≡ matches_of run_app words → tries_in words ≡ digits_value 10 (without_leading_plus text)
unfolding tries_in
tries_at words found text found_is rows =
    ap (λ o. option_map_or (λ t. digits_value 10 (without_leading_plus t)) o 0)
    (ap (λ (rs : List Row). one_of (codes "tries") rs) (sym rows) ∙ sym (one_text-rows found (codes "tries")) ∙ found_is)

module _ (app : App) (words : List (List ℕ)) (is : app ≡ run_app) where
  -- where the command takes them, its number is there
  pub has_tries : (cmd : Command)
      → ((m : ArgMatches) → IsParsedFrom cmd m → (text : List ℕ) × (one_text (found_of m) (codes "tries") ≡ Some text) × IsUnsignedIn 1 100 text)
      → (r : Result ArgMatches Error) → IfOk r (λ m. IsParsedFrom cmd m) → IfOk r (HasMatchesOf app words)
      → (is_simple_and_free app ≡ true → FailsBy (fault_of app words) r)
      → IfOk r (λ m. HasTries words (found_of m))
  has_tries cmd read (Ok m) parsed matches kinds =
      let got = read m parsed in
      let none : fault_of app words ≡ [] = kinds (ap is_simple_and_free is ∙ is_free) in
      let rows : rows_of (found_of m) ≡ matches_of app words = (matches (ap is_simple is ∙ is_plain)).0 in record {
        fits = no_fault words (ap (λ (a : App). fault_of a words) (sym is) ∙ none);
        text = got.0;
        found_is = got.1;
        within = got.2;
        tries_are = tries_at words (found_of m) got.0 got.1 (rows ∙ ap (λ (a : App). matches_of a words) is);
      }
  has_tries cmd read (Err e) parsed matches kinds = tt

  -- where it fails, it is want of memory, or it refuses them
  pub is_refused : (r : Result ArgMatches Error) → (is_simple_and_free app ≡ true → FailsBy (fault_of app words) r)
      → IfErr r (λ e. (kind_of e ≡ OutOfMemory) ⊎ (are_run_words words ≡ false))
  is_refused (Ok m) kinds = tt
  is_refused (Err e) kinds = elim (kinds (ap is_simple_and_free is ∙ is_free)) [
    | inl memory ↦ inl memory
    | inr among ↦ inr (is_fault words (kind_of e) (subst (λ (a : App). IsAmong (kind_of e) (fault_of a words)) is among))
  ]
