use Rattle.std.proofs.Common.{◌≡◌, ◌∙◌, ap, ap₂, ℕ, List, [], Some, codes, inl, inr, rules, arith, slice_index, subst, refl, ◌∷◌}
use Rattle.clap.specs.Built.{IsParsedFrom}
use Rattle.clap.specs.Matches.{found_of, one_text}
use Rattle.clap.specs.Simple.{app_of, new_rule, with_rule}
use Rattle.clap.specs.Values.{Accepts, IsUnsignedIn, read_as, reading_of}
use Rattle.clap.specs.Walk.{Rule, rule_of}
use Rattle.clap.specs.declared.builder.action.ArgAction.TheVariants.{Set}
use Rattle.clap.specs.declared.builder.value_parser.ValueParser.{ValueParser}
use Rattle.clap.specs.declared.builder.value_parser.ValueParser.TheVariants.{Unsigned}
use Rattle.clap.specs.declared.parser.matches.ArgMatches.{ArgMatches}
use Rattle.tact_top.specs.RunWords.{run_app, tries_rule}
use Rattle.tact_top.proofs.DefaultLemmas.{one_default_read}
use Rattle.tact_top.proofs.TriesLemmas.{flags_off, has_tries, is_refused, rule_with}
use Rattle.tact_top.proofs.run_words.parsed.Goals as goal

-- the option, before it has its parser
abbrev before_rule : Rule
before_rule = record (new_rule (codes "tries")) { long = Some (codes "tries"); action = Some Set; defaults = codes "20" ∷ [] }

pub returns : goal.returns
returns c =
    let tries = c.value_parser-tries.result in
    let given = c.value_parser-tries.ensures.given in
    let is_q : given.0 ≡ Unsigned 1 100 = given.2 ∙ c.unsigned.ensures in
    let before_is : rule_of c.default_value.result ≡ before_rule = search rules in
    let rule_is : rule_of tries ≡ tries_rule =
    rule_with c.default_value.result tries (Unsigned 1 100) c.value_parser-tries.ensures.others (given.1 ∙ ap Some is_q)
    ∙ ap (λ (r : Rule). record r { parser = Some (Unsigned 1 100) }) before_is in
    let off = flags_off c.new-2.result c.disable_help_flag.result c.disable_version_flag.result (codes "run") c.new-2.ensures.app c.disable_help_flag.ensures c.disable_version_flag.ensures in
    let app_is : app_of c.in_ok-command.command ≡ run_app = c.in_ok-command.ensures.shape (search rules) ∙ ap₂ with_rule off rule_is in
    let name_id : tries.id.now ≡ codes "tries" = search rules in
    let first : (t : List ℕ) → tries.id.now ≡ t → slice_index t 0 ≡ 116 = λ t e. rw (← e, name_id) refl in
    let read : (m : ArgMatches) → IsParsedFrom c.in_ok-command.command m
    → (text : List ℕ) × (one_text (found_of m) (codes "tries") ≡ Some text) × IsUnsignedIn 1 100 text = λ m parsed.
    let got = one_default_read c.disable_version_flag.result c.in_ok-command.command tries m c.in_ok-command.ensures
    (search rules) (search rules) (search rules) (search rules) (search rules) (search rules) (search rules) (search rules) (search rules)
    (λ e. let bad : 0 ≡ 116 = first [] e in absurd (omega (arith, bad)))
    (λ auto. elim auto [
      | inl h ↦ let bad : 104 ≡ 116 = first _ h in absurd (omega (arith, bad))
      | inr h ↦ let bad : 118 ≡ 116 = first _ h in absurd (omega (arith, bad))
    ])
    given.0 given.1 parsed in (
      got.0,
      subst (λ (id : List ℕ). one_text (found_of m) id ≡ Some got.0) name_id
          (subst (λ (q : ValueParser). one_text (found_of m) tries.id.now ≡ Some (read_as (reading_of q) got.0)) is_q got.1),
      subst (λ (q : ValueParser). Accepts tries.ignore_case q got.0) is_q got.2,
    ) in
    let parse = c.try_get_matches_from in
    record {
      ok = has_tries _ _ app_is c.in_ok-command.command read parse.result parse.ensures.parsed parse.ensures.matches parse.ensures.kinds;
      err = is_refused _ _ app_is parse.result parse.ensures.kinds;
    }
