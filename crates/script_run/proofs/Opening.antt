-- A stage on which nothing has happened.
use Rattle.std.proofs.Common.{◌≡◌, List, [], length, get_or, replicate, refl, sym, ap, ◌∙◌, subst, arith}
use Rattle.std.proofs.lemmas.List.{length-replicate, get_or-replicate}
use Rattle.std.proofs.lemmas.List.FromFn.{length-range_with_len}
use Rattle.std.proofs.lemmas.Simd.{splat_is_map}
use Rattle.tact_base.specs.Setup.{Setup, replicas_of}
use Rattle.run_model.specs.Runs.{IsLawful}
use Rattle.run_model.specs.ScriptRuns.{zeros}
use Rattle.run_model.specs.declared.entry.Entry.{Entry}
use Rattle.run_model.proofs.PrefixLemmas.{EachAfter-nil}
use Rattle.reference_book.specs.Books.{IsBookOf}
use Rattle.replica_set.specs.Sets.{StandsFor}
use Rattle.script_run.specs.Stages.{Keeps, acts_of, setup_in}
use Rattle.script_run.specs.declared.stage.Stage.{Stage}

pub opens : (stage : Stage) (setup : Setup)
    → setup_in stage ≡ setup
    → stage.history.items ≡ []
    → stage.handed ≡ 0
    → StandsFor [] stage.set
    → stage.sent.items ≡ replicate setup.replicas []
    → stage.zeros ≡ replicate setup.replicas 0
    → IsBookOf setup [] stage.book
    → Keeps stage
opens stage setup same nothing first stands none zeros_are book =
    let count : (setup_in stage).replicas ≡ setup.replicas = ap (λ (s : Setup). s.replicas) same in
    record {
      stands = subst (λ es. StandsFor es stage.set) (sym nothing) stands;
      run = rw nothing (EachAfter-nil (IsLawful (setup_in stage)));
      handed = omega (arith, first);
      sized = ap length none ∙ length-replicate setup.replicas [] ∙ sym count;
      sent = λ from within.
          ap (λ (sent : List (List Entry)). acts_of (get_or sent from [])) none
          ∙ ap acts_of (get_or-replicate setup.replicas from [] [] (omega (arith, within, count)))
          ∙ rw nothing refl;
      zeros = zeros_are ∙ splat_is_map (replicas_of setup) setup.replicas 0 (length-range_with_len 0 setup.replicas) ∙ ap zeros (sym same);
      book = λ prints. subst (λ es. IsBookOf (setup_in stage) es stage.book) (sym nothing) (subst (λ s. IsBookOf s [] stage.book) (sym same) book);
    }
