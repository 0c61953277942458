use Rattle.std.proofs.Common.{◌≡◌, [], length, get_or, ap, ◌∙◌, arith, sym, subst}
use Rattle.std.proofs.lemmas.List.{length-replicate, get_or-replicate}
use Rattle.tact_base.specs.Setup.{IsSetup}
use Rattle.run_model.specs.Runs.{IsLawful}
use Rattle.run_model.proofs.PrefixLemmas.{EachAfter-nil}
use Rattle.run_check.proofs.check.Checker.new.Goals as goal

pub returns-clause-follow : goal.returns-clause-follow
returns-clause-follow c = record {
  good = subst IsSetup (sym c.in_ok-set.ensures.setup) c.replicas.ensures.sound;
  run = EachAfter-nil (IsLawful c.in_ok-set.set.setup);
  stands = c.in_ok-set.ensures.stands;
}

pub returns-clause-sent : goal.returns-clause-sent
returns-clause-sent c =
    let count : c.replicas.result ≡ c.args.config.now.replicas = c.replicas.ensures.count in
    record {
      sized = ap length c.in_ok-sent.ensures ∙ length-replicate c.replicas.result [] ∙ count;
      each = λ replica within. ap (λ sent. get_or sent replica []) c.in_ok-sent.ensures ∙ get_or-replicate c.replicas.result replica [] [] (omega (arith, count, within));
    }
