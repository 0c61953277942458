use Rattle.std.proofs.Common.{◌≡◌, List, [], length, refl, arith}
use Rattle.std.proofs.lemmas.Bool.Decides.{nat_tests}
use Rattle.std.proofs.lemmas.List.Elements.{All-nil}
use Rattle.tact_base.specs.Setup.{Setup}
use Rattle.tact_base.specs.declared.conit_list.Weight.{Weight}
use Rattle.run_model.proofs.WeightsInRange.{AreWeightsInRange-kept}
use Rattle.run_model.specs.Ranges.{IsWeightInRange, AreWeightsInRange}
use Rattle.run_model.specs.declared.script_line.Line.TheVariants as line
use Rattle.run_record.specs.Fields.{end_at}
use Rattle.run_record.specs.Lists.{list_at}
use Rattle.run_record.proofs.SplitLemmas.{tokens_none}
use Rattle.script_text.specs.LineRanges.{bare}
use Rattle.script_text.specs.Forms.{write_line}
use Rattle.script_text.proofs.call_forms.write_line.Goals as goal

none_in_range : (setup : Setup) (weights : List Weight) → weights ≡ [] → AreWeightsInRange setup weights
none_in_range setup weights none = rw none (record { each = All-nil (IsWeightInRange setup); listed = refl })

pub returns-then-is_empty : goal.returns-then-is_empty
unfolding write_line list_at end_at
returns-then-is_empty c =
    let empty : length c.in_ok-op.rest.now ≡ 0 = grind (arith, nat_tests) in
    record {
      line = line.Write c.in_ok-replica.replica c.in_ok-client.client c.in_ok-op.op c.empty.result;
      says = rw (c.in_ok-replica.ensures.replica, c.in_ok-client.ensures.client, c.in_ok-op.ensures.op, tokens_none c.in_ok-op.rest.now empty, c.empty.ensures) refl;
      in_range = record {
        replica_in = c.in_ok-replica.ensures.within;
        client_in = c.in_ok-client.ensures.within;
        request_in = (none_in_range (bare c.args.replicas c.args.conits) c.empty.result c.empty.ensures, c.in_ok-op.ensures.within);
      };
      added = c.push_reserved.ensures.items;
    }

pub returns : goal.returns
unfolding write_line
returns c =
    let kept = c.in-Ok.ensures.within in
    record {
      line = line.Write c.in_ok-replica.replica c.in_ok-client.client c.in_ok-op.op c.in-Ok.read.0;
      says = rw (c.in_ok-replica.ensures.replica, c.in_ok-client.ensures.client, c.in_ok-op.ensures.op, c.in-Ok.ensures.weights, c.in_ok-end_at.ensures) refl;
      in_range = record {
        replica_in = c.in_ok-replica.ensures.within;
        client_in = c.in_ok-client.ensures.within;
        request_in = ((AreWeightsInRange-kept (bare c.args.replicas c.args.conits) c.in-Ok.read.0 kept.0).0 kept.1, c.in_ok-op.ensures.within);
      };
      added = c.push_reserved-2.ensures.items;
    }
