use Rattle.std.proofs.Common.{refl}
use Rattle.run_model.specs.declared.script_line.Line.TheVariants as line
use Rattle.script_text.specs.LineRanges.{bare}
use Rattle.run_record.proofs.NeedsInRange.{AreNeedsInRange-kept}
use Rattle.script_text.specs.Forms.{read_line}
use Rattle.script_text.proofs.call_forms.read_line.Goals as goal

pub returns : goal.returns
unfolding read_line
returns c =
    record {
      line = line.Read c.in_ok-replica.replica c.in_ok-client.client c.in_ok-key.key c.in-Ok.read.0;
      says = rw (c.in_ok-replica.ensures.replica, c.in_ok-client.ensures.client, c.in_ok-key.ensures.number, c.in-Ok.ensures.needs, c.in_ok-end_at.ensures) refl;
      in_range = record {
        replica_in = c.in_ok-replica.ensures.within;
        client_in = c.in_ok-client.ensures.within;
        request_in = (c.in_ok-key.ensures.within, AreNeedsInRange-kept (bare c.args.replicas c.args.conits) c.in-Ok.read.0 c.in-Ok.ensures.within);
      };
      added = c.push_reserved.ensures.items;
    }
