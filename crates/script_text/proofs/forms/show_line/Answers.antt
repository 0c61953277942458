use Rattle.std.proofs.Common.{refl}
use Rattle.run_model.specs.declared.script_line.Line.TheVariants as line
use Rattle.script_text.specs.Forms.{show_line}
use Rattle.script_text.proofs.forms.show_line.Goals as goal

pub returns : goal.returns
unfolding show_line
returns c =
    record {
      line = line.Show c.in_ok-replica.replica;
      says = rw (c.in_ok-replica.ensures.replica, c.in_ok-end_at.ensures) refl;
      in_range = c.in_ok-replica.ensures.within;
      added = c.push_reserved.ensures.items;
    }
