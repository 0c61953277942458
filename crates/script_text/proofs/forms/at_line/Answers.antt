use Rattle.std.proofs.Common.{refl}
use Rattle.run_model.specs.declared.script_line.Line.TheVariants as line
use Rattle.script_text.specs.Forms.{at_line}
use Rattle.script_text.proofs.forms.at_line.Goals as goal

pub returns : goal.returns
unfolding at_line
returns c =
    record {
      line = line.At c.in_ok-moment.moment;
      says = rw (c.in_ok-moment.ensures.number, c.in_ok-end_at.ensures) refl;
      in_range = c.in_ok-moment.ensures.within;
      added = c.push_reserved.ensures.items;
    }
