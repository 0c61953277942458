use Rattle.std.proofs.Common.{refl}
use Rattle.run_model.specs.declared.script_line.Line.TheVariants as line
use Rattle.script_text.specs.Forms.{ref_line}
use Rattle.script_text.proofs.forms.ref_line.Goals as goal

pub returns : goal.returns
unfolding ref_line
returns c =
    record {
      line = line.Ref c.in_ok-conit.conit;
      says = rw (c.in_ok-conit.ensures.conit, c.in_ok-end_at.ensures) refl;
      in_range = c.in_ok-conit.ensures.within;
      added = c.push_reserved.ensures.items;
    }
