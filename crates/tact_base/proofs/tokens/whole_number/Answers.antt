use Rattle.std.proofs.Common.{arith, sym, ap, Ok, Err, ◌≡◌, ◌∙◌}
use Rattle.tact_base.specs.Numbers.{decimal_value}
use Rattle.tact_base.proofs.TokenLemmas.{whole_number-within, whole_number-above, read_whole}
use Rattle.tact_base.proofs.tokens.whole_number.Goals as goal

pub returns-in-Ok : goal.returns-in-Ok
returns-in-Ok c =
    let token = c.args.token.now in
    let number = sym c.if-not-is_number.ensures in
    let value : c.in-Ok.value ≡ decimal_value token = read_whole token c.args.most number (Ok c.in-Ok.value) c.read_number.new.place (omega arith) c.in-Ok.ensures in
    ap Ok value ∙ sym (whole_number-within token c.args.most number (omega arith))

pub returns-in_default : goal.returns-in_default
returns-in_default c =
    let token = c.args.token.now in
    let number = sym c.if-not-is_number.ensures in
    let value : c.in-Ok.value ≡ decimal_value token = read_whole token c.args.most number (Ok c.in-Ok.value) c.read_number.new.place (omega arith) c.in-Ok.ensures in
    sym (whole_number-above token c.args.most number (omega arith))

pub returns-in_default-2 : goal.returns-in_default-2
returns-in_default-2 c =
    let token = c.args.token.now in
    let number = sym c.if-not-is_number.ensures in
    sym (whole_number-above token c.args.most number
    (read_whole token c.args.most number (Err c.in_default.field-0) c.read_number.new.place (omega arith) (rw c.in_default.is at c.read_number.ensures)))
