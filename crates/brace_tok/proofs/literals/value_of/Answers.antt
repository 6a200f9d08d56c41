use Rattle.std.proofs.Common.{◌≡◌, ◌≤◌, ◌+◌, ◌*◌, ◌-◌, suc, take, get_or, arith, add-one, true}
use Rattle.std.specs.List.{list_all}
use Rattle.std.specs.Str.Parse.{digits_value}
use Rattle.std.proofs.lemmas.Bool.{and_parts}
use Rattle.brace_num.specs.Names.{begins, is_digit}
use Rattle.brace_tok.proofs.Digits.{digits_next, digits_prefix}
use Rattle.brace_tok.proofs.literals.value_of.Goals as goal

pub returns-then-value-gt-LITERAL_LIMIT : goal.returns-then-value-gt-LITERAL_LIMIT
returns-then-value-gt-LITERAL_LIMIT c small =
    let all : list_all is_digit c.args.digits.now ≡ true = (and_parts (begins is_digit c.args.digits.now) (list_all is_digit c.args.digits.now) c.requires).1 in
    let next : digits_value 10 (take (suc c.loop-digit.digit-index) c.args.digits.now) ≡ digits_value 10 (take c.loop-digit.digit-index c.args.digits.now) * 10 + (get_or c.args.digits.now c.loop-digit.digit-index 0 - 48) =
    digits_next c.args.digits.now c.loop-digit.digit-index all c.loop-digit-test.true in
    let part : digits_value 10 (take (suc c.loop-digit.digit-index) c.args.digits.now) ≤ digits_value 10 c.args.digits.now = digits_prefix c.args.digits.now (suc c.loop-digit.digit-index) in
    omega arith

pub loop-digit-preserved : goal.loop-digit-preserved
loop-digit-preserved c =
    let all : list_all is_digit c.args.digits.now ≡ true = (and_parts (begins is_digit c.args.digits.now) (list_all is_digit c.args.digits.now) c.requires).1 in
    let next : digits_value 10 (take (suc c.loop-digit.digit-index) c.args.digits.now) ≡ digits_value 10 (take c.loop-digit.digit-index c.args.digits.now) * 10 + (get_or c.args.digits.now c.loop-digit.digit-index 0 - 48) =
    digits_next c.args.digits.now c.loop-digit.digit-index all c.loop-digit-test.true in
    record { so_far = rw add-one (omega arith); bounded = omega arith }
