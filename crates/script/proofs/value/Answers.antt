use Rattle.std.proofs.Common.{get_or, ap, ◌∙◌, arith, take_all}
use Rattle.std.specs.Str.Parse.{digits_value}
use Rattle.std.proofs.lemmas.Int.Digits.{digits_value_more, digits_more}
use Rattle.script.proofs.Digits.{digit_bounds, digit_value, small}
use Rattle.script.proofs.value.Goals as goal

pub overflow_mul-sum : goal.overflow_mul-sum
overflow_mul-sum c =
    omega (arith, small c.args.digits.now c.loop-byte.byte-index c.loop-byte.sum c.loop-byte.invariant.0 c.loop-byte.invariant.1 c.loop-byte-test.true c.requires.few)

pub overflow_add-sum : goal.overflow_add-sum
overflow_add-sum c =
    let b = digit_bounds (get_or c.args.digits.now c.loop-byte.byte-index 0) (c.requires.each c.loop-byte.byte-index c.loop-byte-test.true) in
    omega (arith, small c.args.digits.now c.loop-byte.byte-index c.loop-byte.sum c.loop-byte.invariant.0 c.loop-byte.invariant.1 c.loop-byte-test.true c.requires.few)

pub loop-byte-preserved : goal.loop-byte-preserved
loop-byte-preserved c =
    let b = digit_bounds (get_or c.args.digits.now c.loop-byte.byte-index 0) (c.requires.each c.loop-byte.byte-index c.loop-byte-test.true) in
    let d = digit_value (get_or c.args.digits.now c.loop-byte.byte-index 0) b.0 b.1 in (
      omega (arith, digits_value_more 10 c.args.digits.now c.loop-byte.byte-index c.loop-byte-test.true, d),
      digits_more 10 c.args.digits.now c.loop-byte.byte-index c.loop-byte-test.true c.loop-byte.invariant.1 (omega (arith, d)),
    )

pub returns : goal.returns
returns c = c.loop-byte.invariant.0 ∙ ap (digits_value 10) (take_all _ _ c.loop-byte-test.false)
