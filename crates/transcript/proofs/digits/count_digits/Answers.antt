use Rattle.std.proofs.Common.{arith}
use Rattle.itoa.proofs.Decimal.{length_four, length_one, length_two}
use Rattle.transcript.proofs.Decimals.{at_most_twenty, length_four_digits, length_three}
use Rattle.transcript.proofs.digits.count_digits.Goals as goal

pub overflow_add-count : goal.overflow_add-count
overflow_add-count c = record { fits = omega (arith, c.loop-left.invariant, at_most_twenty c.args.n c.ranges.n.fits) }

pub loop-left-preserved : goal.loop-left-preserved
loop-left-preserved c = omega (arith, c.loop-left.invariant, length_four c.loop-left.left c.loop-left-test.true c.loop-left.auto.left-fits.fits)

pub overflow_add-result : goal.overflow_add-result
overflow_add-result c = record { fits = omega (arith, c.loop-left.invariant, at_most_twenty c.args.n c.ranges.n.fits) }

pub overflow_add-result-in-10-to-99 : goal.overflow_add-result-in-10-to-99
overflow_add-result-in-10-to-99 c = record { fits = omega (arith, c.loop-left.invariant, at_most_twenty c.args.n c.ranges.n.fits) }

pub overflow_add-result-in-100-to-999 : goal.overflow_add-result-in-100-to-999
overflow_add-result-in-100-to-999 c = record { fits = omega (arith, c.loop-left.invariant, at_most_twenty c.args.n c.ranges.n.fits) }

pub overflow_add-result-in_default : goal.overflow_add-result-in_default
overflow_add-result-in_default c = record { fits = omega (arith, c.loop-left.invariant, at_most_twenty c.args.n c.ranges.n.fits) }

pub returns-in-0-to-9 : goal.returns-in-0-to-9
returns-in-0-to-9 c = omega (arith, c.loop-left.invariant, length_one c.loop-left.left (search arith))

pub returns-in-10-to-99 : goal.returns-in-10-to-99
returns-in-10-to-99 c = omega (arith, c.loop-left.invariant, length_two c.loop-left.left (search arith) (search arith))

pub returns-in-100-to-999 : goal.returns-in-100-to-999
returns-in-100-to-999 c = omega (arith, c.loop-left.invariant, length_three c.loop-left.left (search arith) (search arith))

pub returns-in_default : goal.returns-in_default
returns-in_default c = omega (arith, c.loop-left.invariant, length_four_digits c.loop-left.left (search arith) (search arith))
