-- `value_up_to` finds the value of the digits: each of its returns is a law of Reading.
use mathlib.Core.Path.{refl}
use native.Mathlib.Omega.{arith}
use Rattle.text.specs.Decimal.{value, value_from}
use Rattle.text.proofs.Digits.{none}
use Rattle.text.proofs.Reading.{no_digit, past-most, read-value, read-digits, whole}
use Rattle.text.proofs.value_up_to.Goals as goal

pub loop-byte-init : goal.loop-byte-init
unfolding value value_from
loop-byte-init c = record { read = refl; digits = none; small = omega arith }

pub returns-in_default : goal.returns-in_default
returns-in_default c = no_digit _ _ c.loop-byte.byte-index c.loop-byte-test.true (λ p q. omega arith)

pub returns-in_default-2 : goal.returns-in_default-2
returns-in_default-2 c = no_digit _ _ c.loop-byte.byte-index c.loop-byte-test.true (λ p q. omega arith)

pub returns-then-value-most : goal.returns-then-value-most
returns-then-value-most c = past-most _ _ c.loop-byte.byte-index c.loop-byte-test.true c.loop-byte.invariant.read (omega arith)

pub loop-byte-preserved : goal.loop-byte-preserved
loop-byte-preserved c = record {
  read = read-value _ _ c.loop-byte-test.true c.loop-byte.invariant.read;
  digits = read-digits _ _ c.loop-byte-test.true (omega arith) (omega arith) c.loop-byte.invariant.digits;
  small = omega arith;
}

pub returns : goal.returns
returns c =
    whole _ _ c.loop-byte.byte-index (omega arith) c.loop-byte.invariant.read c.loop-byte.invariant.digits c.requires.0 c.requires.1
    c.loop-byte.invariant.small
