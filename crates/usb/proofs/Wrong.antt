-- Each wrong decoder fails at its input: both sides are computed there, and differ. Assumes nothing.
use mathlib.Core.Path.{ap}
use native.Mathlib.Omega.{arith}
use Rattle.checks.specs.Part.{Part}
use Rattle.checks.proofs.Numbers.{same_number}
use Rattle.usb.specs.Decode.{decode_answer}
use Rattle.usb.specs.Wrong.{RestOfRefusalFails, ShortTakenFails}

pub short_taken_fails : ShortTakenFails
unfolding decode_answer
short_taken_fails = (λ e. omega (arith, same_number e), λ e. omega (arith, same_number e))

-- it has no bytes
pub rest_of_refusal_fails : RestOfRefusalFails
unfolding decode_answer
rest_of_refusal_fails e = omega (arith, ap (λ (p : Part). p.size) e)
