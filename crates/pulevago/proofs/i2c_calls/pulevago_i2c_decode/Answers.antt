-- `pulevago_i2c_decode` meets its contract: where `i2c::decode` gives a source, the payload stands behind the header, up to the PEC or to the input's end.
-- Assumes nothing.
use mathlib.Core.Path.{◌∙◌, ap, refl, sym}
use native.Mathlib.Omega.{arith}
use Rattle.checks.specs.Part.{Part}
use Rattle.i2c.proofs.DecodeLaws.{payload_lies, payload_starts}
use Rattle.pulevago.proofs.i2c_calls.pulevago_i2c_decode.Goals as goal

pub payload_size-requires : goal.payload_size-requires
payload_size-requires c = omega (arith, payload_starts _ _ _ _ (sym c.in-Ok.ensures) refl)

pub returns-in-Ok-clause-place_after : goal.returns-in-Ok-clause-place_after
returns-in-Ok-clause-place_after c = ap (λ (p : Part). p.place) (sym (payload_lies _ _ _ _ (sym c.in-Ok.ensures) refl))

pub returns-in-Ok-clause-size_after : goal.returns-in-Ok-clause-size_after
returns-in-Ok-clause-size_after c = c.payload_size.ensures ∙ ap (λ (p : Part). p.size) (sym (payload_lies _ _ _ _ (sym c.in-Ok.ensures) refl))
