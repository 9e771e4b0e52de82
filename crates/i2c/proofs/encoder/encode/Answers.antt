-- `encode` meets its contract: its tests are the definition's, in the definition's order, and `write` writes the frame. Assumes nothing.
use mathlib.Core.Path.{refl}
use native.Mathlib.Omega.{arith}
use Rattle.i2c.specs.Encode.{encode_output}
use Rattle.i2c.proofs.EncodeLaws.{bad_addresses, bad_size, with_room}
use Rattle.i2c.proofs.encoder.encode.Goals as goal

pub returns-then-own-gt-ADDRESS_MAX : goal.returns-then-own-gt-ADDRESS_MAX
unfolding encode_output
returns-then-own-gt-ADDRESS_MAX c = record { result_value = bad_addresses _ _ _ _ _ c.then-own-gt-ADDRESS_MAX.either; out_after = refl }

pub returns-then-payload-gt-MCTP_I2C_MAXMTU : goal.returns-then-payload-gt-MCTP_I2C_MAXMTU
unfolding encode_output
returns-then-payload-gt-MCTP_I2C_MAXMTU c = record {
  result_value = bad_size _ _ _ _ _ (omega arith) (omega arith) c.from.result c.from.ensures c.then-payload-gt-MCTP_I2C_MAXMTU.either;
  out_after = refl;
}

pub returns : goal.returns
unfolding encode_output
returns c = record {
  result_value = with_room _ _ _ _ _ (omega arith) (omega arith) c.from.result c.from.ensures (omega arith) (omega arith);
  out_after = c.write.ensures;
}
