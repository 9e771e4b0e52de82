-- `framing::Writer::put_unchecked` does what its contract says: a byte that is escaped goes out as two, any other as it stands. Assumes nothing.
use Rattle.std.proofs.Common.{◌≡◌, [], ◌∷◌, arith, ap, length, refl}
use Rattle.framing.specs.Frame.{escape, escaped}
use Rattle.framing.proofs.Writing.{escaped_other, escaped_pair, wrote_then}
use Rattle.framing.proofs.frame.Writer.put_unchecked.Goals as goal
use Rattle.framing.proofs.frame.Writer.put_unchecked.Goals.{in_default-via-then-b-lt125, in_default-via-else-b-lt125+else-b-lt127}

pub put-requires : goal.put-requires
put-requires c = omega (arith, ap length (escaped_pair c.args.b _ (omega arith) (omega arith) refl))

pub put-requires-in-126 : goal.put-requires-in-126
put-requires-in-126 c =
    omega (arith, ap length (escaped_pair c.args.b _ (omega arith) (omega arith) refl), c.put.ensures.place, c.put.ensures.same_length)

pub put-requires-in_default : goal.put-requires-in_default
put-requires-in_default c =
    let other : escaped c.args.b ≡ c.args.b ∷ [] =
    elim c.in_default.branch [ in_default-via-then-b-lt125 w ↦ escaped_other _ (λ e. omega arith) (λ e. omega arith) | in_default-via-else-b-lt125+else-b-lt127 w ↦ escaped_other _ (λ e. omega arith) (λ e. omega arith) ]
    in
    omega (arith, ap length other)

pub returns-in-126 : goal.returns-in-126
returns-in-126 c =
    let pair = escaped_pair c.args.b _ (omega arith) (omega arith) c.escaped_as.ensures in
    rw pair
    (wrote_then c.args.self.now c.put.new.self c.put-in-126.new.self (escape ∷ []) (c.escaped_as.result ∷ []) [] [] (omega (arith, ap length pair)) c.put.ensures c.put-in-126.ensures)

pub returns-in_default : goal.returns-in_default
returns-in_default c =
    let other : escaped c.args.b ≡ c.args.b ∷ [] =
    elim c.in_default.branch [ in_default-via-then-b-lt125 w ↦ escaped_other _ (λ e. omega arith) (λ e. omega arith) | in_default-via-else-b-lt125+else-b-lt127 w ↦ escaped_other _ (λ e. omega arith) (λ e. omega arith) ]
    in
    rw other c.put-in_default.ensures
