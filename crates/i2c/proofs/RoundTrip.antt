-- What encode writes, decode gives back: each of decode's checks holds of a frame, and halving the fourth byte takes its low bit off again.
-- Assumes nothing.
use Prim.Native.Nat.{ℕ}
use mathlib.Core.Path.{◌≡◌, ◌∙◌, ap, refl, subst, sym}
use mathlib.Core.Bool.{Bool, false}
use mathlib.Core.List.{List, [], ◌∷◌}
use native.Mathlib.Omega.{arith}
use lib.ListN.{drop, length, take}
use lib.Seq.{take_at}
use Rattle.checks.specs.Numbers.{answer, done}
use Rattle.checks.specs.Output.{at_start}
use Rattle.i2c.specs.Decode.{decode_answer}
use Rattle.i2c.specs.Encode.{encode_output}
use Rattle.i2c.specs.Frame.{frame, plain}
use Rattle.i2c.specs.Laws.{Gives, RoundTrip}
use Rattle.i2c.proofs.DecodeLaws.{body_done, decode_plain}
use Rattle.i2c.proofs.FrameLaws.{frame_length}
use Rattle.i2c.proofs.Received.{decode_closed, payload_closed}

-- a frame without PEC is decoded as coming from our own address
plain_decoded : (own dest : ℕ) (payload : List ℕ) → decode_answer false (plain own dest payload) ≡ answer done (own ∷ [])
plain_decoded own dest payload =
    let bytes = plain own dest payload in
    decode_plain false bytes refl
    ∙ body_done bytes (omega arith) (omega arith) refl
    ∙ ap (λ (source : ℕ). answer done (source ∷ [])) (omega arith)

-- and either frame gives address and payload
frame_gives : (own dest : ℕ) (pec : Bool) (payload : List ℕ) → Gives pec (frame own dest pec payload) own payload
frame_gives own dest pec payload =
    let e = plain_decoded own dest payload in
    (decode_closed pec (plain own dest payload) ∙ e, payload_closed pec (plain own dest payload) own e)

pub round_trip : RoundTrip
unfolding encode_output
round_trip own dest n pec payload out e =
    let sent = frame own dest pec payload in
    let written : take n (at_start sent out) ≡ sent =
    take_at sent (drop (length sent) out) n (frame_length own dest n (length out) pec payload e).0
    in
    subst (λ (bytes : List ℕ). Gives pec bytes own payload) (sym written) (frame_gives own dest pec payload)
