-- Laws of encode's definitions: what each test makes of the answer, and back, what an answer of done tells. The definition tests one thing after
-- the other, so each test's outcome gives the answer. Assumes nothing.
use Prim.Native.Nat.{ℕ, ◌+◌, ◌≤◌, ◌<◌}
use mathlib.Core.Path.{◌≡◌, refl}
use mathlib.Core.Bool.{Bool, true, false, cond, not}
use mathlib.Core.List.{[], ◌∷◌}
use mathlib.Core.Logic.{◌⊎◌, inl, inr}
use native.Mathlib.Omega.{arith}
use lib.Dec.{leb, ltb}
use borrow.Author.Tests.{le-leb, le-ltb, leb-true, lt-leb, lt-ltb, ltb-false}
use Rattle.std.specs.Int.{from_bool}
use Rattle.checks.specs.Numbers.{answer, done}
use Rattle.checks.proofs.Choice.{left, right}
use Rattle.checks.proofs.Numbers.{same_number, same_value}
use Rattle.i2c.specs.Encode.{addresses, encode_answer, frame_size}
use Rattle.i2c.specs.Frame.{address_most, header_size, payload_most}
use Rattle.i2c.specs.Numbers.{bad_address, bad_argument}

-- a frame's size, with how many bytes its PEC has
pub sized : (pec : Bool) (size : ℕ) → header_size + size + from_bool pec ≡ frame_size pec size
sized true size = refl
sized false size = omega arith

-- of a payload of this size, into an output of `room` bytes
module _ (own dest size room : ℕ) (pec : Bool) where
  -- an address over 127: our own, or the destination
  pub bad_addresses : (address_most < own) ⊎ ((own ≤ address_most) × (address_most < dest)) → answer bad_address [] ≡ encode_answer own dest pec size room
  unfolding encode_answer
  bad_addresses (inl h) = simp (lt-leb own address_most h)
  bad_addresses (inr (h, k)) = simp (le-leb own address_most h, lt-leb dest address_most k)

  -- two addresses of 7 bits, and how many bytes the PEC has, one or none
  module _ (h : own ≤ address_most) (k : dest ≤ address_most) (n : ℕ) (one : n ≡ from_bool pec) where
    -- a payload over 254 bytes, or an output without room for its frame
    pub bad_size : (payload_most < size) ⊎ ((size ≤ payload_most) × (room < header_size + size + n))
        → answer bad_argument [] ≡ encode_answer own dest pec size room
    unfolding encode_answer
    bad_size (inl long) = simp (le-leb own address_most h, le-leb dest address_most k, lt-ltb payload_most size long)
    bad_size (inr (fits, short)) =
        simp (
          le-leb own address_most h,
          le-leb dest address_most k,
          le-ltb payload_most size fits,
          lt-ltb room (frame_size pec size) (omega (arith, sized pec size)),
        )

    -- and where none of these holds
    pub with_room : size ≤ payload_most → header_size + size + n ≤ room
        → answer done ((header_size + size + n) ∷ []) ≡ encode_answer own dest pec size room
    unfolding encode_answer
    with_room fits enough =
        let whole : header_size + size + n ≡ frame_size pec size = omega (arith, sized pec size) in
        simp (
          whole,
          le-leb own address_most h,
          le-leb dest address_most k,
          le-ltb payload_most size fits,
          le-ltb room (frame_size pec size) (omega arith),
        )

  -- what is taken: two addresses, a payload that can be counted, and an output that has room for its frame
  pub record Taken (n : ℕ) : Type 0 where
    pub own_fits : own ≤ address_most
    pub dest_fits : dest ≤ address_most
    pub size_fits : size ≤ payload_most
    pub whole : frame_size pec size ≡ n
    pub fits : n ≤ room

  -- and back: what is answered as done was taken
  pub encode_taken : (n : ℕ) → encode_answer own dest pec size room ≡ answer done (n ∷ []) → Taken n
  unfolding encode_answer
  encode_taken n e = go (addresses own dest) (ltb payload_most size) (ltb room (frame_size pec size)) refl refl refl e
    where
      go : (both long short : Bool) → addresses own dest ≡ both → ltb payload_most size ≡ long → ltb room (frame_size pec size) ≡ short
          → cond (not both) (answer bad_address []) (cond long (answer bad_argument []) (cond short (answer bad_argument [])
          (answer done (frame_size pec size ∷ [])))) ≡ answer done (n ∷ []) → Taken n
      go true false false p q r e =
          let same : frame_size pec size ≡ n = same_value e in
          record {
            own_fits = leb-true own address_most (left (leb own address_most) (leb dest address_most) p);
            dest_fits = leb-true dest address_most (right (leb own address_most) (leb dest address_most) p);
            size_fits = ltb-false payload_most size q;
            whole = same;
            fits = omega (arith, ltb-false room (frame_size pec size) r);
          }
      go true false true p q r e = absurd (omega (arith, same_number e))
      go true true short p q r e = absurd (omega (arith, same_number e))
      go false long short p q r e = absurd (omega (arith, same_number e))
