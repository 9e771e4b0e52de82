-- Each call allows one number, and leaves one content in everything that it is lent, by its contract as the source states it (`Reads.Post`). Assumes nothing.
use Prim.Native.Nat.{ℕ}
use mathlib.Core.Path.{◌≡◌, ◌∙◌, ap, sym}
use mathlib.Core.List.{List}
use Rattle.checks.specs.OneResult.{OneOutcome, OneResult}
use Rattle.pulevago.specs.Lent.{given}
use Rattle.pulevago.proofs.check_values.pulevago_frame_check.Kinds as frame-check
use Rattle.pulevago.proofs.check_values.pulevago_frame_check.Reads as frame-check-reads
use Rattle.pulevago.proofs.check_values.pulevago_frame_check_from.Kinds as frame-check-from
use Rattle.pulevago.proofs.check_values.pulevago_frame_check_from.Reads as frame-check-from-reads
use Rattle.pulevago.proofs.check_values.pulevago_pec.Kinds as pec
use Rattle.pulevago.proofs.check_values.pulevago_pec.Reads as pec-reads
use Rattle.pulevago.proofs.check_values.pulevago_pec_from.Kinds as pec-from
use Rattle.pulevago.proofs.check_values.pulevago_pec_from.Reads as pec-from-reads
use Rattle.pulevago.proofs.serial_calls.pulevago_frame_to_serial.Kinds as frame-to-serial
use Rattle.pulevago.proofs.serial_calls.pulevago_frame_to_serial.Reads as frame-to-serial-reads
use Rattle.pulevago.proofs.serial_calls.pulevago_receiver_fresh.Kinds as receiver-fresh
use Rattle.pulevago.proofs.serial_calls.pulevago_receiver_fresh.Reads as receiver-fresh-reads
use Rattle.pulevago.proofs.serial_calls.pulevago_receiver_consistent.Kinds as receiver-consistent
use Rattle.pulevago.proofs.serial_calls.pulevago_receiver_consistent.Reads as receiver-consistent-reads
use Rattle.pulevago.proofs.serial_calls.pulevago_receiver_step.Kinds as receiver-step
use Rattle.pulevago.proofs.serial_calls.pulevago_receiver_step.Reads as receiver-step-reads
use Rattle.pulevago.proofs.serial_calls.pulevago_receiver_take.Kinds as receiver-take
use Rattle.pulevago.proofs.serial_calls.pulevago_receiver_take.Reads as receiver-take-reads
use Rattle.pulevago.proofs.i2c_calls.pulevago_i2c_encode.Kinds as i2c-encode
use Rattle.pulevago.proofs.i2c_calls.pulevago_i2c_encode.Reads as i2c-encode-reads
use Rattle.pulevago.proofs.i2c_calls.pulevago_i2c_decode.Kinds as i2c-decode
use Rattle.pulevago.proofs.i2c_calls.pulevago_i2c_decode.Reads as i2c-decode-reads
use Rattle.pulevago.proofs.usb_calls.pulevago_usb_header.Kinds as usb-header
use Rattle.pulevago.proofs.usb_calls.pulevago_usb_header.Reads as usb-header-reads
use Rattle.pulevago.proofs.usb_calls.pulevago_usb_decode.Kinds as usb-decode
use Rattle.pulevago.proofs.usb_calls.pulevago_usb_decode.Reads as usb-decode-reads
use Rattle.pulevago.proofs.usb_calls.pulevago_usb_walk.Kinds as usb-walk
use Rattle.pulevago.proofs.usb_calls.pulevago_usb_walk.Reads as usb-walk-reads
use Rattle.pulevago.proofs.usb_calls.pulevago_usb_append.Kinds as usb-append
use Rattle.pulevago.proofs.usb_calls.pulevago_usb_append.Reads as usb-append-reads

-- what is given by equal numbers is equal
given_one : {A : Type 0} {x y : ℕ} {u v : A} (there what : A) → x ≡ y → u ≡ given x there what → v ≡ given y there what → u ≡ v
given_one there what same p q = p ∙ ap (λ (number : ℕ). given number there what) same ∙ sym q

pub frame_check_one : OneOutcome 2 frame-check.ps frame-check.r (λ κs e. e.1.0.now) frame-check-reads.Post
frame_check_one κs a x y e f p q =
    let same : x ≡ y = p.0 ∙ sym q.0 in
    (same, p.1 ∙ sym q.1)

pub frame_check_from_one : OneOutcome 2 frame-check-from.ps frame-check-from.r (λ κs e. e.1.1.0.now) frame-check-from-reads.Post
frame_check_from_one κs a x y e f p q =
    let same : x ≡ y = p.0 ∙ sym q.0 in
    (same, p.1 ∙ sym q.1)

pub pec_one : OneOutcome 2 pec.ps pec.r (λ κs e. e.1.0.now) pec-reads.Post
pec_one κs a x y e f p q =
    let same : x ≡ y = p.0 ∙ sym q.0 in
    (same, p.1 ∙ sym q.1)

pub pec_from_one : OneOutcome 2 pec-from.ps pec-from.r (λ κs e. e.1.1.0.now) pec-from-reads.Post
pec_from_one κs a x y e f p q =
    let same : x ≡ y = p.0 ∙ sym q.0 in
    (same, p.1 ∙ sym q.1)

pub frame_to_serial_one : OneOutcome 3 frame-to-serial.ps frame-to-serial.r {A = List ℕ × ℕ} (λ κs e. (e.1.0.now, e.1.1.0.now)) frame-to-serial-reads.Post
frame_to_serial_one κs a x y e f p q =
    let same : x ≡ y = p.0 ∙ sym q.0 in
    let first : e.1.0.now ≡ f.1.0.now = given_one _ _ same p.1.0 q.1.0 in
    let second : e.1.1.0.now ≡ f.1.1.0.now = given_one _ _ same p.1.1 q.1.1 in
    (same, λ i. (first i, second i))

pub receiver_fresh_one : OneOutcome 1 receiver-fresh.ps receiver-fresh.r (λ κs e. e.0.now) receiver-fresh-reads.Post
receiver_fresh_one κs a x y e f p q =
    let same : x ≡ y = p.0 ∙ sym q.0 in
    (same, p.1 ∙ sym q.1)

pub receiver_consistent_one : OneResult 1 receiver-consistent.ps receiver-consistent.r receiver-consistent-reads.Post
receiver_consistent_one κs a x y e f p q = p ∙ sym q

pub receiver_step_one : OneOutcome 3 receiver-step.ps receiver-step.r {A = List ℕ × ℕ × ℕ} (λ κs e. (e.0.now, e.1.1.0.now, e.1.1.1.0.now)) receiver-step-reads.Post
receiver_step_one κs a x y e f p q =
    let same : x ≡ y = p.0 ∙ sym q.0 in
    let first : e.0.now ≡ f.0.now = p.1.0 ∙ sym q.1.0 in
    let second : e.1.1.0.now ≡ f.1.1.0.now = given_one _ _ same p.1.1.0 q.1.1.0 in
    let third : e.1.1.1.0.now ≡ f.1.1.1.0.now = given_one _ _ same p.1.1.1 q.1.1.1 in
    (same, λ i. (first i, second i, third i))

pub receiver_take_one : OneOutcome 6 receiver-take.ps receiver-take.r {A = List ℕ × List ℕ × ℕ × ℕ × ℕ} (λ κs e. (e.0.now, e.1.1.1.0.now, e.1.1.1.1.0.now, e.1.1.1.1.1.0.now, e.1.1.1.1.1.1.0.now)) receiver-take-reads.Post
receiver_take_one κs a x y e f p q =
    let same : x ≡ y = p.0 ∙ sym q.0 in
    let first : e.0.now ≡ f.0.now = p.1.0 ∙ sym q.1.0 in
    let second : e.1.1.1.0.now ≡ f.1.1.1.0.now = p.1.1.0 ∙ sym q.1.1.0 in
    let third : e.1.1.1.1.0.now ≡ f.1.1.1.1.0.now = given_one _ _ same p.1.1.1.0 q.1.1.1.0 in
    let fourth : e.1.1.1.1.1.0.now ≡ f.1.1.1.1.1.0.now = given_one _ _ same p.1.1.1.1.0 q.1.1.1.1.0 in
    let fifth : e.1.1.1.1.1.1.0.now ≡ f.1.1.1.1.1.1.0.now = given_one _ _ same p.1.1.1.1.1 q.1.1.1.1.1 in
    (same, λ i. (first i, second i, third i, fourth i, fifth i))

pub i2c_encode_one : OneOutcome 3 i2c-encode.ps i2c-encode.r {A = List ℕ × ℕ} (λ κs e. (e.1.1.1.0.now, e.1.1.1.1.1.0.now)) i2c-encode-reads.Post
i2c_encode_one κs a x y e f p q =
    let same : x ≡ y = p.0 ∙ sym q.0 in
    let first : e.1.1.1.0.now ≡ f.1.1.1.0.now = given_one _ _ same p.1.0 q.1.0 in
    let second : e.1.1.1.1.1.0.now ≡ f.1.1.1.1.1.0.now = given_one _ _ same p.1.1 q.1.1 in
    (same, λ i. (first i, second i))

pub i2c_decode_one : OneOutcome 4 i2c-decode.ps i2c-decode.r {A = ℕ × ℕ × ℕ} (λ κs e. (e.1.1.0.now, e.1.1.1.0.now, e.1.1.1.1.0.now)) i2c-decode-reads.Post
i2c_decode_one κs a x y e f p q =
    let same : x ≡ y = p.0 ∙ sym q.0 in
    let first : e.1.1.0.now ≡ f.1.1.0.now = given_one _ _ same p.1.0 q.1.0 in
    let second : e.1.1.1.0.now ≡ f.1.1.1.0.now = given_one _ _ same p.1.1.0 q.1.1.0 in
    let third : e.1.1.1.1.0.now ≡ f.1.1.1.1.0.now = given_one _ _ same p.1.1.1 q.1.1.1 in
    (same, λ i. (first i, second i, third i))

pub usb_header_one : OneOutcome 1 usb-header.ps usb-header.r (λ κs e. e.1.0.now) usb-header-reads.Post
usb_header_one κs a x y e f p q =
    let same : x ≡ y = p.0 ∙ sym q.0 in
    (same, given_one _ _ same p.1 q.1)

pub usb_decode_one : OneOutcome 5 usb-decode.ps usb-decode.r {A = ℕ × ℕ × ℕ × ℕ} (λ κs e. (e.1.0.now, e.1.1.0.now, e.1.1.1.0.now, e.1.1.1.1.0.now)) usb-decode-reads.Post
usb_decode_one κs a x y e f p q =
    let same : x ≡ y = p.0 ∙ sym q.0 in
    let first : e.1.0.now ≡ f.1.0.now = given_one _ _ same p.1.0 q.1.0 in
    let second : e.1.1.0.now ≡ f.1.1.0.now = given_one _ _ same p.1.1.0 q.1.1.0 in
    let third : e.1.1.1.0.now ≡ f.1.1.1.0.now = given_one _ _ same p.1.1.1.0 q.1.1.1.0 in
    let fourth : e.1.1.1.1.0.now ≡ f.1.1.1.1.0.now = given_one _ _ same p.1.1.1.1 q.1.1.1.1 in
    (same, λ i. (first i, second i, third i, fourth i))

pub usb_walk_one : OneOutcome 5 usb-walk.ps usb-walk.r {A = ℕ × ℕ × ℕ × ℕ} (λ κs e. (e.1.0.now, e.1.1.0.now, e.1.1.1.0.now, e.1.1.1.1.0.now)) usb-walk-reads.Post
usb_walk_one κs a x y e f p q =
    let same : x ≡ y = p.0 ∙ sym q.0 in
    let first : e.1.0.now ≡ f.1.0.now = p.1.0 ∙ sym q.1.0 in
    let second : e.1.1.0.now ≡ f.1.1.0.now = given_one _ _ same p.1.1.0 q.1.1.0 in
    let third : e.1.1.1.0.now ≡ f.1.1.1.0.now = given_one _ _ same p.1.1.1.0 q.1.1.1.0 in
    let fourth : e.1.1.1.1.0.now ≡ f.1.1.1.1.0.now = given_one _ _ same p.1.1.1.1 q.1.1.1.1 in
    (same, λ i. (first i, second i, third i, fourth i))

pub usb_append_one : OneOutcome 3 usb-append.ps usb-append.r {A = List ℕ × ℕ} (λ κs e. (e.1.0.now, e.1.1.0.now)) usb-append-reads.Post
usb_append_one κs a x y e f p q =
    let same : x ≡ y = p.0 ∙ sym q.0 in
    let first : e.1.0.now ≡ f.1.0.now = p.1.1 ∙ sym q.1.1 in
    let second : e.1.1.0.now ≡ f.1.1.0.now = p.1.0 ∙ sym q.1.0 in
    (same, λ i. (first i, second i))
