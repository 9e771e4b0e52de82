-- What comes out of what is done is one. Where it is equal to what a definition gives, two such are equal to each other. What is written into a lent
-- output shows in outputs that held something else; a row for any packet is looked at with a packet of zeros. Assumes nothing.
use Prim.Native.Nat.{ℕ, zero, suc, ◌+◌}
use mathlib.Core.Path.{◌≡◌, ◌∙◌, ap, refl, sym}
use mathlib.Core.Bool.{false, not, ◌&&◌}
use mathlib.Core.List.{List, [], ◌∷◌, ◌++◌, append-nil}
use native.Mathlib.Omega.{arith}
use lib.Dec.{eqb, leb, ltb}
use Rattle.std.specs.Prelude.{Ok, Err}
use lib.ListN.{length, length-replicate, replicate}
use Rattle.checks.specs.Laws.{Bytes}
use Rattle.checks.specs.Numbers.{Answer}
use Rattle.checks.specs.Output.{at_start}
use lib.Seq.{drop-nil}
use Rattle.std.proofs.lemmas.List.{append_cancel_right}
use Rattle.checks.proofs.Bytes.{bytes_replicate}
use Rattle.checks.proofs.Choice.{by_cond}
use Rattle.framing.specs.declared.error.FrameError.TheVariants as writer
use Rattle.framing.specs.Writer.{writer_answer, written_answer}
use Rattle.framing.specs.Frame.{frame}
use Rattle.framing.specs.Writer.{output_of, sendable}
use Rattle.i2c.specs.declared.encoder.EncodeError.TheVariants.{BadAddress, BadArgument}
use Rattle.i2c.specs.Encode.{addresses, encode_answer, encode_output, encoded_answer}
use Rattle.usb.specs.declared.head.HeaderError.TheVariants.{BadPacket}
use Rattle.usb.specs.Header.{headed_answer, header_answer, header_output, sendable as usbSendable}
use Rattle.transfer.specs.Builder.{append_answer}
use Rattle.cases.specs.Row.{Comes}
use Rattle.cases.specs.Row.{frame_check_over, frame_to_serial, frame_to_serial_any, pec_over, receiver_fed}
use Rattle.cases.specs.Row.{i2c_decode, i2c_encode, usb_append_any, usb_decode, usb_header}
use Rattle.cases.specs.Holds.{Gives, Holds, Leaves, Definite, Writes, where_done, with_frame}

-- ---- what is written into any output of a length

abbrev Alike : ℕ → List ℕ → List ℕ → Type 0
Alike room xs ys = (before : List ℕ) → length before ≡ room → at_start xs before ≡ at_start ys before

-- an output shows what is not written
start_tells : (xs ys : List ℕ) (room : ℕ) → Alike room xs ys → xs ≡ ys
start_tells xs ys zero h = simp (drop-nil, append-nil) at (h [] refl)
start_tells [] [] (suc n) h = refl
start_tells [] (y ∷ ys) (suc n) h = let wrong : suc y ≡ y = cc (h (suc y ∷ replicate n 0) (ap suc (length-replicate n 0))) in absurd (omega arith)
start_tells (x ∷ xs) [] (suc n) h = let wrong : x ≡ suc x = cc (h (suc x ∷ replicate n 0) (ap suc (length-replicate n 0))) in absurd (omega arith)
start_tells (x ∷ xs) (y ∷ ys) (suc n) h =
    cc (h (replicate (suc n) 0) (length-replicate (suc n) 0), start_tells xs ys n (λ before k. cc (h (0 ∷ before) (ap suc k))))

-- ---- there is a result that has the answer promised

abbrev Has : {Result : Type 0} → (Result → Answer) → Answer → Type 0
Has {Result} answer_of promised = (r : Result) × (answer_of r ≡ promised)

writer_answers : (packet : List ℕ) (room : ℕ) → Has written_answer (writer_answer packet room)
unfolding writer_answer
writer_answers packet room =
    by_cond (Has written_answer) (sendable packet) _ _
    (λ s. by_cond (Has written_answer) (leb (length (frame packet)) room) _ _ (λ t. (Ok (length (frame packet)), refl)) (λ t. (Err writer.ShortOutput, refl)))
    (λ s. (Err writer.BadLength, refl))

encode_answers : (own dest size room : ℕ) → Has encoded_answer (encode_answer own dest false size room)
unfolding encode_answer
encode_answers own dest size room =
    by_cond (Has encoded_answer) (not (addresses own dest)) _ _ (λ s. (Err BadAddress, refl))
    (λ s. by_cond (Has encoded_answer) (ltb 254 size) _ _ (λ t. (Err BadArgument, refl))
    (λ t. by_cond (Has encoded_answer) (ltb room (4 + size)) _ _ (λ u. (Err BadArgument, refl)) (λ u. (Ok (4 + size), refl))))

header_answers : (size room : ℕ) → Has headed_answer (header_answer size room)
unfolding header_answer
header_answers size room =
    by_cond (Has headed_answer) (eqb room 4 && usbSendable size) _ _ (λ t. (Ok tt, refl)) (λ t. (Err BadPacket, refl))

-- ---- what comes out

-- all but the bytes is the answer's
one_given : (a : Answer) (c c' : Comes) → Gives a c.bytes [] c → Gives a c'.bytes [] c' → c.bytes ≡ c'.bytes → c ≡ c'
one_given a c c' p q e = cc

-- and the bytes are those that a result with the answer promised leaves
one_left : {Result : Type 0} (answer_of : Result → Answer) (promised : Answer) (room : ℕ) (after : Result → List ℕ → List ℕ) (c c' : Comes)
    → Has answer_of promised → Gives promised c.bytes [] c × Leaves answer_of promised room after c.bytes
    → Gives promised c'.bytes [] c' × Leaves answer_of promised room after c'.bytes → c ≡ c'
one_left answer_of promised room after c c' x p q =
    one_given promised c c' p.0 q.0 (start_tells c.bytes c'.bytes room (λ before k. sym (p.1 before k x.0 x.1) ∙ q.1 before k x.0 x.1))

one_written : (packet : List ℕ) (room : ℕ) (c c' : Comes) → Writes packet room c → Writes packet room c' → c ≡ c'
one_written packet room c c' p q =
    one_left written_answer (writer_answer packet room) room (λ r before. output_of r packet before) c c' (writer_answers packet room) p q

-- the same where the same is put behind both
same_where_done : (n m : ℕ) (xs ys zs : List ℕ) → n ≡ m → xs ++ where_done n zs ≡ ys ++ where_done m zs → xs ≡ ys
same_where_done n m xs ys zs k e = append_cancel_right xs ys (where_done n zs) (e ∙ ap (λ (m : ℕ). ys ++ where_done m zs) (sym k))

one_with_frame : (packet : List ℕ) (c c' : Comes) → with_frame packet c ≡ with_frame packet c' → c ≡ c'
one_with_frame packet c c' e =
    let n : c.number ≡ c'.number = ap (λ (c : Comes). c.number) e in
    let vs = same_where_done c.number c'.number c.values c'.values (length (frame packet) ∷ []) n (ap (λ (c : Comes). c.values) e) in
    let bs = same_where_done c.number c'.number c.bytes c'.bytes (frame packet) n (ap (λ (c : Comes). c.bytes) e) in
    λ i. record { number = n i; values = vs i; bytes = bs i; behind = (e i).behind; handed = (e i).handed; position = (e i).position }

-- ---- every kind of doing

-- a packet, or an output, of a length
abbrev zeros : ℕ → List ℕ
zeros n = replicate n 0

zeros_bytes : (n : ℕ) → Bytes (zeros n)
zeros_bytes n = bytes_replicate n 0 (omega arith)

one_of_any : (size room : ℕ) (c c' : Comes) → Holds (frame_to_serial_any size room) c → Holds (frame_to_serial_any size room) c' → c ≡ c'
one_of_any size room c c' p q =
    let k : length (zeros size) ≡ size = length-replicate size 0 in
    one_with_frame (zeros size) c c'
    (one_written (zeros size) room (with_frame (zeros size) c) (with_frame (zeros size) c') (p (zeros size) (zeros_bytes size) k) (q (zeros size) (zeros_bytes size) k))

one_appended : (size : ℕ) (c c' : Comes) → Holds (usb_append_any size) c → Holds (usb_append_any size) c' → c ≡ c'
one_appended size c c' p q =
    let packet = zeros size in
    let k : length packet ≡ size = length-replicate size 0 in
    let p' = λ (before : List ℕ). p packet before (zeros_bytes size) k in
    let q' = λ (before : List ℕ). q packet before (zeros_bytes size) k in
    let p-answer = (p' (zeros 512) (length-replicate {A = ℕ} 512 0)).0 in
    let q-answer = (q' (zeros 512) (length-replicate {A = ℕ} 512 0)).0 in
    one_given (append_answer (length packet) 0 512) c c' p-answer q-answer
    (same_where_done c.number c'.number c.bytes c'.bytes packet (cc)
    (start_tells (c.bytes ++ where_done c.number packet) (c'.bytes ++ where_done c'.number packet) 512
    (λ before k. sym (p' before k).1 ∙ (q' before k).1)))

pub definite : Definite
definite (frame_to_serial packet room) c c' p q = one_written packet room c c' p q
definite (frame_to_serial_any size room) c c' p q = one_of_any size room c c' p q
definite (receiver_fed stream) c c' p q = sym p ∙ q
definite (i2c_encode own dest payload room) c c' p q =
    one_left encoded_answer (encode_answer own dest false (length payload) room) room (λ r before. encode_output r own dest false payload before)
    c c' (encode_answers own dest (length payload) room) p q
definite (i2c_decode input) c c' p q = sym p ∙ q
definite (usb_decode input) c c' p q = sym p ∙ q
definite (usb_header size) c c' p q =
    one_left headed_answer (header_answer size 4) 4 (λ r before. header_output r size before) c c' (header_answers size 4) p q
definite (usb_append_any size) c c' p q = one_appended size c c' p q
definite (frame_check_over bytes) c c' p q = sym p ∙ q
definite (pec_over bytes) c c' p q = sym p ∙ q
