-- Laws of the frame: its length, that it is bytes, and that it says which packet it is of. A line's bytes are read back one packet byte at
-- a time, since an escape tells its byte by the next one and every other byte is itself; the count says how many there are.
-- Assumes nothing.
use Prim.Native.Nat.{ℕ, zero, suc, ◌+◌, ◌≤◌, ◌<◌}
use mathlib.Core.Path.{◌≡◌, ◌∙◌, ap, ap₂, refl, sym}
use mathlib.Core.Bool.{Bool, true, false, cond, ◌||◌}
use mathlib.Core.List.{List, [], ◌∷◌, ◌++◌, append_assoc}
use native.Mathlib.Omega.{arith}
use lib.Dec.{eqb}
use Rattle.std.specs.List.{sum_by}
use Rattle.std.proofs.lemmas.List.Recursion.{is_sum_by}
use lib.ListN.{length, get_or, drop, length-append}
use borrow.Author.Tests.{eqb-true}
use Rattle.checks.specs.Laws.{Bytes}
use Rattle.checks.specs.FrameCheck.{frame_check, frame_register}
use Rattle.checks.proofs.FrameCheck.{frame_below}
use Rattle.checks.proofs.Bytes.{bytes_none, bytes_cons, bytes_append, bytes_each}
use Rattle.framing.specs.Frame.{flag, escape, flag_escaped, escape_escaped, revision, escaped, escaped_all, escapes, escapes_of, covered, check_bytes, behind_flag, frame, frames, packet_most, AllSendable}
use Rattle.framing.specs.FrameLaws.{FrameLength, FrameMost, FrameBytes, SameFrame, SameBehindFlag}

pub escaped_all_append : (xs ys : List ℕ) → escaped_all (xs ++ ys) ≡ escaped_all xs ++ escaped_all ys
unfolding escaped_all
escaped_all_append [] ys = refl
escaped_all_append (b ∷ xs) ys =
    ap (λ (rest : List ℕ). escaped b ++ rest) (escaped_all_append xs ys) ∙ sym (append_assoc (escaped b) (escaped_all xs) (escaped_all ys))

-- ---- length

-- a byte takes one place, and one more where it is escaped
escaped_length : (b : ℕ) → length (escaped b) ≡ 1 + escapes_of b
unfolding escaped
escaped_length b = go (eqb b flag) (eqb b escape)
  where
    go : (f e : Bool)
        → length (cond f (escape ∷ flag_escaped ∷ []) (cond e (escape ∷ escape_escaped ∷ []) (b ∷ []))) ≡ 1 + cond (f || e) 1 0
    go true e = refl
    go false true = refl
    go false false = refl

escaped_all_length : (packet : List ℕ) → length (escaped_all packet) ≡ length packet + escapes packet
unfolding escaped_all escapes
escaped_all_length [] = refl
escaped_all_length (b ∷ bs) =
    omega (arith, length-append (escaped b) (escaped_all bs), escaped_length b, escaped_all_length bs)

-- six places are not the packet's
pub frame_room : (packet : List ℕ) → length (frame packet) ≡ length (escaped_all packet) + 6
unfolding frame
frame_room packet = omega (arith, length-append (escaped_all packet) (check_bytes packet ++ (flag ∷ [])))

pub frame_length : FrameLength
frame_length packet = omega (arith, frame_room packet, escaped_all_length packet)

-- how many they are, as the library adds
pub escapes_summed : (packet : List ℕ) → escapes packet ≡ sum_by escapes_of packet
unfolding escapes
escapes_summed packet = is_sum_by escapes escapes_of refl (λ b bs. refl) packet

at_most_one : (t : Bool) → cond t 1 0 ≤ 1
at_most_one true = omega arith
at_most_one false = omega arith

pub escapes_most : (packet : List ℕ) → escapes packet ≤ length packet
unfolding escapes
escapes_most [] = omega arith
escapes_most (b ∷ bs) = omega (arith, at_most_one (eqb b flag || eqb b escape), escapes_most bs)

pub frame_most : FrameMost
frame_most packet sent = omega (arith, frame_length packet, escapes_most packet, sent.2)

-- ---- bytes

escaped_bytes : (b : ℕ) → b < 256 → Bytes (escaped b)
unfolding escaped
escaped_bytes b h = go (eqb b flag) (eqb b escape)
  where
    go : (f e : Bool) → Bytes (cond f (escape ∷ flag_escaped ∷ []) (cond e (escape ∷ escape_escaped ∷ []) (b ∷ [])))
    go true e = bytes_each (escape ∷ flag_escaped ∷ []) (omega arith, (omega arith, tt))
    go false true = bytes_each (escape ∷ escape_escaped ∷ []) (omega arith, (omega arith, tt))
    go false false = bytes_each (b ∷ []) (h, tt)

escaped_all_bytes : (packet : List ℕ) → Bytes packet → Bytes (escaped_all packet)
unfolding escaped_all
escaped_all_bytes [] h = bytes_none
escaped_all_bytes (b ∷ bs) h =
    bytes_append (escaped b) (escaped_all bs) (escaped_bytes b (h 0)) (escaped_all_bytes bs (λ (i : ℕ). h (suc i)))

-- the check has 16 bits
pub check_below : (packet : List ℕ) → Bytes packet → length packet ≤ packet_most → frame_check (covered packet) < 65536
check_below packet bytes most =
    frame_below frame_register.start (covered packet) (omega arith)
    (bytes_cons revision (length packet ∷ packet) (omega arith) (bytes_cons (length packet) packet (omega arith) bytes))

pub frame_bytes : FrameBytes
unfolding frame
frame_bytes packet sent =
    let check = frame_check (covered packet) in
    let h : check < 65536 = check_below packet sent.0 sent.2 in
    let count : length packet < 256 = omega (arith, sent.2) in
    bytes_append (flag ∷ revision ∷ length packet ∷ []) (escaped_all packet ++ (check_bytes packet ++ (flag ∷ [])))
    (bytes_each (flag ∷ revision ∷ length packet ∷ []) (omega arith, (omega arith, (count, tt))))
    (bytes_append (escaped_all packet) (check_bytes packet ++ (flag ∷ [])) (escaped_all_bytes packet sent.0)
    (bytes_each (check_bytes packet ++ (flag ∷ [])) (omega arith, (omega arith, (omega arith, tt)))))

pub frames_bytes : (packets : List (List ℕ)) → AllSendable packets → Bytes (frames packets)
unfolding frames
frames_bytes [] sent = bytes_none
frames_bytes (p ∷ ps) sent = bytes_append (frame p) (frames ps) (frame_bytes p sent.0) (frames_bytes ps sent.1)

-- ---- reading back

-- the packet's byte that a line begins with, and the line behind it
byte_read : List ℕ → ℕ
byte_read line = cond (eqb (get_or line 0 0) escape) (cond (eqb (get_or line 1 0) flag_escaped) flag escape) (get_or line 0 0)

rest_read : List ℕ → List ℕ
rest_read line = cond (eqb (get_or line 0 0) escape) (drop 2 line) (drop 1 line)

-- the first n of the packet's bytes
read_back : ℕ → List ℕ → List ℕ
read_back zero line = []
read_back (suc n) line = byte_read line ∷ read_back n (rest_read line)

read_first : (b : ℕ) (line : List ℕ) → byte_read (escaped b ++ line) ≡ b
unfolding escaped byte_read
read_first b line = go (eqb b flag) (eqb b escape) refl refl
  where
    go : (f e : Bool) → eqb b flag ≡ f → eqb b escape ≡ e
        → byte_read (cond f (escape ∷ flag_escaped ∷ []) (cond e (escape ∷ escape_escaped ∷ []) (b ∷ [])) ++ line) ≡ b
    go true e p q = sym (eqb-true b flag p)
    go false true p q = sym (eqb-true b escape q)
    go false false p q = simp q

read_rest : (b : ℕ) (line : List ℕ) → rest_read (escaped b ++ line) ≡ line
unfolding escaped rest_read
read_rest b line = go (eqb b flag) (eqb b escape) refl
  where
    go : (f e : Bool) → eqb b escape ≡ e
        → rest_read (cond f (escape ∷ flag_escaped ∷ []) (cond e (escape ∷ escape_escaped ∷ []) (b ∷ [])) ++ line) ≡ line
    go true e q = refl
    go false true q = refl
    go false false q = simp q

-- an escaped packet reads back, whatever stands behind it
read_back-escaped : (packet line : List ℕ) → read_back (length packet) (escaped_all packet ++ line) ≡ packet
unfolding escaped_all read_back
read_back-escaped [] line = refl
read_back-escaped (b ∷ bs) line =
    let rest = escaped_all bs ++ line in
    ap (λ (whole : List ℕ). byte_read whole ∷ read_back (length bs) (rest_read whole)) (append_assoc (escaped b) (escaped_all bs) line)
    ∙ ap₂ (λ (first : ℕ) (behind : List ℕ). first ∷ read_back (length bs) behind) (read_first b rest) (read_rest b rest)
    ∙ ap (λ (packet : List ℕ). b ∷ packet) (read_back-escaped bs line)

-- the packet whose count and bytes stand behind a revision
packet_behind : List ℕ → List ℕ
packet_behind line = read_back (get_or line 1 0) (drop 2 line)

read_packet : (packet : List ℕ) → packet_behind (behind_flag packet) ≡ packet
unfolding packet_behind
read_packet packet = read_back-escaped packet (check_bytes packet ++ (flag ∷ []))

pub same_behind_flag : SameBehindFlag
same_behind_flag p q e = sym (read_packet p) ∙ ap packet_behind e ∙ read_packet q

pub same_frame : SameFrame
unfolding frame
same_frame p q e = same_behind_flag p q (ap (drop 1) e)
