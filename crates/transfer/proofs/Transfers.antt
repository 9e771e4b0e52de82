-- What `specs/Transfers.antt` states of a walk over any transfer. An answer of a walk either moves on by a header and a packet that stand there,
-- or stays. A packet takes four bytes or more, so a walk stays after one answer for each four.
-- Assumes nothing.
use Prim.Native.Nat.{ℕ, zero, suc, ◌+◌, ◌*◌, ◌≤◌, ◌<◌, ◌/◌}
use mathlib.Core.Path.{◌≡◌, ◌∙◌, ap, ap₂, refl, subst, sym}
use mathlib.Core.List.{List, [], ◌∷◌, ◌++◌, append_assoc, append-nil}
use mathlib.Core.Logic.{◌⊎◌, inl, inr}
use native.Mathlib.Omega.{arith}
use lib.Dec.{eqb, ltb}
use lib.ListN.{length, take, drop, length-append, length-drop}
use lib.Seq.{drop-append-add, drop-append_seam, drop-drop, length-take-le, take-add, take-append_seam, take_at}
use borrow.Author.Tests.{eq-eqb, eqb-true, le-ltb, lt-ltb, ne_eqb}
use Rattle.checks.specs.Numbers.{Answer, answer, done}
use Rattle.checks.specs.Part.{Inside, bytes_of, part}
use Rattle.checks.proofs.Choice.{by_cond}
use Rattle.checks.proofs.Numbers.{same_number, same_values}
use Rattle.usb.specs.Decode.{decode_answer, packet_at}
use Rattle.usb.specs.Header.{header_size, header_with}
use Rattle.usb.specs.Laws.{DecodedAs}
use Rattle.usb.specs.Numbers.{rx_failure}
use Rattle.usb.proofs.DecodeLaws.{accepted, accepts, decides, refuses}
use Rattle.usb.proofs.Headers.{decodes, header_first}
use Rattle.transfer.specs.Transfers.{Joined, none, one_more, to_end, transfer_of}
use Rattle.transfer.specs.Transfers.{EndIsWhole, EndOrSeven, FiveTooFew, FoundInside, JoinedWalked, PlaceBeyond, PlaceStays, WalkEnds, WalkJoined, WalkStays}
use Rattle.transfer.specs.Walk.{Walk, place_after, place_behind, walk, walk_answer, whole_walk, yielded_by}
use Rattle.transfer.proofs.WalkLaws.{ended, found}

-- ---- one answer of a walk

-- what an answer at a place of a transfer can be: a packet, or none, and then it is end, which it says only at the transfer's end, or a refusal
data Stands (transfer : List ℕ) (place : ℕ) (a : Answer) : Type 0 where
  some_packet : (n : ℕ) → a ≡ answer done (n ∷ []) → Stands transfer place a
  no_packet : a.values ≡ [] → (a ≡ answer done [] → place ≡ length transfer) → (a ≡ answer done []) ⊎ (a ≡ answer rx_failure [])
      → Stands transfer place a

-- a refusal yields none, and does not say end
refusal : (t : List ℕ) (p : ℕ) → Stands t p (answer rx_failure [])
refusal t p = no_packet refl (λ e. absurd (omega (arith, same_number e))) (inr refl)

-- beyond the transfer, at its end, and before it by what decode says
stands : (transfer : List ℕ) (place : ℕ) → Stands transfer place (walk_answer transfer place)
unfolding walk_answer
stands t p =
    by_cond (Stands t p) (ltb (length t) p) _ _ (λ _. refusal t p) (λ _.
    by_cond (Stands t p) (eqb p (length t)) _ _ (λ h. no_packet refl (λ _. eqb-true p (length t) h) (inl refl)) (λ _.
    elim (decides (drop p t)) [
      | accepts n e ↦ some_packet n e
      | refuses e ↦ subst (Stands t p) (sym e) (refusal t p)
    ]))

pub end_or_seven : EndOrSeven
end_or_seven t p h = elim (stands t p) [
  | some_packet n e ↦ absurd (omega (arith, ap length (sym h ∙ same_values e)))
  | no_packet e f g ↦ g
]

pub found_inside : FoundInside
found_inside t p = elim (stands t p) [
  | some_packet n e ↦
      subst (λ (v : List ℕ). Inside (packet_at p v) (length t)) (sym (same_values e)) (omega (arith, (found t p n e).inside))
  | no_packet e f g ↦ subst (λ (v : List ℕ). Inside (packet_at p v) (length t)) (sym e) (omega arith)
]

pub place_stays : PlaceStays
place_stays t p e = ap (place_behind p) e

pub place_beyond : PlaceBeyond
unfolding walk_answer
place_beyond t p h =
    let e : walk_answer t p ≡ answer rx_failure [] = simp (lt-ltb _ _ h) in
    (e, place_stays t p (same_values e))

-- ---- several answers

-- a walk behind one more packet
abbrev behind : List ℕ → Walk → Walk
behind packet w = record { packets = packet ∷ w.packets; place = w.place; last = w.last }

-- an answer with these values, and then k more and the last
abbrev after : List ℕ → ℕ → ℕ → List ℕ → Walk
after t k p v =
    let rest = walk k t (place_behind p v) in
    record { packets = yielded_by t (packet_at p v) v ++ rest.packets; place = rest.place; last = rest.last }

-- a walk's first answer, by its values
first_answer : (t : List ℕ) (k p : ℕ) (v : List ℕ) → (walk_answer t p).values ≡ v → walk (suc k) t p ≡ after t k p v
unfolding walk
first_answer t k p v e = ap (after t k p) e

-- a packet, and the walk from the place behind it
packet_first : (t : List ℕ) (k p n : ℕ) → walk_answer t p ≡ answer done (n ∷ [])
    → walk (suc k) t p ≡ behind (bytes_of (part (p + header_size) n) t) (walk k t (p + (header_size + n)))
packet_first t k p n e = first_answer t k p (n ∷ []) (same_values e)

-- where there is none, a walk stays, however many answers there are
stays : (t : List ℕ) (p : ℕ) → (walk_answer t p).values ≡ [] → (k : ℕ) → walk k t p ≡ walk 0 t p
stays t p e zero = refl
stays t p e (suc k) = first_answer t k p [] e ∙ stays t p e k

-- k answers end a walk that has fewer than k + 1 times four bytes before it
ends : (k : ℕ) (t : List ℕ) (p : ℕ) → length t < p + (header_size * k + header_size) → (walk k t p).last.values ≡ []
unfolding walk
ends zero t p h = elim (stands t p) [
  | some_packet n e ↦ absurd (omega (arith, (found t p n e).inside))
  | no_packet e f g ↦ e
]
ends (suc k) t p h = elim (stands t p) [
  | some_packet n e ↦ ap (λ (w : Walk). w.last.values) (packet_first t k p n e) ∙ ends k t (p + (header_size + n)) (omega arith)
  | no_packet e f g ↦ ap (λ (w : Walk). w.last.values) (stays t p e (suc k)) ∙ e
]

pub walk_ends : WalkEnds
walk_ends t = ends _ t 0 (omega arith)

-- five packets of no bytes have twenty bytes, and after four of them the fifth is found
pub five_too_few : FiveTooFew
unfolding walk walk_answer decode_answer transfer_of
five_too_few h = omega (arith, ap length (h (transfer_of ([] ∷ [] ∷ [] ∷ [] ∷ [] ∷ []))))

-- a walk that has ended is not changed by more answers
ended_stays : (m k : ℕ) (t : List ℕ) (p : ℕ) → k ≤ m → (walk k t p).last.values ≡ [] → walk m t p ≡ walk k t p
unfolding walk
ended_stays m zero t p h e = stays t p e m
ended_stays zero (suc k) t p h e = absurd (omega arith)
ended_stays (suc m) (suc k) t p h e = elim (stands t p) [
  | some_packet n f ↦
      let ended : (walk k t (p + (header_size + n))).last.values ≡ [] = sym (ap (λ (w : Walk). w.last.values) (packet_first t k p n f)) ∙ e in
      packet_first t m p n f
      ∙ ap (behind (bytes_of (part (p + header_size) n) t)) (ended_stays m k t (p + (header_size + n)) (omega arith) ended)
      ∙ sym (packet_first t k p n f)
  | no_packet f g h ↦ stays t p f (suc m) ∙ sym (stays t p f (suc k))
]

pub walk_stays : WalkStays
walk_stays t k = ended_stays (length t / header_size + k) (length t / header_size) t 0 (omega arith) (walk_ends t)

-- ---- the bytes that a walk has gone over

-- its packets with their headers, joined, stand from its first place on up to where it stopped
record Covered (t : List ℕ) (p : ℕ) (w : Walk) : Type 0 where
  bytes : List ℕ
  joined : Joined w.packets bytes
  inside : w.place ≤ length t
  covers : take p t ++ bytes ≡ take w.place t

-- none
covered_none : (t : List ℕ) (p : ℕ) → p ≤ length t → Covered t p (walk 0 t p)
unfolding walk
covered_none t p h = record { bytes = []; joined = none; inside = h; covers = append-nil (take p t) }

-- what stands from a place on at which a packet is found
found_as : (t : List ℕ) (p n : ℕ) → walk_answer t p ≡ answer done (n ∷ [])
    → DecodedAs (drop p t) (bytes_of (part (p + header_size) n) t) (drop (header_size + n) (drop p t))
found_as t p n e =
    subst (λ (s : List ℕ). DecodedAs (drop p t) (take n s) (drop (header_size + n) (drop p t))) (drop-drop header_size p t)
    (header_first (drop p t) n (accepted (drop p t) n (found t p n e).decoded))

-- one more in front
covered_more : (t : List ℕ) (p n : ℕ) (w : Walk) → walk_answer t p ≡ answer done (n ∷ [])
    → Covered t (p + (header_size + n)) w → Covered t p (behind (bytes_of (part (p + header_size) n) t) w)
covered_more t p n w e c =
    let packet = bytes_of (part (p + header_size) n) t in
    let f = found t p n e in
    let d = found_as t p n e in
    let size : length packet ≡ n = length-take-le n (drop (p + header_size) t) (omega (arith, length-drop (p + header_size) t)) in
    let front = header_with d.third (length packet) ++ packet in
    let there : take (header_size + n) (drop p t) ≡ front = ap (take (header_size + n)) d.parts ∙ take_at front (drop (header_size + n) (drop p t)) (header_size + n) (omega arith) in
    record {
      bytes = front ++ c.bytes;
      joined = one_more d.third packet w.packets c.bytes c.joined;
      inside = c.inside;
      covers =
          sym (append_assoc (take p t) front c.bytes)
          ∙ ap (λ (s : List ℕ). s ++ c.bytes) (ap (λ (s : List ℕ). take p t ++ s) (sym there) ∙ sym (take-add p (header_size + n) t))
          ∙ c.covers;
    }

-- a walk from any place of the transfer
covered : (k : ℕ) (t : List ℕ) (p : ℕ) → p ≤ length t → Covered t p (walk k t p)
covered zero t p h = covered_none t p h
covered (suc k) t p h = elim (stands t p) [
  | some_packet n e ↦
      subst (Covered t p) (sym (packet_first t k p n e))
      (covered_more t p n (walk k t (p + (header_size + n))) e (covered k t (p + (header_size + n)) (found t p n e).inside))
  | no_packet e f g ↦ subst (Covered t p) (sym (stays t p e (suc k))) (covered_none t p h)
]

pub walk_joined : WalkJoined
walk_joined t =
    let c = covered (length t / header_size) t 0 (omega arith) in
    (c.inside, subst (Joined (whole_walk t).packets) c.covers c.joined)

-- ---- the last answer

-- it is the one at the place where the walk stopped
last_there : (k : ℕ) (t : List ℕ) (p : ℕ) → (walk k t p).last ≡ walk_answer t (walk k t p).place
unfolding walk
last_there zero t p = refl
last_there (suc k) t p = last_there k t (place_after t p)

-- an answer that says end is given at the end only
ends_there : (t : List ℕ) (p : ℕ) → walk_answer t p ≡ answer done [] → p ≡ length t
ends_there t p h = elim (stands t p) [
  | some_packet n e ↦ ended n (sym h ∙ e)
  | no_packet e f g ↦ f h
]

pub end_is_whole : EndIsWhole
end_is_whole t e = ends_there t (whole_walk t).place (sym (last_there (length t / header_size) t 0) ∙ e)

-- ---- a walk over joined packets

-- at the end of a transfer it says end
at_end : (t : List ℕ) → walk_answer t (length t) ≡ answer done []
unfolding walk_answer
at_end t =
    let h : length t ≤ length t = omega arith in
    simp (le-ltb (length t) (length t) h, eq-eqb (length t) (length t) refl)

-- a packet behind its header, whatever stands before and behind them, is found
finds : (third : ℕ) (before p rest : List ℕ)
    → walk_answer (before ++ (header_with third (length p) ++ (p ++ rest))) (length before) ≡ answer done (length p ∷ [])
unfolding walk_answer
finds third before p rest =
    let from-here = header_with third (length p) ++ (p ++ rest) in
    let sum = length-append before from-here in
    let inside : length before ≤ length (before ++ from-here) = omega arith in
    let not_end : length before ≡ length (before ++ from-here) → ⊥ = λ e. omega arith in
    simp (le-ltb _ _ inside, ne_eqb _ _ not_end) (ap decode_answer (drop-append_seam before from-here) ∙ decodes third p rest)

-- from behind any bytes, one answer for each packet
walked_from : {ps : List (List ℕ)} {bytes : List ℕ} → Joined ps bytes → (before : List ℕ)
    → walk (length ps) (before ++ bytes) (length before) ≡ to_end ps (length (before ++ bytes))
unfolding walk
walked_from none before =
    subst (λ (t : List ℕ). walk 0 t (length before) ≡ to_end [] (length t)) (sym (append-nil before))
    (ap (λ (a : Answer). record { packets = []; place = length before; last = a }) (at_end before))
walked_from (one_more third p ps bytes j) before =
    let framed = header_with third (length p) ++ p in
    let t = before ++ (framed ++ bytes) in
    let next : length (before ++ framed) ≡ length before + (header_size + length p) = omega (arith, length-append before framed) in
    let packet = ap (take (length p)) (drop-append-add before (framed ++ bytes) header_size) ∙ take-append_seam p bytes in
    packet_first t (length ps) (length before) (length p) (finds third before p bytes)
    ∙ ap₂ behind packet
    (ap (walk (length ps) t) (sym next)
    ∙ subst (λ (s : List ℕ). walk (length ps) s (length (before ++ framed)) ≡ to_end ps (length s)) (append_assoc before framed bytes)
    (walked_from j (before ++ framed)))

-- each packet has the four bytes of its header
four_each : {ps : List (List ℕ)} {bytes : List ℕ} → Joined ps bytes → header_size * length ps ≤ length bytes
four_each none = omega arith
four_each (one_more third p ps bytes j) = omega (arith, four_each j, length-append p bytes)

pub joined_walked : JoinedWalked
joined_walked ps t j =
    let w = walked_from j [] in
    ended_stays (length t / header_size) (length ps) t 0 (omega (arith, four_each j)) (ap (λ (v : Walk). v.last.values) w) ∙ w
