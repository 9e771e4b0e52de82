-- What `specs/Laws.antt` states of decode: a header with its packet is accepted and nothing else is, since each check asks for one of the header's
-- bytes or for the packet's length. Assumes nothing.
use Prim.Native.Nat.{ℕ, ◌+◌, ◌-◌, ◌≤◌}
use mathlib.Core.Path.{◌≡◌, ◌∙◌, ap, ap₂, refl, subst, sym}
use mathlib.Core.List.{List, [], ◌∷◌, ◌++◌}
use native.Mathlib.Omega.{arith}
use lib.ListN.{length, get_or, take, drop, length-append, length-drop, take-append-drop}
use lib.Seq.{drop-append-add, drop-append_seam, drop-cons, drop-drop, length-take-le, take-append_seam}
use borrow.Author.Rules.{part_to_end}
use Rattle.checks.specs.Numbers.{answer, done}
use Rattle.checks.specs.Part.{Inside, bytes_of}
use Rattle.checks.proofs.Numbers.{same_values}
use Rattle.usb.specs.Decode.{decode_answer, packet_at, rest_at}
use Rattle.usb.specs.Header.{header_size, header_with}
use Rattle.usb.specs.Laws.{DecodedAs, HeaderDecoded, OnlyHeaders, PartsInside}
use Rattle.usb.proofs.DecodeLaws.{Accepted, accepted, accepts, decides, refuses, whole}

-- what decode answers of a header before its packet
pub decodes : (third : ℕ) (packet rest : List ℕ)
    → decode_answer (header_with third (length packet) ++ (packet ++ rest)) ≡ answer done (length packet ∷ [])
decodes third packet rest =
    let bytes = header_with third (length packet) ++ (packet ++ rest) in
    let joined = length-append packet rest in
    let long : header_size ≤ length bytes = omega arith in
    let counted : header_size ≤ length packet + header_size = omega arith in
    let there : length packet + header_size ≤ length bytes = omega arith in
    let size : length packet + header_size - header_size ≡ length packet = omega arith in
    whole bytes long refl refl (length packet + header_size) refl counted there ∙ ap (λ (n : ℕ). answer done (n ∷ [])) size

pub header_decoded : HeaderDecoded
header_decoded third packet rest =
    let header = header_with third (length packet) in
    let bytes = header ++ (packet ++ rest) in
    let e = same_values (decodes third packet rest) in (
      decodes third packet rest,
      ap (λ (v : List ℕ). bytes_of (packet_at 0 v) bytes) e ∙ take-append_seam packet rest,
      ap (λ (v : List ℕ). bytes_of (rest_at (length bytes) v) bytes) e
          ∙ part_to_end bytes (header_size + length packet)
          ∙ drop-append-add header (packet ++ rest) (length packet)
          ∙ drop-append_seam packet rest,
    )

-- an input that is accepted is a header, the packet and what is behind it
pub header_first : (bytes : List ℕ) (n : ℕ) → Accepted bytes n → DecodedAs bytes (take n (drop header_size bytes)) (drop (header_size + n) bytes)
header_first bytes n a =
    let packet = take n (drop header_size bytes) in
    let size : length packet ≡ n = length-take-le n (drop header_size bytes) (omega (arith, length-drop header_size bytes)) in
    record {
      third = get_or bytes 2 0;
      parts =
          drop-cons bytes 0 0 (omega arith) ∙ ap₂ ◌∷◌ a.first
          (drop-cons bytes 1 0 (omega arith) ∙ ap₂ ◌∷◌ a.second
          (drop-cons bytes 2 0 (omega arith) ∙ ap (λ (rest : List ℕ). get_or bytes 2 0 ∷ rest)
          (drop-cons bytes 3 0 (omega arith) ∙ ap₂ ◌∷◌ (omega arith)
          (sym (take-append-drop n (drop header_size bytes)) ∙ ap (λ (rest : List ℕ). packet ++ rest) (drop-drop n header_size bytes)))));
    }

pub only_headers : OnlyHeaders
only_headers bytes n e =
    subst (λ (v : List ℕ). DecodedAs bytes (bytes_of (packet_at 0 v) bytes) (bytes_of (rest_at (length bytes) v) bytes)) (sym (same_values e))
    (subst (λ (rest : List ℕ). DecodedAs bytes (take n (drop header_size bytes)) rest) (sym (part_to_end bytes (header_size + n)))
    (header_first bytes n (accepted bytes n e)))

-- both parts, by the values of an answer
abbrev BothInside : List ℕ → List ℕ → Type 0
BothInside input v = Inside (packet_at 0 v) (length input) × Inside (rest_at (length input) v) (length input)

pub parts_inside : PartsInside
parts_inside input = elim (decides input) [
  | accepts n e ↦ let fits = (accepted input n e).fits in subst (BothInside input) (sym (same_values e)) (omega arith, omega arith)
  | refuses e ↦ subst (BothInside input) (sym (same_values e)) (omega arith, omega arith)
]
