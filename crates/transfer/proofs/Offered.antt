-- What `specs/Transfers.antt` states of what the builder made and of a walk over it. A packet that is taken is put behind its header, right behind the used
-- bytes, which stay; so the used bytes are the taken packets with their headers, joined, and a walk yields these.
-- Assumes nothing.
use Prim.Native.Nat.{ℕ, ◌+◌, ◌-◌, ◌≤◌}
use mathlib.Core.Path.{◌≡◌, ◌∙◌, ap, refl, sym}
use mathlib.Core.Bool.{Bool, true, false, cond, not, ◌&&◌, false≢true}
use mathlib.Core.List.{List, [], ◌∷◌, ◌++◌, append_assoc, append-nil}
use native.Mathlib.Omega.{arith}
use lib.Dec.{eqb, leb}
use lib.ListN.{length, take}
use lib.Seq.{length-take-le}
use borrow.Author.Tests.{leb-true}
use Rattle.checks.specs.Numbers.{answer, done}
use Rattle.checks.specs.Output.{put_at}
use Rattle.checks.proofs.Choice.{left, right}
use Rattle.checks.proofs.Output.{length_put, take_put}
use Rattle.usb.specs.Header.{framed, header_size, sendable}
use Rattle.usb.specs.Numbers.{bad_packet, no_room}
use Rattle.transfer.specs.Builder.{append_answer, append_output, fits, limit, takes, used_after}
use Rattle.transfer.specs.Transfers.{Building, BuiltBytes, BuiltWalked, Joined, none, offered, one_more, to_end, transfer_of, used_bytes}
use Rattle.transfer.specs.Walk.{whole_walk}
use Rattle.transfer.proofs.Limit.{limit_room}
use Rattle.transfer.proofs.Transfers.{joined_walked}

-- ---- what was built

-- a packet that is taken has room behind the used bytes
takes_room : (size used room : ℕ) → takes size used room ≡ true → used + (size + header_size) ≤ room
unfolding append_answer
takes_room size used room h = go (sendable size) (fits size used room) refl h
  where
    low : Bool
    low = leb used (limit room)

    high : Bool
    high = leb (size + header_size) (limit room - used)

    go : (s f : Bool) → (low && high) ≡ f
        → eqb (cond (not s) (answer bad_packet []) (cond (not f) (answer no_room []) (answer done []))).number done ≡ true → used + (size + header_size) ≤ room
    go true true e h =
        let behind-used : used ≤ limit room = leb-true used (limit room) (left low high e) in
        let below-limit : size + header_size ≤ limit room - used = leb-true (size + header_size) (limit room - used) (right low high e) in
        omega (arith, limit_room room)
    go true false e h = absurd (false≢true h)
    go false f e h = absurd (false≢true h)

-- the used bytes are those before, and behind them the packets that were taken, each behind its header
record BuiltOn (out : List ℕ) (used : ℕ) (b : Building) : Type 0 where
  inside : b.used ≤ length b.out
  bytes : used_bytes b ≡ take used out ++ transfer_of b.taken

-- a packet that was offered, by whether it was taken, and then more
abbrev offered_by : Bool → List ℕ → List ℕ → ℕ → List (List ℕ) → Building
offered_by test p out used ps =
    let rest = offered (cond test (put_at used (framed p) out) out) (cond test (used + (length p + header_size)) used) ps in
    record { out = rest.out; used = rest.used; taken = cond test (p ∷ []) [] ++ rest.taken }

-- what is built on a packet that was put is built on what stood before it
built_behind : (p out : List ℕ) (used : ℕ) (b : Building) → used ≤ length out → BuiltOn (put_at used (framed p) out) (used + (length p + header_size)) b
    → BuiltOn out used (record { out = b.out; used = b.used; taken = p ∷ b.taken })
unfolding transfer_of
built_behind p out used b h r =
    let end : used + (length p + header_size) ≡ used + length (framed p) = omega arith in
    record {
      inside = r.inside;
      bytes =
          r.bytes
          ∙ ap (λ (s : List ℕ). s ++ transfer_of b.taken) (ap (λ (n : ℕ). take n (put_at used (framed p) out)) end ∙ take_put used (framed p) out h)
          ∙ append_assoc (take used out) (framed p) (transfer_of b.taken);
    }

-- packets offered in turn
built_on : (ps : List (List ℕ)) (out : List ℕ) (used : ℕ) → used ≤ length out → BuiltOn out used (offered out used ps)
unfolding offered transfer_of append_output used_after
built_on [] out used h = record { inside = h; bytes = sym (append-nil (take used out)) }
built_on (p ∷ ps) out used h = go (takes (length p) used (length out)) refl (built_on ps)
  where
    go : (test : Bool) → takes (length p) used (length out) ≡ test
        → ((o : List ℕ) (u : ℕ) → u ≤ length o → BuiltOn o u (offered o u ps)) → BuiltOn out used (offered_by test p out used ps)
    go true e rest =
        let room = takes_room (length p) used (length out) e in
        let put = put_at used (framed p) out in
        let kept : length put ≡ length out = length_put used (framed p) out (omega arith) in
        built_behind p out used (offered put (used + (length p + header_size)) ps) h (rest put (used + (length p + header_size)) (omega arith))
    go false e rest = rest out used h

-- an output whose used count is 0
from_start : (out : List ℕ) (ps : List (List ℕ)) → BuiltOn out 0 (offered out 0 ps)
from_start out ps = built_on ps out 0 (omega arith)

pub built_bytes : BuiltBytes
built_bytes out ps = (from_start out ps).bytes

-- ---- a walk over it

-- each behind the header that is sent, joined
sent_joined : (ps : List (List ℕ)) → Joined ps (transfer_of ps)
unfolding transfer_of
sent_joined [] = none
sent_joined (p ∷ ps) = one_more 0 p ps (transfer_of ps) (sent_joined ps)

pub built_walked : BuiltWalked
built_walked out ps =
    let b = offered out 0 ps in
    let r = from_start out ps in
    ap whole_walk r.bytes
    ∙ joined_walked b.taken (transfer_of b.taken) (sent_joined b.taken)
    ∙ ap (to_end b.taken) (ap length (sym r.bytes) ∙ length-take-le b.used b.out r.inside)
