-- Laws of a step on the state that a buffer holds: where a packet is handed out, and that it has a byte. Assumes nothing.
use Prim.Native.Nat.{ℕ}
use mathlib.Core.Path.{◌≡◌, ap, refl}
use mathlib.Core.Bool.{Bool, true, false, cond, ◌&&◌}
use mathlib.Core.List.{List, [], ◌∷◌}
use native.Mathlib.Omega.{arith}
use lib.Dec.{eqb}
use lib.ListN.{length}
use borrow.Author.Tests.{eqb-true}
use Rattle.checks.specs.Numbers.{first_of}
use Rattle.serial.specs.declared.receiver.Position.{Position}
use Rattle.serial.specs.declared.receiver.Position.TheVariants.{FrameSearch, SerialRevision, ByteCount, Data, DataEscaped, Check, FrameEnd}
use Rattle.serial.specs.declared.receiver.Receiver.{Receiver}
use Rattle.serial.specs.Answers.{handed_at}
use Rattle.framing.specs.Frame.{flag}
use Rattle.serial.specs.Receiver.{agrees_of, consistent_of}
use Rattle.serial.proofs.Consistent.{here_at}
use Rattle.state.specs.InBuffer.{step_answer_in}
use Rattle.state.specs.Laws.{HandedSome}
use Rattle.state.specs.State.{loaded}

-- ---- a packet that a step hands out

-- where one is handed out: in FrameEnd, on a flag, and its length is the count
pub record Handed (p : Position) (b n : ℕ) (s : Receiver) : Type 0 where
  pub at_end : p ≡ FrameEnd
  pub on_flag : b ≡ flag
  pub counted : s.count ≡ n

pub handed : (p : Position) (b n : ℕ) (ns : List ℕ) (s : Receiver) → handed_at p b s ≡ n ∷ ns → Handed p b n s
handed FrameSearch b n ns s e = cc
handed SerialRevision b n ns s e = cc
handed ByteCount b n ns s e = cc
handed Data b n ns s e = cc
handed DataEscaped b n ns s e = cc
handed Check b n ns s e = cc
handed FrameEnd b n ns s e = go (eqb b flag) (agrees_of s) refl e
  where
    go : (f a : Bool) → eqb b flag ≡ f → cond (f && a) (s.count ∷ []) [] ≡ n ∷ ns → Handed FrameEnd b n s
    go true true h e = record { at_end = refl; on_flag = eqb-true b flag h; counted = ap first_of e }
    go true false h e = cc
    go false a h e = cc

-- what it is handed out of
pub record HandedIn (b n : ℕ) (bytes : List ℕ) : Type 0 where
  pub fits : consistent_of (loaded bytes) ≡ true
  pub gave : Handed (loaded bytes).position b n (loaded bytes)

pub handed_in : (b n : ℕ) (ns bytes : List ℕ) → (step_answer_in b bytes).values ≡ n ∷ ns → HandedIn b n bytes
unfolding step_answer_in
handed_in b n ns bytes e = go (consistent_of (loaded bytes)) refl
  where
    go : (t : Bool) → consistent_of (loaded bytes) ≡ t → HandedIn b n bytes
    go true h = record { fits = h; gave = handed (loaded bytes).position b n ns (loaded bytes) (simp h at e) }
    go false h = absurd (omega (arith, ap length (simp h at e)))

-- it has a byte: in FrameEnd a consistent state has a count
pub handed_some : HandedSome
handed_some bytes b n e =
    let from = handed_in b n [] bytes e in
    omega (arith, (here_at (loaded bytes) from.fits FrameEnd from.gave.at_end).0.some, from.gave.counted)
