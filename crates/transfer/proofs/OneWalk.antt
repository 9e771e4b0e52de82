-- Each public function of the walker allows one result, by its contract as the source states it (`Reads.Post`); of the two methods the contract is read off
-- their clauses too. Assumes nothing.
use Rattle.std.specs.Prelude.{ℕ, Option, Some, None, Result, Ok, Err}
use mathlib.Core.Path.{◌≡◌, ◌∙◌, ap, ap₂, refl, sym}
use mathlib.Core.List.{List}
use native.Mathlib.Omega.{arith}
use seplogic.Ra.Ura.{Ura}
use base.Logic.{SProp, ent, id⊢}
use prog.Memory.{Memory}
use prog.Routine.{Routine}
use types.Logic.{Logic}
use contract.Lifetimes.{Lfts}
use contract.Monad.{Fun, fact}
use denote.Ref.{Bor}
use denote.Triple.Clauses.{AtExit}
use borrow.Fn.Kinds.{Dens, ended_of}
use Rattle.checks.specs.OneResult.{OneReading, OneResult}
use Rattle.checks.proofs.Part.{same_part}
use Rattle.checks.specs.Part.{Part}
use Rattle.usb.specs.declared.decoder.DecodeError.{DecodeError}
use Rattle.usb.specs.declared.decoder.DecodeError.TheVariants.{RxFailure}
use Rattle.transfer.specs.declared.walker.Walker.{Walker}
use Rattle.transfer.specs.Walk.{HandsPart, Item, OneStart, OneYield, Starts, Yields, found_part, seen, walked_of, yielded_as}
use Rattle.transfer.proofs.Answers.{same_walked}
use Rattle.transfer.specs.contracts.walker.Walker.new as new
use Rattle.transfer.specs.contracts.walker.WalkerIterator.next as next
use denote.MutBor.{MutBor}
use Rattle.transfer.proofs.walker.walk_at.Kinds as walk_at
use Rattle.transfer.proofs.walker.walk_at.Reads as walk-at-reads
use Rattle.transfer.proofs.walker.part_at.Kinds as part_at
use Rattle.transfer.proofs.walker.part_at.Reads as part-at-reads
use Rattle.transfer.proofs.walker.place_after.Kinds as place_after
use Rattle.transfer.proofs.walker.place_after.Reads as place-after-reads
use Rattle.transfer.proofs.walker.Walker.new.Kinds as new-kinds
use Rattle.transfer.proofs.walker.Walker.new.Reads as new-reads
use Rattle.transfer.proofs.walker.WalkerIterator.next.Kinds as next-kinds
use Rattle.transfer.proofs.walker.WalkerIterator.next.Reads as next-reads

-- ---- the functions on a slice and a place

pub walk_at_one : OneResult 1 walk_at.ps walk_at.r walk-at-reads.Post
walk_at_one κs a x y e f p q = same_walked x y (p ∙ sym q)

pub part_at_one : OneReading 1 part_at.ps part_at.r {A = List ℕ × (ℕ × ℕ)} (λ κs r. (r.now, r.ref_ptr)) part-at-reads.Post
part_at_one κs a x y e f p q = same_part x y a.0 (found_part a.0.now a.1.0) p q

pub place_after_one : OneResult 1 place_after.ps place_after.r place-after-reads.Post
place_after_one κs a x y e f p q = p ∙ sym q

-- ---- the two methods: what their contracts say, as the checker reads them off the source, and that this leaves no choice

module _ {M : Type 1} {𝓤 : Ura M} (𝓛 : Logic 𝓤) (mem : Memory → SProp 𝓤) (run : Routine → Fun 𝓤) (κs : Lfts 1) where
  pub new_says : (transfer : Bor (List ℕ)) (w : Walker) (e : AtExit new.ended κs)
      → ent 𝓤 ((new.clauses 𝓛 mem run κs (transfer, tt)).ensures tt w e) (fact 𝓤 (Starts transfer w))
  new_says transfer w e = id⊢ 𝓤 _

module _ {M : Type 1} {𝓤 : Ura M} (𝓛 : Logic 𝓤) (mem : Memory → SProp 𝓤) (run : Routine → Fun 𝓤) (κs : Lfts 2) where
  pub next_says : (w : MutBor Walker) (x : Item) (e : AtExit next.ended κs)
      → ent 𝓤 (next.ensures-steps 𝓛 κs mem run w (record { entry = w; exit = e.0 }) x) (fact 𝓤 (Yields w.now (yielded_as x e.0.now)))
  next_says w x e = id⊢ 𝓤 _

pub one_start : OneStart
one_start transfer x y p q = p ∙ sym q

-- which of the three an answer is
abbrev kind : Result (Option ℕ) DecodeError → ℕ
kind (Ok (Some n)) = 0
kind (Ok None) = 1
kind (Err refused) = 2

-- an item is its answer, and the part that its packet is
same_item : (x y : Item) (transfer : Bor (List ℕ)) (p : Part) → walked_of x ≡ walked_of y → HandsPart x transfer p → HandsPart y transfer p → seen x ≡ seen y
same_item (Some (Ok x)) (Some (Ok y)) transfer p e h k = ap (λ (s : List ℕ × (ℕ × ℕ)). Some (Ok s)) (same_part x y transfer p h k)
same_item (Some (Err RxFailure)) (Some (Err RxFailure)) transfer p e h k = refl
same_item None None transfer p e h k = refl
same_item (Some (Ok x)) (Some (Err y)) transfer p e h k = absurd (omega (arith, ap kind e))
same_item (Some (Err x)) (Some (Ok y)) transfer p e h k = absurd (omega (arith, ap kind e))
same_item (Some (Ok x)) None transfer p e h k = absurd (omega (arith, ap kind e))
same_item None (Some (Ok y)) transfer p e h k = absurd (omega (arith, ap kind e))
same_item (Some (Err x)) None transfer p e h k = absurd (omega (arith, ap kind e))
same_item None (Some (Err y)) transfer p e h k = absurd (omega (arith, ap kind e))

pub one_yield : OneYield
one_yield w x y p q = (
  same_walked (walked_of x.item) (walked_of y.item) (p.0 ∙ sym q.0),
  same_item x.item y.item w.transfer (found_part w.transfer.now w.place) (same_walked (walked_of x.item) (walked_of y.item) (p.0 ∙ sym q.0)) p.1 q.1,
  p.2 ∙ sym q.2,
)

-- the walker that `new` hands back
pub new_one : OneResult 1 new-kinds.ps new-kinds.r new-reads.Post
new_one κs a x y e f p q = one_start a.0 x y p q

-- what `next` gives and leaves
pub next_yields : (κs : Lfts 2) (a : Dens κs next-kinds.ps) (x : Item) (e : AtExit (ended_of 2 next-kinds.ps next-kinds.r) κs)
    → next-reads.Post κs a x e → Yields a.0.now (yielded_as x e.0.now)
next_yields κs a x e p = p.0

-- the answer, and the packet's bytes and where they lie, are one
pub next_read : OneReading 2 next-kinds.ps next-kinds.r {A = Result (Option ℕ) DecodeError × Option (Result (List ℕ × (ℕ × ℕ)) DecodeError)}
    (λ κs x. (walked_of x, seen x)) next-reads.Post
next_read κs a x y e f p q =
    let all = one_yield a.0.now (yielded_as x e.0.now) (yielded_as y f.0.now) (next_yields κs a x e p) (next_yields κs a y f q) in
    ap₂ (λ (answer : Result (Option ℕ) DecodeError) (part : Option (Result (List ℕ × (ℕ × ℕ)) DecodeError)). (answer, part)) all.0 all.1

-- and so is the walker behind it
pub next_one : (κs : Lfts 2) (a : Dens κs next-kinds.ps) (x y : Item) (e f : AtExit (ended_of 2 next-kinds.ps next-kinds.r) κs)
    → next-reads.Post κs a x e → next-reads.Post κs a y f
    → (walked_of x ≡ walked_of y) × (seen x ≡ seen y) × (e.0.now ≡ f.0.now)
next_one κs a x y e f p q = one_yield a.0.now (yielded_as x e.0.now) (yielded_as y f.0.now) (next_yields κs a x e p) (next_yields κs a y f q)
