-- Calls of `next` in turn yield the packets of a walk: each call yields what the definition has at its walker's place, and leaves a walker over the
-- same transfer at the next place. Assumes nothing.
use Rattle.std.specs.Prelude.{ℕ, Some, None, Ok, Err}
use Rattle.std.specs.Borrow.{Bor}
use mathlib.Core.Path.{◌≡◌, ◌∙◌, ap, ap₂, refl}
use mathlib.Core.List.{List, [], ◌∷◌, ◌++◌}
use lib.ListN.{length}
use Rattle.checks.specs.Numbers.{Answer}
use Rattle.checks.specs.Part.{Part}
use Rattle.transfer.specs.declared.walker.Walker.{Walker}
use Rattle.transfer.specs.Walk.{CallsWalk, HandsPart, Item, Yielded, Yields, found_part, handed, handed_all, last_of}
use Rattle.transfer.specs.Walk.{walk, walked_answer, walked_of, walker_at, yielded, yielded_by}

-- a packet comes with an answer that has a value
by_values : (item : Item) (transfer : Bor (List ℕ)) (p : Part) → HandsPart item transfer p
    → handed item ≡ yielded_by transfer.now p (walked_answer (walked_of item)).values
by_values (Some (Ok packet)) transfer p h = ap (λ (bytes : List ℕ). bytes ∷ []) h.0
by_values (Some (Err refused)) transfer p h = refl
by_values None transfer p h = refl

-- one call
one_call : (w : Walker) (y : Yielded) → Yields w y → handed y.item ≡ yielded w.transfer.now w.place
one_call w y h =
    let p = found_part w.transfer.now w.place in
    by_values y.item w.transfer p h.1
    ∙ ap (λ (a : Answer). yielded_by w.transfer.now p a.values) h.0

-- and then the others, from the walker that it left
pub calls_walk : CallsWalk
unfolding walk handed_all last_of
calls_walk w [] h = (refl, refl)
calls_walk w (y ∷ ys) h =
    let rest = calls_walk y.walker ys h.1 in (
      ap₂ ◌++◌ (one_call w y h.0)
          (rest.0 ∙ ap (λ (v : Walker). (walk (length ys) v.transfer.now v.place).packets) h.0.2),
      rest.1 ∙ ap (λ (v : Walker). walker_at v.transfer (walk (length ys) v.transfer.now v.place).place) h.0.2,
    )
