-- A check by a fold over the bytes, of any register: where each turn is the byte's step, what comes out is the check. A turn may rest on the byte's range
-- and on the register's. Assumes nothing.
use Rattle.std.proofs.Common.{◌≡◌, ◌∙◌, ◌<◌, ℕ, List, [], ◌∷◌, ◌++◌, Iter, ap, refl, subst, sym}
use Rattle.std.specs.Fn.{Called}
use Rattle.std.specs.Iterator.{FoldsItems}
use Rattle.std.proofs.lemmas.Fn.{fold_over, fronts, slice_gives}
use denote.Param.Members.{Mut}
use denote.Ref.{Bor}
use Rattle.checks.specs.Laws.{Bytes, StaysBelow}
use Rattle.checks.specs.Register.{Register, byte_step, check_from}
use Rattle.checks.proofs.Bytes.{bytes_back, bytes_front}
use Rattle.checks.proofs.Register.{one_more}

module _ (g : Register) (limit : ℕ) (below : StaysBelow limit g) (r : ℕ) (small : r < limit) where
  abbrev After : List ℕ → ℕ → Type 0
  After bytes reg = Bytes bytes → reg ≡ check_from g r bytes

  none : After [] r
  unfolding check_from
  none h = refl

  more : (bytes : List ℕ) (reg b next : ℕ) → After bytes reg → (reg < limit → b < 256 → next ≡ byte_step g reg b) → After (bytes ++ (b ∷ [])) next
  more bytes reg b next so_far turn h =
      let front = bytes_front bytes (b ∷ []) h in
      let here = so_far front in
      turn (subst (λ (q : ℕ). q < limit) (sym here) (below r bytes small front)) (bytes_back bytes (b ∷ []) h 0)
      ∙ ap (λ (q : ℕ). byte_step g q b) here
      ∙ sym (one_more g r bytes b)

  pub folded : {F : Type 0} (call : Mut F (ℕ × (Bor ℕ × Unit {0})) ℕ) (f : F) (s : Iter ℕ) (bytes : List ℕ) (result : ℕ)
      → ((a : ℕ) (x : Bor ℕ) (b : ℕ) (f' : F) → Called call f (a, (x, tt)) b f' → (a < limit → x.now < 256 → b ≡ byte_step g a x.now) × (f' ≡ f))
      → s.rest.now ≡ bytes → Bytes bytes → FoldsItems fronts call s f r result → result ≡ check_from g r bytes
  folded call f s bytes result turn e h ran =
      subst (λ (xs : List ℕ). After xs result) e
      (fold_over fronts (λ y. y.now) call After f
      (λ ys a x b f' j k. (more ys a x.now b j (turn a x b f' k).0, (turn a x b f' k).1))
      s s.rest.now r result (slice_gives s) none ran) h
