-- One frame, by the table: from where the next flag opens a frame, a frame hands out its packet on its last byte and nothing before, since
-- each of the packet's bytes is stored behind the revision and the count, and the check bytes are the check of what is stored.
-- Assumes nothing.
use Prim.Native.Nat.{ℕ, suc, ◌+◌, ◌-◌, ◌*◌, ◌/◌, ◌%◌, ◌≤◌}
use mathlib.Core.Path.{◌≡◌, ◌∙◌, ap, refl, subst, sym}
use mathlib.Core.Logic.{◌≢◌, ⊎_elim, inl}
use mathlib.Core.Bool.{true, false, cond}
use mathlib.Core.List.{List, [], ◌∷◌, ◌++◌, append_assoc}
use native.Mathlib.Nat.{div-add-mod', add-zero, add_assoc, add_comm}
use native.Mathlib.Numerals.{add-one}
use native.Mathlib.Omega.{arith}
use lib.Dec.{eqb}
use lib.ListN.{length, get_or, take, drop, set, length-append, length-set}
use lib.Seq.{take-suc-set, take-set-le, get_or-set_same, get_or-set_other}
use borrow.Author.Tests.{eqb-true, eq-eqb, ne_eqb}
use Rattle.checks.specs.FrameCheck.{frame_check}
use Rattle.checks.proofs.Choice.{by_cond}
use Rattle.serial.specs.declared.receiver.Position.{Position}
use Rattle.serial.specs.declared.receiver.Position.TheVariants.{FrameSearch, SerialRevision, Data, Check, FrameEnd}
use Rattle.serial.specs.declared.receiver.Receiver.{Receiver}
use Rattle.framing.specs.Frame.{flag, escape, revision, escaped, escaped_all, covered, check_bytes, behind_flag, frame, frames, AllSendable}
use Rattle.serial.specs.Receiver.{agrees_of, begun, changed, move_to, row_of}
use Rattle.serial.specs.Run.{packet_in}
use Rattle.line.specs.Demand3.{placed, Open}
use Rattle.serial.proofs.Table.{table_outs}
use Rattle.std.proofs.lemmas.List.{drop-take}

-- a state moved to the position that it has is itself: said once, since it rests on a state being known by its fields
pub at_own : (s : Receiver) (q : Position) → s.position ≡ q → move_to q s ≡ s
at_own s q e = ap (λ (p : Position). move_to p s) (sym e)

-- ---- the packet's bytes

-- the position behind a packet's byte
abbrev behind : ℕ → ℕ → Position
behind n l = cond (eqb (l + 1) (n + 2)) Check Data

-- the rest q of a packet is stored behind what stands there already, and the check bytes are next
record Stored (s : Receiver) (i n l : ℕ) (xs q rest : List ℕ) : Type 0 where
  now : List ℕ
  size : length now ≡ 259
  holds : take (n + 2) now ≡ take l xs ++ q
  same : table_outs i (changed Data n l xs s) (escaped_all q ++ rest) ≡ table_outs (i + length (escaped_all q)) (changed Check n (n + 2) now s) rest

module _ (s : Receiver) where
  -- a packet's byte, escaped or not, is stored as it is
  first_outs : (i n l : ℕ) (xs : List ℕ) (b : ℕ) (q rest : List ℕ)
      → table_outs i (changed Data n l xs s) (escaped_all (b ∷ q) ++ rest)
      ≡ table_outs (i + length (escaped b)) (changed (behind n l) n (l + 1) (set xs l b) s) (escaped_all q ++ rest)
  unfolding escaped escaped_all table_outs row_of
  first_outs i n l xs b q rest =
      let P : List ℕ → Type 0 = λ line. table_outs i (changed Data n l xs s) (line ++ escaped_all q ++ rest)
      ≡ table_outs (i + length line) (changed (behind n l) n (l + 1) (set xs l b) s) (escaped_all q ++ rest) in
      by_cond P (eqb b flag) _ _ (λ e. rw (eqb-true b flag e, add_assoc i 1 1))
      (λ e. by_cond P (eqb b escape) _ _ (λ e'. rw (eqb-true b escape e', add_assoc i 1 1)) (λ e'. simp (e, e')))

  all_stored : (q : List ℕ) (i n l : ℕ) (xs rest : List ℕ) → 1 ≤ length q → l + length q ≡ n + 2 → n ≤ 255 → length xs ≡ 259
      → Stored s i n l xs q rest
  unfolding escaped_all
  all_stored [] i n l xs rest some fills few sized = absurd (omega arith)
  all_stored (b ∷ []) i n l xs rest some fills few sized =
      let there : l + 1 ≡ n + 2 = fills in
      record {
        now = set xs l b;
        size = length-set xs l b ∙ sized;
        holds = rw (← there, add-one) (take-suc-set xs l b (omega arith));
        same = first_outs i n l xs b [] rest ∙ rw (eq-eqb (l + 1) (n + 2) there, there, length-append, add-zero);
      }
  all_stored (b ∷ c ∷ cs) i n l xs rest some fills few sized =
      let more : l + 1 ≢ n + 2 = omega arith in
      let r = all_stored (c ∷ cs) (i + length (escaped b)) n (l + 1) (set xs l b) rest (omega arith) (omega arith) few (length-set xs l b ∙ sized) in
      record {
        now = r.now;
        size = r.size;
        holds = r.holds ∙ rw (add-one, take-suc-set xs l b (omega arith)) (append_assoc (take l xs) (b ∷ []) (c ∷ cs));
        same = first_outs i n l xs b (c ∷ cs) rest ∙ rw (ne_eqb (l + 1) (n + 2) more, length-append, ← add_assoc) r.same;
      }

-- ---- the check bytes and the closing flag

abbrev check_of : List ℕ → ℕ
check_of p = frame_check (covered p)

-- the stored bytes behind the first check byte, and behind both
abbrev high_stored : List ℕ → List ℕ → List ℕ
high_stored p xs = set xs (length p + 2) (check_of p / 256)

abbrev both_stored : List ℕ → List ℕ → List ℕ
both_stored p xs = set (high_stored p xs) (length p + 2 + 1) (check_of p % 256)

-- the state behind both, in FrameEnd, and behind the closing flag
abbrev checked : Position → List ℕ → List ℕ → Receiver → Receiver
checked q p xs s = changed q (length p) (length p + 2 + 1 + 1) (both_stored p xs) s

module _ (s : Receiver) (p xs : List ℕ) (few : length p ≤ 255) (sized : length xs ≡ 259) (holds : take (length p + 2) xs ≡ covered p) where
  before : take (length p + 2) (both_stored p xs) ≡ covered p
  before =
      take-set-le (length p + 2) (high_stored p xs) (length p + 2 + 1) (check_of p % 256) (omega arith)
      ∙ take-set-le (length p + 2) xs (length p + 2) (check_of p / 256) (omega arith)
      ∙ holds

  high : get_or (both_stored p xs) (length p + 2) 0 ≡ check_of p / 256
  high =
      get_or-set_other (high_stored p xs) (length p + 2 + 1) (length p + 2) (check_of p % 256) 0 (omega arith)
      ∙ get_or-set_same xs (length p + 2) (check_of p / 256) 0 (omega arith)

  low : get_or (both_stored p xs) (length p + 3) 0 ≡ check_of p % 256
  low =
      let same : length p + 3 ≡ length p + 2 + 1 = omega arith in
      rw same (get_or-set_same (high_stored p xs) (length p + 2 + 1) (check_of p % 256) 0 (omega (arith, length-set xs (length p + 2) (check_of p / 256))))

  agrees : agrees_of (checked FrameEnd p xs s) ≡ true
  unfolding agrees_of
  agrees = eq-eqb (frame_check (take (length p + 2) (both_stored p xs))) (get_or (both_stored p xs) (length p + 2) 0 * 256 + get_or (both_stored p xs) (length p + 3) 0)
      (rw (high, low, before) (sym (div-add-mod' (check_of p) 256)))

  packet : packet_in (length p) (checked FrameSearch p xs s) ≡ p
  packet = rw (← drop-take 2 (length p) (both_stored p xs), add_comm 2 (length p)) (ap (drop 2) before)

  end_outs : (i : ℕ) (rest : List ℕ)
      → table_outs i (changed Check (length p) (length p + 2) xs s) (check_bytes p ++ (flag ∷ rest))
      ≡ (i + 2, p) ∷ table_outs (i + 3) (checked FrameSearch p xs s) rest
  unfolding table_outs row_of
  end_outs i rest =
      let first : eqb (length p + 2 + 1) (length p + 4) ≡ false = ne_eqb (length p + 2 + 1) (length p + 4) (omega arith) in
      let second : eqb (length p + 2 + 1 + 1) (length p + 4) ≡ true = eq-eqb (length p + 2 + 1 + 1) (length p + 4) (omega arith) in
      rw (first, second, agrees, packet, add_assoc i 1 1, add_assoc i 2 1)

-- ---- a whole frame

-- xs, fed to s from place i on, hand out p on their last byte and nothing before; then a flag opens a frame again
record Gives (i : ℕ) (s : Receiver) (xs p rest : List ℕ) : Type 0 where
  left : Receiver
  opens : Open left
  size : length left.stored ≡ 259
  gives : table_outs i s (xs ++ rest) ≡ (i + length xs - 1, p) ∷ table_outs (i + length xs) left rest

-- what stands behind the packet
abbrev behind_packet : List ℕ → List ℕ
behind_packet p = check_bytes p ++ (flag ∷ [])

module _ (s : Receiver) (i n l : ℕ) (xs p rest : List ℕ) (some : 1 ≤ length p) (few : length p ≤ 255) (sized : length xs ≡ 259) where
  stored : Stored s (i + 1 + 1) (length p) 2 (set (set xs 0 revision) 1 (length p)) p (behind_packet p ++ rest)
  stored =
      all_stored s p (i + 1 + 1) (length p) 2 (set (set xs 0 revision) 1 (length p)) (behind_packet p ++ rest) some (omega arith) few (simp length-set sized)

  whole : take (length p + 2) stored.now ≡ covered p
  whole = stored.holds ∙ rw (take-suc-set (set xs 0 revision) 1 (length p) (omega (arith, length-set xs 0 revision)), take-suc-set xs 0 revision (omega arith)) refl

  behind_outs : table_outs i (changed SerialRevision n l xs s) (behind_flag p ++ rest)
      ≡ (i + 1 + 1 + length (escaped_all p) + 2, p) ∷ table_outs (i + 1 + 1 + length (escaped_all p) + 3) (checked FrameSearch p stored.now s) rest
  unfolding table_outs row_of
  behind_outs =
      let counts : eqb (length p) 0 ≡ false = ne_eqb (length p) 0 (omega arith) in
      rw (counts, append_assoc (escaped_all p) (behind_packet p) rest)
      (stored.same ∙ end_outs s p stored.now few stored.size whole (i + 1 + 1 + length (escaped_all p)) rest)

  revision_gives : Gives i (changed SerialRevision n l xs s) (behind_flag p) p rest
  revision_gives =
      let k : length (escaped_all p ++ behind_packet p) ≡ length (escaped_all p) + 3 = length-append (escaped_all p) (behind_packet p) in
      let place : i + 1 + 1 + length (escaped_all p) + 2 ≡ i + length (behind_flag p) - 1 = omega arith in
      let next : i + 1 + 1 + length (escaped_all p) + 3 ≡ i + length (behind_flag p) = omega arith in
      record {
        left = checked FrameSearch p stored.now s;
        opens = inl refl;
        size = simp length-set stored.size;
        gives = rw (place, next) at behind_outs;
      }

-- the opening flag leads to SerialRevision
behind-flag : (i : ℕ) (s t : Receiver) (xs p rest : List ℕ) → table_outs i s (flag ∷ (xs ++ rest)) ≡ table_outs (i + 1) t (xs ++ rest)
    → Gives (i + 1) t xs p rest → Gives i s (flag ∷ xs) p rest
behind-flag i s t xs p rest e g =
    let place : i + 1 + length xs - 1 ≡ i + suc (length xs) - 1 = omega arith in
    let next : i + 1 + length xs ≡ i + suc (length xs) = omega arith in
    record { left = g.left; opens = g.opens; size = g.size; gives = e ∙ (rw (place, next) at g.gives) }

frame_gives : (i : ℕ) (s : Receiver) (p rest : List ℕ) → Open s → length s.stored ≡ 259 → 1 ≤ length p → length p ≤ 255
    → Gives i s (frame p) p rest
unfolding frame table_outs row_of
frame_gives i s p rest opens sized some few = ⊎_elim (λ e. from FrameSearch e search) (λ e. from SerialRevision e serial) opens
  where
    from : (q : Position) → s.position ≡ q → Gives i (move_to q s) (frame p) p rest → Gives i s (frame p) p rest
    from q e g = subst (λ (t : Receiver). Gives i t (frame p) p rest) (at_own s q e) g

    search : Gives i (move_to FrameSearch s) (frame p) p rest
    search =
        behind-flag i (move_to FrameSearch s) (move_to SerialRevision s) (behind_flag p) p rest refl
        (revision_gives s (i + 1) s.count s.len s.stored p rest some few sized)

    serial : Gives i (move_to SerialRevision s) (frame p) p rest
    serial =
        behind-flag i (move_to SerialRevision s) (begun flag SerialRevision s) (behind_flag p) p rest refl
        (revision_gives s (i + 1) 0 1 (set s.stored 0 flag) p rest some few (length-set s.stored 0 flag ∙ sized))

-- ---- any list of frames

pub frames_give : (ps : List (List ℕ)) (i : ℕ) (s : Receiver) → Open s → length s.stored ≡ 259 → AllSendable ps
    → table_outs i s (frames ps) ≡ placed i ps
unfolding frames placed table_outs
frames_give [] i s opens sized h = refl
frames_give (p ∷ ps) i s opens sized h =
    let g = frame_gives i s p (frames ps) opens sized (omega arith) h.0.2 in
    g.gives
    ∙ ap {B = List (ℕ × List ℕ)} (λ o. (i + length (frame p) - 1, p) ∷ o)
    (frames_give ps (i + length (frame p)) g.left g.opens g.size h.1)
