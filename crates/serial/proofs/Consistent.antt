-- What a consistent state says, as facts instead of a test, and the way back: each part of the test is true exactly where its fact holds.
-- Assumes nothing.
use Prim.Native.Nat.{ℕ, ◌+◌, ◌≤◌}
use mathlib.Core.Path.{◌≡◌, refl, subst, sym}
use mathlib.Core.Bool.{true, ◌&&◌, ◌||◌}
use mathlib.Core.Logic.{◌⊎◌, ◌≢◌, ⊎_elim, inl, inr}
use mathlib.Core.List.{List}
use native.Mathlib.Nat.{eq-or-lt_of_le}
use native.Mathlib.Omega.{arith}
use lib.Dec.{eqb, leb}
use lib.ListN.{get_or}
use borrow.Author.Tests.{eq-eqb, eqb-true, le-leb, leb-true}
use Rattle.checks.proofs.Choice.{and, either, first, left, right, second}
use Rattle.serial.specs.declared.receiver.Position.{Position}
use Rattle.serial.specs.declared.receiver.Position.TheVariants.{FrameSearch, SerialRevision, ByteCount, Data, DataEscaped, Check, FrameEnd}
use Rattle.serial.specs.declared.receiver.Receiver.{Receiver}
use Rattle.framing.specs.Frame.{packet_most, revision}
use Rattle.serial.specs.Receiver.{HasRoom, consistent_of, counted, fits_at, in_packet, row_of, step_of}

-- ---- facts, of a count n, a length l and the stored bytes

-- from Data on: a count, and what is stored before the packet
pub record Counted (n : ℕ) (stored : List ℕ) : Type 0 where
  pub some : 1 ≤ n
  pub revision_stored : get_or stored 0 0 ≡ revision
  pub count_stored : get_or stored 1 0 ≡ n

abbrev pub FitsAt : Position → ℕ → ℕ → List ℕ → Type 0
FitsAt FrameSearch n l stored = Unit {0}
FitsAt SerialRevision n l stored = Unit {0}
FitsAt ByteCount n l stored = (l ≡ 1) × (get_or stored 0 0 ≡ revision)
FitsAt Data n l stored = Counted n stored × ((2 ≤ l) × (l ≤ n + 1))
FitsAt DataEscaped n l stored = Counted n stored × ((2 ≤ l) × (l ≤ n + 1))
FitsAt Check n l stored = Counted n stored × ((n + 2 ≤ l) × (l ≤ n + 3))
FitsAt FrameEnd n l stored = Counted n stored × (l ≡ n + 4)

pub record Facts (s : Receiver) : Type 0 where
  pub len_most : s.len ≤ 259
  pub count_most : s.count ≤ 255
  pub here : FitsAt s.position s.count s.len s.stored

-- ---- from the test to the facts

module _ (s : Receiver) where
  counted_reads : counted s ≡ true → Counted s.count s.stored
  counted_reads h =
      let r = right (leb 1 s.count) _ h in
      record {
        some = leb-true 1 s.count (left (leb 1 s.count) (eqb (get_or s.stored 0 0) revision && eqb (get_or s.stored 1 0) s.count) h);
        revision_stored = eqb-true (get_or s.stored 0 0) revision (left _ (eqb (get_or s.stored 1 0) s.count) r);
        count_stored = eqb-true (get_or s.stored 1 0) s.count (right (eqb (get_or s.stored 0 0) revision) _ r);
      }

  packet_reads : in_packet s ≡ true → (2 ≤ s.len) × (s.len ≤ s.count + 1)
  packet_reads h =
      (leb-true 2 s.len (left (leb 2 s.len) (leb s.len (s.count + 1)) h), leb-true s.len (s.count + 1) (right (leb 2 s.len) (leb s.len (s.count + 1)) h))

  near : (s.len ≡ s.count + 2) ⊎ (s.len ≡ s.count + 3) → (s.count + 2 ≤ s.len) × (s.len ≤ s.count + 3)
  near (inl e) = (omega arith, omega arith)
  near (inr e) = (omega arith, omega arith)

  fits_reads : (p : Position) → fits_at p s ≡ true → FitsAt p s.count s.len s.stored
  unfolding fits_at
  fits_reads FrameSearch h = tt
  fits_reads SerialRevision h = tt
  fits_reads ByteCount h =
      (eqb-true s.len 1 (left (eqb s.len 1) (eqb (get_or s.stored 0 0) revision) h), eqb-true (get_or s.stored 0 0) revision (right (eqb s.len 1) (eqb (get_or s.stored 0 0) revision) h))
  fits_reads Data h = (counted_reads (left (counted s) (in_packet s) h), packet_reads (right (counted s) (in_packet s) h))
  fits_reads DataEscaped h = (counted_reads (left (counted s) (in_packet s) h), packet_reads (right (counted s) (in_packet s) h))
  fits_reads Check h =
      let a = eqb s.len (s.count + 2) in
      let b = eqb s.len (s.count + 3) in
      (counted_reads (left (counted s) (a || b) h), ⊎_elim (λ t. near (inl (eqb-true s.len (s.count + 2) t))) (λ t. near (inr (eqb-true s.len (s.count + 3) t))) (either a b (right (counted s) (a || b) h)))
  fits_reads FrameEnd h =
      (counted_reads (left (counted s) (eqb s.len (s.count + 4)) h), eqb-true s.len (s.count + 4) (right (counted s) (eqb s.len (s.count + 4)) h))

  pub facts : consistent_of s ≡ true → Facts s
  unfolding consistent_of
  facts h =
      let r = right (leb s.len 259) (leb s.count 255 && fits_at s.position s) h in
      record {
        len_most = leb-true s.len 259 (left (leb s.len 259) (leb s.count 255 && fits_at s.position s) h);
        count_most = leb-true s.count 255 (left (leb s.count 255) (fits_at s.position s) r);
        here = fits_reads s.position (right (leb s.count 255) (fits_at s.position s) r);
      }

  -- ---- and back

  counted_holds : Counted s.count s.stored → counted s ≡ true
  counted_holds f = and (le-leb 1 s.count f.some) (and (eq-eqb _ _ f.revision_stored) (eq-eqb _ _ f.count_stored))

  packet_holds : (2 ≤ s.len) × (s.len ≤ s.count + 1) → in_packet s ≡ true
  packet_holds f = and (le-leb _ _ f.0) (le-leb _ _ f.1)

  one_of : (s.count + 2 ≤ s.len) × (s.len ≤ s.count + 3) → (s.len ≡ s.count + 2) ⊎ (s.len ≡ s.count + 3)
  one_of f = ⊎_elim (λ e. inl (sym e)) (λ h. inr (omega arith)) (eq-or-lt_of_le f.0)

  fits_holds : (p : Position) → FitsAt p s.count s.len s.stored → fits_at p s ≡ true
  unfolding fits_at
  fits_holds FrameSearch f = refl
  fits_holds SerialRevision f = refl
  fits_holds ByteCount f = and (eq-eqb _ _ f.0) (eq-eqb _ _ f.1)
  fits_holds Data f = and (counted_holds f.0) (packet_holds f.1)
  fits_holds DataEscaped f = and (counted_holds f.0) (packet_holds f.1)
  fits_holds Check f =
      let a = eqb s.len (s.count + 2) in
      let b = eqb s.len (s.count + 3) in
      and (counted_holds f.0) (⊎_elim (λ e. first a b (eq-eqb _ _ e)) (λ e. second a b (eq-eqb _ _ e)) (one_of f.1))
  fits_holds FrameEnd f = and (counted_holds f.0) (eq-eqb _ _ f.1)

  pub holds : Facts s → consistent_of s ≡ true
  unfolding consistent_of
  holds f = and (le-leb _ _ f.len_most) (and (le-leb _ _ f.count_most) (fits_holds s.position f.here))

-- ---- what a step does from a consistent state

-- it takes the row of the state's position
pub row-of : (s : Receiver) (b : ℕ) → consistent_of s ≡ true → step_of b s ≡ row_of s.position b s
unfolding step_of
row-of s b h = simp h

module _ (s : Receiver) (h : consistent_of s ≡ true) (p : Position) (e : s.position ≡ p) where
  pub here_at : FitsAt p s.count s.len s.stored
  here_at = subst (λ (q : Position). FitsAt q s.count s.len s.stored) e (facts s h).here

-- a consistent state has room in each position whose row stores a byte
pub has_room : (s : Receiver) → consistent_of s ≡ true → s.position ≢ FrameSearch → s.position ≢ SerialRevision → s.position ≢ FrameEnd → HasRoom s
has_room s h a b c = go s.position refl (facts s h).count_most (facts s h).here
  where
    go : (p : Position) → s.position ≡ p → s.count ≤ 255 → FitsAt p s.count s.len s.stored → HasRoom s
    go FrameSearch e most f = absurd (a e)
    go SerialRevision e most f = absurd (b e)
    go ByteCount e most f = record { len_below = omega arith; count_most = most }
    go Data e most f = record { len_below = omega arith; count_most = most }
    go DataEscaped e most f = record { len_below = omega arith; count_most = most }
    go Check e most f = record { len_below = omega arith; count_most = most }
    go FrameEnd e most f = absurd (c e)

pub count_bounded : (s : Receiver) → consistent_of s ≡ true → s.count ≤ packet_most
count_bounded s h = (facts s h).count_most
