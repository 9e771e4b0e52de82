-- What a state tells of the bytes that led to it: from SerialRevision on, the last bytes fed are a frame's, from its opening to the
-- receiver's position in it, and the stored bytes are theirs without the escapes. Each row of the table keeps this. Assumes nothing.
use Prim.Native.Nat.{ℕ, ◌+◌, ◌<◌, ◌≤◌}
use mathlib.Core.Path.{◌≡◌, ◌∙◌, ap, refl, subst₂}
use mathlib.Core.Logic.{inl, inr}
use mathlib.Core.Bool.{true, cond}
use mathlib.Core.List.{List, [], ◌∷◌, ◌++◌, append_assoc, append-nil}
use native.Mathlib.Numerals.{add-one}
use native.Mathlib.Omega.{arith}
use lib.Dec.{eqb}
use lib.ListN.{length, take, length-append, length-set}
use lib.Seq.{length-take-le, take-suc-set}
use borrow.Author.Tests.{eqb-true}
use Rattle.checks.proofs.Choice.{by_cond}
use Rattle.serial.specs.declared.receiver.Position.{Position}
use Rattle.serial.specs.declared.receiver.Position.TheVariants.{FrameSearch, SerialRevision, ByteCount, Data, DataEscaped, Check, FrameEnd}
use Rattle.serial.specs.declared.receiver.Receiver.{Receiver}
use Rattle.serial.specs.declared.receiver.Stepped.{Stepped}
use Rattle.framing.specs.Frame.{flag, escape, flag_escaped, escape_escaped, revision, escaped, escaped_all}
use Rattle.serial.specs.Receiver.{begun, byte_count_row, frame_end_row, fresh_of, hands_out, move_to, row_of, serial_revision_row, store, store_data, with_count}
use Rattle.serial.specs.Run.{run_of}
use Rattle.line.specs.Converse.{Opened}
use Rattle.serial.proofs.Consistent.{FitsAt}
use Rattle.framing.proofs.FrameLaws.{escaped_all_append}

-- ---- what is told

-- behind an opening the last bytes fed are `line`, and `kept` is stored
pub record Read (h : List ℕ) (s : Receiver) (line kept : List ℕ) : Type 0 where
  pub before : List ℕ
  pub opened : Opened before
  pub heard : h ≡ before ++ line
  pub holds : take s.len s.stored ≡ kept

-- the line has revision, count and the packet so far, and behind these `raw`, of which `kept` is stored
pub record Within (h : List ℕ) (s : Receiver) (raw kept : List ℕ) : Type 0 where
  pub packet : List ℕ
  pub read : Read h s (revision ∷ s.count ∷ (escaped_all packet ++ raw)) (revision ∷ s.count ∷ (packet ++ kept))

-- the packet is whole, and the check bytes so far stand behind it
pub record Behind (h : List ℕ) (s : Receiver) : Type 0 where
  pub checks : List ℕ
  pub within : Within h s checks checks
  pub whole : length within.packet ≡ s.count

-- at each position
abbrev pub TraceAt : Position → List ℕ → Receiver → Type 0
TraceAt FrameSearch h s = Unit {0}
TraceAt SerialRevision h s = Opened h
TraceAt ByteCount h s = Read h s (revision ∷ []) (revision ∷ [])
TraceAt Data h s = Within h s [] []
TraceAt DataEscaped h s = Within h s (escape ∷ []) []
TraceAt Check h s = Behind h s
TraceAt FrameEnd h s = Behind h s

abbrev pub Trace : List ℕ → Receiver → Type 0
Trace h s = TraceAt s.position h s

-- ---- one byte more

-- the stored length is that of revision, count, the packet so far and what is kept behind it
pub stored_length : {h raw kept : List ℕ} (s : Receiver) (w : Within h s raw kept) → s.len ≤ length s.stored → s.len ≡ length w.packet + length kept + 2
stored_length {kept = kept} s w room =
    omega (arith, length-take-le s.len s.stored room, ap (λ (l : List ℕ). length l) w.read.holds, length-append w.packet kept)

module _ (h : List ℕ) (b : ℕ) (s : Receiver) where
  -- b is fed
  abbrev fed : List ℕ
  fed = h ++ (b ∷ [])

  flag_opens : eqb b flag ≡ true → Opened fed
  flag_opens e = record { before = h; opening = b; parts = refl; opens = inl (eqb-true b flag e) }

  -- b is read and nothing is stored
  read_on : (p : Position) {line kept : List ℕ} → Read h s line kept → Read fed (move_to p s) (line ++ (b ∷ [])) kept
  read_on p r =
      record { before = r.before; opened = r.opened; heard = simp (r.heard, append_assoc); holds = r.holds }

  -- b is read and c is stored for it
  read_stored : (p : Position) (n c : ℕ) {line kept : List ℕ} → s.len < length s.stored → Read h s line kept
      → Read fed (move_to p (with_count n (store c s))) (line ++ (b ∷ [])) (kept ++ (c ∷ []))
  read_stored p n c room r =
      record {
        before = r.before;
        opened = r.opened;
        heard = simp (r.heard, append_assoc);
        holds = rw add-one (take-suc-set s.stored s.len c room ∙ ap (λ (l : List ℕ). l ++ (c ∷ [])) r.holds);
      }

  -- a packet's byte c is stored
  within_more : (p : Position) (raw : List ℕ) (c : ℕ) → raw ++ (b ∷ []) ≡ escaped c → s.len < length s.stored → Within h s raw []
      → Within fed (move_to p (store c s)) [] []
  unfolding escaped_all
  within_more p raw c e room w = record {
    packet = w.packet ++ (c ∷ []);
    read =
        subst₂ (Read fed (move_to p (store c s))) (simp (escaped_all_append, append_assoc, append-nil, e)) (simp append-nil)
        (read_stored p s.count c room w.read);
  }

  -- an escape is read
  escape_traced : eqb b escape ≡ true → Within h s [] [] → Within fed (move_to DataEscaped s) (escape ∷ []) []
  escape_traced e w = record {
    packet = w.packet;
    read =
        subst₂ (Read fed (move_to DataEscaped s)) (simp (append_assoc, eqb-true b escape e)) refl
        (read_on DataEscaped w.read);
  }

  -- Check once the count is reached: the packet is whole
  data_traced : (raw : List ℕ) (c : ℕ) → raw ++ (b ∷ []) ≡ escaped c → s.len < length s.stored → Within h s raw []
      → Trace fed (store_data c s)
  data_traced raw c e room w =
      by_cond (λ (p : Position). Trace fed (move_to p (store c s))) (eqb (s.len + 1) (s.count + 2)) Check Data
      (λ t. let more = within_more Check raw c e room w in
      record {
        checks = [];
        within = more;
        whole =
            omega (arith, eqb-true (s.len + 1) (s.count + 2) t, length-set s.stored s.len c, stored_length (move_to Check (store c s)) more (omega (arith, room, length-set s.stored s.len c)));
      })
      (λ t. within_more Data raw c e room w)

  -- a check byte is stored
  behind_more : (p : Position) → s.len < length s.stored → Behind h s → Behind fed (move_to p (store b s))
  behind_more p room o =
      let w = o.within in
      record {
        checks = o.checks ++ (b ∷ []);
        within = record {
          packet = w.packet;
          read =
              subst₂ (Read fed (move_to p (store b s))) (simp append_assoc) (simp append_assoc)
              (read_stored p s.count b room w.read);
        };
        whole = o.whole;
      }

  -- ---- the rows

  module _ (sized : length s.stored ≡ 259) (few : s.count ≤ 255) where
    revision_traced : Opened h → Trace fed (serial_revision_row b s)
    revision_traced o =
        by_cond (λ (p : Position). Trace fed (begun b p s))
        (eqb b revision) ByteCount (cond (eqb b flag) SerialRevision FrameSearch)
        (λ e. let same = ap (λ (c : ℕ). c ∷ []) (eqb-true b revision e) in
        record {
          before = h;
          opened = o;
          heard = ap (λ (l : List ℕ). h ++ l) same;
          holds = take-suc-set s.stored 0 b (omega arith) ∙ same;
        })
        (λ e. by_cond (λ (p : Position). Trace fed (begun b p s))
        (eqb b flag) SerialRevision FrameSearch flag_opens (λ f. tt))

    count_traced : s.len ≡ 1 → Read h s (revision ∷ []) (revision ∷ []) → Trace fed (byte_count_row b s)
    unfolding escaped_all
    count_traced one r =
        by_cond (Trace fed) (eqb b 0) _ _ (λ e. tt)
        (λ e. record { packet = []; read = read_stored Data b b (omega arith) r })

    end_traced : (run_of fresh_of h).position ≡ FrameEnd → Trace fed (frame_end_row b s)
    end_traced ended =
        by_cond (λ (p : Position). Trace fed (move_to p s)) (eqb b flag) FrameSearch SerialRevision (λ e. tt)
        (λ e. record { before = h; opening = b; parts = refl; opens = inr ended })

    -- every row keeps the trace
    pub row_traced : (p : Position) → FitsAt p s.count s.len s.stored → (p ≡ FrameEnd → (run_of fresh_of h).position ≡ FrameEnd) → TraceAt p h s
        → Trace fed (row_of p b s).state
    unfolding row_of escaped
    row_traced FrameSearch fits ended t =
        by_cond (λ (p : Position). Trace fed (move_to p s)) (eqb b flag) SerialRevision FrameSearch flag_opens (λ e. tt)
    row_traced SerialRevision fits ended t = revision_traced t
    row_traced ByteCount fits ended t = count_traced fits.0 t
    row_traced Data fits ended t =
        by_cond (Trace fed) (eqb b flag) _ _ flag_opens
        (λ e. by_cond (Trace fed) (eqb b escape) _ _
        (λ f. escape_traced f t)
        (λ f. data_traced [] b (simp (e, f)) (omega (arith, fits.1)) t))
    row_traced DataEscaped fits ended t =
        by_cond (Trace fed) (eqb b flag_escaped) _ _
        (λ e. data_traced (escape ∷ []) flag (rw (eqb-true b flag_escaped e) refl) (omega (arith, fits.1)) t)
        (λ e. by_cond (Trace fed) (eqb b escape_escaped) _ _
        (λ f. data_traced (escape ∷ []) escape (rw (eqb-true b escape_escaped f) refl) (omega (arith, fits.1)) t)
        (λ f. tt))
    row_traced Check fits ended t =
        by_cond (λ (p : Position). Trace fed (move_to p (store b s))) (eqb (s.len + 1) (s.count + 4)) FrameEnd Check
        (λ e. behind_more FrameEnd (omega (arith, fits.1)) t) (λ e. behind_more Check (omega (arith, fits.1)) t)
    row_traced FrameEnd fits ended t =
        by_cond (λ (o : Stepped). Trace fed o.state) (hands_out b s) _ _
        (λ e. end_traced (ended refl)) (λ e. end_traced (ended refl))
