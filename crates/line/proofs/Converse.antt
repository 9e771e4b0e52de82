-- A packet is handed out only where the last bytes fed are its frame: in FrameEnd the state's trace has the frame up to its check bytes, the
-- agreeing check says that these are the packet's, and the flag that hands out closes it. Assumes nothing.
use Prim.Native.Nat.{ℕ, suc, ◌+◌, ◌*◌, ◌≤◌}
use mathlib.Core.Path.{◌≡◌, ◌∙◌, ap, ap₂, refl, sym, subst, subst₂}
use mathlib.Core.Bool.{true}
use mathlib.Core.List.{List, [], ◌∷◌, ◌++◌, append_assoc, append-nil}
use native.Mathlib.Omega.{arith}
use lib.Dec.{eqb}
use lib.ListN.{length, get_or, take, drop, length-append, take-append-drop}
use lib.Seq.{append_snoc, get_or-append-add, take_at, take-append-add, get_or_at}
use borrow.Author.Tests.{eqb-true}
use Rattle.checks.specs.FrameCheck.{frame_check}
use Rattle.checks.specs.Laws.{Bytes}
use Rattle.checks.specs.Register.{bit_step, bit_steps, byte_step, check_from}
use Rattle.checks.proofs.Choice.{by_cond, left, right}
use Rattle.checks.proofs.Bytes.{bytes_back, bytes_front, bytes_each}
use Rattle.serial.specs.declared.receiver.Position.{Position}
use Rattle.serial.specs.declared.receiver.Position.TheVariants.{FrameSearch, SerialRevision, ByteCount, Data, DataEscaped, Check, FrameEnd}
use Rattle.serial.specs.declared.receiver.Receiver.{Receiver}
use Rattle.std.proofs.Common.{Some, None, Ok, Err}
use Rattle.serial.specs.declared.receiver.Stepped.{Stepped}
use Rattle.framing.specs.Computed.{ending}
use Rattle.framing.specs.Frame.{flag, revision, escaped_all, covered, check_bytes, behind_flag, escaped, frame}
use Rattle.serial.specs.Receiver.{Outcome, agrees_of, fresh_of, hands_out, row_of, step_of, consistent_of, fits_at}
use Rattle.serial.specs.Run.{emit, outs_by, outs_of, packet_in, run_by, run_of}
use Rattle.line.specs.Converse.{AllAsSent, Each, OnlyAsSent, SentAs, SentAt, StreamAsSent, FlagNotNeeded, flagless}
use Rattle.serial.proofs.Consistent.{FitsAt, facts, row-of}
use Rattle.serial.proofs.Keeps.{reachable_consistent}
use Rattle.serial.proofs.Run.{run_append}
use Rattle.line.proofs.Trace.{Trace, TraceAt, Within, row_traced, stored_length}

-- ---- the closing flag

-- a frame as far as its two check bytes
module _ (h : List ℕ) (s : Receiver) (high low : ℕ) (w : Within h s (high ∷ low ∷ []) (high ∷ low ∷ [])) (whole : length w.packet ≡ s.count) where
  -- revision, count and packet, as they are stored
  head : List ℕ
  head = revision ∷ s.count ∷ w.packet

  rest : List ℕ
  rest = high ∷ low ∷ drop s.len s.stored

  stored_parts : s.stored ≡ head ++ rest
  unfolding head rest
  stored_parts = sym (take-append-drop s.len s.stored) ∙ rw (w.read.holds, append_assoc)

  covered_stored : take (s.count + 2) s.stored ≡ covered w.packet
  unfolding head
  covered_stored = rw (stored_parts, whole) (take_at head rest (s.count + 2) (omega arith))

  check_stored : (i place : ℕ) → place ≡ s.count + 2 + i → get_or s.stored place 0 ≡ get_or rest i 0
  unfolding head
  check_stored i place e =
      let behind : place ≡ length head + i = omega arith in
      ap₂ (λ (l : List ℕ) (k : ℕ). get_or l k 0) stored_parts behind ∙ get_or-append-add head rest i 0

  packet_stored : packet_in s.count s ≡ w.packet
  unfolding head
  packet_stored = rw stored_parts (take_at w.packet rest s.count whole)

  -- where the check agrees, the two bytes are the packet's check bytes
  agreed : agrees_of s ≡ true → frame_check (covered w.packet) ≡ high * 256 + low
  unfolding agrees_of rest
  agreed e =
      ap frame_check (sym covered_stored) ∙ eqb-true _ _ e
      ∙ ap₂ (λ (x y : ℕ). x * 256 + y) (check_stored 0 (s.count + 2) (omega arith)) (check_stored 1 (s.count + 3) (omega arith))

  ends_bytes : Bytes h → Bytes (high ∷ low ∷ [])
  ends_bytes bytes =
      bytes_back (escaped_all w.packet) (high ∷ low ∷ [])
      (λ i. bytes_back w.read.before (revision ∷ s.count ∷ (escaped_all w.packet ++ (high ∷ low ∷ []))) (subst Bytes w.read.heard bytes) (suc (suc i)))

  checks_agreed : Bytes h → agrees_of s ≡ true → high ∷ low ∷ [] ≡ check_bytes w.packet
  checks_agreed bytes e =
      let ends = ends_bytes bytes in
      ap₂ (λ (x y : ℕ). x ∷ y ∷ []) (omega (arith, ends 0, ends 1, agreed e)) (omega (arith, ends 0, ends 1, agreed e))

  -- a flag closes it
  closed : (b : ℕ) → Bytes h → b ≡ flag → agrees_of s ≡ true → SentAs (h ++ (b ∷ [])) w.packet
  closed b bytes e agrees = record {
    before = w.read.before;
    parts = simp (w.read.heard, append_assoc) (cc (checks_agreed bytes agrees));
    opened = w.read.opened;
  }

-- the same of the trace's check bytes, which are two
flag_sent : (h : List ℕ) (b : ℕ) (s : Receiver) (checks : List ℕ) (w : Within h s checks checks) → Bytes h → length w.packet ≡ s.count → length checks ≡ 2
    → b ≡ flag → agrees_of s ≡ true → SentAs (h ++ (b ∷ [])) (packet_in s.count s)
flag_sent h b s [] w bytes whole two e agrees = absurd (omega arith)
flag_sent h b s (high ∷ []) w bytes whole two e agrees = absurd (omega arith)
flag_sent h b s (high ∷ low ∷ []) w bytes whole two e agrees =
    subst (SentAs (h ++ (b ∷ []))) (sym (packet_stored h s high low w whole)) (closed h s high low w whole b bytes e agrees)
flag_sent h b s (high ∷ low ∷ c ∷ more) w bytes whole two e agrees = absurd (omega arith)

-- ---- a step that hands out a packet

-- only the row of FrameEnd hands out, on a flag and where the check agrees
row_sent : (h : List ℕ) (b n : ℕ) (s : Receiver) → Bytes h → length s.stored ≡ 259 → s.len ≤ 259
    → (p : Position) → FitsAt p s.count s.len s.stored → TraceAt p h s → (row_of p b s).outcome ≡ Ok (Some n)
    → SentAs (h ++ (b ∷ [])) (packet_in n (row_of p b s).state)
unfolding row_of
row_sent h b n s bytes sized room FrameSearch fits t e = cc
row_sent h b n s bytes sized room SerialRevision fits t e = cc
row_sent h b n s bytes sized room ByteCount fits t e = cc
row_sent h b n s bytes sized room Data fits t e = cc
row_sent h b n s bytes sized room DataEscaped fits t e = cc
row_sent h b n s bytes sized room Check fits t e = cc
row_sent h b n s bytes sized room FrameEnd fits t e =
    by_cond (λ (o : Stepped). o.outcome ≡ Ok (Some n) → SentAs (h ++ (b ∷ [])) (packet_in n o.state))
    (hands_out b s) _ _
    (λ both e'. let same : s.count ≡ n = cc in
    subst (λ (k : ℕ). SentAs (h ++ (b ∷ [])) (packet_in k s)) same
    (flag_sent h b s t.checks t.within bytes t.whole (omega (arith, stored_length s t.within (omega arith), t.whole, fits.1))
    (eqb-true b flag (left (eqb b flag) (agrees_of s) both)) (right (eqb b flag) (agrees_of s) both)))
    (λ both e'. cc) e

-- ---- from fresh

-- the bytes h are told by the state that they lead to
abbrev Told : List ℕ → Type 0
Told h = Trace h (run_of fresh_of h)

step_told : (h : List ℕ) (b : ℕ) → Bytes h → Told h → Told (h ++ (b ∷ []))
unfolding run_by
step_told h b bytes t =
    let s = run_of fresh_of h in
    let c = reachable_consistent h bytes in
    let f = facts s c.fits in
    subst (Trace (h ++ (b ∷ []))) (sym (run_append fresh_of h (b ∷ []) ∙ ap (λ (o : Stepped). o.state) (row-of s b c.fits)))
    (row_traced h b s c.sized f.count_most s.position f.here (λ e. e) t)

told_from : (rest h : List ℕ) → Bytes (h ++ rest) → Told h → Told (h ++ rest)
told_from [] h bytes t = subst Told (sym (append-nil h)) t
told_from (b ∷ rest) h bytes t =
    subst Told (append_snoc h b rest)
    (told_from rest (h ++ (b ∷ [])) (subst Bytes (sym (append_snoc h b rest)) bytes) (step_told h b (bytes_front h (b ∷ rest) bytes) t))

pub only_as_sent : OnlyAsSent
unfolding run_by
only_as_sent h b n bytes e =
    let s = run_of fresh_of h in
    let c = reachable_consistent h bytes in
    let f = facts s c.fits in
    let row = row-of s b c.fits in
    subst (λ (o : Stepped). SentAs (h ++ (b ∷ [])) (packet_in n o.state)) (sym row)
    (row_sent h b n s bytes c.sized f.len_most s.position f.here (told_from h [] bytes tt) (ap (λ (o : Stepped). o.outcome) (sym row) ∙ e))

-- ---- a whole stream

-- what holds of a packet that a step hands out at place i, and of each that follows, holds of each
pub emit_each : (so : ℕ → List ℕ → Type 0) (o : Outcome) (s : Receiver) (i : ℕ) (outs : List (ℕ × List ℕ))
    → ((n : ℕ) → o ≡ Ok (Some n) → so i (packet_in n s)) → Each so outs → Each so (emit o s i outs)
emit_each so (Ok None) s i outs here all = all
emit_each so (Ok (Some n)) s i outs here all = (here n refl, all)
emit_each so (Err e) s i outs here all = all

-- behind the bytes h, each packet that the rest hands out is sent as it is
sent_from : (rest h : List ℕ) → Bytes (h ++ rest) → AllAsSent (h ++ rest) (outs_of (length h) (run_of fresh_of h) rest)
unfolding outs_by run_by
sent_from [] h bytes = tt
sent_from (b ∷ rest) h bytes =
    let s = run_of fresh_of h in
    let stream = h ++ (b ∷ rest) in
    let joined = append_snoc h b rest in
    let place : take (length h + 1) stream ≡ h ++ (b ∷ []) = take-append-add h (b ∷ rest) 1 in
    let next : outs_of (length (h ++ (b ∷ []))) (run_of fresh_of (h ++ (b ∷ []))) rest ≡ outs_of (length h + 1) (step_of b s).state rest =
    ap₂ (λ (i : ℕ) (r : Receiver). outs_of i r rest) (length-append h (b ∷ [])) (run_append fresh_of h (b ∷ [])) in
    emit_each (SentAt stream) (step_of b s).outcome (step_of b s).state (length h) (outs_of (length h + 1) (step_of b s).state rest)
    (λ n e. subst (λ (l : List ℕ). SentAs l (packet_in n (step_of b s).state)) (sym place)
    (only_as_sent h b n (bytes_front h (b ∷ rest) bytes) e))
    (subst₂ AllAsSent joined next (sent_from rest (h ++ (b ∷ [])) (subst Bytes (sym joined) bytes)))

pub stream_as_sent : StreamAsSent
unfolding run_by
stream_as_sent stream bytes = sent_from stream [] bytes

-- ---- without a flag before the revision

-- the byte before the revision is the seventh
flagless_unframed : (before : List ℕ) → flagless ≡ before ++ frame (ending 0x00) → ⊥
unfolding frame escaped_all escaped
flagless_unframed before e =
    let six : length before ≡ 6 = omega (arith, ap (λ (l : List ℕ). length l) e, length-append before (frame (ending 0x00))) in
    let seventh : get_or flagless 6 0 ≡ flag = ap (λ (l : List ℕ). get_or l 6 0) e ∙ get_or_at before flag (behind_flag (ending 0x00)) 0 6 six in
    omega (arith, seventh)

pub flag_not_needed : FlagNotNeeded
unfolding outs_by step_of consistent_of fits_at row_of agrees_of escaped_all escaped check_from byte_step bit_steps bit_step
flag_not_needed = (bytes_each flagless (omega arith), refl, flagless_unframed)
