-- Laws of the frame writer's steps: one that writes a byte, one that only checks one, and two that follow one another. Assumes nothing.
use Prim.Native.Nat.{ℕ, ◌+◌, ◌/◌, ◌%◌, ◌≤◌, ◌<◌}
use mathlib.Core.Path.{◌≡◌, ◌∙◌, ap, ap₂, refl, sym}
use mathlib.Core.List.{List, [], ◌∷◌, ◌++◌, append-nil}
use native.Mathlib.Nat.{add-zero, mod-eq_of_lt}
use native.Mathlib.Omega.{arith}
use lib.ListN.{length, get_or, set, take, drop, length-append, length-set, take-append-drop}
use Rattle.std.proofs.lemmas.List.{take_more}
use Rattle.checks.specs.FrameCheck.{frame_check, frame_check_from, frame_register}
use Rattle.checks.specs.Register.{byte_step, check_from}
use Rattle.checks.proofs.Output.{put_none, put_one, put_put}
use Rattle.checks.specs.Output.{at_start, put_at}
use Rattle.checks.proofs.Register.{joins}
use Rattle.framing.specs.declared.frame.Writer.{Writer}
use borrow.Author.Tests.{eq-eqb, eqb-false, ne_eqb}
use lib.Dec.{eqb}
use mathlib.Core.Bool.{Bool, true, false, cond}
use Rattle.framing.specs.Frame.{flag, escape, flag_escaped, escape_escaped, revision, escaped, escaped_all, check_bytes, covered, frame}
use Rattle.framing.specs.Writing.{Wrote}
use Rattle.framing.proofs.FrameLaws.{escaped_all_append, frame_room}

-- a store at the place
pub wrote_byte : (w : Writer) (b : ℕ) → w.place < length w.out.now
    → Wrote w (record w { out = record w.out { now = set w.out.now w.place b }; place = w.place + 1 }) (b ∷ []) []
unfolding check_from
wrote_byte w b h =
    let e = put_one w.place b w.out.now h in record {
      same_output = refl;
      same_length = length-set w.out.now w.place b;
      output = e;
      place = refl;
      register = refl;
    }

-- nothing yet
pub wrote_nothing : (w : Writer) → w.place ≤ length w.out.now → Wrote w w [] []
unfolding check_from
wrote_nothing w h =
    record {
      same_output = refl;
      same_length = refl;
      output = sym (put_none w.place w.out.now h);
      place = sym (add-zero w.place);
      register = refl;
    }

-- a byte that the check covers, behind what is written
pub covered_last : (before after : Writer) (b next : ℕ) (written : List ℕ) → Wrote before after written [] → next ≡ byte_step frame_register after.register b
    → Wrote before (record after { register = next }) written (b ∷ [])
unfolding check_from
covered_last before after b next written w e =
    record {
      same_output = w.same_output;
      same_length = w.same_length;
      output = w.output;
      place = w.place;
      register = e ∙ ap (λ (r : ℕ). byte_step frame_register r b) w.register;
    }

-- two steps
pub wrote_then : (first second third : Writer) (xs ys cs ds : List ℕ) → first.place + length xs ≤ length first.out.now
    → Wrote first second xs cs → Wrote second third ys ds → Wrote first third (xs ++ ys) (cs ++ ds)
wrote_then first second third xs ys cs ds room w v =
    record {
      same_output = v.same_output ∙ w.same_output;
      same_length = v.same_length ∙ w.same_length;
      output =
          v.output
          ∙ ap₂ (λ (place : ℕ) (out : List ℕ). put_at place ys out) w.place w.output
          ∙ put_put first.place xs ys first.out.now room;
      place = omega (arith, length-append xs ys);
      register =
          v.register
          ∙ ap (λ (register : ℕ). check_from frame_register register ds) w.register
          ∙ sym (joins frame_register first.register cs ds);
    }

-- ---- the packet's bytes so far, escaped

-- one byte more
pub escaped_more : (packet : List ℕ) (i : ℕ) → i < length packet
    → escaped_all (take (i + 1) packet) ≡ escaped_all (take i packet) ++ escaped (get_or packet i 0)
unfolding escaped_all
escaped_more packet i h =
    ap escaped_all (take_more packet i 0 h)
    ∙ escaped_all_append (take i packet) (get_or packet i 0 ∷ [])
    ∙ ap (λ (ys : List ℕ). escaped_all (take i packet) ++ ys) (append-nil (escaped (get_or packet i 0)))

-- they take no more room than the whole
pub escaped_room : (packet : List ℕ) (n : ℕ) → length (escaped_all (take n packet)) ≤ length (escaped_all packet)
escaped_room packet n =
    let whole = ap escaped_all (sym (take-append-drop n packet)) ∙ escaped_all_append (take n packet) (drop n packet) in
    omega (arith, ap length whole, length-append (escaped_all (take n packet)) (escaped_all (drop n packet)))

-- a byte that is escaped, the flag or the escape, which is one below it: `second` stands behind the escape
pub escaped_pair : (b second : ℕ) → escape ≤ b → b ≤ flag → second ≡ cond (eqb b flag) flag_escaped escape_escaped → escaped b ≡ escape ∷ second ∷ []
unfolding escaped
escaped_pair b second low high e = go (eqb b flag) refl
  where
    go : (f : Bool) → eqb b flag ≡ f → escaped b ≡ escape ∷ second ∷ []
    go true p = simp (e, p)
    go false p = let q : b ≡ escape = omega (arith, eqb-false b flag p) in simp (e, p, eq-eqb b escape q)

-- any other byte
pub escaped_other : (b : ℕ) → (b ≡ flag → ⊥) → (b ≡ escape → ⊥) → escaped b ≡ b ∷ []
unfolding escaped
escaped_other b h k = simp (ne_eqb b flag h, ne_eqb b escape k)

-- three steps of a byte each
pub wrote_three : (first second third last : Writer) (x y z : ℕ) (cs ds es : List ℕ) → first.place + 3 ≤ length first.out.now
    → Wrote first second (x ∷ []) cs → Wrote second third (y ∷ []) ds → Wrote third last (z ∷ []) es
    → Wrote first last (x ∷ y ∷ z ∷ []) ((cs ++ ds) ++ es)
wrote_three first second third last x y z cs ds es room u v w =
    wrote_then first third last (x ∷ y ∷ []) (z ∷ []) (cs ++ ds) es (omega arith)
    (wrote_then first second third (x ∷ []) (y ∷ []) cs ds (omega arith) u v) w

-- ---- a frame's seven steps: the flag, the revision and the count, the packet, the two check bytes and the flag

module _ (first flagged revised opened filled : Writer) (packet : List ℕ) (s : Wrote first flagged (flag ∷ []) [])
    (t : Wrote flagged revised (revision ∷ []) (revision ∷ [])) (u : Wrote revised opened (length packet ∷ []) (length packet ∷ []))
    (v : Wrote opened filled (escaped_all packet) packet) where
  -- the check after the packet
  pub packet_checked : first.register ≡ frame_register.start → filled.register ≡ frame_check (covered packet)
  unfolding check_from
  packet_checked start =
      v.register
      ∙ ap (λ (r : ℕ). frame_check_from r packet)
      (u.register
      ∙ ap (λ (r : ℕ). byte_step frame_register r (length packet))
      (t.register ∙ ap (λ (r : ℕ). byte_step frame_register r revision) (s.register ∙ start)))

  -- what stands in the output then, where the check's two bytes follow
  pub frame_written : (high_put low_put last : Writer) (high low : ℕ) → first.place ≡ 0 → length (frame packet) ≤ length first.out.now
      → Wrote filled high_put (high ∷ []) [] → Wrote high_put low_put (low ∷ []) [] → Wrote low_put last (flag ∷ []) []
      → high ∷ low ∷ [] ≡ check_bytes packet → last.out.now ≡ at_start (frame packet) first.out.now
  unfolding frame
  frame_written high_put low_put last high low start room w x y e =
      let opening = wrote_three first flagged revised opened flag revision (length packet) [] (revision ∷ []) (length packet ∷ []) (omega (arith, frame_room packet)) s t u in
      let sent = wrote_then first opened filled (flag ∷ revision ∷ length packet ∷ []) (escaped_all packet) (revision ∷ length packet ∷ []) packet (omega (arith, frame_room packet)) opening v in
      let closing = wrote_three filled high_put low_put last high low flag [] [] [] (omega (arith, frame_room packet, sent.place, length-append (flag ∷ revision ∷ length packet ∷ []) (escaped_all packet))) w x y in
      let whole = wrote_then first filled last (flag ∷ revision ∷ length packet ∷ escaped_all packet) (high ∷ low ∷ flag ∷ []) (covered packet) [] (omega (arith, frame_room packet)) sent closing in
      whole.output
      ∙ ap₂ (λ (place : ℕ) (check : List ℕ). put_at place (flag ∷ revision ∷ length packet ∷ (escaped_all packet ++ (check ++ (flag ∷ [])))) first.out.now) start e

-- the two bytes of a check that 16 bits hold
pub check_split : (packet : List ℕ) (check : ℕ) → check < 65536 → check ≡ frame_check (covered packet) → check / 256 % 256 ∷ check % 256 ∷ [] ≡ check_bytes packet
check_split packet check small e =
    ap (λ (high : ℕ). high ∷ check % 256 ∷ []) (mod-eq_of_lt (omega arith)) ∙ ap (λ (k : ℕ). k / 256 ∷ k % 256 ∷ []) e
