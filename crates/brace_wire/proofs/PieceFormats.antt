-- The formats of pieces and frames are known.
use Rattle.std.proofs.Common.{◌≡◌, ℕ, zero, suc, ◌<◌, ◌^◌, Bool, true, false, cond, eqb, List, [], ◌∷◌, ◌++◌, length, Some, None, Result, Ok, Err, refl, sym, ap, subst, ◌∙◌}
use Rattle.std.specs.Prelude.{IfOk}
use Rattle.std.proofs.lemmas.Bool.{eqb-true}
use Rattle.std.proofs.lemmas.List.{append-nil, nil_from_length}
use Rattle.brace_model.specs.declared.program.Ty.{Ty}
use Rattle.brace_pieces.specs.declared.piece.Piece.{Piece}
use Rattle.brace_pieces.specs.declared.piece.Piece.TheVariants as piece
use Rattle.brace_wire.specs.declared.fault.Unread.{Unread}
use Rattle.brace_wire.specs.declared.fault.Unread.TheVariants as unread
use Rattle.brace_wire.specs.declared.frame.Frame.{Frame}
use Rattle.brace_wire.specs.Frames.{four, eight, listed, agent, entry, shown, census, cause_bytes, piece_bytes, body}
use Rattle.brace_wire.specs.Fitting.{IsAgent, EntryFits, ShownFits, CensusFits, CauseFits, ListFits, PieceFits, IsFrame}
use Rattle.brace_wire.specs.inner.Written.{BodyFits}
use Rattle.brace_wire.specs.inner.Reading.{Gives, then_at, list_at, four_at, eight_at, agent_at, entry_at, shown_at, census_at, cause_at, piece_at, body_at, frame_of}
use Rattle.brace_wire.proofs.Known.{IsBytes, IsBytes-rest, bind_some, some_is, Takes, Known, four_known, eight_known, both_known, made_takes, made_known, list_known}
use Rattle.brace_wire.proofs.PartFormats.{four_fits, eight_fits, agent_known, entry_known, shown_known, census_known, cause_known}

module _ (types : List (List Ty)) where
  abbrev Fit : Piece → Type 0
  Fit = PieceFits (IsAgent types)

  agents_known : Known (listed agent) (ListFits (IsAgent types)) (list_at (agent_at types))
  agents_known = list_known agent (IsAgent types) (agent_at types) (agent_known types)

  entries_known : Known (listed entry) (ListFits EntryFits) (list_at entry_at)
  entries_known = list_known entry EntryFits entry_at entry_known

  shows_known : Known (listed shown) (ListFits (ShownFits (IsAgent types))) (list_at (shown_at types))
  shows_known = list_known shown (ShownFits (IsAgent types)) (shown_at types) (shown_known types)

  piece_takes : (bytes : List ℕ) (p : Piece) (rest : List ℕ) → IsBytes bytes → piece_at types bytes ≡ Some (p, rest) → Takes bytes (piece_bytes p) rest × Fit p
  unfolding piece_at piece_bytes
  piece_takes (zero ∷ bytes) p rest fits e =
      made_takes piece.Border (listed agent) (ListFits (IsAgent types)) (list_at (agent_at types)) piece_bytes Fit agents_known (0 ∷ []) (λ x h. refl) (λ x h. h) bytes p rest (IsBytes-rest 0 bytes fits) e
  piece_takes (suc zero ∷ bytes) p rest fits e =
      made_takes piece.Effects (listed entry) (ListFits EntryFits) (list_at entry_at) piece_bytes Fit entries_known (1 ∷ []) (λ x h. refl) (λ x h. h) bytes p rest (IsBytes-rest 1 bytes fits) e
  piece_takes (suc (suc zero) ∷ bytes) p rest fits e =
      made_takes piece.Move (listed agent) (ListFits (IsAgent types)) (list_at (agent_at types)) piece_bytes Fit agents_known (2 ∷ []) (λ x h. refl) (λ x h. h) bytes p rest (IsBytes-rest 2 bytes fits) e
  piece_takes (suc (suc (suc zero)) ∷ bytes) p rest fits e =
      made_takes piece.Hand (listed agent) (ListFits (IsAgent types)) (list_at (agent_at types)) piece_bytes Fit agents_known (3 ∷ []) (λ x h. refl) (λ x h. h) bytes p rest (IsBytes-rest 3 bytes fits) e
  piece_takes (suc (suc (suc (suc zero))) ∷ bytes) p rest fits e =
      made_takes piece.Show (listed shown) (ListFits (ShownFits (IsAgent types))) (list_at (shown_at types)) piece_bytes Fit shows_known (4 ∷ []) (λ x h. refl) (λ x h. h) bytes p rest (IsBytes-rest 4 bytes fits) e
  piece_takes (suc (suc (suc (suc (suc zero)))) ∷ bytes) p rest fits e =
      subst (λ (z : Piece × List ℕ). Takes (5 ∷ bytes) (piece_bytes z.0) z.1 × Fit z.0) (some_is (piece.Ack, bytes) (p, rest) e) (record { parts = refl; rest_fits = IsBytes-rest 5 bytes fits }, tt)
  piece_takes (suc (suc (suc (suc (suc (suc zero))))) ∷ bytes) p rest fits e =
      made_takes piece.Halt cause_bytes CauseFits cause_at piece_bytes Fit cause_known (6 ∷ []) (λ x h. refl) (λ x h. h) bytes p rest (IsBytes-rest 6 bytes fits) e
  piece_takes (suc (suc (suc (suc (suc (suc (suc zero)))))) ∷ bytes) p rest fits e =
      made_takes piece.Census census CensusFits census_at piece_bytes Fit census_known (7 ∷ []) (λ x h. refl) (λ x h. h) bytes p rest (IsBytes-rest 7 bytes fits) e
  piece_takes _ p rest fits e = absurd cc

  piece_again : (p : Piece) (rest : List ℕ) → Fit p → piece_at types (piece_bytes p ++ rest) ≡ Some (p, rest)
  unfolding piece_at piece_bytes
  piece_again (piece.Border xs) rest fits = rw (agents_known.again xs rest fits) refl
  piece_again (piece.Effects xs) rest fits = rw (entries_known.again xs rest fits) refl
  piece_again (piece.Move xs) rest fits = rw (agents_known.again xs rest fits) refl
  piece_again (piece.Hand xs) rest fits = rw (agents_known.again xs rest fits) refl
  piece_again (piece.Show xs) rest fits = rw (shows_known.again xs rest fits) refl
  piece_again piece.Ack rest fits = refl
  piece_again (piece.Halt c) rest fits = rw (cause_known.again c rest fits) refl
  piece_again (piece.Census c) rest fits = rw (census_known.again c rest fits) refl

  piece_known : Known piece_bytes Fit (piece_at types)
  piece_known = record { takes = piece_takes; again = piece_again }

  abbrev pub IsBody : Frame → Type 0
  IsBody = BodyFits (IsAgent types)

  pub body_known : Known body IsBody (body_at types)
  unfolding body body_at four eight
  body_known =
      let k3 = both_known eight eight_fits eight_at piece_bytes Fit (piece_at types) eight_known piece_known in
      let k2 = both_known four four_fits four_at (λ p. eight p.0 ++ piece_bytes p.1) (λ p. eight_fits p.0 × Fit p.1) (then_at eight_at (piece_at types)) four_known k3 in
      let k1 = both_known four four_fits four_at (λ p. four p.0 ++ (eight p.1.0 ++ piece_bytes p.1.1)) (λ p. four_fits p.0 × (eight_fits p.1.0 × Fit p.1.1)) (then_at four_at (then_at eight_at (piece_at types))) four_known k2 in
      made_known (λ p. record { from = p.0; to = p.1.0; ordinal = p.1.1.0; piece = p.1.1.1 })
      (λ p. four p.0 ++ (four p.1.0 ++ (eight p.1.1.0 ++ piece_bytes p.1.1.1))) (λ p. four_fits p.0 × (four_fits p.1.0 × (eight_fits p.1.1.0 × Fit p.1.1.1)))
      (then_at four_at (then_at four_at (then_at eight_at (piece_at types)))) body IsBody k1 (λ f. (f.from, (f.to, (f.ordinal, f.piece))))
      (λ p h. refl) (λ p h. record { from = h.0; to = h.1.0; ordinal = h.1.1.0; piece = h.1.1.1 }) (λ f h. refl) (λ f h. (h.from, (h.to, (h.ordinal, h.piece)))) (λ f h. refl)

  pub body_of : (f : Frame) → IsFrame types f → IsBody f
  body_of f fits = record { from = fits.from; to = fits.to; ordinal = fits.ordinal; piece = fits.piece }

  pub frame_from : (f : Frame) → IsBody f → length (body f) < 2 ^ 32 → IsFrame types f
  frame_from f fits short = record { from = fits.from; to = fits.to; ordinal = fits.ordinal; piece = fits.piece; short = short }

  ended_some : (b : Bool) (x f : Frame) → cond b (Some x) None ≡ Some f → (b ≡ true) × (x ≡ f)
  ended_some true x f e = (refl, cc)
  ended_some false x f e = absurd cc

  pub frame_takes : (bytes : List ℕ) (f : Frame) → IsBytes bytes → frame_of types bytes ≡ Some f → (body f ≡ bytes) × IsBody f
  unfolding frame_of
  frame_takes bytes f fits e =
      let p = bind_some (body_at types bytes) (λ x. cond (eqb (length x.1) 0) (Some x.0) None) f e in
      let q = ended_some (eqb (length p.0.1) 0) p.0.0 f p.2 in
      let t = body_known.takes bytes p.0.0 p.0.1 fits p.1 in
      let nothing : p.0.1 ≡ [] = nil_from_length p.0.1 (eqb-true _ _ q.0) in
      let whole : bytes ≡ body p.0.0 = t.0.parts ∙ (ap (λ (r : List ℕ). body p.0.0 ++ r) nothing ∙ append-nil (body p.0.0)) in
      subst (λ (g : Frame). (body g ≡ bytes) × IsBody g) q.1 (sym whole, t.1)

  pub frame_again : (f : Frame) → IsBody f → frame_of types (body f) ≡ Some f
  unfolding frame_of
  frame_again f fits =
      let read : body_at types (body f) ≡ Some (f, []) = ap (body_at types) (sym (append-nil (body f))) ∙ body_known.again f [] fits in
      rw read refl

  -- what an answer of a reader of a whole body says
  pub found_same : (r : Result Frame Unread) (bytes : List ℕ) → IsBytes bytes → Gives (λ f. f) r (frame_of types bytes) → IfOk r (λ f. body f ≡ bytes)
  found_same (Ok f) bytes fits given = (frame_takes bytes f fits given).0
  found_same (Err e) bytes fits given = tt

  pub found_frame : (r : Result Frame Unread) (bytes : List ℕ) → IsBytes bytes → Gives (λ f. f) r (frame_of types bytes) → IfOk r (λ f. length bytes < 2 ^ 32 → IsFrame types f)
  found_frame (Ok f) bytes fits given = λ short.
      let t = frame_takes bytes f fits given in
      frame_from f t.1 (subst (λ (b : List ℕ). length b < 2 ^ 32) (sym t.0) short)
  found_frame (Err e) bytes fits given = tt

  nothing_there : (f : Frame) → frame_of types (body f) ≡ Some f → frame_of types (body f) ≡ None → ⊥
  nothing_there f e h = absurd cc

  pub found_none : (r : Result Frame Unread) (bytes : List ℕ) → Gives (λ f. f) r (frame_of types bytes) → r ≡ Err unread.Bad → (f : Frame) → IsFrame types f → body f ≡ bytes → ⊥
  found_none r bytes given bad f fits same =
      let none : frame_of types bytes ≡ None = subst (λ (x : Result Frame Unread). Gives (λ f. f) x (frame_of types bytes)) bad given in
      nothing_there f (frame_again f (body_of f fits)) (ap (frame_of types) same ∙ none)
