-- A receiver to which frames are handed over one after another.
use Rattle.std.proofs.Common.{◌≡◌, ◌∙◌, ◌+◌, ◌^◌, ◌<◌, Bool, true, false, eqb, List, [], ◌∷◌, ◌++◌, refl, sym, ap, subst}
use Rattle.std.specs.Prelude.{if◌then◌else◌}
use Rattle.std.specs.List.{fold}
use Rattle.brace_wire.specs.declared.frame.Frame.{Frame}
use Rattle.brace_wire.specs.Links.{OnReceiver, received, accepted}
use Rattle.brace_wire.specs.inner.Standing.{HasPlace}

-- a frame is accepted by the test of its ordinal
pub accepted_by : (r : OnReceiver) (f : Frame) (b : Bool) → eqb f.ordinal (received r) ≡ b → accepted r f ≡ (if b then record r { waiting = r.waiting ++ f.piece ∷ [] } else r)
accepted_by r f b e = ap (λ (t : Bool). if t then record r { waiting = r.waiting ++ f.piece ∷ [] } else r) e

-- nothing is taken by it
pub same_taken : (r : OnReceiver) (f : Frame) → (accepted r f).taken ≡ r.taken
same_taken r f = by_test (eqb f.ordinal (received r)) refl
  where
    by_test : (b : Bool) → eqb f.ordinal (received r) ≡ b → (accepted r f).taken ≡ r.taken
    by_test true e = ap (λ (x : OnReceiver). x.taken) (accepted_by r f true e)
    by_test false e = ap (λ (x : OnReceiver). x.taken) (accepted_by r f false e)

pub all_same_taken : (r : OnReceiver) (frames : List Frame) → (fold accepted r frames).taken ≡ r.taken
all_same_taken r [] = refl
all_same_taken r (f ∷ frames) = all_same_taken (accepted r f) frames ∙ same_taken r f

-- of all frames these are left, and the receiver comes to the same by them
pub record AreLeft (first now : OnReceiver) (all left : List Frame) : Type 0 where
  pub same : fold accepted now left ≡ fold accepted first all
  pub short : now.taken + 2 < 2 ^ 64
  pub place : HasPlace now.taken left

module _ (first now : OnReceiver) (all left : List Frame) (h : AreLeft first now all left) where
  pub next_place : (f : Frame) (rest : List Frame) → left ≡ f ∷ rest → f.ordinal < now.taken + 2
  next_place f rest opens = (subst (HasPlace now.taken) opens h.place).0

  pub none_left : left ≡ [] → now ≡ fold accepted first all
  none_left none = ap (fold accepted now) (sym none) ∙ h.same
