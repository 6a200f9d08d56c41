-- Where the parser stops stands the first token that no script has there, or the source ends.
use Rattle.std.proofs.Common.{◌≡◌, refl, sym, ap, subst, ◌∙◌, ℕ, ◌+◌, ◌<◌, ◌≤◌, List, [], ◌∷◌, ◌++◌, length, take, drop, slice_get, arith, inl, inr, append_assoc, append-nil, take_at, take-append-drop}
use Rattle.std.specs.Prelude.{◌≢◌, Some, Err}
use Rattle.std.proofs.lemmas.List.{take-append-le, append_cancel_left}
use Rattle.std.proofs.lemmas.Option.{same_Some}
use Rattle.brace_tok.specs.declared.kinds.Token.{Token}
use Rattle.brace_tok.specs.Spells.{Spells, Rises}
use Rattle.brace_tok.proofs.Unique.{spells_rises}
use Rattle.brace_syntax.specs.declared.tree.Tree.{Tree}
use Rattle.brace_syntax.specs.declared.fault.Stop.{Stop}
use Rattle.brace_syntax.specs.declared.fault.Stop.TheVariants as stop
use Rattle.brace_syntax.specs.inner.Cursor.{Input, Outcome, first, place, refusal}
use Rattle.brace_syntax.specs.inner.Descent as d
use Rattle.brace_syntax.specs.Reads.{Reads}
use Rattle.brace_syntax.specs.Refusals.{Begins, FirstUnfitAt, IsPlace}
use Rattle.brace_syntax.proofs.Inversions.{no_fault}
use Rattle.brace_syntax.proofs.Forward.{at}
use Rattle.brace_syntax.proofs.ExprFound.{shut, inner_length}
use Rattle.brace_syntax.proofs.ClassFound.{script-found}
use Rattle.brace_syntax.proofs.Goes.{SameNext, End, gives, refuses, outcome, Says, first_or}
use Rattle.brace_syntax.proofs.GoesClass.{script-goes}

-- ---- places of tokens that rise

abbrev place_at : ℕ → List Token → ℕ
place_at high [] = high
place_at high (tok ∷ toks) = tok.from

later : (low high : ℕ) (front left : List Token) → Rises low high (front ++ left) → low ≤ place_at high left
later low high [] [] r = r
later low high [] (tok ∷ left) (a, b, c) = a
later low high (tok ∷ front) left (a, b, c) = omega (arith, a, b, later tok.to high front left c)

-- what is left behind tells its place, and its place what was taken
same_front : (low high : ℕ) (a l b m : List Token) → Rises low high (a ++ l) → a ++ l ≡ b ++ m → place_at high l ≡ place_at high m → a ≡ b
same_front low high [] l [] m r c p = refl
same_front low high [] l (t ∷ b) m r c p =
    let r' : Rises low high (t ∷ (b ++ m)) = subst (Rises low high) c r in
    absurd (omega (arith, ap (place_at high) c, p, r'.1, later t.to high b m r'.2))
same_front low high (t ∷ a) l [] m r c p = absurd (omega (arith, ap (place_at high) c, p, r.1, later t.to high a l r.2))
same_front low high (t ∷ a) l (u ∷ b) m r c p =
    ap (λ (z : Token). z ∷ a) (ap (first_or t) c) ∙ ap (λ (z : List Token). u ∷ z) (same_front t.to high a l b m r.2 (ap (drop 1) c) p)

abbrev offset : Outcome Tree → ℕ
offset (Err (stop.NoReading at_)) = at_
offset _ = 0

refused_at : (src : List ℕ) (left : List Token) → offset (Err (refusal (at src left))) ≡ place_at (length src) left
unfolding refusal place first
refused_at src [] = refl
refused_at src (tok ∷ left) = refl

-- ---- fronts of tokens

stands_at : (front : List Token) (tok : Token) (after : List Token) → slice_get (front ++ tok ∷ after) (length front) ≡ Some tok
stands_at [] tok after = refl
stands_at (t ∷ front) tok after = stands_at front tok after

take_next : (front : List Token) (tok : Token) (after : List Token) → take (length front + 1) (front ++ tok ∷ after) ≡ front ++ tok ∷ []
take_next front tok after = ap (take (length front + 1)) (sym (shut front tok after)) ∙ take_at (front ++ tok ∷ []) after (length front + 1) (inner_length front tok)

begins_before : (src : List ℕ) (a b : List Token) → Begins src (a ++ b) → Begins src a
begins_before src a b h = record { more = b ++ h.more; tree = h.tree; reads = subst (λ (z : List Token). Reads src z h.tree) (append_assoc a b h.more) h.reads }

begins_with : (src : List ℕ) (a : List Token) (n : ℕ) → Begins src a → Begins src (take n a)
begins_with src a n h = begins_before src (take n a) (drop n a) (subst (Begins src) (sym (take-append-drop n a)) h)

-- ---- where the parser stops

module _ (src : List ℕ) (toks : List Token) (at_ : ℕ) (rises : Rises 0 (length src) toks) (stopped : d.script (at src toks) ≡ Err (stop.NoReading at_)) where
  stands : (left : List Token) → d.script (at src toks) ≡ outcome src refuses left → at_ ≡ place_at (length src) left
  stands left here = ap offset (sym stopped ∙ here) ∙ refused_at src left

  -- beside other tokens the parser stops at the same place, if it is one of theirs
  stops_so : (others taken : List Token) (tok : Token) (after more : List Token) → toks ≡ taken ++ tok ∷ after → at_ ≡ tok.from → others ≡ taken ++ tok ∷ more
      → (end : End Tree) (taken' left : List Token) → toks ≡ taken' ++ left → d.script (at src toks) ≡ outcome src end left
      → ((rest : List Token) → SameNext left rest → others ≡ taken' ++ rest → d.script (at src others) ≡ outcome src end rest) → d.script (at src others) ≡ outcome src refuses (tok ∷ more)
  stops_so others taken tok after more cut e whole (gives x) taken' left cut' here again = absurd (no_fault _ _ (sym stopped ∙ here))
  stops_so others taken tok after more cut e whole refuses taken' left cut' here again =
      let same : taken ≡ taken' = same_front 0 (length src) taken (tok ∷ after) taken' left (subst (Rises 0 (length src)) cut rises) (sym cut ∙ cut') (sym e ∙ stands left here) in
      let back : tok ∷ after ≡ left = append_cancel_left taken (tok ∷ after) left (sym cut ∙ (cut' ∙ ap (λ (z : List Token). z ++ left) (sym same))) in
      again (tok ∷ more) (subst (λ (z : List Token). SameNext z (tok ∷ more)) back refl) (whole ∙ ap (λ (z : List Token). z ++ tok ∷ more) same)

  unfit_at : (taken : List Token) (tok : Token) (after : List Token) → toks ≡ taken ++ tok ∷ after → at_ ≡ tok.from → Begins src (take (length taken + 1) toks) → ⊥
  unfit_at taken tok after cut e h =
      let others : List Token = taken ++ (tok ∷ h.more) in
      let front : take (length taken + 1) toks ≡ taken ++ tok ∷ [] = ap (take (length taken + 1)) cut ∙ take_next taken tok after in
      let r : Reads src others h.tree = subst (λ (z : List Token). Reads src z h.tree) (ap (λ (z : List Token). z ++ h.more) front ∙ shut taken tok h.more) h.reads in
      let u = script-goes src toks others in
      no_fault _ _ (sym (stops_so others taken tok after h.more cut e refl u.end u.taken u.left u.cut u.here u.again) ∙ script-found src others h.tree r)

  place_by : (end : End Tree) (taken left : List Token) → toks ≡ taken ++ left → d.script (at src toks) ≡ outcome src end left → Says (Reads src) taken end → IsPlace src toks at_
  place_by (gives x) taken left cut here says = absurd (no_fault _ _ (sym stopped ∙ here))
  place_by refuses taken [] cut here says =
      inr (subst (Begins src) (sym (cut ∙ append-nil taken)) (record { more = says.more; tree = says.value; reads = says.reads }), stands [] here)
  place_by refuses taken (tok ∷ after) cut here says =
      let front : Begins src taken = record { more = says.more; tree = says.value; reads = says.reads } in
      inl (record {
        number = length taken;
        token = tok;
        stands = ap (λ (z : List Token). slice_get z (length taken)) cut ∙ stands_at taken tok after;
        place = sym (stands (tok ∷ after) here);
        unfit = unfit_at taken tok after cut (stands (tok ∷ after) here);
        first = λ n l. subst (Begins src) (sym (ap (take n) cut ∙ take-append-le n taken (tok ∷ after) l)) (begins_with src taken n front);
      })

  place_at_stop : IsPlace src toks at_
  place_at_stop = let u = script-goes src toks [] in place_by u.end u.taken u.left u.cut u.here u.says

-- the parser stops at the first token that no script has there, or at the end
pub place_of_stop : (src : List ℕ) (toks : List Token) (i : Input) (e : Stop) (at_ : ℕ) → Spells src toks → e ≡ stop.NoReading at_ → i.src ≡ src → i.rest ≡ toks → (e ≢ stop.NoMemory → d.script i ≡ Err e) → IsPlace src toks at_
place_of_stop src toks i e at_ spelled q s r h =
    let stopped : d.script i ≡ Err e = h (λ (n : e ≡ stop.NoMemory). cc) in
    let so : d.script i ≡ Err (stop.NoReading at_) = stopped ∙ ap (λ (z : Stop). let o : Outcome Tree = Err z in o) q in
    place_at_stop src toks at_ (spells_rises src toks spelled)
    (subst (λ (z : List Token). d.script (at src z) ≡ Err (stop.NoReading at_)) r (subst (λ (z : List ℕ). d.script (at z i.rest) ≡ Err (stop.NoReading at_)) s so))

-- ---- a place is at most one

same_number : (src : List ℕ) (toks : List Token) (m n : ℕ) → (Begins src (take (m + 1) toks) → ⊥) → ((k : ℕ) → k ≤ n → Begins src (take k toks)) → m < n → ⊥
same_number src toks m n unfit begins l = unfit (begins (m + 1) (omega arith))

one_token : (src : List ℕ) (toks : List Token) (a b : ℕ) → FirstUnfitAt src toks a → FirstUnfitAt src toks b → a ≡ b
one_token src toks a b p q =
    let less : p.number < q.number → ⊥ = same_number src toks p.number q.number p.unfit q.first in
    let more : q.number < p.number → ⊥ = same_number src toks q.number p.number q.unfit p.first in
    let e : p.number ≡ q.number = omega (arith, less, more) in
    let t : p.token ≡ q.token = same_Some _ _ (sym p.stands ∙ (ap (slice_get toks) e ∙ q.stands)) in
    sym p.place ∙ (ap (λ (z : Token). z.from) t ∙ q.place)

pub one_place : (src : List ℕ) (toks : List Token) (a b : ℕ) → IsPlace src toks a → IsPlace src toks b → a ≡ b
one_place src toks a b (inl p) (inl q) = one_token src toks a b p q
one_place src toks a b (inl p) (inr q) = absurd (p.unfit (begins_with src toks (p.number + 1) q.0))
one_place src toks a b (inr p) (inl q) = absurd (q.unfit (begins_with src toks (q.number + 1) p.0))
one_place src toks a b (inr p) (inr q) = p.1 ∙ sym q.1
