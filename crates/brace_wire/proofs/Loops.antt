-- Reading things one after another, as a loop does.
use Rattle.std.proofs.Common.{◌≡◌, ℕ, suc, ◌-◌, ◌+◌, ◌≤◌, ◌<◌, List, [], ◌∷◌, ◌++◌, length, drop, Option, Some, None, refl, sym, ap, ◌∙◌, append_assoc, arith}
use Rattle.std.proofs.lemmas.List.{append-nil, nil_from_length, length-drop}
use Rattle.brace_model.specs.declared.program.Ty.{Ty}
use Rattle.brace_model.specs.declared.program.Value.{Value}
use Rattle.brace_wire.specs.declared.fault.Unread.{Unread}
use Rattle.brace_wire.specs.declared.fault.Unread.TheVariants as unread
use Rattle.brace_wire.specs.inner.Reading.{◌>>=◌, Reading, Fails, many_at, value_at, values_at}

-- what was read before, and what is still read
abbrev pub with_front : {A : Type 0} → List A → Option (List A × List ℕ) → Option (List A × List ℕ)
with_front front read = read >>= λ x. Some (front ++ x.0, x.1)

module _ {A : Type 0} where
  regroup : (front : List A) (n : A) (read : Option (List A × List ℕ)) → with_front front (read >>= λ x. Some (n ∷ x.0, x.1)) ≡ with_front (front ++ n ∷ []) read
  regroup front n (Some x) = ap (λ (ns : List A). Some (ns, x.1)) (simp append_assoc)
  regroup front n None = refl

  pub goes_on : (a : Reading A) (front : List A) (count i : ℕ) (bytes : List ℕ) (n : A) (after : List ℕ) (total : Option (List A × List ℕ)) → i < count → a bytes ≡ Some (n, after)
      → with_front front (many_at a (count - i) bytes) ≡ total → with_front (front ++ n ∷ []) (many_at a (count - (i + 1)) after) ≡ total
  unfolding many_at
  goes_on a front count i bytes n after total lt h so_far =
      let k : count - i ≡ suc (count - (i + 1)) = omega arith in
      let one : with_front front (many_at a (count - i) bytes) ≡ with_front (front ++ n ∷ []) (many_at a (count - (i + 1)) after) = rw (k, h) (regroup front n (many_at a (count - (i + 1)) after)) in
      sym one ∙ so_far

  pub ends : (a : Reading A) (e : Unread) (front : List A) (count i : ℕ) (bytes : List ℕ) (total : Option (List A × List ℕ)) → i < count → Fails e (a bytes)
      → with_front front (many_at a (count - i) bytes) ≡ total → Fails e total
  unfolding many_at
  ends a unread.NoMemory front count i bytes total lt h so_far = tt
  ends a unread.Bad front count i bytes total lt h so_far =
      let k : count - i ≡ suc (count - (i + 1)) = omega arith in
      let one : with_front front (many_at a (count - i) bytes) ≡ None = rw (k, h) refl in
      sym so_far ∙ one

  pub is_done : (a : Reading A) (front : List A) (count i : ℕ) (bytes : List ℕ) (total : Option (List A × List ℕ)) → count ≤ i → with_front front (many_at a (count - i) bytes) ≡ total → total ≡ Some (front, bytes)
  unfolding many_at
  is_done a front count i bytes total le so_far =
      let k : count - i ≡ 0 = omega arith in
      let one : with_front front (many_at a (count - i) bytes) ≡ Some (front, bytes) = rw k (ap (λ (ns : List A). Some (ns, bytes)) (append-nil front)) in
      sym so_far ∙ one

-- ---- values of these types

-- nothing stands behind the end
pub at_drop_end : {X Y : Type 0} (F : List X → Y) (xs : List X) (i : ℕ) → length xs ≤ i → F (drop i xs) ≡ F []
at_drop_end F xs i h = ap F (nil_from_length (drop i xs) (omega (arith, length-drop i xs)))

pub value_goes_on : (front : List Value) (t : Ty) (types : List Ty) (bytes : List ℕ) (v : Value) (after : List ℕ) (total : Option (List Value × List ℕ)) → value_at t bytes ≡ Some (v, after)
    → with_front front (values_at (t ∷ types) bytes) ≡ total → with_front (front ++ v ∷ []) (values_at types after) ≡ total
unfolding values_at
value_goes_on front t types bytes v after total h so_far =
    let one : with_front front (values_at (t ∷ types) bytes) ≡ with_front (front ++ v ∷ []) (values_at types after) = rw h (regroup front v (values_at types after)) in
    sym one ∙ so_far

pub value_ends : (e : Unread) (front : List Value) (t : Ty) (types : List Ty) (bytes : List ℕ) (total : Option (List Value × List ℕ)) → Fails e (value_at t bytes)
    → with_front front (values_at (t ∷ types) bytes) ≡ total → Fails e total
unfolding values_at
value_ends unread.NoMemory front t types bytes total h so_far = tt
value_ends unread.Bad front t types bytes total h so_far =
    let one : with_front front (values_at (t ∷ types) bytes) ≡ None = rw h refl in
    sym so_far ∙ one

pub values_done : (front : List Value) (bytes : List ℕ) (total : Option (List Value × List ℕ)) → with_front front (values_at [] bytes) ≡ total → total ≡ Some (front, bytes)
unfolding values_at
values_done front bytes total so_far = sym so_far ∙ ap (λ (vs : List Value). Some (vs, bytes)) (append-nil front)
