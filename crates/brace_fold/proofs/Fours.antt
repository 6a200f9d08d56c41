-- Four rows at once.
use Rattle.std.proofs.Common.{◌≡◌, ◌∙◌, refl, sym, ap, arith, ℕ, ◌+◌, ◌-◌, ◌≤◌, Bool, true, false, cond, not, ◌||◌, List, [], ◌∷◌, ◌++◌, append_assoc, length, take, drop, get_or, bit_or}
use Rattle.std.proofs.lemmas.List.{length-append, length-take-le, take-append-drop, take-take, take_at}
use Rattle.std.proofs.lemmas.Simd.{take_more_put_chunk}
use lib.Count.{ones}
use lib.Lanes.{mask_l, put_chunk, top, zip2}
use Rattle.brace_fold.specs.inner.Glances.{kept}

-- all bits of a lane, or none
abbrev pub lane : Bool → ℕ
lane b = cond b 4294967295 0

-- a lane's top bit tells whether one of four tests holds
pub either : (a b c d : Bool)
    → top 31 (bit_or (bit_or (lane a) (lane b)) (bit_or (lane c) (lane d))) ≡ (a || b) || (c || d)
either true true true true = refl
either true true true false = refl
either true true false true = refl
either true true false false = refl
either true false true true = refl
either true false true false = refl
either true false false true = refl
either true false false false = refl
either false true true true = refl
either false true true false = refl
either false true false true = refl
either false true false false = refl
either false false true true = refl
either false false true false = refl
either false false false true = refl
either false false false false = refl

-- which of four are kept, by the mask of those that are not
abbrev table : List (List ℕ)
table =
    (0 ∷ 1 ∷ 2 ∷ 3 ∷ [])
    ∷ (1 ∷ 2 ∷ 3 ∷ 0 ∷ [])
    ∷ (0 ∷ 2 ∷ 3 ∷ 0 ∷ [])
    ∷ (2 ∷ 3 ∷ 0 ∷ 0 ∷ [])
    ∷ (0 ∷ 1 ∷ 3 ∷ 0 ∷ [])
    ∷ (1 ∷ 3 ∷ 0 ∷ 0 ∷ [])
    ∷ (0 ∷ 3 ∷ 0 ∷ 0 ∷ [])
    ∷ (3 ∷ 0 ∷ 0 ∷ 0 ∷ [])
    ∷ (0 ∷ 1 ∷ 2 ∷ 0 ∷ [])
    ∷ (1 ∷ 2 ∷ 0 ∷ 0 ∷ [])
    ∷ (0 ∷ 2 ∷ 0 ∷ 0 ∷ [])
    ∷ (2 ∷ 0 ∷ 0 ∷ 0 ∷ [])
    ∷ (0 ∷ 1 ∷ 0 ∷ 0 ∷ [])
    ∷ (1 ∷ 0 ∷ 0 ∷ 0 ∷ [])
    ∷ (0 ∷ 0 ∷ 0 ∷ 0 ∷ [])
    ∷ (0 ∷ 0 ∷ 0 ∷ 0 ∷ [])
    ∷ []

-- four numbers made of a row, written from a place on
module _ (out : List ℕ) (at row : ℕ) (room : at + 4 ≤ length out) where
  stored : (n a b c d : ℕ) → n ≤ 4
      → take (at + n) (put_chunk at out ((row + a) ∷ (row + b) ∷ (row + c) ∷ (row + d) ∷ []))
      ≡ take at out ++ take n ((row + a) ∷ (row + b) ∷ (row + c) ∷ (row + d) ∷ [])
  stored n a b c d few =
      let four : List ℕ = (row + a) ∷ (row + b) ∷ (row + c) ∷ (row + d) ∷ [] in
      let long : length (take at out) ≡ at = length-take-le at out (omega (arith, room)) in
      sym (take-take (at + n) (at + 4) (put_chunk at out four) (omega (arith, few)))
      ∙ ap (take (at + n)) (take_more_put_chunk at out four (at + 4) refl room)
      ∙ ap (λ l. take (at + n) (take at out ++ l)) (sym (take-append-drop n four))
      ∙ ap (take (at + n)) (sym (append_assoc (take at out) (take n four) (drop n four)))
      ∙ take_at (take at out ++ take n four) (drop n four) (at + n)
      (omega (
        arith,
        long,
        length-append (take at out) (take n four),
        length-take-le n four few,
      ))

  -- what is written for a mask, behind what stood before
  abbrev written : ℕ → List ℕ
  written mask =
      take (at + (4 - ones mask))
      (put_chunk at out (zip2 (λ m n. m + n) (row ∷ row ∷ row ∷ row ∷ []) (get_or table mask [])))

  masked : (a b c d : Bool)
      → written (mask_l (not a ∷ not b ∷ not c ∷ not d ∷ []))
      ≡ take at out
      ++ (kept a (row + 0) ++ (kept b (row + 1) ++ (kept c (row + 2) ++ kept d (row + 3))))
  unfolding ones
  masked true true true true = stored 4 0 1 2 3 (omega arith)
  masked false true true true = stored 3 1 2 3 0 (omega arith)
  masked true false true true = stored 3 0 2 3 0 (omega arith)
  masked false false true true = stored 2 2 3 0 0 (omega arith)
  masked true true false true = stored 3 0 1 3 0 (omega arith)
  masked false true false true = stored 2 1 3 0 0 (omega arith)
  masked true false false true = stored 2 0 3 0 0 (omega arith)
  masked false false false true = stored 1 3 0 0 0 (omega arith)
  masked true true true false = stored 3 0 1 2 0 (omega arith)
  masked false true true false = stored 2 1 2 0 0 (omega arith)
  masked true false true false = stored 2 0 2 0 0 (omega arith)
  masked false false true false = stored 1 2 0 0 0 (omega arith)
  masked true true false false = stored 2 0 1 0 0 (omega arith)
  masked false true false false = stored 1 1 0 0 0 (omega arith)
  masked true false false false = stored 1 0 0 0 0 (omega arith)
  masked false false false false = stored 0 0 0 0 0 (omega arith)

  pub masked_at : (far : ℕ) (a b c d : Bool)
      → far ≡ mask_l (not a ∷ not b ∷ not c ∷ not d ∷ [])
      → take (at + (4 - ones far))
      (put_chunk at out (zip2 (λ m n. m + n) (row ∷ row ∷ row ∷ row ∷ []) (get_or table far [])))
      ≡ take at out
      ++ (kept a (row + 0) ++ (kept b (row + 1) ++ (kept c (row + 2) ++ kept d (row + 3))))
  masked_at far a b c d is = ap written is ∙ masked a b c d
