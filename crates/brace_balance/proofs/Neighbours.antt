-- Rising numbers and posts, from a place on.
use Rattle.std.proofs.Common.{◌≡◌, ◌∙◌, ℕ, zero, suc, ◌+◌, ◌-◌, ◌≤◌, ◌<◌, ℤ, true, false, ◌&&◌, List, [], ◌∷◌, length, get_or, drop, refl, sym, ap, subst, arith, nat_le}
use Rattle.std.proofs.lemmas.Bool.{and_left, le-leb, lt-leb}
use Rattle.brace_balance.specs.Loads.{never_falls, between, posts_hold}

-- no number and one number do not fall
pub sorted_at_end : (xs : List ℤ) (n : ℕ) → length xs ≤ n + 1 → never_falls (drop n xs) ≡ true
sorted_at_end [] zero short = refl
sorted_at_end [] (suc n) short = refl
sorted_at_end (x ∷ []) zero short = refl
sorted_at_end (x ∷ []) (suc zero) short = refl
sorted_at_end (x ∷ []) (suc (suc n)) short = refl
sorted_at_end (x ∷ y ∷ xs) zero short = absurd (omega (arith, short))
sorted_at_end (x ∷ y ∷ xs) (suc n) short = sorted_at_end (y ∷ xs) n (omega (arith, short))

-- no post and one post have nothing to hold
pub hold_at_end : (m : ℕ) (xs posts : List ℤ) (n : ℕ) → length posts ≤ n + 1
    → posts_hold m xs (drop n posts) ≡ true
hold_at_end m xs [] zero short = refl
hold_at_end m xs [] (suc n) short = refl
hold_at_end m xs (p ∷ []) zero short = refl
hold_at_end m xs (p ∷ []) (suc zero) short = refl
hold_at_end m xs (p ∷ []) (suc (suc n)) short = refl
hold_at_end m xs (p ∷ q ∷ posts) zero short = absurd (omega (arith, short))
hold_at_end m xs (p ∷ q ∷ posts) (suc n) short =
    hold_at_end m xs (q ∷ posts) n (omega (arith, short))

-- what the posts from a place on hold is what the first two hold, and the others
pub hold_from : (d : ℤ) (m : ℕ) (xs posts : List ℤ) (n : ℕ) → n + 1 < length posts
    → posts_hold m xs (drop n posts)
    ≡ (nat_le m (between (get_or posts n d) (get_or posts (n + 1) d) xs) && posts_hold m xs (drop (n + 1) posts))
hold_from d m xs [] n below = absurd (omega (arith, below))
hold_from d m xs (p ∷ []) n below = absurd (omega (arith, below))
hold_from d m xs (p ∷ q ∷ posts) zero below = refl
hold_from d m xs (p ∷ q ∷ posts) (suc n) below =
    let e : suc n + 1 ≡ suc (n + 1) = omega arith in
    hold_from d m xs (q ∷ posts) n (omega (arith, below))
    ∙ ap (λ k. nat_le m (between (get_or (q ∷ posts) n d) (get_or (p ∷ q ∷ posts) k d) xs)
    && posts_hold m xs (drop k (p ∷ q ∷ posts))) (sym e)

-- a pair that holds too little
pub hold_fails : (d : ℤ) (m : ℕ) (xs posts : List ℤ) (i r : ℕ) → 1 ≤ i → i < length posts
    → r ≡ between (get_or posts (i - 1) d) (get_or posts i d) xs → r < m
    → posts_hold m xs (drop (i - 1) posts) ≡ false
hold_fails d m xs posts i r from below is few =
    let back : (i - 1) + 1 ≡ i = omega (arith, from) in
    hold_from d m xs posts (i - 1) (omega (arith, from, below))
    ∙ and_left (nat_le m (between (get_or posts (i - 1) d) (get_or posts ((i - 1) + 1) d) xs)) (posts_hold m xs (drop ((i - 1) + 1) posts))
    (subst (λ k. nat_le m (between (get_or posts (i - 1) d) (get_or posts k d) xs) ≡ false) (sym back)
    (lt-leb m (between (get_or posts (i - 1) d) (get_or posts i d) xs) (omega (arith, is, few))))

-- a pair that holds enough
pub hold_goes_on : (d : ℤ) (m : ℕ) (xs posts : List ℤ) (i r : ℕ) → 1 ≤ i → i < length posts
    → r ≡ between (get_or posts (i - 1) d) (get_or posts i d) xs → m ≤ r
    → posts_hold m xs (drop (i - 1) posts) ≡ posts_hold m xs (drop ((i + 1) - 1) posts)
hold_goes_on d m xs posts i r from below is many =
    let back : (i - 1) + 1 ≡ i = omega (arith, from) in
    let on : (i - 1) + 1 ≡ (i + 1) - 1 = omega (arith, from) in
    hold_from d m xs posts (i - 1) (omega (arith, from, below))
    ∙ ap (λ b. b && posts_hold m xs (drop ((i - 1) + 1) posts))
    (subst (λ k. nat_le m (between (get_or posts (i - 1) d) (get_or posts k d) xs) ≡ true) (sym back)
    (le-leb m (between (get_or posts (i - 1) d) (get_or posts i d) xs) (omega (arith, is, many))))
    ∙ ap (λ k. posts_hold m xs (drop k posts)) on
