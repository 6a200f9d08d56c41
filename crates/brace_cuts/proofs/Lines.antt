-- The cuts of a line, read one by one, and the place of a part among parts that are borrowed.
use Rattle.std.proofs.Common.{◌≡◌, ◌∙◌, ℕ, ◌+◌, ◌-◌, ◌<◌, ◌≤◌, ℤ, List, [], ◌∷◌, ◌++◌, length, get_or, take, drop, Bool, true, false, refl, sym, ap, ap₂, arith, Option, Some, None}
use Rattle.std.specs.Prelude.{nat_lt, ◌&&◌, not, cond, if◌then◌else◌, map, filter_map, is_some, position, codes}
use Rattle.std.specs.List.{list_all, prefix_len, cons_option}
use Rattle.std.specs.Str.{bytes_eq}
use Rattle.std.proofs.lemmas.List.{take_more, map-append, length-map, take-append-drop, take_all, take-map, drop-map, length-drop}
use Rattle.std.proofs.lemmas.List.Folds.{list_all-append}
use Rattle.std.proofs.lemmas.List.Elements.{filter_map-append}
use Rattle.std.proofs.lemmas.Bool.{and_from, and_right}
use Rattle.brace_cuts.specs.CutPlans.{tick_of, cut_of, cuts_of, line_with, line_around}

prefix_len-map : {X Y : Type 0} (p : Y → Bool) (f : X → Y) (xs : List X) → prefix_len p (map f xs) ≡ prefix_len (λ x. p (f x)) xs
prefix_len-map p f [] = refl
prefix_len-map p f (x ∷ xs) = ap (λ n. cond (p (f x)) (1 + n) 0) (prefix_len-map p f xs)

-- a place among what a function gives of items
pub position-map : {X Y : Type 0} (p : Y → Bool) (f : X → Y) (xs : List X) → position p (map f xs) ≡ position (λ x. p (f x)) xs
position-map p f xs = ap₂ (λ (m n : ℕ). cond (nat_lt m n) (Some m) None) (prefix_len-map (λ y. not (p y)) f xs) (length-map xs f)

-- the first i texts spell these cuts
pub record ReadSoFar {X : Type 0} (f : X → List ℕ) (texts : List X) (cuts : List ℤ) (i : ℕ) : Type 0 where
  pub so_far : cuts ≡ filter_map cut_of (map f (take i texts))
  pub all_there : list_all (λ text. is_some (cut_of text)) (map f (take i texts)) ≡ true

front_more : {X : Type 0} (f : X → List ℕ) (texts : List X) (i : ℕ) (d : X) → i < length texts → map f (take (i + 1) texts) ≡ map f (take i texts) ++ f (get_or texts i d) ∷ []
front_more f texts i d below = ap (map f) (take_more texts i d below) ∙ map-append f (take i texts) (get_or texts i d ∷ [])

-- the next text spells a cut
pub read_more : {X : Type 0} (f : X → List ℕ) (texts : List X) (cuts : List ℤ) (i : ℕ) (d : X) (c : ℤ) → i < length texts → Some c ≡ cut_of (f (get_or texts i d))
    → ReadSoFar f texts cuts i → ReadSoFar f texts (cuts ++ c ∷ []) (i + 1)
read_more f texts cuts i d c below some r =
    let x = get_or texts i d in
    let front = front_more f texts i d below in
    let p : List ℕ → Bool = λ text. is_some (cut_of text) in
    record {
      so_far =
          ap₂ (λ (a b : List ℤ). a ++ b) r.so_far (ap (λ o. cons_option o []) some)
          ∙ sym (filter_map-append cut_of (map f (take i texts)) (f x ∷ []))
          ∙ ap (filter_map cut_of) (sym front);
      all_there =
          ap (list_all p) front ∙ list_all-append p (map f (take i texts)) (f x ∷ [])
          ∙ and_from (list_all p (map f (take i texts))) (list_all p (f x ∷ [])) r.all_there (ap (λ o. is_some o && true) (sym some));
    }

-- all texts are read
pub read_all : {X : Type 0} (f : X → List ℕ) (texts : List X) (cuts : List ℤ) (i : ℕ) → length texts ≤ i → ReadSoFar f texts cuts i → Some cuts ≡ cuts_of (map f texts)
read_all f texts cuts i over r =
    let whole : map f (take i texts) ≡ map f texts = ap (map f) (take_all i texts over) in
    let there : list_all (λ text. is_some (cut_of text)) (map f texts) ≡ true = ap (list_all (λ text. is_some (cut_of text))) (sym whole) ∙ r.all_there in
    ap Some (r.so_far ∙ ap (filter_map cut_of) whole)
    ∙ ap (λ b. if b then Some (filter_map cut_of (map f texts)) else None) (sym there)

-- the next text spells no cut
pub read_bad : {X : Type 0} (f : X → List ℕ) (texts : List X) (i : ℕ) (d : X) → i < length texts → None ≡ cut_of (f (get_or texts i d)) → None ≡ cuts_of (map f texts)
read_bad f texts i d below none =
    let x = get_or texts i d in
    let p : List ℕ → Bool = λ text. is_some (cut_of text) in
    let front : list_all p (map f (take (i + 1) texts)) ≡ false =
    ap (list_all p) (front_more f texts i d below) ∙ list_all-append p (map f (take i texts)) (f x ∷ [])
    ∙ and_right (list_all p (map f (take i texts))) (list_all p (f x ∷ [])) (ap (λ o. is_some o && true) (sym none)) in
    let parts : map f texts ≡ map f (take (i + 1) texts) ++ map f (drop (i + 1) texts) =
    ap (map f) (sym (take-append-drop (i + 1) texts)) ∙ map-append f (take (i + 1) texts) (drop (i + 1) texts) in
    let isnt : list_all p (map f texts) ≡ false =
    ap (list_all p) parts ∙ list_all-append p (map f (take (i + 1) texts)) (map f (drop (i + 1) texts))
    ∙ ap (λ b. b && list_all p (map f (drop (i + 1) texts))) front in
    ap (λ b. if b then Some (filter_map cut_of (map f texts)) else None) (sym isnt)

-- the line of a tick, and of the cuts before and behind a place
pub rest_is : {X : Type 0} (f : X → List ℕ) (texts : List X) (tick : List ℕ) (t : Option ℕ) (xs ys : Option (List ℤ)) (y : ℕ) → t ≡ tick_of tick
    → xs ≡ cuts_of (map f (take y texts)) → ys ≡ cuts_of (map f (take (length texts - (y + 1)) (drop (y + 1) texts)))
    → Some y ≡ position (λ x. bytes_eq (f x) (codes "y")) texts
    → line_with t xs ys ≡ line_around tick (map f texts) (position (λ part. bytes_eq part (codes "y")) (map f texts))
rest_is f texts tick t xs ys y is_t is_xs is_ys at =
    let back = ap (λ l. cuts_of (map f l)) (take_all (length texts - (y + 1)) (drop (y + 1) texts) (omega (arith, length-drop (y + 1) texts))) in
    let xs_is : xs ≡ cuts_of (take y (map f texts)) = is_xs ∙ ap cuts_of (sym (take-map f y texts)) in
    let ys_is : ys ≡ cuts_of (drop (y + 1) (map f texts)) = is_ys ∙ back ∙ ap cuts_of (sym (drop-map f (y + 1) texts)) in
    ap (λ o. line_with o xs ys) is_t ∙ ap₂ (line_with (tick_of tick)) xs_is ys_is
    ∙ ap (line_around tick (map f texts)) (at ∙ sym (position-map (λ part. bytes_eq part (codes "y")) f texts))
