-- Sayings that come to the same totals, whatever their order.
use Rattle.std.proofs.Common.{◌≡◌, ◌∙◌, refl, sym, ap, subst, ℕ, ℤ, pos, List, [], ◌∷◌, ◌++◌, fold, flat_map, length, append-nil, append_assoc, arith}
use Rattle.std.specs.List.Sorted.{IsPermutation}
use Rattle.std.proofs.lemmas.Int.{ints}
use Rattle.std.proofs.lemmas.List.Sums.{fold-append}
use Rattle.brace_model.specs.declared.program.Comb.{Comb}
use Rattle.brace_model.specs.declared.program.Program.{Program}
use Rattle.brace_model.specs.declared.program.Value.{Value}
use Rattle.brace_model.specs.declared.world.Agent.{Agent}
use Rattle.brace_model.specs.Query.{Saying}
use Rattle.brace_model.specs.Total.{identity, joined, said_to}
use Rattle.brace_model.specs.declared.program.Comb.TheVariants.{Count}
use Rattle.brace_comb.proofs.Joins.{fold-counted, turn}
use Rattle.brace_comb.proofs.Permutations.{fold-IsPermutation}
use Rattle.brace_comb.proofs.Said.{said_to-append}
use Rattle.brace_fold.specs.declared.table.Table.{Table}
use Rattle.brace_fold.specs.Sums.{AreSummed}
use Rattle.brace_fold.specs.Hears.{Alike, Hears}

pub alike-refl : (xs : List Saying) → Alike xs xs
alike-refl xs = record { each = λ comb start id field. refl }

pub alike-trans : (xs ys zs : List Saying) → Alike xs ys → Alike ys zs → Alike xs zs
alike-trans xs ys zs h k = record { each = λ comb start id field. h.each comb start id field ∙ k.each comb start id field }

-- the total of lists one behind the other
both : (comb : Comb) (start : ℤ) (id field : ℕ) (xs ys : List Saying)
    → fold (joined comb) start (said_to id field (xs ++ ys)) ≡ fold (joined comb) (fold (joined comb) start (said_to id field xs)) (said_to id field ys)
both comb start id field xs ys =
    ap (fold (joined comb) start) (said_to-append id field xs ys)
    ∙ fold-append (joined comb) start (said_to id field xs) (said_to id field ys)

pub alike-append : (xs ys us vs : List Saying) → Alike xs ys → Alike us vs → Alike (xs ++ us) (ys ++ vs)
alike-append xs ys us vs h k = record {
  each = λ comb start id field.
      both comb start id field xs us
      ∙ ap (λ t. fold (joined comb) t (said_to id field us)) (h.each comb start id field)
      ∙ k.each comb (fold (joined comb) start (said_to id field ys)) id field
      ∙ sym (both comb start id field ys vs);
}

-- a value may change places with values behind it
past : (comb : Comb) (t : ℤ) (x : Value) (vs : List Value) → fold (joined comb) (joined comb t x) vs ≡ joined comb (fold (joined comb) t vs) x
past comb t x [] = refl
past comb t x (v ∷ vs) =
    ap (λ s. fold (joined comb) s vs) (turn comb t x v) ∙ past comb (joined comb t v) x vs

over : (comb : Comb) (t : ℤ) (us vs : List Value) → fold (joined comb) (fold (joined comb) t us) vs ≡ fold (joined comb) (fold (joined comb) t vs) us
over comb t [] vs = refl
over comb t (u ∷ us) vs =
    over comb (joined comb t u) us vs ∙ ap (λ s. fold (joined comb) s us) (past comb t u vs)

pub alike-turned : (xs ys : List Saying) → Alike (xs ++ ys) (ys ++ xs)
alike-turned xs ys = record {
  each = λ comb start id field.
      both comb start id field xs ys
      ∙ over comb start (said_to id field xs) (said_to id field ys)
      ∙ sym (both comb start id field ys xs);
}

-- (a ++ b) ++ (c ++ d) as (a ++ c) ++ (b ++ d)
pub alike-crossed : (a b c d : List Saying) → Alike ((a ++ b) ++ (c ++ d)) ((a ++ c) ++ (b ++ d))
alike-crossed a b c d =
    subst (λ l. Alike l ((a ++ c) ++ (b ++ d))) (sym (append_assoc a b (c ++ d)))
    (subst (Alike (a ++ (b ++ (c ++ d)))) (sym (append_assoc a c (b ++ d)))
    (alike-append a a (b ++ (c ++ d)) (c ++ (b ++ d)) (alike-refl a)
    (subst (λ l. Alike l (c ++ (b ++ d))) (append_assoc b c d)
    (subst (Alike ((b ++ c) ++ d)) (append_assoc c b d)
    (alike-append (b ++ c) (c ++ b) d d (alike-turned b c) (alike-refl d))))))

module _ {A : Type 0} (f g : A → List Saying) where
  -- what is said in two turns, one after the other or element by element
  pub alike-woven : (xs : List A) → Alike (flat_map f xs ++ flat_map g xs) (flat_map (λ x. f x ++ g x) xs)
  alike-woven [] = alike-refl []
  alike-woven (x ∷ xs) =
      alike-trans _ _ _ (alike-crossed (f x) (flat_map f xs) (g x) (flat_map g xs))
      (alike-append (f x ++ g x) (f x ++ g x) _ _ (alike-refl (f x ++ g x)) (alike-woven xs))

module _ {A : Type 0} (f : A → List Saying) where
  abbrev joined_all : Comb → ℕ → ℕ → ℤ → A → ℤ
  joined_all comb id field t x = fold (joined comb) t (said_to id field (f x))

  along : (comb : Comb) (start : ℤ) (id field : ℕ) (xs : List A)
      → fold (joined_all comb id field) start xs ≡ fold (joined comb) start (said_to id field (flat_map f xs))
  along comb start id field [] = refl
  along comb start id field (x ∷ xs) =
      along comb (fold (joined comb) start (said_to id field (f x))) id field xs ∙ sym (both comb start id field (f x) (flat_map f xs))

  -- what is said at the elements of a list, in any order of these
  pub alike-permuted : (xs ys : List A) → IsPermutation xs ys → Alike (flat_map f xs) (flat_map f ys)
  alike-permuted xs ys perm = record {
    each = λ comb start id field.
        sym (along comb start id field xs)
        ∙ fold-IsPermutation (joined_all comb id field) (λ x. Unit {0})
        (λ t x y p q. over comb t (said_to id field (f x)) (said_to id field (f y))) start xs ys (λ k d low. tt) perm
        ∙ along comb start id field ys;
  }

-- ---- sums of sayings that are alike

same-many : (id field : ℕ) (xs ys : List Saying) → Alike xs ys → length (said_to id field xs) ≡ length (said_to id field ys)
same-many id field xs ys h = omega (
  arith,
  ints,
  h.each Count (pos 0) id field,
  fold-counted (pos 0) (said_to id field xs),
  fold-counted (pos 0) (said_to id field ys),
)

pub summed-alike : (program : Program) (rows : List Agent) (xs ys : List Saying) (table : Table)
    → Alike xs ys
    → AreSummed program rows xs table → AreSummed program rows ys table
summed-alike program rows xs ys table h k = record {
  long = k.long;
  sums = λ row effect a e got has.
      let sum = k.sums row effect a e got has in
      record {
        many = sum.many ∙ same-many a.id effect xs ys h;
        number = λ some. sum.number some ∙ h.each e.comb (identity e.comb) a.id effect;
      };
}

module _ (program : Program) (rows : List Agent) where
  pub hears-none : (table : Table) → Hears program rows [] table table
  hears-none table = record {
    each = λ said k. subst (λ l. AreSummed program rows l table) (sym (append-nil said)) k;
  }

  pub hears-more : (xs ys : List Saying) (a b c : Table) → Hears program rows xs a b → Hears program rows ys b c → Hears program rows (xs ++ ys) a c
  hears-more xs ys a b c h k = record {
    each = λ said is. subst (λ l. AreSummed program rows l c) (append_assoc said xs ys)
        (k.each (said ++ xs) (h.each said is));
  }

  pub hears-alike : (xs ys : List Saying) (a b : Table) → Alike xs ys → Hears program rows xs a b → Hears program rows ys a b
  hears-alike xs ys a b same h = record {
    each = λ said is. summed-alike program rows (said ++ xs) (said ++ ys) b
        (alike-append said said xs ys (alike-refl said) same) (h.each said is);
  }
