-- What std's lemmas on answers leave out.
use Rattle.std.proofs.Common.{◌≡◌, true, false, Option, Some, None, Result, Ok, Err, is_some, is_none, option_map, refl}

module _ {A : Type 0} where
  -- an answer that is there is not none
  pub some_none : (o : Option A) (a : A) → o ≡ Some a → o ≡ None → ⊥
  some_none o a e f = cc

  -- the test says that it is not there
  pub not_some : (o : Option A) → is_some o ≡ false → o ≡ None
  not_some None e = refl
  not_some (Some a) e = absurd (cc)

  -- the other test says so
  pub none_there : (o : Option A) → is_none o ≡ true → o ≡ None
  none_there None e = refl
  none_there (Some a) e = absurd (cc)

  -- what is made of none
  pub none_mapped : {B : Type 0} (f : A → B) (o : Option A) → option_map f o ≡ None → o ≡ None
  none_mapped f None e = refl
  none_mapped f (Some a) e = absurd (cc)

module _ {A E : Type 0} where
  -- two answers that are one have one value
  pub ok_same : (a b : A) → ◌≡◌ {A = Result A E} (Ok a) (Ok b) → a ≡ b
  ok_same a b e = cc

  -- a value is no fault
  pub ok_not_err : (a : A) (f : E) → ◌≡◌ {A = Result A E} (Ok a) (Err f) → ⊥
  ok_not_err a f e = cc
