-- One thing for each class of a program; plans of the queries of a lawful one.
use Rattle.std.proofs.Common.{◌≡◌, ◌∙◌, sym, ap, ap₂, subst, ℕ, zero, suc, ◌+◌, ◌<◌, ◌≤◌, ◌⊎◌, inl, inr, true, List, [], ◌∷◌, ◌++◌, map, flat_map, sum, length, get_or, take, Some, append_assoc, arith}
use Rattle.std.specs.Prelude.{slice_get, nat_lt}
use Rattle.std.specs.List.{list_all}
use Rattle.std.proofs.lemmas.Option.{slice_get_within, slice_get-get_or}
use Rattle.std.proofs.lemmas.Bool.{cases_lt}
use Rattle.std.proofs.lemmas.List.{length-replicate, length_push}
use Rattle.brace_num.proofs.Lists.{at_seam, flat_map_next}
use Rattle.brace_model.specs.declared.program.Class.{Class}
use Rattle.brace_model.specs.declared.program.Who.TheVariants.{Outer}
use Rattle.brace_model.specs.declared.program.Program.{Program}
use Rattle.brace_model.specs.Sites.{constant_numbers}
use Rattle.brace_model.specs.Query.{constants, opening_scope}
use Rattle.brace_model.specs.World.{no_value}
use Rattle.brace_model.specs.Typing.{Names}
use Rattle.brace_model.specs.Lawful.{LawfulProgram, query_scope}
use Rattle.brace_plan.specs.declared.loops.Loop.{Loop}
use Rattle.brace_plan.specs.declared.plans.Planned.{Planned}
use Rattle.brace_plan.specs.inner.Doing.{Suits, DoesAll, has_room}
use Rattle.brace_plan.specs.Planning.{told_by, OneEach, IsPlanOf}
use Rattle.brace_plan.specs.Narrowing.{loops_of}
use Rattle.brace_plan.proofs.Suiting.{opening_suits}

still_there : {A : Type 0} (xs ys : List A) (k : ℕ) (x : A) → slice_get xs k ≡ Some x → slice_get (xs ++ ys) k ≡ Some x
still_there [] ys k x e = absurd (cc)
still_there (y ∷ xs) ys zero x e = e
still_there (y ∷ xs) ys (suc k) x e = still_there xs ys k x e

same_one : (c d : Class) → Some c ≡ Some d → c ≡ d
same_one c d e = cc

-- ---- one thing for each class

-- one for each of the first classes
pub record OneEach_so_far {A : Type 0} (program : Program) (Is : ℕ → Class → A → Type 0) (i : ℕ) (things : List A) : Type 0 where
  pub count : length things ≡ i
  pub each : (number : ℕ) (class : Class) → number < i → slice_get program.classes number ≡ Some class
      → (thing : A) × (slice_get things number ≡ Some thing) × Is number class thing

module _ {A : Type 0} (program : Program) (Is : ℕ → Class → A → Type 0) (i : ℕ) where
  -- one more
  pub one_more : (number : ℕ) (class : Class) (things new : List A) (thing : A) → OneEach_so_far program Is i things → number ≡ i
      → slice_get program.classes number ≡ Some class → Is number class thing → new ≡ things ++ thing ∷ [] → OneEach_so_far program Is (i + 1) new
  one_more number class things new thing so_far same found is grown = subst (OneEach_so_far program Is (i + 1)) (sym grown) (record {
    count = length_push things thing ∙ ap (λ n. n + 1) so_far.count;
    each = λ k c low there. by_place k c low there (cases_lt k i);
  })
    where
      by_place : (k : ℕ) (c : Class) → k < i + 1 → slice_get program.classes k ≡ Some c → (k < i) ⊎ (i ≤ k) → (t : A) × (slice_get (things ++ thing ∷ []) k ≡ Some t) × Is k c t
      by_place k c low there (inl before) = let (t, at, is_one) = so_far.each k c before there in (t, still_there things (thing ∷ []) k t at, is_one)
      by_place k c low there (inr not_before) =
          let here : number ≡ k = omega (arith, same, low, not_before) in
          let one : class ≡ c = same_one class c (sym found ∙ ap (slice_get program.classes) here ∙ there) in (
            thing,
            ap (slice_get (things ++ thing ∷ [])) (let long : k ≡ length things = omega (arith, here, same, so_far.count) in long) ∙ at_seam things thing [],
            subst (λ n. Is n c thing) here (subst (λ d. Is number d thing) one is),
          )

  -- all
  pub all_there : (things : List A) → length program.classes ≤ i → OneEach_so_far program Is i things → OneEach program Is things
  all_there things past so_far = record {
    each = λ number class found. so_far.each number class (let low = slice_get_within program.classes number class found in omega (arith, low, past)) found;
  }

-- ---- plans of queries

-- actions that do what the query does are its plan
pub is_plan : (program : Program) (number : ℕ) (class : Class) (names : Names) (planned : Planned) → LawfulProgram program → slice_get program.classes number ≡ Some class
    → names ≡ query_scope program number → planned.constants ≡ sum (map constants class.query) → DoesAll names class.query planned.actions
    → told_by planned.actions ≡ loops_of program.classes Outer class.query → IsPlanOf program number class.query planned
is_plan program number class names planned lawful found is counted (last, does) tells = record {
  constants = counted;
  told = tells;
  same = λ seed tick world a all good of.
      let suits = opening_suits program world seed tick class.query a number all good of in
      let room : has_room (opening_scope seed tick class.query [] a) class.query ≡ true =
      ap (λ n. list_all (λ m. nat_lt m n) (flat_map constant_numbers class.query)) (length-replicate (sum (map constants class.query)) no_value)
      ∙ (lawful.classes_are_lawful number class found).constants_in_range in
      (does.each program world (opening_scope seed tick class.query [] a) (subst (λ n. Suits program world n (opening_scope seed tick class.query [] a)) (sym is) suits) room).deed;
}

-- the class that is planned next
module _ (classes xs : List Class) (i : ℕ) (class : Class) (same : xs ≡ classes) (low : i < length xs) (is : class ≡ get_or xs i class) where
  pub class_found : (number : ℕ) → number ≡ i → slice_get classes number ≡ Some class
  class_found number at = ap (slice_get classes) at ∙ ap (λ cs. slice_get cs i) (sym same) ∙ slice_get-get_or xs i class low ∙ ap (λ (c : Class). Some c) (sym is)

  pub loops_told : (f : Class → List Loop) (old mid new : List Loop) (told : List Loop) → mid ≡ old ++ flat_map f (take i classes) → new ≡ mid ++ told → told ≡ f class
      → new ≡ old ++ flat_map f (take (i + 1) classes)
  loops_told f old mid new told first second tells =
      let next : flat_map f (take (i + 1) classes) ≡ flat_map f (take i classes) ++ f class =
      subst (λ cs. flat_map f (take (i + 1) cs) ≡ flat_map f (take i cs) ++ f class) same (flat_map_next f xs i class low is) in
      second ∙ ap₂ (λ m t. m ++ t) first tells ∙ append_assoc old (flat_map f (take i classes)) (f class) ∙ ap (λ ls. old ++ ls) (sym next)
