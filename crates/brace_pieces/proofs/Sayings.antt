-- What sayings say to an effect of an agent.
use Rattle.std.proofs.Common.{◌≡◌, ◌∙◌, refl, ap, ap₂, ℕ, ◌+◌, List, [], ◌∷◌, ◌++◌, map, filter, flat_map, Bool, false, cond, ◌==◌, Option, Some, None, arith}
use Rattle.std.specs.Prelude.{◌&&◌}
use Rattle.std.specs.List.{All, Contains}
use Rattle.std.proofs.lemmas.Bool.{ne_eqb, and_left}
use Rattle.std.proofs.lemmas.List.{map-append}
use Rattle.std.proofs.lemmas.List.Concat.{flat_map-append}
use Rattle.std.proofs.lemmas.List.Elements.{filter-append, All-nil, All-head, All-tail, All-append}
use Rattle.brace_model.specs.declared.program.Effect.{Effect}
use Rattle.brace_model.specs.declared.program.Class.{Class}
use Rattle.brace_model.specs.declared.world.Agent.{Agent}
use Rattle.brace_model.specs.Query.{Saying}
use Rattle.brace_model.specs.Total.{said_to}
use Rattle.brace_pieces.specs.Right.{share_unless_silent, shares_from, shares_to}
use Rattle.brace_num.proofs.Lists.{in_first, in_more}

-- where no element gives anything nothing is given
pub none_given : {A B : Type 0} (f : A → List B) (xs : List A) → ((x : A) → Contains xs x → f x ≡ []) → flat_map f xs ≡ []
none_given f [] none = refl
none_given f (x ∷ xs) none = ap₂ (λ ys zs. ys ++ zs) (none x (in_first x xs)) (none_given f xs (λ y w. none y (in_more x xs y w)))

-- lists that are joined twice
pub joined_twice : {A B C : Type 0} (g : B → List C) (f : A → List B) (xs : List A) → flat_map g (flat_map f xs) ≡ flat_map (λ x. flat_map g (f x)) xs
joined_twice g f [] = refl
joined_twice g f (x ∷ xs) = flat_map-append g (f x) (flat_map f xs) ∙ ap (λ ys. flat_map g (f x) ++ ys) (joined_twice g f xs)

pub said_to-append : (id n : ℕ) (xs ys : List Saying) → said_to id n (xs ++ ys) ≡ said_to id n xs ++ said_to id n ys
said_to-append id n xs ys =
    ap (map (λ s. s.value)) (filter-append (λ s. (s.target == id) && (s.field == n)) xs ys) ∙ map-append _ _ _

pub said_to-each : {A : Type 0} (id n : ℕ) (f : A → List Saying) (xs : List A) → said_to id n (flat_map f xs) ≡ flat_map (λ x. said_to id n (f x)) xs
said_to-each id n f [] = refl
said_to-each id n f (x ∷ xs) = said_to-append id n (f x) (flat_map f xs) ∙ ap (λ ys. said_to id n (f x) ++ ys) (said_to-each id n f xs)

-- sayings to other agents say nothing to an agent
abbrev pub Others : ℕ → ℕ → Type 0
Others id target = target ≡ id → ⊥

pub silent_to : (id n : ℕ) (xs : List Saying) → All (λ s. Others id s.target) xs → said_to id n xs ≡ []
silent_to id n [] h = refl
silent_to id n (x ∷ xs) h =
    let other : ((x.target == id) && (x.field == n)) ≡ false = and_left (x.target == id) (x.field == n) (ne_eqb x.target id (All-head (λ s. Others id s.target) x xs h)) in
    let test : Saying → Bool = λ s. (s.target == id) && (s.field == n) in
    ap (λ c. map (λ s. s.value) (cond c (x ∷ filter test xs) (filter test xs))) other ∙ silent_to id n xs (All-tail (λ s. Others id s.target) x xs h)

pub all_given : {A : Type 0} (P : Saying → Type 0) (f : A → List Saying) (xs : List A) → ((x : A) → Contains xs x → All P (f x)) → All P (flat_map f xs)
all_given P f [] h = All-nil P
all_given P f (x ∷ xs) h = All-append P (f x) (flat_map f xs) (h x (0, omega arith, refl)) (all_given P f xs (λ y w. h y (in_more x xs y w)))

-- where nothing is said to an agent there is no share
pub no_shares : (n id : ℕ) (effects : List Effect) (xs : List Saying) → ((k : ℕ) → said_to id k xs ≡ []) → shares_from n id effects xs ≡ []
no_shares n id [] xs none = refl
no_shares n id (e ∷ effects) xs none = ap₂ (λ a b. a ++ b) (ap (share_unless_silent id n e) (none n)) (no_shares (n + 1) id effects xs none)

pub no_share : (xs : List Saying) (a : Agent) (class : Option Class) → ((k : ℕ) → said_to a.id k xs ≡ []) → shares_to xs a class ≡ []
no_share xs a None none = refl
no_share xs a (Some class) none = no_shares 0 a.id class.effects xs none
