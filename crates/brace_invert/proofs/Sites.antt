-- Where expressions and blocks fault: at their own sites.
use Rattle.std.proofs.Common.{◌≡◌, ◌∙◌, refl, sym, ap, subst, ℕ, ℤ, List, [], ◌∷◌, ◌++◌, Bool, true, false, Option, Some, None, Result, Ok, Err, arith, zero, suc}
use Rattle.std.specs.Prelude.{if◌then◌else◌, slice_index_or, pos}
use Rattle.std.specs.List.{Contains}
use Rattle.std.specs.Option.{option_and_then, option_to_list}
use Rattle.std.proofs.lemmas.List.Elements.{Contains-append_left, Contains-append_right}
use Rattle.brace_num.specs.declared.kinds.Kind.{Kind}
use Rattle.brace_model.specs.declared.program.Ty.{Ty}
use Rattle.brace_model.specs.declared.program.Value.{Value}
use Rattle.brace_model.specs.declared.program.Value.TheVariants.{Flag}
use Rattle.brace_model.specs.declared.program.UnOp.{UnOp}
use Rattle.brace_model.specs.declared.program.UnOp.TheVariants as un
use Rattle.brace_model.specs.declared.program.BinOp.{BinOp}
use Rattle.brace_model.specs.declared.program.BinOp.TheVariants as bin
use Rattle.brace_model.specs.declared.program.Expr.{Expr, roll-Expr}
use Rattle.brace_model.specs.declared.program.Expr.TheOpen as expr
use Rattle.brace_model.specs.declared.program.Expr.TheFolds.{map-Expr, ind-Expr, fold-roll-Expr}
use Rattle.brace_model.specs.declared.fault.Stop.{Stop}
use Rattle.brace_model.specs.Typing.{Names, is_sited, unary_faults, binary_faults, unary_type, binary_type, choice_type, type_step, type_of}
use Rattle.brace_model.specs.Sites.{sites_step, sites_of}
use Rattle.brace_model.specs.Value.{Scope, Worth, made, unary, strict, binary, choose, with_value, total_read, value_step, value}
use Rattle.brace_invert.proofs.Typed.{two_steps}

pub none_within : {A : Type 0} (P : Type 0) (x : A) → Contains [] x → P
none_within P x (k, below, is) = absurd (omega (arith, below))

pub only_one : {A : Type 0} (P : A → Type 0) (f g : A) → P f → Contains (f ∷ []) g → P g
only_one P f g p (zero, below, is) = subst P is p
only_one P f g p (suc k, below, is) = absurd (omega (arith, below))

-- an outcome that faults does so at one of these sites
abbrev pub FaultsAt : Worth → List ℕ → Type 0
FaultsAt v sites = (stop : Stop) → v ≡ Err stop → Contains sites stop.site

fine : (v : Value) (sites : List ℕ) → FaultsAt (Ok v) sites
fine v sites stop e = absurd (cc)

pub faults-more : (v : Worth) (xs ys : List ℕ) → ((x : ℕ) → Contains xs x → Contains ys x) → FaultsAt v xs → FaultsAt v ys
faults-more v xs ys more h stop e = more stop.site (h stop e)

faults-then : (v : Worth) (next : Value → Worth) (xs ys : List ℕ) → FaultsAt v xs → ((x : Value) → FaultsAt (next x) ys) → FaultsAt (with_value v next) (xs ++ ys)
faults-then (Ok x) next xs ys h g stop e = Contains-append_right xs ys stop.site (g x stop e)
faults-then (Err s) next xs ys h g stop e = Contains-append_left xs ys stop.site (h stop e)

-- a site alone
own_site : (k : ℕ) (stop : Stop) → k ≡ stop.site → Contains (k ∷ []) stop.site
own_site k stop e = (0, omega arith, e)

made_at : (as_value : ℤ → Value) (k : ℕ) (r : Result ℤ Kind) → FaultsAt (made as_value (Some k) r) (k ∷ [])
made_at as_value k (Ok n) stop e = absurd (cc)
made_at as_value k (Err kind) stop e = own_site k stop (let same : record { site = k; kind = kind } ≡ stop = cc in ap (λ (s : Stop). s.site) same)

made_sited : (as_value : ℤ → Value) (site : Option ℕ) (r : Result ℤ Kind) → is_sited true site ≡ true → FaultsAt (made as_value site r) (option_to_list site)
made_sited as_value None r e = absurd (cc)
made_sited as_value (Some k) r e = made_at as_value k r

unary_at : (op : UnOp) (site : Option ℕ) (v : Value) → is_sited (unary_faults op) site ≡ true → FaultsAt (unary op site v) (option_to_list site)
unary_at un.Not site v e = fine _ _
unary_at un.Trunc site v e = fine _ _
unary_at _ site v e = made_sited _ site _ e

strict_at : (op : BinOp) (site : Option ℕ) (v x : Value) → is_sited (binary_faults op) site ≡ true → FaultsAt (strict op site v x) (option_to_list site)
strict_at bin.Add site v x e = made_sited _ site _ e
strict_at bin.Sub site v x e = made_sited _ site _ e
strict_at bin.Mul site v x e = made_sited _ site _ e
strict_at bin.Div site v x e = made_sited _ site _ e
strict_at bin.Rem site v x e = made_sited _ site _ e
strict_at _ site v x e = fine _ _

choose_at : (v : Value) (a d : Worth) (xs : List ℕ) → FaultsAt a xs → FaultsAt d xs → FaultsAt (choose v a d) xs
choose_at (Flag true) a d xs ha hd = ha
choose_at _ a d xs ha hd = hd

either_at : (a d : Worth) (next : Value → Worth) (xs ys : List ℕ) (site : Option ℕ) → FaultsAt a xs → FaultsAt d ys → ((v : Value) → FaultsAt (next v) ys) → FaultsAt (with_value a next) (xs ++ (ys ++ option_to_list site))
either_at a d next xs ys site ha hd hn =
    faults-then a next xs (ys ++ option_to_list site) ha (λ v. faults-more (next v) ys (ys ++ option_to_list site) (λ x. Contains-append_left ys (option_to_list site) x) (hn v))

two_at : (op : BinOp) (site : Option ℕ) (a d : Worth) (xs ys : List ℕ) → is_sited (binary_faults op) site ≡ true → FaultsAt a xs → FaultsAt d ys
    → FaultsAt (with_value a (λ v. with_value d (strict op site v))) (xs ++ (ys ++ option_to_list site))
two_at op site a d xs ys e ha hd =
    faults-then a _ xs (ys ++ option_to_list site) ha (λ v. faults-then d (strict op site v) ys (option_to_list site) hd (λ x. strict_at op site v x e))

-- an operator that may leave its second operand, or another one
pub binary_by : (P : Worth → Type 0) (op : BinOp) (site : Option ℕ) (a d : Worth) → P (with_value a (λ v. choose v d (Ok (Flag false)))) → P (with_value a (λ v. choose v (Ok (Flag true)) d))
    → P (with_value a (λ v. with_value d (strict op site v))) → P (binary op site a d)
binary_by P bin.And site a d first second both = first
binary_by P bin.Or site a d first second both = second
binary_by P bin.Add site a d first second both = both
binary_by P bin.Sub site a d first second both = both
binary_by P bin.Mul site a d first second both = both
binary_by P bin.Div site a d first second both = both
binary_by P bin.Rem site a d first second both = both
binary_by P bin.Lt site a d first second both = both
binary_by P bin.Le site a d first second both = both
binary_by P bin.Gt site a d first second both = both
binary_by P bin.Ge site a d first second both = both
binary_by P bin.Eq site a d first second both = both
binary_by P bin.Ne site a d first second both = both
binary_by P bin.Min site a d first second both = both
binary_by P bin.Max site a d first second both = both

binary_at : (op : BinOp) (site : Option ℕ) (a d : Worth) (xs ys : List ℕ) → is_sited (binary_faults op) site ≡ true → FaultsAt a xs → FaultsAt d ys → FaultsAt (binary op site a d) (xs ++ (ys ++ option_to_list site))
binary_at op site a d xs ys e ha hd = binary_by (λ v. FaultsAt v (xs ++ (ys ++ option_to_list site))) op site a d
    (either_at a d _ xs ys site ha hd (λ v. choose_at v d (Ok (Flag false)) ys hd (fine _ ys))) (either_at a d _ xs ys site ha hd (λ v. choose_at v (Ok (Flag true)) d ys (fine _ ys) hd)) (two_at op site a d xs ys e ha hd)

total_at : (type : Ty) (site : Option ℕ) (n : ℤ) → FaultsAt (total_read type site n) (option_to_list site)
total_at type None n = fine _ []
total_at type (Some k) n = made_at _ k _

-- an expression that has a type faults at one of its sites
abbrev IsSited : Expr → Type 0
IsSited e = (names : Names) (t : Ty) → type_of e names ≡ Some t → (scope : Scope) → FaultsAt (value e scope) (sites_of e)

abbrev Known : Type 0
Known = (e : Expr) × IsSited e

abbrev known : Known → Expr
known p = p.0

abbrev Types : Type 0
Types = Names → Option Ty

abbrev Worths : Type 0
Worths = Scope → Worth

where_sited : (test : Bool) (o : Option Ty) (t : Ty) → (if test then o else None) ≡ Some t → (test ≡ true) × (o ≡ Some t)
where_sited true o t e = (refl, e)
where_sited false o t e = absurd (cc)

layer_sited : (y : expr.Expr-F Known) (names : Names) (t : Ty) → type_step (map-Expr Expr Types type_of (map-Expr Known Expr known y)) names ≡ Some t → (scope : Scope)
    → FaultsAt (value_step (map-Expr Expr Worths value (map-Expr Known Expr known y)) scope) (sites_step (map-Expr Expr (List ℕ) sites_of (map-Expr Known Expr known y)))
layer_sited (expr.Total effect type site) names t e scope = total_at type site (slice_index_or scope.totals effect (pos 0))
layer_sited (expr.Unary op site a) names t e scope =
    let (sited, typed) = where_sited (is_sited (unary_faults op) site) _ t e in
    let (s, is_a, fits) = two_steps (unary_type op) (type_of a.0 names) t typed in
    faults-then (value a.0 scope) (unary op site) (sites_of a.0) (option_to_list site) (a.1 names s is_a scope) (λ v. unary_at op site v sited)
layer_sited (expr.Binary op site a d) names t e scope =
    let (sited, typed) = where_sited (is_sited (binary_faults op) site) _ t e in
    let (s, is_a, rest) = two_steps (λ s. option_and_then (binary_type op s) (type_of d.0 names)) (type_of a.0 names) t typed in
    let (r, is_d, fits) = two_steps (binary_type op s) (type_of d.0 names) t rest in
    binary_at op site (value a.0 scope) (value d.0 scope) (sites_of a.0) (sites_of d.0) sited (a.1 names s is_a scope) (d.1 names r is_d scope)
layer_sited (expr.Choice c a d) names t e scope =
    let (p, is_c, after) = two_steps (λ p. option_and_then (λ s. option_and_then (choice_type p s) (type_of d.0 names)) (type_of a.0 names)) (type_of c.0 names) t e in
    let (s, is_a, rest) = two_steps (λ s. option_and_then (choice_type p s) (type_of d.0 names)) (type_of a.0 names) t after in
    let (r, is_d, fits) = two_steps (choice_type p s) (type_of d.0 names) t rest in
    faults-then (value c.0 scope) (λ x. choose x (value a.0 scope) (value d.0 scope)) (sites_of c.0) (sites_of a.0 ++ sites_of d.0) (c.1 names p is_c scope)
    (λ v. choose_at v (value a.0 scope) (value d.0 scope) (sites_of a.0 ++ sites_of d.0)
    (faults-more (value a.0 scope) (sites_of a.0) _ (λ x. Contains-append_left (sites_of a.0) (sites_of d.0) x) (a.1 names s is_a scope))
    (faults-more (value d.0 scope) (sites_of d.0) _ (λ x. Contains-append_right (sites_of a.0) (sites_of d.0) x) (d.1 names r is_d scope)))
layer_sited (expr.Rand site) names t e scope = fine _ (site ∷ [])
layer_sited _ names t e scope = fine _ []

pub value_sited : (e : Expr) → IsSited e
value_sited = ind-Expr IsSited (λ x y is names t typed scope.
    let step = subst (λ z. type_step (map-Expr Expr Types type_of z) names ≡ Some t → FaultsAt (value_step (map-Expr Expr Worths value z) scope) (sites_step (map-Expr Expr (List ℕ) sites_of z))) is (λ e. layer_sited y names t e scope) in
    subst (λ v. FaultsAt v (sites_of (roll-Expr x))) (sym (ap (λ f. f scope) (fold-roll-Expr Worths value_step x)))
    (subst (FaultsAt (value_step (map-Expr Expr Worths value x) scope)) (sym (fold-roll-Expr (List ℕ) sites_step x))
    (step (sym (ap (λ f. f names) (fold-roll-Expr Types type_step x)) ∙ typed))))
