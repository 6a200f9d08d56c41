-- The formats of numbers, agents, entries and faults are known.
use Rattle.std.proofs.Common.{◌≡◌, ℕ, zero, suc, ◌+◌, ◌*◌, ◌/◌, ◌%◌, ◌<◌, ◌^◌, ℤ, Bool, true, false, List, [], ◌∷◌, ◌++◌, Option, Some, None, refl, sym, ap, subst, ◌∙◌, append_assoc, arith}
use Rattle.std.specs.Prelude.{IfSome, FitsSigned, ◌&&◌, slice_get}
use Rattle.std.specs.Int.{w64, w128, cast_signed, cast_unsigned}
use Rattle.std.specs.List.{flat_map, AllByRecursion}
use Rattle.std.proofs.lemmas.Int.{to_z-of_z, of_z-to_z}
use Rattle.std.proofs.lemmas.List.Concat.{flat_map-cons}
use mir.ValLaws.{to_z-Fits, of_z_fits}
use Rattle.brace_num.specs.declared.kinds.Kind.{Kind}
use Rattle.brace_num.specs.declared.kinds.Kind.TheVariants.{Overflow, DivZero, NegRoot, TooMany}
use Rattle.brace_model.specs.declared.program.Ty.{Ty}
use Rattle.brace_model.specs.declared.program.Ty.TheVariants as ty
use Rattle.brace_model.specs.declared.program.Value.{Value}
use Rattle.brace_model.specs.declared.program.Value.TheVariants.{Int, Fixed, Flag}
use Rattle.brace_model.specs.declared.fault.Phase.{Phase}
use Rattle.brace_model.specs.declared.fault.Phase.TheVariants.{Query, Update, Birth}
use Rattle.brace_model.specs.declared.world.Agent.{Agent}
use Rattle.brace_model.specs.Typing.{same_type, type_of_value}
use Rattle.brace_comb.specs.declared.total.Total.{Total}
use Rattle.brace_comb.specs.declared.total.Total.TheVariants.{Sum, Least, Greatest, Count, Any}
use Rattle.brace_pieces.specs.declared.piece.Cause.{Cause}
use Rattle.brace_pieces.specs.declared.piece.Cause.TheVariants as cause
use Rattle.brace_wire.specs.Frames.{four, eight, signed, sixteen, flag, optional, listed, value, agent, total, entry, parent, census, shown, phase, kind, fault, cause_bytes}
use Rattle.brace_wire.specs.Fitting.{ValueFits, IsAgent, are_of, TotalFits, EntryFits, ParentFits, CensusFits, ShownFits, FaultFits, CauseFits, ListFits}
use Rattle.brace_wire.specs.inner.Reading.{◌>>=◌, then_at, made_at, list_at, four_at, eight_at, signed_at, sixteen_at, flag_at, optional_at, value_at, values_at, states_at, agent_at, total_at, entry_at, parent_at, census_at, shown_at, phase_at, kind_at, fault_at, cause_at}
use Rattle.brace_wire.proofs.Known.{IsBytes, IsBytes-rest, bind_some, some, some_is, Takes, Takes-then, Known, four_known, eight_known, both_known, made_takes, made_known, list_known}

-- ---- signed numbers

pub signed_known : Known signed (FitsSigned w64) signed_at
unfolding signed signed_at
signed_known = made_known (cast_signed w64) eight (λ n. n < 2 ^ 64) eight_at signed (FitsSigned w64) eight_known (cast_unsigned w64)
    (λ n lt. ap eight (of_z-to_z w64 n lt)) (λ n lt. to_z-Fits w64 n (record { fits = lt })) (λ z fits. refl) (λ z fits. (of_z_fits w64 z fits).fits) (λ z fits. to_z-of_z w64 z fits)

abbrev joined : ℕ × ℕ → ℕ
joined h = h.0 * 2 ^ 64 + h.1

joined_below : (a b : ℕ) → a < 2 ^ 64 → b < 2 ^ 64 → a * 2 ^ 64 + b < 2 ^ 128
joined_below a b h g = omega arith

higher : (a b : ℕ) → b < 2 ^ 64 → (a * 2 ^ 64 + b) / 2 ^ 64 ≡ a
higher a b h = omega arith

lower : (a b : ℕ) → b < 2 ^ 64 → (a * 2 ^ 64 + b) % 2 ^ 64 ≡ b
lower a b h = omega arith

split : (n : ℕ) → n / 2 ^ 64 * 2 ^ 64 + n % 2 ^ 64 ≡ n
split n = omega arith

abbrev halves : ℤ → ℕ × ℕ
halves z = (cast_unsigned w128 z / 2 ^ 64, cast_unsigned w128 z % 2 ^ 64)

half_below : (n : ℕ) → n < 2 ^ 128 → n / 2 ^ 64 < 2 ^ 64
half_below n h = omega arith

rest_below : (n : ℕ) → n % 2 ^ 64 < 2 ^ 64
rest_below n = omega arith

abbrev two_eights : ℕ × ℕ → List ℕ
two_eights h = eight h.0 ++ eight h.1

abbrev two_fit : ℕ × ℕ → Type 0
two_fit h = (h.0 < 2 ^ 64) × (h.1 < 2 ^ 64)

same_sixteen : (h : ℕ × ℕ) → two_fit h → sixteen (cast_signed w128 (joined h)) ≡ two_eights h
unfolding sixteen
same_sixteen h fits =
    let n : cast_unsigned w128 (cast_signed w128 (joined h)) ≡ joined h = of_z-to_z w128 (joined h) (joined_below h.0 h.1 fits.0 fits.1) in
    ap (λ (k : ℕ). eight (k / 2 ^ 64) ++ eight (k % 2 ^ 64)) n
    ∙ (ap (λ (k : ℕ). eight k ++ eight (joined h % 2 ^ 64)) (higher h.0 h.1 fits.1) ∙ ap (λ (k : ℕ). eight h.0 ++ eight k) (lower h.0 h.1 fits.1))

pub sixteen_known : Known sixteen (FitsSigned w128) sixteen_at
unfolding sixteen_at sixteen
sixteen_known = made_known (λ h. cast_signed w128 (joined h)) two_eights two_fit (then_at eight_at eight_at) sixteen (FitsSigned w128)
    (both_known eight (λ n. n < 2 ^ 64) eight_at eight (λ n. n < 2 ^ 64) eight_at eight_known eight_known) halves
    same_sixteen
    (λ h fits. to_z-Fits w128 (joined h) (record { fits = joined_below h.0 h.1 fits.0 fits.1 }))
    (λ z fits. refl)
    (λ z fits. (half_below (cast_unsigned w128 z) (of_z_fits w128 z fits).fits, rest_below (cast_unsigned w128 z)))
    (λ z fits. ap (cast_signed w128) (split (cast_unsigned w128 z)) ∙ to_z-of_z w128 z fits)

-- ---- flags and options

flag_takes : (bytes : List ℕ) (b : Bool) (rest : List ℕ) → IsBytes bytes → flag_at bytes ≡ Some (b, rest) → Takes bytes (flag b) rest × Unit {0}
unfolding flag_at flag
flag_takes (zero ∷ bytes) b rest fits e =
    subst (λ (z : Bool × List ℕ). Takes (0 ∷ bytes) (flag z.0) z.1 × Unit {0}) (some_is (false, bytes) (b, rest) e) (record { parts = refl; rest_fits = IsBytes-rest 0 bytes fits }, tt)
flag_takes (suc zero ∷ bytes) b rest fits e =
    subst (λ (z : Bool × List ℕ). Takes (1 ∷ bytes) (flag z.0) z.1 × Unit {0}) (some_is (true, bytes) (b, rest) e) (record { parts = refl; rest_fits = IsBytes-rest 1 bytes fits }, tt)
flag_takes _ b rest fits e = absurd cc

flag_again : (b : Bool) (rest : List ℕ) → Unit {0} → flag_at (flag b ++ rest) ≡ Some (b, rest)
unfolding flag_at flag
flag_again true rest fits = refl
flag_again false rest fits = refl

abbrev pub NoRange : {A : Type 0} → A → Type 0
NoRange x = Unit {0}

pub flag_known : Known flag NoRange flag_at
flag_known = record { takes = flag_takes; again = flag_again }

abbrev OptionFits : Option ℕ → Type 0
OptionFits o = IfSome o (λ n. n < 2 ^ 64)

optional_takes : (bytes : List ℕ) (o : Option ℕ) (rest : List ℕ) → IsBytes bytes → optional_at bytes ≡ Some (o, rest) → Takes bytes (optional o) rest × OptionFits o
unfolding optional_at optional
optional_takes (zero ∷ bytes) o rest fits e =
    subst (λ (z : Option ℕ × List ℕ). Takes (0 ∷ bytes) (optional z.0) z.1 × OptionFits z.0) (some_is (None, bytes) (o, rest) e) (record { parts = refl; rest_fits = IsBytes-rest 0 bytes fits }, tt)
optional_takes (suc zero ∷ bytes) o rest fits e =
    made_takes some eight (λ n. n < 2 ^ 64) eight_at optional OptionFits eight_known (1 ∷ []) (λ n lt. refl) (λ n lt. lt) bytes o rest (IsBytes-rest 1 bytes fits) e
optional_takes _ o rest fits e = absurd cc

optional_again : (o : Option ℕ) (rest : List ℕ) → OptionFits o → optional_at (optional o ++ rest) ≡ Some (o, rest)
unfolding optional_at optional
optional_again None rest fits = refl
optional_again (Some n) rest fits = rw (eight_known.again n rest fits) refl

pub optional_known : Known optional OptionFits optional_at
optional_known = record { takes = optional_takes; again = optional_again }

-- ---- values

abbrev IsValueOf : Ty → Value → Type 0
IsValueOf t v = (type_of_value v ≡ t) × ValueFits v

value_takes : (t : Ty) (bytes : List ℕ) (v : Value) (rest : List ℕ) → IsBytes bytes → value_at t bytes ≡ Some (v, rest) → Takes bytes (value v) rest × IsValueOf t v
unfolding value_at value
value_takes ty.Int bytes v rest fits e = made_takes Int signed (FitsSigned w64) signed_at value (IsValueOf ty.Int) signed_known [] (λ n lt. refl) (λ n lt. (refl, lt)) bytes v rest fits e
value_takes ty.Fixed bytes v rest fits e = made_takes Fixed signed (FitsSigned w64) signed_at value (IsValueOf ty.Fixed) signed_known [] (λ n lt. refl) (λ n lt. (refl, lt)) bytes v rest fits e
value_takes ty.Bool bytes v rest fits e = made_takes Flag flag NoRange flag_at value (IsValueOf ty.Bool) flag_known [] (λ n lt. refl) (λ n lt. (refl, tt)) bytes v rest fits e

value_again : (v : Value) (rest : List ℕ) → ValueFits v → value_at (type_of_value v) (value v ++ rest) ≡ Some (v, rest)
unfolding value_at value
value_again (Int n) rest fits = rw (signed_known.again n rest fits) refl
value_again (Fixed n) rest fits = rw (signed_known.again n rest fits) refl
value_again (Flag b) rest fits = rw (flag_known.again b rest tt) refl

same_self : (t : Ty) → same_type t t ≡ true
same_self ty.Int = refl
same_self _ = refl

same_is : (a b : Ty) → same_type a b ≡ true → b ≡ a
same_is ty.Int ty.Int h = refl
same_is ty.Int ty.Fixed h = absurd cc
same_is ty.Int ty.Bool h = absurd cc
same_is ty.Fixed ty.Int h = absurd cc
same_is ty.Fixed ty.Fixed h = refl
same_is ty.Fixed ty.Bool h = absurd cc
same_is ty.Bool ty.Int h = absurd cc
same_is ty.Bool ty.Fixed h = absurd cc
same_is ty.Bool ty.Bool h = refl

both_true : (a b : Bool) → (a && b) ≡ true → (a ≡ true) × (b ≡ true)
both_true true b h = (refl, h)
both_true false b h = absurd cc

-- values of these types
abbrev AreOf : List Ty → List Value → Type 0
AreOf types vs = (are_of (Some types) vs ≡ true) × AllByRecursion ValueFits vs

values_take : (types : List Ty) (bytes : List ℕ) (x : List Value × List ℕ) → IsBytes bytes → values_at types bytes ≡ Some x → Takes bytes (flat_map value x.0) x.1 × AreOf types x.0
unfolding values_at
values_take [] bytes x fits e =
    subst (λ (y : List Value × List ℕ). Takes bytes (flat_map value y.0) y.1 × AreOf [] y.0) (some_is ([], bytes) x e) (record { parts = refl; rest_fits = fits }, (refl, tt))
values_take (t ∷ types) bytes x fits e =
    let p = bind_some (value_at t bytes) (λ first. values_at types first.1 >>= λ others. Some (first.0 ∷ others.0, others.1)) x e in
    let q = bind_some (values_at types p.0.1) (λ others. Some (p.0.0 ∷ others.0, others.1)) x p.2 in
    let first = value_takes t bytes p.0.0 p.0.1 fits p.1 in
    let second = values_take types p.0.1 q.0 first.0.rest_fits q.1 in
    let both = Takes-then bytes (value p.0.0) p.0.1 (flat_map value q.0.0) q.0.1 first.0 second.0 in
    let made : List Value × List ℕ = (p.0.0 ∷ q.0.0, q.0.1) in
    let here : same_type t (type_of_value p.0.0) ≡ true = ap (same_type t) first.1.0 ∙ same_self t in
    let typed : are_of (Some (t ∷ types)) (p.0.0 ∷ q.0.0) ≡ true = ap (λ (b : Bool). b && are_of (Some types) q.0.0) here ∙ second.1.0 in
    subst (λ (y : List Value × List ℕ). Takes bytes (flat_map value y.0) y.1 × AreOf (t ∷ types) y.0) (some_is made x q.2) (rw flat_map-cons both, (typed, (first.1.1, second.1.1)))

values_again : (types : List Ty) (vs : List Value) (rest : List ℕ) → are_of (Some types) vs ≡ true → AllByRecursion ValueFits vs → values_at types (flat_map value vs ++ rest) ≡ Some (vs, rest)
unfolding values_at
values_again [] [] rest typed fits = refl
values_again [] (v ∷ vs) rest typed fits = absurd cc
values_again (t ∷ types) [] rest typed fits = absurd cc
values_again (t ∷ types) (v ∷ vs) rest typed fits =
    let parts = both_true (same_type t (type_of_value v)) (are_of (Some types) vs) typed in
    let regrouped : flat_map value (v ∷ vs) ++ rest ≡ value v ++ (flat_map value vs ++ rest) = ap (λ (y : List ℕ). y ++ rest) (flat_map-cons value v vs) ∙ append_assoc (value v) (flat_map value vs) rest in
    let first : value_at t (value v ++ (flat_map value vs ++ rest)) ≡ Some (v, flat_map value vs ++ rest) =
    ap (λ (k : Ty). value_at k (value v ++ (flat_map value vs ++ rest))) (sym (same_is t (type_of_value v) parts.0)) ∙ value_again v (flat_map value vs ++ rest) fits.0 in
    ap (values_at (t ∷ types)) regrouped ∙ rw (first, values_again types vs rest parts.1 fits.1) refl

states_take : (types : Option (List Ty)) (bytes : List ℕ) (x : List Value × List ℕ) → IsBytes bytes → states_at types bytes ≡ Some x
    → Takes bytes (flat_map value x.0) x.1 × ((are_of types x.0 ≡ true) × AllByRecursion ValueFits x.0)
unfolding states_at
states_take None bytes x fits e = absurd cc
states_take (Some types) bytes x fits e = values_take types bytes x fits e

states_again : (types : Option (List Ty)) (vs : List Value) (rest : List ℕ) → are_of types vs ≡ true → AllByRecursion ValueFits vs → states_at types (flat_map value vs ++ rest) ≡ Some (vs, rest)
unfolding states_at
states_again None vs rest typed fits = absurd cc
states_again (Some types) vs rest typed fits = values_again types vs rest typed fits

-- ---- agents

agent_takes : (types : List (List Ty)) (bytes : List ℕ) (a : Agent) (rest : List ℕ) → IsBytes bytes → agent_at types bytes ≡ Some (a, rest) → Takes bytes (agent a) rest × IsAgent types a
unfolding agent_at agent four eight
agent_takes types bytes a rest fits e =
    let p = bind_some (four_at bytes) (λ class. eight_at class.1 >>= λ id. states_at (slice_get types class.0) id.1 >>= λ states. Some (record { class = class.0; id = id.0; states = states.0 }, states.1)) (a, rest) e in
    let q = bind_some (eight_at p.0.1) (λ id. states_at (slice_get types p.0.0) id.1 >>= λ states. Some (record { class = p.0.0; id = id.0; states = states.0 }, states.1)) (a, rest) p.2 in
    let r = bind_some (states_at (slice_get types p.0.0) q.0.1) (λ states. Some (record { class = p.0.0; id = q.0.0; states = states.0 }, states.1)) (a, rest) q.2 in
    let t0 = four_known.takes bytes p.0.0 p.0.1 fits p.1 in
    let t1 = eight_known.takes p.0.1 q.0.0 q.0.1 t0.0.rest_fits q.1 in
    let t2 = states_take (slice_get types p.0.0) q.0.1 r.0 t1.0.rest_fits r.1 in
    let e12 = Takes-then p.0.1 (eight q.0.0) q.0.1 (flat_map value r.0.0) r.0.1 t1.0 t2.0 in
    let e02 = Takes-then bytes (four p.0.0) p.0.1 (eight q.0.0 ++ flat_map value r.0.0) r.0.1 t0.0 e12 in
    let made : Agent × List ℕ = (record { class = p.0.0; id = q.0.0; states = r.0.0 }, r.0.1) in
    subst (λ (y : Agent × List ℕ). Takes bytes (agent y.0) y.1 × IsAgent types y.0) (some_is made (a, rest) r.2) (e02, (record { class = t0.1; id = t1.1; states = t2.1.1 }, t2.1.0))

agent_again : (types : List (List Ty)) (a : Agent) (rest : List ℕ) → IsAgent types a → agent_at types (agent a ++ rest) ≡ Some (a, rest)
unfolding agent_at agent four eight
agent_again types a rest fits =
    let regrouped : agent a ++ rest ≡ four a.class ++ (eight a.id ++ (flat_map value a.states ++ rest)) =
    append_assoc (four a.class) (eight a.id ++ flat_map value a.states) rest ∙ ap (λ (x : List ℕ). four a.class ++ x) (append_assoc (eight a.id) (flat_map value a.states) rest) in
    ap (agent_at types) regrouped
    ∙ rw (four_known.again a.class (eight a.id ++ (flat_map value a.states ++ rest)) fits.0.class, eight_known.again a.id (flat_map value a.states ++ rest) fits.0.id, states_again (slice_get types a.class) a.states rest fits.1 fits.0.states) refl

pub agent_known : (types : List (List Ty)) → Known agent (IsAgent types) (agent_at types)
agent_known types = record { takes = agent_takes types; again = agent_again types }

-- ---- totals and entries

abbrev SumParts : ℤ × ℕ → Type 0
SumParts p = FitsSigned w128 p.0 × (p.1 < 2 ^ 64)

abbrev ExtremeParts : ℤ × ℕ → Type 0
ExtremeParts p = FitsSigned w64 p.0 × (p.1 < 2 ^ 64)

abbrev AnyParts : Bool × ℕ → Type 0
AnyParts p = Unit {0} × (p.1 < 2 ^ 64)

total_takes : (bytes : List ℕ) (t : Total) (rest : List ℕ) → IsBytes bytes → total_at bytes ≡ Some (t, rest) → Takes bytes (total t) rest × TotalFits t
unfolding total_at total
total_takes (zero ∷ bytes) t rest fits e =
    made_takes (λ p. Sum p.0 p.1) (λ p. sixteen p.0 ++ eight p.1) SumParts (then_at sixteen_at eight_at) total TotalFits
    (both_known sixteen (FitsSigned w128) sixteen_at eight (λ n. n < 2 ^ 64) eight_at sixteen_known eight_known) (0 ∷ []) (λ p h. refl) (λ p h. h) bytes t rest (IsBytes-rest 0 bytes fits) e
total_takes (suc zero ∷ bytes) t rest fits e =
    made_takes (λ p. Least p.0 p.1) (λ p. signed p.0 ++ eight p.1) ExtremeParts (then_at signed_at eight_at) total TotalFits
    (both_known signed (FitsSigned w64) signed_at eight (λ n. n < 2 ^ 64) eight_at signed_known eight_known) (1 ∷ []) (λ p h. refl) (λ p h. h) bytes t rest (IsBytes-rest 1 bytes fits) e
total_takes (suc (suc zero) ∷ bytes) t rest fits e =
    made_takes (λ p. Greatest p.0 p.1) (λ p. signed p.0 ++ eight p.1) ExtremeParts (then_at signed_at eight_at) total TotalFits
    (both_known signed (FitsSigned w64) signed_at eight (λ n. n < 2 ^ 64) eight_at signed_known eight_known) (2 ∷ []) (λ p h. refl) (λ p h. h) bytes t rest (IsBytes-rest 2 bytes fits) e
total_takes (suc (suc (suc zero)) ∷ bytes) t rest fits e =
    made_takes Count eight (λ n. n < 2 ^ 64) eight_at total TotalFits eight_known (3 ∷ []) (λ n h. refl) (λ n h. h) bytes t rest (IsBytes-rest 3 bytes fits) e
total_takes (suc (suc (suc (suc zero))) ∷ bytes) t rest fits e =
    made_takes (λ p. Any p.0 p.1) (λ p. flag p.0 ++ eight p.1) AnyParts (then_at flag_at eight_at) total TotalFits
    (both_known flag NoRange flag_at eight (λ n. n < 2 ^ 64) eight_at flag_known eight_known) (4 ∷ []) (λ p h. refl) (λ p h. h.1) bytes t rest (IsBytes-rest 4 bytes fits) e
total_takes _ t rest fits e = absurd cc

total_again : (t : Total) (rest : List ℕ) → TotalFits t → total_at (total t ++ rest) ≡ Some (t, rest)
unfolding total_at total
total_again (Sum n k) rest fits =
    ap (λ (x : List ℕ). made_at (λ p. Sum p.0 p.1) (then_at sixteen_at eight_at) x) (append_assoc (sixteen n) (eight k) rest)
    ∙ rw (sixteen_known.again n (eight k ++ rest) fits.0, eight_known.again k rest fits.1) refl
total_again (Least n k) rest fits =
    ap (λ (x : List ℕ). made_at (λ p. Least p.0 p.1) (then_at signed_at eight_at) x) (append_assoc (signed n) (eight k) rest)
    ∙ rw (signed_known.again n (eight k ++ rest) fits.0, eight_known.again k rest fits.1) refl
total_again (Greatest n k) rest fits =
    ap (λ (x : List ℕ). made_at (λ p. Greatest p.0 p.1) (then_at signed_at eight_at) x) (append_assoc (signed n) (eight k) rest)
    ∙ rw (signed_known.again n (eight k ++ rest) fits.0, eight_known.again k rest fits.1) refl
total_again (Count k) rest fits = rw (eight_known.again k rest fits) refl
total_again (Any b k) rest fits =
    ap (λ (x : List ℕ). made_at (λ p. Any p.0 p.1) (then_at flag_at eight_at) x) (append_assoc (flag b) (eight k) rest)
    ∙ rw (flag_known.again b (eight k ++ rest) tt, eight_known.again k rest fits) refl

pub total_known : Known total TotalFits total_at
total_known = record { takes = total_takes; again = total_again }

abbrev pub four_fits : ℕ → Type 0
four_fits n = n < 2 ^ 32

abbrev pub eight_fits : ℕ → Type 0
eight_fits n = n < 2 ^ 64

pub entry_known : Known entry EntryFits entry_at
unfolding entry entry_at eight four total
entry_known =
    let inner = both_known four four_fits four_at total TotalFits total_at four_known total_known in
    let whole = both_known eight eight_fits eight_at (λ p. four p.0 ++ total p.1) (λ p. four_fits p.0 × TotalFits p.1) (then_at four_at total_at) eight_known inner in
    made_known (λ p. record { target = p.0; field = p.1.0; total = p.1.1 }) (λ p. eight p.0 ++ (four p.1.0 ++ total p.1.1)) (λ p. eight_fits p.0 × (four_fits p.1.0 × TotalFits p.1.1))
    (then_at eight_at (then_at four_at total_at)) entry EntryFits whole (λ e. (e.target, (e.field, e.total)))
    (λ p h. refl) (λ p h. record { target = h.0; field = h.1.0; total = h.1.1 }) (λ e h. refl) (λ e h. (h.target, (h.field, h.total))) (λ e h. refl)

pub parent_known : Known parent ParentFits parent_at
unfolding parent parent_at
parent_known =
    made_known (λ p. record { id = p.0; class = p.1 }) (λ p. eight p.0 ++ four p.1) (λ p. eight_fits p.0 × four_fits p.1) (then_at eight_at four_at) parent ParentFits
    (both_known eight eight_fits eight_at four four_fits four_at eight_known four_known) (λ e. (e.id, e.class))
    (λ p h. refl) (λ p h. record { id = h.0; class = h.1 }) (λ e h. refl) (λ e h. (h.id, h.class)) (λ e h. refl)

pub census_known : Known census CensusFits census_at
unfolding census census_at eight four
census_known =
    let list = list_known parent ParentFits parent_at parent_known in
    let inner = both_known eight eight_fits eight_at (listed parent) (ListFits ParentFits) (list_at parent_at) eight_known list in
    let whole = both_known eight eight_fits eight_at (λ p. eight p.0 ++ listed parent p.1) (λ p. eight_fits p.0 × ListFits ParentFits p.1) (then_at eight_at (list_at parent_at)) eight_known inner in
    made_known (λ p. record { living = p.0; values = p.1.0; parents = p.1.1 }) (λ p. eight p.0 ++ (eight p.1.0 ++ listed parent p.1.1)) (λ p. eight_fits p.0 × (eight_fits p.1.0 × ListFits ParentFits p.1.1))
    (then_at eight_at (then_at eight_at (list_at parent_at))) census CensusFits whole (λ c. (c.living, (c.values, c.parents)))
    (λ p h. refl) (λ p h. record { living = h.0; values = h.1.0; parents = h.1.1 }) (λ c h. refl) (λ c h. (h.living, (h.values, h.parents))) (λ c h. refl)

pub shown_known : (types : List (List Ty)) → Known shown (ShownFits (IsAgent types)) (shown_at types)
unfolding shown shown_at eight four
shown_known types =
    let list = list_known agent (IsAgent types) (agent_at types) (agent_known types) in
    let inner = both_known eight eight_fits eight_at (listed agent) (ListFits (IsAgent types)) (list_at (agent_at types)) eight_known list in
    let whole = both_known eight eight_fits eight_at (λ p. eight p.0 ++ listed agent p.1) (λ p. eight_fits p.0 × ListFits (IsAgent types) p.1) (then_at eight_at (list_at (agent_at types))) eight_known inner in
    made_known (λ p. record { tick = p.0; next = p.1.0; agents = p.1.1 }) (λ p. eight p.0 ++ (eight p.1.0 ++ listed agent p.1.1)) (λ p. eight_fits p.0 × (eight_fits p.1.0 × ListFits (IsAgent types) p.1.1))
    (then_at eight_at (then_at eight_at (list_at (agent_at types)))) shown (ShownFits (IsAgent types)) whole (λ s. (s.tick, (s.next, s.agents)))
    (λ p h. refl) (λ p h. record { tick = h.0; next = h.1.0; agents = h.1.1 }) (λ s h. refl) (λ s h. (h.tick, (h.next, h.agents))) (λ s h. refl)

-- ---- faults

-- what stands for itself
constant : {A : Type 0} (c : A) (s : A → List ℕ) (form : ℕ) (bytes : List ℕ) (x : A) (rest : List ℕ) → s c ≡ form ∷ [] → IsBytes (form ∷ bytes) → some {A = A × List ℕ} (c, bytes) ≡ Some (x, rest)
    → Takes (form ∷ bytes) (s x) rest
constant {A} c s form bytes x rest same fits e =
    subst (λ (z : A × List ℕ). Takes (form ∷ bytes) (s z.0) z.1) (some_is (c, bytes) (x, rest) e)
    (record { parts = ap (λ (y : List ℕ). y ++ bytes) (sym same); rest_fits = IsBytes-rest form bytes fits })

phase_takes : (bytes : List ℕ) (p : Phase) (rest : List ℕ) → IsBytes bytes → phase_at bytes ≡ Some (p, rest) → Takes bytes (phase p) rest × Unit {0}
unfolding phase_at phase
phase_takes (zero ∷ bytes) p rest fits e = (constant Query phase 0 bytes p rest refl fits e, tt)
phase_takes (suc zero ∷ bytes) p rest fits e = (constant Update phase 1 bytes p rest refl fits e, tt)
phase_takes (suc (suc zero) ∷ bytes) p rest fits e = (constant Birth phase 2 bytes p rest refl fits e, tt)
phase_takes _ p rest fits e = absurd cc

phase_again : (p : Phase) (rest : List ℕ) → Unit {0} → phase_at (phase p ++ rest) ≡ Some (p, rest)
unfolding phase_at phase
phase_again Query rest fits = refl
phase_again _ rest fits = refl

phase_known : Known phase NoRange phase_at
phase_known = record { takes = phase_takes; again = phase_again }

kind_takes : (bytes : List ℕ) (k : Kind) (rest : List ℕ) → IsBytes bytes → kind_at bytes ≡ Some (k, rest) → Takes bytes (kind k) rest × Unit {0}
unfolding kind_at kind
kind_takes (suc zero ∷ bytes) k rest fits e = (constant Overflow kind 1 bytes k rest refl fits e, tt)
kind_takes (suc (suc zero) ∷ bytes) k rest fits e = (constant DivZero kind 2 bytes k rest refl fits e, tt)
kind_takes (suc (suc (suc zero)) ∷ bytes) k rest fits e = (constant NegRoot kind 3 bytes k rest refl fits e, tt)
kind_takes (suc (suc (suc (suc zero))) ∷ bytes) k rest fits e = (constant TooMany kind 4 bytes k rest refl fits e, tt)
kind_takes _ k rest fits e = absurd cc

kind_again : (k : Kind) (rest : List ℕ) → Unit {0} → kind_at (kind k ++ rest) ≡ Some (k, rest)
unfolding kind_at kind
kind_again Overflow rest fits = refl
kind_again _ rest fits = refl

kind_known : Known kind NoRange kind_at
kind_known = record { takes = kind_takes; again = kind_again }

seven : (a b c d e f g : List ℕ) → a ++ b ++ c ++ d ++ e ++ f ++ g ≡ a ++ (b ++ (c ++ (d ++ (e ++ (f ++ g)))))
seven a b c d e f g = simp append_assoc

fault_known : Known fault FaultFits fault_at
unfolding fault fault_at
fault_known =
    let k6 = both_known optional OptionFits optional_at kind NoRange kind_at optional_known kind_known in
    let k5 = both_known optional OptionFits optional_at (λ p. optional p.0 ++ kind p.1) (λ p. OptionFits p.0 × NoRange p.1) (then_at optional_at kind_at) optional_known k6 in
    let k4 = both_known four four_fits four_at (λ p. optional p.0 ++ (optional p.1.0 ++ kind p.1.1)) (λ p. OptionFits p.0 × (OptionFits p.1.0 × NoRange p.1.1)) (then_at optional_at (then_at optional_at kind_at)) four_known k5 in
    let k3 = both_known eight eight_fits eight_at (λ p. four p.0 ++ (optional p.1.0 ++ (optional p.1.1.0 ++ kind p.1.1.1))) (λ p. four_fits p.0 × (OptionFits p.1.0 × (OptionFits p.1.1.0 × NoRange p.1.1.1)))
    (then_at four_at (then_at optional_at (then_at optional_at kind_at))) eight_known k4 in
    let k2 = both_known phase NoRange phase_at (λ p. eight p.0 ++ (four p.1.0 ++ (optional p.1.1.0 ++ (optional p.1.1.1.0 ++ kind p.1.1.1.1))))
    (λ p. eight_fits p.0 × (four_fits p.1.0 × (OptionFits p.1.1.0 × (OptionFits p.1.1.1.0 × NoRange p.1.1.1.1)))) (then_at eight_at (then_at four_at (then_at optional_at (then_at optional_at kind_at)))) phase_known k3 in
    let k1 = both_known eight eight_fits eight_at (λ p. phase p.0 ++ (eight p.1.0 ++ (four p.1.1.0 ++ (optional p.1.1.1.0 ++ (optional p.1.1.1.1.0 ++ kind p.1.1.1.1.1)))))
    (λ p. NoRange p.0 × (eight_fits p.1.0 × (four_fits p.1.1.0 × (OptionFits p.1.1.1.0 × (OptionFits p.1.1.1.1.0 × NoRange p.1.1.1.1.1)))))
    (then_at phase_at (then_at eight_at (then_at four_at (then_at optional_at (then_at optional_at kind_at))))) eight_known k2 in
    made_known
    (λ p. record { tick = p.0; phase = p.1.0; agent = p.1.1.0; site = p.1.1.1.0; outer = p.1.1.1.1.0; inner = p.1.1.1.1.1.0; kind = p.1.1.1.1.1.1 })
    (λ p. eight p.0 ++ (phase p.1.0 ++ (eight p.1.1.0 ++ (four p.1.1.1.0 ++ (optional p.1.1.1.1.0 ++ (optional p.1.1.1.1.1.0 ++ kind p.1.1.1.1.1.1))))))
    (λ p. eight_fits p.0 × (NoRange p.1.0 × (eight_fits p.1.1.0 × (four_fits p.1.1.1.0 × (OptionFits p.1.1.1.1.0 × (OptionFits p.1.1.1.1.1.0 × NoRange p.1.1.1.1.1.1))))))
    (then_at eight_at (then_at phase_at (then_at eight_at (then_at four_at (then_at optional_at (then_at optional_at kind_at))))))
    fault FaultFits k1
    (λ f. (f.tick, (f.phase, (f.agent, (f.site, (f.outer, (f.inner, f.kind)))))))
    (λ p h. seven (eight p.0) (phase p.1.0) (eight p.1.1.0) (four p.1.1.1.0) (optional p.1.1.1.1.0) (optional p.1.1.1.1.1.0) (kind p.1.1.1.1.1.1))
    (λ p h. record { tick = h.0; agent = h.1.1.0; site = h.1.1.1.0; outer = h.1.1.1.1.0; inner = h.1.1.1.1.1.0 })
    (λ f h. seven (eight f.tick) (phase f.phase) (eight f.agent) (four f.site) (optional f.outer) (optional f.inner) (kind f.kind))
    (λ f h. (h.tick, (tt, (h.agent, (h.site, (h.outer, (h.inner, tt)))))))
    (λ f h. refl)

cause_takes : (bytes : List ℕ) (c : Cause) (rest : List ℕ) → IsBytes bytes → cause_at bytes ≡ Some (c, rest) → Takes bytes (cause_bytes c) rest × CauseFits c
unfolding cause_at cause_bytes
cause_takes (zero ∷ bytes) c rest fits e =
    made_takes cause.Fault fault FaultFits fault_at cause_bytes CauseFits fault_known (0 ∷ []) (λ f h. refl) (λ f h. h) bytes c rest (IsBytes-rest 0 bytes fits) e
cause_takes (suc zero ∷ bytes) c rest fits e =
    subst (λ (z : Cause × List ℕ). Takes (1 ∷ bytes) (cause_bytes z.0) z.1 × CauseFits z.0) (some_is (cause.NoMemory, bytes) (c, rest) e) (record { parts = refl; rest_fits = IsBytes-rest 1 bytes fits }, tt)
cause_takes (suc (suc zero) ∷ bytes) c rest fits e =
    subst (λ (z : Cause × List ℕ). Takes (2 ∷ bytes) (cause_bytes z.0) z.1 × CauseFits z.0) (some_is (cause.Closed, bytes) (c, rest) e) (record { parts = refl; rest_fits = IsBytes-rest 2 bytes fits }, tt)
cause_takes _ c rest fits e = absurd cc

cause_again : (c : Cause) (rest : List ℕ) → CauseFits c → cause_at (cause_bytes c ++ rest) ≡ Some (c, rest)
unfolding cause_at cause_bytes
cause_again (cause.Fault f) rest fits = rw (fault_known.again f rest fits) refl
cause_again _ rest fits = refl

pub cause_known : Known cause_bytes CauseFits cause_at
cause_known = record { takes = cause_takes; again = cause_again }
