-- The order of faults is total, and the least fault is the least.
use Rattle.std.proofs.Common.{◌≡◌, ◌∙◌, refl, sym, ap, subst, ℕ, zero, suc, List, [], ◌∷◌, length, Bool, true, false, Option, Some, None, arith}
use Rattle.std.specs.Prelude.{◌↔◌, IsTrue, if◌then◌else◌}
use Rattle.std.specs.declared.cmp.Ordering.{Ordering}
use Rattle.std.specs.declared.cmp.Ordering.TheVariants.{Less, Equal, Greater}
use Rattle.std.specs.Ordering.{nat_cmp, ordering_then, ordering_reverse, is_lt}
use Rattle.std.specs.Option.{option_cmp}
use Rattle.std.specs.List.{All, Contains, fold}
use Rattle.std.specs.List.Sorted.{IsPermutation}
use Rattle.std.specs.Cmp.{IsTotalOrder, IsStrictWeakOrder, on_total}
use Rattle.std.specs.Cmp.Lexicographic.{options_total}
use Rattle.std.proofs.lemmas.Cmp.{nat_cmp_total, then_total, tied_itself}
use Rattle.std.proofs.lemmas.Map.Lookups.{exact_unsigned}
use Rattle.std.proofs.lemmas.List.MinMax.{ranks_by}
use Rattle.std.proofs.lemmas.List.Elements.{All-nil, All-cons, All-head, All-tail, All-contains, Contains-append_left, Contains-append_right, Contains-append_cases}
use Rattle.std.proofs.lemmas.List.Sorted.{All-permutation, Contains-permutation, length_permutation}
use mathlib.Core.Logic.{⊎_elim}
use Rattle.brace_num.specs.declared.kinds.Kind.{Kind}
use Rattle.brace_num.specs.declared.kinds.Kind.TheVariants.{Overflow, DivZero, NegRoot, TooMany}
use Rattle.brace_model.specs.declared.fault.Phase.{Phase}
use Rattle.brace_model.specs.declared.fault.Phase.TheVariants.{Query, Update, Birth}
use Rattle.brace_model.specs.declared.fault.Fault.{Fault}
use Rattle.brace_model.specs.FaultOrder.{phase_rank, kind_rank, compared, comes_before, earlier, least}

compared_total : IsTotalOrder compared
compared_total =
    then_total (on_total (λ (f : Fault). f.tick) nat_cmp_total) (
    then_total (on_total (λ (f : Fault). phase_rank f.phase) nat_cmp_total) (
    then_total (on_total (λ (f : Fault). f.agent) nat_cmp_total) (
    then_total (on_total (λ (f : Fault). f.site) nat_cmp_total) (
    then_total (on_total (λ (f : Fault). f.outer) (options_total nat_cmp_total)) (
    then_total (on_total (λ (f : Fault). f.inner) (options_total nat_cmp_total))
    (on_total (λ (f : Fault). kind_rank f.kind) nat_cmp_total))))))

ranks : IsStrictWeakOrder comes_before
ranks = ranks_by compared_total (λ (f : Fault). f)

pub before_itself : (a : Fault) → comes_before a a ≡ false
before_itself a = ap is_lt (tied_itself compared_total a)

less : (r : Ordering) → IsTrue (is_lt r) → r ≡ Less
less Less t = refl
less _ t = absurd (cc)

pub before_in_turn : (a b c : Fault) → IsTrue (comes_before a b) → IsTrue (comes_before b c) → IsTrue (comes_before a c)
before_in_turn a b c p q = ap is_lt (compared_total.trans a b c (less (compared a b) p) (less (compared b c) q))

-- two parts of a comparison that ends equal are equal
both_equal : (p q : Ordering) → ordering_then p q ≡ Equal → (p ≡ Equal) × (q ≡ Equal)
both_equal Equal q e = (refl, e)
both_equal _ q e = absurd (cc)

equal_options : (p q : Option ℕ) → option_cmp nat_cmp p q ≡ Equal → p ≡ q
equal_options None None e = refl
equal_options None (Some y) e = absurd (cc)
equal_options (Some x) None e = absurd (cc)
equal_options (Some x) (Some y) e = ap Some (exact_unsigned x y e)

-- a phase and a kind are told by their ranks
abbrev phase_of : ℕ → Phase
phase_of zero = Query
phase_of (suc zero) = Update
phase_of (suc (suc n)) = Birth

phase_back : (p : Phase) → phase_of (phase_rank p) ≡ p
phase_back Query = refl
phase_back _ = refl

equal_phases : (p q : Phase) → phase_rank p ≡ phase_rank q → p ≡ q
equal_phases p q e = sym (phase_back p) ∙ ap phase_of e ∙ phase_back q

abbrev kind_of : ℕ → Kind
kind_of zero = Overflow
kind_of (suc zero) = DivZero
kind_of (suc (suc zero)) = NegRoot
kind_of (suc (suc (suc n))) = TooMany

kind_back : (k : Kind) → kind_of (kind_rank k) ≡ k
kind_back Overflow = refl
kind_back _ = refl

equal_kinds : (p q : Kind) → kind_rank p ≡ kind_rank q → p ≡ q
equal_kinds p q e = sym (kind_back p) ∙ ap kind_of e ∙ kind_back q

equal_faults : (a b : Fault) → compared a b ≡ Equal → a ≡ b
equal_faults a b e =
    let (tick, rest) = both_equal _ _ e in
    let (phase, rest) = both_equal _ _ rest in
    let (agent, rest) = both_equal _ _ rest in
    let (site, rest) = both_equal _ _ rest in
    let (outer, rest) = both_equal _ _ rest in
    let (inner, kind) = both_equal _ _ rest in
    λ j. record {
      tick = exact_unsigned a.tick b.tick tick j;
      phase = equal_phases a.phase b.phase (exact_unsigned _ _ phase) j;
      agent = exact_unsigned a.agent b.agent agent j;
      site = exact_unsigned a.site b.site site j;
      outer = equal_options a.outer b.outer outer j;
      inner = equal_options a.inner b.inner inner j;
      kind = equal_kinds a.kind b.kind (exact_unsigned _ _ kind) j;
    }

neither : (r s : Ordering) → r ≡ ordering_reverse s → is_lt r ≡ false → is_lt s ≡ false → r ≡ Equal
neither Less s e p q = absurd (cc)
neither Equal s e p q = refl
neither Greater Less e p q = absurd (cc)
neither Greater Equal e p q = absurd (cc)
neither Greater Greater e p q = absurd (cc)

pub one_before : (a b : Fault) → comes_before a b ≡ false → comes_before b a ≡ false → a ≡ b
one_before a b p q = equal_faults a b (neither (compared a b) (compared b a) (compared_total.antisymm a b) p q)

-- neither of two faults comes before the earlier of them
first_not_before : (a b : Fault) (later : Bool) → comes_before b a ≡ later → comes_before a (if later then b else a) ≡ false
first_not_before a b true e = ranks.one_way b a e
first_not_before a b false e = before_itself a

second_not_before : (a b : Fault) (later : Bool) → comes_before b a ≡ later → comes_before b (if later then b else a) ≡ false
second_not_before a b true e = before_itself b
second_not_before a b false e = e

-- the earlier of two faults is one of them
is_among : (a b : Fault) (rest : List Fault) (f : Fault) (later : Bool) → Contains ((if later then b else a) ∷ rest) f → Contains (a ∷ b ∷ rest) f
is_among a b rest f true h = Contains-append_right (a ∷ []) (b ∷ rest) f h
is_among a b rest f false h =
    ⊎_elim (λ (one : Contains (a ∷ []) f). Contains-append_left (a ∷ []) (b ∷ rest) f one)
    (λ (more : Contains rest f). Contains-append_right (a ∷ b ∷ []) rest f more)
    (Contains-append_cases (a ∷ []) rest f h)

abbrev NoneBefore : List Fault → Fault → Type 0
NoneBefore faults f = All (λ g. comes_before g f ≡ false) faults

reached : (a : Fault) (rest : List Fault) → Contains (a ∷ rest) (fold earlier a rest)
reached a [] = (0, omega arith, refl)
reached a (b ∷ rest) = is_among a b rest _ (comes_before b a) (reached (earlier a b) rest)

lowest : (a : Fault) (rest : List Fault) → NoneBefore (a ∷ rest) (fold earlier a rest)
lowest a [] = All-cons (λ (g : Fault). comes_before g a ≡ false) a [] (before_itself a) (All-nil (λ (g : Fault). comes_before g a ≡ false))
lowest a (b ∷ rest) =
    let m = fold earlier (earlier a b) rest in
    let P = λ (g : Fault). comes_before g m ≡ false in
    let all = lowest (earlier a b) rest in
    let here : comes_before (earlier a b) m ≡ false = All-head P (earlier a b) rest all in
    All-cons P a (b ∷ rest) (ranks.chain a (earlier a b) m (first_not_before a b (comes_before b a) refl) here)
    (All-cons P b rest (ranks.chain b (earlier a b) m (second_not_before a b (comes_before b a) refl) here) (All-tail P (earlier a b) rest all))

unique : (faults : List Fault) (f g : Fault) → Contains faults f → NoneBefore faults f → Contains faults g → NoneBefore faults g → f ≡ g
unique faults f g in_f low_f in_g low_g = one_before f g (All-contains (λ h. comes_before h g ≡ false) faults f low_g in_f) (All-contains (λ h. comes_before h f ≡ false) faults g low_f in_g)

same_fault : (f g : Fault) → Some f ≡ Some g → f ≡ g
same_fault f g e = cc

least_so : (faults : List Fault) (f : Fault) → least faults ≡ Some f → Contains faults f × NoneBefore faults f
least_so [] f e = absurd (cc)
least_so (a ∷ rest) f e = subst (λ g. Contains (a ∷ rest) g × NoneBefore (a ∷ rest) g) (same_fault (fold earlier a rest) f e) (reached a rest, lowest a rest)

least_from : (faults : List Fault) (f : Fault) → Contains faults f → NoneBefore faults f → least faults ≡ Some f
least_from [] f (k, below, is) low = absurd (omega arith)
least_from (a ∷ rest) f h low = ap Some (unique (a ∷ rest) (fold earlier a rest) f (reached a rest) (lowest a rest) h low)

pub least_is : (faults : List Fault) (f : Fault) → least faults ≡ Some f ↔ (Contains faults f × NoneBefore faults f)
least_is faults f = (least_so faults f, λ h. least_from faults f h.0 h.1)

no_least : (faults : List Fault) → least faults ≡ None → faults ≡ []
no_least [] e = refl
no_least (a ∷ rest) e = absurd (cc)

pub least_none : (faults : List Fault) → least faults ≡ None ↔ faults ≡ []
least_none faults = (no_least faults, λ e. ap least e)

no_faults : (faults : List Fault) → length faults ≡ 0 → faults ≡ []
no_faults [] e = refl
no_faults (a ∷ rest) e = absurd (omega arith)

by_least : (faults others : List Fault) → IsPermutation faults others → (r : Option Fault) → least faults ≡ r → least others ≡ r
by_least faults others moved None e = ap least (no_faults others (length_permutation faults others moved ∙ ap length (no_least faults e)))
by_least faults others moved (Some f) e =
    let (among, low) = least_so faults f e in
    least_from others f (Contains-permutation faults others f moved among) (All-permutation (λ (g : Fault). comes_before g f ≡ false) faults others moved low)

pub least_any_order : (faults others : List Fault) → IsPermutation faults others → least faults ≡ least others
least_any_order faults others moved = sym (by_least faults others moved (least faults) refl)
