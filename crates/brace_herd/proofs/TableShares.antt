-- The shares of agents, one effect and one agent after another.
use Rattle.std.proofs.Common.{◌≡◌, ◌∙◌, refl, sym, ap, ap₂, subst, ℕ, zero, suc, ◌+◌, ◌<◌, ◌≤◌, min, ℤ, pos, ◌+ℤ◌, ◌<ℤ◌, ◌≤ℤ◌, List, [], ◌∷◌, ◌++◌, length, take, get_or, map, flat_map, Bool, true, false, cond, Option, Some, None, IfSome, arith, append_assoc, append-nil}
use Rattle.std.proofs.lemmas.Int.{ints}
use Rattle.std.proofs.lemmas.Grind.{flat_map-append, common_steps}
use Rattle.std.proofs.lemmas.List.Elements.{filter-append}
use Rattle.brace_model.specs.declared.program.Class.{Class}
use Rattle.brace_model.specs.declared.program.Effect.{Effect}
use Rattle.brace_model.specs.declared.program.Program.{Program}
use Rattle.brace_model.specs.declared.program.Value.{Value}
use Rattle.brace_model.specs.declared.world.Agent.{Agent}
use Rattle.brace_model.specs.World.{class_of}
use Rattle.brace_model.specs.Query.{Saying}
use Rattle.brace_model.specs.Total.{total_of, said_to, totals_from}
use Rattle.brace_comb.proofs.Joins.{fold-counted}
use Rattle.brace_eval.specs.Heard.{counted, counting, effects_in, row_of}
use Rattle.brace_eval.proofs.CountLemmas.{counted-effects}
use Rattle.brace_eval.proofs.TableLemmas.{row-length}
use Rattle.std.proofs.lemmas.List.{length-map}
use Rattle.brace_cuts.specs.declared.space.Cuts.{Cuts}
use Rattle.brace_pieces.specs.Owned.{owns, owned}
use Rattle.brace_pieces.specs.Right.{Share, share_unless_silent, shares_from, shares_to}
use Rattle.brace_herd.specs.inner.Tables.{share_with, shares_in}
use Rattle.brace_num.proofs.Lists.{take_next}

shares_snoc : (n id : ℕ) (effects : List Effect) (e : Effect) (said : List Saying)
    → shares_from n id (effects ++ e ∷ []) said ≡ shares_from n id effects said ++ share_unless_silent id (n + length effects) e (said_to id (n + length effects) said)
shares_snoc n id [] e said =
    let here : n ≡ n + 0 = omega arith in
    append-nil (share_unless_silent id n e (said_to id n said)) ∙ ap (λ (m : ℕ). share_unless_silent id m e (said_to id m said)) here
shares_snoc n id (f ∷ effects) e said =
    let here : n + 1 + length effects ≡ n + suc (length effects) = omega arith in
    ap (λ (l : List Share). share_unless_silent id n f (said_to id n said) ++ l)
    (shares_snoc (n + 1) id effects e said ∙ ap (λ (m : ℕ). shares_from (n + 1) id effects said ++ share_unless_silent id m e (said_to id m said)) here)
    ∙ sym (append_assoc (share_unless_silent id n f (said_to id n said)) (shares_from (n + 1) id effects said) (share_unless_silent id (n + suc (length effects)) e (said_to id (n + suc (length effects)) said)))

-- the shares of one effect more
pub more_shares : (id : ℕ) (effects : List Effect) (said : List Saying) (i : ℕ) (e : Effect) → i < length effects → e ≡ get_or effects i e
    → shares_from 0 id (take (i + 1) effects) said ≡ shares_from 0 id (take i effects) said ++ share_unless_silent id i e (said_to id i said)
more_shares id effects said i e le is =
    let long : length (take i effects) ≡ i = grind (arith, le, common_steps) in
    let at : 0 + length (take i effects) ≡ i = omega (arith, long) in
    ap (λ (l : List Effect). shares_from 0 id l said) (take_next effects i e le is)
    ∙ shares_snoc 0 id (take i effects) e said
    ∙ ap (λ (m : ℕ). shares_from 0 id (take i effects) said ++ share_unless_silent id m e (said_to id m said)) at

-- a total stands in its place of the totals
pub total_at : (n id : ℕ) (effects : List Effect) (said : List Saying) (i : ℕ) (e : Effect) (t : ℤ) → i < length effects → e ≡ get_or effects i e
    → get_or (totals_from n id effects said) i t ≡ total_of e.comb (said_to id (n + i) said)
total_at n id [] said i e t le is = absurd (omega (arith, le))
total_at n id (f ∷ effects) said zero e t le is =
    let here : n ≡ n + 0 = omega arith in
    ap (λ (g : Effect). total_of g.comb (said_to id n said)) (sym is) ∙ ap (λ (m : ℕ). total_of e.comb (said_to id m said)) here
total_at n id (f ∷ effects) said (suc i) e t le is =
    let here : suc n + i ≡ n + suc i = omega arith in
    total_at (suc n) id effects said i e t (omega (arith, le)) is ∙ ap (λ (m : ℕ). total_of e.comb (said_to id m said)) here

-- and a count
pub count_at : (n id : ℕ) (effects : List Effect) (said : List Saying) (i : ℕ) (t : ℤ) → i < length effects
    → get_or (totals_from n id (map counted effects) said) i t ≡ pos (length (said_to id (n + i) said))
count_at n id [] said i t le = absurd (omega (arith, le))
count_at n id (f ∷ effects) said zero t le =
    let here : n ≡ n + 0 = omega arith in
    let all = fold-counted (pos 0) (said_to id n said) in
    let plain : pos 0 +ℤ pos (length (said_to id n said)) ≡ pos (length (said_to id n said)) = omega (arith, ints) in
    all ∙ plain ∙ ap (λ (m : ℕ). pos (length (said_to id m said))) here
count_at n id (f ∷ effects) said (suc i) t le =
    let here : suc n + i ≡ n + suc i = omega arith in
    count_at (suc n) id effects said i t (omega (arith, le)) ∙ ap (λ (m : ℕ). pos (length (said_to id m said))) here

-- what stands in the tables for an effect of an agent
pub record Reads (id : ℕ) (effects : List Effect) (said : List Saying) (i : ℕ) (e : Effect) (number count : ℤ) : Type 0 where
  pub number_is : number ≡ total_of e.comb (said_to id i said)
  pub count_is : count ≡ pos (length (said_to id i said))

pub reads : (id : ℕ) (effects : List Effect) (said : List Saying) (totals counts : List ℤ) (i : ℕ) (e : Effect) (number count : ℤ)
    → i < length effects → e ≡ get_or effects i e → (d f : ℤ) → number ≡ get_or totals i d → count ≡ get_or counts i f
    → totals ≡ totals_from 0 id effects said → counts ≡ totals_from 0 id (map counted effects) said
    → Reads id effects said i e number count
reads id effects said totals counts i e number count le is d f at many all numbers =
    let plain : 0 + i ≡ i = omega arith in
    record {
      number_is = at ∙ ap (λ (l : List ℤ). get_or l i d) all ∙ total_at 0 id effects said i e d le is
          ∙ ap (λ (m : ℕ). total_of e.comb (said_to id m said)) plain;
      count_is = many ∙ ap (λ (l : List ℤ). get_or l i f) numbers ∙ count_at 0 id effects said i f le
          ∙ ap (λ (m : ℕ). pos (length (said_to id m said))) plain;
    }

-- the share of an effect to which something is said
pub share_told : (id n : ℕ) (e : Effect) (values : List Value) (number count : ℤ)
    → number ≡ total_of e.comb values → count ≡ pos (length values) → 0 < length values
    → share_with id n e.comb number count ∷ [] ≡ share_unless_silent id n e values
share_told id n e [] number count total many some = absurd (omega (arith, some))
share_told id n e (v ∷ vs) number count total many some =
    ap₂ (λ x k. share_with id n e.comb x k ∷ []) total many

-- nothing is said to it
pub share_silent : (id n : ℕ) (e : Effect) (values : List Value) → length values ≡ 0 → [] ≡ share_unless_silent id n e values
share_silent id n e [] none = refl
share_silent id n e (v ∷ vs) none = absurd (omega (arith, none))

some_said : (n : ℕ) (count : ℤ) → count ≡ pos n → pos 0 <ℤ count → 0 < n
some_said n count is more = omega (arith, ints, is, more)

none_said : (n : ℕ) (count : ℤ) → count ≡ pos n → count ≤ℤ pos 0 → n ≡ 0
none_said n count is less = omega (arith, ints, is, less)

module _ (id : ℕ) (effects : List Effect) (said : List Saying) (i : ℕ) (e : Effect) (number count : ℤ) (le : i < length effects)
    (is : e ≡ get_or effects i e) (read : Reads id effects said i e number count) (before so_far : List Share)
    (so : so_far ≡ before ++ shares_from 0 id (take i effects) said) where
  grown : (one : List Share) → one ≡ share_unless_silent id i e (said_to id i said)
      → so_far ++ one ≡ before ++ shares_from 0 id (take (i + 1) effects) said
  grown one one_is =
      ap₂ (λ xs ys. xs ++ ys) so one_is
      ∙ append_assoc before (shares_from 0 id (take i effects) said) (share_unless_silent id i e (said_to id i said))
      ∙ ap (λ (l : List Share). before ++ l) (sym (more_shares id effects said i e le is))

  -- something is said to an effect
  pub tells : (share : Share) → share ≡ share_with id i e.comb number count → pos 0 <ℤ count
      → so_far ++ share ∷ [] ≡ before ++ shares_from 0 id (take (i + 1) effects) said
  tells share told more =
      grown (share ∷ [])
      (ap (λ x. x ∷ []) told
      ∙ share_told id i e (said_to id i said) number count read.number_is read.count_is
      (some_said (length (said_to id i said)) count read.count_is more))

  -- nothing is said to it
  pub silent : count ≤ℤ pos 0 → so_far ≡ before ++ shares_from 0 id (take (i + 1) effects) said
  silent less =
      sym (append-nil so_far)
      ∙ grown [] (share_silent id i e (said_to id i said) (none_said (length (said_to id i said)) count read.count_is less))

-- the shares of an agent are those of the effects of its class
pub shares_are : (said : List Saying) (a : Agent) (o : Option Class) → shares_from 0 a.id (effects_in o) said ≡ shares_to said a o
shares_are said a None = refl
shares_are said a (Some class) = refl

module _ (program : Program) (cuts : Cuts) (to : ℕ) where
  owned_more : (agents : List Agent) (i : ℕ) (a : Agent) (b : Bool) → i < length agents → a ≡ get_or agents i a → owns program cuts to a ≡ b
      → owned program cuts to (take (i + 1) agents) ≡ owned program cuts to (take i agents) ++ cond b (a ∷ []) []
  owned_more agents i a b le is test =
      ap (owned program cuts to) (take_next agents i a le is)
      ∙ filter-append (owns program cuts to) (take i agents) (a ∷ [])
      ∙ ap (λ (c : Bool). owned program cuts to (take i agents) ++ cond c (a ∷ []) []) test

  -- an agent that the part owns
  pub owns_one : (agents : List Agent) (i : ℕ) (a : Agent) → i < length agents → a ≡ get_or agents i a → owns program cuts to a ≡ true
      → owned program cuts to (take (i + 1) agents) ≡ owned program cuts to (take i agents) ++ a ∷ []
  owns_one agents i a le is test = owned_more agents i a true le is test

  -- one that it does not own
  pub owns_none : (agents : List Agent) (i : ℕ) (a : Agent) → i < length agents → a ≡ get_or agents i a → owns program cuts to a ≡ false
      → owned program cuts to (take (i + 1) agents) ≡ owned program cuts to (take i agents)
  owns_none agents i a le is test = owned_more agents i a false le is test ∙ append-nil _

  pub shares_more : (agents : List Agent) (said : List Saying) (i : ℕ) (a : Agent) → i < length agents → a ≡ get_or agents i a → owns program cuts to a ≡ true
      → shares_in program cuts to (take (i + 1) agents) said
      ≡ shares_in program cuts to (take i agents) said ++ shares_from 0 a.id (effects_in (class_of program a)) said
  shares_more agents said i a le is test =
      let each : Agent → List Share = λ b. shares_to said b (class_of program b) in
      ap (flat_map each) (owns_one agents i a le is test)
      ∙ flat_map-append each (owned program cuts to (take i agents)) (a ∷ [])
      ∙ ap (λ (l : List Share). shares_in program cuts to (take i agents) said ++ l) (append-nil (each a) ∙ sym (shares_are said a (class_of program a)))

-- what is told of an agent, by its rows
pub agent_told : (program : Program) (said : List Saying) (b : Agent) (effects : List Effect) (totals counts : List ℤ) (before after : List Share)
    → effects ≡ effects_in (class_of program b) → totals ≡ row_of program said b → counts ≡ row_of (counting program) said b
    → (totals ≡ totals_from 0 b.id effects said → counts ≡ totals_from 0 b.id (map counted effects) said
    → after ≡ before ++ shares_from 0 b.id effects said)
    → after ≡ before ++ shares_from 0 b.id (effects_in (class_of program b)) said
agent_told program said b effects totals counts before after are all numbers tells =
    let counting_are : effects_in (class_of (counting program) b) ≡ map counted effects = counted-effects program b ∙ ap (map counted) (sym are) in
    tells (all ∙ ap (λ (l : List Effect). totals_from 0 b.id l said) (sym are))
    (numbers ∙ ap (λ (l : List Effect). totals_from 0 b.id l said) counting_are)
    ∙ ap (λ (l : List Effect). before ++ shares_from 0 b.id l said) are

pub shares_same : (program : Program) (cuts : Cuts) (to : ℕ) (agents : List Agent) (said : List Saying) (i : ℕ) (a : Agent) → i < length agents → a ≡ get_or agents i a
    → owns program cuts to a ≡ false → shares_in program cuts to (take (i + 1) agents) said ≡ shares_in program cuts to (take i agents) said
shares_same program cuts to agents said i a le is test =
    ap (flat_map (λ b. shares_to said b (class_of program b))) (owns_none program cuts to agents i a le is test)

-- where an agent's totals are as many as its effects, all are told
pub all_taken : (id : ℕ) (effects : List Effect) (said : List Saying) (totals counts : List ℤ) (i : ℕ)
    → totals ≡ totals_from 0 id effects said → counts ≡ totals_from 0 id (map counted effects) said
    → min (min (length effects) (length totals)) (length counts) ≤ i → take i effects ≡ effects
all_taken id effects said totals counts i all numbers le =
    let first : length totals ≡ length effects = ap length all ∙ row-length 0 id effects said in
    let second : length counts ≡ length effects = ap length numbers ∙ row-length 0 id (map counted effects) said ∙ length-map effects counted in
    let past : length effects ≤ i = omega (arith, first, second, le) in
    grind (arith, past, common_steps)

pub within_effects : (a b c i : ℕ) → i < min (min a b) c → i < a
within_effects a b c i le = omega (arith, le)

-- what holds of what may be there, where it is there
pub of_some : {A : Type 0} (o : Option A) (x : A) (P : A → Type 0) → o ≡ Some x → IfSome o P → P x
of_some {A = A} o x P is h = subst (λ (y : Option A). IfSome y P) is h

-- an element stands at each place of a list
pub item_there : {A : Type 0} (xs : List A) (i : ℕ) → i < length xs → (x : A) × (x ≡ get_or xs i x)
item_there [] i le = absurd (omega (arith, le))
item_there (x ∷ xs) zero le = (x, refl)
item_there (x ∷ xs) (suc i) le = item_there xs i (omega (arith, le))
