-- Sums that are joined to those of other rows.
use Rattle.std.proofs.Common.{◌≡◌, ◌∙◌, refl, sym, ap, ap₂, subst, ℕ, ◌+◌, ◌<◌, ℤ, Bool, true, false, cond, ◌&&◌, List, [], ◌∷◌, ◌++◌, append-nil, map, flat_map, length, take, get_or, set, Some, slice_get}
use Rattle.std.specs.Prelude.{◌==◌, nat_eq}
use Rattle.std.specs.List.{IsDistinct}
use Rattle.std.specs.List.Sorted.{IsPermutation}
use Rattle.std.proofs.lemmas.Bool.{and_parts, eqb-true}
use Rattle.std.proofs.lemmas.Grind.{flat_map-append}
use Rattle.std.proofs.lemmas.List.{map-append, take_more}
use Rattle.std.proofs.lemmas.List.Sorted.{IsPermutation-sym}
use Rattle.std.proofs.lemmas.Option.{get_or_from_slice_get, slice_get_within}
use Rattle.brace_num.proofs.Orders.{pairs_differ}
use Rattle.brace_model.specs.declared.program.Comb.{Comb}
use Rattle.brace_model.specs.declared.program.Effect.{Effect}
use Rattle.brace_model.specs.declared.program.Program.{Program}
use Rattle.brace_model.specs.declared.program.Value.{Value}
use Rattle.brace_model.specs.declared.world.Agent.{Agent}
use Rattle.brace_model.specs.World.{class_of, ids}
use Rattle.brace_model.specs.Query.{Saying}
use Rattle.brace_model.specs.Total.{said_to, total_of}
use Rattle.brace_comb.specs.Partials.{sayings_to}
use Rattle.brace_comb.proofs.Said.{said_to-append}
use Rattle.brace_eval.specs.Heard.{effects_in}
use Rattle.brace_fold.specs.declared.table.Sum.{Sum}
use Rattle.brace_fold.specs.declared.table.Table.{Table}
use Rattle.brace_fold.specs.Sums.{AreSummed, IsJoined, IsSum, sum_at}
use Rattle.brace_fold.specs.Hears.{Hears}
use Rattle.brace_fold.specs.inner.Joins.{said_of, to_effect}
use Rattle.brace_fold.specs.Asked.{by_row, no_agent}
use Rattle.brace_fold.proofs.Alikes.{alike-permuted, hears-alike}
use Rattle.brace_fold.proofs.Joinings.{one-is}
use Rattle.brace_fold.proofs.Summings.{hears-sum}
use Rattle.brace_fold.proofs.Taking.{AreApart}

-- ---- one sum

-- what is said to an effect, made of its values
sayings-back : (id n : ℕ) (more : List Saying)
    → sayings_to id n (said_to id n more) ≡ to_effect id n more
sayings-back id n [] = refl
sayings-back id n (s ∷ more) =
    by (sayings-back id n more) ((s.target == id) && (s.field == n)) refl
  where
    rest : List Saying
    rest = to_effect id n more

    made : Bool → List Saying
    made b = sayings_to id n (map (λ (x : Saying). x.value) (cond b (s ∷ rest) rest))

    kept : Bool → List Saying
    kept b = cond b (s ∷ rest) rest

    own : ((s.target == id) && (s.field == n)) ≡ true
        → ◌≡◌ {A = Saying} (record { target = id; field = n; value = s.value }) s
    own e =
        let parts = and_parts (s.target == id) (s.field == n) e in
        ap₂ (λ t f. let x : Saying = record { target = t; field = f; value = s.value } in x)
        (sym (eqb-true s.target id parts.0)) (sym (eqb-true s.field n parts.1))

    by : sayings_to id n (said_to id n more) ≡ rest → (b : Bool)
        → ((s.target == id) && (s.field == n)) ≡ b
        → sayings_to id n (said_to id n (s ∷ more)) ≡ to_effect id n (s ∷ more)
    by back true e = ap made e ∙ ap₂ (λ x l. x ∷ l) (own e) back ∙ sym (ap kept e)
    by back false e = ap made e ∙ back ∙ sym (ap kept e)

-- the sum of an effect of an agent, joined to that of its row in another table
pub sum-hears : (program : Program) (sorted agents : List Agent) (more : List Saying)
    (told before after : Table) (place row effect : ℕ) (a : Agent) (e : Effect) (comb : Comb)
    (sum : Sum) (number : ℤ) (count : ℕ) → IsDistinct nat_eq (ids agents)
    → slice_get sorted place ≡ Some a → slice_get agents row ≡ Some a
    → slice_get (effects_in (class_of program a)) effect ≡ Some e → e.comb ≡ comb
    → AreSummed program sorted more told → sum ≡ sum_at told effect place → 0 < sum.count
    → number ≡ sum.number → count ≡ sum.count
    → IsJoined comb effect row number count before after
    → Hears program agents (to_effect a.id effect more) before after
sum-hears program sorted agents more told before after place row effect a e comb sum number count
    apart found here has same are is some number_is count_is joined_is =
    let values : List Value = said_to a.id effect more in
    let theirs = are.sums place effect a e found has in
    let total : number ≡ total_of e.comb values =
    number_is ∙ ap (λ (s : Sum). s.number) is
    ∙ theirs.number (subst (λ (s : Sum). 0 < s.count) is some) in
    let many : count ≡ length values =
    count_is ∙ ap (λ (s : Sum). s.count) is ∙ theirs.many in
    subst (λ l. Hears program agents l before after) (sayings-back a.id effect more)
    (hears-sum program agents before after row effect count number a e values
    (pairs_differ (λ (x : Agent). x.id) agents apart) here has total many
    (subst (λ c. IsJoined c effect row number count before after) (sym same) joined_is))

-- ---- all sums

-- one row more of an order
pub order-more : (f : Agent → List Saying) (agents : List Agent) (order : List ℕ) (k row : ℕ)
    → slice_get order k ≡ Some row
    → flat_map f (by_row agents (take k order)) ++ f (get_or agents row no_agent)
    ≡ flat_map f (by_row agents (take (k + 1) order))
order-more f agents order k row read =
    let low = slice_get_within order k row read in
    let is : get_or order k 0 ≡ row = get_or_from_slice_get order k row 0 read in
    let x = get_or agents row no_agent in
    let next : by_row agents (take (k + 1) order) ≡ by_row agents (take k order) ++ x ∷ [] =
    ap (λ l. by_row agents l) (take_more order k 0 low ∙ ap (λ p. take k order ++ p ∷ []) is)
    ∙ map-append (λ p. get_or agents p no_agent) (take k order) (row ∷ []) in
    sym (ap (flat_map f) next ∙ flat_map-append f (by_row agents (take k order)) (x ∷ [])
    ∙ ap (λ l. flat_map f (by_row agents (take k order)) ++ l) (append-nil (f x)))

module _ (program : Program) (agents : List Agent) (more : List Saying) where
  -- all that was said to an agent
  told-all : AreApart agents → (row effect : ℕ) (x : Agent) (e : Effect)
      → slice_get agents row ≡ Some x → slice_get (effects_in (class_of program x)) effect ≡ Some e
      → said_to x.id effect (flat_map (said_of program more) agents) ≡ said_to x.id effect more
  told-all apart row effect x e got has =
      let is : get_or agents row x ≡ x = get_or_from_slice_get agents row x x got in
      let less = slice_get_within (effects_in (class_of program x)) effect e has in
      subst (λ (y : Agent). said_to y.id effect (flat_map (said_of program more) agents)
      ≡ said_to y.id effect more) is
      (one-is program more effect agents row x apart (slice_get_within agents row x got)
      (subst (λ (y : Agent). effect < length (effects_in (class_of program y))) (sym is) less))

  hears-joined : (before after : Table) → AreApart agents
      → Hears program agents (flat_map (said_of program more) agents) before after
      → Hears program agents more before after
  hears-joined before after apart h =
      let each = flat_map (said_of program more) agents in
      record {
        each = λ said is.
            let now = h.each said is in
            record {
              long = now.long;
              sums = λ row effect x e got has.
                  subst (λ l. IsSum e.comb l (sum_at after effect row))
                  (said_to-append x.id effect said each
                  ∙ ap (λ l. said_to x.id effect said ++ l) (told-all apart row effect x e got has)
                  ∙ sym (said_to-append x.id effect said more))
                  (now.sums row effect x e got has);
            };
      }

  -- what was said to each agent, in another order, is all that was said
  pub hears-all : (order : List ℕ) (before after : Table) → IsDistinct nat_eq (ids agents)
      → IsPermutation agents (by_row agents order)
      → Hears program agents (flat_map (said_of program more) (by_row agents order)) before after
      → Hears program agents more before after
  hears-all order before after apart perm h =
      hears-joined before after (pairs_differ (λ (x : Agent). x.id) agents apart)
      (hears-alike program agents _ _ before after
      (alike-permuted (said_of program more) (by_row agents order) agents
      (IsPermutation-sym _ _ perm)) h)
