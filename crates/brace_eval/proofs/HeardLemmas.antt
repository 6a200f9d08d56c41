-- What was heard after one saying more.
use Rattle.std.proofs.Common.{◌≡◌, ◌∙◌, sym, refl, ap, subst, ℕ, ◌+◌, ◌-◌, ◌^◌, ◌<◌, ℤ, pos, ◌+ℤ◌, List, [], ◌∷◌, ◌++◌, length, map, take, get_or, set, min, Some, None, arith}
use Rattle.std.specs.Prelude.{slice_get}
use Rattle.brace_model.specs.declared.program.Comb.TheVariants.{Count}
use Rattle.brace_model.specs.declared.program.Effect.{Effect}
use Rattle.brace_model.specs.declared.program.Program.{Program}
use Rattle.brace_model.specs.declared.fault.Fault.{Fault}
use Rattle.brace_model.specs.declared.world.Agent.{Agent}
use Rattle.brace_model.specs.World.{RisesById, ids, class_of, no_value}
use Rattle.brace_model.specs.Query.{Saying}
use Rattle.brace_model.specs.Total.{joined, totals_from}
use Rattle.brace_eval.specs.declared.heard.Heard.{Heard}
use Rattle.brace_eval.specs.Heard.{IsHeard, counted, counting, effects_in, row_of, table_of, said_by, faults_by}
use Rattle.brace_eval.proofs.CountLemmas.{counted-at, counted-effects, counts-long}
use Rattle.brace_eval.proofs.TableLemmas.{table-nobody, table-past, table-hit, table-room}

module _ (program : Program) (agents : List Agent) (said : List Saying) (faults : List Fault) (heard : Heard)
    (k : IsHeard program agents said faults heard) where
  module _ (s : Saying) where
    -- no agent has the id
    pub heard-nobody : ((j : ℕ) → j < length (ids agents) → get_or (ids agents) j 0 ≡ s.target → ⊥)
        → IsHeard program agents (said ++ s ∷ []) faults heard
    heard-nobody none = record {
      totals = k.totals ∙ sym (table-nobody program said s agents none);
      counts = k.counts ∙ sym (table-nobody (counting program) said s agents none);
      least = k.least;
      each_starts = k.each_starts;
      starts = k.starts;
    }

    -- the agent's class has no such effect
    pub heard-past : (i : ℕ) (d : Agent) → i < length agents → RisesById agents → get_or (ids agents) i 0 ≡ s.target
        → slice_get (effects_in (class_of program (get_or agents i d))) s.field ≡ None
        → IsHeard program agents (said ++ s ∷ []) faults heard
    heard-past i d le rises is none = record {
      totals = k.totals ∙ sym (table-past program said s agents i d le rises is none);
      counts = k.counts ∙ sym (table-past (counting program) said s agents i d le rises is
          (counted-at program (get_or agents i d) s.field None none));
      least = k.least;
      each_starts = k.each_starts;
      starts = k.starts;
    }

  -- where the total of an effect stands
  module _ (i : ℕ) (d : Agent) (le : i < length agents) (rises : RisesById agents) (field : ℕ) (e : Effect)
      (has : slice_get (effects_in (class_of program (get_or agents i d))) field ≡ Some e) where
    pub place-is : (at : ℕ) → at ≡ min (get_or heard.starts.items i 0 + field) (2 ^ 64 - 1)
        → at ≡ length (table_of program [] (take i agents)) + field
    place-is at is =
        let s : Saying = record { target = get_or (ids agents) i 0; field = field; value = no_value } in
        let first = k.starts i 0 (omega (arith, le, k.each_starts)) in
        let room = table-room program said s agents i d le rises refl e (length (table_of program [] (take i agents)) + field) has refl in
        let len : length heard.totals.items ≡ length (table_of program said agents) = ap length k.totals in
        let small = heard.totals.small in
        grind (arith, room, len, is, first, heard.totals.ok, small)

    pub counts-place-is : (at : ℕ) → at ≡ length (table_of program [] (take i agents)) + field
        → at ≡ length (table_of (counting program) [] (take i agents)) + field
    counts-place-is at is = is ∙ ap (λ (n : ℕ). n + field) (sym (counts-long program [] (take i agents)))

-- one more value was joined to the total of its effect
pub heard-hit : (program : Program) (agents : List Agent) (said : List Saying) (faults : List Fault) (before after : Heard) (s : Saying)
    (i : ℕ) (d : Agent) (e : Effect) (at : ℕ) → RisesById agents → i < length agents → get_or (ids agents) i 0 ≡ s.target
    → slice_get (effects_in (class_of program (get_or agents i d))) s.field ≡ Some e
    → at ≡ min (get_or before.starts.items i 0 + s.field) (2 ^ 64 - 1)
    → after.totals.items ≡ set before.totals.items at (joined e.comb (get_or before.totals.items at (pos 0)) s.value)
    → after.counts.items ≡ set before.counts.items at (get_or before.counts.items at (pos 0) +ℤ pos 1)
    → after.starts ≡ before.starts → after.least ≡ before.least
    → IsHeard program agents said faults before → IsHeard program agents (said ++ s ∷ []) faults after
heard-hit program agents said faults before after s i d e at rises le is has at_is totals counts starts least k =
    let a = get_or agents i d in
    let stands = place-is program agents said faults before k i d le rises s.field e has at at_is in
    let stands_too = counts-place-is program agents said faults before k i d le rises s.field e has at stands in
    let has_too = counted-at program a s.field (Some e) has in
    record {
      totals = totals
          ∙ ap (λ (l : List ℤ). set l at (joined e.comb (get_or l at (pos 0)) s.value)) k.totals
          ∙ sym (table-hit program said s agents i d le rises is e at has stands);
      counts = counts
          ∙ ap (λ (l : List ℤ). set l at (joined Count (get_or l at (pos 0)) s.value)) k.counts
          ∙ sym (table-hit (counting program) said s agents i d le rises is (counted e) at has_too stands_too);
      least = least ∙ k.least;
      each_starts = ap (λ v. length v.items) starts ∙ k.each_starts;
      starts = λ j n within. subst (λ (l : List ℕ). get_or l j n ≡ length (table_of program [] (take j agents)))
          (sym (ap (λ v. v.items) starts)) (k.starts j n (omega (arith, within, ap (λ v. length v.items) starts)));
    }

-- what was heard grows by what some agents ask and say
abbrev Grows : Program → List Agent → ℕ → ℕ → List Agent → List Saying → List Fault → Heard → Heard → Type 0
Grows program agents seed tick asking said faults before after =
    IsHeard program agents said faults before
    → IsHeard program agents (said ++ said_by program seed tick agents asking) (faults ++ faults_by program seed tick agents asking) after

-- the same, by other names of the program, the agents, the seed and what was heard
pub grows-too : (p program : Program) (list agents : List Agent) (n seed tick : ℕ) (asking : List Agent) (said : List Saying)
    (faults : List Fault) (h before after : Heard) → p ≡ program → list ≡ agents → n ≡ seed → h ≡ before
    → Grows p list n tick asking said faults h after → Grows program agents seed tick asking said faults before after
grows-too p program list agents n seed tick asking said faults h before after same_program same_agents same_seed same grows =
    subst (λ (q : Program). Grows q agents seed tick asking said faults before after) same_program
    (subst (λ (l : List Agent). Grows p l seed tick asking said faults before after) same_agents
    (subst (λ (m : ℕ). Grows p list m tick asking said faults before after) same_seed
    (subst (λ (g : Heard). Grows p list n tick asking said faults g after) same grows)))

-- two programs whose classes have the same effects
module _ (p q : Program) (alike : (a : Agent) → effects_in (class_of p a) ≡ effects_in (class_of q a)) (said : List Saying) where
  table-alike : (agents : List Agent) → table_of p said agents ≡ table_of q said agents
  table-alike [] = refl
  table-alike (a ∷ agents) =
      ap (λ (effects : List Effect). totals_from 0 a.id effects said ++ table_of p said agents) (alike a)
      ∙ ap (λ (l : List ℤ). row_of q said a ++ l) (table-alike agents)

counts-alike : (p q : Program) → ((a : Agent) → effects_in (class_of p a) ≡ effects_in (class_of q a))
    → (a : Agent) → effects_in (class_of (counting p) a) ≡ effects_in (class_of (counting q) a)
counts-alike p q alike a = counted-effects p a ∙ ap (map counted) (alike a) ∙ sym (counted-effects q a)

-- hear alike
pub heard-alike : (p q : Program) (agents : List Agent) (said : List Saying) (faults : List Fault) (heard : Heard)
    → ((a : Agent) → effects_in (class_of p a) ≡ effects_in (class_of q a))
    → IsHeard p agents said faults heard → IsHeard q agents said faults heard
heard-alike p q agents said faults heard alike k = record {
  totals = k.totals ∙ table-alike p q alike said agents;
  counts = k.counts ∙ table-alike (counting p) (counting q) (counts-alike p q alike) said agents;
  least = k.least;
  each_starts = k.each_starts;
  starts = λ i d le. k.starts i d le ∙ ap length (table-alike p q alike [] (take i agents));
}
