-- The tables after values that are all said to one effect of an agent.
use Rattle.std.proofs.Common.{◌≡◌, ◌∙◌, sym, ap, subst, ℕ, zero, suc, ◌+◌, ◌-◌, ◌^◌, ◌<◌, ℤ, pos, ◌+ℤ◌, List, [], ◌∷◌, ◌++◌, length, take, drop, get_or, set, map, min, Some, arith, append_assoc}
use Rattle.std.specs.Prelude.{slice_get, fold}
use Rattle.std.specs.List.{All}
use Rattle.std.proofs.lemmas.Option.{slice_get_within, get_or_from_slice_get}
use Rattle.std.proofs.lemmas.List.{append-nil, length-map, set-set, get_or-set_same, set-get_or, take-append-drop}
use Rattle.std.proofs.lemmas.List.Elements.{All-head, All-tail}
use Rattle.std.proofs.lemmas.List.Concat.{get_or-flat_map}
use Rattle.std.proofs.lemmas.List.Folds.{length-flat_map-take}
use Rattle.std.proofs.lemmas.Grind.{flat_map-append}
use Rattle.std.proofs.Math.Seq.{drop-append_seam}
use Rattle.brace_model.specs.declared.program.Comb.TheVariants.{Count}
use Rattle.brace_model.specs.declared.program.Effect.{Effect}
use Rattle.brace_model.specs.declared.program.Program.{Program}
use Rattle.brace_model.specs.declared.program.Value.{Value}
use Rattle.brace_model.specs.declared.fault.Fault.{Fault}
use Rattle.brace_model.specs.declared.world.Agent.{Agent}
use Rattle.brace_model.specs.World.{RisesById, ids, class_of}
use Rattle.brace_model.proofs.WorldLemmas.{id_at}
use Rattle.brace_model.specs.Query.{Saying}
use Rattle.brace_model.specs.Total.{joined, total_of, said_to, totals_from}
use Rattle.brace_comb.specs.Totals.{merged}
use Rattle.brace_comb.proofs.Joins.{fold-merged, fold-counted}
use Rattle.brace_eval.specs.declared.heard.Heard.{Heard}
use Rattle.brace_eval.specs.Heard.{IsHeard, AreTold, counted, counting, effects_in, row_of, table_of}
use Rattle.brace_eval.proofs.CountLemmas.{counted-at, counted-effects, counts-long}
use Rattle.brace_eval.proofs.TableLemmas.{table-hit, table-room, table-length, row-length}
use Rattle.brace_eval.proofs.StepLemmas.{row-first}
use Rattle.brace_eval.proofs.HeardLemmas.{place-is, counts-place-is}

-- the values of sayings
abbrev values : List Saying → List Value
values told = map (λ (s : Saying). s.value) told

module _ (program : Program) (agents : List Agent) (rises : RisesById agents) (i : ℕ) (d : Agent) (le : i < length agents)
    (e : Effect) (at field : ℕ) (has : slice_get (effects_in (class_of program (get_or agents i d))) field ≡ Some e)
    (stands : at ≡ length (table_of program [] (take i agents)) + field) where
  table-told : (told xs : List Saying) → All (λ s. (s.target ≡ (get_or agents i d).id) × (s.field ≡ field)) told
      → table_of program (xs ++ told) agents
      ≡ set (table_of program xs agents) at (fold (joined e.comb) (get_or (table_of program xs agents) at (pos 0)) (values told))
  table-told [] xs alone =
      ap (λ (l : List Saying). table_of program l agents) (append-nil xs) ∙ sym (set-get_or (table_of program xs agents) at (pos 0))
  table-told (s ∷ told) xs alone =
      let (mine, same) = All-head (λ (t : Saying). (t.target ≡ (get_or agents i d).id) × (t.field ≡ field)) s told alone in
      let id : get_or (ids agents) i 0 ≡ s.target = id_at agents i d le ∙ sym mine in
      let has_s : slice_get (effects_in (class_of program (get_or agents i d))) s.field ≡ Some e =
      ap (slice_get (effects_in (class_of program (get_or agents i d)))) same ∙ has in
      let stands_s : at ≡ length (table_of program [] (take i agents)) + s.field = omega (arith, stands, same) in
      let old : List ℤ = table_of program xs agents in
      let v : ℤ = joined e.comb (get_or old at (pos 0)) s.value in
      let room : at < length old = table-room program xs s agents i d le rises id e at has_s stands_s in
      let one : table_of program (xs ++ s ∷ []) agents ≡ set old at v = table-hit program xs s agents i d le rises id e at has_s stands_s in
      let rest = table-told told (xs ++ s ∷ []) (All-tail (λ (t : Saying). (t.target ≡ (get_or agents i d).id) × (t.field ≡ field)) s told alone) in
      ap (λ (l : List Saying). table_of program l agents) (sym (append_assoc xs (s ∷ []) told))
      ∙ rest
      ∙ ap (λ (l : List ℤ). set l at (fold (joined e.comb) (get_or l at (pos 0)) (values told))) one
      ∙ set-set old at v (fold (joined e.comb) (get_or (set old at v) at (pos 0)) (values told))
      ∙ ap (λ (t : ℤ). set old at (fold (joined e.comb) t (values told))) (get_or-set_same old at v (pos 0) room)

-- the total of an effect stands in its agent's row
row-total : (n id : ℕ) (effects : List Effect) (k : ℕ) (e : Effect) (xs : List Saying) → slice_get effects k ≡ Some e
    → get_or (totals_from n id effects xs) k (pos 0) ≡ total_of e.comb (said_to id (n + k) xs)
row-total n id [] k e xs is = absurd (cc)
row-total n id (f ∷ effects) zero e xs is =
    let this : f ≡ e = cc in
    let at : n ≡ n + 0 = omega arith in
    ap (λ (g : Effect). total_of g.comb (said_to id n xs)) this ∙ ap (λ (m : ℕ). total_of e.comb (said_to id m xs)) at
row-total n id (f ∷ effects) (suc k) e xs is =
    let at : suc n + k ≡ n + suc k = omega arith in
    row-total (suc n) id effects k e xs is ∙ ap (λ (m : ℕ). total_of e.comb (said_to id m xs)) at

-- the agent at a place
pub agent-at : (agents : List Agent) (place : ℕ) (a : Agent) → slice_get agents place ≡ Some a
    → (place < length agents) × (a ≡ get_or agents place a)
agent-at agents place a is = (slice_get_within agents place a is, sym (get_or_from_slice_get agents place a a is))

-- what is told of an effect is joined to it
pub heard-told : (program : Program) (agents : List Agent) (said told : List Saying) (faults : List Fault) (before after : Heard)
    (place : ℕ) (a : Agent) (e : Effect) (field at count : ℕ) (number : ℤ) → RisesById agents → slice_get agents place ≡ Some a
    → slice_get (effects_in (class_of program a)) field ≡ Some e
    → at ≡ min (get_or before.starts.items place 0 + field) (2 ^ 64 - 1)
    → after.totals.items ≡ set before.totals.items at (merged e.comb (get_or before.totals.items at (pos 0)) number)
    → after.counts.items ≡ set before.counts.items at (get_or before.counts.items at (pos 0) +ℤ pos count)
    → after.starts ≡ before.starts → after.least ≡ before.least
    → IsHeard program agents said faults before → AreTold program a field number count told
    → IsHeard program agents (said ++ told) faults after
heard-told program agents said told faults before after place a e field at count number rises is has at_is totals counts starts least k t =
    let (le, same) = agent-at agents place a is in
    let b = get_or agents place a in
    let has_b : slice_get (effects_in (class_of program b)) field ≡ Some e =
    ap (λ (x : Agent). slice_get (effects_in (class_of program x)) field) (sym same) ∙ has in
    let alone = subst (λ (x : Agent). All (λ s. (s.target ≡ x.id) × (s.field ≡ field)) told) same t.alone in
    let stands = place-is program agents said faults before k place a le rises field e has_b at at_is in
    let stands_too = counts-place-is program agents said faults before k place a le rises field e has_b at stands in
    let has_too = counted-at program b field (Some e) has_b in
    let all = table-told program agents rises place a le e at field has_b stands told said alone in
    let all_too = table-told (counting program) agents rises place a le (counted e) at field has_too stands_too told said alone in
    let old = table_of program said agents in
    let effects = effects_in (class_of program b) in
    let here : at ≡ length (table_of program said (take place agents)) + field =
    stands ∙ ap (λ (n : ℕ). n + field) (sym (table-length program said (take place agents))) in
    let inside = slice_get_within effects field e has_b in
    let width = row-length 0 b.id effects said in
    let from_zero : 0 + field ≡ field = omega arith in
    let read : get_or old at (pos 0) ≡ total_of e.comb (said_to b.id field said) =
    ap (λ (n : ℕ). get_or old n (pos 0)) here
    ∙ get_or-flat_map (row_of program said) agents place field a (pos 0) le (omega (arith, inside, width))
    ∙ row-total 0 b.id effects field e said has_b
    ∙ ap (λ (n : ℕ). total_of e.comb (said_to b.id n said)) from_zero in
    let one : e ≡ t.effect = let both = sym has ∙ t.has in cc in
    let us = said_to b.id field said in
    let vs = values told in
    let merging : merged e.comb (get_or old at (pos 0)) number ≡ fold (joined e.comb) (get_or old at (pos 0)) vs =
    ap (λ (n : ℤ). merged e.comb n number) read
    ∙ ap (merged e.comb (total_of e.comb us)) (t.total ∙ ap (λ (f : Effect). total_of f.comb vs) (sym one))
    ∙ sym (fold-merged e.comb us vs)
    ∙ ap (λ (n : ℤ). fold (joined e.comb) n vs) (sym read) in
    let old_counts = table_of (counting program) said agents in
    let c = get_or old_counts at (pos 0) in
    let many : length vs ≡ length told = length-map told (λ (s : Saying). s.value) in
    let counting_all : c +ℤ pos count ≡ fold (joined Count) c vs =
    ap (λ (n : ℕ). c +ℤ pos n) (t.many ∙ sym many) ∙ sym (fold-counted c vs) in
    record {
      totals = totals
          ∙ ap (λ (l : List ℤ). set l at (merged e.comb (get_or l at (pos 0)) number)) k.totals
          ∙ ap (λ (n : ℤ). set old at n) merging ∙ sym all;
      counts = counts
          ∙ ap (λ (l : List ℤ). set l at (get_or l at (pos 0) +ℤ pos count)) k.counts
          ∙ ap (λ (n : ℤ). set old_counts at n) counting_all ∙ sym all_too;
      least = least ∙ k.least;
      each_starts = ap (λ v. length v.items) starts ∙ k.each_starts;
      starts = λ j n within. subst (λ (l : List ℕ). get_or l j n ≡ length (table_of program [] (take j agents)))
          (sym (ap (λ v. v.items) starts)) (k.starts j n (omega (arith, within, ap (λ v. length v.items) starts)));
    }

-- the row of an agent is cut out of a table
row-cut : (program : Program) (agents : List Agent) (said : List Saying) (place : ℕ) (a : Agent) (table : List ℤ) (at width : ℕ)
    → place < length agents → a ≡ get_or agents place a → table ≡ table_of program said agents
    → at ≡ length (table_of program [] (take place agents)) → width ≡ length (effects_in (class_of program a))
    → take width (drop at table) ≡ row_of program said a
row-cut program agents said place a table at width le same is at_is width_is =
    let front = table_of program said (take place agents) in
    let start : at ≡ length front = at_is ∙ sym (table-length program said (take place agents)) in
    let parts : table ≡ front ++ table_of program said (drop place agents) =
    is ∙ ap (table_of program said) (sym (take-append-drop place agents)) ∙ flat_map-append (row_of program said) (take place agents) (drop place agents) in
    let behind : drop at table ≡ table_of program said (drop place agents) =
    ap (λ (n : ℕ). drop n table) start ∙ ap (drop (length front)) parts ∙ drop-append_seam front (table_of program said (drop place agents)) in
    ap (λ (n : ℕ). take n (drop at table)) width_is
    ∙ row-first program said agents place a (drop at table) le same behind

-- the totals and the counts of an agent
pub record Rows (program : Program) (said : List Saying) (a : Agent) (row numbers : List ℤ) : Type 0 where
  pub totals : row ≡ row_of program said a
  pub counts : numbers ≡ row_of (counting program) said a

pub rows-cut : (program : Program) (agents : List Agent) (said : List Saying) (faults : List Fault) (heard : Heard) (place : ℕ)
    (a : Agent) (at width : ℕ) → slice_get agents place ≡ Some a → IsHeard program agents said faults heard
    → at ≡ min (get_or heard.starts.items place 0 + 0) (2 ^ 64 - 1) → width ≡ length (effects_in (class_of program a))
    → Rows program said a (take width (drop at heard.totals.items)) (take width (drop at heard.counts.items))
rows-cut program agents said faults heard place a at width is k at_is width_is =
    let (le, same) = agent-at agents place a is in
    let first = k.starts place 0 (omega (arith, le, k.each_starts)) in
    let within = length-flat_map-take (row_of program said) agents place a le in
    let len = ap length k.totals in
    let small = heard.totals.small in
    let longer = table-length program said (take place agents) in
    let start : at ≡ length (table_of program [] (take place agents)) =
    grind (arith, at_is, first, within, len, longer, heard.totals.ok, small) in
    let width_too = width_is ∙ sym (ap length (counted-effects program a) ∙ length-map (effects_in (class_of program a)) counted) in
    record {
      totals = row-cut program agents said place a heard.totals.items at width le same k.totals start width_is;
      counts = row-cut (counting program) agents said place a heard.counts.items at width le same k.counts
          (start ∙ sym (counts-long program [] (take place agents))) width_too;
    }
