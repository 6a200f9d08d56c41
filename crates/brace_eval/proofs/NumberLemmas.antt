-- The agents of the next world have rising ids below its next free id.
use Rattle.std.proofs.Common.{◌≡◌, ◌∙◌, sym, refl, ap, subst, ℕ, zero, suc, ◌+◌, ◌<◌, ◌≤◌, ◌^◌, ℤ, List, [], ◌∷◌, ◌++◌, length, get_or, map, filter_map, arith, Option, Some, None, Result, Ok, Err, Bool, true, false}
use Rattle.std.specs.Prelude.{if◌then◌else◌}
use Rattle.std.specs.Result.{result_ok}
use Rattle.std.specs.List.Sorted.{IsStrictlyIncreasing}
use Rattle.std.proofs.lemmas.List.{map-append, length-map}
use Rattle.brace_model.specs.declared.program.Class.{Class}
use Rattle.brace_model.specs.declared.program.Program.{Program}
use Rattle.brace_model.specs.declared.fault.Fault.{Fault}
use Rattle.brace_model.specs.declared.fault.Stop.{Stop}
use Rattle.brace_model.specs.declared.world.Agent.{Agent}
use Rattle.brace_model.specs.World.{World, ids, class_of, IsNumbered}
use Rattle.brace_model.proofs.WorldLemmas.{id_at}
use Rattle.brace_model.specs.Value.{Scope}
use Rattle.brace_model.specs.Query.{opening_scope}
use Rattle.brace_model.specs.Next.{Next, next, next_in, totals_in, next_of, unless_stopped, first_stop, update_in, left_by, holds, condition_in, changed, values_of, rules_in, update_fault}
use Rattle.brace_model.specs.Step.{living, numbered, grown, all_next}
use Rattle.std.proofs.lemmas.Option.{same_Some}

-- numbers that rise from one number on, and stay below another
abbrev pub Rise : ℕ → List ℕ → ℕ → Type 0
Rise low [] high = low ≤ high
Rise low (n ∷ rest) high = (low ≤ n) × Rise (suc n) rest high

rise-from : (low lower : ℕ) (ns : List ℕ) (high : ℕ) → lower ≤ low → Rise low ns high → Rise lower ns high
rise-from low lower [] high le r = omega (arith, le, r)
rise-from low lower (n ∷ rest) high le r = (omega (arith, le, r.0), r.1)

rise-append : (low : ℕ) (ns : List ℕ) (mid : ℕ) (ms : List ℕ) (high : ℕ) → Rise low ns mid → Rise mid ms high → Rise low (ns ++ ms) high
rise-append low [] mid ms high r s = rise-from mid low ms high r s
rise-append low (n ∷ rest) mid ms high r s = (r.0, rise-append (suc n) rest mid ms high r.1 s)

rise-increases : (low : ℕ) (ns : List ℕ) (high : ℕ) → Rise low ns high → IsStrictlyIncreasing ns
rise-increases low [] high r k le = absurd (omega (arith, le))
rise-increases low (n ∷ []) high r k le = absurd (omega (arith, le))
rise-increases low (n ∷ m ∷ rest) high r zero le = r.1.0
rise-increases low (n ∷ m ∷ rest) high r (suc k) le =
    let same : suc k + 1 ≡ suc (k + 1) = omega arith in
    subst (λ (j : ℕ). get_or (m ∷ rest) k 0 < get_or (n ∷ m ∷ rest) j 0) (sym same)
    (rise-increases (suc n) (m ∷ rest) high r.1 k (omega (arith, le)))

rise-high : (low : ℕ) (ns : List ℕ) (high : ℕ) → Rise low ns high → low ≤ high
rise-high low [] high r = r
rise-high low (n ∷ rest) high r = let le = rise-high (suc n) rest high r.1 in omega (arith, le, r.0)

rise-below : (low : ℕ) (ns : List ℕ) (high : ℕ) → Rise low ns high → (k : ℕ) → k < length ns → get_or ns k 0 < high
rise-below low [] high r k le = absurd (omega (arith, le))
rise-below low (n ∷ rest) high r zero le = rise-high (suc n) rest high r.1
rise-below low (n ∷ rest) high r (suc k) le = rise-below (suc n) rest high r.1 k (omega (arith, le))

increasing-rise : (low : ℕ) (ns : List ℕ) (high : ℕ) → IsStrictlyIncreasing ns → (0 < length ns → low ≤ get_or ns 0 0)
    → ((k : ℕ) → k < length ns → get_or ns k 0 < high) → low ≤ high → Rise low ns high
increasing-rise low [] high rises first below le = le
increasing-rise low (n ∷ rest) high rises first below le = (
  first (omega arith),
  increasing-rise (suc n) rest high (λ k within.
      let same : suc k + 1 ≡ suc (k + 1) = omega arith in
      subst (λ (j : ℕ). get_or rest k 0 < get_or (n ∷ rest) j 0) same (rises (suc k) (omega (arith, within)))) (λ some. rises 0 (omega (arith, some)))
      (λ k within. below (suc k) (omega (arith, within))) (below 0 (omega arith)),
)

-- the ids of a numbered world rise
world-rise : (world : World) → IsNumbered world → Rise 0 (ids world.agents) world.next
world-rise world w =
    increasing-rise 0 (ids world.agents) world.next w.rises (λ some. omega arith)
    (λ k within.
    let len : length (ids world.agents) ≡ length world.agents = length-map world.agents (λ (a : Agent). a.id) in
    let d : Agent = record { class = 0; id = 0; states = [] } in
    let le : k < length world.agents = omega (arith, within, len) in
    let below = w.below k d le in
    let is = id_at world.agents k d le in
    omega (arith, below, is))
    (omega arith)

-- the ids of children
rise-numbered : (next : ℕ) (born : List Agent) → Rise next (ids (numbered next born)) (next + length born)
rise-numbered next [] = omega arith
rise-numbered next (c ∷ born) =
    let rest = rise-numbered (suc next) born in
    let same : suc next + length born ≡ next + length (c ∷ born) = omega arith in
    (omega arith, subst (λ (n : ℕ). Rise (suc next) (ids (numbered (suc next) born)) n) same rest)

-- ---- an agent that lives on keeps its id

abbrev pub ok : Next → Result Next Fault
ok n = Ok n

abbrev pub failed : Fault → Result Next Fault
failed f = Err f

pub same-next : (m n : Next) → ok m ≡ ok n → m ≡ n
same-next m n e = cc

pub not-both : (f : Fault) (n : Next) → failed f ≡ ok n → ⊥
not-both f n e = cc

pub none-some : (a : Agent) (o : Option Agent) → o ≡ None → o ≡ Some a → ⊥
none-some a o e f = cc

left-keeps : (scope : Scope) (class : Class) (a b : Agent) (dies : Bool) → holds (condition_in scope class.die) ≡ dies
    → (left_by scope class a).agent ≡ Some b → b.id ≡ a.id
left-keeps scope class a b true h has =
    let gone : (left_by scope class a).agent ≡ None = ap (λ (d : Bool). if d then None else Some (changed class a (values_of (rules_in scope class a)))) h in
    absurd (none-some b (left_by scope class a).agent gone has)
left-keeps scope class a b false h has =
    let stays : (left_by scope class a).agent ≡ Some (changed class a (values_of (rules_in scope class a))) =
    ap (λ (d : Bool). if d then None else Some (changed class a (values_of (rules_in scope class a)))) h in
    ap (λ (x : Agent). x.id) (sym (same_Some (changed class a (values_of (rules_in scope class a))) b (sym stays ∙ has)))

keeps-id : (scope : Scope) (class : Class) (tick : ℕ) (a b : Agent) (n : Next) (s : Option Stop)
    → first_stop (update_in scope class a) ≡ s → next_of tick class a scope ≡ ok n → n.agent ≡ Some b → b.id ≡ a.id
keeps-id scope class tick a b n (Some stop) e is has =
    absurd (not-both (update_fault tick a stop) n (sym (ap (λ (o : Option Stop). unless_stopped tick a o (left_by scope class a)) e) ∙ is))
keeps-id scope class tick a b n None e is has =
    let left = same-next (left_by scope class a) n (sym (ap (λ (o : Option Stop). unless_stopped tick a o (left_by scope class a)) e) ∙ is) in
    left-keeps scope class a b _ refl (ap (λ (m : Next). m.agent) left ∙ has)

next-keeps : (seed tick : ℕ) (o : Option Class) (totals : List ℤ) (a b : Agent) (n : Next)
    → next_in seed tick o totals a ≡ ok n → n.agent ≡ Some b → b.id ≡ a.id
next-keeps seed tick None totals a b n is has =
    let same = same-next (record { agent = Some a; child = None }) n is in
    ap (λ (x : Agent). x.id) (sym (same_Some a b (ap (λ (m : Next). m.agent) same ∙ has)))
next-keeps seed tick (Some class) totals a b n is has =
    keeps-id (opening_scope seed tick [] totals a) class tick a b n _ refl is has

-- the ids of those that live on rise as all ids do
module _ (f : Agent → Result Next Fault) (keeps : (a b : Agent) (n : Next) → f a ≡ ok n → n.agent ≡ Some b → b.id ≡ a.id) where
  lives-rise : (low : ℕ) (agents : List Agent) (high : ℕ) → Rise low (ids agents) high
      → Rise low (ids (living (filter_map result_ok (map f agents)))) high
  lives-rise low [] high r = r
  lives-rise low (a ∷ agents) high r = by_result (f a) refl (lives-rise (suc a.id) agents high r.1)
    where
      by_agent : (n : Next) (o : Option Agent) → f a ≡ ok n → n.agent ≡ o
          → Rise (suc a.id) (ids (living (filter_map result_ok (map f agents)))) high
          → Rise low (ids (living (n ∷ filter_map result_ok (map f agents)))) high
      by_agent n None is has rest = rw has (rise-from (suc a.id) low _ high (omega (arith, r.0)) rest)
      by_agent n (Some b) is has rest =
          let same = keeps a b n is has in
          rw has (omega (arith, r.0, same), subst (λ (k : ℕ). Rise (suc k) (ids (living (filter_map result_ok (map f agents)))) high) (sym same) rest)

      by_result : (x : Result Next Fault) → f a ≡ x
          → Rise (suc a.id) (ids (living (filter_map result_ok (map f agents)))) high
          → Rise low (ids (living (filter_map result_ok (x ∷ map f agents)))) high
      by_result (Ok n) is rest = by_agent n n.agent is refl rest
      by_result (Err e) is rest = rise-from (suc a.id) low _ high (omega (arith, r.0)) rest

-- the world of the living and the children is numbered
pub numbered_grown : (program : Program) (seed tick : ℕ) (world : World) (ls bs : List Agent) → IsNumbered world
    → living (filter_map result_ok (all_next program seed tick world.agents)) ≡ ls → world.next + length bs ≤ 2 ^ 63
    → IsNumbered (grown world.next ls bs)
numbered_grown program seed tick world ls bs w lives fits =
    let keeps : (a b : Agent) (n : Next) → next program seed tick world.agents a ≡ ok n → n.agent ≡ Some b → b.id ≡ a.id =
    λ a b n. next-keeps seed tick (class_of program a) (totals_in program seed tick world.agents a (class_of program a)) a b n in
    let stay : Rise 0 (ids ls) world.next =
    subst (λ (l : List Agent). Rise 0 (ids l) world.next) lives (lives-rise (next program seed tick world.agents) keeps 0 world.agents world.next (world-rise world w)) in
    let all : Rise 0 (ids (ls ++ numbered world.next bs)) (world.next + length bs) =
    subst (λ (ns : List ℕ). Rise 0 ns (world.next + length bs)) (sym (map-append (λ (a : Agent). a.id) ls (numbered world.next bs)))
    (rise-append 0 (ids ls) world.next (ids (numbered world.next bs)) (world.next + length bs) stay (rise-numbered world.next bs)) in
    record {
      rises = rise-increases 0 (ids (ls ++ numbered world.next bs)) (world.next + length bs) all;
      below = λ k d le.
          let len : length (ids (ls ++ numbered world.next bs)) ≡ length (ls ++ numbered world.next bs) = length-map (ls ++ numbered world.next bs) (λ (a : Agent). a.id) in
          let less = rise-below 0 (ids (ls ++ numbered world.next bs)) (world.next + length bs) all k (omega (arith, le, len)) in
          let is = id_at (ls ++ numbered world.next bs) k d le in
          omega (arith, less, is);
      in_range = fits;
    }
