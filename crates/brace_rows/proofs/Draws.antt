-- Made agents: the draws in turn, and a lawful world.
use Rattle.std.proofs.Common.{◌≡◌, ◌≤◌, ◌<◌, ◌+◌, ◌*◌, ◌^◌, ◌∙◌, ℕ, zero, suc, true, ◌&&◌, [], ◌∷◌, ◌++◌, length, map, get_or, Option, Some, None, sym, refl, ap, ap₂, arith}
use Rattle.std.specs.Prelude.{nat_le, slice_get}
use Rattle.std.specs.Fn.{iterate}
use Rattle.std.specs.List.{list_all, range_with_len}
use Rattle.std.proofs.lemmas.Bool.{le-leb, false≢true}
use Rattle.std.proofs.lemmas.List.FromFn.{length-map-range_with_len, get_or-map-range_with_len, map-range_with_len_more}
use Rattle.std.proofs.lemmas.List.Sums.{list_all-from_AllPass, sum_by-cons}
use Rattle.brace_num.specs.Generator.{following}
use Rattle.brace_model.specs.declared.program.Class.{Class}
use Rattle.brace_model.specs.declared.program.Program.{Program}
use Rattle.brace_model.specs.declared.world.Agent.{Agent}
use Rattle.brace_model.specs.Lawful.{LawfulAgents, has_states, is_lawful_agent}
use Rattle.brace_model.specs.Step.{count_values, greatest_id}
use Rattle.brace_model.specs.World.{RisesById}
use Rattle.brace_model.proofs.WorldLemmas.{RisesById-from_pairs}
use Rattle.brace_rows.specs.MadeAgents.{drawn, agent_at, made_agents, is_four_fixed, has_four_fixed}

one_more_time : {A : Type 0} (h : A → A) (n : ℕ) (x : A) → h (iterate h n x) ≡ iterate h (suc n) x
one_more_time h zero x = refl
one_more_time h (suc n) x = one_more_time h n (h x)

next_draw : (seed n m : ℕ) → suc n ≡ m → following (drawn seed n) ≡ drawn seed m
next_draw seed n m e = one_more_time following n _ ∙ ap (drawn seed) e

abbrev made_one : ℕ → ℕ → Agent
made_one seed id = agent_at id (drawn seed (2 * id + 1)) (drawn seed (2 * id + 2))

pub made_more : (seed id g : ℕ) → g ≡ drawn seed (2 * id) → made_agents seed (id + 1) ≡ made_agents seed id ++ agent_at id (following g) (following (following g)) ∷ []
made_more seed id g e =
    let x : following g ≡ drawn seed (2 * id + 1) = ap following e ∙ next_draw seed (2 * id) (2 * id + 1) (omega arith) in
    let y : following (following g) ≡ drawn seed (2 * id + 2) = ap following x ∙ next_draw seed (2 * id + 1) (2 * id + 2) (omega arith) in
    map-range_with_len_more (made_one seed) 0 id id (omega arith) ∙ sym (ap₂ (λ a b. made_agents seed id ++ agent_at id a b ∷ []) x y)

pub drawn_twice : (seed id g : ℕ) → g ≡ drawn seed (2 * id) → following (following g) ≡ drawn seed (2 * (id + 1))
drawn_twice seed id g e =
    let x : following g ≡ drawn seed (2 * id + 1) = ap following e ∙ next_draw seed (2 * id) (2 * id + 1) (omega arith) in
    ap following x ∙ next_draw seed (2 * id + 1) (2 * (id + 1)) (omega arith)

at_place : (seed count k : ℕ) (d : Agent) → k < count → get_or (made_agents seed count) k d ≡ made_one seed k
at_place seed count k d below = get_or-map-range_with_len (made_one seed) 0 count k k d below (omega arith)

length_made : (seed count : ℕ) → length (made_agents seed count) ≡ count
length_made seed count = length-map-range_with_len (made_one seed) 0 count

pub made_rise : (seed count : ℕ) → RisesById (made_agents seed count)
made_rise seed count = RisesById-from_pairs (made_agents seed count) (λ k d below.
    let lt : k + 1 < count = omega (arith, below, length_made seed count) in
    rw (at_place seed count k d (omega (arith, lt)), at_place seed count (k + 1) d lt) (omega arith))

pub made_are_low : (seed count : ℕ) → count ≤ 2 ^ 20 → list_all (λ (a : Agent). nat_le a.id greatest_id) (made_agents seed count) ≡ true
made_are_low seed count few = list_all-from_AllPass (λ (a : Agent). nat_le a.id greatest_id) (made_agents seed count) (λ k d below.
    let lt : k < count = omega (arith, below, length_made seed count) in
    rw (at_place seed count k d lt) (le-leb k greatest_id (omega (arith, lt, few))))

four_values : (seed n s : ℕ) → count_values (map (made_one seed) (range_with_len s n)) ≡ 4 * n
four_values seed zero s = refl
four_values seed (suc n) s =
    let more = four_values seed n (s + 1) in
    let one = sum_by-cons (λ (a : Agent). length a.states) (made_one seed s) (map (made_one seed) (range_with_len (s + 1) n)) in
    let four : length (made_one seed s).states ≡ 4 = refl in
    one ∙ omega (arith, more, four)

fits_four : (o : Option Class) (id x y : ℕ) → is_four_fixed o ≡ true → has_states o (agent_at id x y) ≡ true
fits_four None id x y e = absurd (false≢true e)
fits_four (Some class) id x y e = e

pub made_are_lawful : (program : Program) (seed count : ℕ) → has_four_fixed program ≡ true → count ≤ 2 ^ 20 → LawfulAgents program (made_agents seed count)
made_are_lawful program seed count four few = record {
  each_is_lawful = list_all-from_AllPass (is_lawful_agent program) (made_agents seed count) (λ k d below.
      let lt : k < count = omega (arith, below, length_made seed count) in
      rw (at_place seed count k d lt)
      (ap₂ (λ a b. a && b) (le-leb k greatest_id (omega (arith, lt, few))) (fits_four (slice_get program.classes 0) k (drawn seed (2 * k + 1)) (drawn seed (2 * k + 2)) four)));
  few_agents = omega (arith, length_made seed count, few);
  few_values = let four = four_values seed count 0 in omega (arith, four, few);
}
