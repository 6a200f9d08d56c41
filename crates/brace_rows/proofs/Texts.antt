-- Facts on appended text and on fields parted by a byte.
use Rattle.std.proofs.Common.{◌≡◌, ◌<◌, ◌+◌, ℕ, List, [], ◌∷◌, ◌++◌, length, take, map, flat_map, ap, sym, refl, ◌∙◌, append-nil, append_assoc}
use Rattle.std.specs.Prelude.{slice_get, Some}
use Rattle.std.specs.List.{join_with_byte}
use Rattle.std.proofs.Math.Seq.{take-append_seam}
use Rattle.std.proofs.lemmas.List.{flat_map_more, take_more}
use Rattle.std.proofs.lemmas.Option.{get_or_from_slice_get}
use Rattle.brace_num.specs.Spelling.{canonical_count}
use Rattle.brace_model.specs.declared.program.Value.{Value}
use Rattle.brace_model.specs.declared.program.Program.{Program}
use Rattle.brace_model.specs.declared.world.Agent.{Agent}
use Rattle.brace_model.specs.Published.{spelled, class_name, agent_text}

-- a list followed by another begins with itself
pub starts_here : (a b r : List ℕ) → r ≡ a ++ b → take (length a) r ≡ a
starts_here a b r e = ap (take (length a)) e ∙ take-append_seam a b

-- fields parted by a byte: the first field, and each later one with the byte before it
pub join_first : {X : Type 0} (c : ℕ) (f : X → List ℕ) (first : List ℕ) (xs : List X) → join_with_byte c (first ∷ map f xs) ≡ first ++ flat_map (λ x. c ∷ f x) xs
join_first c f first [] = sym (append-nil first)
join_first c f first (x ∷ xs) = ap (λ t. first ++ (c ∷ t)) (join_first c f (f x) xs)

-- an agent's text, printed piece by piece
pub agent_appended : (program : Program) (a : Agent) (out named parted counted printed name : List ℕ) (values : List Value) →
    name ≡ class_name program a → values ≡ a.states → named ≡ out ++ name → parted ≡ named ++ 44 ∷ [] →
    counted ≡ parted ++ canonical_count a.id → printed ≡ counted ++ flat_map (λ v. 44 ∷ spelled v) values → printed ≡ out ++ agent_text program a
agent_appended program a out named parted counted printed name values n v e₁ e₂ e₃ e₄ =
    let j = join_first 44 spelled (canonical_count a.id) a.states in
    let all : (((out ++ name) ++ 44 ∷ []) ++ canonical_count a.id) ++ flat_map (λ v. 44 ∷ spelled v) values ≡ out ++ (name ++ (44 ∷ (canonical_count a.id ++ flat_map (λ v. 44 ∷ spelled v) values))) = simp append_assoc in
    e₄ ∙ ap (λ s. s ++ flat_map (λ v. 44 ∷ spelled v) values) (e₃ ∙ ap (λ s. s ++ canonical_count a.id) (e₂ ∙ ap (λ s. s ++ 44 ∷ []) e₁))
    ∙ all ∙ rw (n, v, j) refl

-- the texts of the first agents of a list, and of the one behind them
pub texts_more : (text : Agent → List ℕ) (first : List ℕ) (agents : List Agent) (place : ℕ) (a : Agent)
    → place < length agents → slice_get agents place ≡ Some a
    → (first ++ flat_map text (take place agents)) ++ text a ≡ first ++ flat_map text (take (place + 1) agents)
texts_more text first agents place a low is =
    flat_map_more text first (take place agents) a
    ∙ ap (λ (l : List Agent). first ++ flat_map text l)
    (ap (λ (x : Agent). take place agents ++ x ∷ []) (sym (get_or_from_slice_get agents place a a is))
    ∙ sym (take_more agents place a low))
