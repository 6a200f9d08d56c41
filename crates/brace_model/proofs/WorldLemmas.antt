-- Whether ids rise, by the agents themselves.
use Rattle.std.proofs.Common.{◌≡◌, ℕ, ◌+◌, ◌<◌, List, [], length, get_or, arith}
use Rattle.std.proofs.lemmas.List.{get_or-map, length-map}
use Rattle.brace_model.specs.declared.world.Agent.{Agent}
use Rattle.brace_model.specs.World.{RisesById, ids}

-- the id at a place is that of the agent at the place
pub id_at : (agents : List Agent) (k : ℕ) (d : Agent) → k < length agents → get_or (ids agents) k 0 ≡ (get_or agents k d).id
id_at agents k d le = get_or-map (λ (a : Agent). a.id) agents k d 0 le

-- ids rise where each agent's id is below the next one's
pub RisesById-from_pairs : (agents : List Agent) → ((k : ℕ) (d : Agent) → k + 1 < length agents → (get_or agents k d).id < (get_or agents (k + 1) d).id) → RisesById agents
RisesById-from_pairs agents h k le =
    let d : Agent = record { class = 0; id = 0; states = [] } in
    let le' : k + 1 < length agents = simp length-map at le in
    let a = id_at agents k d (omega arith) in
    let b = id_at agents (k + 1) d le' in
    let lt = h k d le' in
    grind (arith, a, b, lt)

-- where ids rise, the agents at two neighbouring places rise
pub RisesById-pair : (agents : List Agent) (j k : ℕ) (a b : Agent) → j + 1 ≡ k → k < length agents → RisesById agents → (get_or agents j a).id < (get_or agents k b).id
RisesById-pair agents j k a b next le rises =
    let le' : j + 1 < length agents = omega arith in
    let lt = rises j (simp length-map le') in
    let first = id_at agents j a (omega arith) in
    let second = id_at agents k b le in
    grind (arith, first, second, lt, next)
