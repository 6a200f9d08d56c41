-- What is said to agents by their places, told by their ids.
use Rattle.std.proofs.Common.{◌≡◌, ◌∙◌, sym, ap, ℕ, ◌+◌, ◌<◌, List, [], ◌∷◌, ◌++◌, map, length, take, get_or, Option, arith}
use Rattle.std.specs.Prelude.{option_map, unwrap_or}
use Rattle.std.proofs.lemmas.Option.{slice_get-get_or}
use Rattle.std.proofs.lemmas.List.{map-append, map_more}
use Rattle.brace_model.specs.declared.world.Agent.{Agent}
use Rattle.brace_model.specs.Query.{Saying}
use Rattle.brace_plan.specs.declared.answer.Said.{Said}
use Rattle.brace_plan.specs.declared.query.Saying.{Saying as Told}
use Rattle.brace_plan.specs.Answers.{id_at, saying_of, said_by}

-- a list with a place has an agent
pub some-agent : (agents : List Agent) (i : ℕ) → i < length agents → Agent
some-agent [] i low = absurd (omega (arith, low))
some-agent (x ∷ agents) i low = x

-- one value more is told, to the agent at a place
pub told-next : (agents : List Agent) (said : List Said) (k : ℕ) (d : Said) (e : Agent) (told new : List Told)
    → k < length said → (get_or said k d).place < length agents
    → new ≡ told ++ record { target = (get_or agents (get_or said k d).place e).id; field = (get_or said k d).field; value = (get_or said k d).value } ∷ []
    → map said_by told ≡ map (saying_of agents) (take k said) → map said_by new ≡ map (saying_of agents) (take (k + 1) said)
told-next agents said k d e told new low within more before =
    let s : Said = get_or said k d in
    let last : Told = record { target = (get_or agents s.place e).id; field = s.field; value = s.value } in
    let at : id_at agents s.place ≡ last.target =
    ap (λ (o : Option Agent). unwrap_or (option_map (λ (a : Agent). a.id) o) 0) (slice_get-get_or agents s.place e within) in
    ap (map said_by) more ∙ map-append said_by told (last ∷ [])
    ∙ ap (λ (l : List Saying). l ++ said_by last ∷ []) before
    ∙ ap (λ (n : ℕ). let one : Saying = record { target = n; field = s.field; value = s.value } in map (saying_of agents) (take k said) ++ one ∷ []) (sym at)
    ∙ sym (map_more (saying_of agents) said k d low)
