-- Small scripts with deaths and births, computed by the meaning itself.
use Rattle.std.proofs.Common.{◌≡◌, refl, ℕ, ℤ, pos, List, [], ◌∷◌, Some, None, Ok, Err, codes, sym}
use Rattle.std.specs.List.{IsDistinct}
use Rattle.std.proofs.lemmas.Bool.{true≢false}
use Rattle.brace_num.specs.declared.kinds.Kind.TheVariants.{DivZero, TooMany}
use Rattle.brace_model.specs.declared.program.Ty.TheVariants as ty
use Rattle.brace_model.specs.declared.program.Value.TheVariants.{Int, Fixed}
use Rattle.brace_model.specs.declared.program.BinOp.TheVariants as op
use Rattle.brace_model.specs.declared.program.Who.TheVariants as who
use Rattle.brace_model.specs.declared.program.Expr.{Expr}
use Rattle.brace_model.specs.declared.program.Expr.TheVariants.{Lit, Field, Binary}
use Rattle.brace_model.specs.declared.program.Gift.{Gift}
use Rattle.brace_model.specs.declared.program.Spawn.{Spawn}
use Rattle.brace_model.specs.declared.program.Class.{Class}
use Rattle.brace_model.specs.declared.program.Program.{Program}
use Rattle.brace_model.specs.declared.fault.Phase.TheVariants.{Update, Birth}
use Rattle.brace_model.specs.declared.world.Agent.{Agent}
use Rattle.brace_model.specs.World.{World, world_of, world_with}
use Rattle.brace_model.specs.Step.{step}
use Rattle.brace_model.specs.Lawful.{LawfulClass}
use Rattle.brace_model.proofs.Examples.{state, class, script, agent}
use Rattle.brace_model.proofs.ValueEquations.{value-Lit, value-Field, value-Binary}
use Rattle.brace_model.proofs.LawEquations.{type_of-Lit, type_of-Field, type_of-Binary}

-- an agent that counts its ticks and dies under a condition on the count
abbrev aging : Expr → Program
aging condition =
    script (record (class (codes "M") (pos 0) (pos 0) None None (state (codes "a") ty.Int (Some one_more) ∷ []) [] []) { die = Some condition } ∷ [])
  where
    one_more : Expr
    one_more = Binary op.Add (Some 0) (Field who.This 2) (Lit (Int (pos 1)))

abbrev aged : ℤ → World
aged a = world_of (agent 0 1 (pos 0) (pos 0) (Int a ∷ []) ∷ [])

abbrev is_old : Expr
is_old = Binary op.Ge None (Field who.This 2) (Lit (Int (pos 2)))

lives_on : (tick : ℕ) → step (aging is_old) 0 tick (aged (pos 1)) ≡ Ok (aged (pos 2))
lives_on tick = simp (value-Lit, value-Field, value-Binary)

-- the next free id stays when an agent dies
dies : (tick : ℕ) → step (aging is_old) 0 tick (aged (pos 2)) ≡ Ok (world_with [] 2)
dies tick = simp (value-Lit, value-Field, value-Binary)

stays_empty : (tick : ℕ) → step (aging is_old) 0 tick (world_with [] 2) ≡ Ok (world_with [] 2)
stays_empty tick = refl

-- the condition of `die` is evaluated with the rules, at sites behind theirs
abbrev divides : Expr
divides = Binary op.Gt None (Binary op.Div (Some 1) (Lit (Int (pos 1))) (Field who.This 2)) (Lit (Int (pos 0)))

faults_in_die : step (aging divides) 0 0 (aged (pos 0))
    ≡ Err (record { tick = 0; phase = Update; agent = 1; site = 1; outer = None; inner = None; kind = DivZero })
faults_in_die = simp (value-Lit, value-Field, value-Binary)

-- an agent that moves by 50.0 and dies to the right of 50.0
abbrev walking : Program
walking =
    script (record (class (codes "W") (pos 0) (pos 100000000) (Some (Binary op.Add (Some 0) (Field who.This 0) (Lit (Fixed (pos 50000000))))) None [] [] [])
    { die = Some (Binary op.Gt None (Field who.This 0) (Lit (Fixed (pos 50000000)))) } ∷ [])

abbrev walker : ℤ → World
walker x = world_of (agent 0 1 x (pos 0) [] ∷ [])

walks_on : step walking 0 0 (walker (pos 5000000)) ≡ Ok (walker (pos 55000000))
walks_on = simp (value-Lit, value-Field, value-Binary)

leaves : step walking 0 1 (walker (pos 55000000)) ≡ Ok (world_with [] 2)
leaves = simp (value-Lit, value-Field, value-Binary)

-- an agent whose first tick brings a child 5.0 to the right, as far as the reach of 1.0 allows
abbrev gift : ℕ → Expr → Gift
gift place value = record { state = place; value = value }

abbrev bears : List Gift → Spawn
bears gifts = record { when = Binary op.Eq None (Field who.This 2) (Lit (Int (pos 0))); gifts = gifts; site = 2 }

abbrev to_the_right : Gift
to_the_right = gift 0 (Binary op.Add (Some 1) (Field who.This 0) (Lit (Fixed (pos 5000000))))

abbrev bearing_class : List Gift → Class
bearing_class gifts =
    record (class (codes "B") (pos 0) (pos 1000000) None None (state (codes "a") ty.Int (Some (Binary op.Add (Some 0) (Field who.This 2) (Lit (Int (pos 1))))) ∷ []) [] [])
    { spawn = Some (bears gifts) }

abbrev bearing : Program
bearing = script (bearing_class (to_the_right ∷ gift 2 (Lit (Int (pos 7))) ∷ []) ∷ [])

abbrev bearer : ℕ → ℤ → ℤ → Agent
bearer id x a = agent 0 id x (pos 0) (Int a ∷ [])

-- children get the next free ids by the ranks of their parents
bears_children : step bearing 0 0 (world_of (bearer 4 (pos 0) (pos 0) ∷ bearer 9 (pos 2000000) (pos 0) ∷ []))
    ≡ Ok (world_with (bearer 4 (pos 0) (pos 1) ∷ bearer 9 (pos 2000000) (pos 1) ∷ bearer 10 (pos 1000000) (pos 7) ∷ bearer 11 (pos 3000000) (pos 7) ∷ []) 12)
bears_children = simp (value-Lit, value-Field, value-Binary)

-- a parent without a free id for its child faults at its `spawn`
has_no_id_left : step bearing 0 0 (world_of (bearer 9223372036854775807 (pos 0) (pos 0) ∷ []))
    ≡ Err (record { tick = 0; phase = Birth; agent = 9223372036854775807; site = 2; outer = None; inner = None; kind = TooMany })
has_no_id_left = simp (value-Lit, value-Field, value-Binary)

-- an agent that dies may have a child, which takes the next free id
abbrev is_young : Expr
is_young = Binary op.Eq None (Field who.This 2) (Lit (Int (pos 0)))

bears_and_dies : step (script (record (bearing_class []) { die = Some is_young } ∷ [])) 0 0 (world_with (bearer 4 (pos 0) (pos 0) ∷ []) 7)
    ≡ Ok (world_with (bearer 7 (pos 0) (pos 0) ∷ []) 8)
bears_and_dies = simp (value-Lit, value-Field, value-Binary)

-- a gift is of its state's type
mistyped_gift : LawfulClass (script (bearing_class (gift 0 (Lit (Int (pos 7))) ∷ []) ∷ [])) 0 (bearing_class (gift 0 (Lit (Int (pos 7))) ∷ [])) → ⊥
mistyped_gift lawful = true≢false (sym (simp (type_of-Lit, type_of-Field, type_of-Binary) at lawful.spawn_is_typed))

-- no state gets two gifts
abbrev given_twice : Class
given_twice = bearing_class (gift 2 (Lit (Int (pos 7))) ∷ gift 2 (Lit (Int (pos 8))) ∷ [])

gives_twice : LawfulClass (script (given_twice ∷ [])) 0 given_twice → ⊥
unfolding IsDistinct
gives_twice lawful = true≢false lawful.gifts_differ.0.0
