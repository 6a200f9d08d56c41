-- Text that is appended group by group of lines.
use Rattle.std.proofs.Common.{◌≡◌, ◌∙◌, ℕ, Bool, true, false, List, [], ◌∷◌, ◌++◌, map, flat_map, refl, ap, sym, append-nil, append_assoc}
use Rattle.brace_model.specs.declared.world.Agent.{Agent}
use Rattle.brace_model.specs.declared.program.Class.{Class}
use Rattle.brace_model.specs.declared.program.Program.{Program}
use Rattle.brace_model.specs.World.{world_with}
use Rattle.brace_model.specs.Published.{agent_text}
use Rattle.brace_save.specs.Texts.{Moment, class_line, end_line, heading, lines, text}

pub text_both : (a b : List (List ℕ)) → text (a ++ b) ≡ text a ++ text b
text_both [] b = refl
text_both (l ∷ a) b = ap (λ t. (l ++ 10 ∷ []) ++ t) (text_both a b) ∙ sym (append_assoc (l ++ 10 ∷ []) (text a) (text b))

text_of : {X : Type 0} (f : X → List ℕ) (xs : List X) → text (map f xs) ≡ flat_map (λ x. f x ++ 10 ∷ []) xs
text_of f [] = refl
text_of f (x ∷ xs) = ap (λ t. (f x ++ 10 ∷ []) ++ t) (text_of f xs)

-- some lines more
lines_more : (out a b : List ℕ) (start more : List (List ℕ)) → a ≡ out ++ text start → b ≡ a ++ text more → b ≡ out ++ text (start ++ more)
lines_more out a b start more p q =
    q ∙ ap (λ l. l ++ text more) p ∙ append_assoc out (text start) (text more) ∙ ap (λ l. out ++ l) (sym (text_both start more))

-- the lines before those of classes tell nothing of the agents
pub heading_alike : (tells_next : Bool) (tick seed next : ℕ) (agents : List Agent)
    → heading tells_next (record { tick = tick; seed = seed; world = world_with [] next })
    ≡ heading tells_next (record { tick = tick; seed = seed; world = world_with agents next })
heading_alike true tick seed next agents = refl
heading_alike false tick seed next agents = refl

-- the lines of a checkpoint, group by group
pub checkpoint_appended : (program : Program) (tells_next : Bool) (m : Moment) (out a b c d : List ℕ) → a ≡ out ++ text (heading tells_next m)
    → b ≡ a ++ flat_map (λ (k : Class). class_line k ++ 10 ∷ []) program.classes → c ≡ b ++ flat_map (λ (g : Agent). agent_text program g ++ 10 ∷ []) m.world.agents
    → d ≡ (c ++ end_line m.world.agents) ++ 10 ∷ [] → d ≡ out ++ text (lines program tells_next m)
checkpoint_appended program tells_next m out a b c d p q r s =
    let first = heading tells_next m in
    let classes = map class_line program.classes in
    let agents = map (agent_text program) m.world.agents in
    let end = end_line m.world.agents in
    let one : d ≡ c ++ text (end ∷ []) = s ∙ append_assoc c end (10 ∷ []) ∙ ap (λ l. c ++ l) (sym (append-nil (end ++ 10 ∷ []))) in
    lines_more out c d ((first ++ classes) ++ agents) (end ∷ [])
    (lines_more out b c (first ++ classes) agents
    (lines_more out a b first classes p (q ∙ ap (λ t. a ++ t) (sym (text_of class_line program.classes))))
    (r ∙ ap (λ t. b ++ t) (sym (text_of (agent_text program) m.world.agents))))
    one
