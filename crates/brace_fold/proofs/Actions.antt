-- What each action does in many scopes.
use Rattle.std.proofs.Common.{◌≡◌, ◌∙◌, refl, sym, ap, ap₂, subst, ℕ, suc, ℤ, pos, List, [], ◌∷◌, ◌++◌, map, flat_map, get_or, Bool, true, false, Ok, arith, append_assoc}
use Rattle.std.specs.Prelude.{not}
use Rattle.std.specs.Ordering.{int_eq}
use Rattle.std.specs.List.{All}
use Rattle.std.specs.List.Sorted.{IsPermutation}
use Rattle.std.proofs.lemmas.List.Elements.{All-nil, All-cons, All-head, All-tail}
use Rattle.brace_model.specs.declared.fault.Fault.{Fault}
use Rattle.brace_model.specs.declared.program.Ty.{Ty}
use Rattle.brace_model.specs.declared.program.Ty.TheVariants as ty
use Rattle.brace_model.specs.declared.program.Value.{Value}
use Rattle.brace_model.specs.declared.program.Value.TheVariants.{Flag}
use Rattle.brace_model.specs.declared.program.Who.{Who}
use Rattle.brace_model.specs.declared.world.Agent.{Agent}
use Rattle.brace_model.specs.Value.{Scope, Worth, agent_of, typed}
use Rattle.brace_model.specs.Query.{Deed, Saying, deed_of, silent, bound, closed, chosen, iterated, inside, saying}
use Rattle.brace_code.specs.declared.code.Code.{Code}
use Rattle.brace_code.specs.Codes.{gives, type_given}
use Rattle.brace_plan.specs.declared.action.Action.{Action}
use Rattle.brace_plan.specs.declared.action.Action.TheVariants.{Const, If, Foreach, Assign}
use Rattle.brace_plan.specs.declared.action.Bound.{Bound}
use Rattle.brace_plan.specs.Acts.{act, near_by}
use Rattle.brace_plan.proofs.Steps.{act-Const, act-If, act-Foreach, act-Assign}
use Rattle.brace_fold.specs.declared.crowd.Crowd.{Crowd}
use Rattle.brace_fold.specs.declared.scene.Scene.{Scene}
use Rattle.brace_fold.specs.declared.table.Table.{Table}
use Rattle.brace_fold.specs.inner.Crowds as crowds
use Rattle.brace_fold.specs.inner.Crowds.{Stands, bound_to, rows, world}
use Rattle.brace_fold.specs.inner.Deeds.{IsQuiet, Does, Leads, Worths, done_by, into}
use Rattle.brace_fold.specs.inner.Ears.{told_by}
use Rattle.brace_fold.specs.Hears.{Alike, Hears}
use Rattle.brace_fold.proofs.Alikes.{alike-refl, alike-trans, alike-append, alike-turned, hears-none, hears-more, hears-alike}
use Rattle.brace_fold.proofs.Doings.{does-loop, mapped-said}
use Rattle.brace_fold.proofs.Drawings.{mapped}
use Rattle.brace_fold.proofs.Movings.{alike-each, near-alike, near-none}

worth-first : (code : Code) (s : Scope) (scopes : List Scope) (w : ℤ) (words : List ℤ) → Worths code (s ∷ scopes) (w ∷ words) → gives code s ≡ Ok (typed (type_given code) w)
worth-first code s scopes w words h = h.each 0 s (omega arith)

worth-rest : (code : Code) (s : Scope) (scopes : List Scope) (w : ℤ) (words : List ℤ) → Worths code (s ∷ scopes) (w ∷ words) → Worths code scopes words
worth-rest code s scopes w words h = record {
  long = omega (arith, h.long);
  each = λ k d low. h.each (suc k) d (omega (arith, low));
}

no-words : (P : Type 0) (code : Code) (s : Scope) (scopes : List Scope) → Worths code (s ∷ scopes) [] → P
no-words P code s scopes h = absurd (omega (arith, h.long))

module _ (scene : Scene) where
  abbrev in_scene : Action → Scope → Deed
  in_scene = act scene.program.now (world scene)

  -- ---- constants

  module _ (n : ℕ) (code : Code) where
    const-is : (s : Scope) (w : ℤ) → gives code s ≡ Ok (typed (type_given code) w) → in_scene (Const n code) s ≡ silent (bound s n (typed (type_given code) w))
    const-is s w e = act-Const scene.program.now (world scene) n code s
        ∙ ap (λ (x : Worth). deed_of s x (λ v. silent (bound s n v))) e

    pub const-scopes : (scopes : List Scope) (words : List ℤ) → Worths code scopes words
        → map (λ s. (in_scene (Const n code) s).scope) scopes ≡ bound_to n (type_given code) scopes words
    const-scopes [] words h = refl
    const-scopes (s ∷ scopes) [] h = no-words _ code s scopes h
    const-scopes (s ∷ scopes) (w ∷ words) h =
        ap₂ (λ x l. x ∷ l) (ap (λ (d : Deed). d.scope) (const-is s w (worth-first code s scopes w words h)))
        (const-scopes scopes words (worth-rest code s scopes w words h))

    const-quiet : (scopes : List Scope) (words : List ℤ) → Worths code scopes words → All (λ s. IsQuiet (in_scene (Const n code) s)) scopes
    const-quiet [] words h = All-nil (λ s. IsQuiet (in_scene (Const n code) s))
    const-quiet (s ∷ scopes) [] h = no-words _ code s scopes h
    const-quiet (s ∷ scopes) (w ∷ words) h =
        All-cons (λ x. IsQuiet (in_scene (Const n code) x)) s scopes
        (subst IsQuiet (sym (const-is s w (worth-first code s scopes w words h))) (record { faults = refl; goes_on = refl }))
        (const-quiet scopes words (worth-rest code s scopes w words h))

    const-said : (scopes : List Scope) (words : List ℤ) → Worths code scopes words → flat_map (λ s. (in_scene (Const n code) s).said) scopes ≡ []
    const-said [] words h = refl
    const-said (s ∷ scopes) [] h = no-words _ code s scopes h
    const-said (s ∷ scopes) (w ∷ words) h =
        ap₂ (λ a b. a ++ b) (ap (λ (d : Deed). d.said) (const-is s w (worth-first code s scopes w words h)))
        (const-said scopes words (worth-rest code s scopes w words h))

    pub const-does : (scopes : List Scope) (words : List ℤ) (heard : Table) → Worths code scopes words → Does scene (in_scene (Const n code)) scopes heard heard
    const-does scopes words heard h = record {
      quiet = const-quiet scopes words h;
      hears = subst (λ l. Hears scene.program.now (rows scene) l heard heard) (sym (const-said scopes words h))
          (hears-none scene.program.now (rows scene) heard);
    }

  -- ---- values said

  module _ (who : Who) (effect : ℕ) (code : Code) where
    assign-is : (s : Scope) (w : ℤ) → gives code s ≡ Ok (typed (type_given code) w)
        → in_scene (Assign who effect code) s ≡ saying s (agent_of s who) effect (typed (type_given code) w)
    assign-is s w e =
        act-Assign scene.program.now (world scene) who effect code s
        ∙ ap (λ (x : Worth). deed_of s x (saying s (agent_of s who) effect)) e

    assign-quiet : (scopes : List Scope) (words : List ℤ) → Worths code scopes words → All (λ s. IsQuiet (in_scene (Assign who effect code) s)) scopes
    assign-quiet [] words h = All-nil (λ s. IsQuiet (in_scene (Assign who effect code) s))
    assign-quiet (s ∷ scopes) [] h = no-words _ code s scopes h
    assign-quiet (s ∷ scopes) (w ∷ words) h =
        All-cons (λ x. IsQuiet (in_scene (Assign who effect code) x)) s scopes
        (subst IsQuiet (sym (assign-is s w (worth-first code s scopes w words h))) (record { faults = refl; goes_on = refl }))
        (assign-quiet scopes words (worth-rest code s scopes w words h))

    assign-said : (scopes : List Scope) (words : List ℤ) → Worths code scopes words
        → flat_map (λ s. (in_scene (Assign who effect code) s).said) scopes ≡ told_by who effect (type_given code) scopes words
    assign-said [] words h = refl
    assign-said (s ∷ scopes) [] h = no-words _ code s scopes h
    assign-said (s ∷ scopes) (w ∷ words) h =
        ap₂ (λ a b. a ++ b) (ap (λ (d : Deed). d.said) (assign-is s w (worth-first code s scopes w words h)))
        (assign-said scopes words (worth-rest code s scopes w words h))

    assign-scopes : (scopes : List Scope) (words : List ℤ) → Worths code scopes words
        → map (λ s. (in_scene (Assign who effect code) s).scope) scopes ≡ scopes
    assign-scopes [] words h = refl
    assign-scopes (s ∷ scopes) [] h = no-words _ code s scopes h
    assign-scopes (s ∷ scopes) (w ∷ words) h =
        ap₂ (λ x l. x ∷ l) (ap (λ (d : Deed). d.scope) (assign-is s w (worth-first code s scopes w words h)))
        (assign-scopes scopes words (worth-rest code s scopes w words h))

    pub assign-leads : (crowd : Crowd) (scopes : List Scope) (words : List ℤ) (a b : Table)
        → Worths code scopes words → Stands scene crowd scopes
        → Hears scene.program.now (rows scene) (told_by who effect (type_given code) scopes words)
        a b
        → Leads scene (in_scene (Assign who effect code)) scopes crowd a b
    assign-leads crowd scopes words a b h stands said = record {
      does = record {
        quiet = assign-quiet scopes words h;
        hears = subst (λ l. Hears scene.program.now (rows scene) l a b)
            (sym (assign-said scopes words h)) said;
      };
      stands = subst (Stands scene crowd) (sym (assign-scopes scopes words h)) stands;
    }

  -- ---- conditions

  module _ (code : Code) (flag : type_given code ≡ ty.Bool) (x y : List Action) where
    abbrev first : Scope → Deed
    first = done_by scene x

    abbrev second : Scope → Deed
    second = done_by scene y

    -- the value of a word, by whether the word is 0
    abbrev flag_of : Bool → Value
    flag_of b = Flag (not b)

    picked : (s : Scope) (w : ℤ) (b : Bool) → gives code s ≡ Ok (typed (type_given code) w) → int_eq w (pos 0) ≡ b
        → in_scene (If code x y) s ≡ closed s (chosen (flag_of b) (first s) (second s))
    picked s w b e so =
        act-If scene.program.now (world scene) code x y s
        ∙ ap (λ (o : Worth). deed_of s o (λ v. closed s (chosen v (first s) (second s)))) (e ∙ ap (λ (t : Ty). let o : Worth = Ok (typed t w) in o) flag)
        ∙ ap (λ (c : Bool). closed s (chosen (flag_of c) (first s) (second s))) so

    -- what is said, scope by scope
    abbrev said_each : List Scope → List Saying
    said_each scopes = flat_map (λ s. (in_scene (If code x y) s).said) scopes

    module _ (s : Scope) (scopes : List Scope) (w : ℤ) (words : List ℤ) (h : Worths code (s ∷ scopes) (w ∷ words)) where
      heard-set : (b : Bool) → int_eq w (pos 0) ≡ b
          → Alike (flat_map (λ t. (first t).said) (crowds.chosen true scopes words) ++ flat_map (λ t. (second t).said) (crowds.chosen false scopes words)) (said_each scopes)
          → Alike (flat_map (λ t. (first t).said) (crowds.chosen true (s ∷ scopes) (w ∷ words)) ++ flat_map (λ t. (second t).said) (crowds.chosen false (s ∷ scopes) (w ∷ words))) (said_each (s ∷ scopes))
      heard-set false so rest =
          let e = worth-first code s scopes w words h in
          let fs = flat_map (λ t. (first t).said) (crowds.chosen true scopes words) in
          let gs = flat_map (λ t. (second t).said) (crowds.chosen false scopes words) in
          let here : (first s).said ≡ (in_scene (If code x y) s).said = ap (λ (d : Deed). d.said) (sym (picked s w false e so)) in
          let joined : Alike ((first s).said ++ (fs ++ gs)) (said_each (s ∷ scopes)) =
          subst (λ l. Alike ((first s).said ++ (fs ++ gs)) (l ++ said_each scopes)) here (alike-append (first s).said (first s).said (fs ++ gs) (said_each scopes) (alike-refl (first s).said) rest) in
          rw so (subst (λ l. Alike l (said_each (s ∷ scopes))) (sym (append_assoc (first s).said fs gs)) joined)
      heard-set true so rest =
          let e = worth-first code s scopes w words h in
          let fs = flat_map (λ t. (first t).said) (crowds.chosen true scopes words) in
          let gs = flat_map (λ t. (second t).said) (crowds.chosen false scopes words) in
          let here : (second s).said ≡ (in_scene (If code x y) s).said = ap (λ (d : Deed). d.said) (sym (picked s w true e so)) in
          let joined : Alike ((second s).said ++ (fs ++ gs)) (said_each (s ∷ scopes)) =
          subst (λ l. Alike ((second s).said ++ (fs ++ gs)) (l ++ said_each scopes)) here (alike-append (second s).said (second s).said (fs ++ gs) (said_each scopes) (alike-refl (second s).said) rest) in
          let moved : Alike (fs ++ ((second s).said ++ gs)) ((second s).said ++ (fs ++ gs)) =
          subst (λ l. Alike l ((second s).said ++ (fs ++ gs))) (append_assoc fs (second s).said gs)
          (subst (Alike ((fs ++ (second s).said) ++ gs)) (append_assoc (second s).said fs gs)
          (alike-append (fs ++ (second s).said) ((second s).said ++ fs) gs gs (alike-turned fs (second s).said) (alike-refl gs))) in
          rw so (alike-trans _ _ _ moved joined)

      quiet-set : (b : Bool) → int_eq w (pos 0) ≡ b → All (λ t. IsQuiet (first t)) (crowds.chosen true (s ∷ scopes) (w ∷ words))
          → All (λ t. IsQuiet (second t)) (crowds.chosen false (s ∷ scopes) (w ∷ words))
          → IsQuiet (in_scene (If code x y) s) × All (λ t. IsQuiet (first t)) (crowds.chosen true scopes words) × All (λ t. IsQuiet (second t)) (crowds.chosen false scopes words)
      quiet-set false so p q =
          let e = worth-first code s scopes w words h in
          let p' = rw so at p in
          let q' = rw so at q in
          let head = All-head (λ t. IsQuiet (first t)) s (crowds.chosen true scopes words) p' in (
            subst IsQuiet (sym (picked s w false e so)) (record { faults = head.faults; goes_on = head.goes_on }),
            All-tail (λ t. IsQuiet (first t)) s (crowds.chosen true scopes words) p',
            q',
          )
      quiet-set true so p q =
          let e = worth-first code s scopes w words h in
          let p' = rw so at p in
          let q' = rw so at q in
          let head = All-head (λ t. IsQuiet (second t)) s (crowds.chosen false scopes words) q' in (
            subst IsQuiet (sym (picked s w true e so)) (record { faults = head.faults; goes_on = head.goes_on }),
            p',
            All-tail (λ t. IsQuiet (second t)) s (crowds.chosen false scopes words) q',
          )

      scope-set : (b : Bool) → int_eq w (pos 0) ≡ b → (in_scene (If code x y) s).scope ≡ s
      scope-set b so = ap (λ (d : Deed). d.scope) (picked s w b (worth-first code s scopes w words h) so)

    if-said : (scopes : List Scope) (words : List ℤ) → Worths code scopes words
        → Alike (flat_map (λ t. (first t).said) (crowds.chosen true scopes words) ++ flat_map (λ t. (second t).said) (crowds.chosen false scopes words)) (said_each scopes)
    if-said [] words h = alike-refl []
    if-said (s ∷ scopes) [] h = no-words _ code s scopes h
    if-said (s ∷ scopes) (w ∷ words) h = heard-set s scopes w words h (int_eq w (pos 0)) refl (if-said scopes words (worth-rest code s scopes w words h))

    if-quiet : (scopes : List Scope) (words : List ℤ) → Worths code scopes words → All (λ t. IsQuiet (first t)) (crowds.chosen true scopes words)
        → All (λ t. IsQuiet (second t)) (crowds.chosen false scopes words) → All (λ t. IsQuiet (in_scene (If code x y) t)) scopes
    if-quiet [] words h p q = All-nil (λ t. IsQuiet (in_scene (If code x y) t))
    if-quiet (s ∷ scopes) [] h p q = no-words _ code s scopes h
    if-quiet (s ∷ scopes) (w ∷ words) h p q =
        let (here, p', q') = quiet-set s scopes w words h (int_eq w (pos 0)) refl p q in
        All-cons (λ t. IsQuiet (in_scene (If code x y) t)) s scopes here (if-quiet scopes words (worth-rest code s scopes w words h) p' q')

    pub if-scopes : (scopes : List Scope) (words : List ℤ) → Worths code scopes words → map (λ s. (in_scene (If code x y) s).scope) scopes ≡ scopes
    if-scopes [] words h = refl
    if-scopes (s ∷ scopes) [] h = no-words _ code s scopes h
    if-scopes (s ∷ scopes) (w ∷ words) h =
        ap₂ (λ t l. t ∷ l) (scope-set s scopes w words h (int_eq w (pos 0)) refl) (if-scopes scopes words (worth-rest code s scopes w words h))

    pub if-does : (scopes : List Scope) (words : List ℤ) (a b c : Table) → Worths code scopes words
        → Does scene first (crowds.chosen true scopes words) a b → Does scene second (crowds.chosen false scopes words) b c
        → Does scene (in_scene (If code x y)) scopes a c
    if-does scopes words a b c h p q = record {
      quiet = if-quiet scopes words h p.quiet q.quiet;
      hears = hears-alike scene.program.now (rows scene) _ _ a c (if-said scopes words h)
          (hears-more scene.program.now (rows scene) _ _ a b c p.hears q.hears);
    }

  -- ---- loops

  module _ (class : ℕ) (bounds : List Bound) (body : List Action) (offset : ℕ) where
    abbrev enters : Scope → List Scope
    enters = into scene class bounds

    -- what the loop does at an agent
    abbrev at_agent : Scope → Agent → Deed
    at_agent s b = done_by scene body (inside s b)

    -- what the loop does in the order of the rows
    abbrev looped : Scope → Deed
    looped s = iterated s (map (done_by scene body) (enters s))

    loop-is : (s : Scope) → in_scene (Foreach class bounds body offset) s
        ≡ iterated s (map (at_agent s) (near_by scene.program.now (world scene) s class bounds))
    loop-is s = act-Foreach scene.program.now (world scene) class bounds body offset s

    looped-is : (s : Scope) → looped s ≡ iterated s (map (at_agent s) (near_by scene.program.now (rows scene) s class bounds))
    looped-is s = ap (iterated s) (mapped (inside s) (done_by scene body) (near_by scene.program.now (rows scene) s class bounds))

    module _ (moved : IsPermutation (rows scene) (world scene)) where
      loop-quiet : (s : Scope) → IsQuiet (looped s) → IsQuiet (in_scene (Foreach class bounds body offset) s)
      loop-quiet s h =
          let near = near_by scene.program.now (rows scene) s class bounds in
          let all = near_by scene.program.now (world scene) s class bounds in
          let faults : Deed → List Fault = λ d. d.faults in
          let none : flat_map (λ b. (at_agent s b).faults) near ≡ [] =
          sym (mapped-said (at_agent s) faults near) ∙ ap faults (sym (looped-is s)) ∙ h.faults in
          subst IsQuiet (sym (loop-is s)) (record {
            faults = mapped-said (at_agent s) faults all
                ∙ near-none scene.program.now (rows scene) (world scene) moved s class bounds
                (λ b. (at_agent s b).faults) none;
            goes_on = refl;
          })

      loop-alike : (s : Scope) → Alike (looped s).said (in_scene (Foreach class bounds body offset) s).said
      loop-alike s =
          let near = near_by scene.program.now (rows scene) s class bounds in
          let all = near_by scene.program.now (world scene) s class bounds in
          let said : Deed → List Saying = λ d. d.said in
          let first : flat_map (λ b. (at_agent s b).said) near ≡ (looped s).said =
          sym (mapped-said (at_agent s) said near) ∙ ap said (sym (looped-is s)) in
          let second : flat_map (λ b. (at_agent s b).said) all ≡ (in_scene (Foreach class bounds body offset) s).said =
          sym (mapped-said (at_agent s) said all) ∙ ap said (sym (loop-is s)) in
          subst (λ l. Alike l (in_scene (Foreach class bounds body offset) s).said) first
          (subst (Alike (flat_map (λ b. (at_agent s b).said) near)) second
          (near-alike scene.program.now (rows scene) (world scene) moved s class bounds
          (λ b. (at_agent s b).said)))

      pub loop-does : (scopes : List Scope) (a b : Table) → Does scene (done_by scene body) (flat_map enters scopes) a b
          → Does scene (in_scene (Foreach class bounds body offset)) scopes a b
      loop-does scopes a b h =
          let each = does-loop scene (done_by scene body) enters scopes a b h in
          record {
            quiet = λ k d low. loop-quiet (get_or scopes k d) (each.quiet k d low);
            hears = hears-alike scene.program.now (rows scene) _ _ a b
                (alike-each (λ s. (looped s).said) (λ s. (in_scene (Foreach class bounds body offset) s).said) loop-alike scopes) each.hears;
          }

    pub loop-scopes : (scopes : List Scope) → map (λ s. (in_scene (Foreach class bounds body offset) s).scope) scopes ≡ scopes
    loop-scopes [] = refl
    loop-scopes (s ∷ scopes) = ap₂ (λ t l. t ∷ l) (ap (λ (d : Deed). d.scope) (loop-is s)) (loop-scopes scopes)
