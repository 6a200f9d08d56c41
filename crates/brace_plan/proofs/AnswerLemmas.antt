-- Answers that have what deeds say, and their faults.
use Rattle.std.proofs.Common.{◌≡◌, ◌∙◌, sym, refl, ap, subst, ℕ, ◌<◌, List, [], ◌∷◌, ◌++◌, map, fold, length, Option, Some, None, Ok, Err, true, false, append_assoc, append-nil}
use Rattle.std.specs.Result.{result_ok}
use Rattle.std.specs.Prelude.{slice_get, option_map, unwrap_or}
use Rattle.std.proofs.lemmas.List.{map-append}
use Rattle.std.proofs.lemmas.List.Elements.{All-same, All-push}
use Rattle.std.proofs.lemmas.Option.{slice_get_within}
use Rattle.std.proofs.lemmas.List.Sums.{fold-append}
use Rattle.brace_model.specs.declared.program.Value.{Value}
use Rattle.brace_model.specs.declared.program.Value.TheVariants.{Flag}
use Rattle.brace_model.specs.declared.fault.Fault.{Fault}
use Rattle.brace_model.specs.declared.fault.Stop.{Stop}
use Rattle.brace_model.specs.declared.world.Agent.{Agent}
use Rattle.brace_model.specs.FaultOrder.{least, earlier, with_earlier}
use Rattle.brace_model.specs.Value.{Scope, Worth}
use Rattle.brace_model.specs.Query.{Saying, Deed, silent, halted, query_fault, deed_of, closed, chosen, saying}
use Rattle.brace_model.proofs.Deeds.{after}
use Rattle.brace_plan.specs.declared.answer.Said.{Said}
use Rattle.brace_plan.specs.declared.answer.Answer.{Answer}
use Rattle.brace_plan.specs.declared.seat.Scene.{Scene}
use Rattle.brace_plan.specs.Answers.{saying_of}
use Rattle.brace_plan.specs.inner.Walks.{Adds, with_faults, is_true}

-- a value chooses by whether it is true
chosen-first : (v : Value) (a b : Deed) → is_true v ≡ true → chosen v a b ≡ a
chosen-first (Flag true) a b e = refl
chosen-first _ a b e = absurd (cc)

chosen-second : (v : Value) (a b : Deed) → is_true v ≡ false → chosen v a b ≡ b
chosen-second (Flag true) a b e = absurd (cc)
chosen-second _ a b e = refl

module _ (scene : Scene) where
  -- nothing is added
  pub adds-nothing : (scope : Scope) (a : Answer) → Adds scene (silent scope) a a
  adds-nothing scope a = record { said = sym (append-nil _); fault = refl; placed = λ all. all }

  -- deeds that say and fault alike
  pub adds-alike : (d e : Deed) (a b : Answer) → d.said ≡ e.said → d.faults ≡ e.faults → Adds scene d a b → Adds scene e a b
  adds-alike d e a b said faults h = record {
    said = h.said ∙ ap (λ (l : List Saying). map (saying_of scene.agents.now) a.said.items ++ l) said;
    fault = h.fault ∙ ap (with_faults a.fault) faults;
    placed = h.placed;
  }

  -- what one deed adds, and then another
  pub adds-then : (d e : Deed) (a b c : Answer) → Adds scene d a b → Adds scene e b c → Adds scene (after d e) a c
  adds-then d e a b c first second = record {
    said = second.said ∙ ap (λ (l : List Saying). l ++ e.said) first.said
        ∙ append_assoc (map (saying_of scene.agents.now) a.said.items) d.said e.said;
    fault = second.fault ∙ ap (λ (o : Option Fault). with_faults o e.faults) first.fault
        ∙ sym (fold-append (λ found f. Some (with_earlier found f)) a.fault d.faults e.faults);
    placed = λ all. second.placed (first.placed all);
  }

  -- a value, and what is done with it
  pub adds-value : (scope : Scope) (w : Worth) (f : Value → Deed) (v : Value) (a b c : Answer) → result_ok w ≡ Some v
      → Adds scene (deed_of scope w (λ u. silent scope)) a b → Adds scene (f v) b c → Adds scene (deed_of scope w f) a c
  adds-value scope (Ok u) f v a b c is first second =
      let same : v ≡ u = cc in
      adds-alike (after (silent scope) (f u)) (f u) a c refl refl
      (adds-then (silent scope) (f u) a b c first (subst (λ (x : Value). Adds scene (f x) b c) same second))
  adds-value scope (Err stop) f v a b c is first second = absurd (cc)

  -- what a value chooses, in a block of its own
  pub adds-first : (scope : Scope) (v : Value) (x y : Deed) (a b : Answer) → is_true v ≡ true → Adds scene x a b → Adds scene (closed scope (chosen v x y)) a b
  adds-first scope v x y a b is h =
      let same = sym (chosen-first v x y is) in
      adds-alike x (closed scope (chosen v x y)) a b (ap (λ (d : Deed). d.said) same) (ap (λ (d : Deed). d.faults) same) h

  pub adds-second : (scope : Scope) (v : Value) (x y : Deed) (a b : Answer) → is_true v ≡ false → Adds scene y a b → Adds scene (closed scope (chosen v x y)) a b
  adds-second scope v x y a b is h =
      let same = sym (chosen-second v x y is) in
      adds-alike y (closed scope (chosen v x y)) a b (ap (λ (d : Deed). d.said) same) (ap (λ (d : Deed). d.faults) same) h

  -- a fault is noted
  pub adds-fault : (scope : Scope) (stop : Stop) (a b : Answer) → b.said ≡ a.said
      → b.fault ≡ Some (with_earlier a.fault (query_fault scope stop)) → Adds scene (halted scope stop) a b
  adds-fault scope stop a b said fault = record {
    said = ap (λ v. map (saying_of scene.agents.now) v.items) said ∙ sym (append-nil _);
    fault = fault;
    placed = λ all. All-same (λ (s : Said). s.place < length scene.agents.now) b.said.items a.said.items (ap (λ v. v.items) said) all;
  }

  -- one value is said
  pub adds-saying : (scope : Scope) (b : Agent) (place field : ℕ) (v : Value) (a c : Answer)
      → slice_get scene.agents.now place ≡ Some b
      → c.said.items ≡ a.said.items ++ record { place = place; field = field; value = v } ∷ [] → c.fault ≡ a.fault
      → Adds scene (saying scope b field v) a c
  adds-saying scope b place field v a c at more same =
      let one : Said = record { place = place; field = field; value = v } in
      let here : Said → Type 0 = λ s. s.place < length scene.agents.now in
      let told : saying_of scene.agents.now one ≡ record { target = b.id; field = field; value = v } =
      ap (λ (o : Option Agent). record { target = unwrap_or (option_map (λ (x : Agent). x.id) o) 0; field = field; value = v }) at in
      record {
        said = ap (map (saying_of scene.agents.now)) more ∙ map-append (saying_of scene.agents.now) a.said.items (one ∷ [])
            ∙ ap (λ (s : Saying). map (saying_of scene.agents.now) a.said.items ++ s ∷ []) told;
        fault = same;
        placed = λ all. All-same here c.said.items (a.said.items ++ one ∷ []) more
            (All-push here a.said.items one all (slice_get_within scene.agents.now place b at));
      }

-- an answer that has nothing gets the least of some faults
pub least-faults : (faults : List Fault) → with_faults None faults ≡ least faults
least-faults [] = refl
least-faults (f ∷ faults) = from f faults
  where
    from : (f : Fault) (faults : List Fault) → with_faults (Some f) faults ≡ Some (fold earlier f faults)
    from f [] = refl
    from f (g ∷ faults) = from (earlier f g) faults
