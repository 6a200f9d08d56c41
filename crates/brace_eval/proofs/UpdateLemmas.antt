-- What outcomes come to, one after another: their values, and the stop of the least site.
use Rattle.std.proofs.Common.{◌≡◌, ◌∙◌, sym, ap, subst, refl, ℕ, ℤ, ◌+◌, ◌<◌, ◌≤◌, List, [], ◌∷◌, ◌++◌, length, take, get_or, map, filter_map, zip, Option, Some, None, Result, Ok, Err, arith, add-one, min, append_assoc}
use Rattle.std.specs.Result.{result_ok, result_err}
use Rattle.std.specs.List.{reduce}
use Rattle.std.proofs.lemmas.Slice.Zip.{get_or-zip, length-zip}
use Rattle.std.proofs.lemmas.List.{take_all, map-append, append-nil}
use Rattle.std.proofs.lemmas.List.Elements.{filter_map-append}
use Rattle.std.proofs.lemmas.List.Sums.{fold-append}
use Rattle.std.proofs.Math.Seq.{take-suc}
use Rattle.brace_model.specs.declared.program.Value.{Value}
use Rattle.brace_model.specs.declared.fault.Stop.{Stop}
use Rattle.std.specs.Prelude.{option_copied, if◌then◌else◌}
use Rattle.brace_model.specs.declared.job.Env.{Env}
use Rattle.brace_model.specs.Value.{Worth, Scope}
use Rattle.brace_model.specs.declared.program.Class.{Class}
use Rattle.brace_model.specs.declared.program.State.{State}
use Rattle.brace_model.specs.declared.fault.Fault.{Fault}
use Rattle.brace_model.specs.declared.world.Agent.{Agent}
use Rattle.brace_model.specs.Query.{opening_scope}
use Rattle.brace_model.specs.Next.{Next, earlier_stop, with_stop, first_stop, values_of, rules_in, condition_in, spawns_in, gifts_in, update_in, update_fault, unless_stopped, left_by, next_of, holds, changed, child_in}
use Rattle.brace_eval.specs.inner.Updates.{with_one, Meets, worths}

-- the pair at a place, and one pair more
pub zip-more : {A B C : Type 0} (f : A × B → C) (xs : List A) (ys : List B) (i : ℕ) (x : A) (y : B) → i < length xs → i < length ys
    → map f (take (i + 1) (zip xs ys)) ≡ map f (take i (zip xs ys)) ++ f (get_or xs i x, get_or ys i y) ∷ []
zip-more f xs ys i x y a b =
    let within : i < length (zip xs ys) = rw (length-zip xs ys) (omega arith) in
    let front : take (i + 1) (zip xs ys) ≡ take i (zip xs ys) ++ get_or (zip xs ys) i (x, y) ∷ [] =
    ap (λ (n : ℕ). take n (zip xs ys)) (add-one i) ∙ take-suc (zip xs ys) i (x, y) within in
    ap (map f) front ∙ map-append f (take i (zip xs ys)) _
    ∙ ap (λ p. map f (take i (zip xs ys)) ++ f p ∷ []) (get_or-zip xs ys i (x, y) a b)

pub zip-all : {A B C : Type 0} (f : A × B → C) (xs : List A) (ys : List B) (i : ℕ) → min (length xs) (length ys) ≤ i
    → map f (take i (zip xs ys)) ≡ map f (zip xs ys)
zip-all f xs ys i le = ap (map f) (take_all i (zip xs ys) (rw (length-zip xs ys) le))

-- ---- one outcome more

pub values-more : (ws : List Worth) (w : Worth) (o : Option Value) → o ≡ result_ok w
    → values_of (ws ++ w ∷ []) ≡ with_one (values_of ws) o
values-more ws (Ok v) o is =
    filter_map-append result_ok ws (Ok v ∷ []) ∙ ap (with_one (values_of ws)) (sym is)
values-more ws (Err stop) o is =
    filter_map-append result_ok ws (Err stop ∷ []) ∙ append-nil _ ∙ ap (with_one (values_of ws)) (sym is)

reduce-more : {A : Type 0} (f : A → A → A) (xs : List A) (x : A) (join : Option A → A → A) → (join None x ≡ x)
    → ((y : A) → join (Some y) x ≡ f y x) → reduce f (xs ++ x ∷ []) ≡ Some (join (reduce f xs) x)
reduce-more f [] x join none some = ap Some (sym none)
reduce-more f (y ∷ xs) x join none some = ap Some (fold-append f y xs (x ∷ []) ∙ sym (some _))

pub stop-ok : (ws : List Worth) (v : Value) → first_stop (ws ++ Ok v ∷ []) ≡ first_stop ws
stop-ok ws v = ap (reduce earlier_stop) (filter_map-append result_err ws (Ok v ∷ []) ∙ append-nil _)

stop-err : (ws : List Worth) (stop : Stop) → first_stop (ws ++ Err stop ∷ []) ≡ Some (with_stop (first_stop ws) stop)
stop-err ws stop =
    ap (reduce earlier_stop) (filter_map-append result_err ws (Err stop ∷ []))
    ∙ reduce-more earlier_stop (filter_map result_err ws) stop with_stop refl (λ y. refl)

pub meets-ok : (v : Value) (first : Option Stop) → Meets (Ok v ∷ []) first first
meets-ok v first met is = is ∙ sym (stop-ok met v)

pub meets-err : (stop : Stop) (first : Option Stop) → Meets (Err stop ∷ []) first (Some (with_stop first stop))
meets-err stop first met is =
    ap (λ (o : Option Stop). Some (with_stop o stop)) is ∙ sym (stop-err met stop)

pub meets-then : (xs ys : List Worth) (a b c : Option Stop) → Meets xs a b → Meets ys b c → Meets (xs ++ ys) a c
meets-then xs ys a b c first second met is =
    second (met ++ xs) (first met is) ∙ ap first_stop (append_assoc met xs ys)

-- the scope of an environment, by the seed alone
abbrev pub scope_from : Env → ℕ → Scope
scope_from env seed = record {
  tick = env.tick;
  seed = seed;
  this = env.this.now;
  outer = option_copied env.outer;
  inner = option_copied env.inner;
  locals = env.locals.now;
  totals = env.totals.now;
}

-- ---- an agent of a class

module _ (scope : Scope) (class : Class) (a : Agent) where
  abbrev ok : Next → Result Next Fault
  ok n = Ok n

  -- the stop of an update, once all of it was evaluated
  pub all-met : (b c d : Option Stop) → Meets (rules_in scope class a) None b → Meets (condition_in scope class.die ∷ []) b c
      → Meets (spawns_in scope class.spawn ∷ gifts_in scope class.spawn) c d → d ≡ first_stop (update_in scope class a)
  all-met b c d rules dies spawns =
      let births = spawns_in scope class.spawn ∷ gifts_in scope class.spawn in
      meets-then (rules_in scope class a) (condition_in scope class.die ∷ births) None b d rules
      (meets-then (condition_in scope class.die ∷ []) births b c d dies spawns) [] refl

  pub next-stopped : (tick : ℕ) (stop : Stop) → first_stop (update_in scope class a) ≡ Some stop
      → next_of tick class a scope ≡ Err (update_fault tick a stop)
  next-stopped tick stop is = ap (λ (s : Option Stop). unless_stopped tick a s (left_by scope class a)) is

  pub next-left : (tick : ℕ) (agent child : Option Agent) → first_stop (update_in scope class a) ≡ None
      → agent ≡ (if holds (condition_in scope class.die) then None else Some (changed class a (values_of (rules_in scope class a))))
      → child ≡ child_in scope class a class.spawn
      → next_of tick class a scope ≡ Ok (record { agent = agent; child = child })
  next-left tick agent child is lives born =
      let left : left_by scope class a ≡ record { agent = agent; child = child } = λ i. record { agent = sym lives i; child = sym born i } in
      ap (λ (s : Option Stop). unless_stopped tick a s (left_by scope class a)) is ∙ ap ok left

-- the stop of an update, by what its parts told of it
module _ (seed tick : ℕ) (totals : List ℤ) (class : Class) (a : Agent) where
  abbrev scope_by : ℕ → Scope
  scope_by n = opening_scope n tick [] totals a

  pub all-told : (states : List State) (values : List Value) (n m : ℕ) (b c d : Option Stop)
      → states ≡ class.states → values ≡ a.states → n ≡ seed → m ≡ seed
      → Meets (worths (scope_by seed) states values) None b
      → Meets (condition_in (scope_by n) class.die ∷ []) b c
      → Meets (spawns_in (scope_by m) class.spawn ∷ gifts_in (scope_by m) class.spawn) c d
      → d ≡ first_stop (update_in (scope_by seed) class a)
  all-told states values n m b c d states_are values_are before between rules dies spawns =
      all-met (scope_by seed) class a b c d
      (subst (λ (vs : List Value). Meets (worths (scope_by seed) class.states vs) None b) values_are
      (subst (λ (ss : List State). Meets (worths (scope_by seed) ss values) None b) states_are rules))
      (subst (λ (k : ℕ). Meets (condition_in (scope_by k) class.die ∷ []) b c) before dies)
      (subst (λ (k : ℕ). Meets (spawns_in (scope_by k) class.spawn ∷ gifts_in (scope_by k) class.spawn) c d) between spawns)
