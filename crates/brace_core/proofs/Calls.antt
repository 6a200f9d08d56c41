-- When a take is enabled, and one event more.
use Rattle.std.proofs.Common.{◌≡◌, ℕ, ◌+◌, ◌<◌, true, nat_lt, List, [], ◌∷◌, ◌++◌, length, refl, sym, ap, ◌∙◌, subst, arith, inl, inr}
use Rattle.std.specs.List.{filter, list_any}
use Rattle.std.proofs.lemmas.Bool.{and_parts, and_from, lt-ltb, le-ltb, cases_lt, cases_Bool}
use Rattle.std.proofs.lemmas.List.{length-append}
use Rattle.std.proofs.lemmas.List.Elements.{filter-append}
use Rattle.brace_core.specs.declared.name.Name.{Name}
use Rattle.brace_core.specs.declared.name.Turn.{Turn}
use Rattle.brace_core.specs.declared.name.Turn.TheVariants.{Take}
use Rattle.brace_core.specs.Schedule.{Schedule, IsLawful}
use Rattle.brace_core.specs.Events.{State, opening, is_name, next, is_enabled, after, are_enabled, after_all, turns_made, IsRun, end_of, put_on, taken_from, in_flight, is_on, names_put, names_taken}
use Rattle.brace_core.proofs.Turns.{names_put-append, names_taken-append}
use Rattle.brace_core.proofs.ActorTurns.{take_own}
use Rattle.brace_core.proofs.Runs.{put_by_now, taken_by_now, some_in_flight}
use Rattle.brace_core.proofs.CoreLaw.{lawful_steps, kept, put_is, taken_is, flown_is, take_ready}
use Rattle.brace_core.proofs.LaneLemmas.{is_on_itself}

-- a name that an actor takes next is in flight exactly where more names of its lane were put than taken
pub take_is_found : (s : Schedule) (events : List ℕ) → IsLawful s → IsRun s events → (p : ℕ) (n : Name) → next s (end_of s events) p ≡ Take n →
    list_any (is_name n) (end_of s events).flight ≡ nat_lt (length (taken_from s events n.from n.to)) (length (put_on s events n.from n.to))
take_is_found s events lawful run p n is =
    let x : State = end_of s events in
    let count : length (put_on s events n.from n.to) ≡ length (taken_from s events n.from n.to) + length (in_flight s events n.from n.to) =
    ap length (flown_is s events lawful run n.from n.to) ∙ length-append (taken_from s events n.from n.to) (in_flight s events n.from n.to) in
    elim (cases_Bool (list_any (is_name n) x.flight)) [
      | inl found ↦
          let (first, rest, flies) = some_in_flight n.from n.to n x.flight (is_on_itself n) found in
          found ∙ sym (lt-ltb _ _ (omega (arith, ap length flies)))
      | inr missed ↦ elim (cases_lt (length (taken_from s events n.from n.to)) (length (put_on s events n.from n.to))) [
        | inl more ↦
            let more' : length (taken_by_now s x n.from p) < length (put_by_now s x n.from p) =
            subst (λ q. length (taken_by_now s x n.from q) < length (put_by_now s x n.from q)) (take_own s p (x.place p) (lawful_steps s lawful) n is)
            (omega (arith, ap length (put_is s events lawful run n.from n.to), ap length (taken_is s events lawful run n.from n.to))) in
            let found : list_any (is_name n) x.flight ≡ true = take_ready s (lawful_steps s lawful) x (kept s events lawful run) p n is more' in
            absurd cc
        | inr no_more ↦ missed ∙ sym (le-ltb _ _ no_more)
      ]
    ]

-- one event more at the end of a run
pub end_more : (s : Schedule) (x : State) (events : List ℕ) (p : ℕ) → after_all s x (events ++ p ∷ []) ≡ after s (after_all s x events) p
end_more s x [] p = refl
end_more s x (e ∷ events) p = end_more s (after s x e) events p

made_more : (s : Schedule) (x : State) (events : List ℕ) (p : ℕ) → turns_made s x (events ++ p ∷ []) ≡ turns_made s x events ++ next s (after_all s x events) p ∷ []
made_more s x [] p = refl
made_more s x (e ∷ events) p = ap (λ ts. next s x e ∷ ts) (made_more s (after s x e) events p)

pub run_more : (s : Schedule) (x : State) (events : List ℕ) (p : ℕ) → are_enabled s x events ≡ true → is_enabled s (after_all s x events) p ≡ true → are_enabled s x (events ++ p ∷ []) ≡ true
run_more s x [] p run ok = and_from (is_enabled s x p) true ok refl
run_more s x (e ∷ events) p run ok =
    let (now, later) = and_parts (is_enabled s x e) (are_enabled s (after s x e) events) run in
    and_from (is_enabled s x e) _ now (run_more s (after s x e) events p later ok)

pub put_on_more : (s : Schedule) (events : List ℕ) (e p q : ℕ) →
    length (put_on s (events ++ e ∷ []) p q) ≡ length (put_on s events p q) + length (filter (is_on p q) (names_put (next s (end_of s events) e ∷ [])))
put_on_more s events e p q =
    let t : Turn = next s (end_of s events) e in
    ap (λ ts. length (filter (is_on p q) (names_put ts))) (made_more s opening events e)
    ∙ ap (λ ns. length (filter (is_on p q) ns)) (names_put-append (turns_made s opening events) (t ∷ []))
    ∙ ap length (filter-append (is_on p q) (names_put (turns_made s opening events)) (names_put (t ∷ [])))
    ∙ length-append (put_on s events p q) (filter (is_on p q) (names_put (t ∷ [])))

pub taken_from_more : (s : Schedule) (events : List ℕ) (e p q : ℕ) →
    length (taken_from s (events ++ e ∷ []) p q) ≡ length (taken_from s events p q) + length (filter (is_on p q) (names_taken (next s (end_of s events) e ∷ [])))
taken_from_more s events e p q =
    let t : Turn = next s (end_of s events) e in
    ap (λ ts. length (filter (is_on p q) (names_taken ts))) (made_more s opening events e)
    ∙ ap (λ ns. length (filter (is_on p q) ns)) (names_taken-append (turns_made s opening events) (t ∷ []))
    ∙ ap length (filter-append (is_on p q) (names_taken (turns_made s opening events)) (names_taken (t ∷ [])))
    ∙ length-append (taken_from s events p q) (filter (is_on p q) (names_taken (t ∷ [])))
