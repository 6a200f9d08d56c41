-- The turns of an actor are its own, and none is Done.
use Rattle.std.proofs.Common.{◌≡◌, ℕ, zero, suc, ◌<◌, ◌≤◌, Bool, true, false, cond, ◌==◌, ◌&&◌, List, [], ◌∷◌, ◌++◌, length, get_or, refl, sym, ap, ◌∙◌, arith, inl, inr}
use Rattle.std.specs.List.{filter}
use Rattle.std.proofs.lemmas.Bool.{ne_eqb, cases_lt}
use Rattle.std.proofs.lemmas.List.{get_or_past}
use Rattle.brace_core.specs.declared.name.Turn.{Turn}
use Rattle.brace_core.specs.declared.name.Turn.TheVariants.{Put, Take, Work, Done}
use Rattle.brace_core.specs.Schedule.{Pair, met, puts, takes, turns_from}
use Rattle.brace_core.specs.Events.{is_on, names_put, names_taken}

-- p puts from itself and takes to itself
abbrev pub IsOwn : ℕ → Turn → Type 0
IsOwn p (Put n) = n.from ≡ p
IsOwn p (Take n) = n.to ≡ p
IsOwn p Work = Unit {0}
IsOwn p Done = ⊥

abbrev pub AreOwn : ℕ → List Turn → Type 0
AreOwn p [] = Unit {0}
AreOwn p (t ∷ ts) = IsOwn p t × AreOwn p ts

own_append : (p : ℕ) (ts us : List Turn) → AreOwn p ts → AreOwn p us → AreOwn p (ts ++ us)
own_append p [] us h k = k
own_append p (t ∷ ts) us (h, hs) k = (h, own_append p ts us hs k)

own_puts : (k p : ℕ) (others : List ℕ) → AreOwn p (puts k p others)
own_puts k p [] = tt
own_puts k p (q ∷ others) = (refl, own_puts k p others)

own_takes : (k p : ℕ) (others : List ℕ) → AreOwn p (takes k p others)
own_takes k p [] = tt
own_takes k p (q ∷ others) = (refl, own_takes k p others)

pub own_turns : (k actors : ℕ) (steps : List (List Pair)) (p : ℕ) → AreOwn p (turns_from k actors steps p)
own_turns k actors [] p = tt
own_turns k actors (step ∷ steps) p =
    let others : List ℕ = met actors step p in
    own_append p (puts k p others) _ (own_puts k p others)
    (own_append p (takes k p others) _ (own_takes k p others) (tt, own_turns (suc k) actors steps p))

pub own_at : (p : ℕ) (ts : List Turn) (a : ℕ) → AreOwn p ts → a < length ts → IsOwn p (get_or ts a Done)
own_at p [] a own l = absurd (omega arith)
own_at p (t ∷ ts) zero (h, hs) l = h
own_at p (t ∷ ts) (suc a) (h, hs) l = own_at p ts a hs (omega arith)

-- an actor is Done exactly where all its turns are made
pub done_past : (p : ℕ) (ts : List Turn) (a : ℕ) → AreOwn p ts → get_or ts a Done ≡ Done → length ts ≤ a
done_past p ts a own e = elim (cases_lt a (length ts)) [
  | inl l ↦ absurd (not_done (get_or ts a Done) e (own_at p ts a own l))
  | inr h ↦ h
]
  where
    not_done : (t : Turn) → t ≡ Done → IsOwn p t → ⊥
    not_done Done e own = own
    not_done _ e own = absurd cc

pub left_before : (ts : List Turn) (a : ℕ) → (get_or ts a Done ≡ Done → ⊥) → a < length ts
left_before ts a h = elim (cases_lt a (length ts)) [ inl l ↦ l | inr past ↦ absurd (h (get_or_past ts a Done past)) ]

-- a turn of e puts nothing from another actor, and takes nothing to another
pub puts_no_other : (e p q : ℕ) (t : Turn) → IsOwn e t → (p ≡ e → ⊥) → filter (is_on p q) (names_put (t ∷ [])) ≡ []
puts_no_other e p q (Put n) own other = ap (λ v. cond (v && (n.to == q)) (n ∷ []) []) (ne_eqb n.from p (λ h. other (sym h ∙ own)))
puts_no_other e p q _ own other = refl

pub takes_no_other : (e p q : ℕ) (t : Turn) → IsOwn e t → (q ≡ e → ⊥) → filter (is_on p q) (names_taken (t ∷ [])) ≡ []
takes_no_other e p q (Take n) own other =
    ap (λ v. cond ((n.from == p) && v) (n ∷ []) []) (ne_eqb n.to q (λ h. other (sym h ∙ own))) ∙ nothing (n.from == p)
  where
    nothing : (v : Bool) → cond (v && false) (n ∷ []) [] ≡ []
    nothing true = refl
    nothing false = refl
takes_no_other e p q _ own other = refl
