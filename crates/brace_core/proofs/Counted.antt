-- An exchange that counts an actor: what the actor's next turn asks of it, and what it counts behind that turn.
use Rattle.std.proofs.Common.{◌≡◌, ◌∙◌, refl, sym, ap, subst, ℕ, ◌+◌, ◌<◌, Bool, true, false, cond, [], ◌∷◌, length, Some, slice_get, inl, inr}
use Rattle.std.proofs.lemmas.Bool.{cases_lt}
use Rattle.std.proofs.lemmas.List.{get_or_past}
use Rattle.brace_core.specs.declared.name.Name.{Name}
use Rattle.brace_core.specs.declared.name.Turn.{Turn}
use Rattle.brace_core.specs.declared.name.Turn.TheVariants.{Put, Take, Done}
use Rattle.brace_core.specs.declared.turn.Went.{Went}
use Rattle.brace_core.specs.declared.turn.Went.TheVariants.{On, Nowhere, Over}
use Rattle.brace_core.specs.Schedule.{Schedule, IsLawful, lane, turns, turn_at}
use Rattle.brace_core.specs.Events.{is_on}
use Rattle.brace_core.specs.Exchanges.{Follows, IsAnswered, IsCounted, made_by, one_on, put_by, taken_by}
use Rattle.brace_core.proofs.Turns.{AreLawful, are_lawful}
use Rattle.brace_core.proofs.Owners.{puts_no_other, takes_no_other}
use Rattle.brace_core.proofs.ActorTurns.{is_left, turn_own, put_own, put_next, put_answered, take_own, take_next, puts_count, takes_count, puts_all, takes_all}

-- one name is counted as it is kept
pub one_kept : (n : Name) (p q : ℕ) → put_by (Put n) p q ≡ one_on n p q
one_kept n p q = by_test (is_on p q n)
  where
    by_test : (v : Bool) → length (cond v (n ∷ []) []) ≡ cond v 1 0
    by_test true = refl
    by_test false = refl

-- an actor that reads the same is counted alike
pub moved : (s t : Schedule) (a b m n : ℕ) (serves : ℕ → Type 0) (puts takes : ℕ → ℕ → ℕ) → t ≡ s → b ≡ a → n ≡ m → IsCounted s a m serves puts takes → IsCounted t b n serves puts takes
moved s t a b m n serves puts takes same own turns is = subst (λ u. IsCounted u b n serves puts takes) (sym same)
    (subst (λ c. IsCounted s c n serves puts takes) (sym own) (subst (λ k. IsCounted s a k serves puts takes) (sym turns) is))

module _ (s : Schedule) (a past : ℕ) (serves : ℕ → Type 0) (puts takes : ℕ → ℕ → ℕ) (counted : IsCounted s a past serves puts takes) where
  module _ (is_lawful : IsLawful s) where
    lawful : AreLawful s.actors s.steps
    lawful = are_lawful s.actors s.steps is_lawful

    module _ (n : Name) (is : turn_at s a past ≡ Put n) where
      pub puts_served : serves n.from
      puts_served = subst serves (sym (put_own s a past lawful n is)) counted.served

      pub puts_next : Follows s puts n
      puts_next = subst (λ b. slice_get (lane s b n.to) (puts b n.to) ≡ Some n) (sym (put_own s a past lawful n is))
          (subst (λ k. slice_get (lane s a n.to) k ≡ Some n) (sym (counted.put n.to)) (put_next s a past lawful n is))

      pub puts_answered : IsAnswered puts takes n
      puts_answered = subst (λ b. puts b n.to ≡ takes n.to b) (sym (put_own s a past lawful n is))
          (counted.put n.to ∙ put_answered s a past lawful n is ∙ sym (counted.taken n.to))

    module _ (n : Name) (is : turn_at s a past ≡ Take n) where
      pub takes_served : serves n.to
      takes_served = subst serves (sym (take_own s a past lawful n is)) counted.served

      pub takes_next : Follows s takes n
      takes_next = subst (λ b. slice_get (lane s n.from b) (takes n.from b) ≡ Some n) (sym (take_own s a past lawful n is))
          (subst (λ k. slice_get (lane s n.from a) k ≡ Some n) (sym (counted.taken n.from)) (take_next s a past lawful n is))

    -- an actor that is Done put and took all its names
    module _ (done : turn_at s a past ≡ Done) where
      pub all_put : (q : ℕ) → puts a q ≡ length (lane s a q)
      all_put q = counted.put q ∙ puts_all s a past lawful done q

      pub all_taken : (q : ℕ) → takes q a ≡ length (lane s q a)
      all_taken q = counted.taken q ∙ takes_all s a past lawful done q

  -- later the same actor is counted by the same exchange, which put and took for it
  module _ (t : Schedule) (b past' : ℕ) (serves' : ℕ → Type 0) (puts' takes' : ℕ → ℕ → ℕ) (same : t ≡ s) (own : b ≡ a) (served : serves' a) where
    -- nothing
    pub counted_still : past' ≡ past → ((q : ℕ) → puts' a q ≡ puts a q) → ((q : ℕ) → takes' q a ≡ takes q a) → IsCounted t b past' serves' puts' takes'
    counted_still still put taken = moved s t a b past past' serves' puts' takes' same own still
        (record { served = served; put = λ q. put q ∙ counted.put q; taken = λ q. taken q ∙ counted.taken q })

    -- what its next turn puts and takes
    pub counted_more : past' ≡ past + 1 → (turn : Turn) → turn_at s a past ≡ turn → (turn ≡ Done → ⊥) → ((q : ℕ) → puts' a q ≡ puts a q + put_by turn a q)
        → ((q : ℕ) → takes' q a ≡ takes q a + taken_by turn q a) → IsCounted t b past' serves' puts' takes'
    counted_more on turn is some put taken =
        let low : past < length (turns s a) = is_left s a past (λ done. some (sym is ∙ done)) in
        moved s t a b (past + 1) past' serves' puts' takes' same own on (record {
          served = served;
          put = λ q. put q ∙ ap (λ u. puts a q + put_by u a q) (sym is) ∙ ap (λ k. k + put_by (turn_at s a past) a q) (counted.put q) ∙ sym (puts_count s a past low q);
          taken = λ q. taken q ∙ ap (λ u. takes q a + taken_by u q a) (sym is) ∙ ap (λ k. k + taken_by (turn_at s a past) q a) (counted.taken q) ∙ sym (takes_count s a past low q);
        })

-- a turn of an actor, made or not, puts nothing from another and takes nothing to another
module _ (s : Schedule) (a past p q : ℕ) where
  pub puts_none : (p ≡ a → ⊥) → (went : Went) → put_by (made_by (turn_at s a past) went) p q ≡ 0
  puts_none other On = elim (cases_lt past (length (turns s a))) [
    | inl low ↦ ap length (puts_no_other a p q (turn_at s a past) (turn_own s a past low) other)
    | inr high ↦ ap (λ t. put_by t p q) (get_or_past (turns s a) past Done high)
  ]
  puts_none other Nowhere = refl
  puts_none other Over = refl

  pub takes_none : (q ≡ a → ⊥) → (went : Went) → taken_by (made_by (turn_at s a past) went) p q ≡ 0
  takes_none other On = elim (cases_lt past (length (turns s a))) [
    | inl low ↦ ap length (takes_no_other a p q (turn_at s a past) (turn_own s a past low) other)
    | inr high ↦ ap (λ t. taken_by t p q) (get_or_past (turns s a) past Done high)
  ]
  takes_none other Nowhere = refl
  takes_none other Over = refl
