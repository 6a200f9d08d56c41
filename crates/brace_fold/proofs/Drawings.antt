-- Draws, as they were made and as lanes read them.
use Rattle.std.proofs.Common.{◌≡◌, ◌∙◌, refl, sym, ap, ℕ, ℤ, pos, List, [], ◌∷◌, ◌++◌, subst, map, Bool, true, false, Some}
use Rattle.std.specs.Prelude.{◌==◌, if◌then◌else◌}
use Rattle.std.specs.List.{All}
use Rattle.std.proofs.lemmas.Bool.{eqb-true}
use Rattle.std.proofs.lemmas.List.Elements.{All-append, All-cons, All-head, All-nil, All-tail}
use Rattle.std.proofs.lemmas.Option.{none-some, same_Some}
use Rattle.brace_draw.specs.Draw.{draw_value}
use Rattle.brace_model.specs.declared.world.Agent.{Agent}
use Rattle.brace_code.specs.declared.lane.Draws.{Draws}
use Rattle.brace_code.specs.Lanes.{draws_at}
use Rattle.brace_fold.specs.declared.drawn.Drawn.{Drawn}
use Rattle.brace_fold.specs.inner.Asks.{AreDrawn, lent, made}

pub mapped : {A B C : Type 0} (f : A → B) (g : B → C) (xs : List A) → map g (map f xs) ≡ map (λ x. g (f x)) xs
mapped f g [] = refl
mapped f g (x ∷ xs) = ap (λ l. g (f x) ∷ l) (mapped f g xs)

-- draws of ids are those of agents
pub drawn-of : (seed tick : ℕ) (agents : List Agent) (drawn : Drawn) (s site : ℕ) (ids : List ℕ) → s ≡ seed → ids ≡ map (λ (a : Agent). a.id) agents
    → drawn.site ≡ site → drawn.words ≡ map (λ id. pos (draw_value s tick id site)) ids → AreDrawn seed tick agents drawn
drawn-of seed tick agents drawn s site ids seed_is ids_are site_is words =
    words
    ∙ ap (λ (n : ℕ). map (λ id. pos (draw_value n tick id site)) ids) seed_is
    ∙ ap (map (λ id. pos (draw_value seed tick id site))) ids_are
    ∙ mapped (λ (a : Agent). a.id) (λ id. pos (draw_value seed tick id site)) agents
    ∙ ap (λ (n : ℕ). map (λ (a : Agent). pos (draw_value seed tick a.id n)) agents) (sym site_is)

-- what holds of each of a list, and of one more
pub and-one : (P : Drawn → Type 0) (all new : List Drawn) (x : Drawn) → new ≡ all ++ x ∷ []
    → All P all → P x → All P new
and-one P all new x is each holds =
    subst (All P) (sym is) (All-append P all (x ∷ []) each (All-cons P x [] holds (All-nil P)))

module _ (seed tick : ℕ) (agents : List Agent) where
  abbrev column_at : ℕ → List ℤ
  column_at site = map (λ (a : Agent). pos (draw_value seed tick a.id site)) agents

  -- the first draws, or those behind them
  here-or : (d : Draws) (draws : List Draws) (one : Drawn) (site : ℕ) (column : List ℤ) (here : Bool) → (d.site == site) ≡ here
      → lent d ≡ made one → AreDrawn seed tick agents one → (draws_at draws site ≡ Some column → column ≡ column_at site)
      → (if here then Some d.words.now else draws_at draws site) ≡ Some column → column ≡ column_at site
  here-or d draws one site column true is same drawn later e =
      let at : one.site ≡ site = sym (ap (λ (p : ℕ × List ℤ). p.0) same) ∙ eqb-true d.site site is in
      sym (same_Some d.words.now column e) ∙ ap (λ (p : ℕ × List ℤ). p.1) same ∙ drawn ∙ ap column_at at
  here-or d draws one site column false is same drawn later e = later e

  -- the draws that lanes read are those of the agents
  pub draws-of : (draws : List Draws) (all : List Drawn) → map lent draws ≡ map made all → All (AreDrawn seed tick agents) all
      → (site : ℕ) (column : List ℤ) → draws_at draws site ≡ Some column → column ≡ column_at site
  draws-of [] all same drawn site column e = absurd (none-some column e)
  draws-of (d ∷ draws) [] same drawn site column e = absurd (let none : lent d ∷ map lent draws ≡ [] = same in cc)
  draws-of (d ∷ draws) (one ∷ all) same drawn site column e =
      let both : lent d ∷ map lent draws ≡ made one ∷ map made all = same in
      let first : lent d ≡ made one = cc in
      let rest : map lent draws ≡ map made all = cc in
      here-or d draws one site column (d.site == site) refl first (All-head (AreDrawn seed tick agents) one all drawn)
      (draws-of draws all rest (All-tail (AreDrawn seed tick agents) one all drawn) site column) e
