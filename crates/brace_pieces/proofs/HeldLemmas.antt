-- What a part holds comes from its own agents and from those that the parts that it meets show it.
use Rattle.std.proofs.Common.{◌≡◌, ◌∙◌, refl, sym, subst, ℕ, ◌+◌, ◌-◌, ◌<◌, arith, ℤ, pos, List, ◌∷◌, ◌++◌, filter, flat_map, Bool, true, false, ◌&&◌, Option, Some, None}
use Rattle.std.specs.List.{Contains, list_any}
use Rattle.std.specs.List.Sorted.{IsPermutation}
use Rattle.std.proofs.lemmas.Bool.{eqb-true, and_parts, or_right}
use Rattle.std.proofs.lemmas.List.Sorted.{IsPermutation-sym, IsPermutation-trans}
use Rattle.brace_model.specs.declared.program.Class.{Class}
use Rattle.brace_model.specs.declared.program.Program.{Program}
use Rattle.brace_model.specs.declared.world.Agent.{Agent}
use Rattle.brace_model.specs.World.{class_of, x_of, y_of, RisesById}
use Rattle.brace_cuts.specs.declared.space.Cuts.{Cuts}
use Rattle.brace_cuts.specs.Space.{area_of, owner_of}
use Rattle.brace_invert.specs.Held.{stands_near, is_near}
use Rattle.brace_pieces.specs.declared.setting.Setting.{Setting}
use Rattle.brace_pieces.specs.declared.setting.Stage.TheVariants.{Hand, Border}
use Rattle.brace_pieces.specs.declared.setting.Step.{Step}
use Rattle.brace_pieces.specs.Settings.{cuts_of, parts, range, greatest_reach, LawfulSetting}
use Rattle.brace_pieces.specs.Steps.{step, meet, met}
use Rattle.brace_pieces.specs.Owned.{owns_at, owns, owned, held}
use Rattle.brace_pieces.specs.Right.{border, handed}
use Rattle.brace_pieces.specs.Together.{IsWhole, AreWhole, IsSorted}
use Rattle.brace_pieces.proofs.Merges.{together, covered, covered_none}
use Rattle.brace_pieces.proofs.Meetings.{gap_by_point, no_gap, owner_is_part, owner_has, meets, range_some}
use Rattle.brace_pieces.proofs.ScheduleLemmas.{meets_no_self}
use Rattle.brace_num.proofs.Lists.{filter_alike, filter_twice}
use Rattle.brace_num.proofs.Orders.{filter_rises, one_sorted}
use Rattle.brace_num.proofs.Numbers.{le_holds, le_told, below_max}

one_owner : (cuts : Cuts) (o : Option Class) (p q : ℕ) (a : Agent) → owns_at cuts p o a ≡ true → owns_at cuts q o a ≡ true → p ≡ q
one_owner cuts None p q a e f = absurd (cc)
one_owner cuts (Some c) p q a e f = sym (eqb-true (owner_of cuts (x_of c a) (y_of c a)) p e) ∙ eqb-true (owner_of cuts (x_of c a) (y_of c a)) q f

-- only one part owns an agent
pub one_owns : (m : Program) (cuts : Cuts) (p q : ℕ) (a : Agent) → owns m cuts p a ≡ true → owns m cuts q a ≡ true → p ≡ q
one_owns m cuts p q a e f = one_owner cuts (class_of m a) p q a e f

-- and passes a further test
only_and : (m : Program) (cuts : Cuts) (n : Agent → Bool) (p q : ℕ) (a : Agent) → (owns m cuts p a && n a) ≡ true → (owns m cuts q a && n a) ≡ true → p ≡ q
only_and m cuts n p q a e f = one_owns m cuts p q a (and_parts (owns m cuts p a) (n a) e).0 (and_parts (owns m cuts q a) (n a) f).0

and_so : (a b : Bool) → (a ≡ true → b ≡ true) → a ≡ (a && b)
and_so true b h = sym (h refl)
and_so false b h = refl

module _ (s : Setting) (lawful : LawfulSetting s) (p : ℕ) (part : p < parts s) (t : ℕ) where
  abbrev m : Program
  m = s.job.program

  abbrev now : Cuts
  now = cuts_of s t

  -- agents that pass a test, of which the parts that meet own all under some cuts
  by_parts : (cuts : Cuts) (n : Agent → Bool) (at : Step) (w : List Agent) → ((a : Agent) → Contains w a → list_any (λ q. owns m cuts q a && n a) (p ∷ met s at p) ≡ n a)
      → IsPermutation (filter n (owned m cuts p w) ++ flat_map (λ q. filter n (owned m cuts q w)) (met s at p)) (filter n w)
  by_parts cuts n at w covers =
      simp filter_twice (together (λ q a. owns m cuts q a && n a) (only_and m cuts n) (meet s at p) (parts s + 1) p (meets_no_self s at p) n w covers)

  -- ---- what is shown at a border

  abbrev near : Agent → Bool
  near = is_near m (area_of now p) (range s)

  own_near : (o : Option Class) (a : Agent) → ((c : Class) → o ≡ Some c → IsWhole c a) → owns_at now p o a ≡ true → stands_near (area_of now p) (range s) o a ≡ true
  own_near None a on e = absurd (cc)
  own_near (Some c) a on e =
      let at : IsWhole c a = on c refl in
      no_gap _ (range s) (owner_has s lawful t p (x_of c a) (y_of c a) (at.values_fit c.x) (at.values_fit c.y) (eqb-true (owner_of now (x_of c a) (y_of c a)) p e)) (range_some s lawful)

  shown_by : (o : Option Class) (a : Agent) → ((c : Class) → o ≡ Some c → IsWhole c a)
      → list_any (λ q. owns_at now q o a && stands_near (area_of now p) (range s) o a) (p ∷ met s (step Border t) p) ≡ stands_near (area_of now p) (range s) o a
  shown_by None a on = covered_none (p ∷ met s (step Border t) p)
  shown_by (Some c) a on =
      let at : IsWhole c a = on c refl in
      let x : ℤ = x_of c a in
      let y : ℤ = y_of c a in
      let owner : ℕ = owner_of now x y in
      covered (meet s (step Border t) p) (parts s + 1) owner p (stands_near (area_of now p) (range s) (Some c) a) (λ close other.
      let is_part : owner < parts s = owner_is_part s lawful t x y in
      let gap_is = gap_by_point (area_of now p) (area_of now owner) x y (range s) (le_told _ _ close) (owner_has s lawful t owner x y (at.values_fit c.x) (at.values_fit c.y) refl) in
      (omega (arith, is_part), meets s lawful (step Border t) p owner part other is_part (le_holds _ _ (below_max _ (range s) (greatest_reach m) gap_is))))

  pub held_together : (w : List Agent) → AreWhole m w → IsPermutation (owned m now p w ++ flat_map (λ q. border s t q p w) (met s (step Border t) p)) (held m now (range s) p w)
  held_together w on =
      let own : filter near (owned m now p w) ≡ owned m now p w =
      filter_twice near (owns m now p) w ∙ sym (filter_alike (owns m now p) _ w (λ a h. and_so (owns m now p a) (near a) (own_near (class_of m a) a (λ c e. on a c h e)))) in
      subst (λ xs. IsPermutation (xs ++ flat_map (λ q. border s t q p w) (met s (step Border t) p)) (held m now (range s) p w)) own (by_parts now near (step Border t) w (λ a h. shown_by (class_of m a) a (λ c e. on a c h e)))

  pub held_is : (w xs : List Agent) → RisesById w → AreWhole m w → IsSorted (owned m now p w ++ flat_map (λ q. border s t q p w) (met s (step Border t) p)) xs → xs ≡ held m now (range s) p w
  held_is w xs up on sorted =
      one_sorted (λ (a : Agent). a.id) xs (held m now (range s) p w) (IsPermutation-trans _ _ _ (IsPermutation-sym _ _ (held_together w on)) sorted.same) sorted.in_order (filter_rises (λ (a : Agent). a.id) near w up)

  -- ---- what is handed where other cuts hold

  abbrev before : Cuts
  before = cuts_of s (t - 1)

  handed_by : (o : Option Class) (a : Agent) → ((c : Class) → o ≡ Some c → IsWhole c a)
      → list_any (λ q. owns_at before q o a && owns_at now p o a) (p ∷ met s (step Hand t) p) ≡ owns_at now p o a
  handed_by None a on = covered_none (p ∷ met s (step Hand t) p)
  handed_by (Some c) a on =
      let at : IsWhole c a = on c refl in
      let x : ℤ = x_of c a in
      let y : ℤ = y_of c a in
      let owner : ℕ = owner_of before x y in
      covered (meet s (step Hand t) p) (parts s + 1) owner p (owns_at now p (Some c) a) (λ own other.
      let is_part : owner < parts s = owner_is_part s lawful (t - 1) x y in
      let here = owner_has s lawful (t - 1) owner x y (at.values_fit c.x) (at.values_fit c.y) refl in
      let there = owner_has s lawful t p x y (at.values_fit c.x) (at.values_fit c.y) (eqb-true (owner_of now x y) p own) in
      let gap_is = gap_by_point (area_of before owner) (area_of now p) x y (pos 0) (le_told _ _ (no_gap _ (pos 0) here (grind arith))) there in
      (omega (arith, is_part), meets s lawful (step Hand t) p owner part other is_part (or_right _ _ (le_holds _ _ gap_is))))

  pub handed_together : (w : List Agent) → AreWhole m w → IsPermutation (owned m now p (owned m before p w) ++ flat_map (λ q. handed s t q p w) (met s (step Hand t) p)) (owned m now p w)
  handed_together w on = by_parts before (owns m now p) (step Hand t) w (λ a h. handed_by (class_of m a) a (λ c e. on a c h e))

  pub handed_is : (w xs : List Agent) → RisesById w → AreWhole m w → IsSorted (owned m now p (owned m before p w) ++ flat_map (λ q. handed s t q p w) (met s (step Hand t) p)) xs → xs ≡ owned m now p w
  handed_is w xs up on sorted =
      one_sorted (λ (a : Agent). a.id) xs (owned m now p w) (IsPermutation-trans _ _ _ (IsPermutation-sym _ _ (handed_together w on)) sorted.same) sorted.in_order (filter_rises (λ (a : Agent). a.id) (owns m now p) w up)
