-- All parts together own each agent of a class once.
use Rattle.std.proofs.Common.{◌≡◌, ◌∙◌, refl, sym, ap, subst, ℕ, List, flat_map, true, Option, Some, None, arith}
use Rattle.std.specs.List.{list_any, range_with_len}
use Rattle.std.specs.List.Sorted.{IsPermutation}
use Rattle.std.proofs.lemmas.Bool.{eq-eqb}
use Rattle.std.proofs.lemmas.List.Sorted.{IsPermutation-sym, IsPermutation-trans}
use Rattle.brace_model.specs.declared.program.Class.{Class}
use Rattle.brace_model.specs.declared.program.Program.{Program}
use Rattle.brace_model.specs.declared.world.Agent.{Agent}
use Rattle.brace_model.specs.World.{class_of, x_of, y_of, RisesById}
use Rattle.brace_cuts.specs.declared.space.Cuts.{Cuts}
use Rattle.brace_cuts.specs.Space.{owner_of}
use Rattle.brace_pieces.specs.declared.setting.Setting.{Setting}
use Rattle.brace_pieces.specs.Settings.{cuts_of, parts, LawfulSetting}
use Rattle.brace_pieces.specs.Owned.{owns_at, owns, owned}
use Rattle.brace_pieces.specs.Together.{HaveClasses, IsSorted}
use Rattle.brace_pieces.proofs.Merges.{Apart, apart_in_row, any_in_row, gathered}
use Rattle.brace_pieces.proofs.Meetings.{owner_is_part}
use Rattle.brace_pieces.proofs.HeldLemmas.{one_owns}
use Rattle.brace_num.proofs.Lists.{filter_alike, filter_all}
use Rattle.brace_num.proofs.Orders.{one_sorted}

module _ (s : Setting) (lawful : LawfulSetting s) (t : ℕ) where
  abbrev m : Program
  m = s.job.program

  abbrev now : Cuts
  now = cuts_of s t

  abbrev all : List ℕ
  all = range_with_len 0 (parts s)

  some_part : (o : Option Class) (a : Agent) (c : Class) → o ≡ Some c → list_any (λ q. owns_at now q o a) all ≡ true
  some_part None a c e = absurd (cc)
  some_part (Some d) a c e =
      let owner : ℕ = owner_of now (x_of d a) (y_of d a) in
      ap (list_any (λ q. owns_at now q (Some d) a)) (sym (filter_all all))
      ∙ any_in_row (λ q. true) (λ q. owns_at now q (Some d) a) (parts s) 0 owner (omega arith) (omega (arith, owner_is_part s lawful t (x_of d a) (y_of d a))) refl (eq-eqb owner owner refl)

  all_together : (w : List Agent) → HaveClasses m w → IsPermutation (flat_map (λ q. owned m now q w) all) w
  all_together w classed =
      subst (IsPermutation (flat_map (λ q. owned m now q w) all))
      (filter_alike (λ a. list_any (λ q. owns m now q a) all) (λ a. true) w (λ a has. let (c, is) = classed a has in some_part (class_of m a) a c is) ∙ filter_all w)
      (gathered (λ q a. owns m now q a) (one_owns m now) all (subst Apart (filter_all all) (apart_in_row (λ q. true) (parts s) 0)) w)

  pub all_is : (w xs : List Agent) → RisesById w → HaveClasses m w → IsSorted (flat_map (λ q. owned m now q w) all) xs → xs ≡ w
  all_is w xs up classed sorted = one_sorted (λ (a : Agent). a.id) xs w (IsPermutation-trans _ _ _ (IsPermutation-sym _ _ (all_together w classed)) sorted.same) sorted.in_order up
