-- What a part gives to one that it does not meet is nothing; and how much moves, and is handed over.
use Rattle.std.proofs.Common.{◌≡◌, ◌∙◌, refl, sym, ap, subst, ℕ, ◌+◌, ◌-◌, ◌<◌, ◌≤◌, List, [], filter, flat_map, length, Bool, true, false, not, ◌&&◌, ◌==◌, true≢false}
use Rattle.std.specs.Prelude.{nat_lt, if◌then◌else◌}
use Rattle.std.specs.List.{Contains, list_any}
use Rattle.std.proofs.lemmas.Bool.{and_right, lt-ltb}
use Rattle.brace_model.specs.declared.program.Program.{Program}
use Rattle.brace_model.specs.declared.world.Agent.{Agent}
use Rattle.brace_model.specs.World.{World, RisesById, class_of}
use Rattle.brace_cuts.specs.declared.space.Cuts.{Cuts}
use Rattle.brace_cuts.specs.Space.{area_of}
use Rattle.brace_invert.specs.Held.{is_near}
use Rattle.brace_invert.proofs.Heard.{seen_in}
use Rattle.brace_pieces.specs.declared.setting.Setting.{Setting}
use Rattle.brace_pieces.specs.declared.setting.Stage.{Stage}
use Rattle.brace_pieces.specs.declared.setting.Stage.TheVariants.{Hand, Border, Effects, Move}
use Rattle.brace_pieces.specs.declared.setting.Step.{Step}
use Rattle.brace_pieces.specs.Settings.{LawfulSetting, cuts_of, parts, range}
use Rattle.brace_pieces.specs.Steps.{step, met, meet, parts_meet, is_show}
use Rattle.brace_pieces.specs.Numbers.{NumbersFit}
use Rattle.brace_pieces.specs.Owned.{owns, owned, held}
use Rattle.brace_pieces.specs.Together.{AreWhole}
use Rattle.brace_pieces.specs.Continued.{continued, on}
use Rattle.brace_pieces.specs.Right.{border, handed, moved, shares, shares_to}
use Rattle.brace_pieces.specs.Heard.{own, near, said_here}
use Rattle.brace_pieces.specs.Counts.{changing}
use Rattle.brace_pieces.proofs.HeldLemmas.{one_owns, held_together, handed_together}
use Rattle.brace_pieces.proofs.MoveLemmas.{owner_by_id, none_moved}
use Rattle.brace_pieces.proofs.OnLemmas.{on_rises, on_whole, on_next}
use Rattle.brace_pieces.proofs.HeardHere.{StandInside, whole_inside, told_same}
use Rattle.brace_pieces.proofs.ScheduleLemmas.{parts_either_way}
use Rattle.brace_pieces.proofs.SumLemmas.{either_first, common, nothing_left}
use Rattle.brace_pieces.proofs.OutLemmas.{met_passes}
use Rattle.brace_pieces.proofs.LimitLemmas.{on_numbered}
use Rattle.brace_pieces.proofs.LivedLemmas.{lived_is}
use Rattle.brace_pieces.specs.Given.{lived}
use Rattle.brace_num.proofs.Lists.{filter_alike, in_filter}
use Rattle.brace_num.proofs.Orders.{rises_by_keys, filter_rises}

-- ---- two parts that do not meet

-- two different parts meet where their areas say so
pub meet_is : (s : Setting) (at : Step) (p q : ℕ) → p < parts s → q < parts s → meet s at p q ≡ (not (p == q) && parts_meet s at p q)
meet_is s at p q part other =
    ap (λ v. not (p == q) && (if v && nat_lt q (parts s) then parts_meet s at p q else is_show at.stage)) (lt-ltb p (parts s) part)
    ∙ ap (λ v. not (p == q) && (if v then parts_meet s at p q else is_show at.stage)) (lt-ltb q (parts s) other)

-- a part that meets nobody of a number is not that number's
not_met : (s : Setting) (stage : Stage) (tick p q : ℕ) → p < parts s → q < parts s → parts_meet s (step stage tick) p q ≡ false → (r : ℕ) → Contains (met s (step stage tick) q) r → p ≡ r → ⊥
not_met s stage tick p q part other none r there same =
    let at : Step = step stage tick in
    let meets : meet s at q p ≡ true = ap (meet s at q) same ∙ met_passes s at q r there in
    let apart : meet s at q p ≡ false = meet_is s at q p other part ∙ ap (λ v. not (q == p) && v) (sym (parts_either_way s stage tick p q) ∙ none) ∙ and_right (not (q == p)) false refl in
    true≢false (sym meets ∙ apart)

module _ (s : Setting) (lawful : LawfulSetting s) (numbers : NumbersFit s) (t : ℕ) where
  abbrev m : Program
  m = s.job.program

  abbrev now : Cuts
  now = cuts_of s t

  abbrev before : Cuts
  before = cuts_of s (t - 1)

  abbrev w : List Agent
  w = (on s t).agents

  up : RisesById w
  up = on_rises s lawful t

  whole : AreWhole m w
  whole = on_whole s lawful numbers t

  -- an agent of what a part owned, and what it passes
  owned_too : (cuts : Cuts) (p : ℕ) (test : Agent → Bool) (x : Agent) → Contains (filter test (owned m cuts p w)) x → Contains w x × ((owns m cuts p x ≡ true) × (test x ≡ true))
  owned_too cuts p test x has =
      let (mine, passes) = seen_in test (owned m cuts p w) x has in
      let (there, owner) = seen_in (owns m cuts p) w x mine in
      (there, (owner, passes))

  -- ---- what is handed over

  abbrev gone : ℕ → ℕ → List Agent
  gone p q = handed s t p q w

  -- those whose owner changes
  pub handed_changing : (p q : ℕ) → length (gone p q) ≡ changing m before p w now q w
  handed_changing p q =
      ap length (sym (filter_alike (λ a. list_any (λ b. b.id == a.id) (owned m now q w)) (owns m now q) (owned m before p w) (λ a has. owner_by_id s lawful t w up q a (seen_in (owns m before p) w a has).0)))

  module _ (p q : ℕ) (other : p < parts s) (part : q < parts s) (apart : p ≡ q → ⊥) where
    pub no_handed : parts_meet s (step Hand t) p q ≡ false → gone p q ≡ []
    no_handed none =
        let from : (r : ℕ) (x : Agent) → Contains (gone r q) x → owns m before r x ≡ true = λ r x has. (owned_too before r (owns m now q) x has).1.0 in
        nothing_left (λ r. gone r q) (gone q q) (owned m now q w) (met s (step Hand t) q) p (handed_together s lawful q part t w whole)
        (λ x has. let (there, (owner, belongs)) = owned_too before p (owns m now q) x has in in_filter (owns m now q) w x there belongs)
        (λ x has too. apart (one_owns m before p q x (from p x has) (from q x too)))
        (λ r x there has too. not_met s Hand t p q other part none r there (one_owns m before p r x (from p x has) (from r x too)))

    -- ---- what is shown

    pub no_border : parts_meet s (step Border t) p q ≡ false → border s t p q w ≡ []
    no_border none =
        let close : Agent → Bool = is_near m (area_of now q) (range s) in
        let from : (r : ℕ) (x : Agent) → Contains (border s t r q w) x → owns m now r x ≡ true = λ r x has. (owned_too now r close x has).1.0 in
        nothing_left (λ r. border s t r q w) (owned m now q w) (held m now (range s) q w) (met s (step Border t) q) p (held_together s lawful q part t w whole)
        (λ x has. let (there, (owner, near)) = owned_too now p close x has in in_filter close w x there near)
        (λ x has too. apart (one_owns m now p q x (from p x has) (seen_in (owns m now q) w x too).1))
        (λ r x there has too. not_met s Border t p q other part none r there (one_owns m now p r x (from p x has) (from r x too)))

  -- ---- what is told

  inside : StandInside s t w
  inside = whole_inside s lawful t w whole

  pub no_shares : (p q : ℕ) → p < parts s → q < parts s → (p ≡ q → ⊥) → s.invert ≡ false → parts_meet s (step Effects t) p q ≡ false → shares s t p q w ≡ []
  no_shares p q other part apart plain none =
      let back : parts_meet s (step Border t) q p ≡ false = sym (parts_either_way s Border t p q) ∙ none in
      let nobody : own s t q (near s t p w) ≡ [] = either_first (owns m now q) (is_near m (area_of now p) (range s)) w ∙ no_border q p part other (λ e. apart (sym e)) back in
      told_same s lawful t w inside p other plain up q ∙ ap (flat_map (λ b. shares_to (said_here m s t p w) b (class_of m b))) nobody

  -- ---- what moves

  module _ (low : s.job.first ≤ t) where
    abbrev world : World
    world = on s t

    abbrev next : List Agent
    next = (on s (t + 1)).agents

    abbrev given : ℕ → ℕ → List Agent
    given p q = moved s t p q world

    next_is : on s (t + 1) ≡ continued s t world
    next_is = on_next s t low

    -- those whose owner changes are those that lived before
    pub moved_changing : (p q : ℕ) → length (lived world.next (given p q)) ≡ changing m now p w now q next
    moved_changing p q =
        ap length (sym (ap (λ (x : World). filter (λ b. list_any (λ a. a.id == b.id) (owned m now p w)) (owned m now q x.agents)) next_is
        ∙ lived_is s lawful t world (on_numbered s lawful t) whole p q))
        ∙ sym (common (λ (a : Agent). a.id) (owned m now p w) (owned m now q next) (rises_by_keys (λ (a : Agent). a.id) (owned m now p w) (filter_rises (λ (a : Agent). a.id) (owns m now p) w up))
        (rises_by_keys (λ (a : Agent). a.id) (owned m now q next) (filter_rises (λ (a : Agent). a.id) (owns m now q) next (on_rises s lawful (t + 1)))))

    module _ (p q : ℕ) (other : p < parts s) (part : q < parts s) (apart : p ≡ q → ⊥) where
      pub no_moved : parts_meet s (step Move t) p q ≡ false → given p q ≡ []
      no_moved none =
          let after = subst (λ (x : World). AreWhole m x.agents) next_is (on_whole s lawful numbers (t + 1)) in
          let nobody : meet s (step Move t) q p ≡ false = meet_is s (step Move t) q p part other ∙ ap (λ v. not (q == p) && v) (sym (parts_either_way s Move t p q) ∙ none) ∙ and_right (not (q == p)) false refl in
          none_moved s lawful t q part world up whole after p apart nobody
