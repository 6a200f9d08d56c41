-- The piece that a part makes for another is right.
use Rattle.std.proofs.Common.{◌≡◌, ◌∙◌, sym, ap, ap₂, ℕ, ◌+◌, ◌<◌, List, ◌++◌, map, flat_map, false}
use Rattle.std.specs.Prelude.{if◌then◌else◌}
use Rattle.std.specs.List.{Contains, range_with_len}
use Rattle.std.proofs.lemmas.Bool.{true≢false}
use Rattle.brace_model.specs.declared.program.Program.{Program}
use Rattle.brace_model.specs.declared.fault.Fault.{Fault}
use Rattle.brace_model.specs.declared.world.Agent.{Agent}
use Rattle.brace_model.specs.World.{World, class_of}
use Rattle.brace_model.specs.Query.{Saying}
use Rattle.brace_comb.specs.declared.entry.Entry.{Entry}
use Rattle.brace_eval.specs.declared.heard.Heard.{Heard}
use Rattle.brace_eval.specs.Heard.{IsHeard, said_by}
use Rattle.brace_fold.specs.Rows.{AreMoved, by_id}
use Rattle.brace_fold.specs.Sums.{AreSummed}
use Rattle.brace_invert.proofs.Heard.{seen_in}
use Rattle.brace_invert.specs.Split.{forward_program, inverse_program}
use Rattle.brace_pieces.specs.declared.setting.Setting.{Setting}
use Rattle.brace_pieces.specs.Settings.{LawfulSetting, cuts_of, parts}
use Rattle.brace_pieces.specs.declared.setting.Step.{Step}
use Rattle.brace_pieces.specs.Steps.{meet, met}
use Rattle.brace_pieces.specs.Numbers.{NumbersFit}
use Rattle.brace_pieces.specs.Owned.{owned}
use Rattle.brace_pieces.specs.Continued.{on}
use Rattle.brace_pieces.specs.Right.{share_of, shares, shares_to, moved}
use Rattle.brace_pieces.specs.Heard.{near}
use Rattle.brace_pieces.proofs.HeardHere.{StandInside, whole_inside, told_same}
use Rattle.brace_pieces.proofs.GivenLemmas.{given_with_births}
use Rattle.brace_pieces.proofs.ScheduleLemmas.{meets_no_self}
use Rattle.brace_pieces.proofs.OnLemmas.{on_rises, on_whole}
use Rattle.brace_herd.specs.declared.holding.Held.{Held}
use Rattle.brace_herd.specs.Placed.{ArePlaces}
use Rattle.brace_herd.specs.Holding.{HoldsAsked}
use Rattle.brace_herd.specs.Said.{said_over, faults_over}
use Rattle.brace_herd.specs.inner.Tables.{shares_in}
use Rattle.brace_herd.specs.Ready.{HearsAsked, own_in, left_in, born_in}

module _ (s : Setting) (lawful : LawfulSetting s) (numbers : NumbersFit s) (t p : ℕ) where
  abbrev world : World
  world = on s t

  -- what its agents leave for another
  pub moved_right : (q : ℕ) (left born found : List Agent) → left ≡ left_in s p t
      → born ≡ born_in s p t → found ≡ owned s.job.program (cuts_of s t) q (left ++ born)
      → found ≡ moved s t p q world
  moved_right q left born found lives bears given =
      given ∙ ap₂ (λ xs ys. owned s.job.program (cuts_of s t) q (xs ++ ys)) lives bears
      ∙ sym (given_with_births s t lawful world.agents (on_rises s lawful t)
      (on_whole s lawful numbers t) p q world.next)

  pub inside : StandInside s t world.agents
  inside = whole_inside s lawful t world.agents (on_whole s lawful numbers t)

  -- what it tells another of what its queries say
  over_all : (part : p < parts s) (plain : s.invert ≡ false) (q : ℕ)
      → shares_in s.job.program (cuts_of s t) q (near s t p world.agents)
      (said_over s t (own_in s p t) (near s t p world.agents)) ≡ shares s t p q world.agents
  over_all part plain q =
      let m : Program = s.job.program in
      let own : List Agent = own_in s p t in
      let list : List Agent = near s t p world.agents in
      ap (λ b. shares_in m (cuts_of s t) q list
      (if b then (said_by (forward_program m) s.job.seed t list own ++ said_by (inverse_program m)
      s.job.seed t list list) else said_by m s.job.seed t list own)) plain
      ∙ sym (told_same s lawful t world.agents inside p part plain (on_rises s lawful t) q)

  pub told_right : (part : p < parts s) (plain : s.invert ≡ false) (q : ℕ) (held : List Agent)
      (heard : Heard) (entries : List Entry) → HearsAsked s p t held heard
      → ((said : List Saying) (faults : List Fault) → IsHeard s.job.program held said faults heard
      → map share_of entries ≡ shares_in s.job.program (cuts_of s t) q held said)
      → map share_of entries ≡ shares s t p q world.agents
  told_right part plain q held heard entries h told =
      told (said_over s t (own_in s p t) held) (faults_over s t (own_in s p t) held) h.hears
      ∙ ap (λ l. shares_in s.job.program (cuts_of s t) q l (said_over s t (own_in s p t) l)) h.holds
      ∙ over_all part plain q

  -- the same of sums
  pub sums_right : (part : p < parts s) (plain : s.invert ≡ false) (q : ℕ) (held : Held)
      (entries : List Entry) → (h : HoldsAsked s p t held)
      → owned s.job.program (cuts_of s t) q (by_id h.holds.guests)
      ≡ owned s.job.program (cuts_of s t) q (near s t p world.agents)
      → ((said : List Saying) → AreMoved h.holds.stand.all held.rows
      → ArePlaces h.holds.stand.all (by_id h.holds.guests) held.places.items
      → AreSummed s.job.program h.holds.stand.all said held.said
      → map share_of entries
      ≡ shares_in s.job.program (cuts_of s t) q (by_id h.holds.guests) said)
      → map share_of entries ≡ shares s t p q world.agents
  sums_right part plain q held entries h theirs told =
      let said = said_over s t (own_in s p t) (near s t p world.agents) in
      told said h.holds.stand.listed.moved h.holds.stand.guests_stand h.sums
      ∙ ap (flat_map (λ b. shares_to said b (class_of s.job.program b))) theirs
      ∙ over_all part plain q

-- whom a part meets is another
pub met_other : (s : Setting) (at : Step) (p q : ℕ) → Contains (met s at p) q → p ≡ q → ⊥
met_other s at p q there same =
    let meets = (seen_in (meet s at p) (range_with_len 0 (parts s + 1)) q there).1 in
    true≢false (sym meets ∙ ap (meet s at p) (sym same) ∙ meets_no_self s at p)
