-- What a part holds in rows in a step, and what is left of its agents.
use Rattle.std.proofs.Common.{◌≡◌, ◌∙◌, refl, sym, ap, subst, ℕ, ◌≤◌, ◌^◌, List, [], ◌∷◌, ◌++◌, map, filter, filter_map, flat_map, length, true, false, Option, Some, None, Result, Ok, Err, IfOk}
use Rattle.std.specs.Prelude.{nat_eq}
use Rattle.std.specs.List.{Contains, IsDistinct, list_all}
use Rattle.std.specs.List.Sorted.{IsPermutation}
use Rattle.std.specs.Result.{result_ok, result_err}
use Rattle.std.proofs.lemmas.Bool.{eqb-true, ne_eqb}
use Rattle.std.proofs.lemmas.List.{length-map}
use Rattle.std.proofs.lemmas.List.Elements.{filter-append}
use Rattle.std.proofs.lemmas.List.Sorted.{IsPermutation-append, IsPermutation-map, IsPermutation-refl, IsPermutation-sym, IsPermutation-trans}
use Rattle.brace_num.proofs.Lists.{map_alike, filter_alike, filter_none}
use Rattle.brace_num.proofs.Orders.{by_key_keeps, by_key_rises, filter_rises, keys_by_rises, one_moved, one_sorted, rises_by_keys}
use Rattle.brace_model.specs.declared.program.Program.{Program}
use Rattle.brace_model.specs.declared.world.Agent.{Agent}
use Rattle.brace_model.specs.declared.program.Class.{Class}
use Rattle.brace_model.specs.World.{RisesById, class_of, ids, x_of, y_of}
use Rattle.brace_model.specs.Total.{totals_from}
use Rattle.brace_model.specs.Lawful.{is_lawful_agent}
use Rattle.brace_model.specs.declared.fault.Fault.{Fault}
use Rattle.brace_model.specs.Next.{Next}
use Rattle.brace_model.specs.Step.{living, children}
use Rattle.brace_cuts.specs.Space.{owner_of}
use Rattle.brace_eval.specs.Heard.{row_of}
use Rattle.brace_fold.specs.Becoming.{AreLeft, becomes_said}
use Rattle.brace_fold.specs.Listed.{AreListed, AreStored, agents_in}
use Rattle.brace_fold.specs.Rows.{AreMoved, by_id}
use Rattle.brace_fold.specs.Sums.{AreSummed}
use Rattle.brace_fold.specs.declared.order.Moved.{Moved}
use Rattle.brace_fold.specs.declared.table.Table.{Table}
use Rattle.brace_fold.specs.declared.renewal.Renewed.{Renewed}
use Rattle.brace_fold.specs.Hears.{Hears}
use Rattle.brace_fold.proofs.RowLemmas.{by_id_is, lawful_moved, rows_apart}
use Rattle.brace_invert.proofs.Heard.{seen_in}
use Rattle.brace_pieces.specs.declared.setting.Setting.{Setting}
use Rattle.brace_pieces.specs.declared.setting.Stage.TheVariants as stage
use Rattle.brace_pieces.specs.declared.piece.Piece.{Piece}
use Rattle.brace_pieces.specs.Settings.{cuts_of}
use Rattle.brace_pieces.specs.Steps.{step, met}
use Rattle.brace_pieces.specs.Owned.{owns, owns_at, owned}
use Rattle.brace_pieces.specs.Continued.{all_left, becomes, left_or_kept, on, said, totals_of}
use Rattle.brace_pieces.specs.Finds.{queries_found, updates_found}
use Rattle.brace_pieces.specs.Together.{IsSorted}
use Rattle.brace_pieces.proofs.GivenLemmas.{children_rise, own_children}
use Rattle.brace_pieces.proofs.HeardHere.{finds_here, told_is}
use Rattle.brace_pieces.proofs.OnLemmas.{id_stays, kept_rise, living_each}
use Rattle.brace_herd.specs.declared.holding.Held.{Held}
use Rattle.brace_herd.specs.declared.work.Worker.{Worker}
use Rattle.brace_herd.specs.inner.Asked.{HasRulesOf}
use Rattle.brace_herd.specs.inner.Hearing.{CanSum}
use Rattle.brace_herd.specs.Holding.{AreHeld, HoldsAll, HoldsAsked, IsHeld, IsSummed, LeavesRows, mine, all_near}
use Rattle.brace_pieces.specs.Exchanged.{brought}
use Rattle.brace_herd.specs.Ready.{children_in, left_in}
use Rattle.brace_herd.specs.Workers.{IsWorker, IsWork}
use Rattle.brace_herd.specs.Said.{said_over, faults_over}
use Rattle.brace_herd.specs.inner.Tables.{TellBy}
use Rattle.brace_herd.proofs.AskedLemmas.{filter_moved}
use Rattle.brace_herd.proofs.CellLemmas.{both_moved, filter_map_moved}
use Rattle.brace_herd.proofs.SumsLemmas.{nothing_moved}
use Rattle.brace_herd.proofs.LawfulOn.{on_lawful, some_pass}
use Rattle.brace_herd.proofs.TableLeft.{becomes_row}
use Rattle.brace_herd.proofs.WorkHeard.{all_leave, becomes_asked, becomes_told, told_there, inside, near_lawful, near_rises, rises, whole}
use Rattle.brace_herd.proofs.WorkOwned.{near_moved}
use Rattle.brace_herd.proofs.WorkTaken.{effects_told}

-- of items no two of which have one key the last ones have none either
pub apart_behind : (xs ys : List Agent) → IsDistinct nat_eq (ids (xs ++ ys))
    → IsDistinct nat_eq (ids ys)
unfolding IsDistinct
apart_behind [] ys apart = apart
apart_behind (x ∷ xs) ys apart = apart_behind xs ys apart.1

pub ok_always : {X Y : Type 0} (r : Result X Y) (P : Type 0) → P → IfOk r (λ x. P)
ok_always (Ok x) P h = h
ok_always (Err e) P h = tt

module _ (worker : Worker) (part : IsWorker worker) (t : ℕ) where
  abbrev s : Setting
  s = worker.setting.now

  abbrev m : Program
  m = s.job.program

  abbrev p : ℕ
  p = worker.part

  abbrev all : List Agent
  all = all_near s p t

  all_rise : RisesById all
  all_rise = near_rises worker part t all refl

  pub mine_lawful : list_all (is_lawful_agent m) (mine s p t) ≡ true
  mine_lawful = some_pass (is_lawful_agent m) (owns m (cuts_of s t) p) (on s t).agents
      (on_lawful s part.lawful t).each_is_lawful

  pub mine_rise : RisesById (mine s p t)
  mine_rise = filter_rises (λ (a : Agent). a.id) (owns m (cuts_of s t) p) (on s t).agents
      (rises worker part t)

  -- what its agents leave
  pub left_rises : RisesById (left_in s p t)
  left_rises =
      let id : Agent → ℕ = λ a. a.id in
      let w : List Agent = (on s t).agents in
      let leaves : Agent → Next = λ a. left_or_kept a (becomes s t (said s t w) a) in
      subst RisesById (sym (living_each leaves (mine s p t)))
      (keys_by_rises id (filter_map (λ a. (leaves a).agent) (mine s p t))
      (kept_rise (λ a. (leaves a).agent)
      (λ a b e. id_stays s.job.seed t (class_of m a)
      (totals_of (said s t w) a (class_of m a)) a b e)
      (mine s p t) (rises_by_keys id (mine s p t) mine_rise)))

  -- and their children
  pub kids_rise : RisesById (children_in s p t)
  kids_rise =
      let id : Agent → ℕ = λ a. a.id in
      let w : List Agent = (on s t).agents in
      let kids : List Agent = children (all_left s t w) in
      subst RisesById (own_children s t part.lawful w (rises worker part t) (whole worker part t) p)
      (filter_rises id _ kids (keys_by_rises id kids
      (children_rise s t part.lawful w (rises worker part t) (whole worker part t) p)))

  -- ---- what it holds

  -- another part owns none of its agents
  one_owner : (q : ℕ) (a : Agent) → (p ≡ q → ⊥) → (o : Option Class)
      → owns_at (cuts_of s t) p o a ≡ true → owns_at (cuts_of s t) q o a ≡ false
  one_owner q a other None is = refl
  one_owner q a other (Some c) is =
      let owner = owner_of (cuts_of s t) (x_of c a) (y_of c a) in
      ne_eqb owner q (λ same. other (sym (eqb-true owner p is) ∙ same))

  not_theirs : (q : ℕ) → (p ≡ q → ⊥) → (a : Agent) → Contains (mine s p t) a
      → owns m (cuts_of s t) q a ≡ false
  not_theirs q other a there =
      one_owner q a other (class_of m a) (seen_in (owns m (cuts_of s t) p)
      (on s t).agents a there).1

  -- its agents and those that pieces bring
  is_held : (pieces : List Piece) (own guests : List Agent)
      → IsWork worker stage.Border t pieces → own ≡ mine s p t
      → IsPermutation (flat_map brought pieces) guests → IsHeld s p t own guests
  is_held pieces own guests work same gathered =
      let many : IsPermutation (own ++ flat_map brought pieces) all =
      near_moved worker part t pieces own work same in
      record {
        own_is = same;
        moved = IsPermutation-trans _ _ _ (IsPermutation-append own own guests
            (flat_map brought pieces) (IsPermutation-refl own)
            (IsPermutation-sym _ _ gathered)) many;
      }

  module _ (own guests : List Agent) (h : IsHeld s p t own guests) where
    pub held_apart : IsDistinct nat_eq (ids (own ++ guests))
    held_apart = rows_apart all (own ++ guests) all_rise (IsPermutation-sym _ _ h.moved)

    pub held_lawful : list_all (is_lawful_agent m) (own ++ guests) ≡ true
    held_lawful = lawful_moved m all (own ++ guests) (IsPermutation-sym _ _ h.moved)
        (near_lawful worker part t all refl)

    pub held_by_id : by_id (own ++ guests) ≡ all
    held_by_id = by_id_is all (own ++ guests) all_rise (IsPermutation-sym _ _ h.moved)

    -- those of another part
    pub held_of : (q : ℕ) → (p ≡ q → ⊥)
        → owned m (cuts_of s t) q (by_id guests) ≡ owned m (cuts_of s t) q all
    held_of q other =
        let theirs = owns m (cuts_of s t) q in
        let none : owned m (cuts_of s t) q own ≡ [] =
        ap (owned m (cuts_of s t) q) h.own_is ∙ filter_alike theirs (λ a. false) (mine s p t)
        (λ a there. not_theirs q other a there) ∙ filter_none (mine s p t) in
        let moved : IsPermutation (filter theirs guests) (filter theirs all) =
        subst (λ l. IsPermutation l (filter theirs all))
        (filter-append theirs own guests ∙ ap (λ l. l ++ filter theirs guests) none)
        (filter_moved theirs (own ++ guests) all h.moved) in
        let id : Agent → ℕ = λ a. a.id in
        one_moved id (filter theirs (by_id guests)) (filter theirs all)
        (IsPermutation-trans _ _ _ (IsPermutation-sym _ _
        (filter_moved theirs guests (by_id guests) (by_key_keeps id guests))) moved)
        (filter_rises id theirs (by_id guests)
        (by_key_rises id guests (apart_behind own guests held_apart)))
        (filter_rises id theirs all all_rise)

  -- all that it holds in columns, by rising id
  pub merged_is : (rows : Moved) → AreHeld s p t rows → (agents list : List Agent)
      → agents ≡ agents_in m rows → IsSorted agents list
      → list ≡ all
  merged_is rows h agents list is sorted =
      one_sorted (λ (a : Agent). a.id) list all
      (IsPermutation-trans all h.those list h.same
      (subst (λ l. IsPermutation l list) (is ∙ h.listed.are) sorted.same))
      sorted.in_order all_rise

  -- what stands in columns is what it holds
  pub held_stored : (own guests : List Agent) → IsHeld s p t own guests → (those : List Agent)
      (rows : Moved) → IsPermutation (own ++ guests) those → AreListed m those rows
      → AreHeld s p t rows
  held_stored own guests h those rows moved listed = record {
    rises = all_rise;
    those = those;
    same = IsPermutation-trans all (own ++ guests) those
        (IsPermutation-sym (own ++ guests) all h.moved) moved;
    listed = listed;
  }

  -- ---- what is left of its agents

  module _ (plans : Program) (rules : HasRulesOf m plans) (held : Held)
      (h : HoldsAll s p t held) where
    results : map (becomes_said plans s.job.seed t h.told)
        (mine s p t) ≡ map (becomes s t (said s t (on s t).agents)) (mine s p t)
    results =
        map_alike (becomes_said plans s.job.seed t h.told)
        (becomes s t (said s t (on s t).agents)) (mine s p t)
        (λ a there.
        rules.next s.job.seed t (row_of plans h.told a) a
        ∙ sym (becomes_row s t h.told a (row_of plans h.told a)
        (ap (λ effects. totals_from 0 a.id effects h.told) (rules.effects a)))
        ∙ sym (h.becomes_so a there))

    pub leaves_rows : (renewed : Renewed) (list : List Agent) → IsPermutation (mine s p t) list
        → AreLeft plans s.job.seed t h.told list renewed → LeavesRows s p t renewed
    leaves_rows renewed list moved left =
        let f : Agent → Result Next Fault = becomes_said plans s.job.seed t h.told in
        let g : Agent → Result Next Fault = becomes s t (said s t (on s t).agents) in
        let own = mine s p t in
        let perm = IsPermutation-map f own left.those
        (IsPermutation-trans own list left.those moved left.same) in
        let errs = filter_map_moved result_err (map f own) (map f left.those) perm in
        let quiet : updates_found s t p (on s t).agents ≡ [] =
        sym (ap (filter_map result_err) results)
        ∙ nothing_moved (filter_map result_err (map f left.those))
        (filter_map result_err (map f own)) (IsPermutation-sym _ _ errs) left.quiet in
        let nexts = ap (filter_map result_ok) results ∙ all_leave g own quiet in
        let oks = filter_map_moved result_ok (map f own) (map f left.those) perm in
        record {
          quiet = quiet;
          those = living (filter_map result_ok (map f left.those));
          same = subst (λ l. IsPermutation (living l)
              (living (filter_map result_ok (map f left.those)))) nexts
              (filter_map_moved (λ (n : Next). n.agent) _ _ oks);
          lives = left.left;
          bears = subst (λ l. IsPermutation (children l) renewed.born.items) nexts
              (subst (IsPermutation (children (filter_map result_ok (map f own)))) (sym left.born)
              (filter_map_moved (λ (n : Next). n.child) _ _ oks));
        }

  -- ---- what is said to those that it holds

  -- its own agents and those that pieces bring in columns
  pub rows_held : (pieces : List Piece) (none guests more : List Agent) (count : ℕ)
      (own rows : Moved) → IsWork worker stage.Border t pieces → none ≡ []
      → IsPermutation (none ++ flat_map brought pieces) guests
      → (stored : AreStored m (mine s p t) own) → count ≡ length own.ids.items → more ≡ guests
      → ((agents : List Agent) → AreMoved agents own → AreMoved (agents ++ more) rows)
      → ((agents : List Agent) → AreMoved agents rows → list_all (is_lawful_agent m) agents ≡ true
      → AreListed m agents rows)
      → IsHeld s p t (mine s p t) guests × (count ≡ length stored.those)
      × AreListed m (stored.those ++ guests) rows
  rows_held pieces none guests more count own rows work empty got stored many same moves reads =
      let held = is_held pieces (mine s p t) guests work refl
      (subst (λ l. IsPermutation (l ++ flat_map brought pieces) guests) empty got) in
      let those = stored.those in
      let moved = subst (λ l. AreMoved (those ++ l) rows) same
      (moves those stored.listed.moved) in (
        held,
        many ∙ ap length stored.listed.moved.ids_are ∙ length-map those (λ (a : Agent). a.id),
        reads (those ++ guests) moved
            (lawful_moved m (mine s p t ++ guests) (those ++ guests)
            (both_moved (mine s p t) those guests stored.same)
            (held_lawful (mine s p t) guests held)),
      )

  -- its queries can be asked of these
  abbrev pub can_sum : (count : ℕ) (own rows : Moved) (guests : List Agent)
      → (stored : AreStored m (mine s p t) own) → IsHeld s p t (mine s p t) guests
      → count ≡ length stored.those → AreMoved (stored.those ++ guests) rows → t ≤ 2 ^ 32
      → CanSum s worker.queries.now t count guests rows
  can_sum count own rows guests stored h many moved ticks = record {
    own = mine s p t;
    those = stored.those;
    same = stored.same;
    many = many;
    moved = moved;
    queries = part.queries_are;
    lawful = held_lawful (mine s p t) guests h;
    apart = held_apart (mine s p t) guests h;
    ticks = ticks;
  }

  -- in columns it holds what it was asked
  pub holds_asked : (guests : List Agent) (held : Held) → IsHeld s p t (mine s p t) guests
      → IsSummed s t (mine s p t) guests held → HoldsAsked s p t held
  holds_asked guests held h summed = record {
    holds = record { guests = guests; holds = h; stand = summed.stand };
    sums = subst (λ list. AreSummed m summed.stand.all (said_over s t (mine s p t) list) held.said)
        (held_by_id (mine s p t) guests h) summed.sums;
  }

  -- and none of its queries faults
  pub asked_quiet : (own guests : List Agent) → IsHeld s p t own guests
      → faults_over s t own (by_id (own ++ guests)) ≡ []
      → queries_found s t p (on s t).agents ≡ []
  asked_quiet own guests h none =
      sym (finds_here s part.lawful t (on s t).agents (inside worker part t) p part.is_part)
      ∙ ap (λ l. faults_over s t l all) (sym h.own_is)
      ∙ ap (faults_over s t own) (sym (held_by_id own guests h)) ∙ none

  -- with inversion that is all
  pub all_asked : s.invert ≡ true → (held : Held) → HoldsAsked s p t held → HoldsAll s p t held
  all_asked inverted held h = record {
    holds = h.holds;
    told = said_over s t (mine s p t) all;
    sums = h.sums;
    becomes_so = becomes_asked worker part t inverted;
  }

  -- and without it what was asked, and what pieces tell
  pub all_told : s.invert ≡ false → (before : Held) (after : Table)
      → (h : HoldsAsked s p t before)
      → Hears m h.holds.stand.all (told_there worker part t) before.said after
      → HoldsAll s p t (record before { said = after })
  all_told plain before after h hears =
      let told = said_over s t (mine s p t) all ++ told_there worker part t in
      let stand = h.holds.stand in
      record {
        holds = record {
          guests = h.holds.guests;
          holds = h.holds.holds;
          stand = record {
            all = stand.all;
            theirs = stand.theirs;
            moved = stand.moved;
            listed = stand.listed;
            same = stand.same;
            own_stand = stand.own_stand;
            guests_stand = stand.guests_stand;
          };
        };
        told = told;
        sums = hears.each (said_over s t (mine s p t) all) h.sums;
        becomes_so = becomes_told worker part t plain;
      }

  -- what pieces tell of its own agents
  pub tells_mine : (pieces : List Piece) → IsWork worker stage.Effects t pieces
      → TellBy m (mine s p t) pieces (told_there worker part t)
  tells_mine pieces work =
      effects_told s worker.number p t (mine s p t) (λ a there. there)
      (λ q g h. told_is s part.lawful t (on s t).agents (inside worker part t) p part.is_part q g h)
      work.stands (met s (step stage.Effects t) p) pieces work.took
