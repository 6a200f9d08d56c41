-- What is written is read back; no proper front of a checkpoint is one.
use Rattle.std.proofs.Common.{◌≡◌, ◌∙◌, ℕ, ◌^◌, ◌<◌, ◌≤◌, List, [], ◌∷◌, ◌++◌, length, take, drop, map, get_or, Bool, true, false, refl, sym, ap, subst, arith, append-nil, append_assoc, inl, inr, Result, Ok, Err}
use Rattle.std.specs.Prelude.{codes}
use Rattle.std.proofs.lemmas.Fmt.{decimal_injective}
use Rattle.std.proofs.lemmas.List.{append_cancel_left, length-drop, length-take-le, take_all, take-append-drop, take-take}
use Rattle.brace_num.proofs.Lists.{same_parts}
use Rattle.brace_model.specs.declared.program.Program.{Program}
use Rattle.brace_model.specs.declared.world.Agent.{Agent}
use Rattle.brace_model.specs.Lawful.{LawfulProgram}
use Rattle.brace_model.specs.Published.{agent_text}
use Rattle.brace_model.specs.World.{world_of}
use Rattle.brace_save.specs.declared.kinds.Point.{Point}
use Rattle.brace_save.specs.declared.kinds.PointFault.{PointFault}
use Rattle.brace_save.specs.declared.kinds.PointFault.TheVariants.{Incomplete, NoMemory}
use Rattle.brace_save.specs.Texts.{Moment, IsMoment, count_line, end_line, heading, lines, text}
use Rattle.brace_save.specs.Lines.{AreAll, IsRead, IsText, read, bad, cut, moment_told, whole_lines, unfinished}
use Rattle.brace_save.specs.inner.Steps.{front}
use Rattle.brace_save.proofs.Begins.{first_is, first_lines, version_same, all_long}
use Rattle.brace_save.proofs.Ends.{fit_at, fit_of, fronts_part, next_same}
use Rattle.brace_save.proofs.Feeds.{front_lines, lines_one, none_unfinished, text_back, whole_text}
use Rattle.brace_save.proofs.Runs.{Fit, agents_first, no_end}

moment_same : (w m : Moment) → w.tick ≡ m.tick → w.seed ≡ m.seed → w.world ≡ m.world → w ≡ m
moment_same w m p q r =
    ap (λ t. record { tick = t; seed = w.seed; world = w.world }) p ∙ ap (λ s. record { tick = m.tick; seed = s; world = w.world }) q
    ∙ ap (λ x. record { tick = m.tick; seed = m.seed; world = x }) r

count_same : (word : List ℕ) (j k : ℕ) → j < 2 ^ 64 → k < 2 ^ 64 → count_line word j ≡ count_line word k → j ≡ k
count_same word j k p q e = decimal_injective j k p q (append_cancel_left word _ _ e)

heads_same : (program : Program) (b : Bool) (w m : Moment) → IsMoment program b w → IsMoment program b m → heading b w ≡ heading b m → (w.tick ≡ m.tick) × (w.seed ≡ m.seed)
heads_same program true w m p q e =
    let s = p.tick_in_range in
    let t = q.tick_in_range in (
      count_same (codes "tick ") w.tick m.tick (omega (arith, s)) (omega (arith, t)) (ap (λ l. get_or l 1 []) e),
      count_same (codes "seed ") w.seed m.seed p.seed_in_range q.seed_in_range (ap (λ l. get_or l 2 []) e),
    )
heads_same program false w m p q e =
    let s = p.tick_in_range in
    let t = q.tick_in_range in (
      count_same (codes "tick ") w.tick m.tick (omega (arith, s)) (omega (arith, t)) (ap (λ l. get_or l 1 []) e),
      count_same (codes "seed ") w.seed m.seed p.seed_in_range q.seed_in_range (ap (λ l. get_or l 2 []) e),
    )

worlds_same : (program : Program) (b : Bool) (w m : Moment) → IsMoment program b w → IsMoment program b m → heading b w ≡ heading b m → w.world.agents ≡ m.world.agents → w.world ≡ m.world
worlds_same program true w m p q e agents =
    ap (λ l. record { agents = l; next = w.world.next }) agents ∙ ap (λ n. record { agents = m.world.agents; next = n }) (next_same w m p.numbered.in_range q.numbered.in_range e)
worlds_same program false w m p q e agents = p.least refl ∙ ap world_of agents ∙ sym (q.least refl)

-- the lines of a moment are no proper front of those of another one
pub lines_front : (program : Program) (b c : Bool) (m w : Moment) (rest : List (List ℕ)) → LawfulProgram program → IsMoment program b m → IsMoment program c w → lines program c w ++ rest ≡ lines program b m
    → (w ≡ m) × (rest ≡ [])
lines_front program b c m w rest lawful is_m is_w e =
    let all = lines program c w in
    let same : b ≡ c = version_same program all rest c b m (length all) (ap (λ l. l ++ rest) (take_all (length all) all (omega arith)) ∙ e) (omega (arith, all_long program c w)) (omega arith) (first_is program c w) in
    let mine : IsMoment program c m = subst (λ x. IsMoment program x m) same is_m in
    let parts = fronts_part program c w m (end_line w.world.agents ∷ rest) (end_line m.world.agents ∷ [])
    (sym (append_assoc (front program c w) (end_line w.world.agents ∷ []) rest) ∙ e ∙ ap (λ x. lines program x m) same) in
    let few = mine.lawful.few_agents in
    let (more, are, behind) = agents_first program w.world.agents m.world.agents (end_line w.world.agents) rest (length m.world.agents) lawful (fit_of program c w is_w) (fit_of program c m mine) (omega (arith, few)) parts.1 in
    of more mine parts.0 are behind
  where
    of : (more : List Agent) → IsMoment program c m → heading c w ≡ heading c m → m.world.agents ≡ w.world.agents ++ more
        → end_line w.world.agents ∷ rest ≡ map (agent_text program) more ++ end_line m.world.agents ∷ [] → (w ≡ m) × (rest ≡ [])
    of [] mine top are behind =
        let (tick, seed) = heads_same program c w m is_w mine top in
        (moment_same w m tick seed (worlds_same program c w m is_w mine top (sym (are ∙ append-nil w.world.agents))), (same_parts (end_line w.world.agents) (end_line m.world.agents) rest [] behind).1)
    of (a ∷ more) mine top are behind =
        let (one, others) = same_parts (end_line w.world.agents) (agent_text program a) rest (map (agent_text program) more ++ end_line m.world.agents ∷ []) behind in
        let fit = fit_at program w.world.agents more a (subst (Fit program) are (fit_of program c m mine)) in
        let few = is_w.lawful.few_agents in
        absurd (no_end program a (length w.world.agents) (omega (arith, few)) lawful (record { lawful = fit.lawful; values_fit = fit.values_fit; same = one }))

-- the lines of a moment are read as the moment
pub lines_read : (program : Program) (b : Bool) (m : Moment) (r : Result Moment PointFault) → LawfulProgram program → IsMoment program b m → IsRead program (lines program b m) [] r → r ≡ Ok m
lines_read program b m (Ok w) lawful is (read v are none) =
    ap Ok (lines_front program b are.tells_next m v [] lawful is are.moment_is (append-nil (lines program are.tells_next v) ∙ sym are.same)).0
lines_read program b m (Err f) lawful is (bad n first) = absurd (elim first.bad [
  | inl one ↦ one.1 (first_lines program (lines program b m) n b m is refl)
  | inr two ↦ two.1 refl
])
lines_read program b m (Err f) lawful is (cut begun never) = absurd (never (m, record { tells_next = b; moment_is = is; same = refl }))

-- a proper front of the lines of a moment is none of another moment
never_all : (program : Program) (b : Bool) (m : Moment) (k : ℕ) → LawfulProgram program → IsMoment program b m → k < length (lines program b m) → AreAll program (take k (lines program b m)) → ⊥
never_all program b m k lawful is below whole =
    let all = lines program b m in
    let (w, are) = whole in
    let none = (lines_front program b are.tells_next m w (drop k all) lawful is are.moment_is (ap (λ l. l ++ drop k all) (sym are.same) ∙ take-append-drop k all)).1 in
    omega (arith, below, length-drop k all, ap length none)

pub front_read : (program : Program) (b : Bool) (m : Moment) (k : ℕ) (rest : List ℕ) (r : Result Moment PointFault) → LawfulProgram program → IsMoment program b m → k < length (lines program b m)
    → IsRead program (take k (lines program b m)) rest r → r ≡ Err Incomplete
front_read program b m k rest (Ok w) lawful is below (read v are none) = absurd (never_all program b m k lawful is below (v, are))
front_read program b m k rest (Err f) lawful is below (bad n first) = absurd (elim first.bad [
  | inl one ↦
      let all = lines program b m in
      let low : n ≤ k = omega (arith, one.0, length-take-le k all (omega (arith, below))) in
      one.1 (first_lines program (take k all) n b m is (take-take n k all low))
  | inr two ↦ never_all program b m k lawful is below two.2
])
front_read program b m k rest (Err f) lawful is below (cut begun never) = refl

abbrev Judged : Program → List ℕ → Result Point PointFault → Type 0
Judged program bytes r = (r ≡ Err NoMemory → ⊥) → IsRead program (whole_lines bytes) (unfinished bytes) (moment_told r)

pub judged : (program : Program) (bytes : List ℕ) (r : Result Point PointFault)
    → ((point : Point) → r ≡ Ok point → IsRead program (whole_lines bytes) (unfinished bytes) (Ok (record { tick = point.tick; seed = point.seed; world = point.world })))
    → ((cause : PointFault) → r ≡ Err cause → (cause ≡ NoMemory → ⊥) → IsRead program (whole_lines bytes) (unfinished bytes) (Err cause)) → Judged program bytes r
judged program bytes (Ok point) p q ample = p point refl
judged program bytes (Err cause) p q ample = q cause refl (λ e. ample (ap Err e))

-- what is written is read back
pub text_read : (program : Program) (m : Moment) (bytes : List ℕ) (r : Result Moment PointFault) → LawfulProgram program → IsText program m bytes
    → IsRead program (whole_lines bytes) (unfinished bytes) r → r ≡ Ok m
text_read program m bytes r lawful is given =
    let all = lines program is.tells_next m in
    let one = lines_one program is.tells_next m lawful is.moment_is in
    let whole : whole_lines bytes ≡ all = ap whole_lines is.same ∙ whole_text all one in
    let none : unfinished bytes ≡ [] = ap unfinished is.same ∙ none_unfinished all one in
    lines_read program is.tells_next m r lawful is.moment_is (subst (λ l. IsRead program l [] r) whole (subst (λ l. IsRead program (whole_lines bytes) l r) none given))

-- a proper front of a text is incomplete
pub front_incomplete : (program : Program) (m : Moment) (whole bytes : List ℕ) (n : ℕ) (r : Result Moment PointFault) → LawfulProgram program → IsText program m whole → n < length whole
    → bytes ≡ take n whole → IsRead program (whole_lines bytes) (unfinished bytes) r → r ≡ Err Incomplete
front_incomplete program m whole bytes n r lawful is below e given =
    let all = lines program is.tells_next m in
    let one = lines_one program is.tells_next m lawful is.moment_is in
    let long : length whole ≡ length (text all) = ap length is.same in
    let (k, low, same) = front_lines all n one (omega (arith, below, long)) in
    let lines_are : whole_lines bytes ≡ take k all = ap whole_lines (e ∙ ap (take n) is.same) ∙ same in
    front_read program is.tells_next m k (unfinished bytes) r lawful is.moment_is low (subst (λ l. IsRead program l (unfinished bytes) r) lines_are given)

-- what is read is a text of what it tells
pub read_text : (program : Program) (m : Moment) (bytes : List ℕ) → IsRead program (whole_lines bytes) (unfinished bytes) (Ok m) → IsText program m bytes
read_text program m bytes given = of (Ok m) m refl given
  where
    of : (r : Result Moment PointFault) (v : Moment) → r ≡ Ok v → IsRead program (whole_lines bytes) (unfinished bytes) r → IsText program v bytes
    of (Ok w) v e (read u are none) =
        let same : w ≡ v = cc in
        subst (λ x. IsText program x bytes) same (record { tells_next = are.tells_next; moment_is = are.moment_is; same = text_back bytes none ∙ ap text are.same })
    of (Err f) v e (bad n first) = absurd cc
    of (Err f) v e (cut begun never) = absurd cc

pub incomplete_told : (r : Result Point PointFault) → moment_told r ≡ Err Incomplete → r ≡ Err Incomplete
incomplete_told (Ok point) e = absurd cc
incomplete_told (Err cause) e = ap Err cc
