-- What stands behind the lines of agents that were read: the next agent's line, the end line, or a bad one.
use Rattle.std.proofs.Common.{◌≡◌, ◌∙◌, ℕ, ◌+◌, ◌-◌, ◌^◌, ◌<◌, ◌≤◌, List, [], ◌∷◌, ◌++◌, length, take, drop, map, get_or, Bool, true, false, refl, sym, ap, subst, arith, append-nil, append_assoc, inr, Err}
use Rattle.std.specs.Prelude.{codes}
use Rattle.std.proofs.lemmas.Fmt.{decimal_injective}
use Rattle.std.proofs.lemmas.List.{append_cancel_left, drop_at, length_push, map_push, take_all, take_at, take_more}
use Rattle.brace_num.proofs.Lists.{same_parts}
use Rattle.brace_model.specs.declared.program.Program.{Program}
use Rattle.brace_model.specs.declared.world.Agent.{Agent}
use Rattle.brace_model.specs.Lawful.{LawfulProgram}
use Rattle.brace_model.specs.Published.{agent_text}
use Rattle.brace_save.specs.declared.kinds.PointFault.TheVariants.{Incomplete, BadLine}
use Rattle.brace_save.specs.declared.read.Heading.{Heading}
use Rattle.brace_save.specs.Texts.{Moment, IsMoment, class_line, end_line, heading, lines}
use Rattle.brace_save.specs.Lines.{AreOf, Begin, IsRead, bad, fault_of, heading_length}
use Rattle.brace_save.specs.inner.Spelled.{IsAgentLine}
use Rattle.brace_save.specs.inner.Steps.{IsFront, MayFollow, line, place, version, next_of, moment_of, told, front, front_length}
use Rattle.brace_save.proofs.Begins.{bad_at, cut_at, front_begins, one_more, line_in, version_same, place_is, place_range, fault_behind, heading_long}
use Rattle.brace_save.proofs.Rises.{next_may, moment_more}
use Rattle.brace_save.proofs.Runs.{Fit, fit_first, agent_same, agents_first, no_end, no_end_missing}

pub fit_of : (program : Program) (b : Bool) (m : Moment) → IsMoment program b m → Fit program m.world.agents
fit_of program b m is = record { lawful = is.lawful.each_is_lawful; values_fit = is.values_fit }

pub fit_at : (program : Program) (xs more : List Agent) (a : Agent) → Fit program (xs ++ a ∷ more) → IsAgentLine program a (agent_text program a)
fit_at program [] more a fit = (fit_first program a more fit).0
fit_at program (x ∷ xs) more a fit = fit_at program xs more a (fit_first program x (xs ++ a ∷ more) fit).1

-- lists that begin with parts of one length
both_parts : (x y s t : List (List ℕ)) → length x ≡ length y → x ++ s ≡ y ++ t → (x ≡ y) × (s ≡ t)
both_parts x y s t long e =
    (sym (take_at x s (length y) long) ∙ ap (take (length y)) e ∙ take_at y t (length y) refl, sym (drop_at x s (length y) long) ∙ ap (drop (length y)) e ∙ drop_at y t (length y) refl)

-- fronts of one version: the headings are one, and what stands behind the classes too
pub fronts_part : (program : Program) (b : Bool) (m w : Moment) (s t : List (List ℕ)) → front program b m ++ s ≡ front program b w ++ t
    → (heading b m ≡ heading b w) × (map (agent_text program) m.world.agents ++ s ≡ map (agent_text program) w.world.agents ++ t)
fronts_part program b m w s t e =
    let classes = map class_line program.classes in
    let mine = map (agent_text program) m.world.agents in
    let yours = map (agent_text program) w.world.agents in
    let flat : (h a r : List (List ℕ)) → ((h ++ classes) ++ a) ++ r ≡ h ++ (classes ++ (a ++ r)) = λ h a r. append_assoc (h ++ classes) a r ∙ append_assoc h classes (a ++ r) in
    let (top, rest) = both_parts (heading b m) (heading b w) (classes ++ (mine ++ s)) (classes ++ (yours ++ t)) (heading_long b m ∙ sym (heading_long b w)) (sym (flat (heading b m) mine s) ∙ e ∙ flat (heading b w) yours t) in
    (top, append_cancel_left classes (mine ++ s) (yours ++ t) rest)

-- one next free id is told by one heading
pub next_same : (m w : Moment) → m.world.next ≤ 2 ^ 63 → w.world.next ≤ 2 ^ 63 → heading true m ≡ heading true w → m.world.next ≡ w.world.next
next_same m w p q e =
    decimal_injective m.world.next w.world.next (omega (arith, p)) (omega (arith, q)) (append_cancel_left (codes "next ") _ _ (ap (λ l. get_or l 3 []) e))

pub front_first : (program : Program) (h : Heading) (agents : List Agent) (all : List (List ℕ)) → IsFront program h agents all → line all 0 ≡ version h.tells_next
front_first program h agents all is =
    let places = place_range h.tells_next in
    line_in all (front program h.tells_next (told h agents)) (front_length program h.tells_next agents) 0 is.same (omega (arith, places.0)) ∙ of h.tells_next (told h agents)
  where
    of : (b : Bool) (m : Moment) → line (front program b m) 0 ≡ version b
    of true m = refl
    of false m = refl

-- what a checkpoint has behind the lines of these agents
pub data Behind (program : Program) (agents : List Agent) (next : ℕ) (l : List ℕ) (tail : List (List ℕ)) : Type 0 where
  ends : l ≡ end_line agents → tail ≡ [] → Behind program agents next l tail
  goes_on : (a : Agent) → IsAgentLine program a l → MayFollow agents next a → Behind program agents next l tail

pub behind : (program : Program) (h : Heading) (agents : List Agent) (all : List (List ℕ)) (c : Bool) (m : Moment) (l : List ℕ) (tail : List (List ℕ)) → LawfulProgram program
    → IsFront program h agents all → IsMoment program c m → take (front_length program h.tells_next agents) all ++ l ∷ tail ≡ lines program c m → Behind program agents h.next l tail
behind program h agents all c m l tail lawful is moment_is e =
    let b = h.tells_next in
    let places = place_range b in
    let same : c ≡ b = version_same program all (l ∷ tail) b c m (front_length program b agents) e (omega (arith, places.0)) is.there (front_first program h agents all is) in
    let mine : IsMoment program b m = subst (λ x. IsMoment program x m) same moment_is in
    let parts = fronts_part program b (told h agents) m (l ∷ tail) (end_line m.world.agents ∷ [])
    (ap (λ f. f ++ l ∷ tail) (sym is.same) ∙ e ∙ ap (λ x. lines program x m) same) in
    let low : m.world.next ≤ h.next = next_low b refl mine parts.0 in
    let few = mine.lawful.few_agents in
    let (more, are, rest) = agents_first program agents m.world.agents l tail (length m.world.agents) lawful (fit_of program b (told h agents) is.moment_is) (fit_of program b m mine) (omega (arith, few)) parts.1 in
    of more mine low are rest
  where
    next_low : (b : Bool) → h.tells_next ≡ b → IsMoment program b m → heading b (told h agents) ≡ heading b m → m.world.next ≤ h.next
    next_low true told_b mine top = omega (arith, next_same (told h agents) m is.moment_is.numbered.in_range mine.numbered.in_range top, ap (λ x. next_of x h.next agents) told_b)
    next_low false told_b mine top = omega (arith, mine.numbered.in_range, is.greatest told_b)

    of : (more : List Agent) → IsMoment program h.tells_next m → m.world.next ≤ h.next → m.world.agents ≡ agents ++ more
        → l ∷ tail ≡ map (agent_text program) more ++ end_line m.world.agents ∷ [] → Behind program agents h.next l tail
    of [] mine low are rest =
        let (one, none) = same_parts l (end_line m.world.agents) tail [] rest in
        ends (one ∙ ap end_line (are ∙ append-nil agents)) none
    of (a ∷ more) mine low are rest =
        let (one, others) = same_parts l (agent_text program a) tail (map (agent_text program) more ++ end_line m.world.agents ∷ []) rest in
        let fit = fit_at program agents more a (subst (Fit program) are (fit_of program h.tells_next m mine)) in
        goes_on a (record { lawful = fit.lawful; values_fit = fit.values_fit; same = one }) (next_may program h.tells_next m agents more a h.next mine are low)

-- the lines of these agents begin a checkpoint, and with an end line they are one
pub front_is_begun : (program : Program) (h : Heading) (agents : List Agent) (all : List (List ℕ)) → IsFront program h agents all → Begin program (take (front_length program h.tells_next agents) all)
front_is_begun program h agents all is =
    front_begins program h.tells_next (told h agents) (take (front_length program h.tells_next agents) all) (end_line agents ∷ []) is.moment_is (ap (λ f. f ++ end_line agents ∷ []) is.same)

pub ended_lines : (program : Program) (h : Heading) (agents : List Agent) (all : List (List ℕ)) → IsFront program h agents all → front_length program h.tells_next agents < length all
    → line all (front_length program h.tells_next agents) ≡ end_line agents → take (front_length program h.tells_next agents + 1) all ≡ lines program h.tells_next (told h agents)
ended_lines program h agents all is below end =
    one_more all (front program h.tells_next (told h agents)) (front_length program h.tells_next agents) (end_line agents) is.same below end

pub whole : (program : Program) (h : Heading) (agents : List Agent) (all : List (List ℕ)) → IsFront program h agents all → front_length program h.tells_next agents < length all
    → line all (front_length program h.tells_next agents) ≡ end_line agents → length all ≤ front_length program h.tells_next agents + 1 → AreOf program (told h agents) all
whole program h agents all is below end over =
    record { tells_next = h.tells_next; moment_is = is.moment_is; same = sym (take_all (front_length program h.tells_next agents + 1) all over) ∙ ended_lines program h agents all is below end }

behind_fault : (program : Program) (h : Heading) (agents : List Agent) (all : List (List ℕ)) (n : ℕ) → IsFront program h agents all → front_length program h.tells_next agents < n → fault_of program all n ≡ BadLine n
behind_fault program h agents all n is low =
    let at : heading_length all ≡ place h.tells_next = place_is all h.tells_next (front_first program h agents all is) in
    let places = place_range h.tells_next in
    fault_behind program all n (omega (arith, places.0, low)) (omega (arith, at, low)) (omega (arith, at, low))

-- the next line is an agent's that may not follow, or neither an agent's nor the end line
pub line_bad : (program : Program) (h : Heading) (agents : List Agent) (all : List (List ℕ)) (rest : List ℕ) → LawfulProgram program → IsFront program h agents all
    → front_length program h.tells_next agents < length all → (line all (front_length program h.tells_next agents) ≡ end_line agents → ⊥)
    → ((a : Agent) → IsAgentLine program a (line all (front_length program h.tells_next agents)) → MayFollow agents h.next a → ⊥)
    → IsRead program all rest (Err (BadLine (front_length program h.tells_next agents + 1)))
line_bad program h agents all rest lawful is below no_end no_agent =
    let n = front_length program h.tells_next agents in
    bad_at program all rest n (BadLine (n + 1)) below (front_is_begun program h agents all is)
    (λ begun.
    let (m, more, are) = begun in
    let e : take n all ++ line all n ∷ more ≡ lines program are.tells_next m =
    sym (append_assoc (take n all) (line all n ∷ []) more) ∙ ap (λ l. l ++ more) (sym (take_more all n [] below)) ∙ are.same in
    elim (behind program h agents all are.tells_next m (line all n) more lawful is are.moment_is e) [
      | ends one none ↦ no_end one
      | goes_on a told may ↦ no_agent a told may
    ])
    (behind_fault program h agents all (n + 1) is (omega arith))

pub agent_bad : (program : Program) (h : Heading) (agents : List Agent) (all : List (List ℕ)) (rest : List ℕ) (a : Agent) → LawfulProgram program → IsFront program h agents all
    → front_length program h.tells_next agents < length all → IsAgentLine program a (line all (front_length program h.tells_next agents)) → (MayFollow agents h.next a → ⊥)
    → IsRead program all rest (Err (BadLine (front_length program h.tells_next agents + 1)))
agent_bad program h agents all rest a lawful is below told may_not =
    let text = line all (front_length program h.tells_next agents) in
    let few = is.moment_is.lawful.few_agents in
    line_bad program h agents all rest lawful is below
    (λ e. no_end program a (length agents) (omega (arith, few)) lawful (subst (IsAgentLine program a) e told))
    (λ other is_other may. may_not (subst (MayFollow agents h.next) (agent_same program other a text lawful is_other told) may))

-- one agent more is told
pub front_more : (program : Program) (h : Heading) (agents : List Agent) (all : List (List ℕ)) (a : Agent) → IsFront program h agents all → front_length program h.tells_next agents < length all
    → IsAgentLine program a (line all (front_length program h.tells_next agents)) → MayFollow agents h.next a → IsFront program h (agents ++ a ∷ []) all
front_more program h agents all a is below told_a may =
    let b = h.tells_next in
    let n = front_length program b agents in
    let more = agents ++ a ∷ [] in
    let long : n + 1 ≡ front_length program b more = omega (arith, length_push agents a) in
    let classes = map class_line program.classes in
    let mine = map (agent_text program) agents in
    let top = heading b (told h agents) in
    record {
      moment_is = moment_more program b h.tick h.seed h.next agents a (line all n) is.moment_is told_a may;
      greatest = is.greatest;
      there = omega (arith, long, below);
      same = subst (λ k. take k all ≡ front program b (told h more)) long
          (one_more all (front program b (told h agents)) n (agent_text program a) is.same below told_a.same
          ∙ append_assoc (top ++ classes) mine (agent_text program a ∷ [])
          ∙ ap (λ l. (top ++ classes) ++ l) (sym (map_push (agent_text program) agents a))
          ∙ ap (λ t. (t ++ classes) ++ map (agent_text program) more) (one_heading b h.tick h.seed h.next));
    }
  where
    one_heading : (b : Bool) (tick seed next : ℕ) → heading b (moment_of b tick seed next agents) ≡ heading b (moment_of b tick seed next (agents ++ a ∷ []))
    one_heading true tick seed next = refl
    one_heading false tick seed next = refl

-- the lines end behind those of agents
pub end_missing : (program : Program) (h : Heading) (agents : List Agent) (all : List (List ℕ)) (rest : List ℕ) → LawfulProgram program → IsFront program h agents all
    → length all ≤ front_length program h.tells_next agents → IsRead program all rest (Err Incomplete)
end_missing program h agents all rest lawful is over =
    let b = h.tells_next in
    let n = front_length program b agents in
    let places = place_range b in
    cut_at program all rest n over (front_is_begun program h agents all is)
    (λ begun.
    let (m, are) = begun in
    let c = are.tells_next in
    let e : take n all ++ [] ≡ lines program c m = append-nil (take n all) ∙ take_all n all over ∙ are.same in
    let same : c ≡ b = version_same program all [] b c m n e (omega (arith, places.0)) is.there (front_first program h agents all is) in
    let mine : IsMoment program b m = subst (λ x. IsMoment program x m) same are.moment_is in
    let few = mine.lawful.few_agents in
    let parts = fronts_part program b (told h agents) m [] (end_line m.world.agents ∷ []) (ap (λ f. f ++ []) (sym is.same) ∙ e ∙ ap (λ x. lines program x m) same) in
    no_end_missing program agents m.world.agents (length m.world.agents) lawful (fit_of program b (told h agents) is.moment_is) (omega (arith, few))
    (sym (append-nil (map (agent_text program) agents)) ∙ parts.1))

-- something stands behind the end line
pub line_behind : (program : Program) (h : Heading) (agents : List Agent) (all : List (List ℕ)) (rest : List ℕ) → LawfulProgram program → IsFront program h agents all
    → line all (front_length program h.tells_next agents) ≡ end_line agents → front_length program h.tells_next agents + 1 < length all
    → IsRead program all rest (Err (BadLine (front_length program h.tells_next agents + 2)))
line_behind program h agents all rest lawful is end below =
    let b = h.tells_next in
    let n = front_length program b agents in
    let few = is.moment_is.lawful.few_agents in
    let two : n + 1 + 1 ≡ n + 2 = omega arith in
    bad_at program all rest (n + 1) (BadLine (n + 2)) below
    (front_begins program b (told h agents) (take (n + 1) all) [] is.moment_is (append-nil (take (n + 1) all) ∙ ended_lines program h agents all is (omega (arith, below)) end))
    (λ begun.
    let (m, more, are) = begun in
    let next = line all (n + 1) in
    let e : take n all ++ line all n ∷ (next ∷ more) ≡ lines program are.tells_next m =
    sym (append_assoc (take n all) (line all n ∷ next ∷ []) more)
    ∙ ap (λ l. l ++ more) (sym (append_assoc (take n all) (line all n ∷ []) (next ∷ [])) ∙ ap (λ l. l ++ next ∷ []) (sym (take_more all n [] (omega (arith, below)))) ∙ sym (take_more all (n + 1) [] below))
    ∙ are.same in
    elim (behind program h agents all are.tells_next m (line all n) (next ∷ more) lawful is are.moment_is e) [
      | ends one none ↦ absurd (omega (arith, ap length none))
      | goes_on a told_a may ↦ no_end program a (length agents) (omega (arith, few)) lawful (subst (IsAgentLine program a) end told_a)
    ])
    (behind_fault program h agents all (n + 1 + 1) is (omega arith) ∙ ap BadLine two)

pub rest_behind : (program : Program) (h : Heading) (agents : List Agent) (all : List (List ℕ)) (rest : List ℕ) → IsFront program h agents all
    → line all (front_length program h.tells_next agents) ≡ end_line agents → front_length program h.tells_next agents + 1 ≡ length all → (rest ≡ [] → ⊥)
    → IsRead program all rest (Err (BadLine (front_length program h.tells_next agents + 2)))
rest_behind program h agents all rest is end count some =
    let b = h.tells_next in
    let n = front_length program b agents in
    let same : n + 1 ≡ n + 2 - 1 = omega arith in
    subst (λ f. IsRead program all rest (Err f)) (behind_fault program h agents all (n + 2) is (omega arith)) (bad (n + 2) (record {
      counted = omega arith;
      before = subst (λ k. Begin program (take k all)) same
          (front_begins program b (told h agents) (take (n + 1) all) [] is.moment_is (append-nil (take (n + 1) all) ∙ ended_lines program h agents all is (omega (arith, count)) end));
      bad = inr (omega (arith, count), some, (told h agents, whole program h agents all is (omega (arith, count)) end (omega (arith, count))));
    }))
