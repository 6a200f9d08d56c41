-- Inversion over whole worlds: what both programs say and find.
use Rattle.std.proofs.Common.{◌≡◌, ◌∙◌, refl, sym, ap, subst, ℕ, List, [], map, filter, flat_map, true, false, Option, Some, None, ⊎_elim, inl, inr}
use Rattle.std.specs.Prelude.{◌↔◌, ◌==◌, ◌&&◌, not, option_map, IsTrue, replicate}
use Rattle.std.specs.List.{All, Contains}
use Rattle.std.specs.List.Sorted.{IsPermutation}
use Rattle.std.specs.declared.cmp.Ordering.TheVariants.{Less, Equal}
use Rattle.std.specs.Ordering.{nat_cmp}
use Rattle.std.specs.Cmp.{nat_cmp_is}
use Rattle.std.proofs.lemmas.Cmp.{nat_cmp_total, tied_itself}
use Rattle.std.proofs.lemmas.Option.{slice_get-map}
use Rattle.std.proofs.lemmas.List.Elements.{filter-append, All-contains, Contains-append_cases}
use Rattle.brace_model.specs.declared.program.Stmt.{Stmt}
use Rattle.brace_model.specs.declared.program.Stmt.TheOpen as layer
use Rattle.brace_model.specs.declared.program.Stmt.TheFolds.{fold-Stmt}
use Rattle.brace_model.specs.declared.program.Class.{Class}
use Rattle.brace_model.specs.declared.program.Program.{Program}
use Rattle.brace_model.specs.declared.fault.Fault.{Fault}
use Rattle.brace_model.specs.declared.world.Agent.{Agent}
use Rattle.brace_model.specs.World.{no_value, class_of, reaches_to, sees}
use Rattle.brace_model.specs.Value.{Scope}
use Rattle.brace_model.specs.Query.{Saying, Deed, silent, block, iterated, statement_step, statement, inside, seen_by, opening_scope, query_in, query_of, said_in, query_faults}
use Rattle.brace_model.specs.Sites.{sites_in}
use Rattle.brace_model.specs.Typing.{in_turn, scope_after}
use Rattle.brace_model.specs.Lawful.{query_scope, LawfulProgram}
use Rattle.brace_model.specs.Total.{said_to}
use Rattle.std.proofs.lemmas.List.Sorted.{IsPermutation-map}
use Rattle.brace_model.specs.FaultOrder.{phase_rank, comes_before, least}
use Rattle.brace_model.proofs.FaultLemmas.{before_in_turn, least_is, least_none}
use Rattle.brace_invert.specs.Split.{with_query, with_queries, forward_query, inverse_query, forward_program, inverse_program}
use Rattle.brace_invert.specs.Inversion.{said_by_both, found_by_both, ComesAfter, IsForeseen}
use Rattle.brace_invert.proofs.Sublists.{rising_from}
use Rattle.brace_model.proofs.Blocks.{plain}
use Rattle.brace_model.proofs.Deeds.{run}
use Rattle.brace_invert.proofs.Halves.{halves}
use Rattle.brace_invert.proofs.Numbers.{constants_kept}
use Rattle.brace_invert.proofs.Sites.{none_within}
use Rattle.brace_invert.proofs.Typed.{is_there}
use Rattle.brace_invert.proofs.LawfulParts.{IsPart, forward_is_part, inverse_is_part}
use Rattle.brace_invert.proofs.Runs.{Joined, Together, together_over, joined_run}
use Rattle.brace_invert.proofs.Traces.{Foretold, foretold_over, foretold_run}
use Rattle.std.proofs.lemmas.Bool.{cases_Bool, true≢false}
use Rattle.brace_num.proofs.Lists.{none_in, filter_all, All-from_contains}

-- agents of a program with other queries see the same
reaches_same : (part : List Stmt → List Stmt) (c d : Option Class) (a b : Agent) → reaches_to (option_map (with_query part) c) (option_map (with_query part) d) a b ≡ reaches_to c d a b
reaches_same part None d a b = refl
reaches_same part (Some c) None a b = refl
reaches_same part (Some c) (Some d) a b = refl

pub class_same : (part : List Stmt → List Stmt) (m : Program) (a : Agent) → class_of (with_queries part m) a ≡ option_map (with_query part) (class_of m a)
class_same part m a = slice_get-map (with_query part) m.classes a.class

sees_same : (part : List Stmt → List Stmt) (m : Program) (a b : Agent) → sees (with_queries part m) a b ≡ sees m a b
sees_same part m a b =
    ap (λ r. not (a.id == b.id) && r)
    (ap (λ c. reaches_to c (class_of (with_queries part m) b) a b) (class_same part m a) ∙ ap (λ c. reaches_to (option_map (with_query part) (class_of m a)) c a b) (class_same part m b)
    ∙ reaches_same part (class_of m a) (class_of m b) a b)

pub seen_same : (part : List Stmt → List Stmt) (m : Program) (w : List Agent) (a : Agent) (class : ℕ) → seen_by (with_queries part m) w a class ≡ seen_by m w a class
seen_same part m w a class = ap (λ test. filter test w) (λ i b. (b.class == class) && sees_same part m a b i)

step_same : (part : List Stmt → List Stmt) (m : Program) (w : List Agent) (y : layer.Stmt-F (Scope → Deed)) → statement_step (with_queries part m) w y ≡ statement_step m w y
step_same part m w (layer.Foreach class body at) = λ i scope. iterated scope (map (λ b. block body (inside scope b)) (seen_same part m w scope.this class i))
step_same part m w _ = refl

statement_same : (part : List Stmt → List Stmt) (m : Program) (w : List Agent) → statement (with_queries part m) w ≡ statement m w
statement_same part m w = ap (fold-Stmt (Scope → Deed)) (λ i y. step_same part m w y i)

-- the query of an agent, by its class
abbrev pub part_deed : (List Stmt → List Stmt) → Program → ℕ → ℕ → List Agent → Agent → Option Class → Deed
part_deed part m seed tick w a None = silent (opening_scope seed tick [] [] a)
part_deed part m seed tick w a (Some class) = run m w (part class.query) (opening_scope seed tick class.query [] a)

part_in : (part : List Stmt → List Stmt) → IsPart part → (m : Program) (seed tick : ℕ) (w : List Agent) (a : Agent) (class : Option Class)
    → query_in (with_queries part m) seed tick w a (option_map (with_query part) class) ≡ part_deed part m seed tick w a class
part_in part is_part m seed tick w a None = refl
part_in part is_part m seed tick w a (Some class) =
    ap (λ f. block (map f (part class.query)) (opening_scope seed tick (part class.query) [] a)) (statement_same part m w)
    ∙ ap (λ n. run m w (part class.query) (record (opening_scope seed tick class.query [] a) { locals = replicate n no_value })) (constants_kept class.query (part class.query) (is_part class.query))

pub part_of : (part : List Stmt → List Stmt) → IsPart part → (m : Program) (seed tick : ℕ) (w : List Agent) (a : Agent) → query_of (with_queries part m) seed tick w a ≡ part_deed part m seed tick w a (class_of m a)
part_of part is_part m seed tick w a = ap (query_in (with_queries part m) seed tick w a) (class_same part m a) ∙ part_in part is_part m seed tick w a (class_of m a)

-- what the query of an agent and its two parts do
joined_in : (m : Program) (seed tick : ℕ) (w : List Agent) (a : Agent) (class : Option Class)
    → Joined (query_in m seed tick w a class) (part_deed forward_query m seed tick w a class) (part_deed inverse_query m seed tick w a class)
joined_in m seed tick w a None = joined_run m w [] [] [] (halves [] (plain []) false) (opening_scope seed tick [] [] a)
joined_in m seed tick w a (Some class) = joined_run m w class.query _ _ (halves class.query (plain class.query) false) (opening_scope seed tick class.query [] a)

joined_of : (m : Program) (seed tick : ℕ) (w : List Agent) (a : Agent) → Joined (query_of m seed tick w a) (query_of (forward_program m) seed tick w a) (query_of (inverse_program m) seed tick w a)
joined_of m seed tick w a =
    rw (part_of forward_query forward_is_part m seed tick w a, part_of inverse_query inverse_is_part m seed tick w a) (joined_in m seed tick w a (class_of m a))

joined_all : (m : Program) (seed tick : ℕ) (w agents : List Agent)
    → Together (flat_map (λ a. (query_of m seed tick w a).said) agents) (flat_map (λ a. (query_of (forward_program m) seed tick w a).said) agents) (flat_map (λ a. (query_of (inverse_program m) seed tick w a).said) agents)
    (flat_map (λ a. (query_of m seed tick w a).faults) agents) (flat_map (λ a. (query_of (forward_program m) seed tick w a).faults) agents) (flat_map (λ a. (query_of (inverse_program m) seed tick w a).faults) agents)
joined_all m seed tick w = together_over (query_of m seed tick w) (query_of (forward_program m) seed tick w) (query_of (inverse_program m) seed tick w) (joined_of m seed tick w)

pub said_same : (m : Program) (seed tick : ℕ) (w : List Agent) → query_faults m seed tick w ≡ [] → IsPermutation (said_in m seed tick w) (said_by_both m seed tick w)
said_same m seed tick w e =
    subst (λ x. IsPermutation x (said_by_both m seed tick w)) (filter_all (said_in m seed tick w))
    (subst (IsPermutation (filter (λ s. true) (said_in m seed tick w))) (sym (filter-append (λ s. true) (said_in (forward_program m) seed tick w) (said_in (inverse_program m) seed tick w)) ∙ filter_all (said_by_both m seed tick w))
    ((joined_all m seed tick w w).same (λ s. true) e))

pub said_to_each : (m : Program) (seed tick : ℕ) (w : List Agent) (id effect : ℕ) → query_faults m seed tick w ≡ [] → IsPermutation (said_to id effect (said_in m seed tick w)) (said_to id effect (said_by_both m seed tick w))
said_to_each m seed tick w id effect e =
    let test = λ (s : Saying). (s.target == id) && (s.field == effect) in
    IsPermutation-map (λ (s : Saying). s.value) (filter test (said_in m seed tick w)) (filter test (said_by_both m seed tick w))
    (subst (IsPermutation (filter test (said_in m seed tick w))) (sym (filter-append test (said_in (forward_program m) seed tick w) (said_in (inverse_program m) seed tick w)))
    ((joined_all m seed tick w w).same test e))

-- they find each fault of it
pub faults_kept : (m : Program) (seed tick : ℕ) (w : List Agent) (g : Fault) → Contains (query_faults m seed tick w) g → Contains (found_by_both m seed tick w) g
faults_kept m seed tick w g h = (joined_all m seed tick w w).kept g h

-- a part of a lawful script finds what the script finds, or what comes after it
foretold_in : (part : List Stmt → List Stmt) → IsPart part → (m : Program) → LawfulProgram m → (seed tick : ℕ) (w : List Agent) (a : Agent) (class : Option Class) → class_of m a ≡ class
    → Foretold (query_in m seed tick w a class).faults (part_deed part m seed tick w a class).faults
foretold_in part is_part m lawful seed tick w a None e = λ g h. inl h
foretold_in part is_part m lawful seed tick w a (Some class) e =
    let here = lawful.classes_are_lawful a.class class e in
    let (last, formed) = is_there (in_turn (map scope_after class.query) (query_scope m a.class)) here.query_is_typed in
    foretold_run m w class.query (part class.query) (is_part class.query) (query_scope m a.class) last formed (rising_from (flat_map sites_in class.query) here.query_sites_rise)
    (opening_scope seed tick class.query [] a)

foretold_of : (part : List Stmt → List Stmt) → IsPart part → (m : Program) → LawfulProgram m → (seed tick : ℕ) (w : List Agent) (a : Agent)
    → Foretold (query_of m seed tick w a).faults (query_of (with_queries part m) seed tick w a).faults
foretold_of part is_part m lawful seed tick w a =
    subst (λ x. Foretold (query_of m seed tick w a).faults x.faults) (sym (part_of part is_part m seed tick w a)) (foretold_in part is_part m lawful seed tick w a (class_of m a) refl)

foretold_all : (part : List Stmt → List Stmt) → IsPart part → (m : Program) → LawfulProgram m → (seed tick : ℕ) (w agents : List Agent)
    → Foretold (flat_map (λ a. (query_of m seed tick w a).faults) agents) (flat_map (λ a. (query_of (with_queries part m) seed tick w a).faults) agents)
foretold_all part is_part m lawful seed tick w = foretold_over (query_of m seed tick w) (query_of (with_queries part m) seed tick w) (foretold_of part is_part m lawful seed tick w)

pub forward_foreseen : (m : Program) (seed tick : ℕ) (w : List Agent) → LawfulProgram m → (g : Fault) → Contains (query_faults (forward_program m) seed tick w) g → IsForeseen (query_faults m seed tick w) g
forward_foreseen m seed tick w lawful = foretold_all forward_query forward_is_part m lawful seed tick w w

pub inverse_foreseen : (m : Program) (seed tick : ℕ) (w : List Agent) → LawfulProgram m → (g : Fault) → Contains (query_faults (inverse_program m) seed tick w) g → IsForeseen (query_faults m seed tick w) g
inverse_foreseen m seed tick w lawful = foretold_all inverse_query inverse_is_part m lawful seed tick w w

pub found_foreseen : (m : Program) (seed tick : ℕ) (w : List Agent) → LawfulProgram m → (g : Fault) → Contains (found_by_both m seed tick w) g → IsForeseen (query_faults m seed tick w) g
found_foreseen m seed tick w lawful g h =
    ⊎_elim (λ (x : Contains (query_faults (forward_program m) seed tick w) g). forward_foreseen m seed tick w lawful g x)
    (λ (x : Contains (query_faults (inverse_program m) seed tick w) g). inverse_foreseen m seed tick w lawful g x)
    (Contains-append_cases (query_faults (forward_program m) seed tick w) (query_faults (inverse_program m) seed tick w) g h)

-- a fault that comes after another is greater, so it is not less than what the other is not less than
tied : (x y : ℕ) → y ≡ x → nat_cmp x y ≡ Equal
tied x y e = ap (nat_cmp x) e ∙ tied_itself nat_cmp_total x

after_less : (f g : Fault) → ComesAfter f g → IsTrue (comes_before f g)
after_less f g h =
    rw (tied f.tick g.tick h.tick, tied (phase_rank f.phase) (phase_rank g.phase) (ap phase_rank h.phase), tied f.agent g.agent h.agent, sym (nat_cmp_is f.site g.site Less h.site)) refl

behind : (e f g : Fault) → comes_before e f ≡ false → ComesAfter e g → comes_before g f ≡ false
behind e f g low after = elim (cases_Bool (comes_before g f)) [
  | inl before ↦ absurd (true≢false (sym (before_in_turn e g f (after_less e g after) before) ∙ low))
  | inr not_before ↦ not_before
]

-- there is a fault with both exactly where there is one without
pub found_none : (m : Program) (seed tick : ℕ) (w : List Agent) → LawfulProgram m → found_by_both m seed tick w ≡ [] ↔ query_faults m seed tick w ≡ []
found_none m seed tick w lawful = (
  λ e. none_in (query_faults m seed tick w) (λ g h. none_within ⊥ g (subst (λ xs. Contains xs g) e (faults_kept m seed tick w g h))),
  λ e. none_in (found_by_both m seed tick w) (λ g h. ⊎_elim (λ (x : Contains (query_faults m seed tick w) g). none_within ⊥ g (subst (λ xs. Contains xs g) e x))
      (λ (x : (f : Fault) × Contains (query_faults m seed tick w) f × ComesAfter f g). none_within ⊥ x.0 (subst (λ xs. Contains xs x.0) e x.1)) (found_foreseen m seed tick w lawful g h)),
)

-- the least fault is the same
not_before : (m : Program) (seed tick : ℕ) (w : List Agent) (f : Fault) → LawfulProgram m → All (λ g. comes_before g f ≡ false) (query_faults m seed tick w) → (g : Fault) → Contains (found_by_both m seed tick w) g
    → comes_before g f ≡ false
not_before m seed tick w f lawful low g h =
    ⊎_elim (λ (x : Contains (query_faults m seed tick w) g). All-contains (λ g. comes_before g f ≡ false) (query_faults m seed tick w) g low x)
    (λ (x : (e : Fault) × Contains (query_faults m seed tick w) e × ComesAfter e g).
    behind x.0 f g (All-contains (λ g. comes_before g f ≡ false) (query_faults m seed tick w) x.0 low x.1) x.2)
    (found_foreseen m seed tick w lawful g h)

least_by : (m : Program) (seed tick : ℕ) (w : List Agent) → LawfulProgram m → (o : Option Fault) → least (query_faults m seed tick w) ≡ o → least (found_by_both m seed tick w) ≡ o
least_by m seed tick w lawful None e = ap least ((found_none m seed tick w lawful).1 ((least_none (query_faults m seed tick w)).0 e))
least_by m seed tick w lawful (Some f) e =
    let (among, low) = (least_is (query_faults m seed tick w) f).0 e in
    (least_is (found_by_both m seed tick w) f).1 (faults_kept m seed tick w f among, All-from_contains _ (found_by_both m seed tick w) (not_before m seed tick w f lawful low))

pub least_same : (m : Program) (seed tick : ℕ) (w : List Agent) → LawfulProgram m → least (found_by_both m seed tick w) ≡ least (query_faults m seed tick w)
least_same m seed tick w lawful = least_by m seed tick w lawful (least (query_faults m seed tick w)) refl
