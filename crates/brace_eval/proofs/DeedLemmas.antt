-- What a block does, cut at a statement, and ledgers that stand for it.
use Rattle.std.proofs.Common.{◌≡◌, ◌∙◌, sym, refl, ap, subst, ℕ, ◌+◌, ◌<◌, List, [], ◌∷◌, ◌++◌, true, false, Bool, length, take, drop, get_or, map, fold, Option, Some, None, Result, Ok, Err, add-one, append_assoc, flat_map}
use Rattle.std.specs.List.{filter}
use Rattle.std.specs.Prelude.{IfOk}
use Rattle.std.specs.Result.{result_ok}
use Rattle.std.proofs.lemmas.List.{map-append, append-nil, take-append-drop}
use Rattle.std.proofs.lemmas.List.Elements.{filter-append}
use Rattle.std.proofs.lemmas.Grind.{flat_map-append}
use Rattle.std.proofs.lemmas.List.Sums.{fold-append}
use Rattle.std.proofs.lemmas.List.Sorted.{IsPermutation-append_comm}
use Rattle.std.proofs.Math.Seq.{take-suc}
use Rattle.brace_model.specs.declared.program.Value.{Value}
use Rattle.brace_model.specs.declared.program.Value.TheVariants.{Flag}
use Rattle.brace_model.specs.declared.program.Program.{Program}
use Rattle.brace_model.specs.declared.fault.Fault.{Fault}
use Rattle.brace_model.specs.declared.world.Agent.{Agent}
use Rattle.brace_model.specs.FaultOrder.{least, earlier, with_earlier}
use Rattle.brace_model.specs.Value.{Scope, Worth}
use Rattle.brace_model.specs.declared.program.Stmt.{Stmt}
use Rattle.brace_model.proofs.FaultLemmas.{least_any_order}
use Rattle.brace_model.specs.Query.{Saying, Deed, silent, deed_of, followed_by, block, chosen, statement}
use Rattle.brace_model.proofs.Deeds.{after, goes_to, stops_at}
use Rattle.brace_eval.specs.declared.heard.Heard.{Heard}
use Rattle.brace_eval.specs.declared.scene.Scene.{Scene}
use Rattle.brace_eval.specs.declared.ledger.Ledger.{Ledger}
use Rattle.brace_eval.specs.declared.seat.Seat.{Seat}
use Rattle.brace_eval.specs.Heard.{IsHeard}
use Rattle.brace_eval.specs.inner.Walks.{is_true, scope_at, block_in}
use Rattle.brace_eval.specs.inner.Tables.{Keeps, Notes, NotesDeed}

-- ---- blocks

followed-silent : (d : Deed) (b : Bool) → d.stopped ≡ b → followed_by d silent ≡ d
followed-silent d true e = rw e refl
followed-silent d false e =
    let said = append-nil d.said in
    let faults = append-nil d.faults in
    let plain : Deed = record { said = d.said ++ []; faults = d.faults ++ []; stopped = false; scope = d.scope } in
    let first : followed_by d silent ≡ plain = rw e refl in
    let second : plain ≡ d = λ i. record { said = said i; faults = faults i; stopped = sym e i; scope = d.scope } in
    first ∙ second

after-after : (c d e : Deed) → after (after c d) e ≡ after c (after d e)
after-after c d e =
    let said = append_assoc c.said d.said e.said in
    let faults = append_assoc c.faults d.faults e.faults in
    λ i. record { said = said i; faults = faults i; stopped = e.stopped; scope = e.scope }

followed-assoc : (d : Deed) (f g : Scope → Deed) (b : Bool) → d.stopped ≡ b → (c : Bool) → (f d.scope).stopped ≡ c
    → followed_by (followed_by d f) g ≡ followed_by d (λ s. followed_by (f s) g)
followed-assoc d f g true e c h =
    ap (λ (x : Deed). followed_by x g) (stops_at d f e) ∙ stops_at d g e
    ∙ sym (stops_at d (λ s. followed_by (f s) g) e)
followed-assoc d f g false e true h =
    ap (λ (x : Deed). followed_by x g) (goes_to d f e) ∙ stops_at (after d (f d.scope)) g h
    ∙ ap (after d) (sym (stops_at (f d.scope) g h))
    ∙ sym (goes_to d (λ s. followed_by (f s) g) e)
followed-assoc d f g false e false h =
    ap (λ (x : Deed). followed_by x g) (goes_to d f e) ∙ goes_to (after d (f d.scope)) g h
    ∙ after-after d (f d.scope) (g (f d.scope).scope)
    ∙ ap (after d) (sym (goes_to (f d.scope) g h))
    ∙ sym (goes_to d (λ s. followed_by (f s) g) e)

-- two ways to go on that agree in the scope that is left
followed-same : (d : Deed) (f g : Scope → Deed) (b : Bool) → d.stopped ≡ b → f d.scope ≡ g d.scope
    → followed_by d f ≡ followed_by d g
followed-same d f g true e same = stops_at d f e ∙ sym (stops_at d g e)
followed-same d f g false e same = goes_to d f e ∙ ap (after d) same ∙ sym (goes_to d g e)

-- a block and one statement more
pub block-snoc : (fs : List (Scope → Deed)) (f : Scope → Deed) (scope : Scope)
    → block (fs ++ f ∷ []) scope ≡ followed_by (block fs scope) f
block-snoc [] f scope = followed-silent (f scope) _ refl
block-snoc (h ∷ fs) f scope =
    followed-same (h scope) (block (fs ++ f ∷ [])) (λ s. followed_by (block fs s) f) _ refl (block-snoc fs f (h scope).scope)
    ∙ sym (followed-assoc (h scope) (block fs) f _ refl _ refl)

cut_short : (d : Deed) (f g : Scope → Deed) (b : Bool) → d.stopped ≡ b → (followed_by d g).stopped ≡ true
    → ((g d.scope).stopped ≡ true → f d.scope ≡ g d.scope) → followed_by d f ≡ followed_by d g
cut_short d f g true e h same = stops_at d f e ∙ sym (stops_at d g e)
cut_short d f g false e h same =
    followed-same d f g false e (same (sym (ap (λ (x : Deed). x.stopped) (goes_to d g e)) ∙ h))

-- a block that is cut short does nothing further
pub block-stopped : (fs gs : List (Scope → Deed)) (scope : Scope) → (block fs scope).stopped ≡ true
    → block (fs ++ gs) scope ≡ block fs scope
block-stopped [] gs scope e = absurd (let no : false ≡ true = e in cc)
block-stopped (h ∷ fs) gs scope e =
    cut_short (h scope) (block (fs ++ gs)) (block fs) _ refl e (block-stopped fs gs (h scope).scope)

-- ---- ledgers

-- what was noted before and what is noted then
pub notes-then : (scene : Scene) (said more : List Saying) (faults further : List Fault) (a b c : Ledger)
    → Notes scene said faults a b → Notes scene more further b c
    → Notes scene (said ++ more) (faults ++ further) a c
notes-then scene said more faults further a b c first second xs fs k =
    let all = second (xs ++ said) (fs ++ faults) (first xs fs k) in
    subst (λ (ys : List Saying). Keeps scene ys (fs ++ (faults ++ further)) c) (append_assoc xs said more)
    (subst (λ (gs : List Fault). Keeps scene ((xs ++ said) ++ more) gs c) (append_assoc fs faults further) all)

-- nothing is noted, and then something
pub nothing-then : (scene : Scene) (said : List Saying) (faults : List Fault) (a b c : Ledger)
    → Notes scene [] [] a b → Notes scene said faults b c → Notes scene said faults a c
nothing-then scene said faults a b c first second = notes-then scene [] said [] faults a b c first second

-- the same ledger, but for its drawer
pub notes-nothing : (scene : Scene) (a b : Ledger) → b.heard ≡ a.heard → Notes scene [] [] a b
notes-nothing scene a b same xs fs k =
    let kept : Keeps scene xs fs b =
    subst (λ (h : Heard). IsHeard scene.program.now scene.agents.now xs fs h) (sym same) k in
    subst (λ (ys : List Saying). Keeps scene ys (fs ++ []) b) (sym (append-nil xs))
    (subst (λ (gs : List Fault). Keeps scene xs gs b) (sym (append-nil fs)) kept)

pub least-snoc : (faults : List Fault) (fault : Fault)
    → least (faults ++ fault ∷ []) ≡ Some (with_earlier (least faults) fault)
least-snoc [] fault = refl
least-snoc (f ∷ faults) fault = ap (λ (g : Fault). Some g) (fold-append earlier f faults (fault ∷ []))

-- the least of two lists of faults is the earlier of theirs
least-both : (faults met : List Fault) (fault : Fault) → Some fault ≡ least met
    → least (faults ++ met) ≡ Some (with_earlier (least faults) fault)
least-both [] met fault is = sym is
least-both (f ∷ faults) met fault is =
    let first = fold earlier f faults in
    ap (λ (g : Fault). Some g) (fold-append earlier f faults met)
    ∙ least_any_order (first ∷ met) (met ++ first ∷ []) (IsPermutation-append_comm (first ∷ []) met)
    ∙ least-snoc met first
    ∙ ap (λ (o : Option Fault). Some (with_earlier o first)) (sym is)
    ∙ least_any_order (fault ∷ first ∷ []) (first ∷ fault ∷ []) (IsPermutation-append_comm (fault ∷ []) (first ∷ []))

-- some faults were met
pub heard-found : (program : Program) (agents : List Agent) (said : List Saying) (faults met : List Fault) (fault : Fault) (before after : Heard)
    → Some fault ≡ least met → after ≡ record before { least = Some (with_earlier before.least fault) }
    → IsHeard program agents said faults before → IsHeard program agents said (faults ++ met) after
heard-found program agents said faults met fault before after is same k =
    subst (λ (h : Heard). IsHeard program agents said (faults ++ met) h) (sym same)
    (record {
      totals = k.totals;
      counts = k.counts;
      least = ap (λ (o : Option Fault). Some (with_earlier o fault)) k.least ∙ sym (least-both faults met fault is);
      each_starts = k.each_starts;
      starts = k.starts;
    })

-- a fault comes to the same, whatever follows a value
pub deed-stopped : (scope : Scope) (w : Worth) (f g : Value → Deed) → result_ok w ≡ None → deed_of scope w f ≡ deed_of scope w g
deed-stopped scope (Ok v) f g e = absurd (cc)
deed-stopped scope (Err stop) f g e = refl

-- what is noted with a value, and then what is done with it
pub worth-then : (scene : Scene) (scope : Scope) (w : Worth) (f : Value → Deed) (v : Value) (a b c : Ledger)
    → result_ok w ≡ Some v → NotesDeed scene (deed_of scope w (λ u. silent scope)) a b → NotesDeed scene (f v) b c
    → NotesDeed scene (deed_of scope w f) a c
worth-then scene scope (Ok u) f v a b c is first second =
    let same : u ≡ v = cc in
    subst (λ (x : Value). NotesDeed scene (f x) a c) (sym same)
    (nothing-then scene (f v).said (f v).faults a b c first second)
worth-then scene scope (Err stop) f v a b c is first second = absurd (cc)

-- a stop is noted, whatever follows a value
pub worth-stops : (scene : Scene) (scope : Scope) (w : Worth) (f : Value → Deed) (a b : Ledger)
    → result_ok w ≡ None → NotesDeed scene (deed_of scope w (λ u. silent scope)) a b
    → NotesDeed scene (deed_of scope w f) a b
worth-stops scene scope w f a b none noted =
    subst (λ (d : Deed). NotesDeed scene d a b) (deed-stopped scope w (λ u. silent scope) f none) noted

-- ---- loops

-- one element more
pub map-more : {A B : Type 0} (f : A → B) (xs : List A) (i : ℕ) (x : A) → i < length xs → x ≡ get_or xs i x
    → map f (take (i + 1) xs) ≡ map f (take i xs) ++ f x ∷ []
map-more f xs i x le is =
    ap (map f) (ap (λ (n : ℕ). take n xs) (add-one i) ∙ take-suc xs i x le) ∙ map-append f (take i xs) _
    ∙ ap (λ y. map f (take i xs) ++ f y ∷ []) (sym is)

filter-more : (p : Agent → Bool) (xs : List Agent) (i : ℕ) (x : Agent) → i < length xs → x ≡ get_or xs i x
    → filter p (take (i + 1) xs) ≡ filter p (take i xs) ++ filter p (x ∷ [])
filter-more p xs i x le is =
    ap (filter p) (ap (λ (n : ℕ). take n xs) (add-one i) ∙ take-suc xs i x le ∙ ap (λ y. take i xs ++ y ∷ []) (sym is))
    ∙ filter-append p (take i xs) (x ∷ [])

pub seen-more : (p : Agent → Bool) (f : Agent → Deed) (xs : List Agent) (i : ℕ) (x : Agent) → i < length xs
    → x ≡ get_or xs i x → p x ≡ true
    → map f (filter p (take (i + 1) xs)) ≡ map f (filter p (take i xs)) ++ f x ∷ []
seen-more p f xs i x le is seen =
    let one : filter p (x ∷ []) ≡ x ∷ [] = rw seen refl in
    ap (map f) (filter-more p xs i x le is ∙ ap (λ (l : List Agent). filter p (take i xs) ++ l) one)
    ∙ map-append f (filter p (take i xs)) (x ∷ [])

pub unseen-more : (p : Agent → Bool) (f : Agent → Deed) (xs : List Agent) (i : ℕ) (x : Agent) → i < length xs
    → x ≡ get_or xs i x → p x ≡ false
    → map f (filter p (take (i + 1) xs)) ≡ map f (filter p (take i xs))
unseen-more p f xs i x le is unseen =
    let none : filter p (x ∷ []) ≡ [] = rw unseen refl in
    ap (map f) (filter-more p xs i x le is ∙ ap (λ (l : List Agent). filter p (take i xs) ++ l) none ∙ append-nil _)

-- a block and one statement more, which was evaluated in the scope that the block left
pub record BlockStep (scene : Scene) (fs : List (Scope → Deed)) (start : Scope) (last : Deed) (a c : Ledger) : Type 0 where
  pub noted : NotesDeed scene (block fs start) a c
  pub stopped : (block fs start).stopped ≡ last.stopped
  pub scope : (block fs start).scope ≡ last.scope

pub block-step : (scene : Scene) (fs gs : List (Scope → Deed)) (f : Scope → Deed) (start here : Scope) (a b c : Ledger)
    → gs ≡ fs ++ f ∷ [] → (block fs start).stopped ≡ false → (block fs start).scope ≡ here
    → NotesDeed scene (block fs start) a b → NotesDeed scene (f here) b c
    → BlockStep scene gs start (f here) a c
block-step scene fs gs f start here a b c more going at first second =
    let d = block fs start in
    let whole : block gs start ≡ after d (f here) =
    ap (λ (hs : List (Scope → Deed)). block hs start) more ∙ block-snoc fs f start ∙ goes_to d f going
    ∙ ap (λ (s : Scope). after d (f s)) at in
    record {
      noted = subst (λ (e : Deed). NotesDeed scene e a c) (sym whole)
          (notes-then scene d.said (f here).said d.faults (f here).faults a b c first second);
      stopped = ap (λ (e : Deed). e.stopped) whole;
      scope = ap (λ (e : Deed). e.scope) whole;
    }

-- the first statements of a block, after the last of which a scope is left
pub record Turn (scene : Scene) (done : Deed) (cut : Bool) (left : Scope) (a c : Ledger) : Type 0 where
  pub noted : NotesDeed scene done a c
  pub stopped : done.stopped ≡ cut
  pub scope : done.scope ≡ left

-- a loop over the statements of a block at a seat
module _ (scene : Scene) (seat : Seat) (seed : ℕ) (locals : List Value) (body : List Stmt) where
  abbrev st : Stmt → Scope → Deed
  st = statement scene.program.now scene.agents.now

  abbrev start : Scope
  start = scope_at seat seed locals

  pub statement-turn : (items : List Stmt) (i : ℕ) (s : Stmt) (now : List Value) (n : ℕ) (stopped : Bool) (a b c : Ledger)
      → items ≡ body → i < length items → s ≡ get_or items i s → n ≡ seed
      → (block_in scene (take i body) start).stopped ≡ false
      → (block_in scene (take i body) start).scope ≡ scope_at seat seed now
      → NotesDeed scene (block_in scene (take i body) start) a b
      → NotesDeed scene (st s (scope_at seat n now)) b c
      → stopped ≡ (st s (scope_at seat n now)).stopped
      → Turn scene (block_in scene (take (i + 1) body) start) stopped (st s (scope_at seat n now)).scope a c
  statement-turn items i s now n stopped a b c items_are within is seed_is going at first second cut =
      let here = scope_at seat seed now in
      let inside : i < length body = subst (λ (l : List Stmt). i < length l) items_are within in
      let got : s ≡ get_or body i s = subst (λ (l : List Stmt). s ≡ get_or l i s) items_are is in
      let noted : NotesDeed scene (st s here) b c =
      subst (λ (m : ℕ). NotesDeed scene (st s (scope_at seat m now)) b c) seed_is second in
      let step = block-step scene (map st (take i body)) (map st (take (i + 1) body)) (st s) start here a b c
      (map-more st body i s inside got) going at first noted in
      let same : st s here ≡ st s (scope_at seat n now) = ap (λ (m : ℕ). st s (scope_at seat m now)) (sym seed_is) in
      record {
        noted = step.noted;
        stopped = step.stopped ∙ ap (λ (d : Deed). d.stopped) same ∙ sym cut;
        scope = step.scope ∙ ap (λ (d : Deed). d.scope) same;
      }

  -- a block that is cut short ends there
  pub cut-there : (i : ℕ) → (block_in scene (take i body) start).stopped ≡ true
      → block_in scene body start ≡ block_in scene (take i body) start
  cut-there i halted =
      ap (λ (l : List Stmt). block (map st l) start) (sym (take-append-drop i body))
      ∙ ap (λ (fs : List (Scope → Deed)). block fs start) (map-append st (take i body) (drop i body))
      ∙ block-stopped (map st (take i body)) (map st (drop i body)) start halted

-- one iteration more
pub iterated-step : (scene : Scene) (scope : Scope) (ds es : List Deed) (d : Deed) (a b c : Ledger) → es ≡ ds ++ d ∷ []
    → Notes scene (flat_map (λ (e : Deed). e.said) ds) (flat_map (λ (e : Deed). e.faults) ds) a b → NotesDeed scene d b c
    → Notes scene (flat_map (λ (e : Deed). e.said) es) (flat_map (λ (e : Deed). e.faults) es) a c
iterated-step scene scope ds es d a b c more first second =
    let said : flat_map (λ (e : Deed). e.said) es ≡ flat_map (λ (e : Deed). e.said) ds ++ d.said =
    ap (flat_map (λ (e : Deed). e.said)) more ∙ flat_map-append (λ (e : Deed). e.said) ds (d ∷ [])
    ∙ ap (λ (l : List Saying). flat_map (λ (e : Deed). e.said) ds ++ l) (append-nil d.said) in
    let faults : flat_map (λ (e : Deed). e.faults) es ≡ flat_map (λ (e : Deed). e.faults) ds ++ d.faults =
    ap (flat_map (λ (e : Deed). e.faults)) more ∙ flat_map-append (λ (e : Deed). e.faults) ds (d ∷ [])
    ∙ ap (λ (l : List Fault). flat_map (λ (e : Deed). e.faults) ds ++ l) (append-nil d.faults) in
    subst (λ (xs : List Saying). Notes scene xs (flat_map (λ (e : Deed). e.faults) es) a c) (sym said)
    (subst (λ (gs : List Fault). Notes scene (flat_map (λ (e : Deed). e.said) ds ++ d.said) gs a c) (sym faults)
    (notes-then scene _ d.said _ d.faults a b c first second))

pub if_ok : {T E : Type 0} (r : Result T E) (P Q : T → Type 0) → ((x : T) → P x → Q x) → IfOk r P → IfOk r Q
if_ok (Ok x) P Q f h = f x h
if_ok (Err e) P Q f h = h

-- a value chooses by whether it is true
pub chosen-first : (v : Value) (a b : Deed) → is_true v ≡ true → chosen v a b ≡ a
chosen-first (Flag true) a b e = refl
chosen-first _ a b e = absurd (cc)

pub chosen-second : (v : Value) (a b : Deed) → is_true v ≡ false → chosen v a b ≡ b
chosen-second (Flag true) a b e = absurd (cc)
chosen-second _ a b e = refl
