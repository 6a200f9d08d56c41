-- What the pieces that a part took bring, and what they tell.
use Rattle.std.proofs.Common.{◌≡◌, ◌∙◌, refl, sym, ap, ap₂, subst, ℕ, List, [], ◌∷◌, ◌++◌, map, filter, flat_map, Bool, true, false, cond, ◌==◌, ◌&&◌, Some, arith, append_assoc, append-nil}
use Rattle.std.specs.Prelude.{slice_get}
use Rattle.std.specs.List.{All, Contains}
use Rattle.std.proofs.lemmas.Bool.{eqb-true, and_parts}
use Rattle.std.proofs.lemmas.List.{length-map, map-append}
use Rattle.std.proofs.lemmas.List.Elements.{All-nil, All-cons}
use Rattle.std.proofs.lemmas.Grind.{flat_map-append}
use Rattle.brace_core.specs.Schedule.{name}
use Rattle.brace_model.specs.declared.program.Program.{Program}
use Rattle.brace_model.specs.declared.world.Agent.{Agent}
use Rattle.brace_model.specs.declared.world.Census.{Census}
use Rattle.brace_model.specs.Query.{Saying}
use Rattle.brace_comb.specs.declared.entry.Entry.{Entry}
use Rattle.brace_eval.specs.Heard.{effects_in}
use Rattle.brace_pieces.specs.declared.setting.Setting.{Setting}
use Rattle.brace_pieces.specs.declared.setting.Stage.{Stage}
use Rattle.brace_pieces.specs.declared.setting.Stage.TheVariants as stage
use Rattle.brace_pieces.specs.declared.piece.Piece.{Piece}
use Rattle.brace_pieces.specs.declared.piece.Piece.TheVariants as piece
use Rattle.brace_pieces.specs.Steps.{step, steps}
use Rattle.brace_pieces.specs.Continued.{on}
use Rattle.brace_pieces.specs.Right.{Share, share_of, IsRight, IsRightIn, IsRightAt, border, handed, moved, census, said_by, shares}
use Rattle.brace_pieces.specs.Heard.{own, sayings_of, told, IsShareOf}
use Rattle.brace_pieces.specs.Exchanged.{brought, counts_brought, GoesOn, AreTaken, none_taken, more_taken}
use Rattle.brace_herd.specs.inner.Tables.{TellsOf, TellsBy, no_entry, one_entry, TellBy, no_piece, one_piece}
use Rattle.brace_pieces.proofs.KindLemmas.{border_alone, hand_alone, move_alone, effects_alone, census_alone}
use Rattle.brace_num.proofs.Lists.{in_more}

-- ---- what a piece brings

border_brings : (s : Setting) (k t q p : ℕ) (x : Piece) → IsRightAt s k stage.Border t q p x → GoesOn x → brought x ≡ border s t q p (on s t).agents
border_brings s k t q p = border_alone s k t q p (λ x. brought x ≡ border s t q p (on s t).agents) (λ agents right. right)

hand_brings : (s : Setting) (k t q p : ℕ) (x : Piece) → IsRightAt s k stage.Hand t q p x → GoesOn x → brought x ≡ handed s t q p (on s t).agents
hand_brings s k t q p = hand_alone s k t q p (λ x. brought x ≡ handed s t q p (on s t).agents) (λ agents right. right)

move_brings : (s : Setting) (k t q p : ℕ) (x : Piece) → IsRightAt s k stage.Move t q p x → GoesOn x → brought x ≡ moved s t q p (on s t)
move_brings s k t q p = move_alone s k t q p (λ x. brought x ≡ moved s t q p (on s t)) (λ agents right. right)

census_brings : (s : Setting) (k t q p : ℕ) (x : Piece) → IsRightAt s k stage.Census t q p x → GoesOn x → counts_brought x ≡ census s t q (on s t).agents ∷ []
census_brings s k t q p = census_alone s k t q p (λ x. counts_brought x ≡ census s t q (on s t).agents ∷ []) (λ c right. ap (λ d. d ∷ []) right)

-- ---- what an entry and a piece tell

-- all sayings of a share are said to its effect
alone : (target field : ℕ) (said : List Saying) → All (λ x. (x.target ≡ target) × (x.field ≡ field)) (filter (λ x. (x.target == target) && (x.field == field)) said)
alone target field [] = All-nil (λ (x : Saying). (x.target ≡ target) × (x.field ≡ field))
alone target field (x ∷ said) =
    let P = λ (x : Saying). (x.target ≡ target) × (x.field ≡ field) in
    let test : Saying → Bool = λ x. (x.target == target) && (x.field == field) in
    (elim (test x) as (λ v. test x ≡ v → All P (cond v (x ∷ filter test said) (filter test said))) [
      | true ↦ λ is.
          let (first, second) = and_parts (x.target == target) (x.field == field) is in
          All-cons P x (filter test said) (eqb-true x.target target first, eqb-true x.field field second) (alone target field said)
      | false ↦ λ is. alone target field said
    ]) refl

module _ (m : Program) (held mine : List Agent) (said : List Saying) (within : (a : Agent) → Contains mine a → Contains held a) where
  tells_of : (e : Entry) → IsShareOf m mine said (share_of e) → TellsOf m held e (sayings_of said (share_of e))
  tells_of e h = record {
    agent = h.agent;
    is_held = within h.agent h.is_there;
    is_target = sym h.is_target;
    values = record {
      effect = h.effect;
      has = ap (λ o. slice_get (effects_in o) e.field) h.has_class ∙ h.has_effect;
      alone = subst (λ id. All (λ x. (x.target ≡ id) × (x.field ≡ e.field)) (sayings_of said (share_of e))) h.is_target (alone e.target e.field said);
      total = ap (λ t. t.number) h.is_total;
      many = ap (λ t. t.count) h.is_total ∙ length-map (sayings_of said (share_of e)) (λ x. x.value);
    };
  }

  tells_by : (entries : List Entry) → ((g : Share) → Contains (map share_of entries) g → IsShareOf m mine said g) → TellsBy m held entries (flat_map (sayings_of said) (map share_of entries))
  tells_by [] each = no_entry
  tells_by (e ∷ entries) each =
      one_entry e entries (sayings_of said (share_of e)) (flat_map (sayings_of said) (map share_of entries))
      (tells_of e (each (share_of e) (0, omega arith, refl)))
      (tells_by entries (λ g h. each g (in_more (share_of e) (map share_of entries) g h)))

-- a piece tells of values said
pub record Tells (m : Program) (held : List Agent) (x : Piece) (said : List Saying) : Type 0 where
  pub entries : List Entry
  pub is : x ≡ piece.Effects entries
  pub tells : TellsBy m held entries said

effects_tell : (s : Setting) (k t q p : ℕ) (w held : List Agent) → w ≡ (on s t).agents
    → ((a : Agent) → Contains (own s t p w) a → Contains held a)
    → ((g : Share) → Contains (shares s t q p w) g → IsShareOf s.job.program (own s t p w) (said_by s t q w) g)
    → (x : Piece) → IsRightAt s k stage.Effects t q p x → GoesOn x
    → Tells s.job.program held x (told s t q p w)
effects_tell s k t q p w held world within each =
    effects_alone s k t q p (λ x. Tells s.job.program held x (told s t q p w)) (λ entries right.
    let same : map share_of entries ≡ shares s t q p w = right ∙ ap (shares s t q p) (sym world) in
    record {
      entries = entries;
      is = refl;
      tells = subst (λ gs. TellsBy s.job.program held entries
          (flat_map (sayings_of (said_by s t q w)) gs)) same
          (tells_by s.job.program held (own s t p w) (said_by s t q w) within entries
          (λ g h. each g (subst (λ gs. Contains gs g) same h)));
    })

-- ---- pieces that were taken, one by one

tell_more : (m : Program) (held : List Agent) (pieces : List Piece) (said : List Saying) → TellBy m held pieces said → (entries : List Entry) (more : List Saying) → TellsBy m held entries more → TellBy m held (pieces ++ piece.Effects entries ∷ []) (said ++ more)
tell_more m held _ _ no_piece entries more h = subst (TellBy m held (piece.Effects entries ∷ [])) (append-nil more) (one_piece entries [] more [] h no_piece)
tell_more m held _ _ (one_piece first pieces said rest one others) entries more h =
    subst (TellBy m held (piece.Effects first ∷ (pieces ++ piece.Effects entries ∷ []))) (sym (append_assoc said rest more))
    (one_piece first (pieces ++ piece.Effects entries ∷ []) said (rest ++ more) one (tell_more m held pieces rest others entries more h))

module _ (s : Setting) (k p : ℕ) where
  taken_bring : (f : ℕ → List Agent) → ((q : ℕ) (x : Piece) → IsRight s (name k q p) x → GoesOn x → brought x ≡ f q)
      → (others : List ℕ) (pieces : List Piece) → AreTaken s k p others pieces → flat_map brought pieces ≡ flat_map f others
  taken_bring f each _ _ none_taken = refl
  taken_bring f each _ _ (more_taken others pieces q x rest right goes) =
      flat_map-append brought pieces (x ∷ [])
      ∙ ap₂ (λ ys zs. ys ++ (zs ++ [])) (taken_bring f each others pieces rest) (each q x right goes)
      ∙ sym (flat_map-append f others (q ∷ []))

  taken_count : (f : ℕ → Census) → ((q : ℕ) (x : Piece) → IsRight s (name k q p) x → GoesOn x → counts_brought x ≡ f q ∷ [])
      → (others : List ℕ) (pieces : List Piece) → AreTaken s k p others pieces → flat_map counts_brought pieces ≡ map f others
  taken_count f each _ _ none_taken = refl
  taken_count f each _ _ (more_taken others pieces q x rest right goes) =
      flat_map-append counts_brought pieces (x ∷ [])
      ∙ ap₂ (λ ys zs. ys ++ (zs ++ [])) (taken_count f each others pieces rest) (each q x right goes)
      ∙ sym (map-append f others (q ∷ []))

  taken_tell : (m : Program) (held : List Agent) (f : ℕ → List Saying) → ((q : ℕ) (x : Piece) → IsRight s (name k q p) x → GoesOn x → Tells m held x (f q))
      → (others : List ℕ) (pieces : List Piece) → AreTaken s k p others pieces → TellBy m held pieces (flat_map f others)
  taken_tell m held f each _ _ none_taken = no_piece
  taken_tell m held f each _ _ (more_taken others pieces q x rest right goes) =
      let h = each q x right goes in
      subst (λ y. TellBy m held (pieces ++ y ∷ []) (flat_map f (others ++ q ∷ []))) (sym h.is)
      (subst (TellBy m held (pieces ++ piece.Effects h.entries ∷ [])) (ap (λ ys. flat_map f others ++ ys) (sym (append-nil (f q))) ∙ sym (flat_map-append f others (q ∷ [])))
      (tell_more m held pieces (flat_map f others) (taken_tell m held f each others pieces rest) h.entries (f q) h.tells))

  module _ (t : ℕ) where
    right_at : (at : Stage) → slice_get (steps s) k ≡ Some (step at t) → (q : ℕ) (x : Piece) → IsRight s (name k q p) x → IsRightAt s k at t q p x
    right_at at stands q x right = subst (IsRightIn s (name k q p) x) stands right

    pub borders_bring : slice_get (steps s) k ≡ Some (step stage.Border t) → (others : List ℕ) (pieces : List Piece) → AreTaken s k p others pieces
        → flat_map brought pieces ≡ flat_map (λ q. border s t q p (on s t).agents) others
    borders_bring stands = taken_bring (λ q. border s t q p (on s t).agents) (λ q x right goes. border_brings s k t q p x (right_at stage.Border stands q x right) goes)

    pub hands_bring : slice_get (steps s) k ≡ Some (step stage.Hand t) → (others : List ℕ) (pieces : List Piece) → AreTaken s k p others pieces
        → flat_map brought pieces ≡ flat_map (λ q. handed s t q p (on s t).agents) others
    hands_bring stands = taken_bring (λ q. handed s t q p (on s t).agents) (λ q x right goes. hand_brings s k t q p x (right_at stage.Hand stands q x right) goes)

    pub moves_bring : slice_get (steps s) k ≡ Some (step stage.Move t) → (others : List ℕ) (pieces : List Piece) → AreTaken s k p others pieces
        → flat_map brought pieces ≡ flat_map (λ q. moved s t q p (on s t)) others
    moves_bring stands = taken_bring (λ q. moved s t q p (on s t)) (λ q x right goes. move_brings s k t q p x (right_at stage.Move stands q x right) goes)

    pub censuses_bring : slice_get (steps s) k ≡ Some (step stage.Census t) → (others : List ℕ) (pieces : List Piece) → AreTaken s k p others pieces
        → flat_map counts_brought pieces ≡ map (λ q. census s t q (on s t).agents) others
    censuses_bring stands = taken_count (λ q. census s t q (on s t).agents) (λ q x right goes. census_brings s k t q p x (right_at stage.Census stands q x right) goes)

    pub effects_told : (held : List Agent) → ((a : Agent) → Contains (own s t p (on s t).agents) a
        → Contains held a)
        → ((q : ℕ) (g : Share) → Contains (shares s t q p (on s t).agents) g → IsShareOf s.job.program (own s t p (on s t).agents) (said_by s t q (on s t).agents) g)
        → slice_get (steps s) k ≡ Some (step stage.Effects t) → (others : List ℕ) (pieces : List Piece) → AreTaken s k p others pieces
        → TellBy s.job.program held pieces (flat_map (λ q. told s t q p (on s t).agents) others)
    effects_told held within each stands =
        taken_tell s.job.program held (λ q. told s t q p (on s t).agents)
        (λ q x right goes. effects_tell s k t q p (on s t).agents held refl within (each q) x
        (right_at stage.Effects stands q x right) goes)
