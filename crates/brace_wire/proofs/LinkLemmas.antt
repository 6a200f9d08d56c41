-- What a put, a take and a round change on lanes over links.
use Rattle.std.proofs.Common.{◌≡◌, ◌∙◌, ℕ, ◌+◌, ◌-◌, ◌*◌, ◌^◌, ◌<◌, ◌≤◌, inl, inr, Bool, true, false, cond, eqb, nat_lt, List, [], ◌∷◌, length, get_or, set, Option, Some, None, is_some, refl, sym, ap, subst, arith}
use Rattle.std.specs.Prelude.{slice_get, IfSome, IfNone}
use Rattle.std.proofs.lemmas.Bool.{eqb-true, eq-eqb, and_parts, and_from, lt-ltb, le-ltb, cases_lt, cases_Bool, cond-true, cond-false}
use Rattle.std.proofs.lemmas.List.{append-nil, length-append, length-set, get_or-set_same, get_or-set_other, get_or_read, set-get_or}
use Rattle.std.proofs.lemmas.List.Sums.{sum_by-set}
use Rattle.std.proofs.lemmas.Nat.{mul-add-lt, same_from_place}
use Rattle.std.proofs.lemmas.Option.{slice_get_within}
use Rattle.brace_core.specs.declared.name.Name.{Name}
use Rattle.brace_core.specs.Schedule.{lane}
use Rattle.brace_core.specs.Events.{is_on}
use Rattle.brace_core.specs.Exchanges.{Follows, IsNext, IsAnswered, one_on}
use Rattle.brace_core.proofs.LaneLemmas.{at_push, names_at_most}
use Rattle.brace_model.specs.declared.program.Ty.{Ty}
use Rattle.brace_pieces.specs.declared.setting.Setting.{Setting}
use Rattle.brace_pieces.specs.declared.piece.Piece.{Piece}
use Rattle.brace_pieces.specs.Right.{IsRight}
use Rattle.brace_pieces.specs.Steps.{schedule}
use Rattle.brace_wire.specs.Net.{Lane, opening, Reaches}
use Rattle.brace_wire.specs.Links.{OnLink, OnLinks, fresh, link_of, received, puts_on, takes_on, received_on, with_put, taken_at}
use Rattle.brace_wire.specs.Shown.{Shows, ShowsLater, Becomes, GoOn, GoOnWith}
use Rattle.brace_wire.specs.inner.Standing.{Stands, IsSound}
use Rattle.brace_wire.specs.Hope.{rounds_left, hope, all_hope}
use Rattle.brace_wire.specs.Keeps.{Keeps}
use Rattle.brace_wire.proofs.NetLemmas.{sound, within}
use Rattle.brace_wire.proofs.ShownLemmas.{all_received, reaches_on, shows_put, shows_take, taken_was_put}
use Rattle.brace_wire.proofs.HopeLemmas.{put_hope}

-- ---- one link among all

on_is : (p q : ℕ) (name : Name) → is_on p q name ≡ true → (name.from ≡ p) × (name.to ≡ q)
on_is p q name on = let (a, b) = and_parts (eqb name.from p) (eqb name.to q) on in (eqb-true _ _ a, eqb-true _ _ b)

at_name : {A : Type 0} (f : ℕ → ℕ → A) (p q : ℕ) (name : Name) → is_on p q name ≡ true → f p q ≡ f name.from name.to
at_name f p q name on = let (a, b) = on_is p q name on in ap (λ c. f c q) (sym a) ∙ ap (λ d. f name.from d) (sym b)

abbrev pub with_link : OnLinks → Name → OnLink → OnLinks
with_link v name l = record v { links = set v.links (name.from * v.actors + name.to) l }

module _ (v : OnLinks) (name : Name) (size : length v.links ≡ v.actors * v.actors) (from : name.from < v.actors) (to : name.to < v.actors) where
  pub place_within : name.from * v.actors + name.to < length v.links
  place_within = let low : name.from * v.actors + name.to < v.actors * v.actors = mul-add-lt name.from v.actors name.to v.actors from to in omega arith

  pub here_is : get_or v.links (name.from * v.actors + name.to) fresh ≡ link_of v name.from name.to
  here_is = sym (cond-true (nat_lt name.to v.actors) _ _ (lt-ltb _ _ to))

  module _ (l : OnLink) where
    link_here : link_of (with_link v name l) name.from name.to ≡ l
    link_here = cond-true (nat_lt name.to v.actors) _ _ (lt-ltb _ _ to) ∙ get_or-set_same v.links (name.from * v.actors + name.to) l fresh place_within

    pub link_on : (p q : ℕ) → is_on p q name ≡ true → link_of (with_link v name l) p q ≡ l
    link_on p q on = at_name (link_of (with_link v name l)) p q name on ∙ link_here

    pub link_off : (p q : ℕ) → is_on p q name ≡ false → link_of (with_link v name l) p q ≡ link_of v p q
    link_off p q off = elim (cases_lt q v.actors) [
      | inl low ↦ ap (λ x. cond (nat_lt q v.actors) x fresh) (get_or-set_other v.links (name.from * v.actors + name.to) (p * v.actors + q) l fresh (λ same.
          let (a, b) = same_from_place p q name.from name.to v.actors low to same in
          let on : is_on p q name ≡ true = and_from (eqb name.from p) (eqb name.to q) (eq-eqb name.from p (sym a)) (eq-eqb name.to q (sym b)) in
          cc))
      | inr high ↦ cond-false (nat_lt q v.actors) _ _ (le-ltb _ _ high) ∙ sym (cond-false (nat_lt q v.actors) _ _ (le-ltb _ _ high))
    ]

    pub hope_with : all_hope (with_link v name l) + hope v.fates (link_of v name.from name.to) ≡ all_hope v + hope v.fates l
    hope_with =
        ap (λ (x : OnLink). all_hope (with_link v name l) + hope v.fates x) (sym here_is)
        ∙ sum_by-set (hope v.fates) v.links (name.from * v.actors + name.to) l fresh place_within

-- a link comes from one that stood
pub stays : (s : Setting) (p q : ℕ) (a b : OnLink) (st : Stands s p q a) → ShowsLater [] st.net b → Stands s p q b
stays s p q a b st later =
    let same : later.later.puts ≡ st.net.puts = later.puts ∙ append-nil st.net.puts in
    record {
      net = later.later;
      happens = reaches_on opening st.net later.later st.happens later.reaches;
      shows = later.shows;
      within = subst (λ (ps : List Piece). length ps ≤ length (lane (schedule s) p q)) (sym same) st.within;
      is_right = λ i name piece at put. st.is_right i name piece at (ap (λ (ps : List Piece). slice_get ps i) (sym same) ∙ put);
    }

pub stays_same : (link : OnLink) → Becomes [] link link
stays_same link lane happens shows = record { later = lane; reaches = Reaches.begin; puts = sym (append-nil lane.puts); shows = shows }

module _ (s : Setting) (p q : ℕ) (link : OnLink) (st : Stands s p q link) where
  pub low_received : received link.receiver ≤ link.put
  low_received =
      let full = within st.net (sound st.net st.happens).in_order in
      omega (arith, all_received link st.net st.happens st.shows, full, st.shows.put)

  few_names : length (lane (schedule s) p q) ≤ length (schedule s).steps
  few_names = names_at_most 0 (schedule s).steps p q

  pub few_puts : link.put ≤ length (schedule s).steps
  few_puts = omega (arith, st.shows.put, st.within, few_names)

  pub low_taken : link.receiver.taken ≤ link.put
  low_taken = omega (arith, low_received)

-- on no lane more was received than was put
pub all_low_received : (V v : OnLinks) → V ≡ v → (types : List (List Ty)) → IsSound V types → (p q : ℕ) → received_on v p q ≤ puts_on v p q
all_low_received V v is types is_sound = subst (λ (u : OnLinks). (p q : ℕ) → received_on u p q ≤ puts_on u p q) is
    (λ p q. low_received V.setting p q (link_of V p q) (is_sound.each p q))

-- ---- a put

module _ (v : OnLinks) (types : List (List Ty)) (is_sound : IsSound v types) (name : Name) where
  abbrev here : OnLink
  here = link_of v name.from name.to

  standing : Stands v.setting name.from name.to here
  standing = is_sound.each name.from name.to

  pub next_below : (n : ℕ) → IsNext (schedule v.setting) name n → (name.from < v.actors) × (name.to < v.actors)
  next_below n is = let l : n < length (lane (schedule v.setting) name.from name.to) = slice_get_within _ n name is in is_sound.below name.from name.to (omega arith)

  module _ (piece : Piece) (next : Follows (schedule v.setting) (puts_on v) name) (answered : IsAnswered (puts_on v) (takes_on v) name) (fits : IsRight v.setting name piece) where
    abbrev put : OnLink
    put = with_put here name piece

    from_below : name.from < v.actors
    from_below = (next_below (puts_on v name.from name.to) next).0

    to_below : name.to < v.actors
    to_below = (next_below (puts_on v name.from name.to) next).1

    put_count : (p q : ℕ) → puts_on (with_link v name put) p q ≡ puts_on v p q + one_on name p q
    put_count p q = elim (cases_Bool (is_on p q name)) [
      | inl on ↦
          let now = ap (λ (l : OnLink). l.put) (link_on v name is_sound.size from_below to_below put p q on) in
          let before = at_name (puts_on v) p q name on in
          let one : one_on name p q ≡ 1 = cond-true (is_on p q name) 1 0 on in
          omega (arith, now, before, one)
      | inr off ↦
          let now = ap (λ (l : OnLink). l.put) (link_off v name is_sound.size from_below to_below put p q off) in
          let none : one_on name p q ≡ 0 = cond-false (is_on p q name) 1 0 off in
          omega (arith, now, none)
    ]

    take_count : (p q : ℕ) → takes_on (with_link v name put) p q ≡ takes_on v p q
    take_count p q = elim (cases_Bool (is_on p q name)) [
      | inl on ↦ ap (λ (l : OnLink). l.receiver.taken) (link_on v name is_sound.size from_below to_below put p q on) ∙ sym (at_name (takes_on v) p q name on)
      | inr off ↦ ap (λ (l : OnLink). l.receiver.taken) (link_off v name is_sound.size from_below to_below put p q off)
    ]

    -- fewer than two pieces are in flight
    room : (net : Lane Piece) → Shows here net → length net.puts < net.taken + 2
    room net shows =
        let back : puts_on v name.to name.from ≤ takes_on v name.from name.to + 1 = is_sound.answered name.to name.from in
        let took : takes_on v name.to name.from ≤ puts_on v name.to name.from = low_taken v.setting name.to name.from (link_of v name.to name.from) (is_sound.each name.to name.from) in
        omega (arith, back, took, answered, shows.put, shows.taken)

    becomes_put : Becomes (piece ∷ []) here put
    becomes_put net happens shows = shows_put here net happens shows name piece (room net shows)

    put_stands : Stands v.setting name.from name.to put
    put_stands =
        let st = standing in
        let later = becomes_put st.net st.happens st.shows in
        let low : here.put < length (lane (schedule v.setting) name.from name.to) = slice_get_within (lane (schedule v.setting) name.from name.to) here.put name next in
        record {
          net = later.later;
          happens = reaches_on opening st.net later.later st.happens later.reaches;
          shows = later.shows;
          within = omega (arith, ap length later.puts, length-append st.net.puts (piece ∷ []), low, st.shows.put);
          is_right = λ i other x at held. elim (at_push st.net.puts piece i x (ap (λ (ps : List Piece). slice_get ps i) (sym later.puts) ∙ held)) [
            | inl old ↦ st.is_right i other x at old
            | inr (end, same) ↦
                let place : slice_get (lane (schedule v.setting) name.from name.to) i ≡ Some name = ap (slice_get (lane (schedule v.setting) name.from name.to)) (end ∙ sym st.shows.put) ∙ next in
                let whose : name ≡ other = same_some name other (sym place ∙ at) in
                subst (λ (n : Name). IsRight v.setting n x) whose (subst (λ (y : Piece). IsRight v.setting name y) same fits)
          ];
        }
      where
        same_some : (a b : Name) → Some a ≡ Some b → a ≡ b
        same_some a b e = cc

    put_each : (p q : ℕ) → Stands v.setting p q (link_of (with_link v name put) p q)
    put_each p q = elim (cases_Bool (is_on p q name)) [
      | inl on ↦
          let (a, b) = on_is p q name on in
          subst (λ (l : OnLink). Stands v.setting p q l) (sym (link_on v name is_sound.size from_below to_below put p q on))
          (subst (λ (m : ℕ). Stands v.setting m q put) a (subst (λ (m : ℕ). Stands v.setting name.from m put) b put_stands))
      | inr off ↦ subst (λ (l : OnLink). Stands v.setting p q l) (sym (link_off v name is_sound.size from_below to_below put p q off)) (is_sound.each p q)
    ]

    put_answered : (p q : ℕ) → puts_on (with_link v name put) p q ≤ takes_on (with_link v name put) q p + 1
    put_answered p q = elim (cases_Bool (is_on p q name)) [
      | inl on ↦
          let same : puts_on v p q ≡ takes_on v q p = at_name (puts_on v) p q name on ∙ answered ∙ sym (at_name (λ a b. takes_on v b a) p q name on) in
          let one : one_on name p q ≡ 1 = cond-true (is_on p q name) 1 0 on in
          omega (arith, put_count p q, take_count q p, same, one)
      | inr off ↦ let none : one_on name p q ≡ 0 = cond-false (is_on p q name) 1 0 off in omega (arith, put_count p q, take_count q p, none, is_sound.answered p q)
    ]

    put_sound : IsSound (with_link v name put) types
    put_sound = record {
      few = is_sound.few;
      size = length-set v.links _ put ∙ is_sound.size;
      below = is_sound.below;
      short = is_sound.short;
      answered = put_answered;
      each = put_each;
      types_are = is_sound.types_are;
      has_bytes = is_sound.has_bytes;
      delivers = is_sound.delivers;
    }

    put_keeps : Keeps v (with_link v name put)
    put_keeps = record {
      actors = refl;
      fates = refl;
      rounds = refl;
      hope = omega (
        arith,
        hope_with v name is_sound.size from_below to_below put,
        put_hope v.fates is_sound.delivers here name piece (low_received v.setting name.from name.to here standing),
      );
    }

    put_events : GoOnWith name piece v (with_link v name put)
    put_events p q = by_test (is_on p q name) refl
      where
        by_test : (b : Bool) → is_on p q name ≡ b → Becomes (cond b (piece ∷ []) []) (link_of v p q) (link_of (with_link v name put) p q)
        by_test true on = subst (λ (l : OnLink). Becomes (piece ∷ []) (link_of v p q) l) (sym (link_on v name is_sound.size from_below to_below put p q on))
            (subst (λ (l : OnLink). Becomes (piece ∷ []) l put) (sym (at_name (link_of v) p q name on)) becomes_put)
        by_test false off = subst (λ (l : OnLink). Becomes [] (link_of v p q) l) (sym (link_off v name is_sound.size from_below to_below put p q off)) (stays_same (link_of v p q))

  -- ---- a take

  module _ (next : Follows (schedule v.setting) (takes_on v) name) where
    take_from : name.from < v.actors
    take_from = (next_below (takes_on v name.from name.to) next).0

    take_to : name.to < v.actors
    take_to = (next_below (takes_on v name.from name.to) next).1

    module _ (piece : Piece) (rest : List Piece) (held : here.receiver.waiting ≡ piece ∷ rest) where
      abbrev took : OnLink
      took = record here { receiver = record { taken = here.receiver.taken + 1; waiting = rest } }

      becomes_took : Becomes [] here took
      becomes_took net happens shows = shows_take here net happens shows piece rest held

      took_puts : (p q : ℕ) → puts_on (with_link v name took) p q ≡ puts_on v p q
      took_puts p q = elim (cases_Bool (is_on p q name)) [
        | inl on ↦ ap (λ (l : OnLink). l.put) (link_on v name is_sound.size take_from take_to took p q on) ∙ sym (at_name (puts_on v) p q name on)
        | inr off ↦ ap (λ (l : OnLink). l.put) (link_off v name is_sound.size take_from take_to took p q off)
      ]

      took_takes : (p q : ℕ) → takes_on (with_link v name took) p q ≡ takes_on v p q + one_on name p q
      took_takes p q = elim (cases_Bool (is_on p q name)) [
        | inl on ↦
            let now = ap (λ (l : OnLink). l.receiver.taken) (link_on v name is_sound.size take_from take_to took p q on) in
            let before = at_name (takes_on v) p q name on in
            let one : one_on name p q ≡ 1 = cond-true (is_on p q name) 1 0 on in
            omega (arith, now, before, one)
        | inr off ↦
            let now = ap (λ (l : OnLink). l.receiver.taken) (link_off v name is_sound.size take_from take_to took p q off) in
            let none : one_on name p q ≡ 0 = cond-false (is_on p q name) 1 0 off in
            omega (arith, now, none)
      ]

      took_each : (p q : ℕ) → Stands v.setting p q (link_of (with_link v name took) p q)
      took_each p q = elim (cases_Bool (is_on p q name)) [
        | inl on ↦
            let (a, b) = on_is p q name on in
            let st = stays v.setting name.from name.to here took standing (becomes_took standing.net standing.happens standing.shows) in
            subst (λ (l : OnLink). Stands v.setting p q l) (sym (link_on v name is_sound.size take_from take_to took p q on))
            (subst (λ (m : ℕ). Stands v.setting m q took) a (subst (λ (m : ℕ). Stands v.setting name.from m took) b st))
        | inr off ↦ subst (λ (l : OnLink). Stands v.setting p q l) (sym (link_off v name is_sound.size take_from take_to took p q off)) (is_sound.each p q)
      ]

      took_sound : IsSound (with_link v name took) types
      took_sound = record {
        few = is_sound.few;
        size = length-set v.links _ took ∙ is_sound.size;
        below = is_sound.below;
        short = is_sound.short;
        answered = λ p q. omega (arith, is_sound.answered p q, took_puts p q, took_takes q p);
        each = took_each;
        types_are = is_sound.types_are;
        has_bytes = is_sound.has_bytes;
        delivers = is_sound.delivers;
      }

      took_hope : hope v.fates took ≡ hope v.fates here
      took_hope =
          let same : received took.receiver ≡ received here.receiver = omega (arith, ap length held) in
          ap (λ (n : ℕ). rounds_left v.fates here.late here.older here.newer n (here.put - n)) same

      took_keeps : Keeps v (with_link v name took)
      took_keeps = record { actors = refl; fates = refl; rounds = refl; hope = omega (arith, hope_with v name is_sound.size take_from take_to took, took_hope) }

      took_events : GoOn v (with_link v name took)
      took_events p q = elim (cases_Bool (is_on p q name)) [
        | inl on ↦ subst (λ (l : OnLink). Becomes [] (link_of v p q) l) (sym (link_on v name is_sound.size take_from take_to took p q on))
            (subst (λ (l : OnLink). Becomes [] l took) (sym (at_name (link_of v) p q name on)) becomes_took)
        | inr off ↦ subst (λ (l : OnLink). Becomes [] (link_of v p q) l) (sym (link_off v name is_sound.size take_from take_to took p q off)) (stays_same (link_of v p q))
      ]

      took_right : IsRight v.setting name piece
      took_right = standing.is_right here.receiver.taken name piece next (taken_was_put here standing.net standing.happens standing.shows piece rest held)

-- ---- what is left behind the calls

unmoved : (l : OnLink) → l.receiver.waiting ≡ [] → record l { receiver = taken_at l.receiver.taken l.receiver.waiting } ≡ l
unmoved l e =
    ap (λ (ps : List Piece). record l { receiver = taken_at l.receiver.taken ps }) e
    ∙ ap (λ (ps : List Piece). record l { receiver = record { taken = l.receiver.taken; waiting = ps } }) (sym e)

pub record IsPutDone (v w : OnLinks) (types : List (List Ty)) (name : Name) (piece : Piece) : Type 0 where
  pub sound : IsSound w types
  pub same : w.setting ≡ v.setting
  pub puts : (p q : ℕ) → puts_on w p q ≡ puts_on v p q + one_on name p q
  pub takes : (p q : ℕ) → takes_on w p q ≡ takes_on v p q
  pub kept : Keeps v w
  pub events : GoOnWith name piece v w

pub record IsTakeDone (v w : OnLinks) (types : List (List Ty)) (name : Name) (out : Option Piece) : Type 0 where
  pub sound : IsSound w types
  pub same : w.setting ≡ v.setting
  pub puts : (p q : ℕ) → puts_on w p q ≡ puts_on v p q
  pub takes : (p q : ℕ) → takes_on w p q ≡ takes_on v p q + cond (is_some out) (one_on name p q) 0
  pub is_right : IfSome out (λ piece. IsRight v.setting name piece)
  pub kept : Keeps v w
  pub none : IfNone out (takes_on v name.from name.to ≡ received_on v name.from name.to)
  pub oldest : out ≡ slice_get (link_of v name.from name.to).receiver.waiting 0
  pub events : GoOn v w

-- the link of a lane's next name is there
pub place_there : (V v : OnLinks) → V ≡ v → (types : List (List Ty)) → IsSound V types → (name : Name) (n : ℕ) → IsNext (schedule v.setting) name n → name.from * V.actors + name.to < length V.links
place_there V v is types is_sound name n next =
    let (from, to) = next_below V types is_sound name n (subst (λ (u : OnLinks). IsNext (schedule u.setting) name n) (sym is) next) in
    place_within V name is_sound.size from to

module _ (V v : OnLinks) (is : V ≡ v) (types : List (List Ty)) (is_sound : IsSound V types) (name : Name) (r : OnLink) (read : r ≡ get_or V.links (name.from * V.actors + name.to) r) where
  -- what was read is the link
  link_read : name.from < V.actors → name.to < V.actors → r ≡ link_of V name.from name.to
  link_read from to =
      let low : name.from * V.actors + name.to < length V.links = place_within V name is_sound.size from to in
      get_or_read V.links (name.from * V.actors + name.to) r low read fresh ∙ here_is V name is_sound.size from to

  low_put : IsNext (schedule V.setting) name (puts_on V name.from name.to) → r.put + 1 < 2 ^ 64
  low_put next =
      let (from, to) = next_below V types is_sound name _ next in
      let st = is_sound.each name.from name.to in
      omega (arith, ap (λ (l : OnLink). l.put) (link_read from to), few_puts V.setting name.from name.to (link_of V name.from name.to) st, is_sound.short)

  pub room_to_count : IsNext (schedule v.setting) name (puts_on v name.from name.to) → r.put + 1 < 2 ^ 64
  room_to_count = subst (λ (u : OnLinks). IsNext (schedule u.setting) name (puts_on u name.from name.to) → r.put + 1 < 2 ^ 64) is low_put

  low_take : IsNext (schedule V.setting) name (takes_on V name.from name.to) → r.receiver.taken + 1 < 2 ^ 64
  low_take next =
      let (from, to) = next_below V types is_sound name _ next in
      let st = is_sound.each name.from name.to in
      omega (
        arith,
        ap (λ (l : OnLink). l.receiver.taken) (link_read from to),
        low_taken V.setting name.from name.to (link_of V name.from name.to) st,
        few_puts V.setting name.from name.to (link_of V name.from name.to) st,
        is_sound.short,
      )

  pub room_to_take : IsNext (schedule v.setting) name (takes_on v name.from name.to) → r.receiver.taken + 1 < 2 ^ 64
  room_to_take = subst (λ (u : OnLinks). IsNext (schedule u.setting) name (takes_on u name.from name.to) → r.receiver.taken + 1 < 2 ^ 64) is low_take

  pub put_done : (piece : Piece) (n : OnLink) → n ≡ with_put r name piece → Follows (schedule v.setting) (puts_on v) name → IsAnswered (puts_on v) (takes_on v) name → IsRight v.setting name piece
      → IsPutDone v (with_link V name n) types name piece
  put_done piece n new = subst (λ (u : OnLinks). Follows (schedule u.setting) (puts_on u) name → IsAnswered (puts_on u) (takes_on u) name → IsRight u.setting name piece
      → IsPutDone u (with_link V name n) types name piece) is
      (λ next answered fits. let (from, to) = next_below V types is_sound name _ next in
      let now : n ≡ with_put (link_of V name.from name.to) name piece = new ∙ ap (λ (l : OnLink). with_put l name piece) (link_read from to) in
      subst (λ (l : OnLink). IsPutDone V (with_link V name l) types name piece) (sym now) (record {
        sound = put_sound V types is_sound name piece next answered fits;
        same = refl;
        puts = put_count V types is_sound name piece next answered fits;
        takes = take_count V types is_sound name piece next answered fits;
        kept = put_keeps V types is_sound name piece next answered fits;
        events = put_events V types is_sound name piece next answered fits;
      }))

  pub take_done : (out : Option Piece) (n : OnLink) → out ≡ slice_get r.receiver.waiting 0 → n ≡ record r { receiver = taken_at r.receiver.taken r.receiver.waiting }
      → Follows (schedule v.setting) (takes_on v) name → IsTakeDone v (with_link V name n) types name out
  take_done out n found new = subst (λ (u : OnLinks). Follows (schedule u.setting) (takes_on u) name → IsTakeDone u (with_link V name n) types name out) is
      (λ next. by_waiting next (link_of V name.from name.to).receiver.waiting refl)
    where
      by_waiting : Follows (schedule V.setting) (takes_on V) name → (waiting : List Piece) → (link_of V name.from name.to).receiver.waiting ≡ waiting → IsTakeDone V (with_link V name n) types name out
      by_waiting next [] none =
          let (from, to) = next_below V types is_sound name _ next in
          let same : r ≡ link_of V name.from name.to = link_read from to in
          let empty : r.receiver.waiting ≡ [] = ap (λ (l : OnLink). l.receiver.waiting) same ∙ none in
          let n_is : n ≡ r = new ∙ unmoved r empty in
          let here : with_link V name n ≡ V =
          ap (with_link V name) (n_is ∙ read) ∙ ap (λ (ls : List OnLink). record V { links = ls }) (set-get_or V.links (name.from * V.actors + name.to) r) in
          let nothing : out ≡ None = found ∙ ap (λ (ps : List Piece). slice_get ps 0) empty in
          subst (λ (w : OnLinks). IsTakeDone V w types name out) (sym here)
          (subst (λ (o : Option Piece). IsTakeDone V V types name o) (sym nothing) (record {
            sound = is_sound;
            same = refl;
            puts = λ p q. refl;
            takes = λ p q. omega arith;
            is_right = tt;
            kept = record { actors = refl; fates = refl; rounds = refl; hope = omega arith };
            none = omega (arith, ap length none);
            oldest = sym (ap (λ (ps : List Piece). slice_get ps 0) none);
            events = λ p q. stays_same (link_of V p q);
          }))
      by_waiting next (piece ∷ rest) held =
          let (from, to) = next_below V types is_sound name _ next in
          let same : r ≡ link_of V name.from name.to = link_read from to in
          let n_is : n ≡ took V types is_sound name next piece rest held =
          new ∙ ap (λ (l : OnLink). record l { receiver = taken_at l.receiver.taken l.receiver.waiting }) same
          ∙ ap (λ (ps : List Piece). record (link_of V name.from name.to) { receiver = taken_at (link_of V name.from name.to).receiver.taken ps }) held in
          let one : out ≡ Some piece = found ∙ ap (λ (l : OnLink). slice_get l.receiver.waiting 0) same ∙ ap (λ (ps : List Piece). slice_get ps 0) held in
          subst (λ (l : OnLink). IsTakeDone V (with_link V name l) types name out) (sym n_is)
          (subst (λ (o : Option Piece). IsTakeDone V (with_link V name (took V types is_sound name next piece rest held)) types name o) (sym one) (record {
            sound = took_sound V types is_sound name next piece rest held;
            same = refl;
            puts = took_puts V types is_sound name next piece rest held;
            takes = took_takes V types is_sound name next piece rest held;
            is_right = took_right V types is_sound name next piece rest held;
            kept = took_keeps V types is_sound name next piece rest held;
            none = tt;
            oldest = sym (ap (λ (ps : List Piece). slice_get ps 0) held);
            events = took_events V types is_sound name next piece rest held;
          }))
