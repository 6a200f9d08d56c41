-- What is summed of agents in rows: what entries and pieces tell of them, and what is told of them.
use Rattle.std.proofs.Common.{◌≡◌, ◌∙◌, refl, sym, ap, ap₂, subst, ℕ, ◌+◌, ◌<◌, ℤ, pos, List, [], ◌∷◌, ◌++◌, map, length, set, drop, get_or, slice_get, Bool, true, false, Option, Some, append_assoc, append-nil, arith, ◌≤◌, ⊎_elim, eq-eqb}
use Rattle.std.specs.Prelude.{nat_eq, option_map}
use Rattle.std.specs.Bool.{OnTrue}
use Rattle.std.specs.List.{All, Contains, IsDistinct}
use Rattle.std.proofs.lemmas.Bool.{cases_lt}
use Rattle.std.proofs.lemmas.List.Elements.{All-head, All-tail}
use Rattle.std.proofs.lemmas.Option.{get_or_from_slice_get, same_Some, slice_get-get_or, slice_get-map, slice_get_read, slice_get_within}
use Rattle.std.proofs.lemmas.Map.Keys.{apart_from_distinct}
use Rattle.std.proofs.lemmas.List.{length-map, drop_more}
use Rattle.brace_num.proofs.Orders.{pairs_differ}
use Rattle.brace_model.specs.declared.program.Effect.{Effect}
use Rattle.brace_model.specs.declared.program.Program.{Program}
use Rattle.brace_model.specs.declared.world.Agent.{Agent}
use Rattle.brace_model.specs.World.{class_of, ids}
use Rattle.brace_model.proofs.WorldLemmas.{id_at}
use Rattle.brace_model.specs.Query.{Saying}
use Rattle.brace_model.specs.Total.{said_to, total_of}
use Rattle.brace_comb.specs.declared.entry.Entry.{Entry}
use Rattle.brace_comb.specs.Partials.{sayings_to}
use Rattle.brace_eval.specs.Heard.{AreTold, effects_in}
use Rattle.brace_fold.specs.declared.table.Sum.{Sum}
use Rattle.brace_fold.specs.declared.table.Table.{Table}
use Rattle.brace_fold.specs.Sums.{AreSummed, IsJoined, sum_at}
use Rattle.brace_fold.specs.Hears.{Hears}
use Rattle.brace_fold.proofs.Alikes.{hears-none, hears-more}
use Rattle.brace_fold.proofs.Summings.{hears-sum}
use Rattle.brace_pieces.specs.declared.piece.Piece.{Piece}
use Rattle.brace_pieces.specs.declared.piece.Piece.TheVariants.{Effects}
use Rattle.brace_herd.specs.Placed.{ArePlaces}
use Rattle.brace_herd.specs.inner.Tables.{IsSilent, TellsOf, TellsBy, TellBy, no_entry, one_entry, no_piece, one_piece}
use Rattle.brace_herd.proofs.TableShares.{Reads}
use Rattle.brace_herd.proofs.TableTells.{OneMore, entry_more, no_entries}

-- the agent at a place
pub stands_at : (all these : List Agent) (places : List ℕ) (k place : ℕ) (a : Agent)
    → ArePlaces all these places → slice_get places k ≡ Some place → slice_get these k ≡ Some a
    → slice_get all place ≡ Some a
stands_at all these places k place a e at there =
    let reads : ℕ → Option Agent = λ p. slice_get all p in
    let first : slice_get (map reads places) k ≡ Some (reads place) =
    slice_get-map reads places k ∙ ap (option_map reads) at in
    let second : slice_get (map Some these) k ≡ Some (Some a) =
    slice_get-map Some these k ∙ ap (option_map Some) there in
    same_Some (reads place) (Some a) (sym first ∙ ap (λ l. slice_get l k) e ∙ second)

-- those at places of agents are among them
pub are_among : (all these : List Agent) (places : List ℕ) → ArePlaces all these places
    → (a : Agent) → Contains these a → Contains all a
are_among all these places stand a (k, low, is) =
    let long : length places ≡ length these =
    sym (length-map places (λ p. slice_get all p)) ∙ ap length stand ∙ length-map these Some in
    let place = get_or places k 0 in
    let here = stands_at all these places k place a stand
    (slice_get-get_or places k 0 (omega (arith, long, low)))
    (slice_get_read these (length these) k a refl low (sym is)) in
    (place, slice_get_within all place a here, get_or_from_slice_get all place a a here)

-- of agents whose ids differ the one of an id stands where the id does
pub stands_where : (all : List Agent) (row : ℕ) (a : Agent) → IsDistinct nat_eq (ids all)
    → slice_get (ids all) row ≡ Some a.id → Contains all a → slice_get all row ≡ Some a
stands_where all row a apart named (k, low, is) =
    let many : length (ids all) ≡ length all = length-map all (λ (b : Agent). b.id) in
    let within : row < length (ids all) = slice_get_within (ids all) row a.id named in
    let here : get_or (ids all) row 0 ≡ a.id = get_or_from_slice_get (ids all) row a.id 0 named in
    let there : get_or (ids all) k 0 ≡ a.id = id_at all k a low ∙ ap (λ (b : Agent). b.id) is in
    let same : row ≡ k =
    ⊎_elim (λ (less : row < k). absurd (differ row k less (omega (arith, low, many))
    (here ∙ sym there)))
    (λ (more : k ≤ row). ⊎_elim
    (λ (less : k < row). absurd (differ k row less within (there ∙ sym here)))
    (λ (back : row ≤ k). omega (arith, more, back)) (cases_lt k row)) (cases_lt row k) in
    slice_get_read all (length all) row a refl (omega (arith, within, many))
    (sym (ap (λ (n : ℕ). get_or all n a) same ∙ is))
  where
    differ : (i j : ℕ) → i < j → j < length (ids all)
        → get_or (ids all) i 0 ≡ get_or (ids all) j 0 → ⊥
    differ i j lt high is =
        let no : true ≡ false =
        sym (eq-eqb _ _ is) ∙ apart_from_distinct nat_eq (ids all) i j 0 apart lt high in cc

-- ---- what is told of some of the agents

module _ (program : Program) (these all : List Agent)
    (among : (a : Agent) → Contains these a → Contains all a) where
  entries_among : (entries : List Entry) (told : List Saying)
      → TellsBy program these entries told → TellsBy program all entries told
  entries_among _ _ no_entry = no_entry
  entries_among _ _ (one_entry entry entries told more of rest) =
      one_entry entry entries told more
      (record {
        agent = of.agent;
        is_held = among of.agent of.is_held;
        is_target = of.is_target;
        values = of.values;
      })
      (entries_among entries more rest)

  pub tell_among : (pieces : List Piece) (told : List Saying)
      → TellBy program these pieces told → TellBy program all pieces told
  tell_among _ _ no_piece = no_piece
  tell_among _ _ (one_piece entries pieces told more of rest) =
      one_piece entries pieces told more (entries_among entries told of)
      (tell_among pieces more rest)

-- ---- pieces that tell of no values

pub on_true : {P Q : Type 0} (b : Bool) → OnTrue b P → (P → Q) → OnTrue b Q
on_true true h f = f h
on_true false h f = h

pub one_list_told : (piece : Piece) (xs ys : List Entry) → piece ≡ Effects xs → piece ≡ Effects ys
    → ys ≡ xs
one_list_told piece xs ys is are = let same : Effects ys ≡ Effects xs = sym are ∙ is in cc

none_of_them : (program : Program) (held : List Agent) (entries : List Entry) (told : List Saying)
    → entries ≡ [] → TellsBy program held entries told → told ≡ []
none_of_them program held entries told none tells =
    no_entries program held told (subst (λ l. TellsBy program held l told) none tells)

pub silent_told : (program : Program) (held : List Agent) (pieces : List Piece)
    (told : List Saying) → All IsSilent pieces → TellBy program held pieces told → told ≡ []
silent_told program held _ _ silent no_piece = refl
silent_told program held _ _ silent (one_piece entries pieces first more of rest) =
    ap (λ l. l ++ more)
    (none_of_them program held entries first
    (All-head IsSilent (Effects entries) pieces silent entries refl) of)
    ∙ silent_told program held pieces more (All-tail IsSilent (Effects entries) pieces silent) rest

-- ---- what is told of one

abbrev IsTo : ℕ → ℕ → Saying → Type 0
IsTo id field s = (s.target ≡ id) × (s.field ≡ field)

-- what is told of an effect, made of its values
told_said : (id field : ℕ) (told : List Saying) → All (IsTo id field) told
    → sayings_to id field (map (λ (s : Saying). s.value) told) ≡ told
told_said id field [] all = refl
told_said id field (s ∷ told) all =
    let (target, at) = All-head (IsTo id field) s told all in
    ap₂ (λ x l. x ∷ l)
    (ap₂ (λ t f. let x : Saying = record { target = t; field = f; value = s.value } in x)
    (sym target) (sym at))
    (told_said id field told (All-tail (IsTo id field) s told all))

-- what is told of an effect of an agent is joined to its sum
pub told_hears : (program : Program) (rows : List Agent) (a : Agent) (e : Effect)
    (row field count : ℕ) (number : ℤ)
    (told : List Saying) (before after : Table) → IsDistinct nat_eq (ids rows)
    → slice_get rows row ≡ Some a
    → slice_get (effects_in (class_of program a)) field ≡ Some e
    → AreTold program a field number count told
    → IsJoined e.comb field row number count before after
    → Hears program rows told before after
told_hears program rows a e row field count number told before after apart here has tells joined_is =
    let same : tells.effect ≡ e = same_Some tells.effect e (sym tells.has ∙ has) in
    subst (λ l. Hears program rows l before after) (told_said a.id field told tells.alone)
    (hears-sum program rows before after row field count number a e
    (map (λ (s : Saying). s.value) told)
    (pairs_differ (λ (x : Agent). x.id) rows apart) here has
    (tells.total ∙ ap (λ (x : Effect). total_of x.comb (map (λ (s : Saying). s.value) told)) same)
    (tells.many ∙ sym (length-map told (λ (s : Saying). s.value))) joined_is)

-- ---- what is told of many, one after another

-- what is told so far was heard, and the rest is still told
pub record SoFarJoined (program : Program) (rows : List Agent) (told : List Saying)
    (before after : Table)
    (Tell : List Saying → Type 0) : Type 0 where
  pub done : List Saying
  pub rest : List Saying
  pub all : told ≡ done ++ rest
  pub hears : Hears program rows done before after
  pub tells : Tell rest

module _ (program : Program) (rows : List Agent) (told : List Saying) (start : Table) where
  pub joined_first : (Tell : List Saying → Type 0) → Tell told
      → SoFarJoined program rows told start start Tell
  joined_first Tell tells = record {
    done = [];
    rest = told;
    all = refl;
    hears = hears-none program rows start;
    tells = tells;
  }

  -- one more is heard
  pub joined_next : (before after : Table) (Tell One More : List Saying → Type 0)
      → ((rest : List Saying) → Tell rest → OneMore One More rest)
      → ((first : List Saying) → One first → Hears program rows first before after)
      → SoFarJoined program rows told start before Tell
      → SoFarJoined program rows told start after More
  joined_next before after Tell One More parts hears so =
      let next = parts so.rest so.tells in
      record {
        done = so.done ++ next.first;
        rest = next.others;
        all =
            so.all ∙ ap (λ (l : List Saying). so.done ++ l) next.all
            ∙ sym (append_assoc so.done next.first next.others);
        hears =
            hears-more program rows so.done next.first start before after so.hears
            (hears next.first next.one);
        tells = next.more;
      }

  -- the next entry is heard
  pub entry_joined : (own : List Agent) (before after : Table) (entries : List Entry) (i : ℕ)
      (d : Entry) → i < length entries
      → ((first : List Saying) → TellsOf program own (get_or entries i d) first
      → Hears program rows first before after)
      → SoFarJoined program rows told start before (TellsBy program own (drop i entries))
      → SoFarJoined program rows told start after (TellsBy program own (drop (i + 1) entries))
  entry_joined own before after entries i d low hears so =
      joined_next before after (TellsBy program own (drop i entries))
      (TellsOf program own (get_or entries i d)) (TellsBy program own (drop (i + 1) entries))
      (λ rest t. entry_more program own (get_or entries i d) (drop (i + 1) entries) rest
      (subst (λ (l : List Entry). TellsBy program own l rest) (drop_more entries i d low) t))
      hears so

  -- all is heard
  pub joined_last : (after : Table) (Tell : List Saying → Type 0)
      → ((rest : List Saying) → Tell rest → rest ≡ [])
      → SoFarJoined program rows told start after Tell → Hears program rows told start after
  joined_last after Tell none so =
      subst (λ (l : List Saying). Hears program rows l start after)
      (sym (so.all ∙ ap (λ (l : List Saying). so.done ++ l) (none so.rest so.tells)
      ∙ append-nil so.done)) so.hears

-- ---- what is told of them

-- the sum of an effect to which something was said
pub sum_reads : (program : Program) (rows : List Agent) (more : List Saying) (table : Table)
    (row i target : ℕ) (a : Agent) (effects : List Effect)
    (e : Effect) (sum : Sum) → AreSummed program rows more table → slice_get rows row ≡ Some a
    → a.id ≡ target
    → effects_in (class_of program a) ≡ effects → i < length effects → e ≡ get_or effects i e
    → sum ≡ sum_at table i row → 0 < sum.count
    → Reads target effects more i e sum.number (pos sum.count)
sum_reads program rows more table row i target a effects e sum are here named its le is at some =
    let there : slice_get (effects_in (class_of program a)) i ≡ Some e = ap (λ l. slice_get l i) its
    ∙ slice_get_read effects (length effects) i e refl le is in
    let theirs = are.sums row i a e here there in
    record {
      number_is =
          ap (λ (s : Sum). s.number) at ∙ theirs.number (subst (λ (s : Sum). 0 < s.count) at some)
          ∙ ap (λ n. total_of e.comb (said_to n i more)) named;
      count_is =
          ap (λ (s : Sum). pos s.count) at
          ∙ ap pos (theirs.many ∙ ap (λ n. length (said_to n i more)) named);
    }

-- of one to which nothing was said
pub none_reads : (program : Program) (rows : List Agent) (more : List Saying) (table : Table)
    (row i target : ℕ) (a : Agent) (effects : List Effect)
    (e : Effect) (sum : Sum) → AreSummed program rows more table → slice_get rows row ≡ Some a
    → a.id ≡ target
    → effects_in (class_of program a) ≡ effects → i < length effects → e ≡ get_or effects i e
    → sum ≡ sum_at table i row
    → Reads target effects more i e (total_of e.comb (said_to target i more)) (pos sum.count)
none_reads program rows more table row i target a effects e sum are here named its le is at =
    let there : slice_get (effects_in (class_of program a)) i ≡ Some e = ap (λ l. slice_get l i) its
    ∙ slice_get_read effects (length effects) i e refl le is in
    record {
      number_is = refl;
      count_is = ap (λ (s : Sum). pos s.count) at
          ∙ ap pos ((are.sums row i a e here there).many
          ∙ ap (λ n. length (said_to n i more)) named);
    }
