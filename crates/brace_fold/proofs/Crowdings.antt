-- Crowds: their parts, and a constant that is set.
use Rattle.std.proofs.Common.{◌≡◌, ◌∙◌, refl, sym, ap, ap₂, subst, ℕ, zero, suc, ◌+◌, ◌-◌, ◌<◌, ◌≤◌, ℤ, pos, List, [], ◌∷◌, ◌++◌, append-nil, append_assoc, map, length, drop, replicate, get_or, set, Bool, true, false, Some, None, arith, slice_get, Option, ⊎_elim}
use Rattle.std.specs.Prelude.{if◌then◌else◌}
use Rattle.std.specs.List.{All}
use Rattle.std.proofs.lemmas.Bool.{cases_eq, cases_lt}
use Rattle.std.proofs.lemmas.List.{ext_get_or, length-map, length-set, length-replicate, length_push, map-append, drop_all, drop_more, get_or_default, get_or-set_same, get_or-set_other}
use Rattle.std.proofs.lemmas.Option.{none-some, same_Some, get_or_from_slice_get, unwrap_or-slice_get}
use Rattle.brace_model.specs.declared.program.Ty.{Ty}
use Rattle.brace_model.specs.declared.program.Ty.TheVariants as ty
use Rattle.brace_model.specs.declared.program.Value.{Value}
use Rattle.brace_model.specs.declared.world.Agent.{Agent}
use Rattle.brace_model.specs.World.{no_value, number, value_at}
use Rattle.brace_model.specs.Value.{Scope, typed}
use Rattle.brace_model.specs.Query.{bound}
use Rattle.brace_code.specs.declared.lane.Lane.{Lane}
use Rattle.brace_code.specs.declared.lane.Row.TheVariants.{Place}
use Rattle.brace_code.specs.declared.lanes.Rows.{Rows}
use Rattle.brace_code.specs.declared.lanes.Rows.TheVariants.{Number, Same}
use Rattle.brace_code.specs.declared.view.View.{View}
use Rattle.brace_code.specs.Columns.{ArePicked, Sees, taking, side}
use Rattle.brace_code.specs.Lanes.{words_at, words_of}
use Rattle.brace_code.specs.RowLists.{lanes_of, row_in}
use Rattle.brace_code.proofs.RowLemmas.{lane_at, long}
use Rattle.brace_plan.specs.Planning.{opening_of}
use Rattle.brace_fold.specs.declared.crowd.Crowd.{Crowd}
use Rattle.brace_fold.specs.declared.crowd.Depth.{Depth}
use Rattle.brace_fold.specs.declared.crowd.Stretch.{Stretch}
use Rattle.brace_fold.specs.declared.crowd.Depth.TheVariants.{Outside}
use Rattle.brace_fold.specs.declared.scene.Scene.{Scene}
use Rattle.brace_fold.specs.inner.Asks.{openings}
use Rattle.brace_fold.specs.inner.Crowds.{Stands, AreStretches, IsLane, IsLocal, IsOf, AreOf, IsGathered, AreGathered, AreNumbered, AreOfClass, AreTaken, IsNoneOnSide, IsOfClass, IsScene, asking_at, placed_at, bound_to, chosen, rows}
use Rattle.brace_fold.proofs.ColumnLemmas.{class-of}
use Rattle.brace_fold.proofs.Evals.{at-mapped}

pub got-mapped : {A B : Type 0} (f : A → B) (xs : List A) (p : ℕ) (d : A) (e : B) → p < length xs → get_or (map f xs) p e ≡ f (get_or xs p d)
got-mapped f [] p d e low = absurd (omega (arith, low))
got-mapped f (x ∷ xs) zero d e low = refl
got-mapped f (x ∷ xs) (suc p) d e low = got-mapped f xs p d e (omega (arith, low))

module _ (scene : Scene) (depth : Depth) (scopes : List Scope) where
  of-long : (lanes : List Lane) (kids : List Scope) → AreOf scene depth scopes lanes kids → length lanes ≡ length kids
  of-long [] [] h = refl
  of-long [] (s ∷ kids) h = absurd (cc)
  of-long (l ∷ lanes) [] h = absurd (cc)
  of-long (l ∷ lanes) (s ∷ kids) h = ap suc (of-long lanes kids h.1)

  of-at : (lanes : List Lane) (kids : List Scope) → AreOf scene depth scopes lanes kids → (k : ℕ) (l : Lane) (s : Scope) → k < length kids
      → IsOf scene depth scopes (get_or lanes k l) (get_or kids k s)
  of-at [] [] h k l s low = absurd (omega (arith, low))
  of-at [] (x ∷ kids) h k l s low = absurd (cc)
  of-at (y ∷ lanes) [] h k l s low = absurd (cc)
  of-at (y ∷ lanes) (x ∷ kids) h zero l s low = h.0
  of-at (y ∷ lanes) (x ∷ kids) h (suc k) l s low = of-at lanes kids h.1 k l s (omega (arith, low))

  pub of-append : (lanes more : List Lane) (kids others : List Scope) → AreOf scene depth scopes lanes kids → AreOf scene depth scopes more others
      → AreOf scene depth scopes (lanes ++ more) (kids ++ others)
  of-append [] more [] others h k = k
  of-append [] more (s ∷ kids) others h k = absurd (cc)
  of-append (l ∷ lanes) more [] others h k = absurd (cc)
  of-append (l ∷ lanes) more (s ∷ kids) others h k = (h.0, of-append lanes more kids others h.1 k)

  side-case : (here : Bool) (l : Lane) (s : Scope) (lanes : List Lane) (kids : List Scope) → IsOf scene depth scopes l s → AreOf scene depth scopes lanes kids
      → AreOf scene depth scopes ((if here then l ∷ [] else []) ++ lanes) ((if here then s ∷ [] else []) ++ kids)
  side-case true l s lanes kids first rest = (first, rest)
  side-case false l s lanes kids first rest = rest

  -- a side of lanes stands for the scopes of that side
  of-taking : (set : Bool) (lanes : List Lane) (kids : List Scope) (words : List ℤ) → AreOf scene depth scopes lanes kids
      → AreOf scene depth scopes (taking set lanes words) (chosen set kids words)
  of-taking set [] [] words h = tt
  of-taking set [] (s ∷ kids) words h = absurd (cc)
  of-taking set (l ∷ lanes) [] words h = absurd (cc)
  of-taking set (l ∷ lanes) (s ∷ kids) [] h = tt
  of-taking set (l ∷ lanes) (s ∷ kids) (w ∷ words) h =
      side-case (side set w) l s (taking set lanes words) (chosen set kids words) h.0 (of-taking set lanes kids words h.1)

-- a crowd's own lanes
of-all : (scene : Scene) (depth : Depth) (scopes : List Scope) (lanes : List Lane) (kids : List Scope) → length lanes ≡ length kids
    → ((k : ℕ) (l : Lane) (s : Scope) → k < length kids → IsOf scene depth scopes (get_or lanes k l) (get_or kids k s)) → AreOf scene depth scopes lanes kids
of-all scene depth scopes [] [] long each = tt
of-all scene depth scopes [] (s ∷ kids) long each = absurd (omega (arith, long))
of-all scene depth scopes (l ∷ lanes) [] long each = absurd (omega (arith, long))
of-all scene depth scopes (l ∷ lanes) (s ∷ kids) long each =
    (each 0 l s (omega arith), of-all scene depth scopes lanes kids (omega (arith, long)) (λ k x y low. each (suc k) x y (omega (arith, low))))

of-own : (scene : Scene) (crowd : Crowd) (scopes : List Scope) → Stands scene crowd scopes → AreOf scene crowd.depth scopes crowd.lanes scopes
of-own scene crowd scopes h = of-all scene crowd.depth scopes crowd.lanes scopes h.long (λ k l s low.
    let at = h.numbered k l low in
    record {
      stands = h.lanes k l s low;
      within = subst (λ n. n < length scopes) (sym at) low;
      locals = ap (λ (x : Scope). x.locals) (get_or_default scopes k s (get_or scopes k s) low ∙ ap (λ n. get_or scopes n (get_or scopes k s)) (sym at));
    })

pub side-of : (scene : Scene) (crowd : Crowd) (scopes : List Scope) (set : Bool) (words : List ℤ) → Stands scene crowd scopes
    → AreOf scene crowd.depth scopes (taking set crowd.lanes words) (chosen set scopes words)
side-of scene crowd scopes set words h = of-taking scene crowd.depth scopes set crowd.lanes scopes words (of-own scene crowd scopes h)

-- ---- parts

none : Lane
none = record { this = 0; outer = 0; inner = 0; place = 0 }

placed-lane : (scene : Scene) (depth : Depth) (lane : Lane) (k : ℕ) (s : Scope) → IsLane scene depth lane s → IsLane scene depth (placed_at k lane) s
placed-lane scene depth lane k s h = record { tick = h.tick; seed = h.seed; this = h.this; outer = h.outer; inner = h.inner; totals = h.totals }

module _ (scene : Scene) (depth : Depth) (scopes kids : List Scope) (lanes : List Lane) (of : AreOf scene depth scopes lanes kids) where
  long-of : length lanes ≡ length kids
  long-of = of-long scene depth scopes lanes kids of

  -- a column of the crowd, gathered
  local-of : (n : ℕ) (column out : List ℤ) → IsGathered lanes column out → IsLocal n scopes column → IsLocal n kids out
  local-of n column out is local = record {
    short = subst (λ m. length out ≤ m) long-of is.short;
    each = λ k s low.
        let within : k < length kids = omega (arith, low, is.short, long-of) in
        let at = of-at scene depth scopes lanes kids of k none s within in
        let (inside, same) = is.each k none low in
        same ∙ local.each (get_or lanes k none).place (get_or kids k s) inside ∙ ap (λ (l : List Value). number (value_at l n)) (sym at.locals);
  }

-- the stretches of lanes whose rows This are the same
stretched : (lanes out : List Lane) (stretches : Option (List Stretch))
    → map (λ (l : Lane). l.this) lanes ≡ map (λ (l : Lane). l.this) out
    → AreStretches lanes stretches → AreStretches out stretches
stretched lanes out None same known = tt
stretched lanes out (Some s) same known = known ∙ same

-- the rows This of lanes that were numbered
this-numbered : (lanes out : List Lane) → AreNumbered lanes out
    → map (λ (l : Lane). l.this) lanes ≡ map (λ (l : Lane). l.this) out
this-numbered lanes out h =
    let this : Lane → ℕ = λ l. l.this in
    ext_get_or 0 (map this lanes) (map this out)
    (length-map lanes this ∙ sym h.long ∙ sym (length-map out this))
    (λ k low.
    let within : k < length lanes = omega (arith, low, length-map lanes this) in
    got-mapped this lanes k none 0 within
    ∙ sym (ap this (h.each k none within))
    ∙ sym (got-mapped this out k none 0 (omega (arith, within, h.long))))

pub part-stands : (scene : Scene) (crowd part : Crowd) (scopes kids : List Scope) (lanes : List Lane)
    → AreNumbered lanes part.lanes → AreGathered lanes crowd.locals.items part.locals.items → Stands scene crowd scopes
    → AreOf scene part.depth scopes lanes kids → AreStretches lanes part.stretches
    → Stands scene part kids
part-stands scene crowd part scopes kids lanes numbered gathered stands of known =
    let long : length lanes ≡ length kids = of-long scene part.depth scopes lanes kids of in
    record {
      long = numbered.long ∙ long;
      numbered = λ k l low. ap (λ (x : Lane). x.place) (numbered.each k l (omega (arith, low, long)));
      lanes = λ k l s low.
          subst (λ (x : Lane). IsLane scene part.depth x (get_or kids k s)) (sym (numbered.each k l (omega (arith, low, long))))
          (placed-lane scene part.depth (get_or lanes k l) k (get_or kids k s) (of-at scene part.depth scopes lanes kids of k l s low).stands);
      locals = λ n out got.
          let (column, had, is) = gathered.each n out got in
          local-of scene part.depth scopes kids lanes of n column out is (stands.locals n column had);
      room = λ k s low.
          let at = of-at scene part.depth scopes lanes kids of k none s low in
          ap (λ (l : List Value). length l) at.locals
          ∙ stands.room (get_or lanes k none).place (get_or kids k s) at.within
          ∙ sym gathered.long;
      stretches = stretched lanes part.lanes part.stretches
          (this-numbered lanes part.lanes numbered) known;
    }

-- one column more is gathered
pub gathered-more : (lanes : List Lane) (columns outs : List (List ℤ)) (column out : List ℤ) → AreGathered lanes columns outs → IsGathered lanes column out
    → AreGathered lanes (columns ++ column ∷ []) (outs ++ out ∷ [])
gathered-more lanes columns outs column out h is = record {
  long = length_push outs out ∙ ap (λ n. n + 1) h.long ∙ sym (length_push columns column);
  each = λ n o got. by columns outs h.long h.each n o got;
}
  where
    Had : List (List ℤ) → ℕ → List ℤ → Type 0
    Had cs n o = (c : List ℤ) × (slice_get cs n ≡ Some c) × IsGathered lanes c o

    by : (cs os : List (List ℤ)) → length os ≡ length cs → ((n : ℕ) (o : List ℤ) → slice_get os n ≡ Some o → Had cs n o)
        → (n : ℕ) (o : List ℤ) → slice_get (os ++ out ∷ []) n ≡ Some o → Had (cs ++ column ∷ []) n o
    by [] [] long each zero o got = (column, refl, subst (IsGathered lanes column) (same_Some out o got) is)
    by [] [] long each (suc n) o got = absurd (none-some o got)
    by [] (p ∷ os) long each n o got = absurd (omega (arith, long))
    by (c ∷ cs) [] long each n o got = absurd (omega (arith, long))
    by (c ∷ cs) (p ∷ os) long each zero o got = each zero o got
    by (c ∷ cs) (p ∷ os) long each (suc n) o got = by cs os (omega (arith, long)) (λ m q e. each (suc m) q e) n o got

-- what a view has at the places of lanes
pub viewed : (lanes : List Lane) (column out : List ℤ) (view : View) (count : ℕ)
    → count ≡ length lanes → out ≡ words_of count view
    → ((k : ℕ) → k < count → Sees view k)
    → words_of (length lanes) view ≡ words_at column Place lanes
    → ((k : ℕ) (l : Lane) → k < length lanes → Sees view k
    → (get_or lanes k l).place < length column)
    → IsGathered lanes column out
unfolding words_at
viewed lanes column out view count many is sees words within =
    let at : Lane → ℤ = λ l. get_or column l.place (pos 0) in
    let all : out ≡ map at lanes = is ∙ ap (λ n. words_of n view) many ∙ words in
    let long : length out ≡ length lanes = ap length all ∙ length-map lanes at in
    record {
      short = omega (arith, long);
      each = λ k l low.
          let inside : k < length lanes = omega (arith, low, long) in (
            within k l inside (sees k (omega (arith, many, inside))),
            ap (λ ws. get_or ws k (pos 0)) all ∙ got-mapped at lanes k l (pos 0) inside,
          );
    }

-- the lanes of some numbers
pub picked-are : (lanes part : List Lane) (numbers : List ℕ) (d : Lane)
    → ArePicked lanes numbers part
    → part ≡ map (λ n. get_or lanes n d) numbers
picked-are lanes part numbers d picked =
    let at : ℕ → Lane = λ n. get_or lanes n d in
    ext_get_or d part (map at numbers) (picked.long ∙ sym (length-map numbers at))
    (λ k low.
    let within : k < length numbers = omega (arith, low, picked.long) in
    (picked.each k d within).1 ∙ sym (got-mapped at numbers k 0 d within))

-- the numbers of the lanes of one side, and the lanes that are left
pub taken-more : (set : Bool) (lanes all : List Lane) (numbers new : List ℕ) (words : List ℤ)
    (k : ℕ) (d : Lane) (here : Bool)
    → k < length words → length words ≡ length lanes → side set (get_or words k (pos 0)) ≡ here
    → new ≡ numbers ++ (if here then k ∷ [] else [])
    → map (λ n. get_or lanes n d) numbers ++ taking set (drop k lanes) (drop k words) ≡ all
    → map (λ n. get_or lanes n d) new ++ taking set (drop (k + 1) lanes) (drop (k + 1) words) ≡ all
taken-more set lanes all numbers new words k d here low long on is so =
    let at : ℕ → Lane = λ n. get_or lanes n d in
    let within : k < length lanes = omega (arith, low, long) in
    let rest = taking set (drop (k + 1) lanes) (drop (k + 1) words) in
    ap (λ l. map at l ++ rest) is
    ∙ ap (λ l. l ++ rest) (one here)
    ∙ append_assoc (map at numbers) (if here then at k ∷ [] else []) rest
    ∙ ap (λ (c : Bool). map at numbers ++ ((if c then at k ∷ [] else []) ++ rest)) (sym on)
    ∙ ap (λ l. map at numbers ++ l)
    (sym (ap₂ (taking set) (drop_more lanes k d within) (drop_more words k (pos 0) low)))
    ∙ so
  where
    one : (c : Bool) → map (λ n. get_or lanes n d) (numbers ++ (if c then k ∷ [] else []))
        ≡ map (λ n. get_or lanes n d) numbers ++ (if c then get_or lanes k d ∷ [] else [])
    one true = map-append (λ n. get_or lanes n d) numbers (k ∷ [])
    one false = map-append (λ n. get_or lanes n d) numbers []

-- ---- constants

same-words : (words : List ℤ) → words ≡ map (λ w. number (typed ty.Int w)) words
same-words [] = refl
same-words (w ∷ words) = ap (λ l. w ∷ l) (same-words words)

-- whole numbers and fixed ones are their words
pub number-words : (type : Ty) (words : List ℤ) → (type ≡ ty.Bool → ⊥) → words ≡ map (λ w. number (typed type w)) words
number-words ty.Bool words other = absurd (other refl)
number-words _ words other = same-words words

pub value-set : (l : List Value) (n : ℕ) (v : Value) → n < length l → value_at (set l n v) n ≡ v
value-set l n v low = unwrap_or-slice_get (set l n v) n no_value ∙ get_or-set_same l n v no_value low

pub value-other : (l : List Value) (n m : ℕ) (v : Value) → (m ≡ n → ⊥) → value_at (set l n v) m ≡ value_at l m
value-other l n m v ne =
    unwrap_or-slice_get (set l n v) m no_value ∙ get_or-set_other l n m v no_value ne ∙ sym (unwrap_or-slice_get l m no_value)

got-same : {A : Type 0} (xs : List A) (n : ℕ) (x c : A) → slice_get (set xs n x) n ≡ Some c → c ≡ x
got-same [] n x c e = absurd (none-some c e)
got-same (y ∷ xs) zero x c e = sym (same_Some x c e)
got-same (y ∷ xs) (suc n) x c e = got-same xs n x c e

got-other : {A : Type 0} (xs : List A) (n m : ℕ) (x : A) → (m ≡ n → ⊥) → slice_get (set xs n x) m ≡ slice_get xs m
got-other [] n m x ne = refl
got-other (y ∷ xs) zero zero x ne = absurd (ne refl)
got-other (y ∷ xs) zero (suc m) x ne = refl
got-other (y ∷ xs) (suc n) zero x ne = refl
got-other (y ∷ xs) (suc n) (suc m) x ne = got-other xs n m x (λ e. ne (ap suc e))

bound-lane : (scene : Scene) (depth : Depth) (lane : Lane) (s : Scope) (n : ℕ) (v : Value) → IsLane scene depth lane s → IsLane scene depth lane (bound s n v)
bound-lane scene depth lane s n v h = record { tick = h.tick; seed = h.seed; this = h.this; outer = h.outer; inner = h.inner; totals = h.totals }

module _ (n : ℕ) (type : Ty) where
  bound-long : (scopes : List Scope) (words : List ℤ) → length words ≡ length scopes → length (bound_to n type scopes words) ≡ length scopes
  bound-long [] words e = refl
  bound-long (s ∷ scopes) [] e = absurd (omega (arith, e))
  bound-long (s ∷ scopes) (w ∷ words) e = ap suc (bound-long scopes words (omega (arith, e)))

  bound-at : (scopes : List Scope) (words : List ℤ) → length words ≡ length scopes → (k : ℕ) (s : Scope) → k < length scopes
      → get_or (bound_to n type scopes words) k s ≡ bound (get_or scopes k s) n (typed type (get_or words k (pos 0)))
  bound-at [] words e k s low = absurd (omega (arith, low))
  bound-at (x ∷ scopes) [] e k s low = absurd (omega (arith, e))
  bound-at (x ∷ scopes) (w ∷ words) e zero s low = refl
  bound-at (x ∷ scopes) (w ∷ words) e (suc k) s low = bound-at scopes words (omega (arith, e)) k s (omega (arith, low))

module _ (scene : Scene) (old new : Crowd) (n : ℕ) (type : Ty) (scopes : List Scope) (words column : List ℤ)
    (depth : new.depth ≡ old.depth) (lanes : new.lanes ≡ old.lanes)
    (known : new.stretches ≡ old.stretches)
    (locals : new.locals.items ≡ set old.locals.items n column)
    (low : n < length old.locals.items) (is : column ≡ map (λ w. number (typed type w)) words)
    (long : length words ≡ length scopes) (stands : Stands scene old scopes) where
  abbrev kids : List Scope
  kids = bound_to n type scopes words

  abbrev value_of : ℕ → Value
  value_of k = typed type (get_or words k (pos 0))

  kids-long : length kids ≡ length scopes
  kids-long = bound-long n type scopes words long

  kid : (k : ℕ) (s : Scope) → k < length scopes → get_or kids k s ≡ bound (get_or scopes k s) n (value_of k)
  kid k s within = bound-at n type scopes words long k s within

  bound-local : (m : ℕ) (out : List ℤ) → slice_get new.locals.items m ≡ Some out → IsLocal m kids out
  bound-local m out got = ⊎_elim here there (cases_eq m n)
    where
      set_got : slice_get (set old.locals.items n column) m ≡ Some out
      set_got = subst (λ l. slice_get l m ≡ Some out) locals got

      here : m ≡ n → IsLocal m kids out
      here e =
          let same : out ≡ column = got-same old.locals.items n column out (subst (λ i. slice_get (set old.locals.items n column) i ≡ Some out) e set_got) in
          let as_words : out ≡ map (λ w. number (typed type w)) words = same ∙ is in
          let many : length out ≡ length scopes = ap length as_words ∙ length-map words (λ w. number (typed type w)) ∙ long in
          record {
            short = omega (arith, many, kids-long);
            each = λ k s less.
                let within : k < length scopes = omega (arith, less, many) in
                let room : n < length (get_or scopes k s).locals = omega (arith, low, stands.room k s within) in
                ap (λ l. get_or l k (pos 0)) as_words
                ∙ at-mapped (λ w. number (typed type w)) words k (pos 0) (subst (λ l. k < length l) as_words less)
                ∙ ap number (sym (value-set (get_or scopes k s).locals n (value_of k) room))
                ∙ ap (λ i. number (value_at (bound (get_or scopes k s) n (value_of k)).locals i)) (sym e)
                ∙ ap (λ (t : Scope). number (value_at t.locals m)) (sym (kid k s within));
          }

      there : (m ≡ n → ⊥) → IsLocal m kids out
      there ne =
          let had : slice_get old.locals.items m ≡ Some out = sym (got-other old.locals.items n m column ne) ∙ set_got in
          let local = stands.locals m out had in
          record {
            short = omega (arith, local.short, kids-long);
            each = λ k s less.
                let within : k < length scopes = omega (arith, less, local.short) in
                local.each k s less
                ∙ ap number (sym (value-other (get_or scopes k s).locals n m (value_of k) ne))
                ∙ ap (λ (t : Scope). number (value_at t.locals m)) (sym (kid k s within));
          }

  -- a constant that is set
  pub bind-stands : Stands scene new (bound_to n type scopes words)
  bind-stands = record {
    long = ap length lanes ∙ stands.long ∙ sym kids-long;
    numbered = λ k l less.
        ap (λ (xs : List Lane). (get_or xs k l).place) lanes ∙ stands.numbered k l (omega (arith, less, kids-long));
    lanes = λ k l s less.
        let within : k < length scopes = omega (arith, less, kids-long) in
        let h = bound-lane scene old.depth (get_or old.lanes k l) (get_or scopes k s) n (value_of k) (stands.lanes k l s within) in
        subst (λ (t : Scope). IsLane scene new.depth (get_or new.lanes k l) t) (sym (kid k s within))
        (subst (λ (d : Depth). IsLane scene d (get_or new.lanes k l) (bound (get_or scopes k s) n (value_of k))) (sym depth)
        (subst (λ (xs : List Lane). IsLane scene old.depth (get_or xs k l) (bound (get_or scopes k s) n (value_of k))) (sym lanes) h));
    locals = bound-local;
    room = λ k s less.
        let within : k < length scopes = omega (arith, less, kids-long) in
        ap (λ (t : Scope). length t.locals) (kid k s within)
        ∙ length-set (get_or scopes k s).locals n (value_of k)
        ∙ stands.room k s within
        ∙ sym (ap length locals ∙ length-set old.locals.items n column);
    stretches = subst (AreStretches new.lanes) (sym known)
        (subst (λ (l : List Lane). AreStretches l old.stretches) (sym lanes) stands.stretches);
  }

-- ---- agents that ask

none-set : (count n : ℕ) (column : List ℤ) → slice_get (replicate count []) n ≡ Some column → column ≡ []
none-set zero n column e = absurd (none-some column e)
none-set (suc count) zero column e = sym (same_Some [] column e)
none-set (suc count) (suc n) column e = none-set count n column e

-- lanes of those who ask
pub asking-lanes : (rows : Rows) (asking : List ℕ) (count : ℕ) → count ≡ length asking
    → ((k : ℕ) → row_in rows k ≡ get_or asking k 0)
    → AreNumbered (map asking_at asking) (lanes_of count rows (Same 0) (Same 0) Number)
asking-lanes rows asking count many is = record {
  long = long count rows (Same 0) (Same 0) Number ∙ many ∙ sym (length-map asking asking_at);
  each = λ k l low.
      let within : k < length asking = omega (arith, low, length-map asking asking_at) in
      lane_at count rows (Same 0) (Same 0) Number k l (omega (arith, within, many))
      ∙ ap (λ row. placed_at k (asking_at row)) (is k)
      ∙ ap (placed_at k) (sym (got-mapped asking_at asking k 0 l within));
}

-- the agents of rows are of a class, as the scene's column of classes has it
pub all-of-class : (scene : Scene) (class : ℕ) (places : List ℕ) → IsScene scene
    → AreOfClass scene.classes.now class places → All (IsOfClass (rows scene) class) places
all-of-class scene class places is all = λ k d low.
    let place = get_or places k d in
    class-of (rows scene) place class class
    (ap (λ (l : List ℕ). slice_get l place) (sym is.classes) ∙ all k d low) refl

pub opening-stands : (scene : Scene) (crowd : Crowd) (class constants : ℕ) (places : List ℕ)
    (d : Agent)
    → crowd.depth ≡ Outside → AreNumbered (map asking_at places) crowd.lanes
    → crowd.locals.items ≡ replicate constants [] → crowd.stretches ≡ None
    → All (IsOfClass (rows scene) class) places → Stands scene crowd (openings scene constants d places)
opening-stands scene crowd class constants places d depth numbered locals unknown all =
    let opens : ℕ → Scope = λ place. opening_of constants scene.seed scene.tick (get_or (rows scene) place d) in
    let many : length (map asking_at places) ≡ length places = length-map places asking_at in
    let scopes_many : length (map opens places) ≡ length places = length-map places opens in
    record {
      long = numbered.long ∙ many ∙ sym scopes_many;
      numbered = λ k l low. ap (λ (x : Lane). x.place) (numbered.each k l (omega (arith, low, many, scopes_many)));
      lanes = λ k l s low.
          let within : k < length places = omega (arith, low, scopes_many) in
          let place = get_or places k 0 in
          let (a, got, of) = all k 0 within in
          let here : IsLane scene Outside (placed_at k (asking_at place)) (opens place) = record {
            tick = refl;
            seed = refl;
            this = got ∙ ap (λ (x : Agent). Some x) (sym (get_or_from_slice_get (rows scene) place a d got));
            outer = refl;
            inner = refl;
            totals = refl;
          } in
          let lane : get_or crowd.lanes k l ≡ placed_at k (asking_at place) =
          numbered.each k l (omega (arith, within, many))
          ∙ ap (placed_at k) (got-mapped asking_at places k 0 l within) in
          subst (λ (t : Scope). IsLane scene crowd.depth (get_or crowd.lanes k l) t) (sym (got-mapped opens places k 0 s within))
          (subst (λ (x : Lane). IsLane scene crowd.depth x (opens place)) (sym lane)
          (subst (λ (e : Depth). IsLane scene e (placed_at k (asking_at place)) (opens place)) (sym depth) here));
      locals = λ n column got.
          let none_there : column ≡ [] = none-set constants n column (subst (λ l. slice_get l n ≡ Some column) locals got) in
          subst (IsLocal n (map opens places)) (sym none_there)
          (record { short = omega arith; each = λ k s less. absurd (omega (arith, less)) });
      room = λ k s low.
          let within : k < length places = omega (arith, low, scopes_many) in
          ap (λ (t : Scope). length t.locals) (got-mapped opens places k 0 s within)
          ∙ length-replicate constants no_value
          ∙ sym (ap length locals ∙ length-replicate {A = List ℤ} constants []);
      stretches = subst (AreStretches crowd.lanes) (sym unknown) tt;
    }

-- one word more that is not on the side
pub none-more : (set : Bool) (words : List ℤ) (from k : ℕ) → IsNoneOnSide set words from k
    → side set (get_or words k (pos 0)) ≡ false → IsNoneOnSide set words from (k + 1)
none-more set words from k none here j le low =
    ⊎_elim (λ (less : j < k). none j le less)
    (λ (more : k ≤ j). let same : j ≡ k = omega (arith, low, more) in
    ap (λ n. side set (get_or words n (pos 0))) same ∙ here)
    (cases_lt j k)

-- lanes none of which is on the side
pub taken-none : (set : Bool) (words : List ℤ) (numbers : List ℕ) (from next : ℕ) → from ≤ next
    → next ≤ length words → IsNoneOnSide set words from next → AreTaken set words from numbers
    → AreTaken set words next numbers
taken-none set words numbers from next le within none taken =
    subst (λ m. AreTaken set words m numbers) (omega (arith, le))
    (go (next - from) (omega (arith, le)))
  where
    go : (n : ℕ) → from + n ≤ next → AreTaken set words (from + n) numbers
    go zero low = subst (λ m. AreTaken set words m numbers) (omega arith) taken
    go (suc n) low = λ lanes d long.
        subst (λ m. map (λ i. get_or lanes i d) numbers
        ++ taking set (drop m lanes) (drop m words) ≡ taking set lanes words) (omega arith)
        (taken-more set lanes (taking set lanes words) numbers numbers words (from + n) d false
        (omega (arith, low, within)) long (none (from + n) (omega arith) (omega (arith, low)))
        (sym (append-nil numbers)) (go n (omega (arith, low)) lanes d long))

-- all lanes on the side
pub taken-all : (set : Bool) (words : List ℤ) (numbers : List ℕ) (count : ℕ) (lanes : List Lane)
    (d : Lane) → count ≡ length words → length words ≡ length lanes
    → AreTaken set words count numbers
    → map (λ n. get_or lanes n d) numbers ≡ taking set lanes words
taken-all set words numbers count lanes d all long taken =
    let at : List Lane = map (λ n. get_or lanes n d) numbers in
    sym (append-nil at)
    ∙ ap (λ (l : List Lane). at ++ taking set l (drop count words))
    (sym (drop_all count lanes (omega (arith, all, long))))
    ∙ taken lanes d long
