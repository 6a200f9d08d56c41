-- Sums of what is said, row by row.
use Rattle.std.proofs.Common.{◌≡◌, ◌∙◌, refl, sym, ap, ap₂, subst, ℕ, zero, suc, ◌+◌, ◌<◌, ℤ, Bool, false, cond, ◌&&◌, List, [], ◌∷◌, ◌++◌, append-nil, map, filter, length, get_or, set, replicate, Some, arith, slice_get, ⊎_elim}
use Rattle.std.specs.Prelude.{◌==◌, if◌then◌else◌}
use Rattle.std.proofs.lemmas.Bool.{cases_eq, cases_order, eq-eqb, ne_eqb}
use Rattle.std.proofs.lemmas.List.{get_or-set_other, get_or-set_same, length-append}
use Rattle.std.proofs.lemmas.List.Sums.{fold-append}
use Rattle.std.proofs.lemmas.Option.{get_or_from_slice_get, same_Some, slice_get_within}
use Rattle.brace_num.proofs.Booleans.{and_false}
use Rattle.brace_num.proofs.Lists.{none_long}
use Rattle.brace_num.proofs.Numbers.{eq_swap}
use Rattle.brace_model.specs.declared.program.Comb.{Comb}
use Rattle.brace_model.specs.declared.program.Effect.{Effect}
use Rattle.brace_model.specs.declared.program.Program.{Program}
use Rattle.brace_model.specs.declared.program.Value.{Value}
use Rattle.brace_model.specs.declared.world.Agent.{Agent}
use Rattle.brace_model.specs.World.{class_of}
use Rattle.brace_model.specs.Query.{Saying}
use Rattle.brace_model.specs.Total.{identity, joined, said_to, total_of}
use Rattle.brace_comb.specs.Partials.{sayings_to}
use Rattle.brace_comb.specs.Totals.{merged}
use Rattle.brace_comb.proofs.Joins.{fold-merged}
use Rattle.brace_comb.proofs.Said.{said_to-append}
use Rattle.brace_eval.specs.Heard.{effects_in}
use Rattle.brace_fold.specs.declared.table.Sum.{Sum}
use Rattle.brace_fold.specs.declared.table.Table.{Table}
use Rattle.brace_fold.specs.Sums.{AreSummed, IsJoined, IsSum, no_sum, sum_at, summed, sums_of}
use Rattle.brace_fold.specs.Hears.{Hears}
use Rattle.brace_fold.proofs.Taking.{AreApart}

-- ---- one sum of a table

-- a sum that is set among those of its effect is joined
pub joined-set : (comb : Comb) (effect row : ℕ) (number : ℤ) (count : ℕ) (before after : Table)
    → after.rows ≡ before.rows → effect < length before.sums.items
    → row < length (sums_of before effect)
    → after.sums.items ≡ set before.sums.items effect (set (sums_of before effect) row
    (summed comb (sum_at before effect row) number count))
    → IsJoined comb effect row number count before after
joined-set comb effect row number count before after same inside low is = record {
  rows = same;
  sum = ap (λ l. get_or l row no_sum) here ∙ get_or-set_same old row sum no_sum low;
  others = λ f r apart. ⊎_elim
      (λ (one : f ≡ effect).
      ap (λ n. sum_at after n r) one ∙ ap (λ l. get_or l r no_sum) here
      ∙ get_or-set_other old row r sum no_sum (apart one) ∙ ap (λ n. sum_at before n r) (sym one))
      (λ (ne : f ≡ effect → ⊥).
      ap (λ l. get_or (get_or l f []) r no_sum) is
      ∙ ap (λ l. get_or l r no_sum) (get_or-set_other lists effect f new [] ne))
      (cases_eq f effect);
}
  where
    lists : List (List Sum)
    lists = before.sums.items

    old : List Sum
    old = sums_of before effect

    sum : Sum
    sum = summed comb (sum_at before effect row) number count

    new : List Sum
    new = set old row sum

    here : sums_of after effect ≡ new
    here = ap (λ l. get_or l effect []) is ∙ get_or-set_same lists effect new [] inside

none-in : (rows row : ℕ) → get_or (replicate rows no_sum) row no_sum ≡ no_sum
none-in zero row = refl
none-in (suc n) zero = refl
none-in (suc n) (suc row) = none-in n row

none-at : (effects rows effect row : ℕ)
    → get_or (get_or (replicate effects (replicate rows no_sum)) effect []) row no_sum ≡ no_sum
none-at zero rows zero row = refl
none-at zero rows (suc effect) row = refl
none-at (suc n) rows zero row = none-in rows row
none-at (suc n) rows (suc effect) row = none-at n rows effect row

-- to a table of sums of no value nothing was said
pub nothing-said : (program : Program) (agents : List Agent) (effects rows : ℕ) (table : Table)
    → rows ≡ length agents → table.rows ≡ rows
    → table.sums.items ≡ replicate effects (replicate rows no_sum)
    → AreSummed program agents [] table
nothing-said program agents effects rows table many long is = record {
  long = long ∙ many;
  sums = λ row effect a e got has.
      let none : sum_at table effect row ≡ no_sum =
      ap (λ l. get_or (get_or l effect []) row no_sum) is ∙ none-at effects rows effect row in
      record {
        many = ap (λ (s : Sum). s.count) none;
        number = λ some. absurd (omega (arith, some, ap (λ (s : Sum). s.count) none));
      };
}

-- ---- what is said to one effect

told-here : (id field : ℕ) (values : List Value) → said_to id field (sayings_to id field values) ≡ values
told-here id field [] = refl
told-here id field (v ∷ values) =
    let x : Saying = record { target = id; field = field; value = v } in
    let rest = filter (λ (s : Saying). (s.target == id) && (s.field == field)) (sayings_to id field values) in
    ap (λ (b : Bool). map (λ (s : Saying). s.value) (cond b (x ∷ rest) rest)) (ap₂ (λ p q. p && q) (eq-eqb id id refl) (eq-eqb field field refl))
    ∙ ap (λ l. v ∷ l) (told-here id field values)

told-other : (id field target effect : ℕ) (values : List Value) → ((target == id) && (effect == field)) ≡ false → said_to id field (sayings_to target effect values) ≡ []
told-other id field target effect [] off = refl
told-other id field target effect (v ∷ values) off =
    let x : Saying = record { target = target; field = effect; value = v } in
    let rest = filter (λ (s : Saying). (s.target == id) && (s.field == field)) (sayings_to target effect values) in
    ap (λ (b : Bool). map (λ (s : Saying). s.value) (cond b (x ∷ rest) rest)) off ∙ told-other id field target effect values off

-- a sum and values more
summed-is : (comb : Comb) (old : Sum) (us vs : List Value) (number : ℤ) (count : ℕ) → IsSum comb us old → number ≡ total_of comb vs → count ≡ length vs
    → IsSum comb (us ++ vs) (summed comb old number count)
summed-is comb old us vs number count h is many = record {
  many = ap₂ (λ m n. m + n) h.many many ∙ sym (length-append us vs);
  number = λ some. by old.count refl;
}
  where
    either : Bool → ℤ
    either b = if b then number else merged comb old.number number

    by : (n : ℕ) → old.count ≡ n → either (old.count == 0) ≡ total_of comb (us ++ vs)
    by zero none =
        ap either (eq-eqb old.count 0 none) ∙ is
        ∙ ap (λ l. total_of comb (l ++ vs)) (sym (none_long us (sym h.many ∙ none)))
    by (suc n) some =
        ap either (ne_eqb old.count 0 (λ e. omega (arith, e, some)))
        ∙ ap₂ (merged comb) (h.number (omega (arith, some))) is
        ∙ sym (fold-merged comb us vs)
        ∙ sym (fold-append (joined comb) (identity comb) us vs)

-- values were joined to an effect of the agent of a row
module _ (program : Program) (rows : List Agent) (before after : Table) (row effect count : ℕ) (number : ℤ) (a : Agent) (e : Effect) (values : List Value)
    (apart : AreApart rows) (got : slice_get rows row ≡ Some a) (has : slice_get (effects_in (class_of program a)) effect ≡ Some e)
    (is : number ≡ total_of e.comb values) (many : count ≡ length values)
    (joined_is : IsJoined e.comb effect row number count before after) where
  abbrev told : List Saying
  told = sayings_to a.id effect values

  module _ (said : List Saying) (k : AreSummed program rows said before) where
    abbrev Is : ℕ → ℕ → Agent → Effect → Type 0
    Is r f b d = IsSum d.comb (said_to b.id f (said ++ told)) (sum_at after f r)

    hit : Is row effect a e
    hit =
        let sum = summed e.comb (sum_at before effect row) number count in
        let all : said_to a.id effect said ++ values ≡ said_to a.id effect (said ++ told) =
        ap (λ l. said_to a.id effect said ++ l) (sym (told-here a.id effect values)) ∙ sym (said_to-append a.id effect said told) in
        subst (λ (s : Sum). IsSum e.comb (said_to a.id effect (said ++ told)) s) (sym joined_is.sum)
        (subst (λ l. IsSum e.comb l sum) all
        (summed-is e.comb (sum_at before effect row) (said_to a.id effect said) values number count (k.sums row effect a e got has) is many))

    hit-at : (r f : ℕ) (b : Agent) (d : Effect) → slice_get rows r ≡ Some b → slice_get (effects_in (class_of program b)) f ≡ Some d → f ≡ effect → r ≡ row → Is r f b d
    hit-at r f b d found has_it same here =
        let agent : b ≡ a = same_Some b a (sym found ∙ ap (slice_get rows) here ∙ got) in
        let field : d ≡ e = same_Some d e (sym has_it ∙ ap₂ (λ (x : Agent) n. slice_get (effects_in (class_of program x)) n) agent same ∙ has) in
        subst (λ n. Is n f b d) (sym here) (subst (λ n. Is row n b d) (sym same) (subst (λ (x : Agent). Is row effect x d) (sym agent) (subst (λ (x : Effect). Is row effect a x) (sym field) hit)))

    miss : (r f : ℕ) (b : Agent) (d : Effect) → slice_get rows r ≡ Some b → slice_get (effects_in (class_of program b)) f ≡ Some d
        → (f ≡ effect → r ≡ row → ⊥) → ((a.id == b.id) && (effect == f)) ≡ false → Is r f b d
    miss r f b d found has_it other off =
        let none : said_to b.id f told ≡ [] = told-other b.id f a.id effect values off in
        let all : said_to b.id f said ≡ said_to b.id f (said ++ told) =
        sym (said_to-append b.id f said told ∙ ap (λ l. said_to b.id f said ++ l) none ∙ append-nil (said_to b.id f said)) in
        subst (λ (s : Sum). IsSum d.comb (said_to b.id f (said ++ told)) s) (sym (joined_is.others f r other))
        (subst (λ l. IsSum d.comb l (sum_at before f r)) all (k.sums r f b d found has_it))

    -- agents of two rows have different ids
    ids-differ : (r : ℕ) (b : Agent) → slice_get rows r ≡ Some b → (r ≡ row → ⊥) → (a.id == b.id) ≡ false
    ids-differ r b found ne =
        let mine : get_or rows row a ≡ a = get_or_from_slice_get rows row a a got in
        let theirs : get_or rows r a ≡ b = get_or_from_slice_get rows r b a found in
        let at : ((get_or rows row a).id == (get_or rows r a).id) ≡ (a.id == b.id) = ap₂ (λ (x y : Agent). x.id == y.id) mine theirs in
        sym at ∙ ⊎_elim
        (λ (same : r ≡ row). absurd (ne same))
        (λ other. ⊎_elim
        (λ (less : r < row). eq_swap (get_or rows row a).id (get_or rows r a).id ∙ apart r row a less (slice_get_within rows row a got))
        (λ (more : row < r). apart row r a more (slice_get_within rows r b found))
        other)
        (cases_order r row)

    each-sum : (r f : ℕ) (b : Agent) (d : Effect) → slice_get rows r ≡ Some b → slice_get (effects_in (class_of program b)) f ≡ Some d → Is r f b d
    each-sum r f b d found has_it =
        ⊎_elim
        (λ (same : f ≡ effect). ⊎_elim
        (λ (here : r ≡ row). hit-at r f b d found has_it same here)
        (λ (ne : r ≡ row → ⊥). miss r f b d found has_it (λ p q. ne q)
        (ap (λ (p : Bool). p && (effect == f)) (ids-differ r b found ne)))
        (cases_eq r row))
        (λ (ne : f ≡ effect → ⊥). miss r f b d found has_it (λ p q. ne p)
        (ap (λ (q : Bool). (a.id == b.id) && q) (ne_eqb effect f (λ p. ne (sym p))) ∙ and_false (a.id == b.id)))
        (cases_eq f effect)

  pub hears-sum : Hears program rows (sayings_to a.id effect values) before after
  hears-sum = record {
    each = λ said k. record {
      long = joined_is.rows ∙ k.long;
      sums = λ r f b d found has_it. each-sum said k r f b d found has_it;
    };
  }
