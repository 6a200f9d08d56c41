-- Totals that a table has.
use Rattle.std.proofs.Common.{◌≡◌, ◌∙◌, refl, sym, ap, ap₂, Bool, false, true, ℕ, zero, suc, ◌+◌, ◌<◌, pos, List, [], ◌∷◌, map, length, get_or, slice_get, Some, arith}
use Rattle.std.specs.Prelude.{◌==◌, if◌then◌else◌}
use Rattle.std.specs.List.{All}
use Rattle.std.proofs.lemmas.Bool.{eqb-false, eqb-true}
use Rattle.std.proofs.lemmas.List.Elements.{All-head, All-tail}
use Rattle.std.proofs.lemmas.Option.{none-some, same_Some, slice_get-get_or}
use Rattle.brace_num.proofs.Lists.{none_long}
use Rattle.brace_model.specs.declared.program.Class.{Class}
use Rattle.brace_model.specs.declared.program.Effect.{Effect}
use Rattle.brace_model.specs.declared.program.Program.{Program}
use Rattle.brace_model.specs.declared.world.Agent.{Agent}
use Rattle.brace_model.specs.Query.{Saying}
use Rattle.brace_model.specs.Total.{identity, said_to, total_of, totals_from}
use Rattle.brace_model.specs.World.{class_of}
use Rattle.brace_eval.specs.Heard.{effects_in, row_of}
use Rattle.brace_fold.specs.declared.table.Sum.{Sum}
use Rattle.brace_fold.specs.declared.table.Table.{Table}
use Rattle.brace_fold.specs.Asked.{by_row, no_agent}
use Rattle.brace_fold.specs.Sums.{AreSummed, IsSum, no_sum, sum_at, total_in}

positive : (n : ℕ) → (n ≡ 0 → ⊥) → 0 < n
positive zero some = absurd (some refl)
positive (suc n) some = omega arith

-- the total of an effect of a row
told : (program : Program) (rows : List Agent) (more : List Saying) (table : Table)
    (row effect : ℕ) (a : Agent) (e : Effect) → AreSummed program rows more table
    → slice_get rows row ≡ Some a
    → slice_get (effects_in (class_of program a)) effect ≡ Some e
    → total_in (identity e.comb) (sum_at table effect row)
    ≡ total_of e.comb (said_to a.id effect more)
told program rows more table row effect a e are got has = by (sum.count == 0) refl
  where
    sum : Sum
    sum = sum_at table effect row

    is : IsSum e.comb (said_to a.id effect more) sum
    is = are.sums row effect a e got has

    by : (b : Bool) → (sum.count == 0) ≡ b
        → total_in (identity e.comb) sum ≡ total_of e.comb (said_to a.id effect more)
    by true none =
        let nothing : said_to a.id effect more ≡ [] =
        none_long (said_to a.id effect more) (sym is.many ∙ eqb-true sum.count 0 none) in
        ap (λ b. if b then identity e.comb else sum.number) none
        ∙ sym (ap (total_of e.comb) nothing)
    by false some =
        ap (λ b. if b then identity e.comb else sum.number) some
        ∙ is.number (positive sum.count (eqb-false sum.count 0 some))

-- the total of an effect among all of an agent's
totals-at : (n id : ℕ) (effects : List Effect) (said : List Saying) (k : ℕ) (e : Effect)
    → slice_get effects k ≡ Some e
    → get_or (totals_from n id effects said) k (pos 0) ≡ total_of e.comb (said_to id (n + k) said)
totals-at n id [] said k e there = absurd (none-some e there)
totals-at n id (f ∷ effects) said zero e there =
    let here : n ≡ n + 0 = omega arith in
    ap₂ (λ (x : Effect) m. total_of x.comb (said_to id m said)) (same_Some f e there) here
totals-at n id (f ∷ effects) said (suc k) e there =
    let on : suc n + k ≡ n + suc k = omega arith in
    totals-at (suc n) id effects said k e there ∙ ap (λ m. total_of e.comb (said_to id m said)) on

effect-total : (program : Program) (more : List Saying) (a : Agent) (k : ℕ) (e : Effect)
    → slice_get (effects_in (class_of program a)) k ≡ Some e
    → total_of e.comb (said_to a.id k more) ≡ get_or (row_of program more a) k (pos 0)
effect-total program more a k e there =
    let on : 0 + k ≡ k = omega arith in
    sym (totals-at 0 a.id (effects_in (class_of program a)) more k e there
    ∙ ap (λ m. total_of e.comb (said_to a.id m more)) on)

-- the totals of an effect of agents of a class, by the sums of all rows
pub effect-totals : (program : Program) (agents : List Agent) (more : List Saying) (table : Table)
    (own : Class) (k : ℕ) (e : Effect) (sums : List Sum) (rows : List ℕ)
    → AreSummed program agents more table → slice_get own.effects k ≡ Some e
    → length sums ≡ table.rows
    → ((row : ℕ) → row < table.rows → get_or sums row no_sum ≡ sum_at table k row)
    → ((i : ℕ) → i < length rows → get_or rows i 0 < length sums)
    → All (λ a. class_of program a ≡ Some own) (by_row agents rows)
    → map (λ row. total_in (identity e.comb) (get_or sums row no_sum)) rows
    ≡ map (λ a. get_or (row_of program more a) k (pos 0)) (by_row agents rows)
effect-totals program agents more table own k e sums [] are there long each within all = refl
effect-totals program agents more table own k e sums (row ∷ rows) are there long each within all =
    let a = get_or agents row no_agent in
    let of = All-head (λ a. class_of program a ≡ Some own) a (by_row agents rows) all in
    let has : slice_get (effects_in (class_of program a)) k ≡ Some e =
    ap (λ o. slice_get (effects_in o) k) of ∙ there in
    let low : row < length sums = within 0 (omega arith) in
    let got = slice_get-get_or agents row no_agent (omega (arith, low, long, are.long)) in
    ap₂ (λ t l. t ∷ l)
    (ap (total_in (identity e.comb)) (each row (omega (arith, low, long)))
    ∙ told program agents more table row k a e are got has ∙ effect-total program more a k e has)
    (effect-totals program agents more table own k e sums rows are there long each
    (λ i less. within (suc i) (omega (arith, less)))
    (All-tail (λ a. class_of program a ≡ Some own) a (by_row agents rows) all))
