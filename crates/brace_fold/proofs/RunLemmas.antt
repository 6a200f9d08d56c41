-- What rules come to in lanes, they come to in the lanes' scopes.
use Rattle.std.proofs.Common.{◌≡◌, ◌∙◌, refl, sym, ap, ap₂, subst, ℕ, ◌<◌, ℤ, pos, List, [], ◌∷◌, map, length, get_or, Option, Some, None, Ok, slice_get}
use Rattle.std.specs.Prelude.{option_copied}
use Rattle.std.specs.List.{AllZip}
use Rattle.std.proofs.lemmas.Option.{none-some}
use Rattle.brace_draw.specs.Draw.{draw_value}
use Rattle.brace_model.specs.declared.program.Ty.{Ty}
use Rattle.brace_model.specs.declared.program.Value.{Value}
use Rattle.brace_model.specs.declared.program.Who.TheVariants.{This, Outer, Inner}
use Rattle.brace_model.specs.declared.world.Agent.{Agent}
use Rattle.brace_model.specs.World.{number, value_at}
use Rattle.brace_model.specs.Value.{Scope, Worth, typed}
use Rattle.brace_model.specs.Query.{opening_scope}
use Rattle.brace_code.specs.declared.code.Code.{Code}
use Rattle.brace_code.specs.declared.code.Operand.{Operand}
use Rattle.brace_code.specs.declared.code.Operand.TheVariants.{Word, Field, Total, Local, Rand}
use Rattle.brace_code.specs.declared.lane.Frame.{Frame}
use Rattle.brace_code.specs.declared.lane.Lane.{Lane}
use Rattle.brace_code.specs.Codes.{gives}
use Rattle.brace_code.specs.Lanes.{Shows, column_of, row_of, number_in}
use Rattle.brace_plan.specs.Ruling.{ruled_by, rules_by, gifts_by}
use Rattle.brace_fold.specs.declared.outcome.Column.{Column}
use Rattle.brace_fold.specs.inner.Rulings.{AreRows, IsRun, IsRunIf, given_at, new_states, value_in, word_value}
use Rattle.brace_fold.proofs.Evals.{at-mapped}

-- a value, and no stop
abbrev pub fine : Value → Worth
fine v = Ok v

-- ---- the scopes of rows

module _ (seed tick : ℕ) (totals : Agent → List ℤ) (agents : List Agent) (d : Agent) where
  -- the scope of the agent of a lane's row
  abbrev pub row_scope : Lane → Scope
  row_scope lane = opening_scope seed tick [] (totals (get_or agents lane.this d)) (get_or agents lane.this d)

  module _ (frame : Frame) (are : AreRows seed tick totals agents frame) where
    in-row : (f : Agent → ℤ) (column : List ℤ) (p : ℕ) → column ≡ map f agents → p < length column → get_or column p (pos 0) ≡ f (get_or agents p d)
    in-row f column p so low = ap (λ c. get_or c p (pos 0)) so ∙ at-mapped f agents p d (subst (λ c. p < length c) so low)

    shows-each : (operand : Operand) (column : List ℤ) (lane : Lane) → column_of frame operand ≡ Some column → row_of operand lane < length column
        → get_or column (row_of operand lane) (pos 0) ≡ number_in (row_scope lane) operand
    shows-each (Word n) column lane e low = absurd (none-some column e)
    shows-each (Field This i) column lane e low = in-row (λ a. number (value_at a.states i)) column lane.this (are.states i column e) low
    shows-each (Field Outer i) column lane e low = absurd (none-some column (ap (λ l. option_copied (slice_get l i)) (sym are.outer) ∙ e))
    shows-each (Field Inner i) column lane e low = absurd (none-some column (ap (λ l. option_copied (slice_get l i)) (sym are.inner) ∙ e))
    shows-each (Total effect type site) column lane e low = in-row (λ a. get_or (totals a) effect (pos 0)) column lane.this (are.sums effect column e) low
    shows-each (Local n) column lane e low = absurd (none-some column (ap (λ l. option_copied (slice_get l n)) (sym are.locals) ∙ e))
    shows-each (Rand site) column lane e low = in-row (λ a. pos (draw_value seed tick a.id site)) column lane.this (are.draws site column e) low

    pub rows-show : Shows frame row_scope
    rows-show = record { each = shows-each }

-- ---- what code gives there

module _ (frame : Frame) (lanes : List Lane) (scope : Lane → Scope) (shows : Shows frame scope) where
  run-at : (code : Code) (column : Column) → IsRun frame lanes code column → (k : ℕ) (l : Lane) → k < length lanes
      → gives code (scope (get_or lanes k l)) ≡ fine (word_value column k)
  run-at code column is k l low =
      is.words.each scope shows k l low ∙ ap (λ (t : Ty). fine (typed t (get_or column.words k (pos 0)))) (sym is.given)

  pub rule-at : (rule : Option Code) (column : Option Column) → IsRunIf frame lanes rule column → (old : Value) (k : ℕ) (l : Lane) → k < length lanes
      → ruled_by (scope (get_or lanes k l)) rule old ≡ fine (value_in column k old)
  rule-at None None is old k l low = refl
  rule-at None (Some column) is old k l low = absurd (cc)
  rule-at (Some code) None is old k l low = absurd (cc)
  rule-at (Some code) (Some column) is old k l low = run-at code column is k l low

  pub rules-at : (rules : List (Option Code)) (columns : List (Option Column)) → AllZip (IsRunIf frame lanes) rules columns → (olds : List Value)
      (k : ℕ) (l : Lane) → k < length lanes → rules_by (scope (get_or lanes k l)) rules olds ≡ map fine (new_states columns k olds)
  rules-at [] [] are olds k l low = refl
  rules-at [] (column ∷ columns) are olds k l low = absurd are
  rules-at (rule ∷ rules) [] are olds k l low = absurd are
  rules-at (rule ∷ rules) (column ∷ columns) are [] k l low = refl
  rules-at (rule ∷ rules) (column ∷ columns) are (old ∷ olds) k l low =
      ap₂ (λ (w : Worth) ws. w ∷ ws) (rule-at rule column are.0 old k l low) (rules-at rules columns are.1 olds k l low)

  pub gifts-at : (gifts : List Code) (columns : List Column) → AllZip (IsRun frame lanes) gifts columns → (k : ℕ) (l : Lane) → k < length lanes
      → gifts_by (scope (get_or lanes k l)) gifts ≡ map fine (given_at columns k)
  gifts-at [] [] are k l low = refl
  gifts-at [] (column ∷ columns) are k l low = absurd are
  gifts-at (gift ∷ gifts) [] are k l low = absurd are
  gifts-at (gift ∷ gifts) (column ∷ columns) are k l low =
      ap₂ (λ (w : Worth) ws. w ∷ ws) (run-at gift column are.0 k l low) (gifts-at gifts columns are.1 k l low)
