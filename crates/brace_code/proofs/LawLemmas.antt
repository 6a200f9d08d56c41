-- What lanes have is what single runs give, and what the expression means.
use Rattle.std.proofs.Common.{◌≡◌, ◌∙◌, sym, ap, ℕ, ◌<◌, ℤ, pos, List, length, Ok, slice_index_or}
use Rattle.brace_draw.specs.declared.Drawer.{Drawer}
use Rattle.brace_model.specs.declared.job.Env.{Env}
use Rattle.brace_model.specs.declared.program.Expr.{Expr}
use Rattle.brace_model.specs.declared.program.Ty.{Ty}
use Rattle.brace_model.specs.Scopes.{scope_of}
use Rattle.brace_model.specs.Typed.{Fits}
use Rattle.brace_model.specs.Typing.{Names}
use Rattle.brace_model.specs.Value.{Scope, Worth, typed, value}
use Rattle.brace_code.specs.declared.code.Code.{Code}
use Rattle.brace_code.specs.declared.lane.Frame.{Frame}
use Rattle.brace_code.specs.declared.lane.Lane.{Lane}
use Rattle.brace_code.specs.Codes.{Computes, gives, type_given}
use Rattle.brace_code.specs.Lanes.{Gives, Shows}

module _ (code : Code) (frame : Frame) (lanes : List Lane) (words : List ℤ) (scope : Lane → Scope) (k : ℕ) (d : Lane) where
  -- the two contracts over one scope
  pub agreed : (env : Env) (drawer : Drawer) (single : Worth) → Gives code frame lanes words → Shows frame scope → k < length lanes
      → scope (slice_index_or lanes k d) ≡ scope_of env drawer → single ≡ gives code (scope_of env drawer)
      → single ≡ Ok (typed (type_given code) (slice_index_or words k (pos 0)))
  agreed env drawer single p shows h is run = run ∙ ap (gives code) (sym is) ∙ p.each scope shows k d h

  -- a lane's word, read as the expression's type
  pub meant : (names : Names) (e : Expr) (t : Ty) → Computes names e t code → Gives code frame lanes words → Shows frame scope → k < length lanes
      → Fits names (scope (slice_index_or lanes k d)) → value e (scope (slice_index_or lanes k d)) ≡ Ok (typed t (slice_index_or words k (pos 0)))
  meant names e t c p shows h fits = sym (c.value (scope (slice_index_or lanes k d)) fits) ∙ p.each scope shows k d h
      ∙ ap (λ (x : Ty). let w : Worth = Ok (typed x (slice_index_or words k (pos 0))) in w) c.type
