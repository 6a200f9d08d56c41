use Rattle.std.proofs.Common.{◌∙◌, refl, sym, ap, List, slice_get}
use Rattle.std.proofs.lemmas.Option.{slice_get_read}
use Rattle.brace_model.specs.declared.program.Class.{Class}
use Rattle.brace_herd.proofs.near.axes_of.Goals as goal

pub returns-clause-axes : goal.returns-clause-axes
returns-clause-axes c =
    let number = c.args.number in
    let own = c.in-Some.own.now in
    record {
      own = own;
      has = ap (λ (l : List Class). slice_get l number) (sym c.as_slice.ensures)
          ∙ slice_get_read c.as_slice.result.now _ number own refl c.in-Some.ensures.lookup.3.0
          c.in-Some.ensures.lookup.1;
      xs = c.in_ok-xs.ensures.is;
      ys = c.in_ok-ys.ensures.is;
      xs_long = c.in_ok-xs.ensures.long;
      ys_long = c.in_ok-ys.ensures.long;
    }
