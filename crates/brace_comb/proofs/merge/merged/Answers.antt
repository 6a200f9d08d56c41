use Rattle.std.proofs.Common.{◌∙◌, sym, subst, List, [], ◌∷◌, ◌++◌}
use Rattle.brace_comb.specs.declared.entry.Entry.{Entry}
use Rattle.brace_comb.proofs.Walks.{Walk, opened, all_behind, may_join, take_left, take_right, take_both}
use Rattle.brace_comb.proofs.merge.merged.Goals as goal

pub joined-requires : goal.joined-requires
joined-requires c =
    let s = c.in-Some-Some in
    let given = c.args.a.now ++ c.args.b.now in
    let w = opened given c.loop-x.merged.items c.loop-x.left.now c.loop-x.right.now s.after_x.now s.after_y.now s.x.now s.y.now c.loop-x.invariant s.ensures.cases.0 s.ensures'.cases.0 in
    may_join given c.loop-x.merged.items s.after_x.now s.after_y.now s.x.now s.y.now w (sym c.order.ensures ∙ c.in-Equal.is)

pub loop-x-preserved-in_ok-push-in-Less : goal.loop-x-preserved-in_ok-push-in-Less
loop-x-preserved-in_ok-push-in-Less c =
    let s = c.in-Some-Some in
    let given = c.args.a.now ++ c.args.b.now in
    let m = c.loop-x.merged.items in
    let w = opened given m c.loop-x.left.now c.loop-x.right.now s.after_x.now s.after_y.now s.x.now s.y.now c.loop-x.invariant s.ensures.cases.0 s.ensures'.cases.0 in
    let next = take_left given m s.after_x.now s.after_y.now s.x.now s.y.now w (sym c.order.ensures ∙ c.in-Less.is) in
    subst (λ (l : List Entry). Walk given l s.after_x.now c.loop-x.right.now) (sym c.in_ok-push-in-Less.ensures.items)
    (subst (λ (l : List Entry). Walk given (m ++ s.x.now ∷ []) s.after_x.now l) (sym s.ensures'.cases.0) next)

pub loop-x-preserved-in_ok-push-in-Greater : goal.loop-x-preserved-in_ok-push-in-Greater
loop-x-preserved-in_ok-push-in-Greater c =
    let s = c.in-Some-Some in
    let given = c.args.a.now ++ c.args.b.now in
    let m = c.loop-x.merged.items in
    let w = opened given m c.loop-x.left.now c.loop-x.right.now s.after_x.now s.after_y.now s.x.now s.y.now c.loop-x.invariant s.ensures.cases.0 s.ensures'.cases.0 in
    let behind = all_behind given m s.after_x.now s.after_y.now s.x.now s.y.now w (sym c.order.ensures ∙ c.in-Greater.is) in
    let next = take_right given m (s.x.now ∷ s.after_x.now) s.after_y.now s.y.now w behind in
    subst (λ (l : List Entry). Walk given l c.loop-x.left.now s.after_y.now) (sym c.in_ok-push-in-Greater.ensures.items)
    (subst (λ (l : List Entry). Walk given (m ++ s.y.now ∷ []) l s.after_y.now) (sym s.ensures.cases.0) next)

pub loop-x-preserved : goal.loop-x-preserved
loop-x-preserved c =
    let s = c.in-Some-Some in
    let given = c.args.a.now ++ c.args.b.now in
    let m = c.loop-x.merged.items in
    let w = opened given m c.loop-x.left.now c.loop-x.right.now s.after_x.now s.after_y.now s.x.now s.y.now c.loop-x.invariant s.ensures.cases.0 s.ensures'.cases.0 in
    let next = take_both given m s.after_x.now s.after_y.now s.x.now s.y.now c.joined.result w (sym c.order.ensures ∙ c.in-Equal.is)
    (sym c.joined.ensures.target, sym c.joined.ensures.field) c.joined.ensures.total in
    subst (λ (l : List Entry). Walk given l s.after_x.now s.after_y.now) (sym c.in_ok-push-in-Equal.ensures.items) next
