use Rattle.std.proofs.Common.{◌≡◌, ◌∙◌, ◌+◌, ◌++◌, ◌∷◌, [], ℕ, ap, ap₂, append_assoc, arith, get_or, map, refl, rules, sym}
use Rattle.std.specs.List.{range_with_len}
use Rattle.std.proofs.lemmas.List.FromFn.{fill_by_all, map-range_with_len_more}
use Rattle.brace_fold.proofs.surviving.push_first.Goals as goal

pub returns-then-column-count : goal.returns-then-column-count
returns-then-column-count g c =
    let column = c.args.column.now in
    let default = c.args.default in
    c.in_ok-extend_from_slice.ensures.items
    ∙ ap (λ l. c.args.left.now.items ++ l) (fill_by_all (λ row. get_or column row default) column
    c.args.count default (search rules) (λ k low. refl))

pub loop-row-preserved : goal.loop-row-preserved
loop-row-preserved g c =
    let left = c.args.left.now.items in
    let row = c.loop-row.row in
    let at = λ (r : ℕ). get_or c.args.column.now r c.args.default in
    let first : 0 + row ≡ row = omega arith in
    record {
      so_far = c.push_reserved.ensures.items
          ∙ ap₂ (λ l v. l ++ v ∷ []) c.loop-row.invariant.so_far c.item_or.ensures
          ∙ append_assoc left (map at (range_with_len 0 row)) (at row ∷ [])
          ∙ ap (λ l. left ++ l) (sym (map-range_with_len_more at 0 row row first));
      room = search rules;
    }
