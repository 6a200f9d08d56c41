use Rattle.std.proofs.Common.{◌≡◌, ◌∙◌, ◌<◌, ◌+◌, ◌++◌, ◌∷◌, [], ap, ap₂, append_assoc, pos, sym, arith, rules, to_z, of_z, w64, ℕ, ℤ, List, get_or, length, map}
use Rattle.std.specs.List.{range_with_len}
use Rattle.std.proofs.lemmas.Int.{to_z-of_z}
use Rattle.std.proofs.lemmas.List.FromFn.{map-range_with_len_more}
use Rattle.brace_fold.specs.inner.Rulings.{moved_at}
use Rattle.brace_fold.proofs.surviving.push_first_moved.Goals as goal

pub loop-row-preserved : goal.loop-row-preserved
loop-row-preserved c =
    let left : List ℤ = c.args.left.now.items in
    let row = c.loop-row.row in
    let at : ℕ → ℤ = moved_at c.args.class.now c.args.old.now c.args.new.now in
    let word : to_z w64 (of_z w64 c.moved_at.result) ≡ c.moved_at.result =
    search (rules, to_z-of_z) in
    let first : 0 + row ≡ row = omega arith in
    record {
      so_far = c.push_reserved.ensures.items
          ∙ ap₂ (λ (l : List ℤ) v. l ++ v ∷ []) c.loop-row.invariant.so_far
          (word ∙ c.moved_at.ensures)
          ∙ append_assoc left (map at (range_with_len 0 row)) (at row ∷ [])
          ∙ ap (λ l. left ++ l) (sym (map-range_with_len_more at 0 row row first));
      room = search rules;
    }
