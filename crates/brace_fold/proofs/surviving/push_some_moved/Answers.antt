use Rattle.std.proofs.Common.{◌≡◌, ◌∙◌, ◌<◌, ◌++◌, ◌∷◌, [], ap, ap₂, append_assoc, sym, rules, to_z, of_z, w64, ℕ, ℤ, List, get_or, length, map, take}
use Rattle.std.proofs.lemmas.Int.{to_z-of_z}
use Rattle.std.proofs.lemmas.List.{map-append, take_more}
use Rattle.brace_fold.specs.inner.Rulings.{moved_at}
use Rattle.brace_fold.proofs.surviving.push_some_moved.Goals as goal

pub loop-row-preserved : goal.loop-row-preserved
loop-row-preserved c =
    let left : List ℤ = c.args.left.now.items in
    let rows = c.args.rows.now in
    let k = c.loop-row.row-index in
    let row = get_or rows k 0 in
    let at : ℕ → ℤ = moved_at c.args.class.now c.args.old.now c.args.new.now in
    let low : k < length rows = c.loop-row-test.true in
    let word : to_z w64 (of_z w64 c.moved_at.result) ≡ c.moved_at.result =
    search (rules, to_z-of_z) in
    record {
      so_far = c.push_reserved.ensures.items
          ∙ ap₂ (λ (l : List ℤ) v. l ++ v ∷ []) c.loop-row.invariant.so_far
          (word ∙ c.moved_at.ensures)
          ∙ append_assoc left (map at (take k rows)) (at row ∷ [])
          ∙ ap (λ l. left ++ l) (sym (ap (map at) (take_more rows k 0 low)
          ∙ map-append at (take k rows) (row ∷ [])));
      room = search rules;
    }
